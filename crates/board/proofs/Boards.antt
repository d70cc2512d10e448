-- What a claim answers, and what it leaves.
use Rattle.std.proofs.Common.{inl, inr, MatchOption, cond, ℕ, zero, suc, Bool, true, false, ◌==◌, ◌≡◌, ◌≢◌, ◌≤◌, ◌<◌, ◌+◌, ◌*◌, ◌++◌, Option, Some, None, List, [], ◌∷◌, map, length, sum_by, slice_index_or, slice_set, refl, ap, sym, ◌∙◌, subst, arith, rules}
use Rattle.std.proofs.lemmas.List.{get_or-set_same, get_or-set_other, get_or-map, append-nil, length-map}
use Rattle.std.specs.List.{find}
use Rattle.std.proofs.lemmas.Bool.Decides.{nat_tests}
use Rattle.word_model.specs.declared.records.Job.{Job}
use Rattle.word_model.specs.Jobs.{same_job}
use Rattle.word_model.proofs.JobLists.{same_job-is, same_job-itself}
use Rattle.word_model.specs.declared.events.Standing.{Standing}
use Rattle.word_model.specs.declared.events.Standing.TheVariants.{Offered, Held, Published, Released, Taken}
use Rattle.word_model.specs.declared.events.Claimed.TheVariants.{NoneNow, Job as Gets}
use Rattle.word_model.specs.declared.events.BoardEvent.{BoardEvent}
use Rattle.word_model.specs.declared.events.BoardEvent.TheVariants.{Offer, Claim, Take, Close}
use Rattle.board.specs.declared.slots.Slot.{Slot}
use Rattle.board.specs.Boards.{or_else, unless_taken, standing, stands, hand, holds, if_seat, closed, is_close, offered, offer_of, next, is_offered}
use Rattle.board.specs.Boards.{claimed, claim_of, leaving, left_standing, next_place, place_of, take_events}
use Rattle.board.specs.Logs.{Fits, weight, in_hand, to_close, IsOn, Distinct, IsAtPlace}
use Rattle.std.proofs.lemmas.List.Sums.{sum_by-cons, sum_by-append}
use Rattle.std.proofs.lemmas.Bool.{cases_lt}
use Rattle.std.proofs.lemmas.List.{length-append, map-append}
use Rattle.board.proofs.Logs.{fits_moved, sum_by-set_at, standing-snoc, hand-snoc, closed-snoc, offered-snoc, or_else-false}

is_offered-not : (s : Standing) → s ≢ Offered → is_offered (Some s) ≡ false
is_offered-not Offered ne = absurd (ne refl)
is_offered-not (Held seat) ne = refl
is_offered-not Published ne = refl
is_offered-not Released ne = refl
is_offered-not Taken ne = refl

find-none : (P : Job → Bool) (xs : List Slot) → ((m : ℕ) (d : Slot) → m < length xs → P (slice_index_or xs m d).job ≡ false) → find P (map (λ (i : Slot). i.job) xs) ≡ None
find-none P [] all = refl
find-none P (x ∷ xs) all = rw (all 0 x (omega arith)) (find-none P xs (λ m d below. all (suc m) d (omega arith)))

find-first : (P : Job → Bool) (xs : List Slot) (k : ℕ) (i : Slot) → k < length xs → ((d : Slot) → slice_index_or xs k d ≡ i) → P i.job ≡ true → ((m : ℕ) (d : Slot) → m < k → P (slice_index_or xs m d).job ≡ false) → find P (map (λ (i : Slot). i.job) xs) ≡ Some i.job
find-first P [] k i inside here good before = absurd (omega arith)
find-first P (x ∷ xs) zero i inside here good before = let e : x ≡ i = here x in subst (λ (z : Slot). cond (P z.job) (Some z.job) (find P (map (λ (i : Slot). i.job) xs)) ≡ Some i.job) (sym e) (rw good refl)
find-first P (x ∷ xs) (suc k) i inside here good before = rw (before 0 x (omega arith)) (find-first P xs k i (omega arith) here good (λ m d below. before (suc m) d (omega arith)))

pub claimed-none : (log : List BoardEvent) (len space : ℕ) (items : List Slot) (hands : List (Option Job)) (shut : Bool) → Fits log len space items hands shut → shut ≡ false → ((m : ℕ) (d : Slot) → m < length items → (slice_index_or items m d).standing ≢ Offered) → claimed log ≡ NoneNow
unfolding next
claimed-none log len space items hands shut fits not_shut none =
    let n : next log ≡ None =
    ap (λ js. find (λ j. is_offered (standing log j)) js) (sym fits.jobs)
    ∙ find-none (λ j. is_offered (standing log j)) items (λ m d below. ap is_offered (fits.stand m d below) ∙ is_offered-not _ (none m d below)) in
    ap (λ b. claim_of b (next log)) (sym fits.shut ∙ not_shut) ∙ ap (claim_of false) n

pub claimed-some : (log : List BoardEvent) (len space : ℕ) (items : List Slot) (hands : List (Option Job)) (shut : Bool) (k : ℕ) (i : Slot) → Fits log len space items hands shut → shut ≡ false → k < length items → ((d : Slot) → slice_index_or items k d ≡ i) → i.standing ≡ Offered → ((m : ℕ) (d : Slot) → m < k → (slice_index_or items m d).standing ≢ Offered) → claimed log ≡ Gets i.job
unfolding next
claimed-some log len space items hands shut k i fits not_shut inside here offer before =
    let n : next log ≡ Some i.job =
    ap (λ js. find (λ j. is_offered (standing log j)) js) (sym fits.jobs)
    ∙ find-first (λ j. is_offered (standing log j)) items k i inside here
    (ap is_offered (subst (λ (z : Slot). standing log z.job ≡ Some z.standing) (here i) (fits.stand k i inside) ∙ ap Some offer))
    (λ m d below. ap is_offered (fits.stand m d (omega arith)) ∙ is_offered-not _ (before m d below)) in
    ap (λ b. claim_of b (next log)) (sym fits.shut ∙ not_shut) ∙ ap (claim_of false) n

hands_at : (hands : List (Option Job)) (seat : ℕ) (v : Option Job) (old : ℕ → Option Job) → seat < length hands → ((s : ℕ) → slice_index_or hands s None ≡ old s) → (s : ℕ) (b : Bool) → (seat == s) ≡ b → slice_index_or (slice_set hands seat v) s None ≡ if_seat b v (old s)
hands_at hands seat v old inside are s true is =
    let e : seat ≡ s = grind (arith, nat_tests) in subst (λ z. slice_index_or (slice_set hands seat v) z None ≡ v) e (get_or-set_same hands seat v None inside)
hands_at hands seat v old inside are s false is =
    let e : s ≢ seat = grind (arith, nat_tests) in get_or-set_other hands seat s v None e ∙ are s

-- a hand set, and the hands of the log with one event more
hands_set : (hands : List (Option Job)) (seat : ℕ) (v : Option Job) (old : ℕ → Option Job) → seat < length hands → ((s : ℕ) → slice_index_or hands s None ≡ old s) → (s : ℕ) → slice_index_or (slice_set hands seat v) s None ≡ if_seat (seat == s) v (old s)
hands_set hands seat v old inside are s = hands_at hands seat v old inside are s (seat == s) refl

claim_on : (items : List Slot) (seat : ℕ) (i : Slot) (k s : ℕ) (j : Job) (was : Option Job) (b : Bool) → k < length items → ((d : Slot) → slice_index_or items k d ≡ i) → (was ≡ Some j → IsOn items j) → if_seat b (Some i.job) was ≡ Some j → IsOn items j
claim_on items seat i k s j was true inside here on is = (k, inside, λ d. ap (λ (z : Slot). z.job) (here d) ∙ search rules)
claim_on items seat i k s j was false inside here on is = on is

pub claim_fits : (log : List BoardEvent) (len space : ℕ) (items : List Slot) (hands : List (Option Job)) (shut : Bool) (k : ℕ) (i : Slot) (seat : ℕ) → Fits log len space items hands shut → k < length items → ((d : Slot) → slice_index_or items k d ≡ i) → i.standing ≡ Offered → seat < length hands → hand log seat ≡ None
    → Fits (log ++ Claim seat i.job ∷ []) (len + 1) space (slice_set items k (record { job = i.job; standing = Held seat })) (slice_set hands seat (Some i.job)) shut
claim_fits log len space items hands shut k i seat fits inside here offer exists empty =
    fits_moved log len space items hands shut (Claim seat i.job) k i (Held seat) (slice_set hands seat (Some i.job)) fits inside here
    (rw (same_job-itself i.job, offer) refl)
    (λ j w differs. rw differs refl)
    refl
    refl
    (hands_set hands seat (Some i.job) (hand log) exists fits.held)
    (λ s j. claim_on items seat i k s j (hand log s) (seat == s) inside here (fits.on s j))
    (let a = sum_by-set_at (λ (z : Slot). weight z.standing) items k (record { job = i.job; standing = Held seat }) i inside in
    let b = sum_by-set_at in_hand hands seat (Some i.job) None exists in
    let w : weight (slice_index_or items k i).standing ≡ 3 = ap (λ (z : Slot). weight z.standing) (here i) ∙ ap weight offer in
    let v : in_hand (slice_index_or hands seat None) ≡ 0 = ap in_hand (fits.held seat ∙ empty) in
    let r = fits.room in
    omega arith)

pub fits_grows : (log : List BoardEvent) (len more space room : ℕ) (items : List Slot) (hands : List (Option Job)) (shut : Bool) → Fits log len space items hands shut → more ≡ len → space ≤ room → Fits log more room items hands shut
fits_grows log len more space room items hands shut f same le =
    let r = f.room in record { stand = f.stand; none = f.none; jobs = f.jobs; distinct = f.distinct; held = f.held; on = f.on; shut = f.shut; room = omega arith }

pub any_default : {A : Type 0} (xs : List A) (k : ℕ) (d e : A) → k < length xs → slice_index_or xs k d ≡ slice_index_or xs k e
any_default [] k d e inside = absurd (omega arith)
any_default (x ∷ xs) zero d e inside = refl
any_default (x ∷ xs) (suc k) d e inside = any_default xs k d e (omega arith)

leave_on : (items : List Slot) (was : Option Job) (j : Job) (b : Bool) → (was ≡ Some j → IsOn items j) → if_seat b None was ≡ Some j → IsOn items j
leave_on items was j true on is = absurd (search rules)
leave_on items was j false on is = on is

left : (b : Bool) (s : Standing) (n : ℕ) → (Some s ≡ Some (left_standing b) → s ≡ left_standing b) → Some s ≡ Some (left_standing b) → 1 ≤ n → weight s ≤ n
left true s n inj is le = let e : s ≡ Published = inj is in rw e le
left false s n inj is le = let e : s ≡ Released = inj is in rw e le

weight-left : (b : Bool) (was s : Standing) → Some s ≡ unless_taken (Some was) (left_standing b) → weight s ≤ weight was
weight-left b Offered s is = left b s (weight Offered) (λ t. cc) is (omega arith)
weight-left b (Held seat) s is = left b s (weight (Held seat)) (λ t. cc) is (omega arith)
weight-left b Published s is = left b s (weight Published) (λ t. cc) is (omega arith)
weight-left b Released s is = left b s (weight Released) (λ t. cc) is (omega arith)
weight-left b Taken s is = let e : s ≡ Taken = cc in rw e (omega arith)

pub some_inside : {A : Type 0} (xs : List (Option A)) (k : ℕ) (x : A) → slice_index_or xs k None ≡ Some x → k < length xs
some_inside [] k x is = absurd (let e : None ≡ Some x = is in search rules)
some_inside (y ∷ ys) zero x is = omega arith
some_inside (y ∷ ys) (suc k) x is = let h = some_inside ys k x is in omega arith

leaves : (b : Bool) (seat : ℕ) (j : Job) (was s : Standing) → Some s ≡ unless_taken (Some was) (left_standing b) → stands j (Some was) (leaving b seat j) ≡ Some s
leaves true seat j was s is = rw (same_job-itself j) (sym is)
leaves false seat j was s is = rw (same_job-itself j) (sym is)

leaves_others : (b : Bool) (seat : ℕ) (i j : Job) (w : Option Standing) → same_job i j ≡ false → stands j w (leaving b seat i) ≡ w
leaves_others true seat i j w differs = rw differs refl
leaves_others false seat i j w differs = rw differs refl

leaves_hands : (b : Bool) (seat s : ℕ) (j : Job) (w : Option Job) → holds s w (leaving b seat j) ≡ if_seat (seat == s) None w
leaves_hands true seat s j w = refl
leaves_hands false seat s j w = refl

leaves_offers : (b : Bool) (seat : ℕ) (j : Job) → offer_of (leaving b seat j) [] ≡ []
leaves_offers true seat j = refl
leaves_offers false seat j = refl

leaves_open : (b : Bool) (seat : ℕ) (j : Job) → is_close (leaving b seat j) ≡ false
leaves_open true seat j = refl
leaves_open false seat j = refl

pub leave_fits : (log : List BoardEvent) (len space : ℕ) (items : List Slot) (hands : List (Option Job)) (shut b : Bool) (k : ℕ) (i : Slot) (s : Standing) (seat : ℕ) → Fits log len space items hands shut → k < length items → ((d : Slot) → slice_index_or items k d ≡ i) → Some s ≡ unless_taken (Some i.standing) (left_standing b) → slice_index_or hands seat None ≡ Some i.job
    → Fits (log ++ leaving b seat i.job ∷ []) (len + 1) space (slice_set items k (record { job = i.job; standing = s })) (slice_set hands seat None) shut
leave_fits log len space items hands shut b k i s seat fits inside here is mine =
    let exists = some_inside hands seat i.job mine in
    fits_moved log len space items hands shut (leaving b seat i.job) k i s (slice_set hands seat None) fits inside here
    (leaves b seat i.job i.standing s is)
    (leaves_others b seat i.job)
    (leaves_offers b seat i.job)
    (leaves_open b seat i.job)
    (λ t. hands_set hands seat None (hand log) exists fits.held t ∙ sym (leaves_hands b seat t i.job (hand log t)))
    (λ t j h. leave_on items (hand log t) j (seat == t) (fits.on t j) (sym (leaves_hands b seat t i.job (hand log t)) ∙ h))
    (let a = sum_by-set_at (λ (z : Slot). weight z.standing) items k (record { job = i.job; standing = s }) i inside in
    let b2 = sum_by-set_at in_hand hands seat None None exists in
    let w : weight (slice_index_or items k i).standing ≡ weight i.standing = ap (λ (z : Slot). weight z.standing) (here i) in
    let le = weight-left b i.standing s is in
    let v : in_hand (slice_index_or hands seat None) ≡ 1 = ap in_hand mine in
    let r = fits.room in
    omega arith)

weight-some : (was : Standing) → was ≢ Taken → 0 < weight was
weight-some Offered ne = omega arith
weight-some (Held seat) ne = omega arith
weight-some Published ne = omega arith
weight-some Released ne = omega arith
weight-some Taken ne = absurd (ne refl)

pub take_fits : (log : List BoardEvent) (len space : ℕ) (items : List Slot) (hands : List (Option Job)) (shut : Bool) (k : ℕ) (i : Slot) → Fits log len space items hands shut → k < length items → ((d : Slot) → slice_index_or items k d ≡ i) → i.standing ≢ Taken
    → Fits (log ++ Take i.job ∷ []) (len + 1) space (slice_set items k (record { job = i.job; standing = Taken })) hands shut
take_fits log len space items hands shut k i fits inside here ne =
    fits_moved log len space items hands shut (Take i.job) k i Taken hands fits inside here
    (rw (same_job-itself i.job) refl)
    (λ j w differs. rw differs refl)
    refl
    refl
    fits.held
    fits.on
    (let a = sum_by-set_at (λ (z : Slot). weight z.standing) items k (record { job = i.job; standing = Taken }) i inside in
    let w : weight (slice_index_or items k i).standing ≡ weight i.standing = ap (λ (z : Slot). weight z.standing) (here i) in
    let some = weight-some i.standing ne in
    let r = fits.room in
    omega arith)

-- a job that was not taken is taken
pub take_events-some : (job : Job) (s : Standing) → s ≢ Taken → take_events job (Some s) ≡ Take job ∷ []
take_events-some job Offered ne = refl
take_events-some job (Held seat) ne = refl
take_events-some job Published ne = refl
take_events-some job Released ne = refl
take_events-some job Taken ne = absurd (ne refl)

-- what a slot says of its job, in terms of the log
pub stands_at : (log : List BoardEvent) (len space : ℕ) (items : List Slot) (hands : List (Option Job)) (shut : Bool) (k : ℕ) (i : Slot) → Fits log len space items hands shut → k < length items → ((d : Slot) → slice_index_or items k d ≡ i) → (standing log i.job ≡ Some i.standing) × IsAtPlace (offered log) k i.job
stands_at log len space items hands shut k i f inside here =
    let job : Slot → Job = λ z. z.job in
    let n : length (offered log) ≡ length items = sym (ap length f.jobs) ∙ length-map items job in (
      subst (λ (z : Slot). standing log z.job ≡ Some z.standing) (here i) (f.stand k i inside),
      (omega arith, λ d. ap (λ js. slice_index_or js k d) (sym f.jobs) ∙ (get_or-map job items k i d inside ∙ ap job (here i))),
    )

-- the first place at which a list has a job
place-first : (items : List Slot) (j : Job) (k : ℕ) → k < length items → ((d : Slot) → same_job (slice_index_or items k d).job j ≡ true)
    → ((m : ℕ) (d : Slot) → m < k → same_job (slice_index_or items m d).job j ≡ false) → place_of (map (λ (i : Slot). i.job) items) j ≡ k
place-first [] j k inside here before = absurd (omega arith)
place-first (x ∷ xs) j zero inside here before = ap (λ b. next_place b (place_of (map (λ (i : Slot). i.job) xs) j)) (here x)
place-first (x ∷ xs) j (suc k) inside here before = ap (λ b. next_place b (place_of (map (λ (i : Slot). i.job) xs) j)) (before 0 x (omega arith)) ∙ ap suc (place-first xs j k (omega arith) here (λ m d below. before (suc m) d (omega arith)))

pub place_is : (log : List BoardEvent) (len space : ℕ) (items : List Slot) (hands : List (Option Job)) (shut : Bool) (j : Job) (k : ℕ) → Fits log len space items hands shut → k < length items
    → ((d : Slot) → same_job (slice_index_or items k d).job j ≡ true) → ((m : ℕ) (d : Slot) → m < k → same_job (slice_index_or items m d).job j ≡ false) → k ≡ place_of (offered log) j
place_is log len space items hands shut j k f inside here before = sym (ap (λ js. place_of js j) (sym f.jobs) ∙ place-first items j k inside here before)

-- the place of an answer about a slot
pub place_left : (log : List BoardEvent) (j : Job) (was : Standing) (k : ℕ) → standing log j ≡ Some was → k ≡ place_of (offered log) j → IsAtPlace (offered log) k j → (r : Option ℕ) → MatchOption r (was ≡ Taken) (λ m. (was ≢ Taken) × (m ≡ k))
    → MatchOption r (standing log j ≡ Some Taken) (λ k. (standing log j ≢ Some Taken) × (k ≡ place_of (offered log) j) × IsAtPlace (offered log) k j)
place_left log j was k is first at None gone = is ∙ ap Some gone
place_left log j was k is first at (Some m) here = ((λ t. here.0 (let e : Some was ≡ Some Taken = sym is ∙ t in cc)), here.1 ∙ first, subst (λ z. IsAtPlace (offered log) z j) (sym here.1) at)

pub place_taken : (log : List BoardEvent) (j : Job) (was : Standing) (k : ℕ) → standing log j ≡ Some was → k ≡ place_of (offered log) j → IsAtPlace (offered log) k j → (r : Option ℕ) → MatchOption r (was ≢ Published) (λ m. (was ≡ Published) × (m ≡ k))
    → MatchOption r (standing log j ≢ Some Published) (λ k. (standing log j ≡ Some Published) × (k ≡ place_of (offered log) j) × IsAtPlace (offered log) k j)
place_taken log j was k is first at None gone = λ t. gone (let e : Some was ≡ Some Published = sym is ∙ t in cc)
place_taken log j was k is first at (Some m) here = (is ∙ ap Some here.0, here.1 ∙ first, subst (λ z. IsAtPlace (offered log) z j) (sym here.1) at)

all-snoc : (Q : Slot → Type 0) (xs : List Slot) (y : Slot) → ((m : ℕ) (d : Slot) → m < length xs → Q (slice_index_or xs m d)) → Q y → (m : ℕ) (d : Slot) → m < length (xs ++ y ∷ []) → Q (slice_index_or (xs ++ y ∷ []) m d)
all-snoc Q [] y all last zero d below = last
all-snoc Q [] y all last (suc m) d below = absurd (omega arith)
all-snoc Q (x ∷ xs) y all last zero d below = all zero d (omega arith)
all-snoc Q (x ∷ xs) y all last (suc m) d below = all-snoc Q xs y (λ n e b. all (suc n) e (omega arith)) last m d (omega arith)

pub at-snoc : {A : Type 0} (xs : List A) (y d : A) → slice_index_or (xs ++ y ∷ []) (length xs) d ≡ y
at-snoc [] y d = refl
at-snoc (x ∷ xs) y d = at-snoc xs y d

pub before-snoc : {A : Type 0} (xs : List A) (y d : A) (m : ℕ) → m < length xs → slice_index_or (xs ++ y ∷ []) m d ≡ slice_index_or xs m d
before-snoc [] y d m below = absurd (omega arith)
before-snoc (x ∷ xs) y d zero below = refl
before-snoc (x ∷ xs) y d (suc m) below = before-snoc xs y d m (omega arith)

same_job-not : (a b : Job) → (a ≡ b → ⊥) → same_job a b ≡ false
same_job-not a b ne = let f : (r : Bool) → same_job a b ≡ r → same_job a b ≡ false = elim [ true ↦ λ is. absurd (ne (same_job-is a b is)) | false ↦ λ is. is ] in f (same_job a b) refl

distinct-snoc : (js : List Job) (j : Job) → Distinct js → ((m : ℕ) (d : Job) → m < length js → slice_index_or js m d ≢ j) → Distinct (js ++ j ∷ [])
distinct-snoc js j distinct new k m d kin min ne =
    let long : length (js ++ j ∷ []) ≡ length js + 1 = length-append js (j ∷ []) in
    elim (cases_lt k (length js)) [
      | inl k_in ↦ elim (cases_lt m (length js)) [
        | inl m_in ↦ rw (before-snoc js j d k k_in, before-snoc js j d m m_in) (distinct k m d k_in m_in ne)
        | inr m_out ↦
            let e : m ≡ length js = omega arith in
            subst (λ z. same_job (slice_index_or (js ++ j ∷ []) k d) (slice_index_or (js ++ j ∷ []) z d) ≡ false) (sym e) (rw (before-snoc js j d k k_in, at-snoc js j d) (same_job-not _ _ (new k d k_in)))
      ]
      | inr k_out ↦
          let e : k ≡ length js = omega arith in
          let m_in : m < length js = omega arith in
          subst (λ z. same_job (slice_index_or (js ++ j ∷ []) z d) (slice_index_or (js ++ j ∷ []) m d) ≡ false) (sym e) (rw (before-snoc js j d m m_in, at-snoc js j d) (same_job-not _ _ (λ q. new m d m_in (sym q))))
    ]

weight-le : (s : Standing) → weight s ≤ 3
weight-le Offered = omega arith
weight-le (Held seat) = omega arith
weight-le Published = omega arith
weight-le Released = omega arith
weight-le Taken = omega arith

in_hand-le : (h : Option Job) → in_hand h ≤ 1
in_hand-le None = omega arith
in_hand-le (Some j) = omega arith

weights-le : (items : List Slot) → sum_by (λ (z : Slot). weight z.standing) items ≤ 3 * length items
weights-le [] = omega arith
weights-le (x ∷ xs) = let h = weights-le xs in let w : weight x.standing ≤ 3 = weight-le x.standing in omega (arith, sum_by-cons (λ (z : Slot). weight z.standing) x xs)

hands-le : (hands : List (Option Job)) → sum_by in_hand hands ≤ length hands
hands-le [] = omega arith
hands-le (x ∷ xs) = let h = hands-le xs in let w : in_hand x ≤ 1 = in_hand-le x in omega (arith, sum_by-cons in_hand x xs)

pub offer_fits : (log : List BoardEvent) (len space room : ℕ) (items : List Slot) (hands : List (Option Job)) (j : Job) → Fits log len space items hands false → standing log j ≡ None → space + 4 ≤ room
    → Fits (log ++ Offer j ∷ []) (len + 1) room (items ++ (record { job = j; standing = Offered }) ∷ []) hands false
offer_fits log len space room items hands j fits fresh wide =
    let y : Slot = record { job = j; standing = Offered } in
    let job : Slot → Job = λ z. z.job in
    let e : BoardEvent = Offer j in
    let differs : (m : ℕ) (d : Slot) → m < length items → (slice_index_or items m d).job ≢ j =
    λ m d below q. let s = fits.stand m d below in let t : Some (slice_index_or items m d).standing ≡ None = sym s ∙ (ap (standing log) q ∙ fresh) in search rules in
    let n : length (offered log) ≡ length items = sym (ap length fits.jobs) ∙ length-map items job in
    record {
      stand = all-snoc (λ (x : Slot). standing (log ++ e ∷ []) x.job ≡ Some x.standing) items y
          (λ m d below. standing-snoc log e (slice_index_or items m d).job ∙ rw (same_job-not j (slice_index_or items m d).job (λ q. differs m d below (sym q))) (fits.stand m d below))
          (standing-snoc log e j ∙ rw (same_job-itself j, fresh) refl);
      none = λ i all.
          let first : (m : ℕ) (d : Slot) → m < length items → same_job (slice_index_or items m d).job i ≡ false =
          λ m d below. subst (λ (z : Slot). same_job z.job i ≡ false) (before-snoc items y d m below) (all m d (omega (arith, length-append items (y ∷ [])))) in
          let last : same_job j i ≡ false = subst (λ (z : Slot). same_job z.job i ≡ false) (at-snoc items y y) (all (length items) y (omega (arith, length-append items (y ∷ [])))) in
          standing-snoc log e i ∙ rw last (fits.none i first);
      jobs = map-append job items (y ∷ []) ∙ (ap (λ z. z ++ j ∷ []) fits.jobs ∙ sym (offered-snoc log e));
      distinct = subst Distinct (sym (offered-snoc log e))
          (distinct-snoc (offered log) j fits.distinct
          (λ m d below q. differs m (record { job = d; standing = Taken }) (omega arith)
          (sym (get_or-map job items m (record { job = d; standing = Taken }) d (omega arith)) ∙ (ap (λ js. slice_index_or js m d) fits.jobs ∙ q))));
      held = λ s. fits.held s ∙ sym (hand-snoc log e s);
      on = λ s i is. let o = fits.on s i (sym (hand-snoc log e s) ∙ is) in (o.0, omega (arith, length-append items (y ∷ []), o.1), λ d. ap job (before-snoc items y d o.0 o.1) ∙ o.2 d);
      shut = fits.shut ∙ sym (closed-snoc log e ∙ or_else-false (closed log));
      room = let r = fits.room in omega (arith, sum_by-append (λ (z : Slot). weight z.standing) items (y ∷ []), sum_by-cons (λ (z : Slot). weight z.standing) y []);
    }

-- room made anew
pub wide_fits : (log : List BoardEvent) (len space room : ℕ) (items : List Slot) (hands : List (Option Job)) (shut : Bool) → Fits log len space items hands shut
    → len + (3 * length items + length hands + 1) ≤ room → Fits log len room items hands shut
wide_fits log len space room items hands shut f wide = record {
  stand = f.stand;
  none = f.none;
  jobs = f.jobs;
  distinct = f.distinct;
  held = f.held;
  on = f.on;
  shut = f.shut;
  room = let c : to_close shut ≤ 1 = close-le shut in omega (arith, weights-le items, hands-le hands);
}
  where
    close-le : (b : Bool) → to_close b ≤ 1
    close-le true = omega arith
    close-le false = omega arith

pub empty_fits : (space : ℕ) (hands : List (Option Job)) → 1 ≤ space → ((s : ℕ) → slice_index_or hands s None ≡ None) → sum_by in_hand hands ≡ 0 → Fits [] 0 space [] hands false
unfolding standing hand closed offered
empty_fits space hands wide none sum =
    record {
      stand = λ m d below. absurd (omega arith);
      none = λ j all. refl;
      jobs = refl;
      distinct = λ k m d kin min ne. absurd (omega arith);
      held = none;
      on = λ s j is. absurd (search rules);
      shut = refl;
      room = omega arith;
    }

pub close_fits : (log : List BoardEvent) (len space : ℕ) (items : List Slot) (hands : List (Option Job)) → Fits log len space items hands false → Fits (log ++ Close ∷ []) (len + 1) space items hands true
close_fits log len space items hands f =
    let o : offered (log ++ Close ∷ []) ≡ offered log = offered-snoc log Close ∙ append-nil (offered log) in
    let r = f.room in
    record {
      stand = λ m d below. standing-snoc log Close (slice_index_or items m d).job ∙ f.stand m d below;
      none = λ j all. standing-snoc log Close j ∙ f.none j all;
      jobs = f.jobs ∙ sym o;
      distinct = subst Distinct (sym o) f.distinct;
      held = λ s. f.held s ∙ sym (hand-snoc log Close s);
      on = λ s j is. f.on s j (sym (hand-snoc log Close s) ∙ is);
      shut = sym (closed-snoc log Close ∙ ap (λ b. or_else b true) (sym f.shut));
      room = omega arith;
    }

or_else-true : (b : Bool) → or_else b true ≡ true
or_else-true true = refl
or_else-true false = refl

pub closed-after : (log : List BoardEvent) → closed (log ++ Close ∷ []) ≡ true
closed-after log = closed-snoc log Close ∙ or_else-true (closed log)
