-- A log with one event more.
use Rattle.std.proofs.Common.{ℕ, zero, suc, Bool, true, false, ◌≡◌, ◌≢◌, ◌≤◌, ◌<◌, ◌+◌, ◌++◌, Option, Some, None, List, [], ◌∷◌, map, length, sum_by, slice_index_or, slice_set, refl, ap, sym, ◌∙◌, subst, arith, rules}
use Rattle.std.proofs.lemmas.List.Sums.{sum_by-cons}
use Rattle.std.proofs.lemmas.List.{get_or-map, append-nil, length-set, length-map}
use Rattle.word_model.specs.declared.records.Job.{Job}
use Rattle.word_model.specs.Jobs.{same_job}
use Rattle.word_model.specs.declared.events.Standing.{Standing}
use Rattle.word_model.specs.declared.events.BoardEvent.{BoardEvent}
use Rattle.word_model.specs.declared.events.BoardEvent.TheVariants.{Offer, Claim, Publish, Release, Take, Close}
use Rattle.board.specs.declared.slots.Slot.{Slot}
use Rattle.board.specs.Boards.{standing, standing_from, stands, hand, hand_from, holds, closed, is_close, or_else, offered, offer_of}
use Rattle.board.specs.Logs.{Fits, weight, in_hand, to_close, Distinct, IsOn}

standing_from-snoc : (job : Job) (was : Option Standing) (log : List BoardEvent) (e : BoardEvent) → standing_from job was (log ++ e ∷ []) ≡ stands job (standing_from job was log) e
standing_from-snoc job was [] e = refl
standing_from-snoc job was (x ∷ xs) e = standing_from-snoc job (stands job was x) xs e

pub standing-snoc : (log : List BoardEvent) (e : BoardEvent) (job : Job) → standing (log ++ e ∷ []) job ≡ stands job (standing log job) e
unfolding standing
standing-snoc log e job = standing_from-snoc job None log e

hand_from-snoc : (seat : ℕ) (was : Option Job) (log : List BoardEvent) (e : BoardEvent) → hand_from seat was (log ++ e ∷ []) ≡ holds seat (hand_from seat was log) e
hand_from-snoc seat was [] e = refl
hand_from-snoc seat was (x ∷ xs) e = hand_from-snoc seat (holds seat was x) xs e

pub hand-snoc : (log : List BoardEvent) (e : BoardEvent) (seat : ℕ) → hand (log ++ e ∷ []) seat ≡ holds seat (hand log seat) e
unfolding hand
hand-snoc log e seat = hand_from-snoc seat None log e

or_else-assoc : (a b c : Bool) → or_else a (or_else b c) ≡ or_else (or_else a b) c
or_else-assoc true b c = refl
or_else-assoc false b c = refl

pub or_else-false : (a : Bool) → or_else a false ≡ a
or_else-false true = refl
or_else-false false = refl

pub closed-snoc : (log : List BoardEvent) (e : BoardEvent) → closed (log ++ e ∷ []) ≡ or_else (closed log) (is_close e)
unfolding closed
closed-snoc [] e = or_else-false (is_close e)
closed-snoc (x ∷ xs) e = ap (or_else (is_close x)) (closed-snoc xs e) ∙ or_else-assoc (is_close x) (closed xs) (is_close e)

offer_of-append : (e : BoardEvent) (xs ys : List Job) → offer_of e (xs ++ ys) ≡ offer_of e xs ++ ys
offer_of-append (Offer j) xs ys = refl
offer_of-append (Claim s j) xs ys = refl
offer_of-append (Publish s j) xs ys = refl
offer_of-append (Release s j) xs ys = refl
offer_of-append (Take j) xs ys = refl
offer_of-append Close xs ys = refl

pub offered-snoc : (log : List BoardEvent) (e : BoardEvent) → offered (log ++ e ∷ []) ≡ offered log ++ offer_of e []
unfolding offered
offered-snoc [] e = refl
offered-snoc (x ∷ xs) e = ap (offer_of x) (offered-snoc xs e) ∙ offer_of-append x (offered xs) (offer_of e [])

-- a list with one item replaced by one that looks the same
pub map-set_same : {A B : Type 0} (f : A → B) (xs : List A) (k : ℕ) (y d : A) → k < length xs → f y ≡ f (slice_index_or xs k d) → map f (slice_set xs k y) ≡ map f xs
map-set_same f [] k y d inside same = refl
map-set_same f (x ∷ xs) zero y d inside same = ap (λ z. z ∷ map f xs) same
map-set_same f (x ∷ xs) (suc k) y d inside same = ap (λ zs. f x ∷ zs) (map-set_same f xs k y d (omega arith) same)

pub sum_by-set_at : {A : Type 0} (f : A → ℕ) (xs : List A) (k : ℕ) (y d : A) → k < length xs → sum_by f (slice_set xs k y) + f (slice_index_or xs k d) ≡ sum_by f xs + f y
sum_by-set_at f [] k y d inside = absurd (omega arith)
sum_by-set_at f (x ∷ xs) zero y d inside = omega (arith, sum_by-cons f x xs, sum_by-cons f y xs)
sum_by-set_at f (x ∷ xs) (suc k) y d inside = let h = sum_by-set_at f xs k y d (omega arith) in omega (arith, sum_by-cons f x xs, sum_by-cons f x (slice_set xs k y))

-- a fact of each item, after one is replaced
set_all : (Q : Slot → Type 0) (xs : List Slot) (k : ℕ) (y : Slot) → Q y → ((m : ℕ) (d : Slot) → m < length xs → m ≢ k → Q (slice_index_or xs m d)) → (m : ℕ) (d : Slot) → m < length (slice_set xs k y) → Q (slice_index_or (slice_set xs k y) m d)
set_all Q [] k y here rest m d below = absurd (omega arith)
set_all Q (x ∷ xs) zero y here rest zero d below = here
set_all Q (x ∷ xs) zero y here rest (suc m) d below = rest (suc m) d below (omega arith)
set_all Q (x ∷ xs) (suc k) y here rest zero d below = rest zero d (omega arith) (omega arith)
set_all Q (x ∷ xs) (suc k) y here rest (suc m) d below =
    set_all Q xs k y here (λ n d b ne. rest (suc n) d (omega arith) (λ e. ne (omega arith))) m d (omega arith)

apart : (js : List Job) (items : List Slot) → map (λ (i : Slot). i.job) items ≡ js → Distinct js → (k m : ℕ) (d e : Slot) → k < length items → m < length items → k ≢ m → same_job (slice_index_or items k d).job (slice_index_or items m e).job ≡ false
apart js items is distinct k m d e kin min ne =
    let job : Slot → Job = λ i. i.job in
    let a = get_or-map job items k d d.job kin in
    let b = get_or-map job items m e d.job min in
    let n : length js ≡ length items = search (rules, sym (ap length is), length-map items job) in
    subst (λ z. same_job (slice_index_or items k d).job z ≡ false) (ap (λ xs. slice_index_or xs m d.job) (sym is) ∙ b)
    (subst (λ z. same_job z (slice_index_or js m d.job) ≡ false) (ap (λ xs. slice_index_or xs k d.job) (sym is) ∙ a)
    (distinct k m d.job (omega arith) (omega arith) ne))

job-set : (items : List Slot) (k : ℕ) (i : Slot) (y : Slot) → k < length items → ((d : Slot) → slice_index_or items k d ≡ i) → y.job ≡ i.job → (m : ℕ) (d : Slot) → m < length items → (slice_index_or (slice_set items k y) m d).job ≡ (slice_index_or items m d).job
job-set items k i y inside here same m d below =
    let job : Slot → Job = λ z. z.job in
    let jobs = map-set_same job items k y i inside (same ∙ sym (ap job (here i))) in
    let long : length (slice_set items k y) ≡ length items = search (rules, length-set) in
    sym (get_or-map job (slice_set items k y) m d d.job (omega arith)) ∙ (ap (λ xs. slice_index_or xs m d.job) jobs ∙ get_or-map job items m d d.job below)

on-set : (items : List Slot) (k : ℕ) (i : Slot) (y : Slot) (j : Job) → k < length items → ((d : Slot) → slice_index_or items k d ≡ i) → y.job ≡ i.job → IsOn items j → IsOn (slice_set items k y) j
on-set items k i y j inside here same on =
    let job : Slot → Job = λ i. i.job in
    let jobs = map-set_same job items k y i inside (same ∙ sym (ap job (here i))) in
    let long : length (slice_set items k y) ≡ length items = search (rules, length-set) in (
      on.0,
      omega arith,
      (λ d.
          sym (get_or-map job (slice_set items k y) on.0 d d.job (omega arith))
          ∙ (ap (λ xs. slice_index_or xs on.0 d.job) jobs ∙ (get_or-map job items on.0 d d.job on.1 ∙ on.2 d))),
    )

pub fits_moved : (log : List BoardEvent) (len space : ℕ) (items : List Slot) (hands : List (Option Job)) (shut : Bool) (e : BoardEvent) (k : ℕ) (i : Slot) (s : Standing) (hands2 : List (Option Job))
    → Fits log len space items hands shut
    → k < length items
    → ((d : Slot) → slice_index_or items k d ≡ i)
    → stands i.job (Some i.standing) e ≡ Some s
    → ((j : Job) (w : Option Standing) → same_job i.job j ≡ false → stands j w e ≡ w)
    → offer_of e [] ≡ []
    → is_close e ≡ false
    → ((seat : ℕ) → slice_index_or hands2 seat None ≡ holds seat (hand log seat) e)
    → ((seat : ℕ) (j : Job) → holds seat (hand log seat) e ≡ Some j → IsOn items j)
    → (len + 1) + sum_by (λ (i : Slot). weight i.standing) (slice_set items k (record { job = i.job; standing = s })) + sum_by in_hand hands2 + to_close shut ≤ space
    → Fits (log ++ e ∷ []) (len + 1) space (slice_set items k (record { job = i.job; standing = s })) hands2 shut
fits_moved log len space items hands shut e k i s hands2 fits inside here stood others none unshut held on room =
    let job : Slot → Job = λ i. i.job in
    let y : Slot = record { job = i.job; standing = s } in
    let offers : offered (log ++ e ∷ []) ≡ offered log = offered-snoc log e ∙ (ap (λ z. offered log ++ z) none ∙ append-nil (offered log)) in
    record {
      stand = set_all (λ (x : Slot). standing (log ++ e ∷ []) x.job ≡ Some x.standing) items k y
          (standing-snoc log e i.job ∙ (ap (λ w. stands i.job w e) (subst (λ (z : Slot). standing log z.job ≡ Some z.standing) (here i) (fits.stand k i inside)) ∙ stood))
          (λ m d below ne.
          standing-snoc log e (slice_index_or items m d).job
          ∙ (others (slice_index_or items m d).job _
          (subst (λ (z : Slot). same_job z.job (slice_index_or items m d).job ≡ false) (here i) (apart (offered log) items fits.jobs fits.distinct k m i d inside below (λ q. ne (sym q))))
          ∙ fits.stand m d below));
      none = λ j all.
          let long : length (slice_set items k y) ≡ length items = search (rules, length-set) in
          let each : (m : ℕ) (d : Slot) → m < length items → same_job (slice_index_or items m d).job j ≡ false =
          λ m d below. subst (λ z. same_job z j ≡ false) (job-set items k i y inside here refl m d below) (all m d (omega arith)) in
          standing-snoc log e j ∙ (others j (standing log j) (subst (λ (z : Slot). same_job z.job j ≡ false) (here i) (each k i inside)) ∙ fits.none j each);
      jobs = map-set_same job items k y i inside (sym (ap job (here i))) ∙ (fits.jobs ∙ sym offers);
      distinct = subst Distinct (sym offers) fits.distinct;
      held = λ seat. held seat ∙ sym (hand-snoc log e seat);
      on = λ seat j is. on-set items k i y j inside here refl (on seat j (sym (hand-snoc log e seat) ∙ is));
      shut = fits.shut ∙ sym (closed-snoc log e ∙ (ap (or_else (closed log)) unshut ∙ or_else-false (closed log)));
      room = room;
    }
