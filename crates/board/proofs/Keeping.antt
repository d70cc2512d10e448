-- Payloads through the events.
use Rattle.std.proofs.Common.{inl, inr, map, replicate, ◌||◌, append_assoc, ℕ, zero, suc, Bool, true, false, ◌≡◌, ◌≢◌, ◌<◌, ◌++◌, Option, Some, None, IsSome, IfSome, List, [], ◌∷◌, length, slice_index_or, slice_set, refl, ap, sym, ◌∙◌, subst, arith, rules}
use Rattle.std.proofs.lemmas.Bool.{cases_lt}
use Rattle.std.proofs.lemmas.List.{append-nil, length-append, length-set, get_or-set_other}
use Rattle.word_model.specs.declared.records.Job.{Job}
use Rattle.monomials.specs.Polynomials.{Each}
use Rattle.word_model.specs.Jobs.{same_job, is_queued}
use Rattle.pair_strategy.specs.Queues.{IsSet}
use Rattle.word_model.proofs.JobLists.{same_job-itself, same_job-is}
use Rattle.word_model.specs.declared.events.Standing.{Standing}
use Rattle.word_model.specs.declared.events.Standing.TheVariants.{Offered, Held, Published, Released, Taken}
use Rattle.word_model.specs.declared.events.Claimed.{Claimed}
use Rattle.word_model.specs.declared.events.Claimed.TheVariants.{Closed, NoneNow, Job as Gets}
use Rattle.word_model.specs.declared.events.BoardEvent.{BoardEvent}
use Rattle.word_model.specs.declared.events.BoardEvent.TheVariants.{Offer, Claim, Publish, Release, Take, Close}
use Rattle.board.specs.Boards.{standing, offered, if_same, unless_taken, place_of}
use Rattle.board.specs.Boards.{claim_events, take_events, close_events, leave_events}
use Rattle.board.specs.Logs.{Distinct, IsAtPlace, Keeps}
use Rattle.board.proofs.Logs.{standing-snoc, offered-snoc}
use Rattle.board.proofs.Boards.{at-snoc, before-snoc}

held-not : (w : Option Standing) (s : ℕ) → unless_taken w (Held s) ≡ Some Published → w ≡ Some Published
held-not None s is = absurd (search rules)
held-not (Some Offered) s is = absurd (search rules)
held-not (Some (Held t)) s is = absurd (search rules)
held-not (Some Published) s is = refl
held-not (Some Released) s is = absurd (search rules)
held-not (Some Taken) s is = absurd (search rules)

claim-was : (b : Bool) (w : Option Standing) (s : ℕ) → if_same b (unless_taken w (Held s)) w ≡ Some Published → w ≡ Some Published
claim-was true w s is = held-not w s is
claim-was false w s is = is

-- a log whose jobs are the same, and whose published jobs were so before
pub keeps_on : (P : Type 0) (a b : List BoardEvent) (kept : List (Option P)) → offered b ≡ offered a → ((j : Job) → standing b j ≡ Some Published → standing a j ≡ Some Published) → Keeps P a kept → Keeps P b kept
keeps_on P a b kept jobs before k =
    record {
      long = k.long ∙ sym (ap length jobs);
      there = λ i j at is. k.there i j (subst (λ js. IsAtPlace js i j) jobs at) (before j is);
    }

pub keeps_claim : (P : Type 0) (a b : List BoardEvent) (kept : List (Option P)) (seat : ℕ) (r : Claimed) → b ≡ a ++ claim_events seat r → Keeps P a kept → Keeps P b kept
keeps_claim P a b kept seat Closed is k = let e = is ∙ append-nil a in keeps_on P a b kept (ap offered e) (λ j q. ap (λ l. standing l j) (sym e) ∙ q) k
keeps_claim P a b kept seat NoneNow is k = let e = is ∙ append-nil a in keeps_on P a b kept (ap offered e) (λ j q. ap (λ l. standing l j) (sym e) ∙ q) k
keeps_claim P a b kept seat (Gets i) is k =
    keeps_on P a b kept (ap offered is ∙ (offered-snoc a (Claim seat i) ∙ append-nil (offered a)))
    (λ j q. claim-was (same_job i j) (standing a j) seat (sym (standing-snoc a (Claim seat i) j) ∙ (ap (λ l. standing l j) (sym is) ∙ q))) k

take-was : (b : Bool) (w : Option Standing) → if_same b (Some Taken) w ≡ Some Published → (b ≡ false) × (w ≡ Some Published)
take-was true w is = absurd (search rules)
take-was false w is = (refl, is)

keeps_same : (P : Type 0) (a b : List BoardEvent) (kept : List (Option P)) → b ≡ a ++ [] → Keeps P a kept → Keeps P b kept
keeps_same P a b kept is k = let e = is ∙ append-nil a in keeps_on P a b kept (ap offered e) (λ j q. ap (λ l. standing l j) (sym e) ∙ q) k

keeps_take : (P : Type 0) (a b : List BoardEvent) (kept : List (Option P)) (i : Job) → b ≡ a ++ Take i ∷ [] → Keeps P a kept → Keeps P b kept
keeps_take P a b kept i is k =
    keeps_on P a b kept (ap offered is ∙ (offered-snoc a (Take i) ∙ append-nil (offered a)))
    (λ j q. (take-was (same_job i j) (standing a j) (sym (standing-snoc a (Take i) j) ∙ (ap (λ l. standing l j) (sym is) ∙ q))).1) k

pub keeps_taken : (P : Type 0) (a b : List BoardEvent) (kept : List (Option P)) (i : Job) (s : Option Standing) → b ≡ a ++ take_events i s → Keeps P a kept → Keeps P b kept
keeps_taken P a b kept i None is k = keeps_same P a b kept is k
keeps_taken P a b kept i (Some Offered) is k = keeps_take P a b kept i is k
keeps_taken P a b kept i (Some (Held t)) is k = keeps_take P a b kept i is k
keeps_taken P a b kept i (Some Published) is k = keeps_take P a b kept i is k
keeps_taken P a b kept i (Some Released) is k = keeps_take P a b kept i is k
keeps_taken P a b kept i (Some Taken) is k = keeps_same P a b kept is k

-- the payload of a published job is taken
pub keeps_emptied : (P : Type 0) (a b : List BoardEvent) (kept : List (Option P)) (i : Job) (k : ℕ) → b ≡ a ++ Take i ∷ [] → IsAtPlace (offered a) k i → Keeps P a kept → Keeps P b (slice_set kept k None)
keeps_emptied P a b kept i k is at keeps =
    let jobs : offered b ≡ offered a = ap offered is ∙ (offered-snoc a (Take i) ∙ append-nil (offered a)) in
    record {
      long = length-set kept k None ∙ (keeps.long ∙ sym (ap length jobs));
      there = λ m j there q.
          let was = take-was (same_job i j) (standing a j) (sym (standing-snoc a (Take i) j) ∙ (ap (λ l. standing l j) (sym is) ∙ q)) in
          let there_a = subst (λ js. IsAtPlace js m j) jobs there in
          let apart : m ≢ k =
          λ e. let same : j ≡ i = sym (there_a.1 i) ∙ (ap (λ z. slice_index_or (offered a) z i) e ∙ at.1 i) in
          let yes : same_job i j ≡ true = ap (same_job i) same ∙ same_job-itself i in
          let no = sym yes ∙ was.0 in absurd (search rules) in
          subst IsSome (sym (get_or-set_other kept k m None None apart)) (keeps.there m j there_a was.1);
    }

not_true : (b : Bool) → (b ≡ true → ⊥) → b ≡ false
not_true true ne = absurd (ne refl)
not_true false ne = refl

publish-was : (b : Bool) (w : Option Standing) → b ≡ false → if_same b (unless_taken w Published) w ≡ Some Published → w ≡ Some Published
publish-was b w off is = subst (λ c. if_same c (unless_taken w Published) w ≡ Some Published) off is

pub one_place : (js : List Job) (i : Job) (k m : ℕ) → Distinct js → IsAtPlace js k i → IsAtPlace js m i → m ≡ k
one_place js i k m distinct a b =
    let same : same_job (slice_index_or js k i) (slice_index_or js m i) ≡ true = rw (a.1 i, b.1 i) (same_job-itself i) in
    elim (cases_lt m k) [
      | inl lt ↦ absurd (let no = sym same ∙ distinct k m i a.0 b.0 (omega arith) in search rules)
      | inr ge ↦ elim (cases_lt k m) [
        | inl lt ↦ absurd (let no = sym same ∙ distinct k m i a.0 b.0 (omega arith) in search rules)
        | inr le ↦ omega arith
      ]
    ]

put_some : {P : Type 0} (kept : List (Option P)) (k m : ℕ) (p : P) → k < length kept → (m ≢ k → IsSome (slice_index_or kept m None)) → IsSome (slice_index_or (slice_set kept k (Some p)) m None)
put_some [] k m p inside other = absurd (omega arith)
put_some (x ∷ xs) zero zero p inside other = search rules
put_some (x ∷ xs) zero (suc m) p inside other = other (omega arith)
put_some (x ∷ xs) (suc k) zero p inside other = other (omega arith)
put_some (x ∷ xs) (suc k) (suc m) p inside other = put_some xs k m p (omega arith) (λ ne. other (λ e. ne (omega arith)))

pub keeps_published : (P : Type 0) (a b : List BoardEvent) (kept : List (Option P)) (i : Job) (seat k : ℕ) (p : P) → b ≡ a ++ Publish seat i ∷ [] → Distinct (offered a) → IsAtPlace (offered a) k i → Keeps P a kept → Keeps P b (slice_set kept k (Some p))
keeps_published P a b kept i seat k p is distinct at keeps =
    let jobs : offered b ≡ offered a = ap offered is ∙ (offered-snoc a (Publish seat i) ∙ append-nil (offered a)) in
    record {
      long = length-set kept k (Some p) ∙ (keeps.long ∙ sym (ap length jobs));
      there = λ m j there q.
          let there_a = subst (λ js. IsAtPlace js m j) jobs there in
          let l = keeps.long in
          put_some kept k m p (omega (arith, at.0))
          (λ ne.
          let off : same_job i j ≡ false = not_true (same_job i j) (λ t. ne (one_place (offered a) i k m distinct at (subst (λ z. IsAtPlace (offered a) m z) (sym (same_job-is i j t)) there_a))) in
          keeps.there m j there_a (publish-was (same_job i j) (standing a j) off (sym (standing-snoc a (Publish seat i) j) ∙ (ap (λ l. standing l j) (sym is) ∙ q))));
    }

pub keeps_put : (P : Type 0) (a b : List BoardEvent) (kept : List (Option P)) (seat k : ℕ) (p : P) (h : Option Job) → IsSome h → b ≡ a ++ leave_events true seat h
    → IfSome h (λ j. (standing a j ≢ Some Taken) × (k ≡ place_of (offered a) j) × IsAtPlace (offered a) k j) → Distinct (offered a) → Keeps P a kept → Keeps P b (slice_set kept k (Some p))
keeps_put P a b kept seat k p None some is place distinct keeps = absurd (let no : false ≡ true = some in cc)
keeps_put P a b kept seat k p (Some i) some is place distinct keeps = keeps_published P a b kept i seat k p is distinct place.2 keeps

released-was : (b : Bool) (w : Option Standing) → if_same b (unless_taken w Released) w ≡ Some Published → w ≡ Some Published
released-was true None is = cc
released-was true (Some Offered) is = cc
released-was true (Some (Held t)) is = cc
released-was true (Some Published) is = refl
released-was true (Some Released) is = cc
released-was true (Some Taken) is = cc
released-was false w is = is

-- a job is given back
pub keeps_released : (P : Type 0) (a b : List BoardEvent) (kept : List (Option P)) (seat : ℕ) (h : Option Job) → b ≡ a ++ leave_events false seat h → Keeps P a kept → Keeps P b kept
keeps_released P a b kept seat None is k = keeps_same P a b kept is k
keeps_released P a b kept seat (Some i) is k =
    keeps_on P a b kept (ap offered is ∙ (offered-snoc a (Release seat i) ∙ append-nil (offered a)))
    (λ j q. released-was (same_job i j) (standing a j) (sym (standing-snoc a (Release seat i) j) ∙ (ap (λ l. standing l j) (sym is) ∙ q))) k

gone-was : (b : Bool) (w : Option Standing) → (b ≡ true → w ≡ Some Taken) → if_same b (unless_taken w Published) w ≡ Some Published → w ≡ Some Published
gone-was true w taken is = let no : Some Taken ≡ Some Published = ap (λ s. unless_taken s Published) (sym (taken refl)) ∙ is in cc
gone-was false w taken is = is

-- a publication comes too late
pub keeps_gone : (P : Type 0) (a b : List BoardEvent) (kept : List (Option P)) (seat : ℕ) (h : Option Job) → b ≡ a ++ leave_events true seat h
    → IfSome h (λ j. standing a j ≡ Some Taken) → Keeps P a kept → Keeps P b kept
keeps_gone P a b kept seat None is taken k = keeps_same P a b kept is k
keeps_gone P a b kept seat (Some i) is taken k =
    keeps_on P a b kept (ap offered is ∙ (offered-snoc a (Publish seat i) ∙ append-nil (offered a)))
    (λ j q. gone-was (same_job i j) (standing a j) (λ t. ap (standing a) (sym (same_job-is i j t)) ∙ taken) (sym (standing-snoc a (Publish seat i) j) ∙ (ap (λ l. standing l j) (sym is) ∙ q))) k

pub keeps_closed : (P : Type 0) (a b : List BoardEvent) (kept : List (Option P)) (c : Bool) → b ≡ a ++ close_events c → Keeps P a kept → Keeps P b kept
keeps_closed P a b kept true is k = keeps_same P a b kept is k
keeps_closed P a b kept false is k =
    keeps_on P a b kept (ap offered is ∙ (offered-snoc a Close ∙ append-nil (offered a)))
    (λ j q. sym (standing-snoc a Close j) ∙ (ap (λ l. standing l j) (sym is) ∙ q)) k

offered-was : (b : Bool) (w : Option Standing) → (b ≡ true → w ≡ None) → if_same b (unless_taken w Offered) w ≡ Some Published → (b ≡ false) × (w ≡ Some Published)
offered-was true w none is = let no : Some Offered ≡ Some Published = ap (λ s. unless_taken s Offered) (sym (none refl)) ∙ is in cc
offered-was false w none is = (refl, is)

-- a job comes on the board
pub keeps_offered : (P : Type 0) (a b : List BoardEvent) (kept : List (Option P)) (i : Job) → standing a i ≡ None → b ≡ a ++ Offer i ∷ [] → Keeps P a kept → Keeps P b (kept ++ None ∷ [])
keeps_offered P a b kept i fresh is k =
    let jobs : offered b ≡ offered a ++ i ∷ [] = ap offered is ∙ offered-snoc a (Offer i) in
    record {
      long = length-append kept (None ∷ []) ∙ omega (arith, k.long, ap length jobs, length-append (offered a) (i ∷ []));
      there = λ m j at q.
          let was = offered-was (same_job i j) (standing a j) (λ t. ap (standing a) (sym (same_job-is i j t)) ∙ fresh) (sym (standing-snoc a (Offer i) j) ∙ (ap (λ l. standing l j) (sym is) ∙ q)) in
          let at' = subst (λ js. IsAtPlace js m j) jobs at in
          elim (cases_lt m (length (offered a))) [
            | inl below ↦ subst IsSome (sym (before-snoc kept None None m (omega (arith, k.long))))
                (k.there m j (below, λ d. sym (before-snoc (offered a) i d m below) ∙ at'.1 d) was.1)
            | inr out ↦
                let e : m ≡ length (offered a) = omega (arith, at'.0, length-append (offered a) (i ∷ [])) in
                let same : i ≡ j = sym (at-snoc (offered a) i i) ∙ ap (λ z. slice_index_or (offered a ++ i ∷ []) z i) (sym e) ∙ at'.1 i in
                let yes : same_job i j ≡ true = ap (same_job i) (sym same) ∙ same_job-itself i in
                absurd (let no : true ≡ false = sym yes ∙ was.0 in cc)
          ];
    }

-- the other jobs are still none of the board's
pub fresh-on : (a : List BoardEvent) (job : Job) (others : List Job) → is_queued others job ≡ false → Each (λ j. standing a j ≡ None) others
    → Each (λ j. standing (a ++ Offer job ∷ []) j ≡ None) others
fresh-on a job [] out h = tt
fresh-on a job (j ∷ others) out h =
    let both : (same_job job j ≡ false) × (is_queued others job ≡ false) = neither (same_job job j) (is_queued others job) out in
    (standing-snoc a (Offer job) j ∙ ap (λ t. if_same t (unless_taken (standing a j) Offered) (standing a j)) both.0 ∙ h.0, fresh-on a job others both.1 h.1)
  where
    neither : (x y : Bool) → (x || y) ≡ false → (x ≡ false) × (y ≡ false)
    neither true y e = cc
    neither false y e = (refl, e)

-- jobs come on the board, which differ and of which none was there
pub keeps_offers : (P : Type 0) (a b : List BoardEvent) (kept more : List (Option P)) (jobs : List Job) → Each (λ j. standing a j ≡ None) jobs → IsSet jobs
    → b ≡ a ++ map Offer jobs → more ≡ kept ++ replicate (length jobs) None → Keeps P a kept → Keeps P b more
keeps_offers P a b kept more [] fresh set is more_is k =
    subst (Keeps P b) (sym (more_is ∙ append-nil kept)) (keeps_same P a b kept is k)
keeps_offers P a b kept more (job ∷ jobs) fresh set is more_is k =
    keeps_offers P (a ++ Offer job ∷ []) b (kept ++ None ∷ []) more jobs
    (fresh-on a job jobs set.0 fresh.1) set.1
    (is ∙ sym (append_assoc a (Offer job ∷ []) (map Offer jobs)))
    (more_is ∙ sym (append_assoc kept (None ∷ []) (replicate (length jobs) None)))
    (keeps_offered P a (a ++ Offer job ∷ []) kept job fresh.0 refl k)

pub keeps_nothing : (P : Type 0) (a : List BoardEvent) (kept : List (Option P)) → a ≡ [] → kept ≡ [] → Keeps P a kept
unfolding offered
keeps_nothing P a kept none empty =
    subst (λ l. Keeps P l kept) (sym none) (subst (Keeps P []) (sym empty) record { long = refl; there = λ k j at is. absurd (omega (arith, at.0)) })
