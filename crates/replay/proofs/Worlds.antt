-- Every list of events keeps what every world has.
use Rattle.std.proofs.Common.{◌≡◌, ℕ, zero, suc, ◌-◌, ◌≤◌, min, nat_le, nat_lt, ◌||◌, ◌&&◌, ◌==◌, not, ◌⊎◌, inl, inr, Bool, true, false, List, [], ◌∷◌, ◌++◌, length, map, slice_set, slice_index_or, Option, Some, None, IfSome, if◌then◌else◌, refl, sym, ap, ◌∙◌, subst, arith, length-append, append-nil}
use Rattle.std.proofs.lemmas.Bool.Decides.{nat_tests}
use Rattle.std.proofs.lemmas.List.{map-append}
use Rattle.std.specs.List.{list_any, find}
use Rattle.monomials.specs.Polynomials.{Polynomial, Each, IsPolynomial}
use Rattle.word_model.specs.Words.{Algebra}
use Rattle.word_model.specs.Conditions.{IsGAlgebra}
use Rattle.word_model.specs.Jobs.{same_job, is_queued, without, least_job}
use Rattle.word_model.specs.Machine.{State, Turn, On, Over, step, first_state, machine, run_within, IsState}
use Rattle.word_model.specs.declared.records.Job.{Job}
use Rattle.word_model.specs.declared.records.Mode.{Mode}
use Rattle.word_model.specs.declared.records.Outcome.{Outcome}
use Rattle.monomials.proofs.Keys.{Each-append, Each-weaker, Each-set}
use Rattle.word_model.proofs.Steps.{Each-filter, IsTreated-longer, first_state-is, step-keeps, least_job-one}
use Rattle.word_model.proofs.JobLists.{same_job-is, same_job-itself, queued-first, queued-second}
use Rattle.word_model.proofs.Letters.{Each-both}
use Rattle.pair_strategy.proofs.Least.{Each-queued}
use Rattle.run_records.specs.Ahead.{ReducedStart}
use Rattle.word_model.specs.declared.events.Place.{Place}
use Rattle.word_model.specs.declared.events.Standing.{Standing}
use Rattle.word_model.specs.declared.events.Standing.TheVariants.{Offered, Held, Published, Released, Taken}
use Rattle.word_model.specs.declared.events.BoardEvent.{BoardEvent}
use Rattle.word_model.specs.declared.events.BoardEvent.TheVariants.{Offer, Claim, Publish, Release, Take, Close}
use Rattle.word_model.specs.declared.events.Claimed.{Claimed}
use Rattle.word_model.specs.declared.events.Claimed.TheVariants.{Closed, NoneNow, Job as Gets}
use Rattle.word_model.specs.declared.events.Event.{Event}
use Rattle.word_model.specs.declared.events.Event.TheVariants.{Offer as Offers, Claim as Claims, Fill as Fills, Publish as Publishes, Release as Releases, Take as Takes, Commit as Commits, Close as Closes}
use Rattle.word_model.specs.declared.events.Hand.{Hand}
use Rattle.board.specs.Boards.{standing, closed, next, is_offered, offered, claimed, claim_of, place_of, close_events, hand, if_seat}
use Rattle.commit_core.specs.Named.{IsNamed}
use Rattle.commit_core.specs.Specs.{IsGood}
use Rattle.replay.specs.Worlds.{CoreWorld, first_world, last_seat, hand_at, held_job, with_hand, without_hand, is_off, off_board, offer_first, offers, claim_job, claim_empty, claims, is_place, same_place, fills, spec_of, keep, publish_spec, publish_hand, release_hand, take_job, take_first, commits, after_event, after_events, WasQueued, IsSound}
use Rattle.replay.specs.Fit.{IsFit}
use Rattle.commit_core.proofs.Bringing.{queued-append}
use Rattle.commit_core.proofs.GoodSpecs.{good-longer, spec_over-good}
use Rattle.commit_core.proofs.Growing.{Grew, step-grew, run-part}
use Rattle.commit_core.specs.Leads.{IsPart, job_of}
use Rattle.board.proofs.Logs.{hand-snoc, offered-snoc}
use Rattle.commit_core.proofs.Turning.{run-first, run-goes_on, run-ends}

-- ---- jobs that are queued, or were

queued_either : (jobs others : List Job) (job : Job) → is_queued (jobs ++ others) job ≡ true → (is_queued jobs job ≡ true) ⊎ (is_queued others job ≡ true)
queued_either jobs others job e = turn (is_queued jobs job) (is_queued others job) (sym (queued-append jobs others job) ∙ e)
  where
    turn : (a b : Bool) → (a || b) ≡ true → (a ≡ true) ⊎ (b ≡ true)
    turn true b e = inl refl
    turn false b e = inr e

stays : (a job : Job) (queue : List Job) → is_queued queue job ≡ true → (is_queued (without a queue) job ≡ true) ⊎ (a ≡ job)
stays a job [] e = cc
stays a job (x ∷ queue) e = by (same_job a x) refl (same_job job x) refl (stays a job queue)
  where
    rest : same_job job x ≡ false → is_queued queue job ≡ true
    rest g = sym (ap (λ b. b || is_queued queue job) g) ∙ e

    by : (t : Bool) → same_job a x ≡ t → (u : Bool) → same_job job x ≡ u → (is_queued queue job ≡ true → (is_queued (without a queue) job ≡ true) ⊎ (a ≡ job))
        → (is_queued (without a (x ∷ queue)) job ≡ true) ⊎ (a ≡ job)
    by true f true g ih = inr (same_job-is a x f ∙ sym (same_job-is job x g))
    by true f false g ih = elim (ih (rest g)) [ inl h ↦ inl (rw f h) | inr h ↦ inr h ]
    by false f true g ih = inl (rw (f, g) refl)
    by false f false g ih = elim (ih (rest g)) [ inl h ↦ inl (rw (f, g) h) | inr h ↦ inr h ]

-- it stays so
pub was_queued-on : (s t : State) (job : Job) → Grew s t → WasQueued s job → WasQueued t job
was_queued-on s t job grew was =
    let done : map job_of t.entries ≡ map job_of s.entries ++ job_of grew.entry ∷ [] = ap (map job_of) grew.entries ∙ map-append job_of s.entries (grew.entry ∷ []) in
    elim (queued_either s.queue (map job_of s.entries) job was) [
      | inl queued ↦ elim (stays (job_of grew.entry) job s.queue queued) [
        | inl left ↦ queued-first t.queue (map job_of t.entries) job
            (subst (λ q. is_queued q job ≡ true) (sym grew.queue) (queued-first (without (job_of grew.entry) s.queue) grew.jobs job left))
        | inr same ↦ queued-second t.queue (map job_of t.entries) job
            (subst (λ d. is_queued d job ≡ true) (sym done) (queued-second (map job_of s.entries) (job_of grew.entry ∷ []) job
            (subst (λ j. is_queued (job_of grew.entry ∷ []) j ≡ true) same (rw (same_job-itself (job_of grew.entry)) refl))))
      ]
      | inr treated ↦ queued-second t.queue (map job_of t.entries) job
          (subst (λ d. is_queued d job ≡ true) (sym done) (queued-first (map job_of s.entries) (job_of grew.entry ∷ []) job treated))
    ]

-- ---- Specs and jobs when the basis grows

module _ (A : Algebra) (gens : List Polynomial) (s t : State) (grew : Grew s t) where
  grown : (P : List Polynomial → Type 0) → ((g : Polynomial) → P s.basis → P (s.basis ++ g ∷ [])) → P s.basis → P t.basis
  grown P longer here = elim grew.basis [
    | inl same ↦ subst P (sym same) here
    | inr more ↦ subst P (sym more.1) (longer more.0 here)
  ]

  pub good-on : (spec : ReducedStart) → IsGood A gens s.basis spec → IsGood A gens t.basis spec
  good-on spec = grown (λ G. IsGood A gens G spec) (λ g. good-longer A gens s.basis g spec)

  pub maybe_good-on : (spec : Option ReducedStart) → IfSome spec (IsGood A gens s.basis) → IfSome spec (IsGood A gens t.basis)
  maybe_good-on None h = tt
  maybe_good-on (Some spec) h = good-on spec h

  pub named-on : (job : Job) → IsNamed A gens s.basis job → IsNamed A gens t.basis job
  named-on job = grown (λ G. IsNamed A gens G job) (λ g. IsTreated-longer gens s.basis g A.order.vars job)

  pub prefix-on : (m : ℕ) → m ≤ length s.basis → m ≤ length t.basis
  prefix-on m = grown (λ G. m ≤ length G) (λ g h. omega (arith, h, length-append s.basis (g ∷ [])))

-- ---- lists

Each-index : {X : Type 0} (P : X → Type 0) (xs : List X) (k : ℕ) (d : X) → Each P xs → P d → P (slice_index_or xs k d)
Each-index P [] k d h none = none
Each-index P (x ∷ xs) zero d h none = h.0
Each-index P (x ∷ xs) (suc k) d h none = Each-index P xs k d h.1 none

Each-find : {X : Type 0} (P : X → Type 0) (test : X → Bool) (xs : List X) (x : X) → Each P xs → find test xs ≡ Some x → P x
Each-find P test [] x h e = cc
Each-find P test (y ∷ ys) x h e = by (test y) e (Each-find P test ys x h.1)
  where
    by : (t : Bool) → (if t then Some y else find test ys) ≡ Some x → (find test ys ≡ Some x → P x) → P x
    by true e behind = let same : y ≡ x = cc in subst P same h.0
    by false e behind = behind e

-- ---- hands

pub hand_at-is : (P : Hand → Type 0) (hands : List Hand) (seat : ℕ) (h : Hand) → Each P hands → hand_at hands seat ≡ Some h → (h.seat ≡ seat) × P h
hand_at-is P [] seat h all e = cc
hand_at-is P (x ∷ hands) seat h all e = by (x.seat == seat) refl e (hand_at-is P hands seat h all.1)
  where
    by : (t : Bool) → (x.seat == seat) ≡ t → (if t then Some x else hand_at hands seat) ≡ Some h → (hand_at hands seat ≡ Some h → (h.seat ≡ seat) × P h) → (h.seat ≡ seat) × P h
    by true f e behind = let same : x ≡ h = cc in subst (λ (y : Hand). (y.seat ≡ seat) × P y) same (grind (arith, nat_tests), all.0)
    by false f e behind = behind e

hand_at-with : (a : Hand) (hands : List Hand) (s : ℕ) → hand_at hands a.seat ≡ None → hand_at (with_hand a hands) s ≡ (if a.seat == s then Some a else hand_at hands s)
hand_at-with a [] s e = refl
hand_at-with a (x ∷ hands) s e = by (nat_lt a.seat x.seat) (x.seat == a.seat) refl e (hand_at-with a hands s)
  where
    swap : (x.seat == a.seat) ≡ false → (t u : Bool) → (a.seat == s) ≡ t → (x.seat == s) ≡ u
        → ◌≡◌ {A = Option Hand} (if u then Some x else (if t then Some a else hand_at hands s)) (if t then Some a else (if u then Some x else hand_at hands s))
    swap ne true true f g = let no : (x.seat == a.seat) ≡ true = grind (arith, nat_tests) in cc
    swap ne true false f g = refl
    swap ne false u f g = refl

    by : (t u : Bool) → (x.seat == a.seat) ≡ u → (if u then Some x else hand_at hands a.seat) ≡ None
        → (hand_at hands a.seat ≡ None → hand_at (with_hand a hands) s ≡ (if a.seat == s then Some a else hand_at hands s))
        → hand_at (if t then a ∷ x ∷ hands else x ∷ with_hand a hands) s ≡ (if a.seat == s then Some a else (if x.seat == s then Some x else hand_at hands s))
    by t true f e behind = cc
    by true false f e behind = refl
    by false false f e behind = ap (λ (o : Option Hand). if x.seat == s then Some x else o) (behind e) ∙ swap f (a.seat == s) (x.seat == s) refl refl

hand_at-without : (seat : ℕ) (hands : List Hand) (s : ℕ) → hand_at (without_hand seat hands) s ≡ (if seat == s then None else hand_at hands s)
hand_at-without seat [] s = by (seat == s)
  where
    by : (t : Bool) → ◌≡◌ {A = Option Hand} None (if t then None else None)
    by true = refl
    by false = refl
hand_at-without seat (x ∷ hands) s = by (x.seat == seat) refl (seat == s) refl (x.seat == s) refl (hand_at-without seat hands s)
  where
    by : (t : Bool) → (x.seat == seat) ≡ t → (u : Bool) → (seat == s) ≡ u → (v : Bool) → (x.seat == s) ≡ v
        → hand_at (without_hand seat hands) s ≡ (if seat == s then None else hand_at hands s)
        → hand_at (without_hand seat (x ∷ hands)) s ≡ (if seat == s then None else (if x.seat == s then Some x else hand_at hands s))
    by true f true g v k ih = rw f (ih ∙ rw g refl)
    by true f false g true k ih = let no : (seat == s) ≡ true = grind (arith, nat_tests) in cc
    by true f false g false k ih = rw f (ih ∙ rw (g, k) refl)
    by false f true g true k ih = let no : (x.seat == seat) ≡ true = grind (arith, nat_tests) in cc
    by false f true g false k ih = rw (f, k) (ih ∙ rw g refl)
    by false f false g true k ih = rw (f, k, g) refl
    by false f false g false k ih = rw (f, k) (ih ∙ rw g refl)

Each-with : (P : Hand → Type 0) (a : Hand) (hands : List Hand) → P a → Each P hands → Each P (with_hand a hands)
Each-with P a [] here h = (here, tt)
Each-with P a (x ∷ hands) here h = by (nat_lt a.seat x.seat) (Each-with P a hands here h.1)
  where
    by : (t : Bool) → Each P (with_hand a hands) → Each P (if t then a ∷ x ∷ hands else x ∷ with_hand a hands)
    by true ih = (here, h)
    by false ih = (h.0, ih)

-- ---- each event keeps what every world has

module _ (A : Algebra) (ok : IsGAlgebra A) (gens : List Polynomial) (gens_are : Each (IsPolynomial A.p A.order) gens) (mode : Mode) (budget : ℕ) where
  abbrev Fit : CoreWorld → Type 0
  Fit w = IsFit A gens mode budget w

  pub fit-first : Fit (first_world gens)
  unfolding hand offered
  fit-first = record {
    state = first_state-is A ok gens gens_are;
    run = run-first A gens mode budget (first_state gens) refl;
    over = tt;
    published = tt;
    taken = tt;
    queued = tt;
    hands = λ seat. refl;
    held = tt;
  }

  -- a sound world
  pub fit-sound : (w : CoreWorld) → Fit w → IsSound A gens mode budget w
  fit-sound w fit = record {
    part =
        let part : IsPart w.state.entries w.state.basis None (machine A gens mode budget) = subst (λ j. IsPart w.state.entries w.state.basis None j) (sym fit.run) (run-part A gens mode budget (suc (budget - length w.state.entries)) w.state) in
        record { entries = part.entries; basis = part.basis; over = ended w.outcome fit.over };
    published = fit.published;
    taken = fit.taken;
    queued = Each-weaker _ _ (λ j h. h.0) (offered w.log) fit.queued;
    hands = fit.hands;
    seats = Each-weaker _ _ (λ h is. is.0) w.hands fit.held;
    prefixes = Each-weaker _ _ (λ h is. is.1) w.hands fit.held;
  }
    where
      ended : (o : Option Outcome) → IfSome o (λ x. step A gens mode budget w.state ≡ Over x)
          → IfSome o (λ x. machine A gens mode budget ≡ record { entries = w.state.entries; basis = w.state.basis; outcome = x })
      ended None h = tt
      ended (Some x) h = fit.run ∙ run-ends A gens mode budget (budget - length w.state.entries) w.state x h

  -- ---- an event of the board alone

  -- the log has an event more that offers nothing; hands, payloads and what was taken go with it
  moved : (w w' : CoreWorld) → Fit w → w'.state ≡ w.state → w'.outcome ≡ w.outcome
      → Each (λ o. IfSome o (IsGood A gens w.state.basis)) w'.kept → IfSome w'.taken (IsGood A gens w.state.basis)
      → Each (λ j. WasQueued w.state j × IsNamed A gens w.state.basis j) (offered w'.log)
      → ((seat : ℕ) → hand w'.log seat ≡ held_job (hand_at w'.hands seat))
      → Each (λ h. (h.seat ≤ last_seat) × (h.prefix ≤ length w.state.basis) × IsNamed A gens w.state.basis h.job) w'.hands → Fit w'
  moved w w' fit state outcome published taken queued hands held = record {
    state = subst (IsState A gens) (sym state) fit.state;
    run = fit.run ∙ ap (λ (s : State). run_within A gens mode budget (suc (budget - length s.entries)) s) (sym state);
    over = subst (λ (s : State). IfSome w'.outcome (λ o. step A gens mode budget s ≡ Over o)) (sym state)
        (subst (λ (x : Option Outcome). IfSome x (λ o. step A gens mode budget w.state ≡ Over o)) (sym outcome) fit.over);
    published = subst (λ (s : State). Each (λ o. IfSome o (IsGood A gens s.basis)) w'.kept) (sym state) published;
    taken = subst (λ (s : State). IfSome w'.taken (IsGood A gens s.basis)) (sym state) taken;
    queued = subst (λ (s : State). Each (λ j. WasQueued s j × IsNamed A gens s.basis j) (offered w'.log)) (sym state) queued;
    hands = hands;
    held = subst (λ (s : State). Each (λ h. (h.seat ≤ last_seat) × (h.prefix ≤ length s.basis) × IsNamed A gens s.basis h.job) w'.hands) (sym state) held;
  }

  fit-offers : (w : CoreWorld) → Fit w → Fit (offers A gens w)
  fit-offers w fit = by (closed w.log) (off_board w.log w.state.queue) left
    where
      P : Job → Type 0
      P j = WasQueued w.state j × IsNamed A gens w.state.basis j

      left : Each P (off_board w.log w.state.queue)
      left = Each-filter P (λ j. is_off (standing w.log j)) w.state.queue
          (Each-both _ _ _ (λ job waits is. (waits, is)) w.state.queue (Each-queued (WasQueued w.state) w.state.queue (λ j e. queued-first w.state.queue (map job_of w.state.entries) j e)) fit.state.jobs)

      by : (shut : Bool) (jobs : List Job) → Each P jobs → Fit (if shut then w else offer_first A gens w jobs)
      by true jobs h = fit
      by false [] h = fit
      by false (job ∷ jobs) h =
          let first : Job = least_job A gens w.state.basis w.state.sugars job jobs in
          let named : P first = least_job-one P A gens w.state.basis w.state.sugars job jobs h.0 h.1 in
          moved w (offer_first A gens w (job ∷ jobs)) fit refl refl
          (Each-append _ w.kept (None ∷ []) fit.published (tt, tt))
          fit.taken
          (subst (Each P) (sym (offered-snoc w.log (Offer first))) (Each-append P (offered w.log) (first ∷ []) fit.queued (named, tt)))
          (λ seat. hand-snoc w.log (Offer first) seat ∙ fit.hands seat)
          fit.held

  next-named : (w : CoreWorld) (job : Job) → Fit w → claimed w.log ≡ Gets job → IsNamed A gens w.state.basis job
  unfolding next
  next-named w job fit e = by (closed w.log) (next w.log) refl e
    where
      by : (shut : Bool) (o : Option Job) → next w.log ≡ o → claim_of shut o ≡ Gets job → IsNamed A gens w.state.basis job
      by true o is e = cc
      by false None is e = cc
      by false (Some j) is e =
          let same : j ≡ job = cc in
          subst (IsNamed A gens w.state.basis) same (Each-find _ (λ x. is_offered (standing w.log x)) (offered w.log) j fit.queued is).1

  fit-claims : (w : CoreWorld) (seat prefix : ℕ) → Fit w → Fit (claims w seat prefix)
  fit-claims w seat prefix fit = by (nat_le seat last_seat) refl (hand_at w.hands seat) refl
    where
      new : Job → Hand
      new job = record { seat = seat; job = job; prefix = min prefix (length w.state.basis) }

      same : (job : Job) (t : Bool) (o : Option Hand) → if_seat t (Some job) (held_job o) ≡ held_job (if t then Some (new job) else o)
      same job true o = refl
      same job false o = refl

      job-claims : seat ≤ last_seat → hand_at w.hands seat ≡ None → (c : Claimed) → claimed w.log ≡ c → Fit (claim_job w seat prefix c)
      job-claims le none Closed is = fit
      job-claims le none NoneNow is = fit
      job-claims le none (Gets job) is =
          let within : min prefix (length w.state.basis) ≤ length w.state.basis = omega arith in
          moved w (claim_job w seat prefix (Gets job)) fit refl refl fit.published fit.taken
          (subst (Each _) (sym (offered-snoc w.log (Claim seat job) ∙ append-nil (offered w.log))) fit.queued)
          (λ s. hand-snoc w.log (Claim seat job) s ∙ ap (if_seat (seat == s) (Some job)) (fit.hands s) ∙ same job (seat == s) (hand_at w.hands s) ∙ ap held_job (sym (hand_at-with (new job) w.hands s none)))
          (Each-with _ (new job) w.hands (le, within, next-named w job fit is) fit.held)

      by : (t : Bool) → nat_le seat last_seat ≡ t → (o : Option Hand) → hand_at w.hands seat ≡ o → Fit (if t then claim_empty w seat prefix o else w)
      by false low o none = fit
      by true low (Some h) none = fit
      by true low None none = job-claims (grind (arith, nat_tests)) none (claimed w.log) refl

  fit-fills : (w : CoreWorld) (place : Place) → Fit w → Fit (fills A w place)
  fit-fills w place fit = by (is_place A.order.vars place && not (list_any (same_place place) w.filled))
    where
      by : (t : Bool) → Fit (if t then record w { filled = w.filled ++ place ∷ [] } else w)
      by false = fit
      by true = moved w (record w { filled = w.filled ++ place ∷ [] }) fit refl refl fit.published fit.taken fit.queued fit.hands fit.held

  -- a hand is emptied
  fit-leaves : (w : CoreWorld) (h : Hand) (spec : Option ReducedStart) → Fit w → hand_at w.hands h.seat ≡ Some h → IfSome spec (IsGood A gens w.state.basis) → Fit (publish_spec w h spec)
  fit-leaves w h spec fit at good = by spec good
    where
      same : (t : Bool) (o : Option Hand) → if_seat t None (held_job o) ≡ held_job (if t then None else o)
      same true o = refl
      same false o = refl

      held : Each (λ x. (x.seat ≤ last_seat) × (x.prefix ≤ length w.state.basis) × IsNamed A gens w.state.basis x.job) (without_hand h.seat w.hands)
      held = Each-filter _ (λ x. not (x.seat == h.seat)) w.hands fit.held

      kept : (spec : ReducedStart) (o : Option Standing) → IsGood A gens w.state.basis spec → Each (λ o. IfSome o (IsGood A gens w.state.basis)) (keep w h.job spec o)
      kept spec None good = Each-set _ w.kept (place_of (offered w.log) h.job) (Some spec) fit.published good
      kept spec (Some Offered) good = Each-set _ w.kept (place_of (offered w.log) h.job) (Some spec) fit.published good
      kept spec (Some (Held seat)) good = Each-set _ w.kept (place_of (offered w.log) h.job) (Some spec) fit.published good
      kept spec (Some Published) good = Each-set _ w.kept (place_of (offered w.log) h.job) (Some spec) fit.published good
      kept spec (Some Released) good = Each-set _ w.kept (place_of (offered w.log) h.job) (Some spec) fit.published good
      kept spec (Some Taken) good = fit.published

      by : (spec : Option ReducedStart) → IfSome spec (IsGood A gens w.state.basis) → Fit (publish_spec w h spec)
      by None good =
          moved w (publish_spec w h None) fit refl refl fit.published fit.taken
          (subst (Each _) (sym (offered-snoc w.log (Release h.seat h.job) ∙ append-nil (offered w.log))) fit.queued)
          (λ s. hand-snoc w.log (Release h.seat h.job) s ∙ ap (if_seat (h.seat == s) None) (fit.hands s) ∙ same (h.seat == s) (hand_at w.hands s) ∙ ap held_job (sym (hand_at-without h.seat w.hands s)))
          held
      by (Some spec) good =
          moved w (publish_spec w h (Some spec)) fit refl refl (kept spec (standing w.log h.job) good) fit.taken
          (subst (Each _) (sym (offered-snoc w.log (Publish h.seat h.job) ∙ append-nil (offered w.log))) fit.queued)
          (λ s. hand-snoc w.log (Publish h.seat h.job) s ∙ ap (if_seat (h.seat == s) None) (fit.hands s) ∙ same (h.seat == s) (hand_at w.hands s) ∙ ap held_job (sym (hand_at-without h.seat w.hands s)))
          held

  abbrev IsHeld : CoreWorld → Hand → Type 0
  IsHeld w h = (h.seat ≤ last_seat) × (h.prefix ≤ length w.state.basis) × IsNamed A gens w.state.basis h.job

  pub fit-hand : (w : CoreWorld) (seat : ℕ) (h : Hand) → Fit w → hand_at w.hands seat ≡ Some h → (h.seat ≡ seat) × IsHeld w h
  fit-hand w seat h fit e = hand_at-is (IsHeld w) w.hands seat h fit.held e

  fit-publishes : (w : CoreWorld) (seat : ℕ) → Fit w → Fit (publish_hand A gens w (hand_at w.hands seat))
  fit-publishes w seat fit = by (hand_at w.hands seat) refl
    where
      by : (o : Option Hand) → hand_at w.hands seat ≡ o → Fit (publish_hand A gens w o)
      by None e = fit
      by (Some h) e =
          let is = fit-hand w seat h fit e in
          fit-leaves w h (spec_of A gens w.state.basis h) fit (ap (hand_at w.hands) is.0 ∙ e) (spec_over-good A gens w.state.basis h.prefix h.job is.1.2 is.1.1)

  fit-releases : (w : CoreWorld) (seat : ℕ) → Fit w → Fit (release_hand w (hand_at w.hands seat))
  fit-releases w seat fit = by (hand_at w.hands seat) refl
    where
      by : (o : Option Hand) → hand_at w.hands seat ≡ o → Fit (release_hand w o)
      by None e = fit
      by (Some h) e = let is = fit-hand w seat h fit e in fit-leaves w h None fit (ap (hand_at w.hands) is.0 ∙ e) tt

  fit-takes : (w : CoreWorld) → Fit w → Fit (take_first A gens w w.state.queue)
  fit-takes w fit = by_queue w.state.queue
    where
      log_more : (job : Job) (kept : List (Option ReducedStart)) (taken : Option ReducedStart) → Each (λ o. IfSome o (IsGood A gens w.state.basis)) kept → IfSome taken (IsGood A gens w.state.basis)
          → Fit (record w { log = w.log ++ Take job ∷ []; kept = kept; taken = taken })
      log_more job kept taken kept_are taken_is =
          moved w (record w { log = w.log ++ Take job ∷ []; kept = kept; taken = taken }) fit refl refl kept_are taken_is
          (subst (Each _) (sym (offered-snoc w.log (Take job) ∙ append-nil (offered w.log))) fit.queued)
          (λ s. hand-snoc w.log (Take job) s ∙ fit.hands s)
          fit.held

      by : (job : Job) (o : Option Standing) → Fit (take_job w job o)
      by job None = fit
      by job (Some Offered) = log_more job w.kept w.taken fit.published fit.taken
      by job (Some (Held seat)) = log_more job w.kept w.taken fit.published fit.taken
      by job (Some Released) = log_more job w.kept w.taken fit.published fit.taken
      by job (Some Published) =
          let k : ℕ = place_of (offered w.log) job in
          log_more job (slice_set w.kept k None) (slice_index_or w.kept k None) (Each-set _ w.kept k None fit.published tt)
          (Each-index (λ o. IfSome o (IsGood A gens w.state.basis)) w.kept k None fit.published tt)
      by job (Some Taken) = fit

      by_queue : (queue : List Job) → Fit (take_first A gens w queue)
      by_queue [] = fit
      by_queue (job ∷ jobs) = by (least_job A gens w.state.basis w.state.sugars job jobs) (standing w.log (least_job A gens w.state.basis w.state.sugars job jobs))

  fit-commits : (w : CoreWorld) → Fit w → Fit (commits w (step A gens mode budget w.state) w.outcome)
  fit-commits w fit = by w.outcome refl (step A gens mode budget w.state) refl
    where
      by : (o : Option Outcome) → w.outcome ≡ o → (turn : Turn) → step A gens mode budget w.state ≡ turn → Fit (commits w turn o)
      by (Some outcome) e turn is = moved w (record w { taken = None }) fit refl refl fit.published tt fit.queued fit.hands fit.held
      by None e (Over outcome) is = record {
        state = fit.state;
        run = fit.run;
        over = is;
        published = fit.published;
        taken = tt;
        queued = fit.queued;
        hands = fit.hands;
        held = fit.held;
      }
      by None e (On s) is =
          let grew : Grew w.state s = step-grew A gens mode budget w.state s is in
          record {
            state = step-keeps A ok gens gens_are mode budget w.state s fit.state is;
            run = fit.run ∙ run-goes_on A gens mode budget w.state s is;
            over = subst (λ (x : Option Outcome). IfSome x (λ o. step A gens mode budget s ≡ Over o)) (sym e) tt;
            published = Each-weaker _ _ (maybe_good-on A gens w.state s grew) w.kept fit.published;
            taken = tt;
            queued = Each-weaker _ _ (λ j h. (was_queued-on w.state s j grew h.0, named-on A gens w.state s grew j h.1)) (offered w.log) fit.queued;
            hands = fit.hands;
            held = Each-weaker _ _ (λ h is. (is.0, prefix-on A gens w.state s grew h.prefix is.1, named-on A gens w.state s grew h.job is.2)) w.hands fit.held;
          }

  fit-closes : (w : CoreWorld) → Fit w → Fit (record w { log = w.log ++ close_events (closed w.log) })
  fit-closes w fit = by (closed w.log)
    where
      by : (shut : Bool) → Fit (record w { log = w.log ++ close_events shut })
      by true = subst (λ (log : List BoardEvent). Fit (record w { log = log })) (sym (append-nil w.log)) fit
      by false =
          moved w (record w { log = w.log ++ Close ∷ [] }) fit refl refl fit.published fit.taken
          (subst (Each _) (sym (offered-snoc w.log Close ∙ append-nil (offered w.log))) fit.queued)
          (λ s. hand-snoc w.log Close s ∙ fit.hands s)
          fit.held

  -- each event keeps it
  pub fit-act : (w : CoreWorld) (e : Event) → Fit w → Fit (after_event A gens mode budget w e)
  fit-act w Offers fit = fit-offers w fit
  fit-act w (Claims seat prefix) fit = fit-claims w seat prefix fit
  fit-act w (Fills place) fit = fit-fills w place fit
  fit-act w (Publishes seat) fit = fit-publishes w seat fit
  fit-act w (Releases seat) fit = fit-releases w seat fit
  fit-act w Takes fit = fit-takes w fit
  fit-act w Commits fit = fit-commits w fit
  fit-act w Closes fit = fit-closes w fit

  -- and so does every list of events
  pub fit-acts : (w : CoreWorld) (events : List Event) → Fit w → Fit (after_events A gens mode budget w events)
  fit-acts w [] fit = fit
  fit-acts w (e ∷ events) fit = fit-acts (after_event A gens mode budget w e) events (fit-act w e fit)
