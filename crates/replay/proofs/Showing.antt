-- Each event of the program's world is that of the definitions.
use Rattle.std.proofs.Common.{◌≡◌, ◌≢◌, inl, inr, ℕ, zero, suc, ◌+◌, ◌<◌, ◌≤◌, ◌||◌, ◌&&◌, min, Bool, true, false, List, [], ◌∷◌, ◌++◌, length, map, take, drop, slice_set, slice_index_or, Option, Some, None, IsSome, IfSome, MatchOption, Ok, if◌then◌else◌, refl, sym, ap, ◌∙◌, subst, arith, append-nil}
use Rattle.std.proofs.lemmas.Bool.{cases_lt}
use Rattle.std.proofs.lemmas.List.{length-take}
use Rattle.std.specs.List.{filter, find}
use Rattle.monomials.specs.Orders.{RowOrder}
use Rattle.monomials.specs.Polynomials.{Polynomial, Each, IsPolynomial}
use Rattle.std.specs.declared.cmp.Ordering.TheVariants.{Less}
use Rattle.word_model.specs.Words.{Algebra}
use Rattle.word_model.specs.Jobs.{same_job, is_queued, least_job}
use Rattle.word_model.specs.Machine.{State}
use Rattle.word_model.specs.declared.records.Job.{Job}
use Rattle.word_model.specs.declared.records.Outcome.{Outcome}
use Rattle.run_records.specs.Ahead.{ReducedStart}
use Rattle.pair_strategy.specs.Queues.{keyed_cmp, jobs_in, IsRising, HasKey, SameJobs}
use Rattle.pair_strategy.specs.declared.keys.Keyed.{Keyed}
use Rattle.word_model.specs.declared.events.Standing.{Standing}
use Rattle.word_model.specs.declared.events.Standing.TheVariants.{Offered, Held, Published, Released, Taken}
use Rattle.word_model.specs.declared.events.BoardEvent.{BoardEvent}
use Rattle.word_model.specs.declared.events.BoardEvent.TheVariants.{Offer, Publish, Release}
use Rattle.word_model.specs.declared.events.Hand.{Hand}
use Rattle.commit_core.specs.declared.lead.Committed.{Committed}
use Rattle.commit_core.specs.declared.lead.Committed.TheVariants.{Added, Over as Ended}
use Rattle.board.specs.Boards.{BoardValue, standing, closed, hand, offered, take_events, leave_events, place_of}
use Rattle.commit_core.specs.Named.{IsNamed}
use Rattle.replay.specs.Fit.{IsFit}
use Rattle.word_model.specs.declared.records.Mode.{Mode}
use Rattle.replay.proofs.Worlds.{hand_at-is, fit-act, fit-first}
use Rattle.commit_core.proofs.Running.{same-run}
use Rattle.word_model.specs.declared.events.Event.{Event}
use Rattle.word_model.specs.Conditions.{IsGAlgebra}
use Rattle.commit_core.specs.Leads.{Run, IsLead, IsAt, IsSameRun, IsCommit, run_step, keyed}
use Rattle.replay.specs.Worlds.{CoreWorld, first_world, after_event, after_events, take_job, take_first, after_commit, commits, offer_first, off_board, offers, is_off, without_hand, hand_at, held_job, last_seat, keep, publish_spec, publish_hand, release_hand, spec_of}
use Rattle.replay.specs.Shown.{WorldValue, Shows, Fits}
use Rattle.word_model.proofs.JobLists.{same_job-is}
use Rattle.commit_core.proofs.Leading.{Leading, no_jobs, some_jobs}

-- ---- takes

module _ (world : WorldValue) (board : BoardValue ReducedStart) (w : CoreWorld) (r taken : Option ReducedStart) (first : Job) (shows : Shows world w)
    (log : board.log ≡ world.board.log ++ take_events first (standing world.board.log first)) (seats : board.seats ≡ world.board.seats)
    (none : standing world.board.log first ≢ Some Published → (r ≡ None) × (board.kept ≡ world.board.kept))
    (some : standing world.board.log first ≡ Some Published → IsSome r × (r ≡ slice_index_or world.board.kept (place_of (offered world.board.log) first) None)
    × (board.kept ≡ slice_set world.board.kept (place_of (offered world.board.log) first) None))
    (is_taken : MatchOption r (taken ≡ world.taken) (λ s. taken ≡ Some s)) where
  abbrev taken_world : WorldValue
  taken_world = record { lead = world.lead; board = board; hands = world.hands; filled = world.filled; taken = taken }

  here : standing world.board.log first ≡ standing w.log first
  here = ap (λ l. standing l first) shows.log

  log_is : board.log ≡ w.log ++ take_events first (standing w.log first)
  log_is = log ∙ ap (λ l. l ++ take_events first (standing l first)) shows.log

  quiet : (o : Option Standing) → standing w.log first ≡ o → o ≢ Some Published → Shows taken_world (record w { log = w.log ++ take_events first o })
  quiet o e other =
      let quiet_is = none (λ p. other (sym e ∙ sym here ∙ p)) in record {
        lead = shows.lead;
        outcome = shows.outcome;
        log = log_is ∙ ap (λ s. w.log ++ take_events first s) e;
        seats = seats ∙ shows.seats;
        kept = quiet_is.1 ∙ shows.kept;
        hands = shows.hands;
        filled = shows.filled;
        taken = subst (λ x. MatchOption x (taken ≡ world.taken) (λ s. taken ≡ Some s)) quiet_is.0 is_taken ∙ shows.taken;
      }

  still : (o : Option Standing) → standing w.log first ≡ o → o ≢ Some Published → take_events first o ≡ [] → Shows taken_world w
  still o e other nothing =
      subst (λ l. Shows taken_world (record w { log = l })) (ap (λ x. w.log ++ x) nothing ∙ append-nil w.log) (quiet o e other)

  same_taken : (x : Option ReducedStart) → IsSome x → MatchOption x (taken ≡ world.taken) (λ s. taken ≡ Some s) → taken ≡ x
  same_taken None there is = absurd (let e : false ≡ true = there in cc)
  same_taken (Some s) there is = is

  take-job : (o : Option Standing) → standing w.log first ≡ o → Shows taken_world (take_job w first o)
  take-job None e = still None e (λ p. cc) refl
  take-job (Some Offered) e = quiet (Some Offered) e (λ p. cc)
  take-job (Some (Held seat)) e = quiet (Some (Held seat)) e (λ p. cc)
  take-job (Some Released) e = quiet (Some Released) e (λ p. cc)
  take-job (Some Taken) e = still (Some Taken) e (λ p. cc) refl
  take-job (Some Published) e =
      let published = some (here ∙ e) in
      let at : place_of (offered world.board.log) first ≡ place_of (offered w.log) first = ap (λ l. place_of (offered l) first) shows.log in record {
        lead = shows.lead;
        outcome = shows.outcome;
        log = log_is ∙ ap (λ s. w.log ++ take_events first s) e;
        seats = seats ∙ shows.seats;
        kept = published.2 ∙ (λ i. slice_set (shows.kept i) (at i) None);
        hands = shows.hands;
        filled = shows.filled;
        taken = same_taken r published.0 is_taken ∙ published.1 ∙ (λ i. slice_index_or (shows.kept i) (at i) None);
      }

  pub take-shown : (a : Job) (queue : List Job) → w.state.queue ≡ a ∷ queue → least_job world.lead.algebra world.lead.generators w.state.basis w.state.sugars a queue ≡ first
      → Shows taken_world (take_first world.lead.algebra world.lead.generators w w.state.queue)
  take-shown a queue q least =
      subst (λ xs. Shows taken_world (take_first world.lead.algebra world.lead.generators w xs)) (sym q)
      (subst (λ j. Shows taken_world (take_job w j (standing w.log j))) (sym least) (take-job (standing w.log first) refl))

-- without a job nothing is taken
pub take-nothing : (world : WorldValue) (w : CoreWorld) → Shows world w → world.lead.jobs ≡ [] → Shows world (take_first world.lead.algebra world.lead.generators w w.state.queue)
take-nothing world w shows none =
    subst (λ xs. Shows world (take_first world.lead.algebra world.lead.generators w xs)) (sym (no_jobs w.state.queue (subst (SameJobs w.state.queue) none shows.lead.jobs))) shows

-- the first job of the lead is the least of the state's queue
pub take-first : (world : WorldValue) (board : BoardValue ReducedStart) (w : CoreWorld) (r taken : Option ReducedStart) (first : Job) (rest : List Job) → Shows world w → world.lead.jobs ≡ first ∷ rest
    → ((s : State) (a : Job) (queue : List Job) → IsAt world.lead s → s.queue ≡ a ∷ queue → least_job world.lead.algebra world.lead.generators world.lead.basis world.lead.sugars a queue ≡ first)
    → board.log ≡ world.board.log ++ take_events first (standing world.board.log first) → board.seats ≡ world.board.seats
    → (standing world.board.log first ≢ Some Published → (r ≡ None) × (board.kept ≡ world.board.kept))
    → (standing world.board.log first ≡ Some Published → IsSome r × (r ≡ slice_index_or world.board.kept (place_of (offered world.board.log) first) None)
    × (board.kept ≡ slice_set world.board.kept (place_of (offered world.board.log) first) None))
    → MatchOption r (taken ≡ world.taken) (λ s. taken ≡ Some s)
    → Shows (record { lead = world.lead; board = board; hands = world.hands; filled = world.filled; taken = taken }) (take_first world.lead.algebra world.lead.generators w w.state.queue)
take-first world board w r taken first rest shows jobs least log seats none some is =
    let queue = some_jobs w.state.queue first rest (subst (SameJobs w.state.queue) jobs shows.lead.jobs) in
    take-shown world board w r taken first shows log seats none some is queue.0 queue.1 queue.2
    ((λ t. least_job world.lead.algebra world.lead.generators (shows.lead.basis t) (shows.lead.sugars t) queue.0 queue.1) ∙ least w.state queue.0 queue.1 shows.lead queue.2)

-- ---- commits

pub commit-shown : (world : WorldValue) (w : CoreWorld) (lead : Run) (taken : Option ReducedStart) (answer : Committed) → Shows world w → IsCommit world.lead lead (Ok answer)
    → ((o : Outcome) → world.lead.outcome ≡ Some o → lead ≡ world.lead) → taken ≡ None
    → Shows (record { lead = lead; board = world.board; hands = world.hands; filled = world.filled; taken = taken }) (commits w (run_step world.lead w.state) w.outcome)
commit-shown world w lead taken answer shows commit over none = by w.outcome refl answer commit
  where
    after : WorldValue
    after = record { lead = lead; board = world.board; hands = world.hands; filled = world.filled; taken = taken }

    shown : (s : State) (o : Option Outcome) → IsAt lead s → lead.outcome ≡ o → Shows after (record w { state = s; outcome = o; taken = None })
    shown s o at out = record {
      lead = at;
      outcome = out;
      log = shows.log;
      seats = shows.seats;
      kept = shows.kept;
      hands = shows.hands;
      filled = shows.filled;
      taken = none;
    }

    by : (o : Option Outcome) → w.outcome ≡ o → (c : Committed) → IsCommit world.lead lead (Ok c) → Shows after (commits w (run_step world.lead w.state) o)
    by (Some o) e c is =
        let same : lead ≡ world.lead = over o (shows.outcome ∙ e) in
        shown w.state w.outcome (subst (λ (r : Run). IsAt r w.state) (sym same) shows.lead) (ap (λ (r : Run). r.outcome) same ∙ shows.outcome)
    by None e Added is =
        let next = is.2 w.state shows.lead in
        subst (λ turn. Shows after (after_commit w turn)) (sym next.1) (shown next.0 w.outcome next.2 (is.1 ∙ shows.outcome))
    by None e (Ended o) is =
        let at : IsAt lead w.state = subst (λ (r : Run). IsAt r w.state) (sym is.1) (record { entries = shows.lead.entries; basis = shows.lead.basis; sugars = shows.lead.sugars; jobs = shows.lead.jobs }) in
        subst (λ turn. Shows after (after_commit w turn)) (sym (is.0 w.state shows.lead)) (shown w.state (Some o) at (ap (λ (r : Run). r.outcome) is.1))

-- ---- offers

module _ (log : List BoardEvent) where
  abbrev P : Job → Bool
  P job = is_off (standing log job)

  -- a job that is found stands first among those that pass
  find-filter : (jobs : List Job) (job : Job) → find P jobs ≡ Some job → (rest : List Job) × (filter P jobs ≡ job ∷ rest)
  find-filter [] job e = cc
  find-filter (x ∷ jobs) job e = by (P x) refl e (find-filter jobs job)
    where
      by : (t : Bool) → P x ≡ t → (if t then Some x else find P jobs) ≡ Some job → (find P jobs ≡ Some job → (rest : List Job) × (filter P jobs ≡ job ∷ rest))
          → (rest : List Job) × (filter P (x ∷ jobs) ≡ job ∷ rest)
      by true f e behind = let same : x ≡ job = cc in (filter P jobs, rw f (ap (λ j. j ∷ filter P jobs) same))
      by false f e behind = let ih = behind e in (ih.0, rw f ih.1)

  find-none : (jobs : List Job) → find P jobs ≡ None → filter P jobs ≡ []
  find-none [] e = refl
  find-none (x ∷ jobs) e = by (P x) refl e (find-none jobs)
    where
      by : (t : Bool) → P x ≡ t → (if t then Some x else find P jobs) ≡ None → (find P jobs ≡ None → filter P jobs ≡ []) → filter P (x ∷ jobs) ≡ []
      by true f e behind = cc
      by false f e behind = rw f (behind e)

  -- a job passes where it is queued and off the board
  queued-filter : (jobs : List Job) (job : Job) → is_queued (filter P jobs) job ≡ (P job && is_queued jobs job)
  queued-filter [] job = never (P job)
    where
      never : (t : Bool) → false ≡ (t && false)
      never true = refl
      never false = refl
  queued-filter (x ∷ jobs) job = by (P x) refl (same_job job x) refl (queued-filter jobs job)
    where
      by : (t : Bool) → P x ≡ t → (u : Bool) → same_job job x ≡ u → is_queued (filter P jobs) job ≡ (P job && is_queued jobs job)
          → is_queued (filter P (x ∷ jobs)) job ≡ (P job && (same_job job x || is_queued jobs job))
      by true f true g ih = let on : P job ≡ true = ap P (same_job-is job x g) ∙ f in rw (f, g, on) refl
      by true f false g ih = rw (f, g) ih
      by false f true g ih = let off : P job ≡ false = ap P (same_job-is job x g) ∙ f in rw (f, g, off) (ih ∙ rw off refl)
      by false f false g ih = rw (f, g) ih

  pub same-filter : (jobs others : List Job) → SameJobs jobs others → SameJobs (filter P jobs) (filter P others)
  same-filter jobs others same job = queued-filter jobs job ∙ ap (λ b. P job && b) (same job) ∙ sym (queued-filter others job)

  -- the keys still rise
  module _ (K : Job → Keyed) (o : RowOrder) where
    less-filter : (k : Keyed) (jobs : List Job) → Each (λ b. keyed_cmp o k b ≡ Less) (map K jobs) → Each (λ b. keyed_cmp o k b ≡ Less) (map K (filter P jobs))
    less-filter k [] h = tt
    less-filter k (x ∷ jobs) h = by (P x) refl (less-filter k jobs h.1)
      where
        by : (t : Bool) → P x ≡ t → Each (λ b. keyed_cmp o k b ≡ Less) (map K (filter P jobs)) → Each (λ b. keyed_cmp o k b ≡ Less) (map K (filter P (x ∷ jobs)))
        by true f ih = rw f (h.0, ih)
        by false f ih = rw f ih

    rising-filter : (jobs : List Job) → IsRising o (map K jobs) → IsRising o (map K (filter P jobs))
    rising-filter [] h = tt
    rising-filter (x ∷ jobs) h = by (P x) refl (rising-filter jobs h.1)
      where
        by : (t : Bool) → P x ≡ t → IsRising o (map K (filter P jobs)) → IsRising o (map K (filter P (x ∷ jobs)))
        by true f ih = rw f (less-filter (K x) jobs h.0, ih)
        by false f ih = rw f ih

keyed-has : (A : Algebra) (gens G : List Polynomial) (n : List ℕ) (jobs : List Job) → Each (HasKey A gens G n) (map (keyed A gens G n) jobs)
keyed-has A gens G n [] = tt
keyed-has A gens G n (x ∷ jobs) = ((refl, refl), keyed-has A gens G n jobs)

keyed-in : (A : Algebra) (gens G : List Polynomial) (n : List ℕ) (jobs : List Job) → jobs_in (map (keyed A gens G n) jobs) ≡ jobs
keyed-in A gens G n [] = refl
keyed-in A gens G n (x ∷ jobs) = ap (λ js. x ∷ js) (keyed-in A gens G n jobs)

-- what is offered next
pub offer-next : Leading → (run : Run) (w : CoreWorld) → IsLead run → IsAt run w.state → (job : Job) → find (λ j. is_off (standing w.log j)) run.jobs ≡ Some job
    → offer_first run.algebra run.generators w (off_board w.log w.state.queue) ≡ record w { log = w.log ++ Offer job ∷ []; kept = w.kept ++ None ∷ [] }
offer-next leading run w lead at job found =
    let K = keyed run.algebra run.generators run.basis run.sugars in
    let some = find-filter w.log run.jobs job found in
    let same : SameJobs (off_board w.log w.state.queue) (job ∷ some.0) = subst (SameJobs (off_board w.log w.state.queue)) some.1 (same-filter w.log w.state.queue run.jobs at.jobs) in
    let left = some_jobs (off_board w.log w.state.queue) job some.0 same in
    let rising : IsRising run.algebra.order (map K (job ∷ some.0)) = subst (λ js. IsRising run.algebra.order (map K js)) some.1 (rising-filter w.log K run.algebra.order run.jobs lead.rising) in
    let least : least_job run.algebra run.generators run.basis run.sugars left.0 left.1 ≡ job =
    leading run.algebra run.generators run.basis run.sugars (K job) (map K some.0) left.0 left.1 rising (keyed-has run.algebra run.generators run.basis run.sugars (job ∷ some.0))
    (subst (λ js. SameJobs (left.0 ∷ left.1) js) (sym (keyed-in run.algebra run.generators run.basis run.sugars (job ∷ some.0))) (subst (λ js. SameJobs js (job ∷ some.0)) left.2 same)) in
    ap (offer_first run.algebra run.generators w) left.2
    ∙ ap (λ j. record w { log = w.log ++ Offer j ∷ []; kept = w.kept ++ None ∷ [] })
    ((λ t. least_job run.algebra run.generators (at.basis t) (at.sugars t) left.0 left.1) ∙ least)

-- or nothing is
pub offer-none : (run : Run) (w : CoreWorld) → IsAt run w.state → find (λ j. is_off (standing w.log j)) run.jobs ≡ None
    → offer_first run.algebra run.generators w (off_board w.log w.state.queue) ≡ w
offer-none run w at none =
    let empty : off_board w.log w.state.queue ≡ [] =
    no_jobs (off_board w.log w.state.queue) (subst (SameJobs (off_board w.log w.state.queue)) (find-none w.log run.jobs none) (same-filter w.log w.state.queue run.jobs at.jobs)) in
    ap (offer_first run.algebra run.generators w) empty

pub find-off : (log : List BoardEvent) (jobs : List Job) (job : Job) → find (λ j. is_off (standing log j)) jobs ≡ Some job → standing log job ≡ None
find-off log [] job e = cc
find-off log (x ∷ jobs) job e = by (is_off (standing log x)) refl e (find-off log jobs job)
  where
    off : (o : Option Standing) → is_off o ≡ true → o ≡ None
    off None e = refl
    off (Some s) e = cc

    by : (t : Bool) → is_off (standing log x) ≡ t → (if t then Some x else find (λ j. is_off (standing log j)) jobs) ≡ Some job
        → (find (λ j. is_off (standing log j)) jobs ≡ Some job → standing log job ≡ None) → standing log job ≡ None
    by true f e behind = let same : x ≡ job = cc in subst (λ j. standing log j ≡ None) same (off (standing log x) f)
    by false f e behind = behind e

take-short : (jobs : List Job) (n : ℕ) → length (take n jobs) < n → take n jobs ≡ jobs
take-short [] zero less = refl
take-short [] (suc n) less = refl
take-short (x ∷ jobs) zero less = absurd (omega arith)
take-short (x ∷ jobs) (suc n) less = ap (λ js. x ∷ js) (take-short jobs n (omega (arith, less)))

pub offer-shown : Leading → (world : WorldValue) (board : BoardValue ReducedStart) (w : CoreWorld) (job : Job) → IsLead world.lead → Shows world w → closed world.board.log ≡ false
    → find (λ j. is_off (standing world.board.log j)) world.lead.jobs ≡ Some job
    → board.log ≡ world.board.log ++ Offer job ∷ [] → board.kept ≡ world.board.kept ++ None ∷ [] → board.seats ≡ world.board.seats
    → Shows (record { lead = world.lead; board = board; hands = world.hands; filled = world.filled; taken = world.taken }) (offers world.lead.algebra world.lead.generators w)
offer-shown leading world board w job lead shows open_now found log kept seats =
    let found' = subst (λ l. find (λ j. is_off (standing l j)) world.lead.jobs ≡ Some job) shows.log found in
    let open' = subst (λ l. closed l ≡ false) shows.log open_now in
    subst (λ v. Shows (record { lead = world.lead; board = board; hands = world.hands; filled = world.filled; taken = world.taken }) v) (sym (ap (λ b. if b then w else offer_first world.lead.algebra world.lead.generators w (off_board w.log w.state.queue)) open' ∙ offer-next leading world.lead w lead shows.lead job found'))
    (record {
      lead = shows.lead;
      outcome = shows.outcome;
      log = log ∙ ap (λ l. l ++ Offer job ∷ []) shows.log;
      seats = seats ∙ shows.seats;
      kept = kept ∙ ap (λ k. k ++ None ∷ []) shows.kept;
      hands = shows.hands;
      filled = shows.filled;
      taken = shows.taken;
    })

pub offer-still : (world : WorldValue) (w : CoreWorld) → Shows world w → closed world.board.log ≡ false
    → find (λ j. is_off (standing world.board.log j)) world.lead.jobs ≡ None → Shows world (offers world.lead.algebra world.lead.generators w)
offer-still world w shows open_now none =
    let none' = subst (λ l. find (λ j. is_off (standing l j)) world.lead.jobs ≡ None) shows.log none in
    let open' = subst (λ l. closed l ≡ false) shows.log open_now in
    subst (Shows world) (sym (ap (λ b. if b then w else offer_first world.lead.algebra world.lead.generators w (off_board w.log w.state.queue)) open' ∙ offer-none world.lead w shows.lead none')) shows

-- the first job off the board among the next ones is the first of all
pub find-ahead : (log : List BoardEvent) (all jobs : List Job) (n : ℕ) (job : Job) → jobs ≡ take n all
    → find (λ j. is_off (standing log j)) jobs ≡ Some job → find (λ j. is_off (standing log j)) all ≡ Some job
find-ahead log all jobs n job is e = among all n (subst (λ js. find (λ j. is_off (standing log j)) js ≡ Some job) is e)
  where
    by : (x : Job) (xs ys : List Job) (t : Bool) → (find (λ j. is_off (standing log j)) xs ≡ Some job → find (λ j. is_off (standing log j)) ys ≡ Some job)
        → (if t then Some x else find (λ j. is_off (standing log j)) xs) ≡ Some job
        → (if t then Some x else find (λ j. is_off (standing log j)) ys) ≡ Some job
    by x xs ys true behind e = e
    by x xs ys false behind e = behind e

    among : (js : List Job) (k : ℕ) → find (λ j. is_off (standing log j)) (take k js) ≡ Some job → find (λ j. is_off (standing log j)) js ≡ Some job
    among [] zero e = cc
    among [] (suc k) e = cc
    among (x ∷ js) zero e = cc
    among (x ∷ js) (suc k) e = by x (take k js) js (is_off (standing log x)) (among js k) e

-- fewer jobs than were asked for are all
pub all_jobs : (jobs all : List Job) (n : ℕ) → jobs ≡ take n all → length jobs < n → jobs ≡ all
all_jobs jobs all n is less = is ∙ take-short all n (omega (arith, ap length is, less))

-- ---- hands that are emptied

pub held-of : (A : Algebra) (gens : List Polynomial) (mode : Mode) (budget : ℕ) (w : CoreWorld) (seat : ℕ) (h : Hand) → IsFit A gens mode budget w → hand_at w.hands seat ≡ Some h
    → (h.seat ≡ seat) × ((h.seat ≤ last_seat) × (h.prefix ≤ length w.state.basis) × IsNamed A gens w.state.basis h.job)
held-of A gens mode budget w seat h fit e = hand_at-is (λ x. (x.seat ≤ last_seat) × (x.prefix ≤ length w.state.basis) × IsNamed A gens w.state.basis x.job) w.hands seat h fit.held e

module _ (world : WorldValue) (board : BoardValue ReducedStart) (w : CoreWorld) (hands : List Hand) (seat : ℕ) (h : Hand) (shows : Shows world w) (fits : Fits world w)
    (at : hand_at world.hands seat ≡ Some h) (left : hands ≡ without_hand seat world.hands) (seats : board.seats ≡ world.board.seats) where
  abbrev left_world : WorldValue
  left_world = record { lead = world.lead; board = board; hands = hands; filled = world.filled; taken = world.taken }

  at' : hand_at w.hands seat ≡ Some h
  at' = subst (λ hs. hand_at hs seat ≡ Some h) shows.hands at

  seat_is : h.seat ≡ seat
  seat_is = (held-of world.lead.algebra world.lead.generators world.lead.mode world.lead.budget w seat h fits at').0

  in_hand_is : hand world.board.log seat ≡ Some h.job
  in_hand_is = ap (λ l. hand l seat) shows.log ∙ fits.hands seat ∙ ap held_job at'

  hands_are : hands ≡ without_hand h.seat w.hands
  hands_are = left ∙ (λ i. without_hand (sym seat_is i) (shows.hands i))

  pub released-shown : board.log ≡ world.board.log ++ leave_events false seat (hand world.board.log seat) → board.kept ≡ world.board.kept → Shows left_world (publish_spec w h None)
  released-shown log kept = record {
    lead = shows.lead;
    outcome = shows.outcome;
    log = log ∙ ap (λ o. world.board.log ++ leave_events false seat o) in_hand_is ∙ (λ i. shows.log i ++ Release (sym seat_is i) h.job ∷ []);
    seats = seats ∙ shows.seats;
    kept = kept ∙ shows.kept;
    hands = hands_are;
    filled = shows.filled;
    taken = shows.taken;
  }

  pub release-shown : board.log ≡ world.board.log ++ leave_events false seat (hand world.board.log seat) → board.kept ≡ world.board.kept → Shows left_world (release_hand w (hand_at w.hands seat))
  release-shown log kept = subst (λ o. Shows left_world (release_hand w o)) (sym at') (released-shown log kept)

  pub publish-none : None ≡ spec_of world.lead.algebra world.lead.generators world.lead.basis h
      → board.log ≡ world.board.log ++ leave_events false seat (hand world.board.log seat) → board.kept ≡ world.board.kept
      → Shows left_world (publish_hand world.lead.algebra world.lead.generators w (hand_at w.hands seat))
  publish-none made log kept =
      subst (λ o. Shows left_world (publish_hand world.lead.algebra world.lead.generators w o)) (sym at')
      (subst (λ o. Shows left_world (publish_spec w h o)) (made ∙ ap (λ (G : List Polynomial). spec_of world.lead.algebra world.lead.generators G h) (sym shows.lead.basis)) (released-shown log kept))

  kept-is : (spec : ReducedStart) (r : Option ReducedStart) (o : Option Standing) → standing world.board.log h.job ≡ o
      → MatchOption r ((standing world.board.log h.job ≢ Some Taken) × (board.kept ≡ slice_set world.board.kept (place_of (offered world.board.log) h.job) (Some spec)))
      (λ p. (standing world.board.log h.job ≡ Some Taken) × (p ≡ spec) × (board.kept ≡ world.board.kept))
      → board.kept ≡ keep w h.job spec o
  kept-is spec r o e is = by r o e is
    where
      put : board.kept ≡ slice_set world.board.kept (place_of (offered world.board.log) h.job) (Some spec) → board.kept ≡ slice_set w.kept (place_of (offered w.log) h.job) (Some spec)
      put k = k ∙ (λ i. slice_set (shows.kept i) (place_of (offered (shows.log i)) h.job) (Some spec))

      by : (r : Option ReducedStart) (o : Option Standing) → standing world.board.log h.job ≡ o
          → MatchOption r ((standing world.board.log h.job ≢ Some Taken) × (board.kept ≡ slice_set world.board.kept (place_of (offered world.board.log) h.job) (Some spec)))
          (λ p. (standing world.board.log h.job ≡ Some Taken) × (p ≡ spec) × (board.kept ≡ world.board.kept))
          → board.kept ≡ keep w h.job spec o
      by None None e is = put is.1
      by None (Some Offered) e is = put is.1
      by None (Some (Held t)) e is = put is.1
      by None (Some Published) e is = put is.1
      by None (Some Released) e is = put is.1
      by None (Some Taken) e is = absurd (is.0 e)
      by (Some p) None e is = let bad : None ≡ Some Taken = sym e ∙ is.0 in cc
      by (Some p) (Some Offered) e is = let bad : Some Offered ≡ Some Taken = sym e ∙ is.0 in cc
      by (Some p) (Some (Held t)) e is = let bad : Some (Held t) ≡ Some Taken = sym e ∙ is.0 in cc
      by (Some p) (Some Published) e is = let bad : Some Published ≡ Some Taken = sym e ∙ is.0 in cc
      by (Some p) (Some Released) e is = let bad : Some Released ≡ Some Taken = sym e ∙ is.0 in cc
      by (Some p) (Some Taken) e is = is.2 ∙ shows.kept

  pub publish-some : (spec : ReducedStart) (r : Option ReducedStart) → Some spec ≡ spec_of world.lead.algebra world.lead.generators world.lead.basis h
      → board.log ≡ world.board.log ++ leave_events true seat (hand world.board.log seat)
      → IfSome (hand world.board.log seat) (λ j. MatchOption r ((standing world.board.log j ≢ Some Taken) × (board.kept ≡ slice_set world.board.kept (place_of (offered world.board.log) j) (Some spec)))
      (λ p. (standing world.board.log j ≡ Some Taken) × (p ≡ spec) × (board.kept ≡ world.board.kept)))
      → Shows left_world (publish_hand world.lead.algebra world.lead.generators w (hand_at w.hands seat))
  publish-some spec r made log kept =
      let here = subst (λ o. IfSome o (λ j. MatchOption r ((standing world.board.log j ≢ Some Taken) × (board.kept ≡ slice_set world.board.kept (place_of (offered world.board.log) j) (Some spec)))
      (λ p. (standing world.board.log j ≡ Some Taken) × (p ≡ spec) × (board.kept ≡ world.board.kept)))) in_hand_is kept in
      subst (λ o. Shows left_world (publish_hand world.lead.algebra world.lead.generators w o)) (sym at')
      (subst (λ o. Shows left_world (publish_spec w h o)) (made ∙ ap (λ (G : List Polynomial). spec_of world.lead.algebra world.lead.generators G h) (sym shows.lead.basis))
      (record {
        lead = shows.lead;
        outcome = shows.outcome;
        log = log ∙ ap (λ o. world.board.log ++ leave_events true seat o) in_hand_is ∙ (λ i. shows.log i ++ Publish (sym seat_is i) h.job ∷ []);
        seats = seats ∙ shows.seats;
        kept = kept-is spec r (standing w.log h.job) (ap (λ l. standing l h.job) shows.log) here;
        hands = hands_are;
        filled = shows.filled;
        taken = shows.taken;
      }))

-- ---- lists of events

fits-same : (r1 r2 : Run) (v : CoreWorld) → IsSameRun r1 r2 → IsFit r2.algebra r2.generators r2.mode r2.budget v → IsFit r1.algebra r1.generators r1.mode r1.budget v
fits-same r1 r2 v same fit =
    subst (λ b. IsFit r1.algebra r1.generators r1.mode b v) same.budget
    (subst (λ m. IsFit r1.algebra r1.generators m r2.budget v) same.mode
    (subst (λ gs. IsFit r1.algebra gs r2.mode r2.budget v) same.generators
    (subst (λ (A : Algebra). IsFit A r2.generators r2.mode r2.budget v) same.algebra fit)))

same-back : (r1 r2 : Run) → IsSameRun r1 r2 → IsSameRun r2 r1
same-back r1 r2 same = record { algebra = sym same.algebra; generators = sym same.generators; mode = sym same.mode; budget = sym same.budget }

-- one event more
pub act-on : (run : Run) (now next : WorldValue) (events : List Event) (i : ℕ) (e : Event) → IsGAlgebra run.algebra → Each (IsPolynomial run.algebra.p run.algebra.order) run.generators
    → IsSameRun run now.lead → IsSameRun now.lead next.lead → drop i events ≡ e ∷ drop (i + 1) events
    → ((v : CoreWorld) → Shows now v → Fits now v → Shows next (after_event now.lead.algebra now.lead.generators now.lead.mode now.lead.budget v e))
    → (last : CoreWorld) → ((v : CoreWorld) × Shows now v × Fits now v × (after_events run.algebra run.generators run.mode run.budget v (drop i events) ≡ last))
    → (v : CoreWorld) × Shows next v × Fits next v × (after_events run.algebra run.generators run.mode run.budget v (drop (i + 1) events) ≡ last)
act-on run now next events i e ok gens_are same more rest on last here =
    let v = here.0 in
    let fit : IsFit run.algebra run.generators run.mode run.budget v = fits-same run now.lead v same here.2 in
    let after : CoreWorld = after_event run.algebra run.generators run.mode run.budget v e in
    let is : after_event now.lead.algebra now.lead.generators now.lead.mode now.lead.budget v e ≡ after = λ k. after_event (same.algebra k) (same.generators k) (same.mode k) (same.budget k) v e in
    let fit' : IsFit run.algebra run.generators run.mode run.budget after = fit-act run.algebra ok run.generators gens_are run.mode run.budget v e fit in (
      after,
      subst (Shows next) is (on v here.1 here.2),
      fits-same next.lead run after (same-back run next.lead (same-run run now.lead next.lead same more)) fit',
      ap (after_events run.algebra run.generators run.mode run.budget v) (sym rest) ∙ here.3,
    )

drop-none : (events : List Event) (k : ℕ) → length events ≤ k → drop k events ≡ []
drop-none [] zero le = refl
drop-none [] (suc k) le = refl
drop-none (e ∷ events) zero le = absurd (omega arith)
drop-none (e ∷ events) (suc k) le = drop-none events k (omega arith)

pub acts-end : (run : Run) (world : WorldValue) (events : List Event) (k : ℕ) (last : CoreWorld) → length events ≤ k
    → ((v : CoreWorld) × Shows world v × Fits world v × (after_events run.algebra run.generators run.mode run.budget v (drop k events) ≡ last)) → Shows world last
acts-end run world events k last le here =
    subst (Shows world) (ap (after_events run.algebra run.generators run.mode run.budget here.0) (sym (drop-none events k le)) ∙ here.3) here.1

-- the first world has what every world has
pub first-fits : (A : Algebra) (gens : List Polynomial) (mode : Mode) (budget : ℕ) (world : WorldValue) → IsGAlgebra A → Each (IsPolynomial A.p A.order) gens
    → world.lead.algebra ≡ A → world.lead.generators ≡ gens → world.lead.mode ≡ mode → world.lead.budget ≡ budget → Fits world (first_world gens)
first-fits A gens mode budget world ok gens_are a g m b =
    subst (λ x. IsFit world.lead.algebra world.lead.generators world.lead.mode x (first_world gens)) (sym b)
    (subst (λ x. IsFit world.lead.algebra world.lead.generators x budget (first_world gens)) (sym m)
    (subst (λ x. IsFit world.lead.algebra x mode budget (first_world gens)) (sym g)
    (subst (λ (x : Algebra). IsFit x gens mode budget (first_world gens)) (sym a) (fit-first A ok gens gens_are mode budget))))

pub acts-same : (A : Algebra) (gens : List Polynomial) (mode : Mode) (budget : ℕ) (world : WorldValue) (w : CoreWorld) (events : List Event)
    → world.lead.algebra ≡ A → world.lead.generators ≡ gens → world.lead.mode ≡ mode → world.lead.budget ≡ budget
    → after_events world.lead.algebra world.lead.generators world.lead.mode world.lead.budget w events ≡ after_events A gens mode budget w events
acts-same A gens mode budget world w events a g m b = λ k. after_events (a k) (g k) (m k) (b k) w events
