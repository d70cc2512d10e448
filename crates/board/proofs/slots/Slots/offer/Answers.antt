use Rattle.std.proofs.Common.{◌≡◌, ◌++◌, List, length, map, take, subst, sym, ap, ◌∙◌, arith}
use Rattle.std.specs.BTreeMap.{get}
use Rattle.std.proofs.lemmas.List.{length-append, length-map, map-append, take_all}
use Rattle.monomials.specs.Polynomials.{Each}
use Rattle.word_model.specs.declared.records.Job.{Job}
use Rattle.word_model.specs.declared.events.Standing.TheVariants.{Offered}
use Rattle.board.specs.declared.slots.Slot.{Slot}
use Rattle.board.specs.Slots.{key_cmp, Finds, IsNew}
use Rattle.board.proofs.Finding.{all_new, jobs_of-slots, none-append}
use Rattle.board.proofs.slots.Slots.offer.Goals as goal

pub enter-requires-clause-new : goal.enter-requires-clause-new
enter-requires-clause-new c =
    all_new (get key_cmp c.self.inside.places) c.self.inside.slots.items c.self.invariant.0 c.args.jobs.now
    (subst (λ (xs : List Slot). Each (IsNew xs) c.args.jobs.now) (sym c.self.view_is) c.requires.new)

pub invariant_of-self-in-loop-job : goal.invariant_of-self-in-loop-job
invariant_of-self-in-loop-job c =
    let was : List Slot = c.self.inside.slots.items in
    let now = c.loop-job.self-inside in
    let is = c.loop-job.invariant in
    let jobs : List Job = c.args.jobs.now in
    let job : Slot → Job = λ x. x.job in
    let offered : Job → Slot = λ j. record { job = j; standing = Offered } in
    let n : c.loop-job.job-index ≡ length jobs = omega (arith, c.loop-job-test.false, c.loop-job.auto.job-index-end) in
    let slots : now.slots.items ≡ was ++ map offered jobs =
    is.slots ∙ (ap (λ l. l ++ map offered (take c.loop-job.job-index jobs)) c.in_ok-reserve.ensures.items
    ∙ (ap (λ m. was ++ map offered (take m jobs)) n ∙ ap (λ l. was ++ map offered l) (take_all (length jobs) jobs (omega arith)))) in
    let jobs_are : map job now.slots.items ≡ map job was ++ jobs = ap (map job) slots ∙ (map-append job was (map offered jobs) ∙ ap (λ l. map job was ++ l) (jobs_of-slots jobs)) in
    let start : length (map job was) ≡ c.len.result = omega (arith, length-map was job, c.len.ensures, ap length c.in_ok-reserve.ensures.items) in
    let finds = c.in_ok-enter.ensures.on (map job was) start c.self.invariant.0 in (
      subst (λ l. Finds (get key_cmp now.places) l) (sym jobs_are) (subst (λ p. Finds (get key_cmp p) (map job was ++ jobs)) (sym is.places) finds),
      omega (arith, is.passed, c.self.invariant.1, ap length slots, length-append was (map offered jobs)),
      rw (is.passed, slots) (none-append c.self.inside.passed was (map offered jobs) c.self.invariant.1 c.self.invariant.2),
    )
