use Rattle.std.proofs.Common.{◌≡◌, Err, IfOk, ◌∙◌, subst}
use Rattle.word_model.specs.Conditions.{IsGAlgebra}
use Rattle.word_model.specs.Certificates.{Certificate}
use Rattle.algebra.specs.declared.ProductFault.TheVariants.{DegreeOver}
use Rattle.two_sided.specs.Checks.{TooHigh, tested, chain_check}
use Rattle.two_sided.proofs.ChainTests.{answer_inside, answer_holds}
use Rattle.two_sided.proofs.OwnRuns.{run_holds}
use Rattle.two_sided.proofs.checking.check_chain.Goals as goal

pub returns-clause-inside : goal.returns-clause-inside
returns-clause-inside g c =
    let A = c.args.seat.now.algebra in
    let gens = c.args.gens.now in
    let whole : ◌≡◌ {A = Certificate} (record { lines = c.deref.result.now; finished = c.chain.inside.finished }) c.args.chain.now =
    (λ i. record { lines = c.deref.ensures.value i; finished = c.chain.inside.finished }) ∙ c.chain.view_is in
    answer_inside A gens c.args.chain.now c.both_hold.result (subst IsGAlgebra c.algebra.ensures c.n-n.ensures.accepted) c.requires.generators c.requires.numbers
    (subst (λ (C : Certificate). IfOk c.both_hold.result (λ holds. chain_check A gens C ≡ tested holds)) whole c.both_hold.ensures.value)

pub returns-clause-of_run : goal.returns-clause-of_run
returns-clause-of_run g c = λ mode budget listed lines_are.
    let A = c.args.seat.now.algebra in
    let gens = c.args.gens.now in
    let C = c.args.chain.now in
    let ok = subst IsGAlgebra c.algebra.ensures c.n-n.ensures.accepted in
    let whole : ◌≡◌ {A = Certificate} (record { lines = c.deref.result.now; finished = c.chain.inside.finished }) c.args.chain.now =
    (λ i. record { lines = c.deref.ensures.value i; finished = c.chain.inside.finished }) ∙ c.chain.view_is in
    answer_holds A gens c.args.chain.now c.both_hold.result
    (subst (λ (C : Certificate). IfOk c.both_hold.result (λ holds. chain_check A gens C ≡ tested holds)) whole c.both_hold.ensures.value)
    (subst (λ (C : Certificate). c.both_hold.result ≡ Err DegreeOver → chain_check A gens C ≡ TooHigh) whole c.both_hold.ensures.over)
    ((λ i. chain_check A gens (record { lines = lines_are i; finished = C.finished }))
    ∙ run_holds A ok gens c.requires.generators mode budget C.finished listed)
