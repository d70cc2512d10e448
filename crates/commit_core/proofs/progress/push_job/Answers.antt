use Rattle.std.proofs.Common.{sym, ap, ◌∙◌, subst}
use Rattle.monomials.specs.Orders.{RowOrder}
use Rattle.monomials.specs.Polynomials.{Each}
use Rattle.word_model.specs.Jobs.{job_sugar, key_monomial, IsJob}
use Rattle.pair_strategy.specs.Queues.{HasKey}
use Rattle.pair_strategy.proofs.Placing.{Each-with_item}
use Rattle.commit_core.proofs.Bringing.{sorted-vars, elements-vars}
use Rattle.commit_core.proofs.progress.push_job.Goals as goal

pub job_key-requires-clause-in_range : goal.job_key-requires-clause-in_range
job_key-requires-clause-in_range c =
    let A = c.args.alg.now in
    (A.order.vars, sorted-vars A c.args.gens.now c.requires.generators, elements-vars A c.args.basis.now.items c.requires.elements, c.requires.named.0)

pub push-requires-clause-vars : goal.push-requires-clause-vars
push-requires-clause-vars c =
    let A = c.args.alg.now in
    c.job_key.ensures.vars A.order.vars (sorted-vars A c.args.gens.now c.requires.generators) (elements-vars A c.args.basis.now.items c.requires.elements)
    ∙ ap (λ (o : RowOrder). o.vars) (sym c.requires.order)

pub push-requires-clause-numbers : goal.push-requires-clause-numbers
push-requires-clause-numbers c = subst (IsJob 4096 2048 16) (sym c.job_key.ensures.job) c.requires.range

pub returns-clause-keys : goal.returns-clause-keys
returns-clause-keys c = λ keys. (
    let A = c.args.alg.now in
    let G = c.args.basis.now.items in
    let n = c.args.sugars.now in
    let key : HasKey A c.args.gens.now G n c.job_key.result = (
      c.job_key.ensures.sugar ∙ ap (job_sugar c.args.gens.now G n) (sym c.job_key.ensures.job),
      c.job_key.ensures.mono A (elements-vars A G c.requires.elements) ∙ ap (key_monomial A c.args.gens.now G) (sym c.job_key.ensures.job),
    ) in
    subst (Each (HasKey A c.args.gens.now G n)) (sym c.push.ensures.items)
    (Each-with_item (HasKey A c.args.gens.now G n) c.args.queue.now.order c.job_key.result c.args.queue.now.items key keys)
    )
