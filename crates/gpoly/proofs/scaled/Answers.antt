use Rattle.std.proofs.Common.{rules, ◌≡◌, ◌*◌, ◌%◌, ◌<◌, ◌∙◌, sym, ap, subst, length, get_or}
use Rattle.gpoly.specs.declared.Term.{Term}
use Rattle.gpoly.specs.Terms.{pairs_of}
use Rattle.gpoly.proofs.TermLists.{numbers_at}
use Rattle.gpoly.proofs.InPlace.{scaled_to, scaled_to-next, scaled_to-more, scaled_to-all}
use Rattle.gpoly.proofs.scaled.Goals as goal

pub mul-requires-clause-b_in_range : goal.mul-requires-clause-b_in_range
mul-requires-clause-b_in_range c =
    let l : c.loop-i.i < length c.args.terms.items = search rules in
    let t : Term = c.index.result.now in
    let same : t ≡ get_or c.args.terms.items c.loop-i.i t =
    scaled_to-next c.args.field c.args.k c.loop-i.i c.args.terms.items c.loop-i.terms.items t t c.loop-i.invariant c.index.ensures l in
    subst (λ t. t.coef < c.args.field) (sym same) (numbers_at c.args.field c.args.terms.items c.loop-i.i t l c.requires.numbers)

pub loop-i-preserved : goal.loop-i-preserved
loop-i-preserved c =
    let l : c.loop-i.i < length c.args.terms.items = search rules in
    let t : Term = c.index.result.now in
    let same : t ≡ get_or c.args.terms.items c.loop-i.i t =
    scaled_to-next c.args.field c.args.k c.loop-i.i c.args.terms.items c.loop-i.terms.items t t c.loop-i.invariant c.index.ensures l in
    let again : c.index_mut.result.now ≡ get_or c.args.terms.items c.loop-i.i t =
    scaled_to-next c.args.field c.args.k c.loop-i.i c.args.terms.items c.loop-i.terms.items c.index_mut.result.now t c.loop-i.invariant c.index_mut.ensures.value l in
    let coef : c.mul.result ≡ (c.args.k * (get_or c.args.terms.items c.loop-i.i t).coef) % c.args.field =
    c.mul.ensures.value ∙ ap (λ (t : Term). (c.args.k * t.coef) % c.args.field) same in
    scaled_to-more c.args.field c.args.k c.loop-i.i c.args.terms.items c.loop-i.terms.items t (record { coef = c.mul.result; mono = c.index_mut.result.now.mono })
    c.loop-i.invariant l (λ x. record { coef = coef x; mono = (again x).mono })

pub returns : goal.returns
returns c =
    let end : c.loop-i.i ≡ length c.args.terms.items = search rules in
    ap pairs_of (c.loop-i.invariant ∙ ap (λ n. scaled_to c.args.field c.args.k n c.args.terms.items) end)
    ∙ scaled_to-all c.args.field c.args.k c.args.terms.items c.p-p.ensures.prime c.requires.not_zero c.requires.in_range c.requires.some c.requires.numbers
