use Rattle.std.proofs.Common.{◌≡◌, ◌↔◌, ◌∙◌, ◌∷◌, [], ◌<◌, length, Some, sym, ap, subst}
use Rattle.monomials.specs.Polynomials.{HasVars, HasNumbers}
use Rattle.gpoly.specs.Terms.{pairs_of}
use Rattle.closed_forms.specs.Kinds.{IsOfKind}
use Rattle.closed_forms.proofs.PairKinds.{no_element, one_element}
use Rattle.closed_forms.proofs.kind_of.Goals as goal

pub returns-in-empty : goal.returns-in-empty
returns-in-empty c = λ n kind vars.
    let none : [] ≡ c.args.d.now = ap pairs_of (sym (no_element c.terms.result.now c.in-empty.len_below)) ∙ c.terms.ensures.value in
    subst (λ d. (c.kind_without_term.result ≡ Some kind) ↔ IsOfKind c.args.field n c.args.i c.args.j kind c.args.c d)
    none (c.kind_without_term.ensures c.args.field n c.args.i c.args.j kind c.requires.c_in_range)

pub returns-in-len1 : goal.returns-in-len1
returns-in-len1 c = λ n kind vars.
    let one : pairs_of (c.term-item.result ∷ []) ≡ c.args.d.now =
    ap pairs_of (sym (one_element c.terms.result.now c.term-item.result c.in-len1.len_at_least c.in-len1.len_below c.term-item.is)) ∙ c.terms.ensures.value in
    let below : c.term-item.result.coef < c.args.field = (subst (HasNumbers c.args.field) (sym one) c.requires.numbers).0 in
    let length_is : length c.term-item.result.mono ≡ n = (subst (HasVars n) (sym one) vars).0 in
    subst (λ m. (c.kind_with_term.result ≡ Some kind) ↔ IsOfKind c.args.field m c.args.i c.args.j kind c.args.c c.args.d.now) length_is
    (subst (λ d. (c.kind_with_term.result ≡ Some kind) ↔ IsOfKind c.args.field (length c.term-item.result.mono) c.args.i c.args.j kind c.args.c d) one
    (c.kind_with_term.ensures c.args.field kind c.requires.c_in_range below))
