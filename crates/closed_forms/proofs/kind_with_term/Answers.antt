use Rattle.std.proofs.Common.{◌≡◌, ◌↔◌, ◌∷◌, [], length, Some, sym, subst}
use Rattle.gpoly.specs.Terms.{pair_of}
use Rattle.closed_forms.specs.Kinds.{IsOfKind}
use Rattle.closed_forms.proofs.kind_with_term.Goals as goal

pub returns-in-1 : goal.returns-in-1
returns-in-1 c = λ p kind c_below below.
    subst (λ x. (c.kind_of_commutator.result ≡ Some kind) ↔ IsOfKind p (length c.args.term.now.mono) c.args.i c.args.j kind x (pair_of c.args.term.now ∷ []))
    (sym c.in-1.is) (c.kind_of_commutator.ensures p kind below)
