use Rattle.std.proofs.Common.{◌∙◌, sym, ap, nat_eq, ◌&&◌}
use Rattle.std.proofs.lemmas.Bool.Decides.{Decides-at}
use Rattle.std.proofs.lemmas.Slice.Eq.{bytes_eq-Decides}
use Rattle.monomials.proofs.Packing.{equal_words}
use Rattle.monomials.proofs.expo.ExpoPartialEq.eq.Goals as goal

pub returns-then-eq-clause-eq : goal.returns-then-eq-clause-eq
returns-then-eq-clause-eq c =
    ap (λ b. b && nat_eq c.self.inside.len c.other.inside.len) (sym c.if-eq.true ∙ c.eq.ensures)
    ∙ equal_words c.self.inside c.other.inside _ _ c.self.invariant c.other.invariant c.self.view_is c.other.view_is

pub returns-then-eq-clause-same : goal.returns-then-eq-clause-same
returns-then-eq-clause-same c = Decides-at _ _ (returns-then-eq-clause-eq c) (bytes_eq-Decides _ _)

pub returns-else-eq-clause-eq : goal.returns-else-eq-clause-eq
returns-else-eq-clause-eq c =
    c.if-eq.false
    ∙ (ap (λ b. b && nat_eq c.self.inside.len c.other.inside.len) (sym c.if-eq.false ∙ c.eq.ensures)
    ∙ equal_words c.self.inside c.other.inside _ _ c.self.invariant c.other.invariant c.self.view_is c.other.view_is)

pub returns-else-eq-clause-same : goal.returns-else-eq-clause-same
returns-else-eq-clause-same c = Decides-at _ _ (returns-else-eq-clause-eq c) (bytes_eq-Decides _ _)
