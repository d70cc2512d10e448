use Rattle.monomials.proofs.WholeWords.{graded_cmp}
use Rattle.monomials.proofs.expo.Expo.compare_graded.Goals as goal

pub returns : goal.returns
returns c =
    rw (c.then-4.ensures, c.then-3.ensures, c.then-2.ensures, c.then.ensures, c.cmp.ensures, c.cmp-2.ensures, c.cmp-3.ensures, c.cmp-4.ensures, c.cmp-5.ensures)
    (graded_cmp c.self.inside c.other.inside _ _ c.self.invariant c.other.invariant c.self.view_is c.other.view_is c.requires)
