use Rattle.std.proofs.Common.{IfSome, sym, subst}
use Rattle.word_model.specs.Words.{Algebra}
use Rattle.closed_forms.specs.Kinds.{HasKind}
use Rattle.gproduct.specs.Inside.Swaps.{AreKinds}
use Rattle.gproduct.proofs.table.Table.kind.Goals as goal

pub returns : goal.returns
returns c = record {
  kind = subst (λ (A : Algebra). IfSome c.kept_kind.result (λ kind. HasKind A c.args.i c.args.j kind)) c.self.view_is
      (c.kept_kind.ensures.kind c.self.inside.algebra.now (subst (AreKinds c.self.inside.algebra.now) (sym c.deref.ensures.value) c.self.invariant.0));
  full = λ kind has.
      c.kept_kind.ensures.full c.self.inside.algebra.now kind (subst (AreKinds c.self.inside.algebra.now) (sym c.deref.ensures.value) c.self.invariant.0)
      (subst (λ (A : Algebra). HasKind A c.args.i c.args.j kind) (sym c.self.view_is) has);
}
