-- An expression's types reach each other, so their values are opened one layer at a time: `out-Base b` is a `BaseLayer`,
-- matched on `Base-F.Int number`, `Base-F.Name name index` and so on, `out-Scaled s` a `ScaledLayer`, and `out-Expr e` a record.
use Rattle.plural_syntax.specs.declared.tree.Base.{Base}
use Rattle.plural_syntax.specs.declared.tree.Base.TheOpen.{Base-F, Scaled-F}
use Rattle.plural_syntax.specs.declared.tree.Scaled.{Scaled}
use Rattle.plural_syntax.specs.declared.tree.Added.{Added}
use Rattle.plural_syntax.specs.declared.tree.Expr.{Expr}
use Rattle.plural_syntax.specs.declared.tree.ExprAfter.{ExprAfter}
use Rattle.plural_syntax.specs.declared.tree.ExprList.{ExprList}
use Rattle.plural_syntax.specs.declared.tree.Factor.{Factor}
use Rattle.plural_syntax.specs.declared.tree.Term.{Term}

abbrev pub BaseLayer : Type 0
BaseLayer = Base-F Base Scaled Added Expr ExprAfter ExprList Factor Term

abbrev pub ScaledLayer : Type 0
ScaledLayer = Scaled-F Base Scaled Added Expr ExprAfter ExprList Factor Term
