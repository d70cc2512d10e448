-- The value of an expression, or the first refusal: operands from left to right, and then the operation.
use Rattle.std.specs.Prelude.{ℕ, zero, suc, List, [], ◌∷◌, map, Option, Some, None, Ok, Err, if◌then◌else◌}
use Rattle.std.specs.Option.{option_map}
use Rattle.plural_lexer.specs.declared.token.Token.{Token}
use Rattle.plural_syntax.specs.Layers.{BaseLayer, ScaledLayer}
use Rattle.plural_syntax.specs.Words.{text_of}
use Rattle.plural_syntax.specs.declared.tree.Base.{Base, out-Base}
use Rattle.plural_syntax.specs.declared.tree.Scaled.{Scaled, out-Scaled}
use Rattle.plural_syntax.specs.declared.tree.Base.TheOpen.{Base-F, Scaled-F}
use Rattle.plural_syntax.specs.declared.tree.Factor.{Factor, out-Factor}
use Rattle.plural_syntax.specs.declared.tree.Term.{Term, out-Term}
use Rattle.plural_syntax.specs.declared.tree.Added.{Added, out-Added}
use Rattle.plural_syntax.specs.declared.tree.Expr.{Expr, out-Expr}
use Rattle.plural_syntax.specs.declared.tree.ExprAfter.{out-ExprAfter}
use Rattle.plural_syntax.specs.declared.tree.ExprList.{ExprList, out-ExprList}
use Rattle.plural_syntax.specs.declared.tree.Power.{Power}
use Rattle.plural_syntax.specs.declared.tree.Index.{Index}
use Rattle.plural_syntax.specs.declared.tree.TokenAfter.{TokenAfter}
use Rattle.script_model.specs.declared.values.Value.{Value}
use Rattle.script_model.specs.declared.values.Refusal.TheVariants as refused
use Rattle.plural_syntax.specs.declared.tree.Function.{Function}
use Rattle.script_model.specs.Refusals.{Outcome, ◌>>=◌, in_turn}
use Rattle.script_model.specs.Environment.{Scope, look_up}
use Rattle.script_model.specs.Tokens.{number, is_minus}
use Rattle.script_model.specs.Operations.{poly_of, polys_of, entry_of, constant, found_value, negative, sum, difference, times, divided, power, settled}
use Rattle.script_model.specs.Functions.{apply}

-- the expressions of a list
abbrev pub exprs_of : ExprList → List Expr
exprs_of l = (out-ExprList l).first ∷ map (λ a. (out-ExprAfter a).expr) (out-ExprList l).more

-- at most one index in a pair, where there are two
abbrev pub second_number : List ℕ → Option TokenAfter → Option ℕ
second_number bytes o = option_map (λ (a : TokenAfter). number bytes a.token) o

-- the values of expressions, from the first to the last
abbrev pub all_values : (Expr → Outcome Value) → List Expr → Outcome (List Value)
all_values inner [] = Ok []
all_values inner (e ∷ es) = inner e >>= λ v. all_values inner es >>= λ vs. Ok (v ∷ vs)

module _ (S : Scope) where
  -- ---- operations

  abbrev pub indexed : Option Index → Value → Outcome Value
  indexed None v = Ok v
  indexed (Some i) v = entry_of v (number S.bytes i.first) (second_number S.bytes i.second)

  abbrev pub powered : Option Power → Value → Outcome Value
  powered None v = Ok v
  powered (Some p) v = poly_of v >>= λ f. power S.ring.algebra f (number S.bytes p.exponent) >>= settled S.ring

  abbrev pub multiplied : Value → Value → Outcome Value
  multiplied v w = polys_of v w >>= λ fs. times S.ring.algebra fs.0 fs.1 >>= settled S.ring

  abbrev pub over : Value → Token → Outcome Value
  over v n = poly_of v >>= λ f. divided S.ring.algebra f (number S.bytes n) >>= settled S.ring

  abbrev pub signed : Option Token → Value → Outcome Value
  signed None v = Ok v
  signed (Some t) v = poly_of v >>= λ f. settled S.ring (if is_minus S.bytes t then negative S.ring.algebra f else f)

  abbrev pub added_to : Value → Token → Value → Outcome Value
  added_to v t w = polys_of v w >>= λ fs. settled S.ring (if is_minus S.bytes t then difference S.ring.algebra fs.0 fs.1 else sum S.ring.algebra fs.0 fs.1)

  -- what a name stands for, or the entry of it that the index names
  abbrev pub named : Token → Option Index → Outcome Value
  named name index = look_up S.environment S.ring (text_of S.bytes name) >>= λ found. indexed index (found_value S.ring.algebra found)

  abbrev pub integer : Token → Outcome Value
  integer n = settled S.ring (constant S.ring.algebra (number S.bytes n))

  -- ---- expressions, where `inner` has the values of those in parentheses
  module _ (inner : Expr → Outcome Value) where
    abbrev pub called : Function → List Expr → Outcome Value
    called f es = all_values inner es >>= apply S.ring S.budget f

    abbrev pub base_at : BaseLayer → Outcome Value
    base_at (Base-F.Int n) = integer n
    base_at (Base-F.Name name index) = named name index
    base_at (Base-F.Group opening expr closing) = inner expr
    base_at (Base-F.Call name opening arguments closing) = called name.function (exprs_of arguments)

    unfoldable pub base_value : Base → Outcome Value
    base_value b = base_at (out-Base b)

    unfoldable pub factor_value : Factor → Outcome Value
    factor_value f = base_value (out-Factor f).base >>= λ v. powered (out-Factor f).power v

    abbrev pub scaled_at : Value → ScaledLayer → Outcome Value
    scaled_at v (Scaled-F.Times sign f) = factor_value f >>= λ w. multiplied v w
    scaled_at v (Scaled-F.Over sign n) = over v n

    unfoldable pub scaled_by : Value → Scaled → Outcome Value
    scaled_by v s = scaled_at v (out-Scaled s)

    unfoldable pub term_value : Term → Outcome Value
    term_value t = factor_value (out-Term t).first >>= λ v. in_turn scaled_by v (out-Term t).more

    unfoldable pub with_added : Value → Added → Outcome Value
    with_added v a = term_value (out-Added a).term >>= λ w. added_to v (out-Added a).sign w

    unfoldable pub expr_value : Expr → Outcome Value
    expr_value e = term_value (out-Expr e).first >>= λ v. signed (out-Expr e).sign v >>= λ w. in_turn with_added w (out-Expr e).more

  -- by the number of levels of parentheses, and one more
  unfoldable pub value_within : ℕ → Expr → Outcome Value
  value_within zero e = Err refused.Kind
  value_within (suc levels) e = expr_value (value_within levels) e
