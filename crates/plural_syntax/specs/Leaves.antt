-- The leaves of a tree: its tokens, from left to right.
use Rattle.std.specs.Prelude.{ℕ, zero, suc, List, [], ◌∷◌, ◌++◌, map, flat_map, Option, Some, None}
use Rattle.plural_lexer.specs.declared.token.Token.{Token}
use Rattle.plural_syntax.specs.declared.tree.Base.{Base, out-Base}
use Rattle.plural_syntax.specs.declared.tree.Base.TheOpen.{Base-F, Scaled-F}
use Rattle.plural_syntax.specs.declared.tree.Scaled.{Scaled, out-Scaled}
use Rattle.plural_syntax.specs.declared.tree.Factor.{Factor, out-Factor}
use Rattle.plural_syntax.specs.declared.tree.Term.{Term, out-Term}
use Rattle.plural_syntax.specs.declared.tree.Added.{Added, out-Added}
use Rattle.plural_syntax.specs.declared.tree.Expr.{Expr, out-Expr}
use Rattle.plural_syntax.specs.declared.tree.ExprAfter.{ExprAfter, out-ExprAfter}
use Rattle.plural_syntax.specs.declared.tree.ExprList.{ExprList, out-ExprList}
use Rattle.plural_syntax.specs.declared.tree.Power.{Power}
use Rattle.plural_syntax.specs.declared.tree.Index.{Index}
use Rattle.plural_syntax.specs.declared.tree.TokenAfter.{TokenAfter}
use Rattle.plural_syntax.specs.declared.tree.TokenList.{TokenList}
use Rattle.plural_syntax.specs.declared.tree.TokenGroup.{TokenGroup}
use Rattle.plural_syntax.specs.declared.tree.Item.{Item}
use Rattle.plural_syntax.specs.declared.tree.ItemAfter.{ItemAfter}
use Rattle.plural_syntax.specs.declared.tree.ItemList.{ItemList}
use Rattle.plural_syntax.specs.declared.tree.Vars.{Vars}
use Rattle.plural_syntax.specs.declared.tree.Vars.TheVariants as vars
use Rattle.plural_syntax.specs.declared.tree.Order.{Order}
use Rattle.plural_syntax.specs.declared.tree.Order.TheVariants as order
use Rattle.plural_syntax.specs.declared.tree.Value.{Value}
use Rattle.plural_syntax.specs.declared.tree.Values.{Values}
use Rattle.plural_syntax.specs.declared.tree.Side.{Side}
use Rattle.plural_syntax.specs.declared.tree.ExprPair.{ExprPair}
use Rattle.plural_syntax.specs.declared.tree.Statement.{Statement}
use Rattle.plural_syntax.specs.declared.tree.Statement.TheVariants as statement
use Rattle.plural_syntax.specs.declared.tree.Script.{Script}
use Rattle.plural_syntax.specs.Words.{Lexeme}
use Rattle.plural_syntax.specs.Layers.{BaseLayer, ScaledLayer}

-- tokens without their texts
abbrev pub tokens_of : List Lexeme → List Token
tokens_of ls = map (λ (l : Lexeme). l.token) ls

-- [ .. ]
abbrev pub optional_leaves : {A : Type 0} → (A → List Token) → Option A → List Token
optional_leaves f None = []
optional_leaves f (Some a) = f a

-- ---- parts without expressions

abbrev pub token_after_leaves : TokenAfter → List Token
token_after_leaves a = a.comma ∷ a.token ∷ []

abbrev pub token_list_leaves : TokenList → List Token
token_list_leaves l = l.first ∷ flat_map token_after_leaves l.more

abbrev pub token_group_leaves : TokenGroup → List Token
token_group_leaves g = g.opening ∷ (token_list_leaves g.list ++ g.closing ∷ [])

abbrev pub index_leaves : Index → List Token
index_leaves i = i.opening ∷ i.first ∷ (optional_leaves token_after_leaves i.second ++ i.closing ∷ [])

abbrev pub power_leaves : Power → List Token
power_leaves p = p.sign ∷ p.exponent ∷ []

abbrev pub side_leaves : Side → List Token
side_leaves s = s.opening ∷ s.number ∷ s.closing ∷ []

abbrev pub vars_leaves : Vars → List Token
vars_leaves (vars.One name) = name ∷ []
vars_leaves (vars.Many names) = token_group_leaves names

abbrev pub item_leaves : Item → List Token
item_leaves i = i.name ∷ optional_leaves token_group_leaves i.numbers

abbrev pub item_after_leaves : ItemAfter → List Token
item_after_leaves a = a.comma ∷ item_leaves a.item

abbrev pub item_list_leaves : ItemList → List Token
item_list_leaves l = item_leaves l.first ++ flat_map item_after_leaves l.more

abbrev pub order_leaves : Order → List Token
order_leaves (order.One item) = item_leaves item
order_leaves (order.Many opening items closing) = opening ∷ (item_list_leaves items ++ closing ∷ [])

-- ---- expressions, where `inner` has the leaves of those in parentheses
module _ (inner : Expr → List Token) where
  abbrev pub expr_after_leaves : ExprAfter → List Token
  expr_after_leaves a = (out-ExprAfter a).comma ∷ inner (out-ExprAfter a).expr

  abbrev pub list_leaves : ExprList → List Token
  list_leaves l = inner (out-ExprList l).first ++ flat_map expr_after_leaves (out-ExprList l).more

  abbrev pub base_layer_leaves : BaseLayer → List Token
  base_layer_leaves (Base-F.Int number) = number ∷ []
  base_layer_leaves (Base-F.Name name index) = name ∷ optional_leaves index_leaves index
  base_layer_leaves (Base-F.Group opening expr closing) = opening ∷ (inner expr ++ closing ∷ [])
  base_layer_leaves (Base-F.Call name opening arguments closing) = name.token ∷ opening ∷ (list_leaves arguments ++ closing ∷ [])

  abbrev pub base_leaves : Base → List Token
  base_leaves b = base_layer_leaves (out-Base b)

  abbrev pub factor_leaves : Factor → List Token
  factor_leaves f = base_leaves (out-Factor f).base ++ optional_leaves power_leaves (out-Factor f).power

  abbrev pub scaled_layer_leaves : ScaledLayer → List Token
  scaled_layer_leaves (Scaled-F.Times sign factor) = sign ∷ factor_leaves factor
  scaled_layer_leaves (Scaled-F.Over sign number) = sign ∷ number ∷ []

  abbrev pub scaled_leaves : Scaled → List Token
  scaled_leaves s = scaled_layer_leaves (out-Scaled s)

  abbrev pub term_leaves : Term → List Token
  term_leaves t = factor_leaves (out-Term t).first ++ flat_map scaled_leaves (out-Term t).more

  abbrev pub added_leaves : Added → List Token
  added_leaves a = (out-Added a).sign ∷ term_leaves (out-Added a).term

  abbrev pub expr_leaves : Expr → List Token
  expr_leaves e = optional_leaves (λ sign. sign ∷ []) (out-Expr e).sign ++ (term_leaves (out-Expr e).first ++ flat_map added_leaves (out-Expr e).more)

-- by the number of levels of parentheses that may be opened in it
abbrev pub expr_leaves_within : ℕ → Expr → List Token
expr_leaves_within zero e = expr_leaves (λ inner. []) e
expr_leaves_within (suc levels) e = expr_leaves (expr_leaves_within levels) e

-- ---- statements, where `inside` has the leaves of an expression
module _ (inside : Expr → List Token) where
  abbrev pub value_leaves : Value → List Token
  value_leaves v = v.equals ∷ inside v.expr

  abbrev pub values_leaves : Values → List Token
  values_leaves v = v.equals ∷ list_leaves inside v.list

  abbrev pub pair_leaves : ExprPair → List Token
  pair_leaves p = inside p.first ++ p.comma ∷ inside p.second

  abbrev pub statement_leaves : Statement → List Token
  statement_leaves (statement.Empty s) = s ∷ []
  statement_leaves (statement.Ring a n e p c v k o s) = a ∷ n ∷ e ∷ p ∷ c ∷ (vars_leaves v ++ k ∷ (order_leaves o ++ s ∷ []))
  statement_leaves (statement.SetRing a n s) = a ∷ n ∷ s ∷ []
  statement_leaves (statement.NcAlgebra a n e k o x c s) = a ∷ n ∷ e ∷ k ∷ o ∷ (pair_leaves x ++ c ∷ s ∷ [])
  statement_leaves (statement.Def a n e x s) = a ∷ n ∷ e ∷ (inside x ++ s ∷ [])
  statement_leaves (statement.Poly a n v s) = a ∷ n ∷ (optional_leaves value_leaves v ++ s ∷ [])
  statement_leaves (statement.Ideal a n v s) = a ∷ n ∷ (optional_leaves values_leaves v ++ s ∷ [])
  statement_leaves (statement.Module a n v s) = a ∷ n ∷ (optional_leaves value_leaves v ++ s ∷ [])
  statement_leaves (statement.Matrix a n r c v s) = a ∷ n ∷ (side_leaves r ++ (side_leaves c ++ (optional_leaves values_leaves v ++ s ∷ [])))
  statement_leaves (statement.Option a g s) = a ∷ (token_group_leaves g ++ s ∷ [])
  statement_leaves (statement.Short a e n s) = a ∷ e ∷ n ∷ s ∷ []
  statement_leaves (statement.Quit a s) = a ∷ s ∷ []
  statement_leaves (statement.Assign n e l s) = n ∷ e ∷ (list_leaves inside l ++ s ∷ [])
  statement_leaves (statement.AssignEntry n o i c j k e x s) = n ∷ o ∷ i ∷ c ∷ j ∷ k ∷ e ∷ (inside x ++ s ∷ [])
  statement_leaves (statement.Print x s) = inside x ++ s ∷ []

-- of a script that opens no further level
abbrev pub leaves_within : ℕ → Script → List Token
leaves_within levels s = flat_map (statement_leaves (expr_leaves_within levels)) s.statements ++ s.end ∷ []
