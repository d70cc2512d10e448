-- Trees that are opened, and an expression that is evaluated.
use Rattle.std.proofs.Common.{◌≡◌, ℕ, ◌+◌, [], ◌∷◌, Some, None, Ok, Err, true, codes, replicate, refl, ap}
use Rattle.plural_lexer.specs.declared.token.Token.{Token}
use Rattle.plural_lexer.specs.declared.token.TokenKind.{TokenKind}
use Rattle.plural_lexer.specs.declared.token.TokenKind.TheVariants as kind
use Rattle.plural_syntax.specs.declared.tree.Base.{Base, out-Base}
use Rattle.plural_syntax.specs.declared.tree.Base.TheOpen.{Base-F}
use Rattle.plural_syntax.specs.declared.tree.Base.TheVariants as base
use Rattle.plural_syntax.specs.declared.tree.Factor.{Factor, roll-Factor, out-Factor}
use Rattle.plural_syntax.specs.declared.tree.Base.TheViews.{out-roll-Factor}
use Rattle.plural_syntax.specs.declared.tree.Expr.{Expr, roll-Expr}
use Rattle.plural_syntax.specs.declared.tree.Term.{roll-Term}
use Rattle.plural_syntax.specs.declared.tree.Added.{roll-Added}
use Rattle.plural_syntax.specs.declared.tree.Scaled.TheVariants as scaled
use Rattle.monomials.specs.declared.order.Block.TheVariants.{DegRev, Extra, WeightRev}
use Rattle.std.specs.Fmt.{digits}
use Rattle.plural_syntax.specs.declared.tree.Vars.TheVariants as vars
use Rattle.plural_syntax.specs.declared.tree.Order.{Order}
use Rattle.plural_syntax.specs.declared.tree.Order.TheVariants as order
use Rattle.plural_syntax.specs.declared.tree.ExprList.{roll-ExprList}
use Rattle.plural_syntax.specs.declared.tree.Statement.{Statement}
use Rattle.plural_syntax.specs.declared.tree.Statement.TheVariants as statement
use Rattle.word_model.specs.Words.{normal_form, normal_form_within}
use Rattle.word_model.specs.Products.{product}
use Rattle.word_model.specs.TwoVariables.{two_variables}
use Rattle.script_model.specs.declared.values.Value.TheVariants.{Poly}
use Rattle.script_model.specs.declared.values.Refusal.TheVariants as refused
use Rattle.script_model.specs.Environment.{Ring, Scope, no_rings}
use Rattle.script_model.specs.Orders.{blocks_of}
use Rattle.script_model.specs.Statements.{done_by, new_ring}
use Rattle.script_model.specs.Evaluation.{evaluation}
use Rattle.script_model.specs.Expressions.{value_within, expr_value, term_value, factor_value, base_value, scaled_by, with_added}

abbrev t : Token
t = record { kind = kind.Int; start = 0; end = 1; line = 1; column = 1 }

int_opened : out-Base (base.Int t) ≡ Base-F.Int t
unfolding Rattle.plural_syntax.specs.declared.tree.Base.TheViews.out-Base Rattle.plural_syntax.specs.declared.tree.Base.TheViews.roll-Base denote.Hole.Carrier.out denote.Hole.Carrier.roll denote.Hole.Carrier.shown denote.Hole.Carrier.hidden
int_opened = refl

factor_opened : (out-Factor (roll-Factor (record { base = base.Int t; power = None }))).base ≡ base.Int t
unfolding denote.Hole.Carrier.out denote.Hole.Carrier.roll denote.Hole.Carrier.shown denote.Hole.Carrier.hidden
factor_opened = refl

factor_law : (out-Factor (roll-Factor (record { base = base.Int t; power = None }))).base ≡ base.Int t
factor_law = ap (λ r. r.base) (out-roll-Factor (record { base = base.Int t; power = None }))

group_opened : (e : Expr) → out-Base (base.Group t e t) ≡ Base-F.Group t e t
unfolding Rattle.plural_syntax.specs.declared.tree.Base.TheViews.out-Base Rattle.plural_syntax.specs.declared.tree.Base.TheViews.roll-Base denote.Hole.Carrier.out denote.Hole.Carrier.roll denote.Hole.Carrier.shown denote.Hole.Carrier.hidden Rattle.plural_syntax.specs.declared.tree.Base.TheBlock.shown-the_row-Expr-0 Rattle.plural_syntax.specs.declared.tree.Base.TheBlock.hidden-the_row-Expr-0
group_opened e = refl

-- ---- d*x+1 over the Weyl algebra modulo 7

abbrev sign : ℕ → Token
sign at = record { kind = kind.Sign; start = at; end = at + 1; line = 1; column = at + 1 }

abbrev name : ℕ → Token
name at = record { kind = kind.Name; start = at; end = at + 1; line = 1; column = at + 1 }

abbrev factor_of : Base → Factor
factor_of b = roll-Factor (record { base = b; power = None })

abbrev product_and_one : Expr
product_and_one = roll-Expr (record {
  sign = None;
  first = roll-Term (record { first = factor_of (base.Name (name 0) None); more = scaled.Times (sign 1) (factor_of (base.Name (name 2) None)) ∷ [] });
  more = roll-Added (record { sign = sign 3; term = roll-Term (record { first = factor_of (base.Int (record { kind = kind.Int; start = 4; end = 5; line = 1; column = 5 })); more = [] }) }) ∷ [];
})

abbrev W : Ring
W = record { names = codes "x" ∷ codes "d" ∷ []; blocks = DegRev 2 ∷ []; algebra = two_variables 7 1 1; made = true; values = [] }

abbrev scope : Scope
scope = record { bytes = codes "d*x+1"; budget = 1; environment = no_rings; ring = W }

evaluated : value_within scope 65 product_and_one ≡ Ok (Poly ((1, 1 ∷ 1 ∷ []) ∷ (2, 0 ∷ 0 ∷ []) ∷ []))
unfolding value_within expr_value term_value factor_value base_value scaled_by with_added product normal_form normal_form_within Rattle.plural_syntax.specs.declared.tree.Base.TheViews.out-Base Rattle.plural_syntax.specs.declared.tree.Base.TheViews.roll-Base Rattle.plural_syntax.specs.declared.tree.Base.TheViews.out-Scaled Rattle.plural_syntax.specs.declared.tree.Base.TheViews.roll-Scaled Rattle.plural_syntax.specs.declared.tree.Base.TheViews.out-Expr Rattle.plural_syntax.specs.declared.tree.Base.TheViews.roll-Expr Rattle.plural_syntax.specs.declared.tree.Base.TheBlock.shown-the_row-Scaled-2 Rattle.plural_syntax.specs.declared.tree.Base.TheBlock.shown-the_row-Added-3 denote.Hole.Carrier.out denote.Hole.Carrier.roll denote.Hole.Carrier.shown denote.Hole.Carrier.hidden Rattle.plural_syntax.specs.declared.tree.Base.TheBlock.shown-the_row-Expr-0 Rattle.plural_syntax.specs.declared.tree.Base.TheBlock.hidden-the_row-Expr-0
evaluated = refl

-- ---- a script of three statements, all in line 1

abbrev token : TokenKind → ℕ → ℕ → Token
token k at end = record { kind = k; start = at; end = end; line = 1; column = at + 1 }

abbrev alone : Base → Expr
alone b = roll-Expr (record { sign = None; first = roll-Term (record { first = factor_of b; more = [] }); more = [] })

abbrev ring_statement : Statement
ring_statement =
    statement.Ring (token kind.Reserved 0 4) (name 5) (sign 7) (token kind.Int 9 10) (sign 10)
    (vars.Many (record { opening = sign 11; list = record { first = name 12; more = record { comma = sign 13; token = name 14 } ∷ [] }; closing = sign 15 }))
    (sign 16) (order.One (record { name = token kind.Name 17 19; numbers = None })) (sign 19)

abbrev product_at : Expr
product_at = roll-Expr (record {
  sign = None;
  first = roll-Term (record { first = factor_of (base.Name (name 20) None); more = scaled.Times (sign 21) (factor_of (base.Name (name 22) None)) ∷ [] });
  more = roll-Added (record { sign = sign 23; term = roll-Term (record { first = factor_of (base.Int (token kind.Int 24 25)); more = [] }) }) ∷ [];
})

three_statements : evaluation (codes "ring r = 7,(x,d),dp;d*x+1;q;") 1 (ring_statement ∷ statement.Print product_at (sign 25) ∷ statement.Print (alone (base.Name (name 26) None)) (sign 27) ∷ [])
    ≡ record { text = codes "x*d+1\n? line 1: Name q\n"; status = 1 }
unfolding evaluation done_by blocks_of digits value_within expr_value term_value factor_value base_value scaled_by with_added product normal_form normal_form_within Rattle.plural_syntax.specs.declared.tree.Base.TheViews.out-Base Rattle.plural_syntax.specs.declared.tree.Base.TheViews.roll-Base Rattle.plural_syntax.specs.declared.tree.Base.TheViews.out-Scaled Rattle.plural_syntax.specs.declared.tree.Base.TheViews.roll-Scaled Rattle.plural_syntax.specs.declared.tree.Base.TheViews.out-Expr Rattle.plural_syntax.specs.declared.tree.Base.TheViews.roll-Expr Rattle.plural_syntax.specs.declared.tree.Base.TheBlock.shown-the_row-Scaled-2 Rattle.plural_syntax.specs.declared.tree.Base.TheBlock.shown-the_row-Added-3 denote.Hole.Carrier.out denote.Hole.Carrier.roll denote.Hole.Carrier.shown denote.Hole.Carrier.hidden Rattle.plural_syntax.specs.declared.tree.Base.TheBlock.shown-the_row-Expr-0 Rattle.plural_syntax.specs.declared.tree.Base.TheBlock.hidden-the_row-Expr-0
three_statements = refl

-- ---- orders

abbrev weighted : Order
weighted =
    order.Many (sign 0)
    (record {
      first = record { name = name 1; numbers = Some (record { opening = sign 2; list = record { first = token kind.Int 3 4; more = [] }; closing = sign 4 }) };
      more =
          record { comma = sign 5; item = record { name = token kind.Name 6 8; numbers = Some (record { opening = sign 8; list = record { first = token kind.Int 9 10; more = record { comma = sign 10; token = token kind.Int 11 12 } ∷ [] }; closing = sign 12 }) } }
          ∷ record { comma = sign 13; item = record { name = name 14; numbers = None } } ∷ [];
    })
    (sign 15)

-- weights, and an item without effect
with_weights : blocks_of (codes "(a(1),wp(2,3),C)") 2 weighted ≡ Some (Extra (1 ∷ []) ∷ WeightRev (2 ∷ 3 ∷ []) ∷ [])
unfolding blocks_of
with_weights = refl

-- a weight of zero, in another place than `a`
zero_weight : blocks_of (codes "(a(0),wp(0,3),C)") 2 weighted ≡ None
unfolding blocks_of
zero_weight = refl

-- a variable that is not covered
uncovered : blocks_of (codes "(a(1),wp(2,3),C)") 3 weighted ≡ None
unfolding blocks_of
uncovered = refl

-- two numbers of `dp`, a `c` that is not last, another name
two_numbers : blocks_of (codes "(a(1),dp(1,1),C)") 2 weighted ≡ None
unfolding blocks_of
two_numbers = refl

component_first : blocks_of (codes "(c(1),wp(2,3),C)") 2 weighted ≡ None
unfolding blocks_of
component_first = refl

other_name : blocks_of (codes "(a(1),ds(2,3),C)") 2 weighted ≡ None
unfolding blocks_of
other_name = refl

-- a ring's refusals in their order
characteristic_first : new_ring (codes "(a(1),wp(2,3),C)") 8 (codes "x" ∷ codes "x" ∷ []) weighted ≡ Err (refused.Characteristic 8)
characteristic_first = refl

many_variables : new_ring (codes "(a(1),wp(2,3),C)") 7 (replicate 17 (codes "x")) weighted ≡ Err refused.Limit
many_variables = refl

taken_first : new_ring (codes "(a(1),wp(2,3),C)") 7 (codes "x" ∷ codes "y" ∷ codes "y" ∷ codes "x" ∷ []) weighted ≡ Err (refused.Taken (codes "x"))
unfolding blocks_of
taken_first = refl

then_order : new_ring (codes "(a(1),wp(2,3),C)") 7 (codes "x" ∷ codes "y" ∷ codes "z" ∷ []) weighted ≡ Err refused.BadOrder
unfolding blocks_of
then_order = refl

-- ---- a matrix is declared, an entry is assigned, and it is printed

with_matrix : evaluation (codes "ring r=7,(x,d),dp;matrix D[2][2]=x;D[2,1]=d;D;") 1
    (statement.Ring (token kind.Reserved 0 4) (name 5) (sign 6) (token kind.Int 7 8) (sign 8)
    (vars.Many (record { opening = sign 9; list = record { first = name 10; more = record { comma = sign 11; token = name 12 } ∷ [] }; closing = sign 13 }))
    (sign 14) (order.One (record { name = token kind.Name 15 17; numbers = None })) (sign 17)
    ∷ statement.Matrix (token kind.Reserved 18 24) (name 25) (record { opening = sign 26; number = token kind.Int 27 28; closing = sign 28 }) (record { opening = sign 29; number = token kind.Int 30 31; closing = sign 31 })
    (Some (record { equals = sign 32; list = roll-ExprList (record { first = alone (base.Name (name 33) None); more = [] }) })) (sign 34)
    ∷ statement.AssignEntry (name 35) (sign 36) (token kind.Int 37 38) (sign 38) (token kind.Int 39 40) (sign 40) (sign 41) (alone (base.Name (name 42) None)) (sign 43)
    ∷ statement.Print (alone (base.Name (name 44) None)) (sign 45) ∷ [])
    ≡ record { text = codes "D[1,1]=x\nD[1,2]=0\nD[2,1]=d\nD[2,2]=0\n"; status = 0 }
unfolding evaluation done_by blocks_of digits value_within expr_value term_value factor_value base_value scaled_by with_added Rattle.plural_syntax.specs.declared.tree.Base.TheViews.out-Base Rattle.plural_syntax.specs.declared.tree.Base.TheViews.roll-Base Rattle.plural_syntax.specs.declared.tree.Base.TheViews.out-Scaled Rattle.plural_syntax.specs.declared.tree.Base.TheViews.roll-Scaled Rattle.plural_syntax.specs.declared.tree.Base.TheViews.out-Expr Rattle.plural_syntax.specs.declared.tree.Base.TheViews.roll-Expr Rattle.plural_syntax.specs.declared.tree.Base.TheBlock.shown-the_row-Scaled-2 Rattle.plural_syntax.specs.declared.tree.Base.TheBlock.shown-the_row-Added-3 denote.Hole.Carrier.out denote.Hole.Carrier.roll denote.Hole.Carrier.shown denote.Hole.Carrier.hidden Rattle.plural_syntax.specs.declared.tree.Base.TheBlock.shown-the_row-Expr-0 Rattle.plural_syntax.specs.declared.tree.Base.TheBlock.hidden-the_row-Expr-0 Rattle.plural_syntax.specs.declared.tree.Base.TheViews.out-ExprList Rattle.plural_syntax.specs.declared.tree.Base.TheViews.roll-ExprList Rattle.plural_syntax.specs.declared.tree.Base.TheBlock.shown-the_row-ExprAfter-4
with_matrix = refl

-- ---- a value of another ring

other_ring : evaluation (codes "ring r=7,(x,d),dp;poly f;ring s=7,(x,d),dp;f;") 1
    (statement.Ring (token kind.Reserved 0 4) (name 5) (sign 6) (token kind.Int 7 8) (sign 8)
    (vars.Many (record { opening = sign 9; list = record { first = name 10; more = record { comma = sign 11; token = name 12 } ∷ [] }; closing = sign 13 }))
    (sign 14) (order.One (record { name = token kind.Name 15 17; numbers = None })) (sign 17)
    ∷ statement.Poly (token kind.Reserved 18 22) (name 23) None (sign 24)
    ∷ statement.Ring (token kind.Reserved 25 29) (name 30) (sign 31) (token kind.Int 32 33) (sign 33)
    (vars.Many (record { opening = sign 34; list = record { first = name 35; more = record { comma = sign 36; token = name 37 } ∷ [] }; closing = sign 38 }))
    (sign 39) (order.One (record { name = token kind.Name 40 42; numbers = None })) (sign 42)
    ∷ statement.Print (alone (base.Name (name 43) None)) (sign 44) ∷ [])
    ≡ record { text = codes "? line 1: WrongRing f\n"; status = 1 }
unfolding evaluation done_by blocks_of digits value_within expr_value term_value factor_value base_value scaled_by with_added Rattle.plural_syntax.specs.declared.tree.Base.TheViews.out-Base Rattle.plural_syntax.specs.declared.tree.Base.TheViews.roll-Base Rattle.plural_syntax.specs.declared.tree.Base.TheViews.out-Scaled Rattle.plural_syntax.specs.declared.tree.Base.TheViews.roll-Scaled Rattle.plural_syntax.specs.declared.tree.Base.TheViews.out-Expr Rattle.plural_syntax.specs.declared.tree.Base.TheViews.roll-Expr Rattle.plural_syntax.specs.declared.tree.Base.TheBlock.shown-the_row-Scaled-2 Rattle.plural_syntax.specs.declared.tree.Base.TheBlock.shown-the_row-Added-3 denote.Hole.Carrier.out denote.Hole.Carrier.roll denote.Hole.Carrier.shown denote.Hole.Carrier.hidden Rattle.plural_syntax.specs.declared.tree.Base.TheBlock.shown-the_row-Expr-0 Rattle.plural_syntax.specs.declared.tree.Base.TheBlock.hidden-the_row-Expr-0
other_ring = refl

-- ---- without a ring every expression is refused, whatever stands in it

no_ring : evaluation (codes "f;") 1 (statement.Print (alone (base.Name (name 0) None)) (sign 1) ∷ []) ≡ record { text = codes "? line 1: NoRing\n"; status = 1 }
unfolding evaluation done_by digits Rattle.plural_syntax.specs.declared.tree.Base.TheViews.out-Base Rattle.plural_syntax.specs.declared.tree.Base.TheViews.roll-Base Rattle.plural_syntax.specs.declared.tree.Base.TheViews.out-Scaled Rattle.plural_syntax.specs.declared.tree.Base.TheViews.roll-Scaled Rattle.plural_syntax.specs.declared.tree.Base.TheViews.out-Expr Rattle.plural_syntax.specs.declared.tree.Base.TheViews.roll-Expr Rattle.plural_syntax.specs.declared.tree.Base.TheBlock.shown-the_row-Scaled-2 Rattle.plural_syntax.specs.declared.tree.Base.TheBlock.shown-the_row-Added-3 denote.Hole.Carrier.out denote.Hole.Carrier.roll denote.Hole.Carrier.shown denote.Hole.Carrier.hidden Rattle.plural_syntax.specs.declared.tree.Base.TheBlock.shown-the_row-Expr-0 Rattle.plural_syntax.specs.declared.tree.Base.TheBlock.hidden-the_row-Expr-0
no_ring = refl
