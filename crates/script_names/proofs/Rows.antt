-- Worked rows: variables that have names, and what is no name.
use Rattle.std.proofs.Common.{ℕ, ◌+◌, [], ◌∷◌, None, codes, refl}
use Rattle.plural_lexer.specs.declared.token.Token.{Token}
use Rattle.plural_lexer.specs.declared.token.TokenKind.{TokenKind}
use Rattle.plural_lexer.specs.declared.token.TokenKind.TheVariants as kind
use Rattle.plural_syntax.specs.declared.tree.Order.TheVariants as order
use Rattle.plural_syntax.specs.declared.tree.Statement.{Statement}
use Rattle.plural_syntax.specs.declared.tree.Statement.TheVariants as statement
use Rattle.plural_syntax.specs.declared.tree.Vars.{Vars}
use Rattle.plural_syntax.specs.declared.tree.Vars.TheVariants as vars
use Rattle.script_names.specs.Named.{HasNames}

abbrev token : TokenKind → ℕ → ℕ → Token
token k at end = record { kind = k; start = at; end = end; line = 1; column = at + 1 }

abbrev sign : ℕ → Token
sign at = token kind.Sign at (at + 1)

abbrev name : ℕ → ℕ → Token
name at end = token kind.Name at end

abbrev ring_of : Vars → Statement
ring_of v =
    statement.Ring (token kind.Reserved 0 4) (name 5 6) (sign 7) (token kind.Int 9 10) (sign 10) v
    (sign 17) (order.One (record { name = name 18 20; numbers = None })) (sign 20)

-- a group of variables
abbrev two : Vars
two = vars.Many (record { opening = sign 11; list = record { first = name 12 13; more = record { comma = sign 13; token = name 14 16 } ∷ [] }; closing = sign 16 })

group_named : HasNames (codes "ring r = 7,(x,d2),dp;") (ring_of two)
group_named = ((refl, tt), ((refl, (refl, tt)), tt))

-- one variable
one_named : HasNames (codes "ring r = 7,x_2   ,dp;") (ring_of (vars.One (name 11 14)))
one_named = ((refl, (refl, (refl, tt))), tt)

-- over other bytes the same tree has a variable that begins with a digit
digit_first : HasNames (codes "ring r = 7,(x,2d),dp;") (ring_of two) → ⊥
digit_first h = cc (h.1.0.0)

-- other statements have no variables
others : (a s : Token) → HasNames (codes "quit;") (statement.Quit a s)
others a s = tt
