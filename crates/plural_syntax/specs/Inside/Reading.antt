-- How tokens are read, by one token ahead: what the code computes. That it is the grammar is proved.
use Rattle.std.specs.Prelude.{ℕ, zero, suc, ◌≡◌, Bool, not, cond, List, [], ◌∷◌, length, Option, Some, None, Result, Ok, Err}
use Rattle.std.specs.Option.{option_map}
use Rattle.plural_lexer.specs.declared.token.Token.{Token}
use denote.Bor.{Bor}
use Rattle.plural_syntax.specs.declared.reading.Stop.{Stop}
use Rattle.plural_syntax.specs.declared.reading.Stop.TheVariants as stop
use Rattle.plural_syntax.specs.declared.word.Word.{Word}
use Rattle.plural_syntax.specs.declared.word.Word.TheVariants as w
use Rattle.plural_syntax.specs.declared.statements.Start.{Start}
use Rattle.plural_syntax.specs.declared.statements.Start.TheVariants as start
use Rattle.plural_syntax.specs.Words.{Lexeme, word, lexemes, is, is_either, next, head_is, function_of, names_function}
use Rattle.plural_syntax.specs.declared.tree.Function.{Function}
use Rattle.plural_syntax.specs.declared.tree.Function.TheVariants as fn
use Rattle.plural_syntax.specs.declared.tree.FunctionName.{FunctionName}
use Rattle.plural_syntax.specs.declared.tree.Base.{Base}
use Rattle.plural_syntax.specs.declared.tree.Base.TheVariants as base
use Rattle.plural_syntax.specs.declared.tree.Scaled.{Scaled}
use Rattle.plural_syntax.specs.declared.tree.Scaled.TheVariants as scaled
use Rattle.plural_syntax.specs.declared.tree.Vars.{Vars}
use Rattle.plural_syntax.specs.declared.tree.Vars.TheVariants as vars
use Rattle.plural_syntax.specs.declared.tree.Order.{Order}
use Rattle.plural_syntax.specs.declared.tree.Order.TheVariants as order
use Rattle.plural_syntax.specs.declared.tree.Statement.{Statement}
use Rattle.plural_syntax.specs.declared.tree.Statement.TheVariants as statement
use Rattle.plural_syntax.specs.declared.tree.Factor.{Factor, roll-Factor}
use Rattle.plural_syntax.specs.declared.tree.Term.{Term, roll-Term}
use Rattle.plural_syntax.specs.declared.tree.Added.{Added, roll-Added}
use Rattle.plural_syntax.specs.declared.tree.Expr.{Expr, roll-Expr}
use Rattle.plural_syntax.specs.declared.tree.ExprAfter.{ExprAfter, roll-ExprAfter}
use Rattle.plural_syntax.specs.declared.tree.ExprList.{ExprList, roll-ExprList}
use Rattle.plural_syntax.specs.declared.tree.Power.{Power}
use Rattle.plural_syntax.specs.declared.tree.Index.{Index}
use Rattle.plural_syntax.specs.declared.tree.TokenAfter.{TokenAfter}
use Rattle.plural_syntax.specs.declared.tree.TokenList.{TokenList}
use Rattle.plural_syntax.specs.declared.tree.TokenGroup.{TokenGroup}
use Rattle.plural_syntax.specs.declared.tree.Item.{Item}
use Rattle.plural_syntax.specs.declared.tree.ItemAfter.{ItemAfter}
use Rattle.plural_syntax.specs.declared.tree.ItemList.{ItemList}
use Rattle.plural_syntax.specs.declared.tree.Value.{Value}
use Rattle.plural_syntax.specs.declared.tree.Values.{Values}
use Rattle.plural_syntax.specs.declared.tree.Side.{Side}
use Rattle.plural_syntax.specs.declared.tree.ExprPair.{ExprPair}
use Rattle.plural_syntax.specs.declared.tree.Script.{Script}

pub data Why : Type 0 where
  unexpected : Why
  deep : Why

-- a tree and the tokens after it, or a fault and the tokens from it on
abbrev pub Answer : Type 0 → Type 0
Answer A = Result (A × List Lexeme) (Why × List Lexeme)

abbrev pub Parser : Type 0 → Type 0
Parser A = List Lexeme → Answer A

abbrev pub pure : {A : Type 0} → A → Parser A
pure a ls = Ok (a, ls)

abbrev pub and_then : {A B : Type 0} → Answer A → (A → Parser B) → Answer B
and_then (Ok x) q = q x.0 x.1
and_then (Err e) q = Err e

infixl 10 ◌>>=◌
abbrev pub ◌>>=◌ : {A B : Type 0} → Parser A → (A → Parser B) → Parser B
◌>>=◌ p q ls = and_then (p ls) q

abbrev pub refuse : {A : Type 0} → Parser A
refuse ls = Err (unexpected, ls)

abbrev pub take : Word → Parser Token
take v [] = Err (unexpected, [])
take v (l ∷ ls) = cond (is v (word l)) (Ok (l.token, ls)) (Err (unexpected, l ∷ ls))

-- the name of a function
abbrev pub named_by : Option Function → Lexeme → Parser FunctionName
named_by None l ls = Err (unexpected, l ∷ ls)
named_by (Some f) l ls = Ok (record { token = l.token; function = f }, ls)

abbrev pub function_name : Parser FunctionName
function_name [] = Err (unexpected, [])
function_name (l ∷ ls) = named_by (function_of (word l)) l ls

-- by the next token
abbrev pub when : {A : Type 0} → (Word → Bool) → Parser A → Parser A → Parser A
when t p q ls = cond (head_is t ls) (p ls) (q ls)

unfoldable pub take_either : Word → Word → Parser Token
take_either v u = when (is v) (take v) (take u)

abbrev pub maybe : {A : Type 0} → Word → Parser A → Parser (Option A)
maybe v p = when (is v) (p >>= λ a. pure (Some a)) (pure None)

-- as long as the next token passes, at most k times
abbrev pub many_by : {A : Type 0} → ℕ → (Word → Bool) → Parser A → Parser (List A)
many_by zero t p ls = Ok ([], ls)
many_by (suc k) t p ls = cond (head_is t ls) (and_then (p ls) (λ a r. and_then (many_by k t p r) (λ more. pure (a ∷ more)))) (Ok ([], ls))

unfoldable pub many : {A : Type 0} → (Word → Bool) → Parser A → Parser (List A)
many t p ls = many_by (length ls) t p ls

-- '(', what is read inside where a level is left, ')'
abbrev pub level : {A : Type 0} → Option (Parser A) → Parser (Token × A × Token)
level None [] = Err (unexpected, [])
level None (l ∷ ls) = cond (is w.Open (word l)) (Err (deep, l ∷ ls)) (Err (unexpected, l ∷ ls))
level (Some p) ls = (take w.Open >>= λ a. p >>= λ i. take w.Close >>= λ b. pure (a, i, b)) ls

-- ---- lists of names or numbers

unfoldable pub token_after : Word → Parser TokenAfter
token_after v = take w.Comma >>= λ c. take v >>= λ t. pure (record { comma = c; token = t })

unfoldable pub token_list : Word → Parser TokenList
token_list v = take v >>= λ t. many (is w.Comma) (token_after v) >>= λ more. pure (record { first = t; more = more })

unfoldable pub token_group : Word → Parser TokenGroup
token_group v = take w.Open >>= λ a. token_list v >>= λ l. take w.Close >>= λ b. pure (record { opening = a; list = l; closing = b })

unfoldable pub second : Parser (Option TokenAfter)
second = maybe w.Comma (token_after w.Int)

unfoldable pub index : Parser Index
index = take w.OpenIndex >>= λ a. take w.Int >>= λ n. second >>= λ m. take w.CloseIndex >>= λ b. pure (record { opening = a; first = n; second = m; closing = b })

unfoldable pub power : Parser Power
power = take w.Power >>= λ a. take w.Int >>= λ n. pure (record { sign = a; exponent = n })

-- ---- expressions; `inner` reads an expression one level below

unfoldable pub expr_after_with : Parser Expr → Parser ExprAfter
expr_after_with expr = take w.Comma >>= λ a. expr >>= λ e. pure (roll-ExprAfter (record { comma = a; expr = e }))

unfoldable pub list_with : Parser Expr → Parser ExprList
list_with expr = expr >>= λ e. many (is w.Comma) (expr_after_with expr) >>= λ more. pure (roll-ExprList (record { first = e; more = more }))

unfoldable pub pair_with : Parser Expr → Parser ExprPair
pair_with expr = expr >>= λ e. take w.Comma >>= λ c. expr >>= λ f. pure (record { first = e; comma = c; second = f })

module _ (inner : Option (Parser Expr)) where
  unfoldable pub called_with : FunctionName → Parser Base
  called_with f = level (option_map list_with inner) >>= λ g. pure (base.Call f g.0 g.1 g.2)

  unfoldable pub base_with : Parser Base
  base_with =
      when (is w.Int) (take w.Int >>= λ a. pure (base.Int a))
      (when (is w.Name) (take w.Name >>= λ a. maybe w.OpenIndex index >>= λ i. pure (base.Name a i))
      (when names_function (function_name >>= called_with)
      (level inner >>= λ g. pure (base.Group g.0 g.1 g.2))))

  unfoldable pub factor_with : Parser Factor
  factor_with = base_with >>= λ b. maybe w.Power power >>= λ p. pure (roll-Factor (record { base = b; power = p }))

  unfoldable pub scaled_with : Parser Scaled
  scaled_with =
      when (is w.Times) (take w.Times >>= λ a. factor_with >>= λ f. pure (scaled.Times a f))
      (take w.Over >>= λ a. take w.Int >>= λ n. pure (scaled.Over a n))

  unfoldable pub term_with : Parser Term
  term_with = factor_with >>= λ f. many (is_either w.Times w.Over) scaled_with >>= λ more. pure (roll-Term (record { first = f; more = more }))

  unfoldable pub added_with : Parser Added
  added_with = take_either w.Plus w.Minus >>= λ a. term_with >>= λ t. pure (roll-Added (record { sign = a; term = t }))

  unfoldable pub sum_with : Option Token → Parser Expr
  sum_with s = term_with >>= λ t. many (is_either w.Plus w.Minus) added_with >>= λ more. pure (roll-Expr (record { sign = s; first = t; more = more }))

  unfoldable pub expr_with : Parser Expr
  expr_with = when (is_either w.Plus w.Minus) (take_either w.Plus w.Minus >>= λ a. sum_with (Some a)) (sum_with None)

  -- an expression whose first base is read
  unfoldable pub resumed_with : Base → Parser Expr
  resumed_with b = maybe w.Power power >>= λ p. many (is_either w.Times w.Over) scaled_with >>= λ ts. many (is_either w.Plus w.Minus) added_with >>= λ more.
      pure (roll-Expr (record { sign = None; first = roll-Term (record { first = roll-Factor (record { base = b; power = p }); more = ts }); more = more }))

-- with so many levels left
unfoldable pub expr : ℕ → Parser Expr
expr zero = expr_with None
expr (suc d) = expr_with (Some (expr d))

unfoldable pub inside : ℕ → Option (Parser Expr)
inside zero = None
inside (suc d) = Some (expr d)

-- ---- parts of statements

unfoldable pub read_vars : Parser Vars
read_vars = when (is w.Name) (take w.Name >>= λ n. pure (vars.One n)) (token_group w.Name >>= λ g. pure (vars.Many g))

unfoldable pub item : Parser Item
item = take w.Name >>= λ n. maybe w.Open (token_group w.Int) >>= λ g. pure (record { name = n; numbers = g })

unfoldable pub item_after : Parser ItemAfter
item_after = take w.Comma >>= λ c. item >>= λ i. pure (record { comma = c; item = i })

unfoldable pub item_list : Parser ItemList
item_list = item >>= λ i. many (is w.Comma) item_after >>= λ more. pure (record { first = i; more = more })

unfoldable pub read_order : Parser Order
read_order = when (is w.Name) (item >>= λ i. pure (order.One i)) (take w.Open >>= λ a. item_list >>= λ l. take w.Close >>= λ b. pure (order.Many a l b))

unfoldable pub side : Parser Side
side = take w.OpenIndex >>= λ a. take w.Int >>= λ n. take w.CloseIndex >>= λ b. pure (record { opening = a; number = n; closing = b })

-- ---- statements

-- the alternative that begins with a word
abbrev pub start_of : Option Word → Start
start_of (Some w.Semicolon) = start.Empty
start_of (Some w.Ring) = start.Ring
start_of (Some w.SetRing) = start.SetRing
start_of (Some w.Def) = start.Def
start_of (Some w.Poly) = start.Poly
start_of (Some (w.Function fn.Ideal)) = start.Ideal
start_of (Some w.Module) = start.Module
start_of (Some w.Matrix) = start.Matrix
start_of (Some w.Option) = start.Option
start_of (Some w.Short) = start.Short
start_of (Some w.Quit) = start.Quit
start_of (Some w.Name) = start.Name
start_of _ = start.Expr

unfoldable pub empty_statement : Parser Statement
empty_statement = take w.Semicolon >>= λ s. pure (statement.Empty s)

unfoldable pub ring_statement : Parser Statement
ring_statement =
    take w.Ring >>= λ a. take w.Name >>= λ n. take w.Equals >>= λ e. take w.Int >>= λ p. take w.Comma >>= λ c. read_vars >>= λ v. take w.Comma >>= λ k. read_order >>= λ o. take w.Semicolon >>= λ s.
    pure (statement.Ring a n e p c v k o s)

unfoldable pub set_ring_statement : Parser Statement
set_ring_statement = take w.SetRing >>= λ a. take w.Name >>= λ n. take w.Semicolon >>= λ s. pure (statement.SetRing a n s)

unfoldable pub option_statement : Parser Statement
option_statement = take w.Option >>= λ a. token_group w.Name >>= λ g. take w.Semicolon >>= λ s. pure (statement.Option a g s)

unfoldable pub short_statement : Parser Statement
short_statement = take w.Short >>= λ a. take w.Equals >>= λ e. take w.Int >>= λ n. take w.Semicolon >>= λ s. pure (statement.Short a e n s)

unfoldable pub quit_statement : Parser Statement
quit_statement = take w.Quit >>= λ a. take w.Semicolon >>= λ s. pure (statement.Quit a s)

module _ (inner : Option (Parser Expr)) where
  unfoldable pub value_with : Parser Value
  value_with = take w.Equals >>= λ e. expr_with inner >>= λ x. pure (record { equals = e; expr = x })

  unfoldable pub values_with : Parser Values
  values_with = take w.Equals >>= λ e. list_with (expr_with inner) >>= λ l. pure (record { equals = e; list = l })

  unfoldable pub print_with : Expr → Parser Statement
  print_with x = take w.Semicolon >>= λ s. pure (statement.Print x s)

  unfoldable pub printed_with : Base → Parser Statement
  printed_with b = resumed_with inner b >>= print_with

  unfoldable pub expr_statement_with : Parser Statement
  expr_statement_with = expr_with inner >>= print_with

  unfoldable pub defined_with : Token → Token → Token → Parser Statement
  defined_with a n e =
      when (is w.NcAlgebra) (take w.NcAlgebra >>= λ k. level (option_map pair_with inner) >>= λ g. take w.Semicolon >>= λ s. pure (statement.NcAlgebra a n e k g.0 g.1 g.2 s))
      (expr_with inner >>= λ x. take w.Semicolon >>= λ s. pure (statement.Def a n e x s))

  unfoldable pub def_with : Parser Statement
  def_with = take w.Def >>= λ a. take w.Name >>= λ n. take w.Equals >>= λ e. defined_with a n e

  unfoldable pub poly_with : Parser Statement
  poly_with = take w.Poly >>= λ a. take w.Name >>= λ n. maybe w.Equals value_with >>= λ v. take w.Semicolon >>= λ s. pure (statement.Poly a n v s)

  -- a declaration, or an expression that begins with the function
  unfoldable pub after_ideal : Token → Parser Statement
  after_ideal a =
      when (is w.Name) (take w.Name >>= λ n. maybe w.Equals values_with >>= λ v. take w.Semicolon >>= λ s. pure (statement.Ideal a n v s))
      (called_with inner (record { token = a; function = fn.Ideal }) >>= printed_with)

  unfoldable pub ideal_with : Parser Statement
  ideal_with = take (w.Function fn.Ideal) >>= after_ideal

  unfoldable pub module_with : Parser Statement
  module_with = take w.Module >>= λ a. take w.Name >>= λ n. maybe w.Equals value_with >>= λ v. take w.Semicolon >>= λ s. pure (statement.Module a n v s)

  unfoldable pub matrix_with : Parser Statement
  matrix_with = take w.Matrix >>= λ a. take w.Name >>= λ n. side >>= λ r. side >>= λ c. maybe w.Equals values_with >>= λ v. take w.Semicolon >>= λ s. pure (statement.Matrix a n r c v s)

  unfoldable pub assign_with : Token → Parser Statement
  assign_with n = take w.Equals >>= λ e. list_with (expr_with inner) >>= λ l. take w.Semicolon >>= λ s. pure (statement.Assign n e l s)

  unfoldable pub assign_entry_with : Token → Index → TokenAfter → Parser Statement
  assign_entry_with n i j = take w.Equals >>= λ e. expr_with inner >>= λ x. take w.Semicolon >>= λ s. pure (statement.AssignEntry n i.opening i.first j.comma j.token i.closing e x s)

  -- '=' stands behind no index, or behind one of two numbers
  abbrev pub assigned_entry : Token → Index → Option TokenAfter → Parser Statement
  assigned_entry n i None = refuse
  assigned_entry n i (Some j) = assign_entry_with n i j

  abbrev pub assigned_with : Token → Option Index → Parser Statement
  assigned_with n None = assign_with n
  assigned_with n (Some i) = assigned_entry n i i.second

  unfoldable pub after_name : Token → Option Index → Parser Statement
  after_name n i = when (is w.Equals) (assigned_with n i) (printed_with (base.Name n i))

  unfoldable pub named_with : Parser Statement
  named_with = take w.Name >>= λ n. maybe w.OpenIndex index >>= λ i. after_name n i

  abbrev pub statement_from : Start → Parser Statement
  statement_from start.Empty = empty_statement
  statement_from start.Ring = ring_statement
  statement_from start.SetRing = set_ring_statement
  statement_from start.Def = def_with
  statement_from start.Poly = poly_with
  statement_from start.Ideal = ideal_with
  statement_from start.Module = module_with
  statement_from start.Matrix = matrix_with
  statement_from start.Option = option_statement
  statement_from start.Short = short_statement
  statement_from start.Quit = quit_statement
  statement_from start.Name = named_with
  statement_from start.Expr = expr_statement_with

  unfoldable pub statement_with : Parser Statement
  statement_with ls = statement_from (start_of (next ls)) ls

abbrev pub not_end : Word → Bool
not_end v = not (is w.End v)

unfoldable pub statements : ℕ → Parser (List Statement)
statements d = many not_end (statement_with (inside d))

unfoldable pub script : ℕ → Parser Script
script d = statements d >>= λ ss. take w.End >>= λ e. pure (record { statements = ss; end = e })

-- ---- what the code gives, unless memory runs out

abbrev pub Fails : {A : Type 0} → List ℕ → Stop → Answer A → Type 0
Fails bytes stop.Memory read = Unit {0}
Fails bytes (stop.Unexpected rest) read = read ≡ Err (unexpected, lexemes bytes rest.now)
Fails bytes (stop.Deep rest) read = read ≡ Err (deep, lexemes bytes rest.now)

abbrev pub Gives : {A : Type 0} → List ℕ → Result (A × Bor (List Token)) Stop → Answer A → Type 0
Gives bytes (Ok x) read = read ≡ Ok (x.0, lexemes bytes x.1.now)
Gives bytes (Err e) read = Fails bytes e read
