-- A script: statement by statement, up to the first refusal, `quit` or the end.
use Rattle.std.specs.Prelude.{ℕ, List, [], ◌∷◌, ◌++◌, Option, Some, None, Ok, Err}
use Rattle.plural_lexer.specs.declared.token.Token.{Token}
use Rattle.plural_syntax.specs.Layers.{BaseLayer}
use Rattle.plural_syntax.specs.declared.tree.Base.{out-Base}
use Rattle.plural_syntax.specs.declared.tree.Base.TheOpen.{Base-F}
use Rattle.plural_syntax.specs.declared.tree.Factor.{out-Factor}
use Rattle.plural_syntax.specs.declared.tree.Term.{out-Term}
use Rattle.plural_syntax.specs.declared.tree.Expr.{Expr, out-Expr}
use Rattle.plural_syntax.specs.declared.tree.Statement.{Statement}
use Rattle.plural_syntax.specs.declared.tree.Statement.TheVariants as statement
use Rattle.word_model.specs.Answers.{Answer}
use Rattle.script_model.specs.Refusals.{Outcome, refusal_line, status_of}
use Rattle.script_model.specs.Environment.{Environment, no_rings, Text}
use Rattle.script_model.specs.Statements.{Done, Goes, Quits, done_by}

-- ---- where a statement begins

abbrev pub base_start : BaseLayer → Token
base_start (Base-F.Int n) = n
base_start (Base-F.Name name index) = name
base_start (Base-F.Group opening e closing) = opening
base_start (Base-F.Call name opening arguments closing) = name.token

abbrev pub expr_start : Option Token → Expr → Token
expr_start (Some sign) e = sign
expr_start None e = base_start (out-Base (out-Factor (out-Term (out-Expr e).first).first).base)

-- a statement's first token
abbrev pub start_of : Statement → Token
start_of (statement.Empty semicolon) = semicolon
start_of (statement.Ring keyword _ _ _ _ _ _ _ _) = keyword
start_of (statement.SetRing keyword _ _) = keyword
start_of (statement.NcAlgebra keyword _ _ _ _ _ _ _) = keyword
start_of (statement.Def keyword _ _ _ _) = keyword
start_of (statement.Poly keyword _ _ _) = keyword
start_of (statement.Ideal keyword _ _ _) = keyword
start_of (statement.Module keyword _ _ _) = keyword
start_of (statement.Matrix keyword _ _ _ _ _) = keyword
start_of (statement.Option keyword _ _) = keyword
start_of (statement.Short keyword _ _ _) = keyword
start_of (statement.Quit keyword _) = keyword
start_of (statement.Assign name _ _ _) = name
start_of (statement.AssignEntry name _ _ _ _ _ _ _ _) = name
start_of (statement.Print e _) = expr_start (out-Expr e).sign e

-- ---- all statements

-- the text so far in front of an answer
abbrev pub behind : Text → Answer → Answer
behind text a = record a { text = text ++ a.text }

-- what follows a statement, which begins at this line
abbrev pub after : (Environment → Answer) → ℕ → Outcome Done → Answer
after go line (Ok (Goes E text)) = behind text (go E)
after go line (Ok Quits) = record { text = []; status = 0 }
after go line (Err r) = record { text = refusal_line line r; status = status_of r }

module _ (bytes : List ℕ) (budget : ℕ) where
  abbrev pub answer_from : List Statement → Environment → Answer
  answer_from [] E = record { text = []; status = 0 }
  answer_from (s ∷ ss) E = after (answer_from ss) (start_of s).line (done_by bytes budget E s)

  -- The text and the status of a script.
  unfoldable pub evaluation : List Statement → Answer
  evaluation ss = answer_from ss no_rings
