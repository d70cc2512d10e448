-- The statuses that scripts are answered.
use Rattle.std.proofs.Common.{ℕ, ◌≤◌, List, [], ◌∷◌, Result, Ok, Err, arith}
use Rattle.plural_lexer.specs.declared.fault.LexFault.{LexFault}
use Rattle.plural_lexer.specs.declared.fault.LexFault.TheVariants as fault
use Rattle.plural_syntax.specs.declared.tree.Script.{Script}
use Rattle.plural_syntax.specs.declared.tree.Statement.{Statement}
use Rattle.plural_syntax.specs.declared.parsing.SyntaxFault.{SyntaxFault}
use Rattle.plural_syntax.specs.declared.parsing.SyntaxFault.TheVariants as syntax
use Rattle.word_model.specs.Answers.{Answer}
use Rattle.script_model.specs.declared.values.Refusal.{Refusal}
use Rattle.script_model.specs.declared.values.Refusal.TheVariants as refused
use Rattle.script_model.specs.Refusals.{Outcome, status_of}
use Rattle.script_model.specs.Environment.{Environment, no_rings}
use Rattle.script_model.specs.Statements.{Done, Goes, Quits, done_by}
use Rattle.script_model.specs.Evaluation.{start_of, after, answer_from, evaluation}
use Rattle.script_model.specs.Scripts.{IsAnswer, too_long, no_tokens, parsed, parse_answer, fault_answer}

-- at most 4
abbrev IsSmall : Answer → Type 0
IsSmall a = a.status ≤ 4

status_small : (r : Refusal) → status_of r ≤ 4
status_small (refused.Coefficient i j) = omega arith
status_small (refused.Profile i j) = omega arith
status_small (refused.Ordering i j) = omega arith
status_small (refused.NonDegeneracy i j k rest) = omega arith
status_small (refused.BudgetSpent budget) = omega arith
status_small refused.BasisFull = omega arith
status_small refused.DegreeOver = omega arith
status_small _ = omega arith

after_small : (go : Environment → Answer) → ((E : Environment) → IsSmall (go E)) → (line : ℕ) (o : Outcome Done) → IsSmall (after go line o)
after_small go small line (Ok (Goes E text)) = small E
after_small go small line (Ok Quits) = omega arith
after_small go small line (Err r) = status_small r

module _ (bytes : List ℕ) (budget : ℕ) where
  from_small : (ss : List Statement) (E : Environment) → IsSmall (answer_from bytes budget ss E)
  from_small [] E = omega arith
  from_small (s ∷ ss) E = after_small (answer_from bytes budget ss) (from_small ss) (start_of s).line (done_by bytes budget E s)

  evaluation_small : (ss : List Statement) → IsSmall (evaluation bytes budget ss)
  unfolding evaluation
  evaluation_small ss = from_small ss no_rings

fault_small : (e : LexFault) → IsSmall (fault_answer e)
fault_small (fault.BadByte l c) = omega arith
fault_small (fault.LongNumber l c) = omega arith
fault_small (fault.OpenComment l c) = omega arith
fault_small fault.Memory = omega arith

parse_small : (budget : ℕ) (bytes : List ℕ) (r : Result Script SyntaxFault) → IsSmall (parse_answer budget bytes r)
parse_small budget bytes (Ok s) = evaluation_small bytes budget s.statements
parse_small budget bytes (Err (syntax.Unexpected l c)) = omega arith
parse_small budget bytes (Err (syntax.Deep l c)) = omega arith
parse_small budget bytes (Err syntax.Memory) = omega arith

-- whatever bytes are answered, the status is at most 4
pub answer-status : (budget : ℕ) (bytes : List ℕ) (a : Answer) → IsAnswer budget bytes a → a.status ≤ 4
answer-status budget bytes _ (too_long h) = omega arith
answer-status budget bytes _ (no_tokens e h l) = fault_small e
answer-status budget bytes _ (parsed ts r h l m n) = parse_small budget bytes r
