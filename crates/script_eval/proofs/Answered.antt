-- What bytes are answered.
use Rattle.std.proofs.Common.{◌≡◌, ℕ, ◌≤◌, List, length, Result, Ok, Err, IfOk, refl, sym, subst}
use Rattle.std.proofs.lemmas.Result.{IfOk-weaker}
use Rattle.plural_lexer.specs.declared.token.Token.{Token}
use Rattle.plural_lexer.specs.declared.fault.LexFault.{LexFault}
use Rattle.plural_lexer.specs.declared.fault.LexFault.TheVariants as fault
use Rattle.plural_lexer.specs.Tokens.{Gives, AreTokensOf}
use Rattle.plural_syntax.specs.declared.tree.Script.{Script}
use Rattle.plural_syntax.specs.declared.parsing.SyntaxFault.{SyntaxFault}
use Rattle.plural_syntax.specs.declared.parsing.SyntaxFault.TheVariants as syntax
use Rattle.plural_syntax.specs.Words.{lexemes}
use Rattle.plural_syntax.specs.Outcome.{Answers}
use Rattle.word_model.specs.Answers.{Answer, most_bytes}
use Rattle.script_model.specs.Scripts.{IsAnswer, no_tokens, parsed, fault_answer, parse_answer}

not_memory : (s : Script) → ◌≡◌ {A = Result Script SyntaxFault} (Ok s) (Err syntax.Memory) → ⊥
not_memory s e = cc

module _ (budget : ℕ) (bytes : List ℕ) where
  -- a reply that is the answer
  pub answered : {E : Type 0} (result : Result Answer E) (a : Answer) → IfOk result (λ reply. reply ≡ a) → IsAnswer budget bytes a → IfOk result (IsAnswer budget bytes)
  answered result a is answers = IfOk-weaker result _ _ (λ reply e. subst (IsAnswer budget bytes) (sym e) answers) is

  -- the first fault of the tokens
  pub fault_answered : {E : Type 0} (result : Result Answer E) (e : LexFault) → length bytes ≤ most_bytes → Gives bytes (Err e)
      → IfOk result (λ reply. (e ≡ fault.Memory → ⊥) × (reply ≡ fault_answer e)) → IfOk result (IsAnswer budget bytes)
  fault_answered (Err memory) e short is answers = tt
  fault_answered (Ok reply) (fault.BadByte l c) short is answers = subst (IsAnswer budget bytes) (sym answers.1) (no_tokens (fault.BadByte l c) short is)
  fault_answered (Ok reply) (fault.LongNumber l c) short is answers = subst (IsAnswer budget bytes) (sym answers.1) (no_tokens (fault.LongNumber l c) short is)
  fault_answered (Ok reply) (fault.OpenComment l c) short is answers = subst (IsAnswer budget bytes) (sym answers.1) (no_tokens (fault.OpenComment l c) short is)
  fault_answered (Ok reply) fault.Memory short is answers = absurd (answers.0 refl)

  module _ (tokens : List Token) (short : length bytes ≤ most_bytes) (are : AreTokensOf bytes tokens) where
    pub script_answered : (s : Script) → Answers (lexemes bytes tokens) (Ok s) → IsAnswer budget bytes (parse_answer budget bytes (Ok s))
    script_answered s is = parsed tokens (Ok s) short are (not_memory s) is

    pub unexpected_answered : (line column : ℕ) → Answers (lexemes bytes tokens) (Err (syntax.Unexpected line column)) → IsAnswer budget bytes (parse_answer budget bytes (Err (syntax.Unexpected line column)))
    unexpected_answered line column is = parsed tokens (Err (syntax.Unexpected line column)) short are (λ e. cc) is

    pub deep_answered : (line column : ℕ) → Answers (lexemes bytes tokens) (Err (syntax.Deep line column)) → IsAnswer budget bytes (parse_answer budget bytes (Err (syntax.Deep line column)))
    deep_answered line column is = parsed tokens (Err (syntax.Deep line column)) short are (λ e. cc) is
