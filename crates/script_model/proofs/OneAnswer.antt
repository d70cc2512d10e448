-- Bytes have one answer at most.
use Rattle.std.proofs.Common.{◌≡◌, ℕ, List, [], Result, Ok, Err, refl, ap, subst, arith}
use Rattle.plural_lexer.specs.declared.token.Token.{Token}
use Rattle.plural_lexer.specs.declared.fault.LexFault.{LexFault}
use Rattle.plural_lexer.proofs.Answers.{once}
use Rattle.plural_syntax.proofs.OneOutcome.{one_outcome}
use Rattle.plural_syntax.specs.Words.{lexemes}
use Rattle.plural_syntax.specs.Outcome.{Answers}
use Rattle.word_model.specs.Answers.{Answer}
use Rattle.script_model.specs.Scripts.{IsAnswer, too_long, no_tokens, parsed, parse_answer, fault_answer}

tokens_differ : (e : LexFault) (ts : List Token) → ◌≡◌ {A = Result (List Token) LexFault} (Err e) (Ok ts) → ⊥
tokens_differ e ts h = cc

pub one_answer : (budget : ℕ) (bytes : List ℕ) (a b : Answer) → IsAnswer budget bytes a → IsAnswer budget bytes b → a ≡ b
one_answer budget bytes _ _ (too_long h) (too_long k) = refl
one_answer budget bytes _ _ (too_long h) (no_tokens e k l) = absurd (omega (arith, h, k))
one_answer budget bytes _ _ (too_long h) (parsed ts r k l m n) = absurd (omega (arith, h, k))
one_answer budget bytes _ _ (no_tokens e h l) (too_long k) = absurd (omega (arith, h, k))
one_answer budget bytes _ _ (no_tokens e h l) (no_tokens f k m) = let equal : ◌≡◌ {A = Result (List Token) LexFault} (Err e) (Err f) = once [] bytes _ l _ m in let same : e ≡ f = cc in ap fault_answer same
one_answer budget bytes _ _ (no_tokens e h l) (parsed ts r k m n o) = absurd (tokens_differ e ts (once [] bytes _ l _ m))
one_answer budget bytes _ _ (parsed ts r k m n o) (too_long h) = absurd (omega (arith, h, k))
one_answer budget bytes _ _ (parsed ts r k m n o) (no_tokens e h l) = absurd (tokens_differ e ts (once [] bytes _ l _ m))
one_answer budget bytes _ _ (parsed ts r k m n o) (parsed us s l p q t) =
    let equal : ◌≡◌ {A = Result (List Token) LexFault} (Ok ts) (Ok us) = once [] bytes _ m _ p in
    let same : ts ≡ us = cc in
    ap (parse_answer budget bytes) (one_outcome (lexemes bytes us) r s n q (subst (λ vs. Answers (lexemes bytes vs) r) same o) t)
