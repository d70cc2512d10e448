-- What the loops of the code keep, and how levels are counted.
use Rattle.std.proofs.Common.{◌≡◌, ℕ, zero, suc, ◌-◌, ◌<◌, Bool, true, false, [], ◌∷◌, ◌++◌, List, Ok, Err, Some, None, refl, ap, arith}
use Rattle.plural_syntax.specs.declared.word.Word.{Word}
use Rattle.plural_syntax.specs.declared.reading.Stop.{Stop}
use Rattle.plural_syntax.specs.declared.reading.Stop.TheVariants as stop
use Rattle.plural_syntax.specs.Words.{Lexeme, head_is}
use Rattle.plural_syntax.specs.Levels.{Step}
use Rattle.plural_syntax.specs.Grammar.{Lang, IsTokenAfter, IsScaled, IsAdded, IsExpr, IsExprAfter}
use Rattle.plural_syntax.specs.Inside.Reading.{Why, Answer, Parser, many, token_after, scaled_with, added_with, expr_after_with, expr_with, expr, inside, Fails}
use Rattle.plural_syntax.proofs.Readers.{prepend, loop_returns, loop_err, loop_goes}
use Rattle.plural_syntax.proofs.Rules.{Rule, Starts, nonempty_starts}
use Rattle.plural_syntax.proofs.Strict.{strict}
use Rattle.plural_syntax.proofs.ExprRules.{goes_factor, goes_term, goes_expr, rule_token_after, rule_scaled, rule_added, rule_expr_after, rule_expr_with, inside_ok}

pub fails_through : {A B : Type 0} (bytes : List ℕ) (e : Stop) (r : Answer A) (s : Answer B) → ((x : Why × List Lexeme) → r ≡ Err x → s ≡ Err x) → Fails bytes e r → Fails bytes e s
fails_through bytes stop.Memory r s f h = tt
fails_through bytes (stop.Unexpected rest) r s f h = f _ h
fails_through bytes (stop.Deep rest) r s f h = f _ h

module _ {T A : Type 0} {step : Step T} {d : T} {p : Parser A} {R : Lang A} {g : List Word} (t : Word → Bool) (starts : Starts t R) (r : Rule step d d p R g) (found : List A) (all : Answer (List A)) (ls : List Lexeme) (i : prepend found (many t p ls) ≡ all) where
  pub repeats_end : head_is t ls ≡ false → all ≡ Ok (found, ls)
  repeats_end e = loop_returns step d t p R (nonempty_starts t R starts) r.reads found all ls i e

  pub repeats_fail : head_is t ls ≡ true → (bytes : List ℕ) (e : Stop) → Fails bytes e (p ls) → Fails bytes e all
  repeats_fail e bytes s h = fails_through bytes s (p ls) all (loop_err step d t p R (nonempty_starts t R starts) r.reads found all ls i e) h

  pub repeats_go : head_is t ls ≡ true → (a : A) (rest : List Lexeme) → p ls ≡ Ok (a, rest) → prepend (found ++ a ∷ []) (many t p rest) ≡ all
  repeats_go e a rest f = loop_goes step d t p R (nonempty_starts t R starts) r.reads found all ls i e a rest f

-- every token keeps the state
abbrev any : Step ℕ
any d v = Some d

pub token_after_loops : (v : Word) → Rule any 0 0 (token_after v) (IsTokenAfter v) []
token_after_loops v = rule_token_after any 0 v refl refl

pub scaled_rule : (d : ℕ) → Rule strict d d (scaled_with (inside d)) IsScaled goes_factor
scaled_rule d = rule_scaled d (inside d) (inside_ok d)

pub added_rule : (d : ℕ) → Rule strict d d (added_with (inside d)) IsAdded goes_term
added_rule d = rule_added d (inside d) (inside_ok d)

pub expr_rule : (d : ℕ) → Rule strict d d (expr_with (inside d)) IsExpr goes_expr
expr_rule d = rule_expr_with d (inside d) (inside_ok d)

pub expr_after_rule : (d : ℕ) → Rule strict d d (expr_after_with (expr_with (inside d))) IsExprAfter goes_expr
expr_after_rule d = rule_expr_after d (expr_with (inside d)) (expr_rule d)

expr_is : (d : ℕ) → expr d ≡ expr_with (inside d)
unfolding expr inside
expr_is zero = refl
expr_is (suc d) = refl

pub inside_zero : (d : ℕ) → d ≡ 0 → inside d ≡ None
unfolding inside
inside_zero zero e = refl
inside_zero (suc d) e = absurd (omega arith)

pub inside_step : (d : ℕ) → 0 < d → inside d ≡ Some (expr_with (inside (d - 1)))
unfolding inside
inside_step zero h = absurd (omega arith)
inside_step (suc d) h = let e : suc d - 1 ≡ d = omega arith in rw e (ap Some (expr_is d))
