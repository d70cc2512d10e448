-- Levels: a step that no end has, and what is read inside parentheses.
use Rattle.std.proofs.Common.{◌≡◌, ℕ, zero, suc, Bool, true, false, cond, [], ◌∷◌, ◌++◌, List, Err, Option, Some, None, inr, refl, sym, ap, subst, ◌∙◌}
use Rattle.plural_lexer.specs.declared.token.Token.{Token}
use Rattle.plural_syntax.specs.declared.word.Word.{Word}
use Rattle.plural_syntax.specs.declared.word.Word.TheVariants as w
use Rattle.plural_syntax.specs.Words.{Lexeme, word, is, head_is}
use Rattle.plural_syntax.specs.Levels.{Step, levels}
use Rattle.plural_syntax.specs.Grammar.{Lang}
use Rattle.plural_syntax.specs.Inside.Reading.{Parser, level}
use Rattle.plural_syntax.specs.Inside.Reading.Why.{unexpected, deep}
use Rattle.plural_syntax.proofs.Words.{sample, word-sample, same_word, is_word}
use Rattle.plural_syntax.proofs.Readers.{head_is-same, Begins, Stops, Seq, Takes, Nothing}
use Rattle.plural_syntax.proofs.Readers.Seq.{seq}
use Rattle.plural_syntax.proofs.Readers.Takes.{takes}
use Rattle.plural_syntax.proofs.Readers.Nothing.{nothing}
use Rattle.plural_syntax.proofs.Finders.{Fine, IsDeep}
use Rattle.plural_syntax.proofs.Rules.{Rule, in_set, rule_from, tok, into, yields}

-- the levels that are left behind a token other than an end
abbrev pub strict : Step ℕ
strict d v = cond (is w.End v) None (levels d v)

-- '(', the inside, ')'
pub data Levelled {A : Type 0} (R : Lang A) : (Token × A × Token) → List Lexeme → Type 0 where
  levelled : (l m : Lexeme) (a : A) (ls : List Lexeme) → word l ≡ w.Open → R a ls → word m ≡ w.Close → Levelled R (l.token, a, m.token) (l ∷ (ls ++ m ∷ []))

-- what is read inside at d levels
abbrev pub Inner : {A : Type 0} → ℕ → Option (Parser A) → Lang A → List Word → Type 0
Inner zero None R g = Begins R []
Inner (suc d) (Some p) R g = Rule strict d d p R g
Inner zero (Some p) R g = ⊥
Inner (suc d) None R g = ⊥

level_begins : {A : Type 0} (R : Lang A) → Begins R [] → (l : Lexeme) → word l ≡ w.Open → Begins (Levelled R) (l ∷ [])
level_begins R b l e = ((l.token, b.0, (sample w.Close).token), b.1 ++ sample w.Close ∷ [], levelled l (sample w.Close) b.0 b.1 e b.2 (word-sample w.Close))

level_some : {A : Type 0} (R : Lang A) → Begins R [] → Begins (Levelled R) []
level_some R b = (((sample w.Open).token, b.0, (sample w.Close).token), sample w.Open ∷ (b.1 ++ sample w.Close ∷ []), levelled (sample w.Open) (sample w.Close) b.0 b.1 (word-sample w.Open) b.2 (word-sample w.Close))

pub blocked_unexpected : {A : Type 0} (ls : List Lexeme) → head_is (is w.Open) ls ≡ false → level {A = A} None ls ≡ Err (unexpected, ls)
blocked_unexpected [] f = refl
blocked_unexpected (x ∷ xs) f = ap (λ c. cond c (Err (deep, x ∷ xs)) (Err (unexpected, x ∷ xs))) f

pub blocked_deep : {A : Type 0} (ls : List Lexeme) → head_is (is w.Open) ls ≡ true → level {A = A} None ls ≡ Err (deep, ls)
blocked_deep [] f = cc
blocked_deep (x ∷ xs) f = ap (λ c. cond c (Err (deep, x ∷ xs)) (Err (unexpected, x ∷ xs))) f

blocked_stops : {A : Type 0} (R : Lang A) → Begins R [] → (l : Lexeme) (ls : List Lexeme) (c : Bool) → is w.Open (word l) ≡ c → Stops strict 0 0 (level {A = A} None) (Levelled R) (l ∷ ls) (cond c (Err (deep, l ∷ ls)) (Err (unexpected, l ∷ ls)))
blocked_stops R b l ls true e = record { front = []; opener = l; more = ls; split = refl; at_opener = refl; opens = same_word w.Open (word l) e; left = 0; keeps = refl; stuck = ap (strict 0) (same_word w.Open (word l) e); begins = level_begins R b l (same_word w.Open (word l) e) }
blocked_stops R b l ls false e = record { front = []; split = refl; left = 0; keeps = refl; begins = level_some R b; local = λ other h. blocked_unexpected other (sym (head_is-same (is w.Open) (l ∷ ls) other h) ∙ e) }

level_stops : {A : Type 0} (R : Lang A) → Begins R [] → (ls : List Lexeme) → Stops strict 0 0 (level {A = A} None) (Levelled R) ls (level None ls)
level_stops R b [] = record { front = []; split = refl; left = 0; keeps = refl; begins = level_some R b; local = λ other h. blocked_unexpected other (sym (head_is-same (is w.Open) [] other h)) }
level_stops R b (l ∷ ls) = blocked_stops R b l ls (is w.Open (word l)) refl

blocked_again : {A : Type 0} (R : Lang A) (x : Token × A × Token) (ls rest : List Lexeme) → Levelled R x ls → Fine (level {A = A} None (ls ++ rest)) x rest
blocked_again R _ _ rest (levelled l m a ls e r f) = inr (subst IsDeep (sym (ap (λ c. cond c (Err (deep, l ∷ ((ls ++ m ∷ []) ++ rest))) (Err (unexpected, l ∷ ((ls ++ m ∷ []) ++ rest)))) (is_word w.Open (word l) refl e))) tt)

abbrev Within : {A : Type 0} → Lang A → Lang (Token × A × Token)
Within R = Seq (Takes w.Open) (λ a. Seq R (λ i. Seq (Takes w.Close) (λ b. Nothing (a, i, b))))

to_level : {A : Type 0} (R : Lang A) (x : Token × A × Token) (ls : List Lexeme) → Within R x ls → Levelled R x ls
to_level R _ _ (seq _ _ _ _ (takes l e) (seq a _ xs _ r (seq _ _ _ _ (takes m f) nothing))) = levelled l m a xs e r f

from_level : {A : Type 0} (R : Lang A) (x : Token × A × Token) (ls : List Lexeme) → Levelled R x ls → Within R x ls
from_level R _ _ (levelled l m a ls e r f) =
    seq l.token (l.token, a, m.token) (l ∷ []) (ls ++ m ∷ []) (takes l e)
    (seq a (l.token, a, m.token) ls (m ∷ []) r (seq m.token (l.token, a, m.token) (m ∷ []) [] (takes m f) nothing))

pub rule_level : {A : Type 0} (d : ℕ) (inner : Option (Parser A)) (R : Lang A) (g : List Word) → in_set g w.Close ≡ false → Inner d inner R g → Rule strict d d (level inner) (Levelled R) []
rule_level zero None R g k b = record { reads = record { some = level_some R b; stops = λ ls. level_stops R b ls }; finds = record { again = λ x xs rest r e. blocked_again R x xs rest r } }
rule_level zero (Some p) R g k b = absurd b
rule_level (suc d) None R g k b = absurd b
rule_level (suc d) (Some p) R g k r = rule_from (Levelled R) (to_level R) (from_level R) (tok w.Open refl (λ a. into w.Close k r (λ i. tok w.Close refl (λ b. yields))))

pub levelled_head : {A B : Type 0} {R : Lang A} {S : (Token × A × Token) → Lang B} (t : Word → Bool) (c : Bool) → t w.Open ≡ c → (b : B) (xs rest : List Lexeme) → Seq (Levelled R) S b xs → head_is t (xs ++ rest) ≡ c
levelled_head t c e _ _ rest (seq _ _ _ _ (levelled l m a ls h r k) s) = ap t h ∙ e
