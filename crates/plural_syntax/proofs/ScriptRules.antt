-- Scripts: what `parse` answers, and that tokens spell one script at most.
use Rattle.std.proofs.Common.{◌≡◌, ℕ, zero, suc, ◌+◌, ◌≤◌, ◌<◌, ◌&&◌, Bool, true, false, not, cond, if◌then◌else◌, [], ◌∷◌, ◌++◌, List, length, map, get_or, Ok, Err, Option, Some, None, inl, inr, refl, sym, ap, subst, ◌∙◌, arith, append_assoc, append-nil, length-append}
use Rattle.std.proofs.lemmas.Bool.{true≢false}
use lib.Pointwise.{pointwise}
use lib.Dec.{eqb}
use Rattle.plural_lexer.specs.declared.token.Token.{Token}
use Rattle.plural_lexer.specs.declared.token.TokenKind.{TokenKind}
use Rattle.plural_lexer.specs.declared.token.TokenKind.TheVariants as kind
use Rattle.plural_lexer.specs.Tokens.{AreTokensOf, HasNoEnd, end_of}
use Rattle.plural_lexer.proofs.Answers.{ends_well}
use Rattle.plural_syntax.specs.declared.word.Word.{Word}
use Rattle.plural_syntax.specs.declared.word.Word.TheVariants as w
use Rattle.plural_syntax.specs.declared.word.TheConstants.{SPELLINGS}
use Rattle.plural_syntax.specs.declared.tree.Statement.{Statement}
use Rattle.plural_syntax.specs.declared.tree.Script.{Script}
use Rattle.plural_syntax.specs.Words.{Lexeme, word, word_of, lexeme, lexemes, is, look_up, spelled}
use Rattle.plural_syntax.specs.Levels.{on_some, walk, down, levels}
use Rattle.plural_syntax.specs.Grammar.{Lang, Repeated, IsStatement, IsScript}
use Rattle.plural_syntax.specs.Grammar.IsScript.{script as is_script}
use Rattle.plural_syntax.specs.Outcome.{IsParsed, IsUnexpected, IsTooDeep}
use Rattle.plural_syntax.specs.Inside.Reading.{Answer, Parser, pure, and_then, ◌>>=◌, take, inside, statement_with, not_end, statements, script}
use Rattle.plural_syntax.specs.Inside.Reading.Why.{unexpected, deep}
use Rattle.plural_syntax.proofs.Readers.{Begins, Stops, StopsOk, StopsDeep, Reads, Seq, Takes, Nothing, reads_weak, reads_bind, reads_take, reads_pure, reads_many}
use Rattle.plural_syntax.proofs.Readers.Seq.{seq}
use Rattle.plural_syntax.proofs.Readers.Takes.{takes}
use Rattle.plural_syntax.proofs.Readers.Nothing.{nothing}
use Rattle.plural_syntax.proofs.Finders.{IsDeep, Finds, finds_bind, finds_from, finds_take, finds_pure, finds_many, never_head, not_begun}
use Rattle.plural_syntax.proofs.Rules.{Rule, in_set, head_takes, nonempty_starts}
use Rattle.plural_syntax.proofs.Strict.{strict}
use Rattle.plural_syntax.proofs.ExprRules.{tk, inside_ok}
use Rattle.plural_syntax.proofs.StmtRules.{rule_statement, statement_starts}

-- ---- statements

pub statement_rule : (n : ℕ) → Rule strict (suc (suc n)) (suc (suc n)) (statement_with (inside (suc (suc n)))) IsStatement []
statement_rule n = rule_statement n (inside (suc (suc n))) (inside_ok (suc (suc n)))

pub statement_rule_at : (d : ℕ) → 2 ≤ d → Rule strict d d (statement_with (inside d)) IsStatement []
statement_rule_at zero h = absurd (omega arith)
statement_rule_at (suc zero) h = absurd (omega arith)
statement_rule_at (suc (suc n)) h = statement_rule n

pub reads_statements : (n : ℕ) → Reads strict (suc (suc n)) (suc (suc n)) (statements (suc (suc n))) (Repeated IsStatement)
unfolding statements
reads_statements n = reads_many strict (suc (suc n)) not_end (statement_with (inside (suc (suc n)))) IsStatement (nonempty_starts not_end IsStatement statement_starts) (statement_rule n).reads

finds_statements : (n : ℕ) → Finds (statements (suc (suc n))) (Repeated IsStatement) not_end
unfolding statements
finds_statements n = finds_many strict (suc (suc n)) not_end (statement_with (inside (suc (suc n)))) IsStatement (nonempty_starts not_end IsStatement statement_starts) (statement_rule n).reads (in_set []) not_end (statement_rule n).finds statement_starts (λ ls e. never_head ls) (λ ls e. (e, never_head ls))

-- ---- the plain count of levels also steps over an end

some_of : (c : Bool) (o : Option ℕ) (e : ℕ) → cond c None o ≡ Some e → o ≡ Some e
some_of true o e h = cc
some_of false o e h = h

on_some_lift : (o p : Option ℕ) (f g : ℕ → Option ℕ) (u : ℕ) → ((e : ℕ) → o ≡ Some e → p ≡ Some e) → ((e : ℕ) → f e ≡ Some u → g e ≡ Some u) → on_some o f ≡ Some u → on_some p g ≡ Some u
on_some_lift None p f g u h k e = cc
on_some_lift (Some d) p f g u h k e = ap (λ x. on_some x g) (h d refl) ∙ k d e

walk_lift : (d : ℕ) (xs : List Lexeme) (u : ℕ) → walk strict d xs ≡ Some u → walk levels d xs ≡ Some u
walk_lift d [] u e = e
walk_lift d (x ∷ xs) u e = on_some_lift (strict d (word x)) (levels d (word x)) (λ t. walk strict t xs) (λ t. walk levels t xs) u (λ t h. some_of (is w.End (word x)) (levels d (word x)) t h) (λ t h. walk_lift t xs u h) e

stops_lift : {A : Type 0} (d u : ℕ) (p : Parser A) (R : Lang A) (ls : List Lexeme) (r : Answer A) → Stops strict d u p R ls r → Stops levels d u p R ls r
stops_lift d u p R ls (Ok x) s = record { front = s.front; split = s.split; spells = s.spells; keeps = walk_lift d s.front u s.keeps; local = s.local }
stops_lift d u p R ls (Err (unexpected, rest)) s = record { front = s.front; split = s.split; left = s.left; keeps = walk_lift d s.front s.left s.keeps; begins = s.begins; local = s.local }
stops_lift d u p R ls (Err (deep, rest)) s = record { front = s.front; opener = s.opener; more = s.more; split = s.split; at_opener = s.at_opener; opens = s.opens; left = s.left; keeps = walk_lift d s.front s.left s.keeps; stuck = ap (levels s.left) s.opens ∙ sym (ap (strict s.left) s.opens) ∙ s.stuck; begins = s.begins }

reads_lift : {A : Type 0} (d u : ℕ) (p : Parser A) (R : Lang A) → Reads strict d u p R → Reads levels d u p R
reads_lift d u p R r = record { some = r.some; stops = λ ls. stops_lift d u p R ls (p ls) (r.stops ls) }

-- ---- scripts

abbrev Scripts : Lang Script
Scripts = Seq (Repeated IsStatement) (λ ss. Seq (Takes w.End) (λ e. Nothing (record { statements = ss; end = e })))

to_script : (x : Script) (ls : List Lexeme) → Scripts x ls → IsScript x ls
to_script _ _ (seq ss _ xs _ m (seq _ _ _ _ (takes e h) nothing)) = is_script e ss xs m h

from_script : (x : Script) (ls : List Lexeme) → IsScript x ls → Scripts x ls
from_script _ _ (is_script e ss xs m h) = seq ss _ xs (e ∷ []) m (tk e h nothing)

pub reads_script : (n : ℕ) → Reads levels (suc (suc n)) (suc (suc n)) (script (suc (suc n))) IsScript
unfolding script
reads_script n = reads_weak levels (suc (suc n)) (suc (suc n)) _ _ IsScript to_script
    (reads_bind levels (suc (suc n)) (suc (suc n)) (suc (suc n)) (statements (suc (suc n))) _ _ _ (reads_lift (suc (suc n)) (suc (suc n)) (statements (suc (suc n))) (Repeated IsStatement) (reads_statements n))
    (λ ss. reads_bind levels (suc (suc n)) (suc (suc n)) (suc (suc n)) (take w.End) _ _ _ (reads_take levels (suc (suc n)) (suc (suc n)) w.End refl) (λ e. reads_pure levels (suc (suc n)) (record { statements = ss; end = e }))))

pub finds_script : (n : ℕ) → Finds (script (suc (suc n))) IsScript (in_set [])
unfolding script
finds_script n = finds_from _ IsScript Scripts (in_set []) (in_set []) from_script (λ ls e. e)
    (finds_bind (statements (suc (suc n))) _ (Repeated IsStatement) _ not_end (in_set []) (finds_statements n)
    (λ ss. finds_bind (take w.End) _ (Takes w.End) _ (in_set []) (in_set []) (finds_take w.End (in_set [])) (λ e. finds_pure (record { statements = ss; end = e }) (in_set [])) (λ e x ys rest s h. never_head (ys ++ rest)))
    (λ ss x ys rest s h. head_takes not_end w.End false refl x ys rest s))

-- ---- an end stands last

abbrev row_ok : List (List ℕ × Word) → Bool
row_ok [] = true
row_ok (row ∷ rows) = not (is w.End row.1) && row_ok rows

both_ok : (a b : Bool) → (not a && b) ≡ true → (a ≡ false) × (b ≡ true)
both_ok true b e = cc
both_ok false b e = (refl, e)

chosen_ok : (c : Bool) (x y : Word) → is w.End x ≡ false → is w.End y ≡ false → is w.End (if c then x else y) ≡ false
chosen_ok true x y h k = h
chosen_ok false x y h k = k

look_up_ok : (text : List ℕ) (rows : List (List ℕ × Word)) → row_ok rows ≡ true → is w.End (look_up text rows) ≡ false
look_up_ok text [] e = refl
look_up_ok text (row ∷ rows) e = let h = both_ok (is w.End row.1) (row_ok rows) e in chosen_ok (pointwise eqb row.0 text) row.1 (look_up text rows) h.0 (look_up_ok text rows h.1)

spelled_no_end : (text : List ℕ) → spelled text ≡ w.End → ⊥
unfolding spelled
spelled_no_end text e = true≢false (sym (ap (is w.End) e) ∙ look_up_ok text (map (λ row. (row.0.now, row.1)) SPELLINGS) refl)

kind_no_end : (k : TokenKind) (text : List ℕ) → (k ≡ kind.End → ⊥) → word_of k text ≡ w.End → ⊥
kind_no_end kind.Name text h e = cc
kind_no_end kind.Int text h e = cc
kind_no_end kind.Reserved text h e = spelled_no_end text e
kind_no_end kind.Sign text h e = spelled_no_end text e
kind_no_end kind.End text h e = h refl

abbrev OnlyLast : List Lexeme → Type 0
OnlyLast [] = Unit {0}
OnlyLast (x ∷ xs) = (word x ≡ w.End → xs ≡ []) × OnlyLast xs

tokens_only_last : (bytes : List ℕ) (front : List Token) (z : Token) → HasNoEnd front → OnlyLast (lexemes bytes (front ++ z ∷ []))
tokens_only_last bytes [] z h = ((λ e. refl), tt)
tokens_only_last bytes (t ∷ front) z h = ((λ e. absurd (kind_no_end t.kind (lexeme bytes t).text h.0 e)), tokens_only_last bytes front z h.1)

script_only_last : (bytes : List ℕ) (ts : List Token) → AreTokensOf bytes ts → OnlyLast (lexemes bytes ts)
script_only_last bytes ts d =
    let v = ends_well [] bytes (Ok ts) d in
    subst (λ us. OnlyLast (lexemes bytes us)) (sym v.1) (tokens_only_last bytes v.0 (end_of bytes) v.2)

end_is_last : (xs : List Lexeme) (e : Lexeme) (rest : List Lexeme) → OnlyLast (xs ++ e ∷ rest) → word e ≡ w.End → rest ≡ []
end_is_last [] e rest o h = o.0 h
end_is_last (x ∷ xs) e rest o h = end_is_last xs e rest o.1 h

nothing_behind : (s : Script) (front rest : List Lexeme) → IsScript s front → OnlyLast (front ++ rest) → rest ≡ []
nothing_behind _ _ rest (is_script e ss xs m h) o = end_is_last xs e rest (subst OnlyLast (append_assoc xs (e ∷ []) rest) o) h

-- ---- what `parse` answers

pub parse_ok : (bytes : List ℕ) (ts : List Token) → AreTokensOf bytes ts → (s : Script) (rest : List Lexeme) → script 64 (lexemes bytes ts) ≡ Ok (s, rest) → IsParsed (lexemes bytes ts) s
parse_ok bytes ts d s rest e =
    let ls = lexemes bytes ts in
    let stop = subst (Stops levels 64 64 (script 64) IsScript ls) e ((reads_script 62).stops ls) in
    let nil : rest ≡ [] = nothing_behind s stop.front rest stop.spells (subst OnlyLast stop.split (script_only_last bytes ts d)) in
    let same : ls ≡ stop.front = stop.split ∙ ap (λ r. stop.front ++ r) nil ∙ append-nil stop.front in
    record { spells = subst (IsScript s) (sym same) stop.spells; within = ap (walk levels 64) same ∙ stop.keeps }

parse_bad : (ls : List Lexeme) (x : Lexeme) (rest : List Lexeme) → script 64 ls ≡ Err (unexpected, x ∷ rest) → IsUnexpected ls x.token.line x.token.column
parse_bad ls x rest e =
    let stop = subst (Stops levels 64 64 (script 64) IsScript ls) e ((reads_script 62).stops ls) in
    record { front = stop.front; here = x; rest = rest; split = stop.split; at_line = refl; at_column = refl; before = stop.begins; with_it = not_begun levels 64 (script 64) IsScript (in_set []) (finds_script 62) ls x rest stop; left = stop.left; within = stop.keeps }

zero_left : (d : ℕ) → levels d w.Open ≡ None → d ≡ 0
zero_left zero e = refl
zero_left (suc d) e = cc

deep_is : (x : Lexeme) (line column : ℕ) (ls rest : List Lexeme) → line ≡ x.token.line → column ≡ x.token.column → (stop : StopsDeep levels 64 IsScript ls (x ∷ rest)) → x ≡ stop.opener → IsTooDeep ls line column
deep_is x line column ls rest l c stop e = record {
  front = stop.front;
  here = x;
  rest = rest;
  split = stop.split;
  at_line = l;
  at_column = c;
  opens = ap word e ∙ stop.opens;
  before = subst (λ y. Begins IsScript (stop.front ++ y ∷ [])) (sym e) stop.begins;
  none_left = stop.keeps ∙ ap Some (zero_left stop.left (sym (ap (levels stop.left) stop.opens) ∙ stop.stuck));
}

parse_deep : (ls : List Lexeme) (x : Lexeme) (rest : List Lexeme) → script 64 ls ≡ Err (deep, x ∷ rest) → IsTooDeep ls x.token.line x.token.column
parse_deep ls x rest e =
    let stop = subst (Stops levels 64 64 (script 64) IsScript ls) e ((reads_script 62).stops ls) in
    let same : x ≡ stop.opener = cc (stop.at_opener) in
    deep_is x x.token.line x.token.column ls rest refl refl stop same

pub bad_at : (ls : List Lexeme) (bytes : List ℕ) (xs : List Token) (d : Token) → 1 ≤ length xs → script 64 ls ≡ Err (unexpected, lexemes bytes xs) → IsUnexpected ls (get_or xs 0 d).line (get_or xs 0 d).column
bad_at ls bytes [] d h e = absurd (omega arith)
bad_at ls bytes (x ∷ xs) d h e = parse_bad ls (lexeme bytes x) (lexemes bytes xs) e

pub deep_at : (ls : List Lexeme) (bytes : List ℕ) (xs : List Token) (d : Token) → 1 ≤ length xs → script 64 ls ≡ Err (deep, lexemes bytes xs) → IsTooDeep ls (get_or xs 0 d).line (get_or xs 0 d).column
deep_at ls bytes [] d h e = absurd (omega arith)
deep_at ls bytes (x ∷ xs) d h e = parse_deep ls (lexeme bytes x) (lexemes bytes xs) e

-- ---- a script stops at a token

abbrev AllPlain : List Lexeme → Type 0
AllPlain [] = Unit {0}
AllPlain (x ∷ xs) = (is w.End (word x) ≡ false) × AllPlain xs

not_none : (c : Bool) (o : Option ℕ) (e : ℕ) → cond c None o ≡ Some e → c ≡ false
not_none true o e h = cc
not_none false o e h = refl

no_some : (u : ℕ) → None ≡ Some u → ⊥
no_some u e = cc

plain_at : (o : Option ℕ) (f : ℕ → Option ℕ) (u : ℕ) (P : Type 0) → ((e : ℕ) → o ≡ Some e → f e ≡ Some u → P) → on_some o f ≡ Some u → P
plain_at None f u P h e = absurd (no_some u e)
plain_at (Some d) f u P h e = h d refl e

plain_walk : (d : ℕ) (xs : List Lexeme) (u : ℕ) → walk strict d xs ≡ Some u → AllPlain xs
plain_walk d [] u e = tt
plain_walk d (x ∷ xs) u e = plain_at (strict d (word x)) (λ t. walk strict t xs) u (AllPlain (x ∷ xs)) (λ t h k. (not_none (is w.End (word x)) (levels d (word x)) t h, plain_walk t xs u k)) e

not_plain : (bytes : List ℕ) (front : List Token) (z : Token) → z.kind ≡ kind.End → AllPlain (lexemes bytes (front ++ z ∷ [])) → ⊥
not_plain bytes [] z k h = true≢false (sym (ap (λ q. is w.End (word_of q (lexeme bytes z).text)) k) ∙ h.0)
not_plain bytes (t ∷ front) z k h = not_plain bytes front z k h.1

tokens_not_plain : (bytes : List ℕ) (ts : List Token) → AreTokensOf bytes ts → AllPlain (lexemes bytes ts) → ⊥
tokens_not_plain bytes ts d h =
    let v = ends_well [] bytes (Ok ts) d in
    not_plain bytes v.0 (end_of bytes) refl (subst (λ us. AllPlain (lexemes bytes us)) v.1 h)

abbrev Finish : List Statement → Parser Script
Finish ss = take w.End >>= λ e. pure (record { statements = ss; end = e })

-- a stop behind all tokens
abbrev IsStopAtNil : Answer Script → Type 0
IsStopAtNil (Ok x) = ⊥
IsStopAtNil (Err (unexpected, [])) = Unit {0}
IsStopAtNil (Err (unexpected, y ∷ ys)) = ⊥
IsStopAtNil (Err (deep, rest)) = ⊥

stop_at_nil : (r : Answer Script) → r ≡ Err (unexpected, []) → IsStopAtNil r
stop_at_nil r e = subst IsStopAtNil (sym e) tt

taken_nil : (ss : List Statement) (c : Bool) (y : Lexeme) (ys : List Lexeme) → and_then {B = Script} (cond c (Ok (y.token, ys)) (Err (unexpected, y ∷ ys))) (λ e. pure (record { statements = ss; end = e })) ≡ Err (unexpected, []) → ⊥
taken_nil ss true y ys e = stop_at_nil _ e
taken_nil ss false y ys e = stop_at_nil _ e

finished_nil : (ls : List Lexeme) (ss : List Statement) (rest : List Lexeme) → StopsOk strict 64 64 (statements 64) (Repeated IsStatement) ls ss rest → Finish ss rest ≡ Err (unexpected, []) → AllPlain ls
finished_nil ls ss [] s e = subst AllPlain (sym (s.split ∙ append-nil s.front)) (plain_walk 64 s.front 64 s.keeps)
finished_nil ls ss (y ∷ ys) s e = absurd (taken_nil ss (is w.End (word y)) y ys e)

other_end : (y : Lexeme) (ys : List Lexeme) → ◌≡◌ {A = Answer Script} (Err (unexpected, y ∷ ys)) (Err (unexpected, [])) → ⊥
other_end y ys e = stop_at_nil _ e

other_fault : (rest : List Lexeme) → ◌≡◌ {A = Answer Script} (Err (deep, rest)) (Err (unexpected, [])) → ⊥
other_fault rest e = stop_at_nil _ e

stops_nil : (ls : List Lexeme) (r : Answer (List Statement)) → Stops strict 64 64 (statements 64) (Repeated IsStatement) ls r → and_then r Finish ≡ Err (unexpected, []) → AllPlain ls
stops_nil ls (Ok x) s e = finished_nil ls x.0 x.1 s e
stops_nil ls (Err (unexpected, [])) s e = subst AllPlain (sym (s.split ∙ append-nil s.front)) (plain_walk 64 s.front s.left s.keeps)
stops_nil ls (Err (unexpected, y ∷ ys)) s e = absurd (other_end y ys e)
stops_nil ls (Err (deep, rest)) s e = absurd (other_fault rest e)

unexpected_somewhere : (bytes : List ℕ) (ts : List Token) → AreTokensOf bytes ts → script 64 (lexemes bytes ts) ≡ Err (unexpected, []) → ⊥
unfolding script
unexpected_somewhere bytes ts d e = tokens_not_plain bytes ts d (stops_nil (lexemes bytes ts) (statements 64 (lexemes bytes ts)) ((reads_statements 62).stops (lexemes bytes ts)) e)

no_opener : (x : Lexeme) (xs : List Lexeme) → [] ≡ x ∷ xs → ⊥
no_opener x xs e = cc

deep_somewhere : (ls : List Lexeme) → script 64 ls ≡ Err (deep, []) → ⊥
deep_somewhere ls e =
    let stop = subst (Stops levels 64 64 (script 64) IsScript ls) e ((reads_script 62).stops ls) in
    no_opener stop.opener stop.more stop.at_opener

pub bad_somewhere : (bytes : List ℕ) (ts xs : List Token) → AreTokensOf bytes ts → length xs < 1 → script 64 (lexemes bytes ts) ≡ Err (unexpected, lexemes bytes xs) → ⊥
bad_somewhere bytes ts [] d h e = unexpected_somewhere bytes ts d e
bad_somewhere bytes ts (x ∷ xs) d h e = absurd (omega arith)

pub too_deep_somewhere : (bytes : List ℕ) (ts xs : List Token) → length xs < 1 → script 64 (lexemes bytes ts) ≡ Err (deep, lexemes bytes xs) → ⊥
too_deep_somewhere bytes ts [] h e = deep_somewhere (lexemes bytes ts) e
too_deep_somewhere bytes ts (x ∷ xs) h e = absurd (omega arith)

-- ---- one tree

step_low : (d : ℕ) (v : Word) (o c : Bool) (e : ℕ) → cond o (down d) (cond c (Some (suc d)) (Some d)) ≡ Some e → d ≤ e + 1
step_low zero v true c e h = omega arith
step_low (suc d) v true c e h = let k : d ≡ e = cc h in omega (arith, k)
step_low d v false true e h = let k : suc d ≡ e = cc h in omega (arith, k)
step_low d v false false e h = let k : d ≡ e = cc h in omega (arith, k)

walk_low_at : (o : Option ℕ) (d u : ℕ) (xs : List Lexeme) → ((e : ℕ) → o ≡ Some e → d ≤ e + 1) → ((e : ℕ) → walk levels e xs ≡ Some u → e ≤ u + length xs) → on_some o (λ t. walk levels t xs) ≡ Some u → d ≤ u + suc (length xs)
walk_low_at None d u xs h k e = cc
walk_low_at (Some t) d u xs h k e = omega (arith, h t refl, k t e)

walk_low : (xs : List Lexeme) (d u : ℕ) → walk levels d xs ≡ Some u → d ≤ u + length xs
walk_low [] d u e = let k : d ≡ u = cc e in omega (arith, k)
walk_low (x ∷ xs) d u e = walk_low_at (levels d (word x)) d u xs (λ t h. step_low d (word x) (is w.Open (word x)) (is w.Close (word x)) t h) (λ t h. walk_low xs t u h) e

not_deep_at : (ls : List Lexeme) (r : Answer Script) → Stops levels (suc (suc (length ls))) (suc (suc (length ls))) (script (suc (suc (length ls)))) IsScript ls r → IsDeep r → ⊥
not_deep_at ls (Ok x) s h = h
not_deep_at ls (Err (unexpected, rest)) s h = h
not_deep_at ls (Err (deep, rest)) s h =
    let low = walk_low s.front (suc (suc (length ls))) s.left s.keeps in
    let none = zero_left s.left (sym (ap (levels s.left) s.opens) ∙ s.stuck) in
    absurd (omega (arith, low, none, ap length s.split, length-append s.front rest))

found : (ls : List Lexeme) (s : Script) → IsScript s ls → script (suc (suc (length ls))) ls ≡ Ok (s, [])
found ls s h = elim ((finds_script (length ls)).again s ls [] h refl) [
  | inl e ↦ ap (script (suc (suc (length ls)))) (sym (append-nil ls)) ∙ e
  | inr k ↦ absurd (not_deep_at ls (script (suc (suc (length ls))) ls) ((reads_script (length ls)).stops ls) (subst (λ l. IsDeep (script (suc (suc (length ls))) l)) (append-nil ls) k))
]

abbrev first_of : Answer Script → Script → Script
first_of (Ok x) d = x.0
first_of (Err e) d = d

pub one_script : (ls : List Lexeme) (s t : Script) → IsScript s ls → IsScript t ls → s ≡ t
one_script ls s t h k = ap (λ r. first_of r s) (sym (found ls s h) ∙ found ls t k)
