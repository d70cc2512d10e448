-- What each way of joining parsers keeps, whatever the state that tokens step: where a parser stops, and that it looks at
-- one token after that.
use Rattle.std.proofs.Common.{◌≡◌, ℕ, zero, suc, ◌≤◌, ◌<◌, Bool, true, false, cond, [], ◌∷◌, ◌++◌, List, length, Ok, Err, Option, Some, None, is_some, refl, sym, ap, subst, ◌∙◌, arith, append_assoc, length-append, append-nil}
use Rattle.plural_lexer.specs.declared.token.Token.{Token}
use Rattle.plural_syntax.specs.declared.word.Word.{Word}
use Rattle.plural_syntax.specs.declared.word.Word.TheVariants as w
use Rattle.plural_syntax.specs.declared.tree.Function.{Function}
use Rattle.plural_syntax.specs.declared.tree.Function.TheVariants as fn
use Rattle.plural_syntax.specs.declared.tree.FunctionName.{FunctionName}
use Rattle.plural_syntax.specs.Words.{Lexeme, word, is, head_is, next, function_of, names_function}
use Rattle.plural_syntax.specs.Levels.{Step, on_some, walk}
use Rattle.plural_syntax.specs.Grammar.{Lang, Repeated}
use Rattle.plural_syntax.specs.Grammar.Repeated.{no_more, one_more}
use Rattle.plural_syntax.specs.Inside.Reading.{Why, Answer, Parser, pure, and_then, ◌>>=◌, refuse, take, named_by, function_name, when, many_by, many}
use Rattle.plural_syntax.specs.Inside.Reading.Why.{unexpected, deep}
use Rattle.plural_syntax.proofs.Words.{sample, word-sample, same_word, function_word}

abbrev pub head : List Lexeme → Option Lexeme
head [] = None
head (l ∷ _) = Some l

pub head-append : (front r s : List Lexeme) → head r ≡ head s → head (front ++ r) ≡ head (front ++ s)
head-append [] r s e = e
head-append (l ∷ front) r s e = refl

abbrev passes : (Word → Bool) → Option Lexeme → Bool
passes t None = false
passes t (Some l) = t (word l)

head_is-head : (t : Word → Bool) (ls : List Lexeme) → head_is t ls ≡ passes t (head ls)
head_is-head t [] = refl
head_is-head t (l ∷ ls) = refl

pub head_is-same : (t : Word → Bool) (r s : List Lexeme) → head r ≡ head s → head_is t r ≡ head_is t s
head_is-same t r s e = head_is-head t r ∙ ap (passes t) e ∙ sym (head_is-head t s)

-- ---- levels

on_some_on_some : {S : Type 0} (o : Option S) (f g : S → Option S) → on_some (on_some o f) g ≡ on_some o (λ d. on_some (f d) g)
on_some_on_some None f g = refl
on_some_on_some (Some d) f g = refl

on_some_same : {S : Type 0} (o : Option S) (f g : S → Option S) → ((d : S) → f d ≡ g d) → on_some o f ≡ on_some o g
on_some_same None f g h = refl
on_some_same (Some d) f g h = h d

pub walk-append : {S : Type 0} (step : Step S) (d : S) (xs ys : List Lexeme) → walk step d (xs ++ ys) ≡ on_some (walk step d xs) (λ e. walk step e ys)
walk-append step d [] ys = refl
walk-append step d (x ∷ xs) ys = on_some_same (step d (word x)) (λ e. walk step e (xs ++ ys)) (λ e. on_some (walk step e xs) (λ f. walk step f ys)) (λ e. walk-append step e xs ys) ∙ sym (on_some_on_some (step d (word x)) (λ e. walk step e xs) (λ e. walk step e ys))

-- ---- where a parser stops

abbrev pub Begins : {A : Type 0} → Lang A → List Lexeme → Type 0
Begins {A} R front = (a : A) × (more : List Lexeme) × R a (front ++ more)

pub record StopsOk {T A : Type 0} (step : Step T) (d u : T) (p : Parser A) (R : Lang A) (ls : List Lexeme) (a : A) (rest : List Lexeme) : Type 0 where
  pub front : List Lexeme
  pub split : ls ≡ front ++ rest
  pub spells : R a front
  pub keeps : walk step d front ≡ Some u
  pub local : (other : List Lexeme) → head rest ≡ head other → p (front ++ other) ≡ Ok (a, other)

pub record StopsBad {T A : Type 0} (step : Step T) (d : T) (p : Parser A) (R : Lang A) (ls rest : List Lexeme) : Type 0 where
  pub front : List Lexeme
  pub split : ls ≡ front ++ rest
  pub left : T
  pub keeps : walk step d front ≡ Some left
  pub begins : Begins R front
  pub local : (other : List Lexeme) → head rest ≡ head other → p (front ++ other) ≡ Err (unexpected, other)

pub record StopsDeep {T A : Type 0} (step : Step T) (d : T) (R : Lang A) (ls rest : List Lexeme) : Type 0 where
  pub front : List Lexeme
  pub opener : Lexeme
  pub more : List Lexeme
  pub split : ls ≡ front ++ rest
  pub at_opener : rest ≡ opener ∷ more
  pub opens : word opener ≡ w.Open
  pub left : T
  pub keeps : walk step d front ≡ Some left
  pub stuck : step left (word opener) ≡ None
  pub begins : Begins R (front ++ opener ∷ [])

abbrev pub Stops : {T A : Type 0} → Step T → T → T → Parser A → Lang A → List Lexeme → Answer A → Type 0
Stops step d u p R ls (Ok x) = StopsOk step d u p R ls x.0 x.1
Stops step d u p R ls (Err (unexpected, rest)) = StopsBad step d p R ls rest
Stops step d u p R ls (Err (deep, rest)) = StopsDeep step d R ls rest

pub record Reads {T A : Type 0} (step : Step T) (d u : T) (p : Parser A) (R : Lang A) : Type 0 where
  pub some : Begins R []
  pub stops : (ls : List Lexeme) → Stops step d u p R ls (p ls)

-- ---- weaker

weak_begins : {A : Type 0} (R S : Lang A) → ((a : A) (ls : List Lexeme) → R a ls → S a ls) → (front : List Lexeme) → Begins R front → Begins S front
weak_begins R S f front b = (b.0, b.1, f _ _ b.2)

weak_stops : {T A : Type 0} (step : Step T) (d u : T) (p : Parser A) (R S : Lang A) → ((a : A) (ls : List Lexeme) → R a ls → S a ls) → (ls : List Lexeme) (r : Answer A) → Stops step d u p R ls r → Stops step d u p S ls r
weak_stops step d u p R S f ls (Ok x) s = record { front = s.front; split = s.split; spells = f _ _ s.spells; keeps = s.keeps; local = s.local }
weak_stops step d u p R S f ls (Err (unexpected, rest)) s = record { front = s.front; split = s.split; left = s.left; keeps = s.keeps; begins = weak_begins R S f _ s.begins; local = s.local }
weak_stops step d u p R S f ls (Err (deep, rest)) s = record { front = s.front; opener = s.opener; more = s.more; split = s.split; at_opener = s.at_opener; opens = s.opens; left = s.left; stuck = s.stuck; keeps = s.keeps; begins = weak_begins R S f _ s.begins }

pub reads_weak : {T A : Type 0} (step : Step T) (d u : T) (p : Parser A) (R S : Lang A) → ((a : A) (ls : List Lexeme) → R a ls → S a ls) → Reads step d u p R → Reads step d u p S
reads_weak step d u p R S f r = record { some = weak_begins R S f [] r.some; stops = λ ls. weak_stops step d u p R S f ls (p ls) (r.stops ls) }

-- ---- one after another

pub data Seq {A B : Type 0} (R : Lang A) (S : A → Lang B) : B → List Lexeme → Type 0 where
  seq : (a : A) (b : B) (xs ys : List Lexeme) → R a xs → S a b ys → Seq R S b (xs ++ ys)

seq_begins : {A B : Type 0} (R : Lang A) (S : A → Lang B) → ((a : A) → Begins (S a) []) → (front : List Lexeme) → Begins R front → Begins (Seq R S) front
seq_begins R S some front b =
    let n = some b.0 in
    (n.0, b.1 ++ n.1, subst (Seq R S n.0) (append_assoc front b.1 n.1) (seq b.0 n.0 (front ++ b.1) n.1 b.2 n.2))

bind_second : {T A B : Type 0} (step : Step T) (d u v : T) (p : Parser A) (q : A → Parser B) (R : Lang A) (S : A → Lang B) (ls : List Lexeme) (a : A) (rest : List Lexeme) → StopsOk step d u p R ls a rest → (r : Answer B) → Stops step u v (q a) (S a) rest r → Stops step d v (p >>= q) (Seq R S) ls r
bind_second step d u v p q R S ls a rest s (Ok x) t = record {
  front = s.front ++ t.front;
  split = s.split ∙ ap (λ l. s.front ++ l) t.split ∙ sym (append_assoc s.front t.front x.1);
  spells = seq a x.0 s.front t.front s.spells t.spells;
  keeps = walk-append step d s.front t.front ∙ ap (λ o. on_some o (λ e. walk step e t.front)) s.keeps ∙ t.keeps;
  local = λ other h.
      let same : head rest ≡ head (t.front ++ other) = ap head t.split ∙ head-append t.front x.1 other h in
      ap (λ l. and_then (p l) q) (append_assoc s.front t.front other) ∙ ap (λ o. and_then o q) (s.local (t.front ++ other) same) ∙ t.local other h;
}
bind_second step d u v p q R S ls a rest s (Err (unexpected, rest2)) t = record {
  front = s.front ++ t.front;
  split = s.split ∙ ap (λ l. s.front ++ l) t.split ∙ sym (append_assoc s.front t.front rest2);
  left = t.left;
  keeps = walk-append step d s.front t.front ∙ ap (λ o. on_some o (λ e. walk step e t.front)) s.keeps ∙ t.keeps;
  begins = (t.begins.0, t.begins.1, subst (Seq R S t.begins.0) (sym (append_assoc s.front t.front t.begins.1)) (seq a t.begins.0 s.front (t.front ++ t.begins.1) s.spells t.begins.2));
  local = λ other h.
      let same : head rest ≡ head (t.front ++ other) = ap head t.split ∙ head-append t.front rest2 other h in
      ap (λ l. and_then (p l) q) (append_assoc s.front t.front other) ∙ ap (λ o. and_then o q) (s.local (t.front ++ other) same) ∙ t.local other h;
}
bind_second step d u v p q R S ls a rest s (Err (deep, rest2)) t = record {
  front = s.front ++ t.front;
  opener = t.opener;
  more = t.more;
  split = s.split ∙ ap (λ l. s.front ++ l) t.split ∙ sym (append_assoc s.front t.front rest2);
  at_opener = t.at_opener;
  opens = t.opens;
  left = t.left;
  stuck = t.stuck;
  keeps = walk-append step d s.front t.front ∙ ap (λ o. on_some o (λ e. walk step e t.front)) s.keeps ∙ t.keeps;
  begins = (t.begins.0, t.begins.1, subst (Seq R S t.begins.0) (sym (ap (λ l. l ++ t.begins.1) (append_assoc s.front t.front (t.opener ∷ [])) ∙ append_assoc s.front (t.front ++ t.opener ∷ []) t.begins.1)) (seq a t.begins.0 s.front ((t.front ++ t.opener ∷ []) ++ t.begins.1) s.spells t.begins.2));
}

pub bind_stops : {T A B : Type 0} (step : Step T) (d u v : T) (p : Parser A) (q : A → Parser B) (R : Lang A) (S : A → Lang B) → ((a : A) → Begins (S a) []) → (ls : List Lexeme) → ((a : A) (rest : List Lexeme) → StopsOk step d u p R ls a rest → Stops step u v (q a) (S a) rest (q a rest)) → (r : Answer A) → Stops step d u p R ls r → Stops step d v (p >>= q) (Seq R S) ls (and_then r q)
bind_stops step d u v p q R S some ls more (Ok x) s = bind_second step d u v p q R S ls x.0 x.1 s (q x.0 x.1) (more x.0 x.1 s)
bind_stops step d u v p q R S some ls more (Err (unexpected, rest)) s = record { front = s.front; split = s.split; left = s.left; keeps = s.keeps; begins = seq_begins R S some s.front s.begins; local = λ other h. ap (λ o. and_then o q) (s.local other h) }
bind_stops step d u v p q R S some ls more (Err (deep, rest)) s = record { front = s.front; opener = s.opener; more = s.more; split = s.split; at_opener = s.at_opener; opens = s.opens; left = s.left; stuck = s.stuck; keeps = s.keeps; begins = seq_begins R S some (s.front ++ s.opener ∷ []) s.begins }

pub reads_bind : {T A B : Type 0} (step : Step T) (d u v : T) (p : Parser A) (q : A → Parser B) (R : Lang A) (S : A → Lang B) → Reads step d u p R → ((a : A) → Reads step u v (q a) (S a)) → Reads step d v (p >>= q) (Seq R S)
reads_bind step d u v p q R S r more = record {
  some = seq_begins R S (λ a. (more a).some) [] r.some;
  stops = λ ls. bind_stops step d u v p q R S (λ a. (more a).some) ls (λ a rest s. (more a).stops rest) (p ls) (r.stops ls);
}

-- ---- single tokens

-- one token of a word
pub data Takes (v : Word) : Token → List Lexeme → Type 0 where
  takes : (l : Lexeme) → word l ≡ v → Takes v l.token (l ∷ [])

take_fails : (v : Word) (ls : List Lexeme) → head_is (is v) ls ≡ false → take v ls ≡ Err (unexpected, ls)
take_fails v [] e = refl
take_fails v (l ∷ ls) e = ap (λ c. cond c (Ok (l.token, ls)) (Err (unexpected, l ∷ ls))) e

some_token : (v : Word) → Begins (Takes v) []
some_token v = ((sample v).token, sample v ∷ [], takes (sample v) (word-sample v))

take_stops : {T : Type 0} (step : Step T) (d u : T) (v : Word) → step d v ≡ Some u → (l : Lexeme) (ls : List Lexeme) (c : Bool) → is v (word l) ≡ c → Stops step d u (take v) (Takes v) (l ∷ ls) (cond c (Ok (l.token, ls)) (Err (unexpected, l ∷ ls)))
take_stops step d u v s l ls true e = record {
  front = l ∷ [];
  split = refl;
  spells = takes l (same_word v (word l) e);
  keeps = ap (λ o. on_some o (λ x. walk step x [])) (ap (step d) (same_word v (word l) e) ∙ s);
  local = λ other h. ap (λ c. cond c (Ok (l.token, other)) (Err (unexpected, l ∷ other))) e;
}
take_stops step d u v s l ls false e = record {
  front = [];
  split = refl;
  left = d;
  keeps = refl;
  begins = some_token v;
  local = λ other h. take_fails v other (sym (head_is-same (is v) (l ∷ ls) other h) ∙ e);
}

take_stops_at : {T : Type 0} (step : Step T) (d u : T) (v : Word) → step d v ≡ Some u → (ls : List Lexeme) → Stops step d u (take v) (Takes v) ls (take v ls)
take_stops_at step d u v s [] = record { front = []; split = refl; left = d; keeps = refl; begins = some_token v; local = λ other h. take_fails v other (sym (head_is-same (is v) [] other h)) }
take_stops_at step d u v s (l ∷ ls) = take_stops step d u v s l ls (is v (word l)) refl

pub reads_take : {T : Type 0} (step : Step T) (d u : T) (v : Word) → step d v ≡ Some u → Reads step d u (take v) (Takes v)
reads_take step d u v s = record { some = some_token v; stops = take_stops_at step d u v s }

-- ---- the name of a function

pub data Names : FunctionName → List Lexeme → Type 0 where
  names : (l : Lexeme) (f : Function) → word l ≡ w.Function f → Names (record { token = l.token; function = f }) (l ∷ [])

some_name : Begins Names []
some_name = (record { token = (sample (w.Function fn.Std)).token; function = fn.Std }, sample (w.Function fn.Std) ∷ [], names (sample (w.Function fn.Std)) fn.Std (word-sample (w.Function fn.Std)))

names_fails : (ls : List Lexeme) → head_is names_function ls ≡ false → function_name ls ≡ Err (unexpected, ls)
names_fails [] e = refl
names_fails (l ∷ ls) e = unnamed (function_of (word l)) e where
  unnamed : (o : Option Function) → is_some o ≡ false → named_by o l ls ≡ Err (unexpected, l ∷ ls)
  unnamed None e = refl
  unnamed (Some f) e = cc

names_stops : {T : Type 0} (step : Step T) (d u : T) → ((f : Function) → step d (w.Function f) ≡ Some u) → (l : Lexeme) (ls : List Lexeme) (o : Option Function) → function_of (word l) ≡ o → Stops step d u function_name Names (l ∷ ls) (named_by o l ls)
names_stops step d u s l ls (Some f) e = record {
  front = l ∷ [];
  split = refl;
  spells = names l f (function_word (word l) f e);
  keeps = ap (λ o. on_some o (λ x. walk step x [])) (ap (step d) (function_word (word l) f e) ∙ s f);
  local = λ other h. ap (λ o. named_by o l other) e;
}
names_stops step d u s l ls None e = record {
  front = [];
  split = refl;
  left = d;
  keeps = refl;
  begins = some_name;
  local = λ other h. names_fails other (sym (head_is-same names_function (l ∷ ls) other h) ∙ ap is_some e);
}

names_stops_at : {T : Type 0} (step : Step T) (d u : T) → ((f : Function) → step d (w.Function f) ≡ Some u) → (ls : List Lexeme) → Stops step d u function_name Names ls (function_name ls)
names_stops_at step d u s [] = record { front = []; split = refl; left = d; keeps = refl; begins = some_name; local = λ other h. names_fails other (sym (head_is-same names_function [] other h)) }
names_stops_at step d u s (l ∷ ls) = names_stops step d u s l ls (function_of (word l)) refl

pub reads_name : {T : Type 0} (step : Step T) (d u : T) → ((f : Function) → step d (w.Function f) ≡ Some u) → Reads step d u function_name Names
reads_name step d u s = record { some = some_name; stops = names_stops_at step d u s }

-- ---- nothing

pub data Nothing {A : Type 0} (a : A) : A → List Lexeme → Type 0 where
  nothing : Nothing a a []

pub reads_pure : {T A : Type 0} (step : Step T) (d : T) (a : A) → Reads step d d (pure a) (Nothing a)
reads_pure step d a = record {
  some = (a, [], nothing);
  stops = λ ls. record { front = []; split = refl; spells = nothing; keeps = refl; local = λ other h. refl };
}

pub reads_refuse : {T A : Type 0} (step : Step T) (d u : T) (R : Lang A) → Begins R [] → Reads step d u refuse R
reads_refuse step d u R b = record { some = b; stops = λ ls. record { front = []; split = refl; left = d; keeps = refl; begins = b; local = λ other h. refl } }

-- ---- by the next token

same_stops : {T A : Type 0} (step : Step T) (d u : T) (p q : Parser A) (R : Lang A) (ls : List Lexeme) → ((front rest other : List Lexeme) → ls ≡ front ++ rest → head rest ≡ head other → q (front ++ other) ≡ p (front ++ other)) → (r : Answer A) → Stops step d u p R ls r → Stops step d u q R ls r
same_stops step d u p q R ls f (Ok x) s = record { front = s.front; split = s.split; spells = s.spells; keeps = s.keeps; local = λ other h. f s.front x.1 other s.split h ∙ s.local other h }
same_stops step d u p q R ls f (Err (unexpected, rest)) s = record { front = s.front; split = s.split; left = s.left; keeps = s.keeps; begins = s.begins; local = λ other h. f s.front rest other s.split h ∙ s.local other h }
same_stops step d u p q R ls f (Err (deep, rest)) s = record { front = s.front; opener = s.opener; more = s.more; split = s.split; at_opener = s.at_opener; opens = s.opens; left = s.left; stuck = s.stuck; keeps = s.keeps; begins = s.begins }

head_at : (t : Word → Bool) (ls front rest other : List Lexeme) → ls ≡ front ++ rest → head rest ≡ head other → head_is t (front ++ other) ≡ head_is t ls
head_at t ls front rest other e h = sym (head_is-same t (front ++ rest) (front ++ other) (head-append front rest other h)) ∙ sym (ap (head_is t) e)

when_stops : {T A : Type 0} (step : Step T) (d u : T) (t : Word → Bool) (p q : Parser A) (R : Lang A) → Reads step d u p R → Reads step d u q R → (ls : List Lexeme) (c : Bool) → head_is t ls ≡ c → Stops step d u (when t p q) R ls (cond c (p ls) (q ls))
when_stops step d u t p q R rp rq ls true e = same_stops step d u p (when t p q) R ls (λ front rest other s h. ap (λ c. cond c (p (front ++ other)) (q (front ++ other))) (head_at t ls front rest other s h ∙ e)) (p ls) (rp.stops ls)
when_stops step d u t p q R rp rq ls false e = same_stops step d u q (when t p q) R ls (λ front rest other s h. ap (λ c. cond c (p (front ++ other)) (q (front ++ other))) (head_at t ls front rest other s h ∙ e)) (q ls) (rq.stops ls)

pub reads_when : {T A : Type 0} (step : Step T) (d u : T) (t : Word → Bool) (p q : Parser A) (R : Lang A) → Reads step d u p R → Reads step d u q R → Reads step d u (when t p q) R
reads_when step d u t p q R rp rq = record { some = rp.some; stops = λ ls. when_stops step d u t p q R rp rq ls (head_is t ls) refl }

-- ---- by what the next token is

abbrev next_of : Option Lexeme → Option Word
next_of None = None
next_of (Some l) = Some (word l)

pub next-same : (r s : List Lexeme) → head r ≡ head s → next r ≡ next s
next-same [] [] e = refl
next-same [] (l ∷ ls) e = cc
next-same (l ∷ ls) [] e = cc
next-same (l ∷ ls) (m ∷ ms) e = ap next_of e

pub reads_by : {T A K : Type 0} (step : Step T) (d u : T) (k : Option Word → K) (f : K → Parser A) (R : Lang A) → K → ((x : K) → Reads step d u (f x) R) → Reads step d u (λ ls. f (k (next ls)) ls) R
reads_by step d u k f R x r = record {
  some = (r x).some;
  stops = λ ls. same_stops step d u (f (k (next ls))) (λ m. f (k (next m)) m) R ls (λ front rest other s h. ap (λ o. f (k o) (front ++ other)) (next-same (front ++ other) ls (sym (ap head s ∙ head-append front rest other h)))) (f (k (next ls)) ls) ((r (k (next ls))).stops ls);
}

-- ---- any number of times

abbrev pub IsNonempty : {A : Type 0} → Lang A → Type 0
IsNonempty {A} R = (a : A) (ls : List Lexeme) → R a ls → 0 < length ls

shorter_at : {T A : Type 0} (step : Step T) (d : T) (p : Parser A) (R : Lang A) → IsNonempty R → (ls : List Lexeme) (a : A) (rest : List Lexeme) → StopsOk step d d p R ls a rest → length rest < length ls
shorter_at step d p R n ls a rest s = omega (arith, n a s.front s.spells, ap length s.split, length-append s.front rest)

stable_at : {T A : Type 0} (step : Step T) (d : T) (t : Word → Bool) (p : Parser A) (R : Lang A) → IsNonempty R → (k m : ℕ) (ls : List Lexeme) → ((rest : List Lexeme) → length rest < length ls → many_by k t p rest ≡ many_by m t p rest) → (r : Answer A) → Stops step d d p R ls r → and_then r (λ a rest. and_then (many_by k t p rest) (λ more. pure (a ∷ more))) ≡ and_then r (λ a rest. and_then (many_by m t p rest) (λ more. pure (a ∷ more)))
stable_at step d t p R n k m ls f (Ok x) s = ap (λ o. and_then o (λ more. pure (x.0 ∷ more))) (f x.1 (shorter_at step d p R n ls x.0 x.1 s))
stable_at step d t p R n k m ls f (Err e) s = refl

pub many_stable : {T A : Type 0} (step : Step T) (d : T) (t : Word → Bool) (p : Parser A) (R : Lang A) → IsNonempty R → Reads step d d p R → (k m : ℕ) (ls : List Lexeme) → length ls ≤ k → length ls ≤ m → many_by k t p ls ≡ many_by m t p ls
many_stable step d t p R n r zero zero ls h g = refl
many_stable step d t p R n r zero (suc m) [] h g = refl
many_stable step d t p R n r zero (suc m) (l ∷ ls) h g = absurd (omega arith)
many_stable step d t p R n r (suc k) zero [] h g = refl
many_stable step d t p R n r (suc k) zero (l ∷ ls) h g = absurd (omega arith)
many_stable step d t p R n r (suc k) (suc m) ls h g = ap (λ o. cond (head_is t ls) o (Ok ([], ls))) (stable_at step d t p R n k m ls (λ rest s. many_stable step d t p R n r k m rest (omega arith) (omega arith)) (p ls) (r.stops ls))

abbrev again_of : {A : Type 0} → (Word → Bool) → Parser A → Parser (List A)
again_of t p = when t (p >>= λ a. many t p >>= λ more. pure (a ∷ more)) (pure [])

after_at : {T A : Type 0} (step : Step T) (d : T) (t : Word → Bool) (p : Parser A) (R : Lang A) → IsNonempty R → Reads step d d p R → (k : ℕ) (ls : List Lexeme) → length ls ≤ suc k → (r : Answer A) → Stops step d d p R ls r → and_then r (λ a rest. and_then (many_by k t p rest) (λ more. pure (a ∷ more))) ≡ and_then r (λ a rest. and_then (many t p rest) (λ more. pure (a ∷ more)))
unfolding many
after_at step d t p R n r k ls h (Ok x) s = ap (λ o. and_then o (λ more. pure (x.0 ∷ more))) (many_stable step d t p R n r k (length x.1) x.1 (omega (arith, shorter_at step d p R n ls x.0 x.1 s)) (omega arith))
after_at step d t p R n r k ls h (Err e) s = refl

pub many-step : {T A : Type 0} (step : Step T) (d : T) (t : Word → Bool) (p : Parser A) (R : Lang A) → IsNonempty R → Reads step d d p R → (ls : List Lexeme) → many t p ls ≡ again_of t p ls
unfolding many
many-step step d t p R n r ls = many_stable step d t p R n r (length ls) (suc (length ls)) ls (omega arith) (omega arith) ∙ ap (λ o. cond (head_is t ls) o (Ok ([], ls))) (after_at step d t p R n r (length ls) ls (omega arith) (p ls) (r.stops ls))

spell_more : {A : Type 0} (R : Lang A) (bs : List A) (ls : List Lexeme) → Seq R (λ a. Seq (Repeated R) (λ more. Nothing (a ∷ more))) bs ls → Repeated R bs ls
spell_more R _ _ (seq a _ xs _ r (seq more _ ys _ m nothing)) = rw (append-nil ys) (one_more a more xs ys r m)

many_some : {A : Type 0} (R : Lang A) → Begins (Repeated R) []
many_some R = ([], [], no_more)

then_some : {A : Type 0} (R : Lang A) (a : A) → Begins (Seq (Repeated R) (λ more. Nothing (a ∷ more))) []
then_some R a = (a ∷ [], [], seq [] (a ∷ []) [] [] no_more nothing)

many_again : {T A : Type 0} (step : Step T) (d : T) (t : Word → Bool) (p : Parser A) (R : Lang A) → IsNonempty R → Reads step d d p R → (ls : List Lexeme) → ((rest : List Lexeme) → length rest < length ls → Stops step d d (many t p) (Repeated R) rest (many t p rest)) → (c : Bool) → head_is t ls ≡ c → Stops step d d (again_of t p) (Repeated R) ls (cond c ((p >>= λ a. many t p >>= λ more. pure (a ∷ more)) ls) (pure [] ls))
many_again step d t p R n r ls f true e =
    let q = p >>= λ a. many t p >>= λ more. pure (a ∷ more) in
    same_stops step d d q (again_of t p) (Repeated R) ls
    (λ front rest other s h. ap (λ c. cond c (q (front ++ other)) (Ok ([], front ++ other))) (head_at t ls front rest other s h ∙ e))
    (q ls)
    (weak_stops step d d q _ (Repeated R) (spell_more R) ls (q ls)
    (bind_stops step d d d p (λ a. many t p >>= λ more. pure (a ∷ more)) R (λ a. Seq (Repeated R) (λ more. Nothing (a ∷ more))) (then_some R) ls
    (λ a rest s. bind_stops step d d d (many t p) (λ more. pure (a ∷ more)) (Repeated R) (λ more. Nothing (a ∷ more)) (λ more. (reads_pure step d (a ∷ more)).some) rest (λ more rest2 s2. (reads_pure step d (a ∷ more)).stops rest2) (many t p rest) (f rest (shorter_at step d p R n ls a rest s)))
    (p ls) (r.stops ls)))
many_again step d t p R n r ls f false e =
    record { front = []; split = refl; spells = no_more; keeps = refl; local = λ other h. ap (λ c. cond c ((p >>= λ a. many t p >>= λ more. pure (a ∷ more)) other) (Ok ([], other))) (sym (head_is-same t ls other h) ∙ e) }

many_stops : {T A : Type 0} (step : Step T) (d : T) (t : Word → Bool) (p : Parser A) (R : Lang A) → IsNonempty R → Reads step d d p R → (k : ℕ) (ls : List Lexeme) → length ls < k → Stops step d d (many t p) (Repeated R) ls (many t p ls)
many_stops step d t p R n r zero ls h = absurd (omega arith)
many_stops step d t p R n r (suc k) ls h =
    let again = many-step step d t p R n r in
    subst (Stops step d d (many t p) (Repeated R) ls) (sym (again ls))
    (same_stops step d d (again_of t p) (many t p) (Repeated R) ls (λ front rest other s e. again (front ++ other)) (again_of t p ls)
    (many_again step d t p R n r ls (λ rest g. many_stops step d t p R n r k rest (omega arith)) (head_is t ls) refl))

pub reads_many : {T A : Type 0} (step : Step T) (d : T) (t : Word → Bool) (p : Parser A) (R : Lang A) → IsNonempty R → Reads step d d p R → Reads step d d (many t p) (Repeated R)
reads_many step d t p R n r = record { some = many_some R; stops = λ ls. many_stops step d t p R n r (suc (length ls)) ls (omega arith) }

-- ---- a loop

abbrev pub prepend : {A : Type 0} → List A → Answer (List A) → Answer (List A)
prepend front r = and_then r (λ more rest. Ok (front ++ more, rest))

prepend_prepend : {A : Type 0} (front : List A) (a : A) (r : Answer (List A)) → prepend front (and_then r (λ more. pure (a ∷ more))) ≡ prepend (front ++ a ∷ []) r
prepend_prepend front a (Ok x) = ap (λ l. Ok (l, x.1)) (sym (append_assoc front (a ∷ []) x.0))
prepend_prepend front a (Err e) = refl

module _ {T A : Type 0} (step : Step T) (d : T) (t : Word → Bool) (p : Parser A) (R : Lang A) (n : IsNonempty R) (r : Reads step d d p R) where
  pub many_end : (ls : List Lexeme) → head_is t ls ≡ false → many t p ls ≡ Ok ([], ls)
  many_end ls e = many-step step d t p R n r ls ∙ ap (λ c. cond c ((p >>= λ a. many t p >>= λ more. pure (a ∷ more)) ls) (Ok ([], ls))) e

  pub many_go : (ls : List Lexeme) → head_is t ls ≡ true → many t p ls ≡ and_then (p ls) (λ a. many t p >>= λ more. pure (a ∷ more))
  many_go ls e = many-step step d t p R n r ls ∙ ap (λ c. cond c ((p >>= λ a. many t p >>= λ more. pure (a ∷ more)) ls) (Ok ([], ls))) e

  pub many_err : (ls : List Lexeme) (x : Why × List Lexeme) → head_is t ls ≡ true → p ls ≡ Err x → many t p ls ≡ Err x
  many_err ls x e f = many_go ls e ∙ ap (λ o. and_then o (λ a. many t p >>= λ more. pure (a ∷ more))) f

  pub many_push : (front : List A) (ls : List Lexeme) (a : A) (rest : List Lexeme) → head_is t ls ≡ true → p ls ≡ Ok (a, rest) → prepend front (many t p ls) ≡ prepend (front ++ a ∷ []) (many t p rest)
  many_push front ls a rest e f = ap (prepend front) (many_go ls e ∙ ap (λ o. and_then o (λ a. many t p >>= λ more. pure (a ∷ more))) f) ∙ prepend_prepend front a (many t p rest)

  pub loop_returns : (found : List A) (all : Answer (List A)) (ls : List Lexeme) → prepend found (many t p ls) ≡ all → head_is t ls ≡ false → all ≡ Ok (found, ls)
  loop_returns found all ls i e = sym i ∙ ap (prepend found) (many_end ls e) ∙ ap (λ l. Ok (l, ls)) (append-nil found)

  pub loop_err : (found : List A) (all : Answer (List A)) (ls : List Lexeme) → prepend found (many t p ls) ≡ all → head_is t ls ≡ true → (x : Why × List Lexeme) → p ls ≡ Err x → all ≡ Err x
  loop_err found all ls i e x f = sym i ∙ ap (prepend found) (many_err ls x e f)

  pub loop_goes : (found : List A) (all : Answer (List A)) (ls : List Lexeme) → prepend found (many t p ls) ≡ all → head_is t ls ≡ true → (a : A) (rest : List Lexeme) → p ls ≡ Ok (a, rest) → prepend (found ++ a ∷ []) (many t p rest) ≡ all
  loop_goes found all ls i e a rest f = sym (many_push found ls a rest e f) ∙ i
