-- Both theories at once, with sets of words for what goes on with a rule.
use Rattle.std.proofs.Common.{◌≡◌, ◌||◌, ◌&&◌, ◌⊎◌, inl, inr, Bool, true, false, [], ◌∷◌, ◌++◌, List, Option, Some, None, refl, sym, ap, ◌∙◌, arith, append_assoc, append-nil}
use Rattle.std.proofs.lemmas.Bool.{true≢false}
use Rattle.plural_lexer.specs.declared.token.Token.{Token}
use Rattle.plural_syntax.specs.declared.word.Word.{Word}
use Rattle.plural_syntax.specs.declared.word.Word.TheVariants as w
use Rattle.plural_syntax.specs.declared.tree.Function.{Function}
use Rattle.plural_syntax.specs.Words.{Lexeme, word, is, is_either, head_is, next}
use Rattle.plural_syntax.specs.Levels.{Step}
use Rattle.plural_syntax.specs.Grammar.{Lang, Repeated, Optional}
use Rattle.plural_syntax.specs.Grammar.Repeated.{no_more, one_more}
use Rattle.plural_syntax.specs.Grammar.Optional.{absent, present}
use Rattle.plural_syntax.specs.Inside.Reading.{Parser, pure, ◌>>=◌, take, take_either, function_name, when, maybe, many}
use Rattle.plural_syntax.proofs.Words.{same_word, same_either, is_one_of_two, one_or_other}
use Rattle.plural_syntax.proofs.Readers.{Reads, Seq, Takes, Names, Nothing, IsNonempty, reads_weak, reads_bind, reads_take, reads_name, reads_pure, reads_when, reads_by, reads_many}
use Rattle.plural_syntax.proofs.Readers.Seq.{seq}
use Rattle.plural_syntax.proofs.Readers.Takes.{takes}
use Rattle.plural_syntax.proofs.Readers.Nothing.{nothing}
use Rattle.plural_syntax.proofs.Finders.{Finds, At, is_itself, finds_bind, finds_from, finds_take, finds_name, finds_pure, finds_when, Or, finds_many, finds_maybe, finds_by, never_head}

-- ---- sets of words

abbrev pub in_set : List Word → Word → Bool
in_set [] v = false
in_set (x ∷ xs) v = is x v || in_set xs v

abbrev pub within : List Word → List Word → Bool
within [] ys = true
within (x ∷ xs) ys = in_set ys x && within xs ys

-- a test passes words of the set alone, or none of the set
abbrev pub Covers : List Word → (Word → Bool) → Type 0
Covers h t = (v : Word) → t v ≡ true → in_set h v ≡ true

abbrev pub Apart : List Word → (Word → Bool) → Type 0
Apart g t = (v : Word) → t v ≡ true → in_set g v ≡ false

both_true : (a b : Bool) → (a && b) ≡ true → (a ≡ true) × (b ≡ true)
both_true true b e = (refl, e)
both_true false b e = cc

pub covers_is : (h : List Word) (v : Word) → in_set h v ≡ true → Covers h (is v)
covers_is h v e u f = ap (in_set h) (same_word v u f) ∙ e

pub covers_either : (h : List Word) (v u : Word) → in_set h v ≡ true → in_set h u ≡ true → Covers h (is_either v u)
covers_either h v u e f x g = elim (same_either v u x g) [ inl k ↦ ap (in_set h) k ∙ e | inr k ↦ ap (in_set h) k ∙ f ]

pub covers_set : (h g : List Word) → within g h ≡ true → Covers h (in_set g)
covers_set h [] e v f = cc
covers_set h (x ∷ xs) e v f = elim (one_or_other (is x v) (in_set xs v) f) [ inl k ↦ covers_is h x (both_true (in_set h x) (within xs h) e).0 v k | inr k ↦ covers_set h xs (both_true (in_set h x) (within xs h) e).1 v k ]

pub apart_is : (g : List Word) (v : Word) → in_set g v ≡ false → Apart g (is v)
apart_is g v e u f = ap (in_set g) (same_word v u f) ∙ e

pub apart_either : (g : List Word) (v u : Word) → in_set g v ≡ false → in_set g u ≡ false → Apart g (is_either v u)
apart_either g v u e f x k = elim (same_either v u x k) [ inl m ↦ ap (in_set g) m ∙ e | inr m ↦ ap (in_set g) m ∙ f ]

not_passed : (a b : Bool) → (a ≡ true → b ≡ true) → b ≡ false → a ≡ false
not_passed true b f e = absurd (true≢false (sym (f refl) ∙ e))
not_passed false b f e = refl

pub ends_before : (h : List Word) (t : Word → Bool) → Covers h t → (ls : List Lexeme) → head_is (in_set h) ls ≡ false → head_is t ls ≡ false
ends_before h t c [] e = refl
ends_before h t c (l ∷ ls) e = not_passed (t (word l)) (in_set h (word l)) (c (word l)) e

pub apart_head : (g : List Word) (t : Word → Bool) → Apart g t → (ls : List Lexeme) → head_is t ls ≡ true → head_is (in_set g) ls ≡ false
apart_head g t c [] e = refl
apart_head g t c (l ∷ ls) e = c (word l) e

-- ---- rules

-- the parser reads and finds the trees of a language; words of the set go on with one
pub record Rule {T A : Type 0} (step : Step T) (d u : T) (p : Parser A) (R : Lang A) (g : List Word) : Type 0 where
  pub reads : Reads step d u p R
  pub finds : Finds p R (in_set g)

-- each tree begins with a word that passes
abbrev pub Starts : {A : Type 0} → (Word → Bool) → Lang A → Type 0
Starts {A} t R = (a : A) (xs rest : List Lexeme) → R a xs → head_is t (xs ++ rest) ≡ true

-- no word that passes stands first, unless it stands behind
abbrev pub Avoids : {A : Type 0} → (Word → Bool) → Lang A → List Word → Type 0
Avoids {A} t R h = (a : A) (xs rest : List Lexeme) → R a xs → head_is (in_set h) rest ≡ false → head_is t (xs ++ rest) ≡ false

pub rule_from : {T A : Type 0} {step : Step T} {d u : T} {p : Parser A} {R : Lang A} {g : List Word} (S : Lang A) → ((a : A) (ls : List Lexeme) → R a ls → S a ls) → ((a : A) (ls : List Lexeme) → S a ls → R a ls) → Rule step d u p R g → Rule step d u p S g
rule_from {step = step} {d = d} {u = u} {p = p} {R = R} {g = g} S to from r = record { reads = reads_weak step d u p R S to r.reads; finds = finds_from p S R (in_set g) (in_set g) from (λ ls e. e) r.finds }

pub rule_more : {T A : Type 0} {step : Step T} {d u : T} {p : Parser A} {R : Lang A} {g : List Word} (h : List Word) → within g h ≡ true → Rule step d u p R g → Rule step d u p R h
rule_more {p = p} {R = R} {g = g} h e r = record { reads = r.reads; finds = finds_from p R R (in_set g) (in_set h) (λ a ls x. x) (ends_before h (in_set g) (covers_set h g e)) r.finds }

pub rule_bind : {T A B : Type 0} {step : Step T} {d u v : T} {p : Parser A} {q : A → Parser B} {R : Lang A} {S : A → Lang B} {g h : List Word} → Rule step d u p R g → ((a : A) → Rule step u v (q a) (S a) h) → ((a : A) → Avoids (in_set g) (S a) h) → Rule step d v (p >>= q) (Seq R S) h
rule_bind {step = step} {d = d} {u = u} {v = v} {p = p} {q = q} {R = R} {S = S} {g = g} {h = h} r s side = record {
  reads = reads_bind step d u v p q R S r.reads (λ a. (s a).reads);
  finds = finds_bind p q R S (in_set g) (in_set h) r.finds (λ a. (s a).finds) (λ a b ys rest x e. side a b ys rest x e);
}

-- behind a rule with which nothing goes on
pub rule_then : {T A B : Type 0} {step : Step T} {d u v : T} {p : Parser A} {q : A → Parser B} {R : Lang A} {S : A → Lang B} {h : List Word} → Rule step d u p R [] → ((a : A) → Rule step u v (q a) (S a) h) → Rule step d v (p >>= q) (Seq R S) h
rule_then r s = rule_bind r s (λ a b xs rest x e. never_head (xs ++ rest))

-- behind nothing more
pub done : {A : Type 0} (R : Lang A) (a b : A) (xs ys : List Lexeme) → Nothing a b ys → R a xs → R b (xs ++ ys)
done R a _ xs _ nothing r = rw (append-nil xs) r

pub rule_take : {T : Type 0} {step : Step T} {d u : T} (v : Word) → step d v ≡ Some u → Rule step d u (take v) (Takes v) []
rule_take {step = step} {d = d} {u = u} v e = record { reads = reads_take step d u v e; finds = finds_take v (in_set []) }

pub rule_name : {T : Type 0} {step : Step T} {d u : T} → ((f : Function) → step d (w.Function f) ≡ Some u) → Rule step d u function_name Names []
rule_name {step = step} {d = d} {u = u} e = record { reads = reads_name step d u e; finds = finds_name (in_set []) }

pub tok : {T B : Type 0} {step : Step T} {d u t : T} {q : Token → Parser B} {S : Token → Lang B} {h : List Word} (v : Word) → step d v ≡ Some u → ((a : Token) → Rule step u t (q a) (S a) h) → Rule step d t (take v >>= q) (Seq (Takes v) S) h
tok v e s = rule_then (rule_take v e) s

pub yields : {T A : Type 0} {step : Step T} {d : T} {a : A} {g : List Word} → Rule step d d (pure a) (Nothing a) g
yields {step = step} {d = d} {a = a} {g = g} = record { reads = reads_pure step d a; finds = finds_pure a (in_set g) }

-- a rule, and what is made of its tree
nothing_avoids : {A B : Type 0} (f : A → B) (g : List Word) (a : A) → Avoids (in_set g) (Nothing (f a)) g
nothing_avoids f g a _ _ rest nothing e = e

pub last : {T A B : Type 0} {step : Step T} {d u : T} {p : Parser A} {f : A → B} {R : Lang A} {g : List Word} → Rule step d u p R g → Rule step d u (p >>= λ a. pure (f a)) (Seq R (λ a. Nothing (f a))) g
last {f = f} {g = g} r = rule_bind r (λ a. yields) (λ a. nothing_avoids f g a)

pub head_takes : {B : Type 0} {S : Token → Lang B} (t : Word → Bool) (v : Word) (c : Bool) → t v ≡ c → (b : B) (xs rest : List Lexeme) → Seq (Takes v) S b xs → head_is t (xs ++ rest) ≡ c
head_takes t v c e _ _ rest (seq _ _ _ _ (takes l h) s) = ap t h ∙ e

-- a rule, and then a token that does not go on with it
pub into : {T A B : Type 0} {step : Step T} {d u t : T} {p : Parser A} {q : A → Token → Parser B} {R : Lang A} {S : A → Token → Lang B} {g h : List Word} (v : Word) → in_set g v ≡ false → Rule step d u p R g → ((a : A) → Rule step u t (take v >>= q a) (Seq (Takes v) (S a)) h) → Rule step d t (p >>= λ a. take v >>= q a) (Seq R (λ a. Seq (Takes v) (S a))) h
into {g = g} v e r s = rule_bind r s (λ a b xs rest x f. head_takes (in_set g) v false e b xs rest x)

pub rule_when : {T A : Type 0} {step : Step T} {d u : T} {p q : Parser A} {R S : Lang A} {g : List Word} (t : Word → Bool) → Starts t R → Avoids t S g → Rule step d u p R g → Rule step d u q S g → Rule step d u (when t p q) (Or R S) g
rule_when {step = step} {d = d} {u = u} {p = p} {q = q} {R = R} {S = S} {g = g} t goes stays r s = record {
  reads = reads_when step d u t p q (Or R S) (reads_weak step d u p R (Or R S) (λ a ls x. inl x) r.reads) (reads_weak step d u q S (Or R S) (λ a ls x. inr x) s.reads);
  finds = finds_when t p q R S (in_set g) r.finds s.finds goes stays;
}

pub nonempty_starts : {A : Type 0} (t : Word → Bool) (R : Lang A) → Starts t R → IsNonempty R
nonempty_starts t R s a [] r = absurd (true≢false (sym (s a [] [] r)))
nonempty_starts t R s a (x ∷ xs) r = omega arith

pub rule_many : {T A : Type 0} {step : Step T} {d : T} {p : Parser A} {R : Lang A} {g : List Word} (t : Word → Bool) (h : List Word) → Starts t R → Apart g t → Covers h t → within g h ≡ true → Rule step d d p R g → Rule step d d (many t p) (Repeated R) h
rule_many {step = step} {d = d} {p = p} {R = R} {g = g} t h starts apart covers e r = record {
  reads = reads_many step d t p R (nonempty_starts t R starts) r.reads;
  finds = finds_many step d t p R (nonempty_starts t R starts) r.reads (in_set g) (in_set h) r.finds starts (apart_head g t apart) (λ ls f. (ends_before h t covers ls f, ends_before h (in_set g) (covers_set h g e) ls f));
}

optional_some : {A : Type 0} (R : Lang A) (o : Option A) (ls : List Lexeme) → Seq R (λ a. Nothing (Some a)) o ls → Optional R o ls
optional_some R _ _ (seq a _ xs _ r nothing) = rw (append-nil xs) (present a xs r)

optional_none : {A : Type 0} (R : Lang A) (o : Option A) (ls : List Lexeme) → Nothing None o ls → Optional R o ls
optional_none R _ _ nothing = absent

pub rule_maybe : {T A : Type 0} {step : Step T} {d : T} {p : Parser A} {R : Lang A} {g : List Word} (v : Word) (h : List Word) → Starts (is v) R → in_set h v ≡ true → within g h ≡ true → Rule step d d p R g → Rule step d d (maybe v p) (Optional R) h
rule_maybe {step = step} {d = d} {p = p} {R = R} {g = g} v h starts c e r = record {
  reads = reads_when step d d (is v) (p >>= λ a. pure (Some a)) (pure None) (Optional R)
      (reads_weak step d d (p >>= λ a. pure (Some a)) (Seq R (λ a. Nothing (Some a))) (Optional R) (optional_some R) (reads_bind step d d d p (λ a. pure (Some a)) R (λ a. Nothing (Some a)) r.reads (λ a. reads_pure step d (Some a))))
      (reads_weak step d d (pure None) (Nothing None) (Optional R) (optional_none R) (reads_pure step d None));
  finds = finds_maybe v p R (in_set g) (in_set h) r.finds starts (λ ls f. (ends_before h (is v) (covers_is h v c) ls f, ends_before h (in_set g) (covers_set h g e) ls f));
}

pub rule_by : {T A K : Type 0} {step : Step T} {d u : T} (k : Option Word → K) (f : K → Parser A) (L : K → Lang A) (R : Lang A) {g : List Word} → K → ((x : K) (a : A) (ls : List Lexeme) → L x a ls → R a ls) → ((a : A) (ls : List Lexeme) → R a ls → At k L a ls) → ((x : K) → Rule step d u (f x) (L x) g) → Rule step d u (λ ls. f (k (next ls)) ls) R g
rule_by {step = step} {d = d} {u = u} k f L R {g = g} x to from r = record {
  reads = reads_by step d u k f R x (λ y. reads_weak step d u (f y) (L y) R (to y) (r y).reads);
  finds = finds_from (λ ls. f (k (next ls)) ls) R (At k L) (in_set g) (in_set g) from (λ ls e. e) (finds_by k f L (in_set g) (λ y. (r y).finds));
}

-- one token of two words
pub data OneOf (v u : Word) : Token → List Lexeme → Type 0 where
  one_of : (l : Lexeme) → (word l ≡ v) ⊎ (word l ≡ u) → OneOf v u l.token (l ∷ [])

to_one_of : (v u : Word) (a : Token) (ls : List Lexeme) → Or (Takes v) (Takes u) a ls → OneOf v u a ls
to_one_of v u _ _ (inl (takes l e)) = one_of l (inl e)
to_one_of v u _ _ (inr (takes l e)) = one_of l (inr e)

from_one_of : (v u : Word) (a : Token) (ls : List Lexeme) → OneOf v u a ls → Or (Takes v) (Takes u) a ls
from_one_of v u _ _ (one_of l (inl e)) = inl (takes l e)
from_one_of v u _ _ (one_of l (inr e)) = inr (takes l e)

takes_head : (t : Word → Bool) (v : Word) (c : Bool) → t v ≡ c → (a : Token) (xs rest : List Lexeme) → Takes v a xs → head_is t (xs ++ rest) ≡ c
takes_head t v c e _ _ rest (takes l h) = ap t h ∙ e

pub rule_either : {T : Type 0} {step : Step T} {d u : T} (v x : Word) → step d v ≡ Some u → step d x ≡ Some u → is v x ≡ false → Rule step d u (take_either v x) (OneOf v x) []
unfolding take_either
rule_either v x e f n = rule_from (OneOf v x) (to_one_of v x) (from_one_of v x) (rule_when (is v) (λ a xs rest r. takes_head (is v) v true (is_itself v) a xs rest r) (λ a xs rest r h. takes_head (is v) x false n a xs rest r) (rule_take v e) (rule_take x f))

-- ---- what stands first

pub starts_takes : {B : Type 0} {S : Token → Lang B} (v : Word) → Starts (is v) (Seq (Takes v) S)
starts_takes v b xs rest r = head_takes (is v) v true (is_itself v) b xs rest r

pub starts_either : {B : Type 0} {S : Token → Lang B} (v u : Word) → Starts (is_either v u) (Seq (OneOf v u) S)
starts_either v u _ _ rest (seq _ _ _ _ (one_of l h) s) = is_one_of_two v u (word l) (is_itself v) (is_itself u) h

pub avoids_nothing : {A : Type 0} {a : A} (t : Word → Bool) (h : List Word) → Covers h t → Avoids t (Nothing a) h
avoids_nothing t h c _ _ rest nothing e = ends_before h t c rest e

avoids_head : (s t : Word → Bool) → ((v : Word) → s v ≡ true → t v ≡ false) → (ls : List Lexeme) → head_is s ls ≡ true → head_is t ls ≡ false
avoids_head s t f [] e = refl
avoids_head s t f (l ∷ ls) e = f (word l) e

pub avoids_many : {A B : Type 0} {R : Lang A} {S : List A → Lang B} (h : List Word) (s t : Word → Bool) → Starts s R → ((v : Word) → s v ≡ true → t v ≡ false) → ((a : List A) → Avoids t (S a) h) → Avoids t (Seq (Repeated R) S) h
avoids_many h s t starts apart f _ _ rest (seq a b _ ys no_more k) e = f a b ys rest k e
avoids_many h s t starts apart f _ _ rest (seq _ b _ zs (one_more a more xs ys r m) k) e =
    avoids_head s t apart (((xs ++ ys) ++ zs) ++ rest) (ap (head_is s) (append_assoc (xs ++ ys) zs rest ∙ append_assoc xs ys (zs ++ rest)) ∙ starts a xs (ys ++ (zs ++ rest)) r)

pub avoids_maybe : {A B : Type 0} {R : Lang A} {S : Option A → Lang B} (h : List Word) (s t : Word → Bool) → Starts s R → ((v : Word) → s v ≡ true → t v ≡ false) → ((a : Option A) → Avoids t (S a) h) → Avoids t (Seq (Optional R) S) h
avoids_maybe h s t starts apart f _ _ rest (seq a b _ ys absent k) e = f a b ys rest k e
avoids_maybe h s t starts apart f _ _ rest (seq _ b _ ys (present a xs r) k) e = avoids_head s t apart ((xs ++ ys) ++ rest) (ap (head_is s) (append_assoc xs ys rest) ∙ starts a xs (ys ++ rest) r)
