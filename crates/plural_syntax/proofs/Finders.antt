-- What each way of joining parsers finds: the tree that the tokens spell, whatever follows that does not go on with it.
use Rattle.std.proofs.Common.{◌≡◌, ◌⊎◌, inl, inr, Bool, true, false, cond, [], ◌∷◌, ◌++◌, List, Ok, Err, Option, Some, None, refl, sym, ap, subst, ◌∙◌, append_assoc, append-nil}
use Rattle.std.proofs.lemmas.Bool.{eq-eqb}
use Rattle.plural_lexer.specs.declared.token.Token.{Token}
use Rattle.plural_syntax.specs.declared.word.Word.{Word}
use Rattle.plural_syntax.specs.declared.tree.FunctionName.{FunctionName}
use Rattle.plural_syntax.specs.Words.{Lexeme, word, number, is, head_is, next, function_of}
use Rattle.plural_syntax.specs.Levels.{Step}
use Rattle.plural_syntax.specs.Grammar.{Lang, Repeated, Optional}
use Rattle.plural_syntax.specs.Grammar.Repeated.{no_more, one_more}
use Rattle.plural_syntax.specs.Grammar.Optional.{absent, present}
use Rattle.plural_syntax.specs.Inside.Reading.{Answer, Parser, pure, and_then, ◌>>=◌, take, named_by, function_name, when, maybe, many}
use Rattle.plural_syntax.specs.Inside.Reading.Why.{unexpected, deep}
use Rattle.plural_syntax.proofs.Words.{is_word}
use Rattle.plural_syntax.proofs.Readers.{Begins, StopsBad, Reads, Seq, Takes, Names, Nothing, IsNonempty, many-step}
use Rattle.plural_syntax.proofs.Readers.Seq.{seq}
use Rattle.plural_syntax.proofs.Readers.Takes.{takes}
use Rattle.plural_syntax.proofs.Readers.Names.{names}
use Rattle.plural_syntax.proofs.Readers.Nothing.{nothing}

abbrev pub IsDeep : {A : Type 0} → Answer A → Type 0
IsDeep (Ok x) = ⊥
IsDeep (Err (unexpected, rest)) = ⊥
IsDeep (Err (deep, rest)) = Unit {0}

-- that value and that rest, or too deep
abbrev pub Fine : {A : Type 0} → Answer A → A → List Lexeme → Type 0
Fine r a rest = (r ≡ Ok (a, rest)) ⊎ IsDeep r

-- tokens of a word with g go on with what is read
pub record Finds {A : Type 0} (p : Parser A) (R : Lang A) (g : Word → Bool) : Type 0 where
  pub again : (a : A) (xs rest : List Lexeme) → R a xs → head_is g rest ≡ false → Fine (p (xs ++ rest)) a rest

deep_then : {A B : Type 0} (r : Answer A) (q : A → Parser B) → IsDeep r → IsDeep (and_then r q)
deep_then (Ok x) q h = absurd h
deep_then (Err (unexpected, rest)) q h = absurd h
deep_then (Err (deep, rest)) q h = tt

pub fine_same : {A : Type 0} (r s : Answer A) (a : A) (rest : List Lexeme) → r ≡ s → Fine s a rest → Fine r a rest
fine_same r s a rest e f = subst (λ x. Fine x a rest) (sym e) f

fine_then : {A B : Type 0} (r : Answer A) (q : A → Parser B) (a : A) (b : B) (rest rest2 : List Lexeme) → Fine r a rest → Fine (q a rest) b rest2 → Fine (and_then r q) b rest2
fine_then r q a b rest rest2 (inl e) f = fine_same (and_then r q) (q a rest) b rest2 (ap (λ x. and_then x q) e) f
fine_then r q a b rest rest2 (inr h) f = inr (deep_then r q h)

abbrev pub never : Word → Bool
never v = false

pub never_head : (ls : List Lexeme) → head_is never ls ≡ false
never_head [] = refl
never_head (l ∷ ls) = refl

bind_again : {A B : Type 0} (p : Parser A) (q : A → Parser B) (R : Lang A) (S : A → Lang B) (g h : Word → Bool) → Finds p R g → ((a : A) → Finds (q a) (S a) h) → ((a : A) (b : B) (ys rest : List Lexeme) → S a b ys → head_is h rest ≡ false → head_is g (ys ++ rest) ≡ false) → (b : B) (ls rest : List Lexeme) → Seq R S b ls → head_is h rest ≡ false → Fine ((p >>= q) (ls ++ rest)) b rest
bind_again p q R S g h fp fq side _ _ rest (seq a b xs ys r s) e =
    fine_same _ (and_then (p (xs ++ (ys ++ rest))) q) b rest (ap (λ l. and_then (p l) q) (append_assoc xs ys rest))
    (fine_then (p (xs ++ (ys ++ rest))) q a b (ys ++ rest) rest (fp.again a xs (ys ++ rest) r (side a b ys rest s e)) ((fq a).again b ys rest s e))

pub finds_bind : {A B : Type 0} (p : Parser A) (q : A → Parser B) (R : Lang A) (S : A → Lang B) (g h : Word → Bool) → Finds p R g → ((a : A) → Finds (q a) (S a) h) → ((a : A) (b : B) (ys rest : List Lexeme) → S a b ys → head_is h rest ≡ false → head_is g (ys ++ rest) ≡ false) → Finds (p >>= q) (Seq R S) h
finds_bind p q R S g h fp fq side = record { again = bind_again p q R S g h fp fq side }

-- where nothing goes on with the first part
pub finds_then : {A B : Type 0} (p : Parser A) (q : A → Parser B) (R : Lang A) (S : A → Lang B) (h : Word → Bool) → Finds p R never → ((a : A) → Finds (q a) (S a) h) → Finds (p >>= q) (Seq R S) h
finds_then p q R S h fp fq = finds_bind p q R S never h fp fq (λ a b ys rest s e. never_head (ys ++ rest))

pub finds_from : {A : Type 0} (p : Parser A) (R S : Lang A) (g h : Word → Bool) → ((a : A) (ls : List Lexeme) → R a ls → S a ls) → ((ls : List Lexeme) → head_is h ls ≡ false → head_is g ls ≡ false) → Finds p S g → Finds p R h
finds_from p R S g h f k fp = record { again = λ a xs rest r e. fp.again a xs rest (f a xs r) (k rest e) }

pub is_itself : (v : Word) → is v v ≡ true
is_itself v = eq-eqb (number v) (number v) refl

take_again : (v : Word) (a : Token) (xs rest : List Lexeme) → Takes v a xs → Fine (take v (xs ++ rest)) a rest
take_again v _ _ rest (takes l e) = inl (ap (λ c. cond c (Ok (l.token, rest)) (Err (unexpected, l ∷ rest))) (is_word v (word l) (is_itself v) e))

pub finds_take : (v : Word) (g : Word → Bool) → Finds (take v) (Takes v) g
finds_take v g = record { again = λ a xs rest r e. take_again v a xs rest r }

name_again : (n : FunctionName) (xs rest : List Lexeme) → Names n xs → Fine (function_name (xs ++ rest)) n rest
name_again _ _ rest (names l f e) = inl (ap (λ v. named_by (function_of v) l rest) e)

pub finds_name : (g : Word → Bool) → Finds function_name Names g
finds_name g = record { again = λ n xs rest r e. name_again n xs rest r }

pure_again : {A : Type 0} (a b : A) (xs rest : List Lexeme) → Nothing a b xs → Fine (pure a (xs ++ rest)) b rest
pure_again a _ _ rest nothing = inl refl

pub finds_pure : {A : Type 0} (a : A) (g : Word → Bool) → Finds (pure a) (Nothing a) g
finds_pure a g = record { again = λ b xs rest r e. pure_again a b xs rest r }

when_again : {A : Type 0} (t : Word → Bool) (p q : Parser A) (R S : Lang A) (g : Word → Bool) → Finds p R g → Finds q S g → ((a : A) (xs rest : List Lexeme) → R a xs → head_is t (xs ++ rest) ≡ true) → ((a : A) (xs rest : List Lexeme) → S a xs → head_is g rest ≡ false → head_is t (xs ++ rest) ≡ false) → (a : A) (xs rest : List Lexeme) → (R a xs ⊎ S a xs) → head_is g rest ≡ false → Fine (when t p q (xs ++ rest)) a rest
when_again t p q R S g fp fq goes stays a xs rest (inl r) e = fine_same _ (p (xs ++ rest)) a rest (ap (λ c. cond c (p (xs ++ rest)) (q (xs ++ rest))) (goes a xs rest r)) (fp.again a xs rest r e)
when_again t p q R S g fp fq goes stays a xs rest (inr s) e = fine_same _ (q (xs ++ rest)) a rest (ap (λ c. cond c (p (xs ++ rest)) (q (xs ++ rest))) (stays a xs rest s e)) (fq.again a xs rest s e)

abbrev pub Or : {A : Type 0} → Lang A → Lang A → Lang A
Or R S a xs = R a xs ⊎ S a xs

pub finds_when : {A : Type 0} (t : Word → Bool) (p q : Parser A) (R S : Lang A) (g : Word → Bool) → Finds p R g → Finds q S g → ((a : A) (xs rest : List Lexeme) → R a xs → head_is t (xs ++ rest) ≡ true) → ((a : A) (xs rest : List Lexeme) → S a xs → head_is g rest ≡ false → head_is t (xs ++ rest) ≡ false) → Finds (when t p q) (Or R S) g
finds_when t p q R S g fp fq goes stays = record { again = when_again t p q R S g fp fq goes stays }

-- ---- any number of times

module _ {T A : Type 0} (step : Step T) (d : T) (t : Word → Bool) (p : Parser A) (R : Lang A) (nonempty : IsNonempty R) (reads : Reads step d d p R) (g h : Word → Bool) (fp : Finds p R g)
    (starts : (a : A) (xs rest : List Lexeme) → R a xs → head_is t (xs ++ rest) ≡ true)
    (apart : (ls : List Lexeme) → head_is t ls ≡ true → head_is g ls ≡ false)
    (ends : (ls : List Lexeme) → head_is h ls ≡ false → (head_is t ls ≡ false) × (head_is g ls ≡ false)) where
  pub follows : (more : List A) (ys rest : List Lexeme) → Repeated R more ys → head_is h rest ≡ false → head_is g (ys ++ rest) ≡ false
  follows _ _ rest no_more e = (ends rest e).1
  follows _ _ rest (one_more a more xs ys r m) e = apart ((xs ++ ys) ++ rest) (ap (head_is t) (append_assoc xs ys rest) ∙ starts a xs (ys ++ rest) r)

  many_again : (bs : List A) (ls rest : List Lexeme) → Repeated R bs ls → head_is h rest ≡ false → Fine (many t p (ls ++ rest)) bs rest
  many_again _ _ rest no_more e = inl (many-step step d t p R nonempty reads rest ∙ ap (λ c. cond c ((p >>= λ a. many t p >>= λ more. pure (a ∷ more)) rest) (Ok ([], rest))) (ends rest e).0)
  many_again _ _ rest (one_more a more xs ys r m) e =
      let q : A → Parser (List A) = λ a. many t p >>= λ more. pure (a ∷ more) in
      let all : many t p ((xs ++ ys) ++ rest) ≡ and_then (p (xs ++ (ys ++ rest))) q =
      ap (many t p) (append_assoc xs ys rest) ∙ many-step step d t p R nonempty reads (xs ++ (ys ++ rest)) ∙ ap (λ c. cond c ((p >>= q) (xs ++ (ys ++ rest))) (Ok ([], xs ++ (ys ++ rest)))) (starts a xs (ys ++ rest) r) in
      fine_same _ _ (a ∷ more) rest all
      (fine_then (p (xs ++ (ys ++ rest))) q a (a ∷ more) (ys ++ rest) rest (fp.again a xs (ys ++ rest) r (follows more ys rest m e))
      (fine_then (many t p (ys ++ rest)) (λ more. pure (a ∷ more)) more (a ∷ more) rest rest (many_again more ys rest m e) (inl refl)))

  pub finds_many : Finds (many t p) (Repeated R) h
  finds_many = record { again = many_again }

-- ---- once or not at all

maybe_again : {A : Type 0} (v : Word) (p : Parser A) (R : Lang A) (g h : Word → Bool) → Finds p R g → ((a : A) (xs rest : List Lexeme) → R a xs → head_is (is v) (xs ++ rest) ≡ true) → ((ls : List Lexeme) → head_is h ls ≡ false → (head_is (is v) ls ≡ false) × (head_is g ls ≡ false)) → (o : Option A) (xs rest : List Lexeme) → Optional R o xs → head_is h rest ≡ false → Fine (maybe v p (xs ++ rest)) o rest
maybe_again v p R g h f starts ends _ _ rest absent e = inl (ap (λ c. cond c (and_then (p rest) (λ a. pure (Some a))) (Ok (None, rest))) (ends rest e).0)
maybe_again v p R g h f starts ends _ _ rest (present a xs r) e =
    fine_same _ (and_then (p (xs ++ rest)) (λ b. pure (Some b))) (Some a) rest (ap (λ c. cond c (and_then (p (xs ++ rest)) (λ b. pure (Some b))) (Ok (None, xs ++ rest))) (starts a xs rest r))
    (fine_then (p (xs ++ rest)) (λ b. pure (Some b)) a (Some a) rest rest (f.again a xs rest r (ends rest e).1) (inl refl))

pub finds_maybe : {A : Type 0} (v : Word) (p : Parser A) (R : Lang A) (g h : Word → Bool) → Finds p R g → ((a : A) (xs rest : List Lexeme) → R a xs → head_is (is v) (xs ++ rest) ≡ true) → ((ls : List Lexeme) → head_is h ls ≡ false → (head_is (is v) ls ≡ false) × (head_is g ls ≡ false)) → Finds (maybe v p) (Optional R) h
finds_maybe v p R g h f starts ends = record { again = maybe_again v p R g h f starts ends }

-- ---- by what the next token is

-- the alternative that some tokens begin
pub record At {A K : Type 0} (k : Option Word → K) (L : K → Lang A) (a : A) (xs : List Lexeme) : Type 0 where
  pub start : K
  pub begins : (rest : List Lexeme) → k (next (xs ++ rest)) ≡ start
  pub spells : L start a xs

by_again : {A K : Type 0} (k : Option Word → K) (f : K → Parser A) (L : K → Lang A) (g : Word → Bool) → ((x : K) → Finds (f x) (L x) g) → (a : A) (xs rest : List Lexeme) → At k L a xs → head_is g rest ≡ false → Fine (f (k (next (xs ++ rest))) (xs ++ rest)) a rest
by_again k f L g h a xs rest r e = fine_same _ (f r.start (xs ++ rest)) a rest (ap (λ x. f x (xs ++ rest)) (r.begins rest)) ((h r.start).again a xs rest r.spells e)

pub finds_by : {A K : Type 0} (k : Option Word → K) (f : K → Parser A) (L : K → Lang A) (g : Word → Bool) → ((x : K) → Finds (f x) (L x) g) → Finds (λ ls. f (k (next ls)) ls) (At k L) g
finds_by k f L g h = record { again = by_again k f L g h }

-- ---- where nothing begins

not_fine : {A : Type 0} (r : Answer A) (a : A) (rest : List Lexeme) → r ≡ Err (unexpected, rest) → Fine r a [] → ⊥
not_fine r a rest e (inl f) = cc
not_fine r a rest e (inr h) = subst IsDeep e h

-- with the token at which a parser stops nothing of its language begins
pub not_begun : {T A : Type 0} (step : Step T) (d : T) (p : Parser A) (R : Lang A) (g : Word → Bool) → Finds p R g → (ls : List Lexeme) (x : Lexeme) (rest : List Lexeme) → (s : StopsBad step d p R ls (x ∷ rest)) → Begins R (s.front ++ x ∷ []) → ⊥
not_begun step d p R g fp ls x rest s b =
    let same : p ((((s.front ++ x ∷ []) ++ b.1)) ++ []) ≡ Err (unexpected, x ∷ b.1) =
    ap p (append-nil ((s.front ++ x ∷ []) ++ b.1) ∙ append_assoc s.front (x ∷ []) b.1) ∙ s.local (x ∷ b.1) refl in
    not_fine (p (((s.front ++ x ∷ []) ++ b.1) ++ [])) b.0 (x ∷ b.1) same (fp.again b.0 ((s.front ++ x ∷ []) ++ b.1) [] b.2 refl)
