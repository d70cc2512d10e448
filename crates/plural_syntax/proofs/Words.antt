-- A token of each word, and that words with one number are equal.
use Rattle.std.proofs.Common.{◌≡◌, ℕ, Bool, true, false, ◌||◌, ◌⊎◌, inl, inr, List, [], ◌∷◌, get_or, Some, None, is_some, codes, refl, sym, ap, ◌∙◌}
use Rattle.std.proofs.lemmas.Bool.{eqb-true}
use Rattle.plural_lexer.specs.declared.token.TokenKind.{TokenKind}
use Rattle.plural_lexer.specs.declared.token.TokenKind.TheVariants as kind
use Rattle.plural_syntax.specs.declared.word.Word.{Word}
use Rattle.plural_syntax.specs.declared.word.Word.TheVariants as w
use Rattle.plural_syntax.specs.declared.tree.Function.{Function}
use Rattle.plural_syntax.specs.declared.tree.Function.TheVariants as fn
use Rattle.plural_syntax.specs.Words.{Lexeme, word, number, is, is_either, spelled, function_of, names_function}

abbrev made : TokenKind → List ℕ → Lexeme
made k text = record { token = record { kind = k; start = 0; end = 0; line = 0; column = 0 }; text = text }

abbrev pub sample : Word → Lexeme
sample w.Name = made kind.Name []
sample w.Int = made kind.Int []
sample w.Ring = made kind.Reserved (codes "ring")
sample w.SetRing = made kind.Reserved (codes "setring")
sample w.Def = made kind.Reserved (codes "def")
sample w.Poly = made kind.Reserved (codes "poly")
sample w.Module = made kind.Reserved (codes "module")
sample w.Matrix = made kind.Reserved (codes "matrix")
sample w.Option = made kind.Reserved (codes "option")
sample w.Short = made kind.Reserved (codes "short")
sample w.Quit = made kind.Reserved (codes "quit")
sample w.NcAlgebra = made kind.Reserved (codes "nc_algebra")
sample (w.Function fn.Std) = made kind.Reserved (codes "std")
sample (w.Function fn.TwoStd) = made kind.Reserved (codes "twostd")
sample (w.Function fn.Nf) = made kind.Reserved (codes "NF")
sample (w.Function fn.Reduce) = made kind.Reserved (codes "reduce")
sample (w.Function fn.Eliminate) = made kind.Reserved (codes "eliminate")
sample (w.Function fn.Syz) = made kind.Reserved (codes "syz")
sample (w.Function fn.Cofactors) = made kind.Reserved (codes "cofactors")
sample (w.Function fn.TwoChain) = made kind.Reserved (codes "twochain")
sample (w.Function fn.Summary) = made kind.Reserved (codes "summary")
sample (w.Function fn.Ideal) = made kind.Reserved (codes "ideal")
sample w.Equals = made kind.Sign (codes "=")
sample w.Comma = made kind.Sign (codes ",")
sample w.Semicolon = made kind.Sign (codes ";")
sample w.Open = made kind.Sign (codes "(")
sample w.Close = made kind.Sign (codes ")")
sample w.OpenIndex = made kind.Sign (codes "[")
sample w.CloseIndex = made kind.Sign (codes "]")
sample w.Plus = made kind.Sign (codes "+")
sample w.Minus = made kind.Sign (codes "-")
sample w.Times = made kind.Sign (codes "*")
sample w.Over = made kind.Sign (codes "/")
sample w.Power = made kind.Sign (codes "^")
sample w.End = made kind.End []
sample w.Other = made kind.Reserved []

pub word-sample : (v : Word) → word (sample v) ≡ v
unfolding spelled
word-sample w.Name = refl
word-sample w.Int = refl
word-sample w.Ring = refl
word-sample w.SetRing = refl
word-sample w.Def = refl
word-sample w.Poly = refl
word-sample w.Module = refl
word-sample w.Matrix = refl
word-sample w.Option = refl
word-sample w.Short = refl
word-sample w.Quit = refl
word-sample w.NcAlgebra = refl
word-sample w.Equals = refl
word-sample w.Comma = refl
word-sample w.Semicolon = refl
word-sample w.Open = refl
word-sample w.Close = refl
word-sample w.OpenIndex = refl
word-sample w.CloseIndex = refl
word-sample w.Plus = refl
word-sample w.Minus = refl
word-sample w.Times = refl
word-sample w.Over = refl
word-sample w.Power = refl
word-sample w.End = refl
word-sample w.Other = refl
word-sample (w.Function fn.Std) = refl
word-sample (w.Function fn.TwoStd) = refl
word-sample (w.Function fn.Nf) = refl
word-sample (w.Function fn.Reduce) = refl
word-sample (w.Function fn.Eliminate) = refl
word-sample (w.Function fn.Syz) = refl
word-sample (w.Function fn.Cofactors) = refl
word-sample (w.Function fn.TwoChain) = refl
word-sample (w.Function fn.Summary) = refl
word-sample (w.Function fn.Ideal) = refl

abbrev all_words : List Word
all_words =
    w.Name ∷ w.Int ∷ w.Ring ∷ w.SetRing ∷ w.Def ∷ w.Poly ∷ w.Module ∷ w.Matrix ∷
    w.Option ∷ w.Short ∷ w.Quit ∷ w.NcAlgebra ∷ w.Equals ∷ w.Comma ∷ w.Semicolon ∷ w.Open ∷
    w.Close ∷ w.OpenIndex ∷ w.CloseIndex ∷ w.Plus ∷ w.Minus ∷ w.Times ∷ w.Over ∷ w.Power ∷
    w.End ∷ w.Other ∷ (w.Function fn.Std) ∷ (w.Function fn.TwoStd) ∷ (w.Function fn.Nf) ∷ (w.Function fn.Reduce) ∷ (w.Function fn.Eliminate) ∷ (w.Function fn.Syz) ∷
    (w.Function fn.Cofactors) ∷ (w.Function fn.TwoChain) ∷ (w.Function fn.Summary) ∷ (w.Function fn.Ideal) ∷ []

abbrev numbered : ℕ → Word
numbered n = get_or all_words n w.Other

numbered-number : (v : Word) → numbered (number v) ≡ v
numbered-number w.Name = refl
numbered-number w.Int = refl
numbered-number w.Ring = refl
numbered-number w.SetRing = refl
numbered-number w.Def = refl
numbered-number w.Poly = refl
numbered-number w.Module = refl
numbered-number w.Matrix = refl
numbered-number w.Option = refl
numbered-number w.Short = refl
numbered-number w.Quit = refl
numbered-number w.NcAlgebra = refl
numbered-number w.Equals = refl
numbered-number w.Comma = refl
numbered-number w.Semicolon = refl
numbered-number w.Open = refl
numbered-number w.Close = refl
numbered-number w.OpenIndex = refl
numbered-number w.CloseIndex = refl
numbered-number w.Plus = refl
numbered-number w.Minus = refl
numbered-number w.Times = refl
numbered-number w.Over = refl
numbered-number w.Power = refl
numbered-number w.End = refl
numbered-number w.Other = refl
numbered-number (w.Function fn.Std) = refl
numbered-number (w.Function fn.TwoStd) = refl
numbered-number (w.Function fn.Nf) = refl
numbered-number (w.Function fn.Reduce) = refl
numbered-number (w.Function fn.Eliminate) = refl
numbered-number (w.Function fn.Syz) = refl
numbered-number (w.Function fn.Cofactors) = refl
numbered-number (w.Function fn.TwoChain) = refl
numbered-number (w.Function fn.Summary) = refl
numbered-number (w.Function fn.Ideal) = refl

pub same_word : (v u : Word) → is v u ≡ true → u ≡ v
same_word v u e = sym (numbered-number u) ∙ ap numbered (sym (eqb-true (number v) (number u) e)) ∙ numbered-number v

-- an equal word passes
pub is_word : (v u : Word) → is v v ≡ true → u ≡ v → is v u ≡ true
is_word v u r e = ap (is v) e ∙ r

pub one_or_other : (a b : Bool) → (a || b) ≡ true → (a ≡ true) ⊎ (b ≡ true)
one_or_other true b e = inl refl
one_or_other false b e = inr e

pub same_either : (v u x : Word) → is_either v u x ≡ true → (x ≡ v) ⊎ (x ≡ u)
same_either v u x e = elim (one_or_other (is v x) (is u x) e) [ inl h ↦ inl (same_word v x h) | inr h ↦ inr (same_word u x h) ]

pub or_left : (a b : Bool) → a ≡ true → (a || b) ≡ true
or_left true b e = refl
or_left false b e = cc

pub or_right : (a b : Bool) → b ≡ true → (a || b) ≡ true
or_right true b e = refl
or_right false b e = e

pub is_one_of_two : (v u x : Word) → is v v ≡ true → is u u ≡ true → (x ≡ v) ⊎ (x ≡ u) → is_either v u x ≡ true
is_one_of_two v u x p q (inl e) = or_left (is v x) (is u x) (is_word v x p e)
is_one_of_two v u x p q (inr e) = or_right (is v x) (is u x) (is_word u x q e)

-- ---- words that name a function

-- what holds of each function holds of all
pub each_function : (P : Function → Type 0) → P fn.Std → P fn.TwoStd → P fn.Nf → P fn.Reduce → P fn.Eliminate → P fn.Syz → P fn.Cofactors → P fn.TwoChain → P fn.Summary → P fn.Ideal → (f : Function) → P f
each_function P a b c d e g h i j k fn.Std = a
each_function P a b c d e g h i j k fn.TwoStd = b
each_function P a b c d e g h i j k fn.Nf = c
each_function P a b c d e g h i j k fn.Reduce = d
each_function P a b c d e g h i j k fn.Eliminate = e
each_function P a b c d e g h i j k fn.Syz = g
each_function P a b c d e g h i j k fn.Cofactors = h
each_function P a b c d e g h i j k fn.TwoChain = i
each_function P a b c d e g h i j k fn.Summary = j
each_function P a b c d e g h i j k fn.Ideal = k

pub function_word : (v : Word) (f : Function) → function_of v ≡ Some f → v ≡ w.Function f
function_word w.Name f e = cc
function_word w.Int f e = cc
function_word w.Ring f e = cc
function_word w.SetRing f e = cc
function_word w.Def f e = cc
function_word w.Poly f e = cc
function_word w.Module f e = cc
function_word w.Matrix f e = cc
function_word w.Option f e = cc
function_word w.Short f e = cc
function_word w.Quit f e = cc
function_word w.NcAlgebra f e = cc
function_word w.Equals f e = cc
function_word w.Comma f e = cc
function_word w.Semicolon f e = cc
function_word w.Open f e = cc
function_word w.Close f e = cc
function_word w.OpenIndex f e = cc
function_word w.CloseIndex f e = cc
function_word w.Plus f e = cc
function_word w.Minus f e = cc
function_word w.Times f e = cc
function_word w.Over f e = cc
function_word w.Power f e = cc
function_word w.End f e = cc
function_word w.Other f e = cc
function_word (w.Function g) f e = cc

pub not_a_function : (v : Word) → function_of v ≡ None → names_function v ≡ false
not_a_function v e = ap is_some e
