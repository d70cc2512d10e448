-- The tokens whose word is `Name` are those of kind `Name`.
use Rattle.std.proofs.Common.{◌≡◌, ℕ, Bool, true, false, if◌then◌else◌, List, [], ◌∷◌, refl, ap}
use lib.Pointwise.{pointwise}
use lib.Dec.{eqb}
use Rattle.plural_lexer.specs.declared.token.TokenKind.{TokenKind}
use Rattle.plural_lexer.specs.declared.token.TokenKind.TheVariants as kind
use Rattle.plural_syntax.specs.declared.word.Word.{Word}
use Rattle.plural_syntax.specs.declared.word.Word.TheVariants as w
use Rattle.plural_syntax.specs.Words.{is, look_up, spellings, spelled, word_of}

abbrev is_name : Word → Bool
is_name v = is w.Name v

-- no row's word is `Name`
abbrev no_names : List (List ℕ × Word) → Bool
no_names [] = true
no_names (row ∷ rows) = if is_name row.1 then false else no_names rows

if_no_name : (test : Bool) (v u : Word) → is_name v ≡ false → is_name u ≡ false → is_name (if test then v else u) ≡ false
if_no_name true v u h g = h
if_no_name false v u h g = g

look_up-no_name : (text : List ℕ) (rows : List (List ℕ × Word)) → no_names rows ≡ true → is_name (look_up text rows) ≡ false
look_up-no_name text [] h = refl
look_up-no_name text (row ∷ rows) h = by (is_name row.1) refl h (look_up-no_name text rows) where
  by : (b : Bool) → is_name row.1 ≡ b → (if b then false else no_names rows) ≡ true → (no_names rows ≡ true → is_name (look_up text rows) ≡ false) → is_name (look_up text (row ∷ rows)) ≡ false
  by true e k f = cc
  by false e k f = if_no_name (pointwise eqb row.0 text) row.1 (look_up text rows) e (f k)

spelled-no_name : (text : List ℕ) → spelled text ≡ w.Name → ⊥
unfolding spelled
spelled-no_name text h =
    let other : is_name (look_up text spellings) ≡ false = look_up-no_name text spellings refl in
    let this : is_name (look_up text spellings) ≡ true = ap is_name h in
    cc

pub kind_is_name : (k : TokenKind) (text : List ℕ) → word_of k text ≡ w.Name → k ≡ kind.Name
kind_is_name kind.Name text h = refl
kind_is_name kind.Int text h = cc
kind_is_name kind.Reserved text h = absurd (spelled-no_name text h)
kind_is_name kind.Sign text h = absurd (spelled-no_name text h)
kind_is_name kind.End text h = cc
