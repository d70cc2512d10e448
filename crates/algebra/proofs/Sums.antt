-- Sums of words as the program keeps them.
use Rattle.std.proofs.Common.{◌≡◌, ℕ, suc, ◌*◌, ◌%◌, List, [], ◌∷◌, ◌++◌, length, refl, ap, ◌∙◌, append_assoc}
use Rattle.std.proofs.lemmas.List.{map-append}
use Rattle.monomials.specs.Monomials.{Monomial}
use Rattle.monomials.specs.Polynomials.{Polynomial}
use Rattle.monomials.proofs.Modulo.{Same, same_add, same_mul_right, same_rest}
use Rattle.monomials.proofs.Weights.{weigh}
use Rattle.word_model.specs.Words.{Algebra, Word, WordSum, Descent, c_of, d_of}
use Rattle.word_model.specs.Conditions.{times_words}
use Rattle.algebra.specs.declared.rewriting.WordTerm.{WordTerm}
use Rattle.algebra.specs.Inside.Places.{with_swapped}
use Rattle.algebra.specs.Inside.WordSums.{numbered_word, words_of, reduced, between, replacement}

-- one word more
pub words_of-push : (ts : List WordTerm) (t : WordTerm) → words_of (ts ++ t ∷ []) ≡ words_of ts ++ numbered_word t ∷ []
words_of-push ts t = map-append numbered_word ts (t ∷ [])

-- a word's replacement, pushed in two steps
pub push_replacement : (A : Algebra) (k : ℕ) (s : Descent) (old mid : List WordTerm) (swapped : WordTerm)
    → words_of mid ≡ words_of old ++ reduced A.p (between k s.before (d_of A s.low s.high) s.after)
    → numbered_word swapped ≡ ((k * c_of A s.low s.high) % A.p, with_swapped s)
    → words_of (mid ++ swapped ∷ []) ≡ words_of old ++ replacement A k s
push_replacement A k s old mid swapped terms is =
    words_of-push mid swapped
    ∙ (λ i. terms i ++ is i ∷ [])
    ∙ append_assoc (words_of old) (reduced A.p (between k s.before (d_of A s.low s.high) s.after)) (((k * c_of A s.low s.high) % A.p, with_swapped s) ∷ [])

-- there are as many words with the numbers modulo p
pub length-reduced : (p : ℕ) (f : WordSum) → length (reduced p f) ≡ length f
length-reduced p [] = refl
length-reduced p (t ∷ f) = ap suc (length-reduced p f)

-- there is a word for each term
pub length-times_words : (c : ℕ) (h : Monomial → Word) (f : Polynomial) → length (times_words c h f) ≡ length f
length-times_words c h [] = refl
length-times_words c h (t ∷ f) = ap suc (length-times_words c h f)

-- numbers modulo p weigh the same
pub weigh-reduced : (p : ℕ) (ψ : Word → ℕ) (f : WordSum) → Same p (weigh ψ (reduced p f)) (weigh ψ f)
weigh-reduced p ψ [] = refl
weigh-reduced p ψ (t ∷ f) = same_add p _ _ _ _ (same_mul_right p (ψ t.1) _ _ (same_rest p t.0)) (weigh-reduced p ψ f)

-- the same words with the same numbers modulo p
pub reduced-times_words : (p c e : ℕ) (u w : Monomial → Word) (f : Polynomial) → Same p c e → ((m : Monomial) → u m ≡ w m)
    → reduced p (times_words c u f) ≡ reduced p (times_words e w f)
reduced-times_words p c e u w [] same alike = refl
reduced-times_words p c e u w (t ∷ f) same alike =
    let number : (c * t.0) % p ≡ (e * t.0) % p = same_mul_right p t.0 c e same in
    λ i. (number i, alike t.1 i) ∷ reduced-times_words p c e u w f same alike i

-- the numbers of two sums modulo p
pub reduced-append : (p : ℕ) (f g : WordSum) → reduced p (f ++ g) ≡ reduced p f ++ reduced p g
reduced-append p f g = map-append (λ t. (t.0 % p, t.1)) f g
