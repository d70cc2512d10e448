-- The monomial of two letters.
use Rattle.std.proofs.Common.{◌≡◌, ℕ, ◌≤◌, [], ◌∷◌, sym, ap, ◌∙◌}
use Rattle.monomials.specs.Monomials.{plus, variable}
use Rattle.word_model.specs.Words.{monomial_of, pair_monomial}
use Rattle.word_model.proofs.Letters.{counts_from-append, monomial_of-sorted_word, sorted_word-variable}
use Rattle.word_model.proofs.Associativity.{length-variable}

letter_monomial : (n v : ℕ) → 1 ≤ v → v ≤ n → monomial_of n (v ∷ []) ≡ variable n v
letter_monomial n v low high = ap (monomial_of n) (sym (sorted_word-variable n v low)) ∙ monomial_of-sorted_word n (variable n v) (length-variable n v low high)

-- it is the product of the two variables
pub pair_monomial_is : (n i j : ℕ) → 1 ≤ i → i ≤ n → 1 ≤ j → j ≤ n → pair_monomial n i j ≡ plus (variable n i) (variable n j)
pair_monomial_is n i j i_low i_high j_low j_high =
    counts_from-append 1 n (i ∷ []) (j ∷ []) ∙ (λ t. plus (letter_monomial n i i_low i_high t) (letter_monomial n j j_low j_high t))
