-- A polynomial without given variables, term by term.
use Rattle.std.proofs.Common.{◌≡◌, ◌∙◌, ◌<◌, ◌&&◌, ◌==◌, ◌+◌, ℕ, Bool, List, drop, get_or, length, sym, ap, subst}
use Rattle.monomials.specs.Polynomials.{Polynomial, HasVars}
use Rattle.gpoly.specs.Terms.{pairs_of}
use Rattle.gpoly.specs.declared.Term.{Term}
use Rattle.gpoly.proofs.Merging.{rest_is}
use Rattle.gpoly.proofs.TermLists.{vars_at}
use Rattle.word_model.specs.Elimination.{is_free, occurrences}

module _ (ts : List Term) (f : Polynomial) (terms : pairs_of ts ≡ f) (i : ℕ) (t : Term) (inside : i < length ts) (is : t ≡ get_or ts i t) (n : ℕ) (vars : HasVars n f) where
  -- its monomial has as many exponents as the others
  pub term_vars : length t.mono ≡ n
  term_vars = ap (λ t. length t.mono) is ∙ vars_at n ts i t inside (subst (HasVars n) (sym terms) vars)

  -- this term decides, and then what is behind it
  pub term_decides : (vs : List ℕ) (b : Bool) → (occurrences (length t.mono) vs t.mono == 0) ≡ b
      → is_free n vs (pairs_of (drop i ts)) ≡ (b && is_free n vs (pairs_of (drop (i + 1) ts)))
  term_decides vs b e =
      ap (is_free n vs) (rest_is ts i t inside is)
      ∙ ap (λ k. (occurrences k vs t.mono == 0) && is_free n vs (pairs_of (drop (i + 1) ts))) (sym term_vars)
      ∙ ap (λ d. d && is_free n vs (pairs_of (drop (i + 1) ts))) e
