-- Kept products, where factors change that none of them has.
use Rattle.std.proofs.Common.{◌≡◌, ◌≢◌, ◌∙◌, ◌∷◌, [], ℕ, List, Option, slice_index_or, sym, ap}
use Rattle.std.proofs.lemmas.Option.{IfSome_then}
use Rattle.monomials.specs.Polynomials.{Polynomial}
use Rattle.word_model.specs.Words.{Algebra}
use Rattle.word_model.specs.Products.{product}
use Rattle.gproduct.specs.declared.kept.KeptProduct.{KeptProduct}
use Rattle.gproduct.specs.Inside.Kept.{factor_at, IsKept, AreKept}

module _ (A : Algebra) (fs gs : List Polynomial) (others : (k : ℕ) → factor_at fs k ≢ [] → factor_at gs k ≡ factor_at fs k) where
  -- one is right as before
  pub still_kept : (kept : KeptProduct) → IsKept A fs kept → IsKept A gs kept
  still_kept kept is =
      let same : factor_at gs kept.number ≡ factor_at fs kept.number = others kept.number is.some in
      record {
        some = λ e. is.some (sym same ∙ e);
        sorted = is.sorted;
        value = is.value ∙ ap (product A ((1, kept.mono) ∷ [])) (sym same);
      }

  -- and so are all
  pub all_still_kept : (slots : List (Option KeptProduct)) → AreKept A fs slots → AreKept A gs slots
  all_still_kept slots are k d inside = IfSome_then (slice_index_or slots k d) (are k d inside) still_kept
