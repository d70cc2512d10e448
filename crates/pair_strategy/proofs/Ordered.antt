-- The order of keys is total, and tells any two jobs apart.
use Rattle.std.proofs.Common.{◌≡◌, ◌≢◌, true, false, refl, sym, ap, ◌∙◌}
use Rattle.std.proofs.Common.{Ordering, Less, Equal, Greater, nat_cmp, is_lt}
use Rattle.std.specs.Ordering.{ordering_then, ordering_reverse}
use Rattle.std.specs.Cmp.{IsTotalOrder, then_total, on_total, nat_cmp_total}
use Rattle.monomials.specs.Orders.{RowOrder, order_cmp}
use Rattle.monomials.proofs.OrderLaws.{order_cmp_total}
use Rattle.word_model.specs.Jobs.{same_job, rank_of, rank_cmp}
use Rattle.word_model.proofs.JobLists.{same_job-itself}
use Rattle.word_model.proofs.JobOrder.{rank_total, rank_tied, second_tied}
use Rattle.pair_strategy.specs.Queues.{keyed_cmp}
use Rattle.pair_strategy.specs.declared.keys.Keyed.{Keyed}

-- ---- keys

module _ (o : RowOrder) where
  pub keyed_total : IsTotalOrder (keyed_cmp o)
  keyed_total =
      then_total (on_total (λ (k : Keyed). k.sugar) nat_cmp_total)
      (then_total (on_total (λ (k : Keyed). k.mono) (order_cmp_total o.rows)) (on_total (λ (k : Keyed). rank_of k.job) rank_total))

  -- keys of different jobs differ
  pub keys_differ : (a b : Keyed) → same_job a.job b.job ≡ false → keyed_cmp o a b ≢ Equal
  keys_differ a b other e =
      let same : a.job ≡ b.job =
      rank_tied a.job b.job
      (second_tied (order_cmp o.rows a.mono b.mono) (rank_cmp (rank_of a.job) (rank_of b.job))
      (second_tied (nat_cmp a.sugar b.sugar) (ordering_then (order_cmp o.rows a.mono b.mono) (rank_cmp (rank_of a.job) (rank_of b.job))) e)) in
      let no : true ≡ false = sym (same_job-itself a.job) ∙ ap (same_job a.job) same ∙ other in
      cc

-- ---- answers

-- what is neither less nor equal is greater
pub is_greater : (r : Ordering) → is_lt r ≡ false → r ≢ Equal → r ≡ Greater
is_greater Less e other = cc
is_greater Equal e other = absurd (other refl)
is_greater Greater e other = refl

-- what is not less, is not
pub not_less : (r : Ordering) → (r ≡ Less → ⊥) → is_lt r ≡ false
not_less Less h = absurd (h refl)
not_less Equal h = refl
not_less Greater h = refl

module _ {K : Type 0} {R : K → K → Ordering} (total : IsTotalOrder R) where
  -- the greater has the lesser below it
  pub below : (x y : K) → R x y ≡ Greater → R y x ≡ Less
  below x y e = total.antisymm y x ∙ ap ordering_reverse e

  -- two are not less than each other
  pub one_way : (x y : K) → R x y ≡ Less → R y x ≡ Less → ⊥
  one_way x y e h = let no : Less ≡ Greater = sym h ∙ total.antisymm y x ∙ ap ordering_reverse e in cc
