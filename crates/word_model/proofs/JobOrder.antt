-- The order of keys is total, and tells any two jobs apart.
use Rattle.std.proofs.Common.{◌≡◌, ℕ, List, refl, ap, ◌∙◌}
use Rattle.std.proofs.Common.{Ordering, Less, Equal, Greater, nat_cmp}
use Rattle.std.specs.Ordering.{ordering_then}
use Rattle.std.specs.Cmp.{IsTotalOrder, then_total, on_total, nat_cmp_total}
use Rattle.monomials.specs.Orders.{order_cmp}
use Rattle.monomials.specs.Polynomials.{Polynomial}
use Rattle.monomials.proofs.OrderLaws.{order_cmp_total}
use Rattle.monomials.proofs.GradedRows.{nat_cmp_equal}
use Rattle.word_model.specs.Words.{Algebra}
use Rattle.word_model.specs.Jobs.{rank_of, rank_cmp, job_sugar, key_monomial, key_cmp}
use Rattle.word_model.specs.declared.records.Job.{Job}
use Rattle.word_model.specs.declared.records.Job.TheVariants.{Seed, Pair, Right}

-- ---- ranks

pub rank_total : IsTotalOrder rank_cmp
rank_total =
    then_total (on_total (λ (a : ℕ × (ℕ × ℕ)). a.0) nat_cmp_total)
    (then_total (on_total (λ (a : ℕ × (ℕ × ℕ)). a.1.0) nat_cmp_total) (on_total (λ (a : ℕ × (ℕ × ℕ)). a.1.1) nat_cmp_total))

first_tied : (o r : Ordering) → ordering_then o r ≡ Equal → o ≡ Equal
first_tied Less r e = cc
first_tied Equal r e = refl
first_tied Greater r e = cc

pub second_tied : (o r : Ordering) → ordering_then o r ≡ Equal → r ≡ Equal
second_tied Less r e = cc
second_tied Equal r e = e
second_tied Greater r e = cc

-- the second and the third number of ranks that tie
ranks_tied : (x y z w : ℕ) → ordering_then (nat_cmp x z) (nat_cmp y w) ≡ Equal → (x ≡ z) × (y ≡ w)
ranks_tied x y z w e =
    (nat_cmp_equal x z (first_tied (nat_cmp x z) (nat_cmp y w) e), nat_cmp_equal y w (second_tied (nat_cmp x z) (nat_cmp y w) e))

-- equal jobs alone tie
pub rank_tied : (a b : Job) → rank_cmp (rank_of a) (rank_of b) ≡ Equal → a ≡ b
rank_tied (Seed s) (Seed t) e = ap Seed (ranks_tied s 0 t 0 e).0
rank_tied (Seed s) (Pair k l) e = cc
rank_tied (Seed s) (Right k w) e = cc
rank_tied (Pair i j) (Seed t) e = cc
rank_tied (Pair i j) (Pair k l) e =
    let parts : (j ≡ l) × (i ≡ k) = ranks_tied j i l k e in
    ap (λ x. Pair x j) parts.1 ∙ ap (λ y. Pair k y) parts.0
rank_tied (Pair i j) (Right k w) e = cc
rank_tied (Right i v) (Seed t) e = cc
rank_tied (Right i v) (Pair k l) e = cc
rank_tied (Right i v) (Right k w) e =
    let parts : (i ≡ k) × (v ≡ w) = ranks_tied i v k w e in
    ap (λ x. Right x v) parts.0 ∙ ap (λ y. Right k y) parts.1

-- ---- keys

module _ (A : Algebra) (gens G : List Polynomial) (sugars : List ℕ) where
  pub key_total : IsTotalOrder (key_cmp A gens G sugars)
  key_total =
      then_total (on_total (λ (job : Job). job_sugar gens G sugars job) nat_cmp_total)
      (then_total (on_total (λ (job : Job). key_monomial A gens G job) (order_cmp_total A.order.rows)) (on_total (λ (job : Job). rank_of job) rank_total))

  -- keys of different jobs differ
  pub key_tied : (a b : Job) → key_cmp A gens G sugars a b ≡ Equal → a ≡ b
  key_tied a b e =
      rank_tied a b
      (second_tied (order_cmp A.order.rows (key_monomial A gens G a) (key_monomial A gens G b)) (rank_cmp (rank_of a) (rank_of b))
      (second_tied (nat_cmp (job_sugar gens G sugars a) (job_sugar gens G sugars b))
      (ordering_then (order_cmp A.order.rows (key_monomial A gens G a) (key_monomial A gens G b)) (rank_cmp (rank_of a) (rank_of b))) e))
