-- Orders that compare lists of whole numbers have no infinite descent.
use Rattle.std.proofs.Common.{◌≡◌, ℕ, zero, suc, ◌<◌, ◌⊎◌, inl, inr, List, [], ◌∷◌, length, refl, sym, ap, ◌∙◌, subst, arith}
use Rattle.std.proofs.Common.{Ordering, Less, Equal, Greater, nat_cmp}
use Rattle.std.specs.Ordering.{ordering_then}
use Rattle.std.specs.Cmp.{ranked}
use Rattle.std.specs.Cmp.Lexicographic.{slice_cmp}
use mathlib.Core.WellFounded.{Acc}
use Rattle.monomials.specs.Monomials.{Monomial}
use Rattle.monomials.specs.Orders.{RowOrder}
use Rattle.monomials.specs.Lexicographic.{IsLexicographic}
use Rattle.monomials.specs.WellFounded.{IsBelow, IsReached, IsReached.reached, IsWellFounded, IsDescent}

-- ---- lists of k numbers

-- a is below b, among lists of k numbers
abbrev LexBelow : ℕ → List ℕ → List ℕ → Type 0
LexBelow k a b = (length a ≡ k) × (slice_cmp nat_cmp a b ≡ Less)

lex_first : (x y : ℕ) (xs ys : List ℕ) → slice_cmp nat_cmp (x ∷ xs) (y ∷ ys) ≡ Less →
    (x < y) ⊎ ((x ≡ y) × (slice_cmp nat_cmp xs ys ≡ Less))
lex_first x y xs ys e = by (nat_cmp x y) refl e
  where
    by : (o : Ordering) → nat_cmp x y ≡ o → ordering_then o (slice_cmp nat_cmp xs ys) ≡ Less →
        (x < y) ⊎ ((x ≡ y) × (slice_cmp nat_cmp xs ys ≡ Less))
    by Less t h = inl (ranked x y Less (sym t))
    by Equal t h = inr (ranked x y Equal (sym t), h)
    by Greater t h = cc

module _ (k : ℕ) (tails : (ys : List ℕ) → length ys ≡ k → Acc (LexBelow k) ys) where
  -- lists with a head below x are reached: go down the tails
  on_tails : (x : ℕ) → ((y : ℕ) → y < x → (ys : List ℕ) → length ys ≡ k → Acc (LexBelow (suc k)) (y ∷ ys)) →
      (ys : List ℕ) → Acc (LexBelow k) ys → Acc (LexBelow (suc k)) (x ∷ ys)
  on_tails x heads ys (Acc.intro ys' h) = Acc.intro (x ∷ ys') (λ z less. by z less.0 less.1 (λ zs l. on_tails x heads zs (h zs l)))
    where
      by : (z : List ℕ) → length z ≡ suc k → slice_cmp nat_cmp z (x ∷ ys') ≡ Less →
          ((zs : List ℕ) → LexBelow k zs ys' → Acc (LexBelow (suc k)) (x ∷ zs)) → Acc (LexBelow (suc k)) z
      by [] l e go = absurd (omega arith)
      by (y ∷ zs) l e go =
          elim (lex_first y x zs ys' e) [
            | inl lt ↦ heads y lt zs (omega arith)
            | inr same ↦ subst (λ v. Acc (LexBelow (suc k)) (v ∷ zs)) (sym same.0) (go zs (omega arith, same.1))
          ]

  on_heads : (x bound : ℕ) → x < bound → (ys : List ℕ) → length ys ≡ k → Acc (LexBelow (suc k)) (x ∷ ys)
  on_heads x zero lt ys l = absurd (omega arith)
  on_heads x (suc bound) lt ys l = on_tails x (λ y below zs m. on_heads y bound (omega arith) zs m) ys (tails ys l)

lists_reached : (k : ℕ) (xs : List ℕ) → length xs ≡ k → Acc (LexBelow k) xs
lists_reached zero [] l = Acc.intro [] (λ z less. by z less.0 less.1)
  where
    by : (z : List ℕ) → length z ≡ 0 → slice_cmp nat_cmp z [] ≡ Less → Acc (LexBelow 0) z
    by [] l e = cc
    by (y ∷ zs) l e = absurd (omega arith)
lists_reached zero (x ∷ xs) l = absurd (omega arith)
lists_reached (suc k) [] l = absurd (omega arith)
lists_reached (suc k) (x ∷ xs) l = on_heads k (lists_reached k) x (suc x) (omega arith) xs (omega arith)

-- ---- monomials

module _ (order : RowOrder) (lex : IsLexicographic order) where
  by_values : (v : List ℕ) → Acc (LexBelow lex.places) v → (m : Monomial) → lex.values m ≡ v → IsReached order m
  by_values v (Acc.intro v' h) m e =
      reached m (λ a below.
      by_values (lex.values a)
      (h (lex.values a) (lex.one_length a below.vars, ap (λ w. slice_cmp nat_cmp (lex.values a) w) (sym e) ∙ (sym (lex.same a m) ∙ below.less)))
      a refl)

  -- so its monomials are reached from below
  pub lexicographic_well_founded : IsWellFounded order
  lexicographic_well_founded = record {
    all = λ m l. by_values (lex.values m) (lists_reached lex.places (lex.values m) (lex.one_length m l)) m refl;
  }

module _ (order : RowOrder) (h : IsWellFounded order) where
  -- what holds of a monomial as soon as it holds of all below it
  pub monomial_induction : (P : Monomial → Type 0) →
      ((m : Monomial) → length m ≡ order.vars → ((a : Monomial) → IsBelow order a m → P a) → P m) →
      (m : Monomial) → length m ≡ order.vars → P m
  monomial_induction P step m l = go m (h.all m l) l
    where
      go : (m : Monomial) → IsReached order m → length m ≡ order.vars → P m
      go m (reached m' below) l = step m' l (λ a b. go a (below a b) b.vars)

  -- no sequence of monomials falls forever
  pub no_descent : (s : ℕ → Monomial) → IsDescent order s → ⊥
  no_descent s falls = go (s 0) (h.all (s 0) (falls 0).0) 0 refl
    where
      go : (m : Monomial) → IsReached order m → (k : ℕ) → s k ≡ m → ⊥
      go m (reached m' below) k e = go (s (suc k)) (below (s (suc k)) (subst (λ x. IsBelow order (s (suc k)) x) e (falls k).1)) (suc k) refl
