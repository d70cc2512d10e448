-- Two places are the same or not.
use Rattle.std.proofs.Common.{◌≡◌, ◌≢◌, ℕ, ◌<◌, ◌≤◌, ◌==◌, ◌⊎◌, inl, inr, Bool, true, false, ltb, refl, sym, ap, ◌∙◌, true≢false, eqb-true, eq-eqb, ltb-true, ltb-false}

pub eqb-itself : (n : ℕ) → (n == n) ≡ true
eqb-itself n = eq-eqb n n refl

pub which : (a b : ℕ) → (a ≡ b) ⊎ (a ≢ b)
which a b = by (a == b) refl
  where
    by : (t : Bool) → (a == b) ≡ t → (a ≡ b) ⊎ (a ≢ b)
    by true e = inl (eqb-true a b e)
    by false e = inr (λ same. absurd (true≢false (sym (ap (λ n. n == b) same ∙ eqb-itself b) ∙ e)))

pub below_or : (a b : ℕ) → (a < b) ⊎ (b ≤ a)
below_or a b = by (ltb a b) refl
  where
    by : (t : Bool) → ltb a b ≡ t → (a < b) ⊎ (b ≤ a)
    by true e = inl (ltb-true a b e)
    by false e = inr (ltb-false a b e)

pub cases : {A B C : Type 0} → (A → C) → (B → C) → A ⊎ B → C
cases f g (inl a) = f a
cases f g (inr b) = g b
