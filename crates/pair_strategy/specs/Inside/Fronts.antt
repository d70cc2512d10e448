-- The items of a heap that may come next, while the least leave one after another.
use Rattle.std.specs.Prelude.{◌≡◌, ◌≢◌, ◌⊎◌, ℕ, ◌+◌, ◌*◌, ◌<◌, ◌≤◌, List, [], ◌∷◌, length, get_or, map}
use Rattle.monomials.specs.Orders.{RowOrder}
use Rattle.monomials.specs.Polynomials.{Each}
use Rattle.pair_strategy.specs.Queues.{with_item, IsRising}
use Rattle.pair_strategy.specs.declared.keys.Keyed.{Keyed}
use Rattle.pair_strategy.specs.declared.front.Candidate.{Candidate}

-- the items of candidates
abbrev pub items_of : List Candidate → List Keyed
items_of front = map (λ c. c.item) front

-- an item of the list
abbrev pub Has : List Keyed → Keyed → Type 0
Has [] k = ⊥
Has (x ∷ xs) k = (k ≡ x) ⊎ Has xs k

-- a candidate is the item at its place
abbrev pub IsCandidate : RowOrder → List Keyed → Candidate → Type 0
IsCandidate o v c = (c.place < length v) × ((d : Keyed) → get_or v c.place d ≡ c.item) × (length c.item.mono ≡ o.vars)

-- the item at a place came in, where there is one
abbrev pub IsEntered : RowOrder → List Keyed → ℕ → List Keyed → List Keyed → Type 0
IsEntered o v k front more =
    (k < length v → (x : Keyed) × ((d : Keyed) → get_or v k d ≡ x) × (more ≡ with_item o x front)) × (length v ≤ k → more ≡ front)

-- the items below a place came in
abbrev pub IsOpened : RowOrder → List Keyed → ℕ → List Keyed → List Keyed → Type 0
IsOpened o v p front more = (half : List Keyed) × IsEntered o v (p * 2 + 1) front half × IsEntered o v (p * 2 + 2) half more

-- those that left, those that wait, and the candidates among these: what lies below one that left has left or is a
-- candidate, if it came in yet
pub record IsFront (o : RowOrder) (v gone wait front : List Keyed) (came : ℕ → ℕ → Type 0) : Type 0 where
  pub rising : IsRising o front
  pub waiting : Each (Has wait) front
  pub top : (d : Keyed) → 0 < length v → Has gone (get_or v 0 d) ⊎ Has front (get_or v 0 d)
  pub closed : (p k : ℕ) (d : Keyed) → p * 2 + 1 ≤ k → k ≤ p * 2 + 2 → k < length v → came p k → Has gone (get_or v p d)
      → Has gone (get_or v k d) ⊎ Has front (get_or v k d)
  pub fresh : (p k : ℕ) (d : Keyed) → p * 2 + 1 ≤ k → k ≤ p * 2 + 2 → k < length v → Has front (get_or v k d)
      → Has gone (get_or v p d) × came p k

-- all of those below came in
abbrev pub All : ℕ → ℕ → Type 0
All p k = Unit {0}

-- all but those below f from m on
abbrev pub But : ℕ → ℕ → ℕ → ℕ → Type 0
But f m p k = (p ≢ f) ⊎ (k < m)
