-- The rows that code adds, one after another.
use Rattle.std.proofs.Common.{◌≡◌, ℕ, zero, suc, ◌+◌, ◌-◌, ◌≤◌, ◌<◌, List, [], ◌∷◌, ◌++◌, length, map, take, drop, get_or, replicate, arith, refl, sym, ◌∙◌, ap, ℤ, pos, negsuc}
use Rattle.std.specs.List.{All}
use Rattle.std.proofs.lemmas.List.{map_push, append_assoc, append-nil, take-replicate, drop-replicate, drop_more, drop_all}
use Rattle.std.proofs.lemmas.List.Elements.{All-push, All-nil}
use Rattle.monomials.specs.Blocks.{row_of, first_first, last_first, block_len, block_rows, blocks_rows}
use Rattle.monomials.specs.Rows.{row_entries, IsWithin, AddsRows}
use Rattle.monomials.specs.declared.order.Block.{Block}
use Rattle.monomials.specs.declared.row.Row.{Row}
use Rattle.monomials.specs.declared.row.Row.TheVariants.{Rising, Falling}
use Rattle.monomials.proofs.GradedRows.{map-replicate}

-- the new rows are the old ones with the front of `all` behind them, and `rest` is still to come
pub record AddsUpTo (n : ℕ) (old new : List Row) (rest all : List (List ℤ)) : Type 0 where
  pub entries : map (row_entries n) new ++ rest ≡ map (row_entries n) old ++ all
  pub within : All (IsWithin n) old → All (IsWithin n) new

-- no row is added yet
pub adds_none : (n : ℕ) (rows : List Row) (all : List (List ℤ)) → AddsUpTo n rows rows all all
adds_none n rows all = record { entries = refl; within = λ o. o }

module _ (n : ℕ) (old new : List Row) (all : List (List ℤ)) where
  -- one more row
  pub adds_push : (newer : List Row) (row : Row) (r : List ℤ) (rest : List (List ℤ)) → AddsUpTo n old new (r ∷ rest) all →
      newer ≡ new ++ row ∷ [] → row_entries n row ≡ r → IsWithin n row → AddsUpTo n old newer rest all
  adds_push newer row r rest h e is w = record {
    entries =
        ap (λ z. map (row_entries n) z ++ rest) e
        ∙ (ap (λ z. z ++ rest) (map_push (row_entries n) new row)
        ∙ (append_assoc (map (row_entries n) new) (row_entries n row ∷ []) rest
        ∙ (ap (λ z. map (row_entries n) new ++ (z ∷ rest)) is ∙ h.entries)));
    within = λ o. rw e (All-push (IsWithin n) new row (h.within o) w);
  }

  -- one more of the negative unit rows behind `at`
  pub adds_falling : (newer : List Row) (at place k q : ℕ) → AddsUpTo n old new (last_first n at k) all → k ≡ suc q →
      place ≡ at + q → at + q < n → newer ≡ new ++ Falling place ∷ [] → AddsUpTo n old newer (last_first n at q) all
  adds_falling newer at place k q h step is inside e =
      adds_push newer (Falling place) (row_of (negsuc 0) n (at + q) 1) (last_first n at q) (rw step at h) e
      (ap (λ x. row_of (negsuc 0) n x 1) is) (omega arith)

  -- one more of the unit rows from `at` on
  pub adds_rising : (newer : List Row) (at next place left q : ℕ) → AddsUpTo n old new (first_first n at left) all → left ≡ suc q →
      place ≡ at → next ≡ at + 1 → at < n → newer ≡ new ++ Rising place ∷ [] → AddsUpTo n old newer (first_first n next q) all
  adds_rising newer at next place left q h step is more inside e =
      rw more
      (adds_push newer (Rising place) (row_of (pos 1) n at 1) (first_first n (at + 1) q) (rw step at h) e
      (ap (λ x. row_of (pos 1) n x 1) is) (omega arith))

  -- more rows
  pub adds_more : (newer : List Row) (added rest : List (List ℤ)) → AddsUpTo n old new (added ++ rest) all →
      AddsRows n new newer added → AddsUpTo n old newer rest all
  adds_more newer added rest h more = record {
    entries =
        ap (λ z. z ++ rest) more.entries ∙ (append_assoc (map (row_entries n) new) added rest ∙ h.entries);
    within = λ o. more.within (h.within o);
  }

  -- nothing is left to add
  pub adds_all : AddsUpTo n old new [] all → AddsRows n old new all
  adds_all h = record {
    entries = sym (append-nil (map (row_entries n) new)) ∙ h.entries;
    within = h.within;
  }

-- one row
pub adds_one : (n : ℕ) (old new : List Row) (row : Row) (r : List ℤ) → new ≡ old ++ row ∷ [] → row_entries n row ≡ r → IsWithin n row →
    AddsRows n old new (r ∷ [])
adds_one n old new row r e is w =
    adds_all n old new (r ∷ []) (adds_push n old old (r ∷ []) new row r [] (adds_none n old (r ∷ [])) e is w)

-- one row, and then more
pub adds_first : (n : ℕ) (old mid new : List Row) (row : Row) (r : List ℤ) (rs : List (List ℤ)) → mid ≡ old ++ row ∷ [] → row_entries n row ≡ r →
    IsWithin n row → AddsRows n mid new rs → AddsRows n old new (r ∷ rs)
adds_first n old mid new row r rs e is w more =
    let one : AddsRows n old mid (r ∷ []) = adds_one n old mid row r e is w in
    record {
      entries =
          more.entries
          ∙ (ap (λ z. z ++ rs) one.entries ∙ append_assoc (map (row_entries n) old) (r ∷ []) rs);
      within = λ o. more.within (one.within o);
    }

-- the same, where the number of further rows is told in two ways
pub adds_first_of : (n : ℕ) (f : ℕ → List (List ℤ)) (k len : ℕ) → k ≡ len → (old mid new : List Row) (row : Row) (r : List ℤ) → mid ≡ old ++ row ∷ [] →
    row_entries n row ≡ r → IsWithin n row → AddsRows n mid new (f k) → AddsRows n old new (r ∷ f len)
adds_first_of n f k len same old mid new row r e is w more = rw (← same) (adds_first n old mid new row r (f k) e is w more)

-- zeros with ones written over a part of them
pub filled : (n at len : ℕ) (ones : List ℕ) → at + len ≤ n → ones ≡ replicate len 1 →
    take at (replicate n 0) ++ (ones ++ drop (at + len - at) (drop at (replicate n 0)))
    ≡ replicate at 0 ++ (replicate len 1 ++ replicate (n - at - len) 0)
filled n at len ones fits is =
    let e : at + len - at ≡ len = omega arith in
    let front : take {A = ℕ} at (replicate n 0) ≡ replicate at 0 = take-replicate at n 0 (omega arith) in
    let back : drop {A = ℕ} (at + len - at) (drop at (replicate n 0)) ≡ replicate (n - at - len) 0 =
    rw (e, drop-replicate {X = ℕ} at n 0) (drop-replicate len (n - at) 0) in
    rw (front, is, back)

-- the entries of weights that are 1 at a range of variables
pub entries-ones : (n at len m : ℕ) → at + len ≤ n → n - (at + len) ≤ m →
    map pos (take n (replicate at 0 ++ (replicate len 1 ++ replicate m 0))) ≡ row_of (pos 1) n at len
entries-ones n zero zero m a b =
    let e : n - (0 + 0) ≡ n = omega arith in
    rw e (ap (λ z. map pos z) (take-replicate n m 0 (omega arith)) ∙ map-replicate pos n 0)
entries-ones zero zero (suc len) m a b = absurd (omega arith)
entries-ones zero (suc at) len m a b = absurd (omega arith)
entries-ones (suc n) zero (suc len) m a b =
    let e : suc n - (0 + suc len) ≡ n - (0 + len) = omega arith in
    rw e (ap (λ z. pos 1 ∷ z) (entries-ones n zero len m (omega arith) (omega arith)))
entries-ones (suc n) (suc at) len m a b =
    let e : suc n - (suc at + len) ≡ n - (at + len) = omega arith in
    rw e (ap (λ z. pos 0 ∷ z) (entries-ones n at len m (omega arith) (omega arith)))

-- one block on, from the block at `i`, whose length is `len`
pub adds_block : (n at len : ℕ) (blocks : List Block) (i : ℕ) (d : Block) → i < length blocks → len ≡ block_len (get_or blocks i d) →
    (old new : List Row) (all : List (List ℤ)) → AddsUpTo n [] old (blocks_rows n at (drop i blocks)) all →
    AddsRows n old new (block_rows n at (get_or blocks i d)) → AddsUpTo n [] new (blocks_rows n (at + len) (drop (i + 1) blocks)) all
adds_block n at len blocks i d here is old new all h more =
    rw is
    (adds_more n [] old all new (block_rows n at (get_or blocks i d))
    (blocks_rows n (at + block_len (get_or blocks i d)) (drop (i + 1) blocks)) (rw (drop_more blocks i d here) at h) more)

-- all blocks' rows are there
pub adds_blocks : (n at : ℕ) (blocks : List Block) (i : ℕ) → length blocks ≤ i → (rows : List Row) (all : List (List ℤ)) →
    AddsUpTo n [] rows (blocks_rows n at (drop i blocks)) all → (map (row_entries n) rows ≡ all) × All (IsWithin n) rows
adds_blocks n at blocks i past rows all h =
    let done : AddsRows n [] rows all = adds_all n [] rows all (rw (drop_all i blocks past) at h) in
    (done.entries, done.within (All-nil (IsWithin n)))
