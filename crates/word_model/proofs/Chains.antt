-- Where the pairs that were treated are linked, all settled pairs are, and so all pairs of a finished run's elements.
use Rattle.std.proofs.Common.{◌≡◌, ℕ, ◌<◌, ◌≤◌, nat_lt, Bool, true, false, if◌then◌else◌, List, length, refl, subst, arith}
use Rattle.std.proofs.lemmas.Bool.Decides.{nat_tests}
use Rattle.monomials.specs.Polynomials.{Polynomial, Each}
use Rattle.word_model.specs.Words.{Algebra}
use Rattle.word_model.specs.Conditions.{IsGAlgebra}
use Rattle.word_model.specs.Machine.{IsElement}
use Rattle.word_model.specs.Reduction.{element, lead_divides}
use Rattle.word_model.specs.declared.records.Job.{Job}
use Rattle.word_model.specs.declared.records.Job.TheVariants.{Seed, Pair, Right}
use Rattle.word_model.specs.declared.records.Entry.{Entry}
use Rattle.word_model.proofs.LeastNumbers.{Each-element, lead_divides-divides}
use Rattle.word_model.proofs.Settled.{Treats, pair_of, IsNumber, IsSettled}
use Rattle.word_model.proofs.MultipleWeights.{IsThere}
use Rattle.word_model.proofs.Frames.{Frame}
use Rattle.word_model.proofs.Connections.{Linked, linked_turn, linked_chain, connected_refl, common, AllLinked}

-- the number of an element
pub is_there : (A : Algebra) (G : List Polynomial) → Each (IsElement A) G → (i : ℕ) → IsNumber G i → IsThere A G i
is_there A G elements i h = record { low = h.0; high = h.1; is = Each-element (IsElement A) G i elements h.0 h.1 }

module _ (A : Algebra) (ok : IsGAlgebra A) (G : List Polynomial) (frame : Frame A G) (elements : Each (IsElement A) G) (entries : List Entry)
    (treated : (i j : ℕ) → IsThere A G i → IsThere A G j → Treats entries (Pair i j) → Linked A ok G frame i j) where
  -- a pair's elements are linked
  abbrev LinksOf : Job → Type 0
  LinksOf (Seed s) = Unit {0}
  LinksOf (Pair i j) = IsThere A G i → IsThere A G j → Linked A ok G frame i j
  LinksOf (Right i v) = Unit {0}

  treated_links : (job : Job) → Treats entries job → LinksOf job
  treated_links (Seed s) t = tt
  treated_links (Pair i j) t = λ ti tj. treated i j ti tj t
  treated_links (Right i v) t = tt

  -- the elements of a pair, whichever is first
  either_way : (k i : ℕ) → LinksOf (pair_of k i) → IsThere A G k → IsThere A G i → Linked A ok G frame k i
  either_way k i links tk ti = by (nat_lt k i) links
    where
      by : (t : Bool) → LinksOf (if t then Pair k i else Pair i k) → Linked A ok G frame k i
      by true links = links tk ti
      by false links = linked_turn A ok G frame i k (links ti tk)

  settled_links : (job : Job) → IsSettled G entries job → LinksOf job
  settled_links job (IsSettled.treated job' t) = treated_links job' t
  settled_links job (IsSettled.chained i j k hi hj hk d a b) =
      chain i j k hk d (settled_links (pair_of k i) a) (settled_links (pair_of k j) b)
    where
      chain : (i j k : ℕ) → IsNumber G k → lead_divides (element G k) (common A ok G frame i j) ≡ true → LinksOf (pair_of k i) → LinksOf (pair_of k j)
          → IsThere A G i → IsThere A G j → Linked A ok G frame i j
      chain i j k hk d a b ti tj =
          let tk : IsThere A G k = is_there A G elements k hk in
          linked_chain A ok G frame i j k ti tj tk (lead_divides-divides (element G k) (common A ok G frame i j) d) (either_way k i a tk ti) (either_way k j b tk tj)

  -- where all pairs are settled
  pub all_linked : ((i j : ℕ) → 1 ≤ i → i < j → j ≤ length G → IsSettled G entries (Pair i j)) → AllLinked A ok G frame
  all_linked settled = record { pair = λ i j ti tj. by i j ti tj (nat_lt i j) refl (nat_lt j i) refl }
    where
      by : (i j : ℕ) → IsThere A G i → IsThere A G j → (b : Bool) → nat_lt i j ≡ b → (c : Bool) → nat_lt j i ≡ c → Linked A ok G frame i j
      by i j ti tj true e c e' = let less : i < j = grind (arith, nat_tests, e) in settled_links (Pair i j) (settled i j ti.low less tj.high) ti tj
      by i j ti tj false e true e' =
          let less : j < i = grind (arith, nat_tests, e') in linked_turn A ok G frame j i (settled_links (Pair j i) (settled j i tj.low less ti.high) tj ti)
      by i j ti tj false e false e' =
          let same : i ≡ j = grind (arith, nat_tests, e, e') in
          subst (Linked A ok G frame i) same (connected_refl A ok G frame (common A ok G frame i i) i)
