-- What the entries of a machine's journal are like, so that a walk through them can make every product that they name:
-- words of the private functions and of lemmas, which no public contract cites.
use Rattle.std.specs.Prelude.{◌≡◌, ◌≢◌, ℕ, suc, ◌<◌, ◌≤◌, List, [], ◌∷◌, length, None}
use Rattle.monomials.specs.Monomials.{degree}
use Rattle.monomials.specs.Polynomials.{Polynomial, Each}
use Rattle.word_model.specs.Words.{Algebra}
use Rattle.word_model.specs.Products.{degree_limit}
use Rattle.word_model.specs.Jobs.{start_of, IsJob, NamesNonzero}
use Rattle.word_model.specs.Machine.{Journal}
use Rattle.word_model.specs.declared.records.Job.{Job}
use Rattle.word_model.specs.declared.records.Job.TheVariants.{Right}
use Rattle.word_model.specs.declared.records.Mode.{Mode}
use Rattle.word_model.specs.declared.records.Mode.TheVariants.{Left, TwoSided}
use Rattle.word_model.specs.declared.records.TraceStep.{TraceStep}
use Rattle.word_model.specs.declared.records.Entry.{Entry}
use Rattle.word_model.specs.declared.records.Entry.TheVariants.{Skipped, Zero, New}

-- a step by one of the first m elements: its number is not zero, and its monomial is one of the algebra
pub record IsStep (A : Algebra) (m : ℕ) (s : TraceStep) : Type 0 where
  pub some : 0 < s.coef
  pub small : s.coef < A.p
  pub vars : length s.mono ≡ A.order.vars
  pub within : degree s.mono ≤ degree_limit
  pub first : 1 ≤ s.index
  pub last : s.index ≤ m

-- left runs have no products on the right
abbrev pub IsOfMode : Mode → Job → Type 0
IsOfMode TwoSided job = Unit {0}
IsOfMode Left (Right i v) = ⊥
IsOfMode Left _ = Unit {0}

-- a job of a run, with what it names among the generators and the first m elements of G
pub record IsNamed (A : Algebra) (gens G : List Polynomial) (mode : Mode) (m : ℕ) (job : Job) : Type 0 where
  pub numbers : IsJob (length gens) m A.order.vars job
  pub nonzero : NamesNonzero gens G job
  pub of_mode : IsOfMode mode job

-- an entry before which m elements stood: its job and its steps name those, and its start was computed
abbrev pub IsSound : Algebra → List Polynomial → List Polynomial → Mode → ℕ → Entry → Type 0
IsSound A gens G mode m (Skipped job k) = IsNamed A gens G mode m job × (1 ≤ k) × (k ≤ m)
IsSound A gens G mode m (Zero job trace) = IsNamed A gens G mode m job × (start_of A gens G job ≢ None) × Each (IsStep A m) trace
IsSound A gens G mode m (New job trace scale) =
    IsNamed A gens G mode m job × (start_of A gens G job ≢ None) × Each (IsStep A m) trace × (0 < scale) × (scale < A.p)

-- how many elements stand behind an entry, and behind entries
abbrev pub behind : ℕ → Entry → ℕ
behind m (New job trace scale) = suc m
behind m _ = m

abbrev pub behind_all : ℕ → List Entry → ℕ
behind_all m [] = m
behind_all m (e ∷ entries) = behind_all (behind m e) entries

-- entries before the first of which m elements stood
abbrev pub AreSound : Algebra → List Polynomial → List Polynomial → Mode → ℕ → List Entry → Type 0
AreSound A gens G mode m [] = Unit {0}
AreSound A gens G mode m (e ∷ entries) = IsSound A gens G mode m e × AreSound A gens G mode (behind m e) entries

-- The journal of a run: its entries are sound over its basis, and made it.
pub record IsJournal (A : Algebra) (gens : List Polynomial) (mode : Mode) (j : Journal) : Type 0 where
  pub entries : AreSound A gens j.basis mode 0 j.entries
  pub count : behind_all 0 j.entries ≡ length j.basis
