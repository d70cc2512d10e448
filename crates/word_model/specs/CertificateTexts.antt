-- The printed text of a certificate.
use Rattle.std.specs.Prelude.{◌≡◌, ℕ, suc, ◌-◌, List, [], ◌∷◌, ◌++◌, codes, get_or, Some}
use Rattle.std.specs.Fmt.{decimal}
use Rattle.monomials.specs.Polynomials.{Polynomial, Each, IsPolynomial}
use Rattle.word_model.specs.Words.{Algebra}
use Rattle.word_model.specs.Texts.{number_text, term_text}
use Rattle.word_model.specs.Reduction.{element}
use Rattle.word_model.specs.Jobs.{first_cofactor, second_cofactor, second_number}
use Rattle.word_model.specs.Machine.{machine}
use Rattle.word_model.specs.Finished.{finished}
use Rattle.word_model.specs.Certificates.{Certificate, made_lines}
use Rattle.word_model.specs.declared.records.Job.{Job}
use Rattle.word_model.specs.declared.records.Job.TheVariants.{Seed, Pair, Right}
use Rattle.word_model.specs.declared.records.Mode.TheVariants.{TwoSided}
use Rattle.word_model.specs.declared.records.Outcome.TheVariants.{Finished}
use Rattle.word_model.specs.declared.records.TraceStep.{TraceStep}
use Rattle.word_model.specs.declared.records.Entry.{Entry}
use Rattle.word_model.specs.declared.records.Entry.TheVariants.{New}

-- the certificate of a finished two-sided run over these generators, with the run's basis
pub record IsCertificateOf (A : Algebra) (gens : List Polynomial) (budget : ℕ) (G : List Polynomial) (C : Certificate) : Type 0 where
  pub sorted : Each (IsPolynomial A.p A.order) gens
  pub ended : (machine A gens TwoSided budget).outcome ≡ Finished
  pub elements : G ≡ (machine A gens TwoSided budget).basis
  pub entries : C.lines ≡ made_lines (machine A gens TwoSided budget).entries
  pub list : finished A G ≡ Some C.finished

-- the element of number i: `c[i]`
abbrev pub element_text : ℕ → List ℕ
element_text i = codes "c[" ++ (decimal i ++ codes "]")

-- steps, each a term times an element that is subtracted: `-(TERM)*c[i]`
abbrev pub step_text : ℕ → List (List ℕ) → TraceStep → List ℕ
step_text p names s = codes "-(" ++ (term_text p names (s.coef, s.mono) ++ (codes ")*" ++ element_text s.index))

abbrev pub steps_text : ℕ → List (List ℕ) → List TraceStep → List ℕ
steps_text p names [] = []
steps_text p names (s ∷ trace) = step_text p names s ++ steps_text p names trace

-- A job's start over the basis G: `f[s]` for a generator; the difference of the two multiples for an S-polynomial,
-- `(M)*c[i]-(T)*c[j]`; `c[i]*v` for an element times the variable v.
abbrev pub start_text : Algebra → List (List ℕ) → List Polynomial → Job → List ℕ
start_text A names G (Seed s) = codes "f[" ++ (decimal s ++ codes "]")
start_text A names G (Pair i j) =
    codes "(" ++ (term_text A.p names (1, first_cofactor (element G i) (element G j)) ++ (codes ")*" ++ (element_text i
    ++ step_text A.p names (record { coef = second_number A (element G i) (element G j); mono = second_cofactor (element G i) (element G j); index = j }))))
start_text A names G (Right i v) = element_text i ++ (codes "*" ++ get_or names (v - 1) [])

-- the line of element k: `c[k]=(SCALE)*(START-..)`
abbrev pub line_text : Algebra → List (List ℕ) → List Polynomial → ℕ → Entry → List ℕ
line_text A names G k (New job trace scale) =
    element_text k ++ (codes "=(" ++ (number_text A.p scale ++ (codes ")*(" ++ (start_text A names G job
    ++ (steps_text A.p names trace ++ codes ")\n")))))
line_text A names G k _ = []

-- the lines of elements whose numbers count from k
abbrev pub lines_text : Algebra → List (List ℕ) → List Polynomial → ℕ → List Entry → List ℕ
lines_text A names G k [] = []
lines_text A names G k (line ∷ lines) = line_text A names G k line ++ lines_text A names G (suc k) lines

-- the line of finished element k, from its origin and its tail: `t[k]=c[o]-..`
abbrev pub final_text : ℕ → List (List ℕ) → ℕ → ℕ → List TraceStep → List ℕ
final_text p names k o tail = codes "t[" ++ (decimal k ++ (codes "]=" ++ (element_text o ++ (steps_text p names tail ++ codes "\n"))))

-- the lines of finished elements whose numbers count from k
abbrev pub finals_text : ℕ → List (List ℕ) → ℕ → List ℕ → List (List TraceStep) → List ℕ
finals_text p names k (o ∷ origin) (tail ∷ tails) = final_text p names k o tail ++ finals_text p names (suc k) origin tails
finals_text p names k _ _ = []

-- a certificate over the basis G that its lines make
abbrev pub certificate_text : Algebra → List (List ℕ) → List Polynomial → Certificate → List ℕ
certificate_text A names G C = lines_text A names G 1 C.lines ++ finals_text A.p names 1 C.finished.origin C.finished.tails
