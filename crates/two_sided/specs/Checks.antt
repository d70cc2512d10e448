-- The check of a certificate: its tests, in order, and what the first of them that does not hold answers.
use Rattle.std.specs.Prelude.{◌≡◌, ℕ, ◌<◌, ◌≤◌, nat_le, nat_lt, nat_eq, Bool, true, ◌&&◌, ◌==◌, List, [], ◌∷◌, ◌++◌, length, is_some, if◌then◌else◌}
use Rattle.std.specs.Option.{unwrap_or}
use Rattle.std.specs.Cmp.Lexicographic.{pointwise}
use Rattle.monomials.specs.Monomials.{degree}
use Rattle.monomials.specs.Leading.{leading_coefficient}
use Rattle.monomials.specs.Polynomials.{Polynomial, Each, poly_scale}
use Rattle.word_model.specs.Words.{Algebra}
use Rattle.word_model.specs.Reduction.{element, is_within}
use Rattle.word_model.specs.Jobs.{start_of}
use Rattle.word_model.specs.Finished.{FinishedList}
use Rattle.word_model.specs.Certificates.{Certificate, less_trace}
use Rattle.word_model.specs.declared.records.Job.{Job}
use Rattle.word_model.specs.declared.records.Job.TheVariants.{Seed, Pair, Right}
use Rattle.word_model.specs.declared.records.TraceStep.{TraceStep}
use Rattle.word_model.specs.declared.records.Entry.{Entry}
use Rattle.word_model.specs.declared.records.Entry.TheVariants.{New}

-- ---- what may be checked

-- a term by which a step multiplies: a number of the field other than zero, and a monomial of the algebra of degree at most 4095
pub record IsTerm (A : Algebra) (s : TraceStep) : Type 0 where
  pub some : 0 < s.coef
  pub small : s.coef < A.p
  pub vars : length s.mono ≡ A.order.vars
  pub low : degree s.mono ≤ 4095

-- the numbers and the monomials of a line are those of the algebra
abbrev pub IsLine : Algebra → Entry → Type 0
IsLine A (New job trace scale) = (scale < A.p) × Each (IsTerm A) trace
IsLine A _ = Unit {0}

-- those of a certificate are
pub record IsCheckable (A : Algebra) (C : Certificate) : Type 0 where
  pub lines : Each (IsLine A) C.lines
  pub tails : Each (Each (IsTerm A)) C.finished.tails

-- ---- answers

-- what a test, or a check, answers
pub data Answer : Type 0 where
  Holds : Answer
  Fails : Answer
  -- a product has too high a degree
  TooHigh : Answer

-- the first of these answers that is not `Holds`
abbrev pub first_answer : List Answer → Answer
first_answer [] = Holds
first_answer (Holds ∷ answers) = first_answer answers
first_answer (Fails ∷ answers) = Fails
first_answer (TooHigh ∷ answers) = TooHigh

-- of a test
abbrev pub tested : Bool → Answer
tested b = if b then Holds else Fails

-- of products, by whether they are computed
abbrev pub reached : Bool → Answer
reached b = if b then Holds else TooHigh

-- ---- lines

-- whether a job names generators among g, elements among m, the first before the second, and variables among n
abbrev pub names_job : ℕ → ℕ → ℕ → Job → Bool
names_job g m n (Seed s) = nat_le 1 s && nat_le s g
names_job g m n (Pair i j) = nat_le 1 i && nat_lt i j && nat_le j m
names_job g m n (Right i v) = nat_le 1 i && nat_le i m && nat_le 1 v && nat_le v n

-- whether steps name elements among m
abbrev pub names_elements : ℕ → List TraceStep → Bool
names_elements m [] = true
names_elements m (s ∷ trace) = (nat_le 1 s.index && nat_le s.index m) && names_elements m trace

-- whether the products of steps by elements of G are computed
abbrev pub trace_within : List Polynomial → List TraceStep → Bool
trace_within G [] = true
trace_within G (s ∷ trace) = is_within s.mono (element G s.index) && trace_within G trace

-- what a line gives over the elements before it: its job's start less its steps, times its scale
abbrev pub line_value : Algebra → List Polynomial → List Polynomial → Entry → Polynomial
line_value A gens H (New job trace scale) = poly_scale A.p scale (less_trace A H (unwrap_or (start_of A gens H job) []) trace)
line_value A gens H _ = []

-- The tests of a line, over the elements H before it: that it is `New` and names generators, variables and elements before
-- it; that its products are computed; that it gives a monic polynomial, which zero is not.
abbrev pub line_answers : Algebra → List Polynomial → List Polynomial → Entry → List Answer
line_answers A gens H (New job trace scale) =
    tested (names_job (length gens) (length H) A.order.vars job && names_elements (length H) trace)
    ∷ reached (is_some (start_of A gens H job) && trace_within H trace)
    ∷ tested (leading_coefficient (line_value A gens H (New job trace scale)) == 1) ∷ []
line_answers A gens H _ = Fails ∷ []

-- the elements H with those that the lines give behind them
abbrev pub lines_values : Algebra → List Polynomial → List Polynomial → List Entry → List Polynomial
lines_values A gens H [] = H
lines_values A gens H (line ∷ lines) = lines_values A gens (H ++ line_value A gens H line ∷ []) lines

-- the tests of lines, each over what those before it give
abbrev pub lines_answers : Algebra → List Polynomial → List Polynomial → List Entry → List Answer
lines_answers A gens H [] = []
lines_answers A gens H (line ∷ lines) = line_answers A gens H line ++ lines_answers A gens (H ++ line_value A gens H line ∷ []) lines

-- ---- the finished list

abbrev pub same_polynomial : Polynomial → Polynomial → Bool
same_polynomial f g = pointwise (λ t u. nat_eq t.0 u.0 && pointwise nat_eq t.1 u.1) f g

-- The tests of a finished element over the basis G: that its origin and its tail name elements of G; that its products are
-- computed; that it is what its tail leaves of its origin.
abbrev pub final_answers : Algebra → List Polynomial → Polynomial → ℕ → List TraceStep → List Answer
final_answers A G f o tail =
    tested ((nat_le 1 o && nat_le o (length G)) && names_elements (length G) tail)
    ∷ reached (trace_within G tail)
    ∷ tested (same_polynomial (less_trace A G (element G o) tail) f) ∷ []

abbrev pub finals_answers : Algebra → List Polynomial → List Polynomial → List ℕ → List (List TraceStep) → List Answer
finals_answers A G (f ∷ list) (o ∷ origin) (tail ∷ tails) = final_answers A G f o tail ++ finals_answers A G list origin tails
finals_answers A G _ _ _ = []

-- whether there is an origin and a tail for each element
abbrev pub one_each : FinishedList → Bool
one_each F = length F.origin == length F.list && length F.tails == length F.list

-- the tests of a finished list over the basis G
abbrev pub list_answers : Algebra → List Polynomial → FinishedList → List Answer
list_answers A G F = tested (one_each F) ∷ finals_answers A G F.list F.origin F.tails

-- ---- the certificate

-- all tests of a certificate: of its lines, and of its list over the basis that they give
abbrev pub chain_answers : Algebra → List Polynomial → Certificate → List Answer
chain_answers A gens C = lines_answers A gens [] C.lines ++ list_answers A (lines_values A gens [] C.lines) C.finished

-- what the check of a certificate over these generators answers
abbrev pub chain_check : Algebra → List Polynomial → Certificate → Answer
chain_check A gens C = first_answer (chain_answers A gens C)
