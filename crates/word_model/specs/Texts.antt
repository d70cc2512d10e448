-- The printed texts of polynomials, ideals and rows.
use Rattle.std.specs.Prelude.{ℕ, zero, suc, ◌-◌, ◌==◌, List, [], ◌∷◌, ◌++◌, codes, map, if◌then◌else◌, nat_le}
use Rattle.std.specs.List.{join_with_byte}
use Rattle.std.specs.Fmt.{decimal, signed_decimal}
use Rattle.prime_field.specs.Modular.{symmetric}
use Rattle.monomials.specs.Monomials.{Monomial, degree}
use Rattle.monomials.specs.Polynomials.{Polynomial}

-- a number: its representative nearest to 0, in decimal
abbrev pub number_text : ℕ → ℕ → List ℕ
number_text p a = signed_decimal (symmetric p a)

-- a variable with its exponent, where that is above 1
abbrev pub power_text : List ℕ → ℕ → List ℕ
power_text name e = if nat_le e 1 then name else (name ++ codes "^" ++ decimal e)

-- the powers of the variables that occur, in order
abbrev pub power_texts : List (List ℕ) → Monomial → List (List ℕ)
power_texts [] m = []
power_texts (name ∷ names) [] = []
power_texts (name ∷ names) (zero ∷ m) = power_texts names m
power_texts (name ∷ names) (suc e ∷ m) = power_text name (suc e) ∷ power_texts names m

-- a monomial other than 1: its powers with `*` between them
abbrev pub monomial_text : List (List ℕ) → Monomial → List ℕ
monomial_text names m = join_with_byte 42 (power_texts names m)

-- A term: its number where the monomial is 1; else the monomial, with `-` in front for the number -1,
-- and with the number and `*` in front for a number other than 1 and -1.
abbrev pub term_text : ℕ → List (List ℕ) → ℕ × Monomial → List ℕ
term_text p names t =
    if degree t.1 == 0 then number_text p t.0
    else (if t.0 == 1 then monomial_text names t.1
    else (if t.0 == p - 1 then (codes "-" ++ monomial_text names t.1)
    else (number_text p t.0 ++ codes "*" ++ monomial_text names t.1)))

-- a later term: with `+` in front, unless its text begins with `-`
abbrev pub with_sign : List ℕ → List ℕ
with_sign [] = codes "+"
with_sign (b ∷ text) = if b == 45 then (b ∷ text) else (codes "+" ++ (b ∷ text))

-- the later terms of a polynomial
abbrev pub later_texts : ℕ → List (List ℕ) → Polynomial → List ℕ
later_texts p names [] = []
later_texts p names (t ∷ f) = with_sign (term_text p names t) ++ later_texts p names f

-- a polynomial: `0`, or its terms in descending order
abbrev pub polynomial_text : ℕ → List (List ℕ) → Polynomial → List ℕ
polynomial_text p names [] = codes "0"
polynomial_text p names (t ∷ f) = term_text p names t ++ later_texts p names f

-- a generator's line: the label with its number, and the polynomial
abbrev pub generator_line : ℕ → List (List ℕ) → List ℕ → ℕ → Polynomial → List ℕ
generator_line p names label k f = label ++ (codes "[" ++ (decimal k ++ (codes "]=" ++ (polynomial_text p names f ++ codes "\n"))))

-- the lines of generators whose numbers count from k
abbrev pub generator_lines : ℕ → List (List ℕ) → List ℕ → ℕ → List Polynomial → List ℕ
generator_lines p names label k [] = []
generator_lines p names label k (f ∷ list) = generator_line p names label k f ++ generator_lines p names label (suc k) list

-- an ideal: a line for each generator, and one with 0 where there is none
abbrev pub ideal_text : ℕ → List (List ℕ) → List ℕ → List Polynomial → List ℕ
ideal_text p names label [] = generator_line p names label 1 []
ideal_text p names label (f ∷ list) = generator_lines p names label 1 (f ∷ list)

-- a row: its polynomials with `,` between them
abbrev pub row_text : ℕ → List (List ℕ) → List Polynomial → List ℕ
row_text p names row = join_with_byte 44 (map (polynomial_text p names) row)

-- a row's line: the label with its number, and the row
abbrev pub row_line : ℕ → List (List ℕ) → List ℕ → ℕ → List Polynomial → List ℕ
row_line p names label k row = label ++ (codes "[" ++ (decimal k ++ (codes "]=[" ++ (row_text p names row ++ codes "]\n"))))

-- the lines of rows whose numbers count from k
abbrev pub row_lines : ℕ → List (List ℕ) → List ℕ → ℕ → List (List Polynomial) → List ℕ
row_lines p names label k [] = []
row_lines p names label k (row ∷ rows) = row_line p names label k row ++ row_lines p names label (suc k) rows

-- rows: a line for each, and one with 0 where there is none
abbrev pub rows_text : ℕ → List (List ℕ) → List ℕ → List (List Polynomial) → List ℕ
rows_text p names label [] = generator_line p names label 1 []
rows_text p names label (row ∷ rows) = row_lines p names label 1 (row ∷ rows)
