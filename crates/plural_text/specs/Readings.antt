-- How the text of a term is read: a sign, and factors with `*` between them. The reader takes more than what is printed,
-- and no clause of a public function cites it.
use Rattle.std.specs.Prelude.{ℕ, ◌+◌, ◌-◌, ◌*◌, ◌%◌, Bool, false, ◌&&◌, ◌||◌, ◌==◌, nat_le, List, [], ◌∷◌, length, take, drop, position, bytes_eq, Option, Some, None, option_and_then, if◌then◌else◌}
use Rattle.std.specs.List.{position_or_len, slice_split}
use Rattle.std.specs.Option.{option_map}
use Rattle.monomials.specs.Monomials.{Monomial, degree, plus, one, power}
use Rattle.plural_lexer.specs.Letters.{is_digit}

-- `+` or `-`, with which a later term begins
abbrev pub is_sign : ℕ → Bool
is_sign b = b == 43 || b == 45

-- how many bytes the first term of a text has: those up to a sign behind the first byte
abbrev pub first_len : List ℕ → ℕ
first_len [] = 0
first_len (b ∷ text) = position_or_len is_sign text + 1

-- digits that go on with a number, as the whole number, where that is at most `most`
abbrev pub read_digits : ℕ → ℕ → List ℕ → Option ℕ
read_digits most n [] = Some n
read_digits most n (b ∷ text) =
    if is_digit b && nat_le (10 * n + (b - 48)) most then read_digits most (10 * n + (b - 48)) text else None

-- a number up to `most`, in decimal
abbrev pub read_number : ℕ → List ℕ → Option ℕ
read_number most [] = None
read_number most (b ∷ text) = read_digits most 0 (b ∷ text)

-- a power of a variable: the variable's place among the names, and the exponent
abbrev pub Power : Type 0
Power = ℕ × ℕ

-- `^` stands between a name and an exponent
abbrev pub is_caret : ℕ → Bool
is_caret b = b == 94

-- the exponent that stands behind a name, 1 where nothing stands there
abbrev pub read_exponent : List ℕ → Option ℕ
read_exponent [] = Some 1
read_exponent (b ∷ digits) = read_number 4095 digits

-- the place of a name
abbrev pub read_name : List (List ℕ) → List ℕ → Option ℕ
read_name names text = position (λ name. bytes_eq name text) names

-- a power whose name has this length
abbrev pub read_power_at : List (List ℕ) → ℕ → List ℕ → Option Power
read_power_at names end text =
    option_and_then (λ e. option_map (λ place. (place, e)) (read_name names (take end text))) (read_exponent (drop end text))

abbrev pub read_power : List (List ℕ) → List ℕ → Option Power
read_power names text = read_power_at names (position_or_len is_caret text) text

-- the power of a variable, as a monomial in n variables
abbrev pub power_of : ℕ → Power → Monomial
power_of n (place, e) = power n (place + 1) e

-- a term: its number and its monomial
abbrev pub PolyTerm : Type 0
PolyTerm = ℕ × Monomial

-- a monomial times the power of a variable, where the degree is at most 4095
abbrev pub times_power : Monomial → Power → Option Monomial
times_power m power = if nat_le (degree m + power.1) 4095 then Some (plus m (power_of (length m) power)) else None

-- whether a factor is a number
abbrev pub is_number : List ℕ → Bool
is_number [] = false
is_number (b ∷ text) = is_digit b

module _ (p : ℕ) (names : List (List ℕ)) where
  -- a term times the number or power that a factor is
  abbrev pub times_factor : PolyTerm → List ℕ → Option PolyTerm
  times_factor t text =
      if is_number text then option_map (λ n. ((t.0 * n) % p, t.1)) (read_number (p - 1) text)
      else option_map (λ m. (t.0, m)) (option_and_then (times_power t.1) (read_power names text))

  -- a term times all these factors
  abbrev pub times_factors : PolyTerm → List (List ℕ) → Option PolyTerm
  times_factors t [] = Some t
  times_factors t (text ∷ texts) = option_and_then (λ u. times_factors u texts) (times_factor t text)

  -- the product of the factors in a text
  abbrev pub read_product : List ℕ → Option PolyTerm
  read_product text = times_factors (1, one (length names)) (slice_split (λ b. b == 42) text)

  -- the term without its sign, with its number negated where that is `-`
  abbrev pub read_signed : ℕ → List ℕ → Option PolyTerm
  read_signed b text =
      if b == 45 then option_map (λ t. ((p - t.0) % p, t.1)) (read_product text)
      else (if b == 43 then read_product text else read_product (b ∷ text))

  -- a term, with its sign if it has one
  abbrev pub read_term : List ℕ → Option PolyTerm
  read_term [] = None
  read_term (b ∷ text) = read_signed b text
