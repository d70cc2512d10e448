-- Gaussian binomials and what else the formulas are made of: whole numbers, for a whole number q.
use Rattle.std.specs.Prelude.{ℕ, zero, suc, ◌+◌, ◌*◌, ◌^◌}

-- the number [n]_q = 1 + q + .. + q^(n-1)
abbrev pub q_number : ℕ → ℕ → ℕ
q_number q zero = 0
q_number q (suc n) = 1 + q * q_number q n

-- The Gaussian binomial [n,k]_q, by Pascal's rule. At q = 1 it is the binomial C(n,k).
abbrev pub gaussian : ℕ → ℕ → ℕ → ℕ
gaussian q n zero = 1
gaussian q zero (suc k) = 0
gaussian q (suc n) (suc k) = gaussian q n k + q ^ suc k * gaussian q n (suc k)

-- the q-factorial [n]_q! = [1]_q .. [n]_q
abbrev pub q_factorial : ℕ → ℕ → ℕ
q_factorial q zero = 1
q_factorial q (suc n) = q_number q (suc n) * q_factorial q n
