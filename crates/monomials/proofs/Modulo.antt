-- Numbers that are the same modulo p.
use Rattle.std.proofs.Common.{◌≡◌, ℕ, zero, suc, ◌+◌, ◌-◌, ◌*◌, ◌%◌, ◌<◌, refl, sym, ap, ◌∙◌, arith}
use Rattle.std.proofs.Math.Nat.{add-mod, mul-add-mod_self_left, mod-mod, mod-eq_of_lt}
use Rattle.std.proofs.lemmas.Nat.{mul-mod}

-- a and b are the same modulo p
abbrev pub Same : ℕ → ℕ → ℕ → Type 0
Same p a b = a % p ≡ b % p

-- equal numbers are the same
pub same_refl : (p a b : ℕ) → a ≡ b → Same p a b
same_refl p a b e = ap (λ x. x % p) e

-- sums of the same numbers are the same
pub same_add : (p a b c d : ℕ) → Same p a b → Same p c d → Same p (a + c) (b + d)
same_add p a b c d e h =
    add-mod a c p ∙ ap (λ x. (x + c % p) % p) e ∙ ap (λ x. (b % p + x) % p) h ∙ sym (add-mod b d p)

-- multiples of the same numbers are the same
pub same_mul : (p c a b : ℕ) → Same p a b → Same p (c * a) (c * b)
same_mul p c a b e = mul-mod c a p ∙ ap (λ x. (c % p * x) % p) e ∙ sym (mul-mod c b p)

-- the same with the common factor on the right
pub same_mul_right : (p c a b : ℕ) → Same p a b → Same p (a * c) (b * c)
same_mul_right p c a b e = mul-mod a c p ∙ ap (λ x. (x * (c % p)) % p) e ∙ sym (mul-mod b c p)

-- a number is the same as its rest
pub same_rest : (p a : ℕ) → Same p (a % p) a
same_rest p a = mod-mod a p

-- a common summand cancels
pub same_cancel : (p x a b : ℕ) → 0 < p → Same p (x + a) (x + b) → Same p a b
same_cancel zero x a b pos e = absurd (omega arith)
same_cancel (suc q) x a b pos e =
    let ea : q * x + (x + a) ≡ suc q * x + a = omega arith in
    let eb : q * x + (x + b) ≡ suc q * x + b = omega arith in
    sym (ap (λ z. z % suc q) ea ∙ mul-add-mod_self_left (suc q) x a)
    ∙ same_add (suc q) (q * x) (q * x) (x + a) (x + b) refl e
    ∙ ap (λ z. z % suc q) eb
    ∙ mul-add-mod_self_left (suc q) x b

-- numbers below p that are the same are equal
pub same_equal : (p a b : ℕ) → a < p → b < p → Same p a b → a ≡ b
same_equal p a b la lb e = sym (mod-eq_of_lt la) ∙ e ∙ mod-eq_of_lt lb

-- a number below p that is the same as b is the rest of b
pub same_is_rest : (p a b : ℕ) → a < p → Same p a b → a ≡ b % p
same_is_rest p a b la e = sym (mod-eq_of_lt la) ∙ e

-- c a + x is the same as c b + y
pub same_lin : (p c a b x y : ℕ) → Same p a b → Same p x y → Same p (c * a + x) (c * b + y)
same_lin p c a b x y e h = same_add p (c * a) (c * b) x y (same_mul p c a b e) h

-- x - y is zero only where x and y are the same
pub same_minus : (p x y : ℕ) → 0 < p → Same p (x + (p - 1) * y) 0 → Same p x y
same_minus zero x y pos e = absurd (omega arith)
same_minus (suc q) x y pos e =
    let a : suc q * y + x ≡ (x + q * y) + y = omega arith in
    let q_is : suc q - 1 ≡ q = omega arith in
    sym (mul-add-mod_self_left (suc q) y x)
    ∙ ap (λ z. z % suc q) a
    ∙ same_add (suc q) (x + q * y) 0 y y (ap (λ k. (x + k * y) % suc q) (sym q_is) ∙ e) refl
    ∙ ap (λ z. z % suc q) (omega arith)

-- x ~ y + z, solved for y
pub same_move : (p x y z : ℕ) → 0 < p → Same p x (y + z) → Same p y (x + (p - 1) * z)
same_move zero x y z pos e = absurd (omega arith)
same_move (suc q) x y z pos e =
    let q_is : suc q - 1 ≡ q = omega arith in
    let a : suc q * z + y ≡ (y + z) + q * z = omega arith in
    sym (mul-add-mod_self_left (suc q) z y)
    ∙ ap (λ v. v % suc q) a
    ∙ same_add (suc q) (y + z) x (q * z) (q * z) (sym e) refl
    ∙ ap (λ k. (x + k * z) % suc q) (sym q_is)

-- z ~ x - y, solved for x
pub same_back : (p x y z : ℕ) → 0 < p → Same p z (x + (p - 1) * y) → Same p x (y + z)
same_back zero x y z pos e = absurd (omega arith)
same_back (suc q) x y z pos e =
    let q_is : suc q - 1 ≡ q = omega arith in
    let a : suc q * y + x ≡ y + (x + q * y) = omega arith in
    sym (mul-add-mod_self_left (suc q) y x)
    ∙ ap (λ v. v % suc q) a
    ∙ same_add (suc q) y y (x + q * y) z refl (sym (e ∙ ap (λ k. (x + k * y) % suc q) q_is))

-- x - x is zero
pub same_none : (p x : ℕ) → 0 < p → Same p (x + (p - 1) * x) 0
same_none zero x pos = absurd (omega arith)
same_none (suc q) x pos =
    let q_is : suc q - 1 ≡ q = omega arith in
    let a : x + q * x ≡ suc q * x + 0 = omega arith in
    ap (λ k. (x + k * x) % suc q) q_is ∙ ap (λ v. v % suc q) a ∙ mul-add-mod_self_left (suc q) x 0
