-- The first answer that does not hold.
use Rattle.std.proofs.Common.{◌≡◌, Bool, true, false, List, [], ◌∷◌, ◌++◌, refl}
use Rattle.two_sided.specs.Checks.{Answer, Holds, Fails, TooHigh, first_answer, tested, reached}

pub first_more : (xs ys : List Answer) → first_answer xs ≡ Holds → first_answer (xs ++ ys) ≡ first_answer ys
first_more [] ys e = refl
first_more (Holds ∷ xs) ys e = first_more xs ys e
first_more (Fails ∷ xs) ys e = cc
first_more (TooHigh ∷ xs) ys e = cc

pub first_fails : (xs ys : List Answer) → first_answer xs ≡ Fails → first_answer (xs ++ ys) ≡ Fails
first_fails [] ys e = cc
first_fails (Holds ∷ xs) ys e = first_fails xs ys e
first_fails (Fails ∷ xs) ys e = refl
first_fails (TooHigh ∷ xs) ys e = cc

pub first_high : (xs ys : List Answer) → first_answer xs ≡ TooHigh → first_answer (xs ++ ys) ≡ TooHigh
first_high [] ys e = cc
first_high (Holds ∷ xs) ys e = first_high xs ys e
first_high (Fails ∷ xs) ys e = cc
first_high (TooHigh ∷ xs) ys e = refl

-- where all hold, each part does
pub holds_both : (xs ys : List Answer) → first_answer (xs ++ ys) ≡ Holds → (first_answer xs ≡ Holds) × (first_answer ys ≡ Holds)
holds_both [] ys e = (refl, e)
holds_both (Holds ∷ xs) ys e = holds_both xs ys e
holds_both (Fails ∷ xs) ys e = cc
holds_both (TooHigh ∷ xs) ys e = cc

-- the last test is the answer
pub last_test : (b : Bool) → first_answer (tested b ∷ []) ≡ tested b
last_test true = refl
last_test false = refl

-- three tests that hold
pub three_hold : (a b d : Bool) → first_answer (tested a ∷ reached b ∷ tested d ∷ []) ≡ Holds → (a ≡ true) × (b ≡ true) × (d ≡ true)
three_hold false b d e = cc
three_hold true false d e = cc
three_hold true true false e = cc
three_hold true true true e = (refl, refl, refl)

pub test_holds : (b : Bool) (xs : List Answer) → first_answer (tested b ∷ xs) ≡ Holds → (b ≡ true) × (first_answer xs ≡ Holds)
test_holds false xs e = cc
test_holds true xs e = (refl, e)
