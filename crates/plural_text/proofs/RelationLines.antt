-- The line of a relation, as it is written.
use Rattle.std.proofs.Common.{◌≡◌, ◌≢◌, ℕ, ◌==◌, Bool, true, false, List, [], ◌∷◌, ◌++◌, if◌then◌else◌, refl, sym, ap, ◌∙◌, arith, append_assoc}
use Rattle.std.specs.Prelude.{codes}
use Rattle.std.proofs.lemmas.Bool.Decides.{nat_tests}
use Rattle.monomials.specs.Polynomials.{Polynomial}
use Rattle.word_model.specs.Words.{Algebra, c_of, d_of}
use Rattle.word_model.specs.Texts.{polynomial_text}
use Rattle.word_model.specs.RingTexts.{name_of, right_side, is_commuting, relation_line}

-- two variables whose number is not 1 don't commute
pub other_number : (c : ℕ) (d : Polynomial) → c ≢ 1 → is_commuting c d ≡ false
other_number c [] h = by (c == 1) refl
  where
    by : (t : Bool) → (c == 1) ≡ t → t ≡ false
    by true e = absurd (h (grind (arith, nat_tests, e)))
    by false e = refl
other_number c (t ∷ d) h = refl

-- nor do two with a rest
pub some_rest : (c : ℕ) (d : Polynomial) → d ≢ [] → is_commuting c d ≡ false
some_rest c [] h = absurd (h refl)
some_rest c (t ∷ d) h = refl

-- the left side, the right side and the end of the line are the line of two variables that don't commute
pub line_written : (A : Algebra) (names : List (List ℕ)) (i j : ℕ) (old left right new : List ℕ) → is_commuting (c_of A i j) (d_of A i j) ≡ false
    → left ≡ old ++ (codes "// " ++ (name_of names j ++ (codes "*" ++ (name_of names i ++ codes "="))))
    → right ≡ left ++ polynomial_text A.p names (right_side A i j)
    → new ≡ right ++ codes "\n"
    → new ≡ old ++ relation_line A names i j
line_written A names i j old left right new other l r n =
    n ∙ ap (λ t. t ++ end) (r ∙ ap (λ t. t ++ side) l)
    ∙ append_assoc (old ++ (codes "// " ++ (first ++ (codes "*" ++ (second ++ codes "="))))) side end
    ∙ append_assoc old (codes "// " ++ (first ++ (codes "*" ++ (second ++ codes "=")))) (side ++ end)
    ∙ ap (λ t. old ++ t)
    (append_assoc (codes "// ") (first ++ (codes "*" ++ (second ++ codes "="))) (side ++ end)
    ∙ ap (λ t. codes "// " ++ t)
    (append_assoc first (codes "*" ++ (second ++ codes "=")) (side ++ end)
    ∙ ap (λ t. first ++ t)
    (append_assoc (codes "*") (second ++ codes "=") (side ++ end)
    ∙ ap (λ t. codes "*" ++ t) (append_assoc second (codes "=") (side ++ end))))
    ∙ sym (ap (λ (b : Bool). if b then [] else whole) other))
  where
    end : List ℕ
    end = codes "\n"

    side : List ℕ
    side = polynomial_text A.p names (right_side A i j)

    first : List ℕ
    first = name_of names j

    second : List ℕ
    second = name_of names i

    whole : List ℕ
    whole = codes "// " ++ (first ++ (codes "*" ++ (second ++ (codes "=" ++ (side ++ end)))))
