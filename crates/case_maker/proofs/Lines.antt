-- Lines that are left, a line at a time.
use Rattle.std.proofs.Common.{◌≡◌, ℕ, suc, ◌+◌, ◌-◌, ◌<◌, List, ◌++◌, refl, ap, ◌∙◌, sym, append_assoc, codes, arith}
use Rattle.case_maker.specs.Scripts.{draw_after, sum_text, line_text, lines_text}
use Rattle.case_maker.proofs.Draws.{draws_12}

-- after a line one fewer is left
pub lines_left : (n i s : ℕ) → i < n → lines_text (n - i) s ≡ line_text s ++ lines_text (n - (i + 1)) (draw_after 18 s)
lines_left n i s below =
    let more : n - i ≡ suc (n - (i + 1)) = omega (arith, below) in
    ap (λ m. lines_text m s) more

-- a text to which a line was added, with what is left
pub lines-step : (text more whole : List ℕ) (n i s t : ℕ) → i < n → text ++ lines_text (n - i) s ≡ whole
    → more ≡ text ++ line_text s → t ≡ draw_after 18 s → more ++ lines_text (n - (i + 1)) t ≡ whole
lines-step text more whole n i s t below before added moved =
    ap (λ u. more ++ lines_text (n - (i + 1)) u) moved
    ∙ ap (λ x. x ++ lines_text (n - (i + 1)) (draw_after 18 s)) added
    ∙ append_assoc text (line_text s) (lines_text (n - (i + 1)) (draw_after 18 s))
    ∙ ap (λ x. text ++ x) (sym (lines_left n i s below))
    ∙ before

-- seven pieces that were appended one after another
pub joined : (t a b c d e f g : List ℕ)
    → ((((((t ++ a) ++ b) ++ c) ++ d) ++ e) ++ f) ++ g ≡ t ++ (a ++ (b ++ (c ++ (d ++ (e ++ (f ++ g))))))
joined t a b c d e f g = simp append_assoc refl

-- a line that was appended piece by piece
pub line_appended : (t t0 t1 t2 t3 t4 t5 t6 : List ℕ) (s s1 s2 : ℕ)
    → t0 ≡ t ++ codes "summary(" → t1 ≡ t0 ++ sum_text s → s1 ≡ draw_after 6 s → t2 ≡ t1 ++ codes ","
    → t3 ≡ t2 ++ sum_text s1 → s2 ≡ draw_after 6 s1 → t4 ≡ t3 ++ codes "," → t5 ≡ t4 ++ sum_text s2 → t6 ≡ t5 ++ codes ");\n"
    → t6 ≡ t ++ line_text s
line_appended t t0 t1 t2 t3 t4 t5 t6 s s1 s2 e0 e1 d1 e2 e3 d2 e4 e5 e6 =
    let now : s2 ≡ draw_after 12 s = d2 ∙ ap (draw_after 6) d1 ∙ sym (draws_12 s) in
    let flat : t6 ≡ ((((((t ++ codes "summary(") ++ sum_text s) ++ codes ",") ++ sum_text (draw_after 6 s)) ++ codes ",") ++ sum_text (draw_after 12 s)) ++ codes ");\n" = cc in
    flat ∙ joined t (codes "summary(") (sum_text s) (codes ",") (sum_text (draw_after 6 s)) (codes ",") (sum_text (draw_after 12 s)) (codes ");\n")
