-- Draws after draws.
use Rattle.std.proofs.Common.{◌≡◌, ℕ, refl}
use Rattle.case_maker.specs.Scripts.{draw_after}

pub draws_6 : (s : ℕ) → draw_after 6 s ≡ draw_after 3 (draw_after 3 s)
unfolding draw_after
draws_6 s = refl

pub draws_12 : (s : ℕ) → draw_after 12 s ≡ draw_after 6 (draw_after 6 s)
unfolding draw_after
draws_12 s = refl

pub draws_18 : (s : ℕ) → draw_after 18 s ≡ draw_after 6 (draw_after 6 (draw_after 6 s))
unfolding draw_after
draws_18 s = refl
