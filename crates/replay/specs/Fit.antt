-- What every world of the core has, so that each event keeps it. Private contracts alone cite this.
use Rattle.std.specs.Prelude.{◌≡◌, ℕ, suc, ◌-◌, ◌≤◌, List, length, IfSome}
use Rattle.monomials.specs.Polynomials.{Polynomial, Each}
use Rattle.word_model.specs.Words.{Algebra}
use Rattle.word_model.specs.Machine.{Over, step, machine, run_within, IsState}
use Rattle.word_model.specs.declared.records.Mode.{Mode}
use Rattle.board.specs.Boards.{offered, hand}
use Rattle.commit_core.specs.Named.{IsNamed}
use Rattle.commit_core.specs.Specs.{IsGood}
use Rattle.replay.specs.Worlds.{CoreWorld, last_seat, hand_at, held_job, WasQueued}

pub record IsFit (A : Algebra) (gens : List Polynomial) (mode : Mode) (budget : ℕ) (w : CoreWorld) : Type 0 where
  pub state : IsState A gens w.state
  pub run : machine A gens mode budget ≡ run_within A gens mode budget (suc (budget - length w.state.entries)) w.state
  pub over : IfSome w.outcome (λ o. step A gens mode budget w.state ≡ Over o)
  pub published : Each (λ o. IfSome o (IsGood A gens w.state.basis)) w.kept
  pub taken : IfSome w.taken (IsGood A gens w.state.basis)
  pub queued : Each (λ j. WasQueued w.state j × IsNamed A gens w.state.basis j) (offered w.log)
  pub hands : (seat : ℕ) → hand w.log seat ≡ held_job (hand_at w.hands seat)
  pub held : Each (λ h. (h.seat ≤ last_seat) × (h.prefix ≤ length w.state.basis) × IsNamed A gens w.state.basis h.job) w.hands
