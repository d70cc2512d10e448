use Rattle.std.proofs.Common.{◌≡◌, drop}
use Rattle.std.specs.List.{find}
use Rattle.board.specs.Boards.{standing}
use Rattle.replay.specs.Worlds.{is_off}
use Rattle.replay.proofs.world.first_off.Given as goal

abbrev pub invariant-loop-job : goal.invariant-loop-job
invariant-loop-job l = find (λ j. is_off (standing l.board.log j)) (drop l.job-index l.jobs.items) ≡ find (λ j. is_off (standing l.board.log j)) l.jobs.items
