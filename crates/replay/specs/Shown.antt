-- How a world of the program stands to one of the definitions.
use Rattle.std.specs.Prelude.{◌≡◌, List, Option}
use Rattle.run_records.specs.Ahead.{ReducedStart}
use Rattle.word_model.specs.declared.events.Place.{Place}
use Rattle.word_model.specs.declared.events.Hand.{Hand}
use Rattle.board.specs.Boards.{BoardValue}
use Rattle.commit_core.specs.Leads.{Run, IsAt}
use Rattle.replay.specs.Worlds.{CoreWorld, last_seat}
use Rattle.replay.specs.Fit.{IsFit}

-- a world of the program
pub record WorldValue : Type 0 where
  pub lead : Run
  pub board : BoardValue ReducedStart
  pub hands : List Hand
  pub filled : List Place
  pub taken : Option ReducedStart

-- The program's world is this one: its lead is at the state, with the same outcome, and all else is equal.
pub record Shows (world : WorldValue) (w : CoreWorld) : Type 0 where
  pub lead : IsAt world.lead w.state
  pub outcome : world.lead.outcome ≡ w.outcome
  pub log : world.board.log ≡ w.log
  pub seats : world.board.seats ≡ last_seat
  pub kept : world.board.kept ≡ w.kept
  pub hands : world.hands ≡ w.hands
  pub filled : world.filled ≡ w.filled
  pub taken : world.taken ≡ w.taken

-- it has what every world of the lead's run has
abbrev pub Fits : WorldValue → CoreWorld → Type 0
Fits world w = IsFit world.lead.algebra world.lead.generators world.lead.mode world.lead.budget w
