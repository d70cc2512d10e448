-- How an evaluation goes on.
use Rattle.std.specs.Prelude.{◌≡◌, ◌<◌, ◌≤◌, ℕ, List, length, drop}
use Rattle.plural_syntax.specs.declared.tree.Statement.{Statement}
use Rattle.script_model.specs.Environment.{Environment, Text}
use Rattle.script_model.specs.Evaluation.{answer_from, behind}
use Rattle.script_eval.specs.Sessions.{Session}
use Rattle.script_eval.specs.declared.evaluation.Going.{Going}
use Rattle.script_eval.specs.declared.evaluation.Going.TheVariants as going

-- From one environment and text to another: behind some statements, with the same answer, or to the end.
abbrev pub Goes : Session → List Statement → Environment → Text → Environment → Text → Going → Type 0
Goes S ss E text F more (going.On count) =
    (0 < count) × (count ≤ length ss)
    × (behind text (answer_from S.bytes S.budget ss E) ≡ behind more (answer_from S.bytes S.budget (drop count ss) F))
Goes S ss E text F more (going.Ends status) = behind text (answer_from S.bytes S.budget ss E) ≡ record { text = more; status = status }
