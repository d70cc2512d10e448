-- What a statement leads to.
use Rattle.std.specs.Prelude.{◌≡◌, Result, Ok, Err}
use Rattle.script_model.specs.Refusals.{Outcome}
use Rattle.script_model.specs.Environment.{Environment}
use Rattle.script_model.specs.Statements.{Done, Goes, Quits}
use Rattle.script_values.specs.declared.stop.Stop.{Stop}
use Rattle.script_eval.specs.declared.next.Next.{Next}
use Rattle.script_eval.specs.declared.next.Next.TheVariants as next
use Rattle.script_values.specs.Gives.{Stops}

-- it goes on with this environment, quits, or is refused, unless memory is wanting
abbrev pub Leads : Result Next Stop → Environment → Outcome Done → Type 0
Leads (Ok (next.Goes text)) E o = o ≡ Ok (Goes E text)
Leads (Ok next.Quits) E o = o ≡ Ok Quits
Leads (Err e) E o = Stops e o
