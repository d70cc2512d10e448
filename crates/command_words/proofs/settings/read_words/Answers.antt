use Rattle.std.proofs.Common.{◌≡◌, map, string_bytes, IfSome, sym, subst, arith}
use Rattle.std.proofs.lemmas.Grind.{common_steps}
use Rattle.command_words.specs.Settings as spec
use Rattle.command_words.proofs.Ranges.{settings_within}
use Rattle.command_words.proofs.settings.read_words.Goals as goal

pub returns-clause-in_range : goal.returns-clause-in_range
returns-clause-in_range c =
    let value : c.settled.result ≡ spec.settings_of c.args.program (map string_bytes c.args.words.now) = grind (arith, common_steps) in
    subst (λ o. IfSome o spec.AreInRange) (sym value) (settings_within c.args.program (map string_bytes c.args.words.now))
