use Rattle.std.proofs.Common.{◌++◌, sym, ap, ◌∙◌}
use Rattle.std.proofs.lemmas.Result.{on_ok_weaker}
use Rattle.script_model.specs.Refusals.{words_of}
use Rattle.script_values.proofs.refusals.write_words.Goals as goal

pub returns-in-Coefficient-clause-value : goal.returns-in-Coefficient-clause-value
returns-in-Coefficient-clause-value c =
    on_ok_weaker c.write_pair.result
    (λ e. e ∙ ap (λ w. c.args.text.now.items ++ words_of w) (sym c.in-Coefficient.is))
    c.write_pair.ensures.value
