use Rattle.script_values.proofs.Texts.{on_any_err, starts_before}
use Rattle.script_values.proofs.refusals.write_refusal.Goals as goal

pub returns-in_err-write_words-clause-refused : goal.returns-in_err-write_words-clause-refused
returns-in_err-write_words-clause-refused c =
    on_any_err c.from_residual-in_err-write_words.result
    (starts_before c.args.text.now.items _ c.extend_from_slice.new.self.items c.write_words.new.text.items c.in_ok-extend_from_slice.ensures.items
    (starts_before c.extend_from_slice.new.self.items _ c.write_number.new.text.items c.write_words.new.text.items c.in_ok-write_number.ensures.value
    (starts_before c.write_number.new.text.items _ c.extend_from_slice-2.new.self.items c.write_words.new.text.items c.in_ok-extend_from_slice-2.ensures.items c.in_err-write_words.ensures.refused)))
