use Rattle.std.proofs.Common.{◌∙◌, sym, ap}
use Rattle.plural_syntax.specs.Words.{is}
use Rattle.plural_syntax.proofs.Firsts.{first_is}
use Rattle.plural_syntax.proofs.word.next_is.Goals as goal

pub returns-in-len1-up : goal.returns-in-len1-up
returns-in-len1-up c = c.same.ensures ∙ ap (is c.args.wanted) c.word_of.ensures ∙ sym (first_is c.args.bytes.now c.args.tokens.now _ c.in-len1-up.len_at_least (is c.args.wanted))
