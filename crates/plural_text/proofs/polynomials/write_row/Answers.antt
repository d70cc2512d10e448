use Rattle.std.proofs.Common.{◌++◌, map, string_bytes, ap}
use Rattle.word_model.specs.Texts.{polynomial_text}
use Rattle.plural_text.proofs.Joined.{pieces_from-joined}
use Rattle.plural_text.proofs.polynomials.write_row.Goals as goal

pub loop-index-init : goal.loop-index-init
loop-index-init c = record {
  written =
      ap (λ z. c.args.text.now.items ++ z)
      (pieces_from-joined (map (polynomial_text c.args.alg.now.p (map string_bytes c.args.names.now)) c.args.row.now));
  sorted = c.requires.sorted;
}
