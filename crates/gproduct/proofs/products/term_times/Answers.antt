use Rattle.std.proofs.Common.{◌∙◌, ◌∷◌, [], sym, ap}
use Rattle.word_model.specs.Products.{product}
use Rattle.word_model.proofs.TermProducts.{product-zero}
use Rattle.gproduct.proofs.products.term_times.Goals as goal

pub returns-then-is_zero-clause-value : goal.returns-then-is_zero-clause-value
returns-then-is_zero-clause-value g c =
    let A = c.args.seat.now.algebra in
    let f = (c.args.coef, c.args.mono.now) ∷ [] in
    c.zero.ensures ∙ sym (ap (product A f) (c.is_zero.ensures.0 c.if-is_zero.true) ∙ product-zero A f)
