use Rattle.monomials.proofs.SameRows.{one_entry_of}
use Rattle.monomials.proofs.row.Row.sizes.Goals as goal

pub returns-in-Rising : goal.returns-in-Rising
returns-in-Rising c = λ n. one_entry_of c.args.self.now n c.in-Rising.place c.in-Rising.is
