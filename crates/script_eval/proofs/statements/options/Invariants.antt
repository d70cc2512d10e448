use Rattle.std.proofs.Common.{◌≡◌, drop, map}
use Rattle.plural_syntax.specs.declared.tree.TokenAfter.{TokenAfter}
use Rattle.script_model.specs.Orders.{tokens_of}
use Rattle.script_model.specs.Statements.{options}
use Rattle.script_eval.proofs.statements.options.Given as goal

abbrev pub invariant-loop-after : goal.invariant-loop-after
invariant-loop-after l =
    options l.fn.session.bytes l.fn.session.budget l.fn.environment (tokens_of l.fn.names)
    ≡ options l.fn.session.bytes l.fn.session.budget l.fn.environment (map (λ (a : TokenAfter). a.token) (drop l.after-index l.fn.names.more))
