use Rattle.std.proofs.Common.{subst}
use Rattle.plural_syntax.specs.Inside.Reading.{Fails, script}
use Rattle.plural_syntax.specs.Words.{lexemes}
use Rattle.plural_syntax.proofs.ScriptRules.{parse_ok, bad_at, deep_at, bad_somewhere, too_deep_somewhere}
use Rattle.plural_syntax.proofs.parsing.parse.Goals as goal

pub returns-in-Ok : goal.returns-in-Ok
returns-in-Ok c = parse_ok c.args.bytes.now c.args.tokens.now c.requires c.in-Ok.script (lexemes c.args.bytes.now c.in-Ok.field-0-1.now) (rw c.new-levels.ensures at c.in-Ok.ensures.value)

pub returns-in-Err-Unexpected-len1-up : goal.returns-in-Err-Unexpected-len1-up
returns-in-Err-Unexpected-len1-up c = bad_at (lexemes c.args.bytes.now c.args.tokens.now) c.args.bytes.now c.in-Err-Unexpected-len1-up.field-0-0.now _ c.in-Err-Unexpected-len1-up.len_at_least (subst (λ e. Fails c.args.bytes.now e (script 64 (lexemes c.args.bytes.now c.args.tokens.now))) c.in-Err-Unexpected-len1-up.field-0-is (rw c.new-levels.ensures at c.in-Err-Unexpected-len1-up.ensures.value))

pub returns-in-Err-Deep-len1-up : goal.returns-in-Err-Deep-len1-up
returns-in-Err-Deep-len1-up c = deep_at (lexemes c.args.bytes.now c.args.tokens.now) c.args.bytes.now c.in-Err-Deep-len1-up.field-0-0.now _ c.in-Err-Deep-len1-up.len_at_least (subst (λ e. Fails c.args.bytes.now e (script 64 (lexemes c.args.bytes.now c.args.tokens.now))) c.in-Err-Deep-len1-up.field-0-is (rw c.new-levels.ensures at c.in-Err-Deep-len1-up.ensures.value))

pub prove-unreachable-requires : goal.prove-unreachable-requires
prove-unreachable-requires c = bad_somewhere c.args.bytes.now c.args.tokens.now c.in-Err-Unexpected-empty.field-0-0.now c.requires c.in-Err-Unexpected-empty.len_below (subst (λ e. Fails c.args.bytes.now e (script 64 (lexemes c.args.bytes.now c.args.tokens.now))) c.in-Err-Unexpected-empty.field-0-is (rw c.new-levels.ensures at c.in-Err-Unexpected-empty.ensures.value))

pub prove-unreachable-requires-in-Err-Deep-empty : goal.prove-unreachable-requires-in-Err-Deep-empty
prove-unreachable-requires-in-Err-Deep-empty c = too_deep_somewhere c.args.bytes.now c.args.tokens.now c.in-Err-Deep-empty.field-0-0.now c.in-Err-Deep-empty.len_below (subst (λ e. Fails c.args.bytes.now e (script 64 (lexemes c.args.bytes.now c.args.tokens.now))) c.in-Err-Deep-empty.field-0-is (rw c.new-levels.ensures at c.in-Err-Deep-empty.ensures.value))
