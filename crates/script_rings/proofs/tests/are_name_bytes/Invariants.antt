use Rattle.std.proofs.Common.{◌≡◌, true, length}
use Rattle.monomials.specs.Polynomials.{Each}
use Rattle.plural_lexer.specs.Letters.{is_name_byte}
use Rattle.script_rings.proofs.tests.are_name_bytes.Given as goal

abbrev pub invariant-loop-byte : goal.invariant-loop-byte
invariant-loop-byte l = Each (λ b. is_name_byte b ≡ true) l.left → Each (λ b. is_name_byte b ≡ true) l.bytes

abbrev pub decreases-loop-byte : goal.decreases-loop-byte
decreases-loop-byte l = length l.left
