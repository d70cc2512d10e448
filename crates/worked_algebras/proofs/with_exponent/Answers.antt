use Rattle.std.proofs.Common.{◌≡◌, ◌+◌, length, ap, sym, ◌∙◌, arith}
use Rattle.monomials.specs.Monomials.{degree}
use Rattle.monomials.proofs.Exponents.{degree-plus, length-zip_with}
use Rattle.monomials.proofs.Packing.{length-power}
use Rattle.worked_algebras.proofs.with_exponent.Goals.{After-plus}
use Rattle.worked_algebras.proofs.with_exponent.Goals as goal

-- both monomials are in the same variables
same : (c : After-plus) → length c.args.mono.now ≡ length c.power-power.result
same c =
    let n : c.len.result ≡ length c.args.mono.now = c.len.ensures.length in
    let n-2 : c.len-2.result ≡ length c.args.mono.now = c.len-2.ensures.length in
    let power : length c.power-power.result ≡ c.len-2.result =
    ap length c.power-power.ensures
    ∙ length-power c.len-2.result c.args.v c.args.exponent c.len-2.ensures.at_most c.requires (omega (arith, n, n-2, c.if-v-len.false)) in
    sym (power ∙ n-2)

pub returns-clause-vars : goal.returns-clause-vars
returns-clause-vars c =
    ap length c.plus.ensures ∙ length-zip_with (λ x y. x + y) c.args.mono.now c.power-power.result (same c)

pub returns-clause-small : goal.returns-clause-small
returns-clause-small c =
    omega (
      arith,
      c.if-degree-gt4095.false,
      c.degree.ensures.value,
      c.degree-2.ensures.value,
      ap degree c.plus.ensures,
      degree-plus c.args.mono.now c.power-power.result (same c),
    )
