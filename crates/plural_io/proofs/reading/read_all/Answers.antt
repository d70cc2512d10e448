use Rattle.std.proofs.Common.{◌≤◌, length, arith}
use Rattle.std.proofs.lemmas.Result.{err_from_is_err_and}
use Rattle.plural_io.proofs.Told.{read_on}
use Rattle.plural_io.proofs.reading.read_all.Goals as goal

pub returns-then-n-len-clause-too_long : goal.returns-then-n-len-clause-too_long
returns-then-n-len-clause-too_long g c =
    let new = c.in-Bytes.ensures.answer in
    let fits : c.in-Bytes.n ≤ length c.read.new.buf = omega (arith, new.within) in
    let all = read_on _ _ _ c.loop-n.bytes.items c.read.new.buf _ _ c.loop-n.invariant.told new fits in
    λ _. (all.0, omega arith, all.2)

pub returns-then-n-len-clause-behind : goal.returns-then-n-len-clause-behind
returns-then-n-len-clause-behind g c =
    let new = c.in-Bytes.ensures.answer in
    let fits : c.in-Bytes.n ≤ length c.read.new.buf = omega (arith, new.within) in
    let all = read_on _ _ _ c.loop-n.bytes.items c.read.new.buf _ _ c.loop-n.invariant.told new fits in
    λ _. (all.0, omega (arith, all.1, new.within), all.2)

pub returns-in_err-extend_from_slice-in-Bytes-clause-prefix :
    goal.returns-in_err-extend_from_slice-in-Bytes-clause-prefix
returns-in_err-extend_from_slice-in-Bytes-clause-prefix g c =
    let new = c.in-Bytes.ensures.answer in
    let fits : c.in-Bytes.n ≤ length c.read.new.buf = omega (arith, new.within) in
    let all = read_on _ _ _ c.loop-n.bytes.items c.read.new.buf _ _ c.loop-n.invariant.told new fits in
    let memory = err_from_is_err_and c.from_residual.result c.from_residual.ensures.1 in
    rw memory.1 (λ _. (all.0, omega arith, all.2))
