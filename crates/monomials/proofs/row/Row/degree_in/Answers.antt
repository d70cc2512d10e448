use Rattle.std.proofs.Common.{◌≡◌, ◌∙◌, ◌+◌, ◌-◌, ℕ, List, map, take, drop, replicate, length, pos, ap, arith}
use Rattle.std.proofs.lemmas.List.{length-take-le, length-drop}
use Rattle.monomials.proofs.AddedRows.{filled, entries-ones}
use Rattle.monomials.proofs.row.Row.degree_in.Goals as goal

pub returns-clause-entries : goal.returns-clause-entries
returns-clause-entries c =
    λ n inside fits.
    let at : ℕ = c.args.at in
    let len : ℕ = c.args.len in
    let z : List ℕ = replicate 16 0 in
    let k : at + len - at ≡ len = omega arith in
    let part : length (take (at + len - at) (drop at z)) ≡ len =
    ap (λ q. length (take q (drop at z))) k ∙ length-take-le len (drop at z) (omega (arith, length-drop at z)) in
    let ones : c.fill.new.self ≡ replicate len 1 = c.fill.ensures.after (λ y h. h) ∙ ap (λ q. replicate q 1) part in
    ap (λ ws. map pos (take n ws)) (filled 16 at len c.fill.new.self (omega arith) ones)
    ∙ entries-ones n at len (16 - at - len) inside (omega arith)
