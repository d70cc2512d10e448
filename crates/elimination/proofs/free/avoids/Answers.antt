use Rattle.std.proofs.Common.{◌≡◌, ◌≤◌, ◌∙◌, ◌==◌, ◌+◌, ℕ, Bool, true, false, List, [], ◌∷◌, drop, get_or, length, sym, ap, arith}
use Rattle.std.proofs.lemmas.Bool.Decides.{nat_tests}
use Rattle.std.proofs.lemmas.List.{drop_more, drop_all}
use Rattle.monomials.specs.Monomials.{Monomial}
use Rattle.word_model.specs.Elimination.{occurrences}
use Rattle.elimination.proofs.Occurrences.{occurrences-none, occurrences-skipped, occurrences-found}
use Rattle.elimination.proofs.free.avoids.Goals as goal

-- whether none of these variables occurs
abbrev none_of : Monomial → List ℕ → Bool
none_of m vs = occurrences (length m) vs m == 0

pub returns-then-get-ne0 : goal.returns-then-get-ne0
returns-then-get-ne0 c =
    let m = c.args.mono.now in
    let vs = c.args.vars.now in
    let i = c.loop-v.v-index in
    let some : 1 ≤ occurrences (length m) (get_or vs i 0 ∷ drop (i + 1) vs) m =
    occurrences-found (get_or vs i 0) (drop (i + 1) vs) m (c.requires i 0 c.loop-v-test.true).0 (λ zero. c.if-get-ne0.true (c.get.ensures ∙ zero)) in
    let no : none_of m (get_or vs i 0 ∷ drop (i + 1) vs) ≡ false = grind (arith, nat_tests, some) in
    sym (c.loop-v.invariant ∙ ap (none_of m) (drop_more vs i 0 c.loop-v-test.true) ∙ no)

pub loop-v-preserved : goal.loop-v-preserved
loop-v-preserved c =
    let m = c.args.mono.now in
    let vs = c.args.vars.now in
    let i = c.loop-v.v-index in
    c.loop-v.invariant
    ∙ ap (none_of m) (drop_more vs i 0 c.loop-v-test.true)
    ∙ ap (λ k. k == 0) (occurrences-skipped (get_or vs i 0) (drop (i + 1) vs) m (sym c.get.ensures ∙ c.if-get-ne0.false))

pub returns : goal.returns
returns c =
    let m = c.args.mono.now in
    let vs = c.args.vars.now in
    let none : none_of m [] ≡ true = ap (λ k. k == 0) (occurrences-none m) in
    sym (c.loop-v.invariant ∙ ap (none_of m) (drop_all c.loop-v.v-index vs c.loop-v-test.false) ∙ none)
