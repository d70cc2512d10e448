use Rattle.std.proofs.Common.{◌≡◌, ◌<◌, ◌≤◌, ◌^◌, [], ◌∷◌, ◌++◌, length, map, string_bytes, take, drop, Some, None, sym, ◌∙◌, ap, subst, rules, arith}
use Rattle.gpoly.specs.Terms.{pair_of, pairs_of}
use Rattle.std.specs.Option.{option_map}
use Rattle.monomials.specs.Monomials.{degree}
use Rattle.monomials.specs.Polynomials.{Polynomial}
use Rattle.plural_text.specs.Readings.{first_len, read_term, PolyTerm}
use Rattle.std.proofs.lemmas.List.{length-map, map-append}
use Rattle.plural_text.proofs.Steps.{each_more}
use Rattle.plural_text.proofs.Rests.{IsReading, reading_begins, reading_goes_on, reading_stops}
use Rattle.plural_text.proofs.reading.read_terms.Goals as goal

pub loop-rest-init : goal.loop-rest-init
loop-rest-init c =
    let alg = c.args.alg.now in
    let names = map string_bytes c.args.names.now in
    let fits : alg.p < 2 ^ 64 = omega (arith, c.n-n.ensures.prime.small) in
    rw c.new-terms.ensures.items (record {
      numbers = tt;
      vars = tt;
      small = tt;
      read = reading_begins alg.p alg.order names fits c.requires.names c.args.bytes.now;
    })

pub returns-in_default-clause-refused : goal.returns-in_default-clause-refused
returns-in_default-clause-refused c = λ e f h.
    let alg = c.args.alg.now in
    let names = map string_bytes c.args.names.now in
    let rest = c.loop-rest.rest.now in
    let fits : alg.p < 2 ^ 64 = omega (arith, c.n-n.ensures.prime.small) in
    let some : 1 ≤ length rest = search rules in
    let first : take (first_len rest) rest ≡ c.split_at.result.0.now = ap (λ n. take n rest) (sym c.first_len.ensures.value) ∙ sym c.split_at.ensures.front in
    let none : c.read_term.result ≡ None = search rules in
    let unread : read_term alg.p names (take (first_len rest) rest) ≡ None =
    ap (read_term alg.p names) first ∙ (ap (λ p. read_term p names c.split_at.result.0.now) (sym c.field-field.ensures)
    ∙ (sym c.read_term.ensures.value ∙ ap (option_map pair_of) none)) in
    reading_stops alg.p alg.order names fits c.requires.names c.args.bytes.now rest (pairs_of c.loop-rest.terms.items) f some unread c.loop-rest.invariant.read h

pub loop-rest-preserved : goal.loop-rest-preserved
loop-rest-preserved c =
    let alg = c.args.alg.now in
    let names = map string_bytes c.args.names.now in
    let rest = c.loop-rest.rest.now in
    let term : PolyTerm = pair_of c.in-Some.term in
    let done : Polynomial = pairs_of c.loop-rest.terms.items in
    let fits : alg.p < 2 ^ 64 = omega (arith, c.n-n.ensures.prime.small) in
    let some : 1 ≤ length rest = search rules in
    let first : take (first_len rest) rest ≡ c.split_at.result.0.now = ap (λ n. take n rest) (sym c.first_len.ensures.value) ∙ sym c.split_at.ensures.front in
    let others : drop (first_len rest) rest ≡ c.split_at.result.1.now = ap (λ n. drop n rest) (sym c.first_len.ensures.value) ∙ sym c.split_at.ensures.back in
    let read : read_term alg.p names (take (first_len rest) rest) ≡ Some term =
    ap (read_term alg.p names) first ∙ (ap (λ p. read_term p names c.split_at.result.0.now) (sym c.field-field.ensures) ∙ sym c.in-Some.ensures.value) in
    let pushed : pairs_of c.push_term.new.terms.items ≡ done ++ term ∷ [] =
    ap pairs_of c.in_ok-push_term.ensures ∙ map-append pair_of c.loop-rest.terms.items (c.in-Some.term ∷ []) in
    let below : c.in-Some.term.coef < alg.p = omega (arith, c.in-Some.ensures.number, c.field-field.ensures) in
    let vars : length c.in-Some.term.mono ≡ alg.order.vars =
    c.in-Some.ensures.vars ∙ (sym (length-map c.args.names.now string_bytes) ∙ c.requires.names.count) in
    rw pushed (record {
      numbers = each_more (λ t. t.0 < alg.p) done term c.loop-rest.invariant.numbers below;
      vars = each_more (λ t. length t.1 ≡ alg.order.vars) done term c.loop-rest.invariant.vars vars;
      small = each_more (λ t. degree t.1 ≤ 4095) done term c.loop-rest.invariant.small c.in-Some.ensures.small;
      read = subst (IsReading alg.p alg.order names c.args.bytes.now (done ++ term ∷ [])) others
          (reading_goes_on alg.p alg.order names fits c.requires.names c.args.bytes.now rest done term some read c.loop-rest.invariant.read);
    })
