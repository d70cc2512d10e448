use Rattle.std.proofs.Common.{◌≡◌, ◌∷◌, ap, sym, ◌∙◌, subst, List, ℕ, ◌++◌, map, string_bytes, append_assoc}
use Rattle.monomials.specs.Polynomials.{HasNumbers, HasVars}
use Rattle.monomials.proofs.Operations.{HasNumbers-polynomial}
use Rattle.word_model.specs.Texts.{term_text}
use Rattle.gpoly.specs.Terms.{pair_of, pairs_of}
use Rattle.plural_text.proofs.polynomials.write_polynomial.Goals as goal

pub loop-term-init : goal.loop-term-init
loop-term-init c =
    let parts : pairs_of c.terms.result.now ≡ pair_of c.in-Some.first.now ∷ pairs_of c.in-Some.later.now = ap pairs_of c.in-Some.ensures.cases.0 in
    let whole : c.args.f.now ≡ pair_of c.in-Some.first.now ∷ pairs_of c.in-Some.later.now = sym c.terms.ensures.value ∙ parts in
    let old : List ℕ = c.args.text.now.items in
    let names : List (List ℕ) = map string_bytes c.args.names.now in
    let first : List ℕ = term_text c.args.alg.now.p names (pair_of c.in-Some.first.now) in
    let written : c.write_term.new.text.items ≡ old ++ first =
    c.in_ok-write_term.ensures ∙ ap (λ p. old ++ term_text p names (pair_of c.in-Some.first.now)) c.field-field.ensures in
    record {
      written = rw (whole, written) (append_assoc old first _);
      numbers = (subst (HasNumbers c.args.alg.now.p) whole (HasNumbers-polynomial _ _ c.args.f.now c.requires.sorted)).1;
      vars = (subst (HasVars c.args.alg.now.order.vars) whole c.requires.sorted.vars).1;
    }
