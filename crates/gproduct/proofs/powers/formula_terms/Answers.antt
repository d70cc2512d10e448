use Rattle.std.proofs.Common.{◌≡◌, ◌<◌, ◌++◌, [], replicate, ℕ, sym, ap, ◌∙◌, subst}
use Rattle.prime_field.specs.Modular.{IsPrime}
use Rattle.monomials.specs.Polynomials.{cons_nonzero}
use Rattle.word_model.specs.Words.{Algebra, monomial_of}
use Rattle.closed_forms.specs.Forms.{closed_form, in_algebra}
use Rattle.closed_forms.proofs.Normal.{normal_form-powers}
use Rattle.gproduct.proofs.ClosedTerms.{in_algebra-one}
use Rattle.gproduct.proofs.powers.formula_terms.Goals as goal

pub returns-in-Some : goal.returns-in-Some
returns-in-Some c _ =
    let A : Algebra = c.args.alg.now in
    let i : ℕ = c.args.swap.i in
    let j : ℕ = c.args.swap.j in
    let a : ℕ = c.args.swap.a in
    let b : ℕ = c.args.swap.b in
    let prime : IsPrime A.p = c.n-n.ensures.prime in
    let less : c.in-Some.number < A.p = subst (λ p. c.in-Some.number < p) c.field.ensures c.in-Some.ensures.in_range in
    let mono = c.monomial.ensures ∙ ap (λ n. monomial_of n (replicate b i ++ replicate a j)) c.n-n.ensures.value in
    let one : closed_form A.p c.args.kind.now a b ≡ cons_nonzero c.in-Some.number (b, a) [] =
    ap (λ p. closed_form p c.args.kind.now a b) (sym c.field.ensures) ∙ c.in-Some.ensures.value in
    c.in_ok-put_one.ensures
    ∙ ap (λ m. cons_nonzero c.in-Some.number m []) mono
    ∙ sym (in_algebra-one A i j b a c.in-Some.number less)
    ∙ sym (ap (in_algebra A i j) one)
    ∙ sym (normal_form-powers A i j c.args.kind.now a b prime.above_one c.n-n.ensures.accepted.downward c.requires.kind)
