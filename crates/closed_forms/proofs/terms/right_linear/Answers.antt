use Rattle.std.proofs.Common.{◌≡◌, ◌∙◌, ◌*◌, ◌%◌, ℕ, suc, length, ap, arith}
use Rattle.std.proofs.lemmas.Result.{IfOk-weaker}
use Rattle.monomials.proofs.Modulo.{Same, same_refl}
use Rattle.closed_forms.specs.Inside.Tables.{table}
use Rattle.closed_forms.specs.Forms.{sum_of_terms, binomial_number}
use Rattle.closed_forms.specs.Inside.Paths.{place}
use Rattle.closed_forms.specs.declared.terms.Path.TheVariants.{X}
use Rattle.closed_forms.proofs.Sums.{sum_of_terms_alike}
use Rattle.closed_forms.proofs.Tables.{by_length}
use Rattle.closed_forms.proofs.Numbers.{binomial_alike, shift_is}
use Rattle.closed_forms.proofs.terms.right_linear.Goals as goal

pub along-requires-clause-short : goal.along-requires-clause-short
along-requires-clause-short c =
    omega (arith, (by_length c.args.field (binomial_number c.mul-shift.result c.args.b) (suc c.args.b) c.deref.result.now (c.deref.ensures.value ∙ c.in_ok-numbers.ensures)).0)

pub along-requires-clause-within : goal.along-requires-clause-within
along-requires-clause-within c =
    omega (arith, (by_length c.args.field (binomial_number c.mul-shift.result c.args.b) (suc c.args.b) c.deref.result.now (c.deref.ensures.value ∙ c.in_ok-numbers.ensures)).0)

pub returns : goal.returns
returns c =
    let p : ℕ = c.args.field in
    let number : ℕ → ℕ = binomial_number c.mul-shift.result c.args.b in
    let own : (length c.deref.result.now ≡ suc c.args.b) × (c.deref.result.now ≡ table p number (length c.deref.result.now)) =
    by_length p number (suc c.args.b) c.deref.result.now (c.deref.ensures.value ∙ c.in_ok-numbers.ensures) in
    let shift : Same p c.mul-shift.result (c.args.a * c.args.beta) =
    same_refl p _ _ (c.mul-shift.ensures.value ∙ ap (λ x. (x * c.args.beta) % p) (c.from_int.ensures.value ∙ ap (λ x. x % p) c.from.ensures)) ∙ shift_is p c.args.a c.args.beta in
    IfOk-weaker c.along.result _ _
    (λ r h.
    h p number own.1
    ∙ ap (sum_of_terms p number (place X c.args.b c.args.a)) own.0
    ∙ sum_of_terms_alike p number (binomial_number (c.args.a * c.args.beta) c.args.b) (place X c.args.b c.args.a) (suc c.args.b)
    (λ k. binomial_alike p c.mul-shift.result (c.args.a * c.args.beta) c.args.b k shift))
    c.along.ensures
