use Rattle.std.proofs.Common.{◌≡◌, ◌∙◌, ℕ, suc, length, min, ap, arith}
use Rattle.std.proofs.lemmas.Result.{IfOk-weaker}
use Rattle.closed_forms.specs.Inside.Tables.{table}
use Rattle.closed_forms.specs.Forms.{sum_of_terms, weyl_number}
use Rattle.closed_forms.specs.Inside.Paths.{place}
use Rattle.closed_forms.specs.declared.terms.Path.TheVariants.{Both}
use Rattle.closed_forms.proofs.Tables.{by_length}
use Rattle.closed_forms.proofs.terms.weyl.Goals as goal

pub along-requires-clause-short : goal.along-requires-clause-short
along-requires-clause-short c =
    omega (arith, (by_length c.args.field (weyl_number c.args.q c.args.delta c.args.a c.args.b) (suc (min c.args.a c.args.b)) c.deref.result.now (c.deref.ensures.value ∙ c.in_ok-numbers.ensures)).0)

pub along-requires-clause-within : goal.along-requires-clause-within
along-requires-clause-within c =
    omega (arith, (by_length c.args.field (weyl_number c.args.q c.args.delta c.args.a c.args.b) (suc (min c.args.a c.args.b)) c.deref.result.now (c.deref.ensures.value ∙ c.in_ok-numbers.ensures)).0)

pub returns : goal.returns
returns c =
    let number : ℕ → ℕ = weyl_number c.args.q c.args.delta c.args.a c.args.b in
    let own : (length c.deref.result.now ≡ suc (min c.args.a c.args.b)) × (c.deref.result.now ≡ table c.args.field number (length c.deref.result.now)) =
    by_length c.args.field number (suc (min c.args.a c.args.b)) c.deref.result.now (c.deref.ensures.value ∙ c.in_ok-numbers.ensures) in
    IfOk-weaker c.along.result _ _
    (λ r h. h c.args.field number own.1 ∙ ap (sum_of_terms c.args.field number (place Both c.args.b c.args.a)) own.0)
    c.along.ensures
