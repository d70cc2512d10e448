use Rattle.std.proofs.Common.{◌≡◌, ◌≤◌, ℕ, List, map, sym, subst, ap, ◌∙◌, arith}
use Rattle.std.proofs.lemmas.Result.{IfOk-weaker}
use Rattle.monomials.specs.Monomials.{degree}
use Rattle.monomials.specs.Orders.{order_cmp}
use Rattle.monomials.specs.Polynomials.{Each, HasNumbers, HasVars, from_terms}
use Rattle.gpoly.specs.Terms.{pairs_of}
use Rattle.word_model.specs.Words.{Algebra, normal_form}
use Rattle.closed_forms.specs.Forms.{pairs_of as powers_of, Powers, Terms, IsNumber, in_algebra}
use Rattle.gproduct.specs.Inside.Swaps.{swap_word}
use Rattle.gproduct.proofs.ClosedTerms.{IsUpTo, closed_form_up_to, in_variables, numbers_in, vars_in, small_in, small_powers}
use Rattle.gproduct.proofs.swap.Swap.by_formula.Goals as goal

pub terms_of-requires-clause-small : goal.terms_of-requires-clause-small
terms_of-requires-clause-small c =
    rw c.deref.ensures.value
    (small_powers c.args.self.a c.args.self.b c.requires.swap.reach _
    (subst (Each (IsUpTo c.args.self.a c.args.self.b)) (sym c.in_ok-powers.ensures.formula)
    (closed_form_up_to c.field.result c.args.self.a c.args.self.b c.args.kind.now)))

-- the terms that are summed, of the polynomial's numbers and exponents
module _ (c : goal.After-deref-2) where
  abbrev in_terms : ℕ × Powers → ℕ × List ℕ
  in_terms = in_variables c.n-n.result c.args.self.i c.args.self.j

  whole : pairs_of c.deref-2.result.now ≡ map in_terms (powers_of c.in_ok-powers.powers.items)
  whole = ap pairs_of c.deref-2.ensures.value ∙ c.in_ok-terms.ensures ∙ ap (λ ts. map in_terms (powers_of ts)) c.deref.ensures.value

  up_to : Each (IsUpTo c.args.self.a c.args.self.b) (powers_of c.in_ok-powers.powers.items)
  up_to =
      subst (Each (IsUpTo c.args.self.a c.args.self.b)) (sym c.in_ok-powers.ensures.formula)
      (closed_form_up_to c.field.result c.args.self.a c.args.self.b c.args.kind.now)

pub from_terms-requires-clause-numbers : goal.from_terms-requires-clause-numbers
from_terms-requires-clause-numbers c =
    let field : c.field.result ≡ c.field-2.result = c.field.ensures ∙ sym c.field-2.ensures in
    let numbers : Each (IsNumber c.field-2.result) (powers_of c.in_ok-powers.powers.items) =
    subst (λ p. Each (IsNumber p) (powers_of c.in_ok-powers.powers.items)) field c.in_ok-powers.ensures.nonzero in
    subst (HasNumbers c.field-2.result) (sym (whole c)) (numbers_in c.n-n.result c.args.self.i c.args.self.j c.field-2.result _ numbers)

pub from_terms-requires-clause-vars : goal.from_terms-requires-clause-vars
from_terms-requires-clause-vars c =
    let vars : c.n-n.result ≡ c.order.result.now.vars = c.n-n.ensures.value ∙ sym (ap (λ o. o.vars) c.order.ensures) in
    subst (HasVars c.order.result.now.vars) (sym (whole c))
    (subst (λ n. HasVars n (map (in_terms c) (powers_of c.in_ok-powers.powers.items))) vars
    (vars_in c.n-n.result c.args.self.i c.args.self.j (powers_of c.in_ok-powers.powers.items)))

pub from_terms-requires-clause-small : goal.from_terms-requires-clause-small
from_terms-requires-clause-small c =
    let last : c.args.self.j ≤ c.n-n.result = omega (arith, c.n-n.ensures.value, c.requires.swap.last) in
    subst (Each (λ t. degree t.1 ≤ 4095)) (sym (whole c))
    (small_in c.n-n.result c.args.self.i c.args.self.j c.requires.swap.first c.requires.swap.ordered last c.args.self.a c.args.self.b c.requires.swap.reach _ (up_to c))

pub returns : goal.returns
returns c =
    let A : Algebra = c.args.alg.now in
    let ts : Terms = powers_of c.in_ok-powers.powers.items in
    let terms : pairs_of c.deref-2.result.now ≡ map (in_variables A.order.vars c.args.self.i c.args.self.j) ts =
    ap pairs_of c.deref-2.ensures.value ∙ c.in_ok-terms.ensures
    ∙ (λ k. map (in_variables (c.n-n.ensures.value k) c.args.self.i c.args.self.j) (powers_of (c.deref.ensures.value k))) in
    let formula : normal_form A (swap_word c.args.self) ≡ in_algebra A c.args.self.i c.args.self.j ts =
    c.in_ok-powers.ensures.value A c.args.self.i c.args.self.j (sym c.field.ensures) c.n-n.ensures.accepted.downward c.requires.kind in
    IfOk-weaker c.from_terms.result _ _
    (λ r is. is ∙ (λ k. from_terms (order_cmp (c.order.ensures k).rows) (c.field-2.ensures k) (terms k)) ∙ sym formula)
    c.from_terms.ensures.value
