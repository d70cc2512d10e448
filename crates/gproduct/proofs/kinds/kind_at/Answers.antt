use Rattle.std.proofs.Common.{◌≡◌, ◌<◌, ◌≤◌, Option, Some, None, IfSome, ℕ, refl, sym, subst, arith}
use Rattle.monomials.specs.Polynomials.{Polynomial, HasVars, IsPolynomial}
use Rattle.monomials.proofs.Keys.{Each-weaker}
use Rattle.monomials.proofs.Operations.{HasNumbers-polynomial}
use Rattle.word_model.specs.Words.{Algebra, c_of, d_of}
use Rattle.word_model.proofs.Acceptance.{IsPolynomial-d_of}
use Rattle.closed_forms.specs.declared.PairKind.{PairKind}
use Rattle.closed_forms.specs.Kinds.{IsOfKind, HasKind}
use Rattle.gproduct.proofs.kinds.kind_at.Goals as goal

pub kind_of-requires-clause-vars : goal.kind_of-requires-clause-vars
kind_of-requires-clause-vars c =
    let is_polynomial : IsPolynomial c.args.alg.now.p c.args.alg.now.order (d_of c.args.alg.now c.args.i c.args.j) = IsPolynomial-d_of c.args.alg.now c.n-n.ensures.data c.args.i c.args.j in
    rw c.d.ensures (Each-weaker _ _ (λ t vars. omega (arith, vars)) _ is_polynomial.vars)

pub kind_of-requires-clause-numbers : goal.kind_of-requires-clause-numbers
kind_of-requires-clause-numbers c =
    let is_polynomial : IsPolynomial c.args.alg.now.p c.args.alg.now.order (d_of c.args.alg.now c.args.i c.args.j) = IsPolynomial-d_of c.args.alg.now c.n-n.ensures.data c.args.i c.args.j in
    rw (c.d.ensures, c.field.ensures) (HasNumbers-polynomial _ _ _ is_polynomial)

-- the kind that is found is that of the algebra's relation
has_kind : (A : Algebra) (i j : ℕ) (r : Option PairKind) → 1 ≤ i → i < j → j ≤ A.order.vars
    → ((kind : PairKind) → r ≡ Some kind → IsOfKind A.p A.order.vars i j kind (c_of A i j) (d_of A i j)) → IfSome r (λ kind. HasKind A i j kind)
has_kind A i j None first ordered last is = tt
has_kind A i j (Some kind) first ordered last is = record { first = first; ordered = ordered; last = last; relation = is kind refl }

moved : (n i j : ℕ) (kind : PairKind) (p q c e : ℕ) (d f : Polynomial) → p ≡ q → c ≡ e → d ≡ f → IsOfKind p n i j kind c d → IsOfKind q n i j kind e f
moved n i j kind p q c e d f field number polynomial is = rw (sym field, sym number, sym polynomial) is

pub returns : goal.returns
returns c =
    let A : Algebra = c.args.alg.now in
    let is_polynomial : IsPolynomial A.p A.order (d_of A c.args.i c.args.j) = IsPolynomial-d_of A c.n-n.ensures.data c.args.i c.args.j in
    record {
      kind = has_kind A c.args.i c.args.j c.kind_of.result c.requires.first c.requires.ordered c.requires.last
          (λ kind found.
          let is : IsOfKind c.field.result A.order.vars c.args.i c.args.j kind c.c.result c.d.result.now =
          (c.kind_of.ensures A.order.vars kind (subst (HasVars A.order.vars) (sym c.d.ensures) is_polynomial.vars)).0 found in
          moved _ _ _ kind _ _ _ _ _ _ c.field.ensures c.c.ensures c.d.ensures is);
      full = λ kind has. (c.kind_of.ensures A.order.vars kind (subst (HasVars A.order.vars) (sym c.d.ensures) is_polynomial.vars)).1
          (moved _ _ _ kind _ _ _ _ _ _ (sym c.field.ensures) (sym c.c.ensures) (sym c.d.ensures) has.relation);
    }
