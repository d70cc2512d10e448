-- What the check of a certificate answers, from the answers of its parts.
use Rattle.std.proofs.Common.{◌≡◌, ◌⊎◌, inl, inr, Bool, true, false, IsTrue, List, [], Option, Some, None, MatchOption, Result, Ok, Err, IfOk, refl, sym, ◌∙◌, subst}
use Rattle.monomials.specs.Polynomials.{Polynomial, Each, IsPolynomial}
use Rattle.word_model.specs.Words.{Algebra}
use Rattle.word_model.specs.Conditions.{IsGAlgebra}
use Rattle.word_model.specs.Certificates.{Certificate}
use Rattle.word_model.specs.TwoSided.{InTwoSidedIdeal}
use Rattle.word_model.proofs.Certified.{certificate_inside}
use Rattle.algebra.specs.declared.ProductFault.{ProductFault}
use Rattle.algebra.specs.declared.ProductFault.TheVariants.{DegreeOver, Memory}
use Rattle.two_sided.specs.Checks.{Answer, Holds, Fails, TooHigh, first_answer, tested, IsCheckable, lines_values, lines_answers, list_answers, chain_check}
use Rattle.two_sided.proofs.Firsts.{first_more, first_fails, first_high}
use Rattle.two_sided.proofs.Holding.{checked_holds}

pub at_some : {X : Type 0} (o : Option X) (x : X) (P : Type 0) (Q : X → Type 0) → o ≡ Some x → MatchOption o P Q → Q x
at_some o x P Q is m = subst (λ o. MatchOption o P Q) is m

pub at_none : {X : Type 0} (o : Option X) (P : Type 0) (Q : X → Type 0) → o ≡ None → MatchOption o P Q → P
at_none o P Q is m = subst (λ o. MatchOption o P Q) is m

-- an answer that is another one's
pub same_answer : (r : Result Bool ProductFault) (a b : Answer) → a ≡ b → IfOk r (λ holds. b ≡ tested holds) → IfOk r (λ holds. a ≡ tested holds)
same_answer (Ok holds) a b same value = same ∙ value
same_answer (Err e) a b same value = tt

module _ (A : Algebra) (gens : List Polynomial) (C : Certificate) where
  pub chain_fails : first_answer (lines_answers A gens [] C.lines) ≡ Fails → chain_check A gens C ≡ Fails
  chain_fails e = first_fails (lines_answers A gens [] C.lines) _ e

  pub chain_high : first_answer (lines_answers A gens [] C.lines) ≡ TooHigh → chain_check A gens C ≡ TooHigh
  chain_high e = first_high (lines_answers A gens [] C.lines) _ e

  pub chain_more : first_answer (lines_answers A gens [] C.lines) ≡ Holds
      → chain_check A gens C ≡ first_answer (list_answers A (lines_values A gens [] C.lines) C.finished)
  chain_more e = first_more (lines_answers A gens [] C.lines) _ e

  -- where the basis that lines give is handed on
  pub chain_handed : (B : Algebra) (G : List Polynomial) → B ≡ A → first_answer (lines_answers A gens [] C.lines) ≡ Holds → G ≡ lines_values A gens [] C.lines
      → chain_check A gens C ≡ first_answer (list_answers B G C.finished)
  chain_handed B G same e basis = chain_more e ∙ (λ i. first_answer (list_answers (sym same i) (sym basis i) C.finished))

  pub answer_inside : (r : Result Bool ProductFault) → IsGAlgebra A → Each (IsPolynomial A.p A.order) gens → IsCheckable A C
      → IfOk r (λ holds. chain_check A gens C ≡ tested holds) → IfOk r (λ holds. IsTrue holds → Each (InTwoSidedIdeal A gens) C.finished.list)
  answer_inside (Err e) ok sorted checkable value = tt
  answer_inside (Ok false) ok sorted checkable value = λ no_truth. cc
  answer_inside (Ok true) ok sorted checkable value = λ truth. certificate_inside A ok gens sorted C.lines C.finished (checked_holds A gens C checkable value)

  pub answer_holds : (r : Result Bool ProductFault) → IfOk r (λ holds. chain_check A gens C ≡ tested holds)
      → (r ≡ Err DegreeOver → chain_check A gens C ≡ TooHigh) → chain_check A gens C ≡ Holds → (r ≡ Ok true) ⊎ (r ≡ Err Memory)
  answer_holds (Ok true) value over holds = inl refl
  answer_holds (Ok false) value over holds = absurd (let fails : Fails ≡ Holds = sym value ∙ holds in cc)
  answer_holds (Err Memory) value over holds = inr refl
  answer_holds (Err DegreeOver) value over holds = absurd (let high : TooHigh ≡ Holds = sym (over refl) ∙ holds in cc)
