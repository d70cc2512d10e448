use Rattle.std.proofs.Common.{◌≡◌, ◌+◌, ◌-◌, ◌*◌, ◌/◌, ◌%◌, ◌<◌, ◌≤◌, List, Option, Some, None, IfSome, slice_index_or, ℕ, sym, subst, ◌∙◌, arith}
use Rattle.word_model.specs.Words.{Algebra}
use Rattle.closed_forms.specs.declared.PairKind.{PairKind}
use Rattle.closed_forms.specs.Kinds.{HasKind}
use Rattle.gproduct.specs.Inside.Swaps.{AreKinds}
use Rattle.gproduct.proofs.kinds.kept_kind.Goals as goal

-- what stands at the pair's place is its kind
has_kind : (A : Algebra) (kinds : List (Option PairKind)) (k i j : ℕ) (r : Option PairKind) → 1 ≤ i → i < j → j ≤ 16 → k ≡ (i - 1) * 16 + (j - 1)
    → r ≡ slice_index_or kinds k None → AreKinds A kinds → IfSome r (λ kind. HasKind A i j kind)
has_kind A kinds k i j None first ordered last place there are = tt
has_kind A kinds k i j (Some kind) first ordered last place there are =
    let high : k / 16 + 1 ≡ i = omega arith in
    let low : k % 16 + 1 ≡ j = omega arith in
    rw (sym high, sym low) (are.1.right k kind (sym there))

-- and its kind stands there
stands : (A : Algebra) (kinds : List (Option PairKind)) (k i j : ℕ) (kind : PairKind) → 1 ≤ i → i < j → j ≤ 16 → k ≡ (i - 1) * 16 + (j - 1)
    → AreKinds A kinds → HasKind A i j kind → slice_index_or kinds k None ≡ Some kind
stands A kinds k i j kind first ordered last place are has =
    let high : k / 16 + 1 ≡ i = omega arith in
    let low : k % 16 + 1 ≡ j = omega arith in
    let small : k < 240 = omega arith in
    are.1.full k kind (subst (λ n. k < n) (sym are.0) small) (subst (λ j. HasKind A (k / 16 + 1) j kind) (sym low) (subst (λ i. HasKind A i j kind) (sym high) has))

pub returns-in-Some : goal.returns-in-Some
returns-in-Some c = record {
  kind = λ alg are.
      has_kind alg c.args.kinds.now _ c.args.i c.args.j c.in-Some.kind.now c.requires.first c.requires.ordered c.requires.last
      (λ n. c.from.ensures n * c.from-2.ensures n + c.from-3.ensures n) (c.in-Some.ensures.lookup.3.1 None) are;
  full = λ alg kind are has.
      c.in-Some.ensures.lookup.3.1 None
      ∙ stands alg c.args.kinds.now _ c.args.i c.args.j kind c.requires.first c.requires.ordered c.requires.last
      (λ n. c.from.ensures n * c.from-2.ensures n + c.from-3.ensures n) are has;
}
