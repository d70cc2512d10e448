use Rattle.std.proofs.Common.{◌≡◌, ℕ, ◌≤◌, ◌∙◌, ◌++◌, [], ◌∷◌, ◌-◌, length, take, vec_len, Some, None, sym, ap, subst, subst₂, arith}
use Rattle.std.proofs.lemmas.List.{map-append}
use Rattle.monomials.proofs.Keys.{Each-second}
use Rattle.gpoly.specs.Terms.{pair_of, pairs_of}
use Rattle.word_model.specs.Words.{Word, IsWord, leftmost_descent, monomial_of}
use Rattle.algebra.specs.Inside.Places.{descent_at}
use Rattle.algebra.specs.Inside.WordSums.{numbered_word, words_of}
use Rattle.algebra.proofs.Sums.{words_of-push}
use Rattle.algebra.proofs.Replacing.{IsRewriting, sum_measure, begin, go_sorted, go_on, finish, taken_falls, step_falls}
use Rattle.algebra.proofs.presentation.Presentation.sorted_terms.Goals as goal
use Rattle.algebra.proofs.presentation.Presentation.sorted_terms.Goals.{In-Some, In-Some-leftmost_descent}

-- the sum before its last word was taken
taken : (c : In-Some) → words_of c.loop-term.pending.items ≡ words_of c.pop.new.self.items ++ numbered_word c.in-Some.term ∷ []
taken c = ap words_of c.in-Some.ensures.items ∙ words_of-push c.pop.new.self.items c.in-Some.term

before : (c : In-Some)
    → IsRewriting c.args.self.now (words_of c.args.pending.items) (words_of c.pop.new.self.items ++ numbered_word c.in-Some.term ∷ []) (pairs_of c.loop-term.sorted.items)
before c = subst (λ f. IsRewriting c.args.self.now (words_of c.args.pending.items) f (pairs_of c.loop-term.sorted.items)) (taken c) c.loop-term.invariant

-- the word that was taken is a word in the variables, no longer than the program allows
its_word : (c : In-Some) → IsWord c.args.self.now.order.vars c.in-Some.term.word.items
its_word c = (Each-second _ (words_of c.pop.new.self.items) (numbered_word c.in-Some.term ∷ []) (before c).pending.words).0

its_length : (c : In-Some) → length c.in-Some.term.word.items ≤ 4095
its_length c = (Each-second _ (words_of c.pop.new.self.items) (numbered_word c.in-Some.term ∷ []) (before c).pending.short).0

pub loop-term-init : goal.loop-term-init
loop-term-init c =
    subst (λ ts. IsRewriting c.args.self.now (words_of c.args.pending.items) (words_of c.args.pending.items) (pairs_of ts))
    (sym c.new-sorted.ensures.items) (begin c.args.self.now (words_of c.args.pending.items) c.requires.pending)

pub monomial_of-mono-requires-clause-letters : goal.monomial_of-mono-requires-clause-letters
monomial_of-mono-requires-clause-letters c =
    let W : ℕ → Word → Type 0 = λ n w. IsWord n w in
    subst₂ W (sym c.n.ensures.value) (sym c.deref-in-None.ensures.value) (its_word (goal.at.monomial_of-mono-requires-clause-letters c).In-Some)

pub monomial_of-mono-requires-clause-short : goal.monomial_of-mono-requires-clause-short
monomial_of-mono-requires-clause-short c =
    omega (arith, ap length c.deref-in-None.ensures.value, its_length (goal.at.monomial_of-mono-requires-clause-short c).In-Some)

pub loop-term-smaller-in-None-1 : goal.loop-term-smaller-in-None-1
loop-term-smaller-in-None-1 c =
    let algebra = c.args.self.now in
    omega (
      arith,
      ap (sum_measure algebra) (taken (goal.at.loop-term-smaller-in-None-1 c).In-Some),
      taken_falls algebra (words_of c.pop.new.self.items) (numbered_word c.in-Some.term),
    )

pub loop-term-preserved-in-None-1 : goal.loop-term-preserved-in-None-1
loop-term-preserved-in-None-1 c =
    let algebra = c.args.self.now in
    let word = c.in-Some.term.word.items in
    let none : leftmost_descent word ≡ None = ap leftmost_descent (sym c.deref.ensures.value) ∙ c.in-None.ensures in
    let mono : c.monomial_of-mono.result ≡ monomial_of c.args.self.now.order.vars word = c.monomial_of-mono.ensures ∙ (λ i. monomial_of (c.n.ensures.value i) (c.deref-in-None.ensures.value i)) in
    let sorted : pairs_of c.push.new.self.items ≡ pairs_of c.loop-term.sorted.items ++ (c.in-Some.term.coef, monomial_of c.args.self.now.order.vars word) ∷ [] =
    ap pairs_of c.in_ok-push-in-None.ensures.items
    ∙ map-append pair_of c.loop-term.sorted.items (record { coef = c.in-Some.term.coef; mono = c.monomial_of-mono.result } ∷ [])
    ∙ ap (λ m. pairs_of c.loop-term.sorted.items ++ (c.in-Some.term.coef, m) ∷ []) mono in
    subst (λ f. IsRewriting algebra (words_of c.args.pending.items) (words_of c.pop.new.self.items) f) (sym sorted)
    (go_sorted algebra (words_of c.args.pending.items) (words_of c.pop.new.self.items) c.in-Some.term.coef word (pairs_of c.loop-term.sorted.items)
    (before (goal.at.loop-term-preserved-in-None-1 c).In-Some) none)

pub push_rewritten-requires-clause-in_range : goal.push_rewritten-requires-clause-in_range
push_rewritten-requires-clause-in_range c =
    (Each-second _ (words_of c.pop.new.self.items) (numbered_word c.in-Some.term ∷ []) (before (goal.at.push_rewritten-requires-clause-in_range c).In-Some).pending.numbers).0

-- the descent that was found is the leftmost one of the word that was taken
its_descent : (c : In-Some-leftmost_descent)
    → leftmost_descent c.in-Some.term.word.items ≡ Some (descent_at c.in-Some-leftmost_descent.place c.in-Some.term.word.items)
its_descent c =
    subst (λ w. leftmost_descent w ≡ Some (descent_at c.in-Some-leftmost_descent.place w)) c.deref.ensures.value c.in-Some-leftmost_descent.ensures.1

pub loop-term-smaller : goal.loop-term-smaller
loop-term-smaller c =
    let algebra = c.args.self.now in
    let word = c.in-Some.term.word.items in
    let at = descent_at c.in-Some-leftmost_descent.place word in
    omega (
      arith,
      ap (sum_measure algebra) (taken (goal.at.loop-term-smaller c).In-Some),
      ap (sum_measure algebra) c.in_ok-push_rewritten-in-Some-leftmost_descent.ensures,
      step_falls algebra c.requires.downward (words_of c.pop.new.self.items)
          c.in-Some.term.coef word at (its_word (goal.at.loop-term-smaller c).In-Some) (its_length (goal.at.loop-term-smaller c).In-Some)
          (its_descent (goal.at.loop-term-smaller c).In-Some-leftmost_descent),
    )

pub loop-term-preserved : goal.loop-term-preserved
loop-term-preserved c =
    let algebra = c.args.self.now in
    let word = c.in-Some.term.word.items in
    let at = descent_at c.in-Some-leftmost_descent.place word in
    subst (λ f. IsRewriting algebra (words_of c.args.pending.items) f (pairs_of c.loop-term.sorted.items))
    (sym c.in_ok-push_rewritten-in-Some-leftmost_descent.ensures)
    (go_on algebra c.requires.downward (omega (arith, c.field-p.ensures.prime.above_one)) (words_of c.args.pending.items) (words_of c.pop.new.self.items) c.in-Some.term.coef word (pairs_of c.loop-term.sorted.items) at
    (before (goal.at.loop-term-preserved c).In-Some) (its_descent (goal.at.loop-term-preserved c).In-Some-leftmost_descent))

pub returns-clause-value : goal.returns-clause-value
returns-clause-value c =
    let algebra = c.args.self.now in
    let none : vec_len c.loop-term.pending - 1 ≡ 0 = omega (arith, c.in_default.ensures.cases.0) in
    let left : c.pop.new.self.items ≡ [] = c.in_default.ensures.rest ∙ ap (λ n. take n c.loop-term.pending.items) none in
    let all : words_of c.loop-term.pending.items ≡ [] = ap words_of (c.in_default.ensures.items ∙ ap (λ ts. ts ++ []) left) in
    finish algebra c.field-p.ensures.prime.above_one (words_of c.args.pending.items) (pairs_of c.loop-term.sorted.items)
    (subst (λ f. IsRewriting algebra (words_of c.args.pending.items) f (pairs_of c.loop-term.sorted.items)) all c.loop-term.invariant)

pub returns-clause-numbers : goal.returns-clause-numbers
returns-clause-numbers c = c.loop-term.invariant.numbers

pub returns-clause-vars : goal.returns-clause-vars
returns-clause-vars c = c.loop-term.invariant.vars

pub returns-clause-small : goal.returns-clause-small
returns-clause-small c = c.loop-term.invariant.small

pub push_rewritten-requires-clause-word : goal.push_rewritten-requires-clause-word
push_rewritten-requires-clause-word c = its_word (goal.at.push_rewritten-requires-clause-word c).In-Some
