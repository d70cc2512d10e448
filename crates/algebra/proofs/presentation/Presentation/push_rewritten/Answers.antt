use Rattle.std.proofs.Common.{◌≡◌, ℕ, suc, ◌+◌, ◌-◌, ◌*◌, List, Some, ◌%◌, ◌<◌, ◌∙◌, ◌++◌, length, get_or, drop, take, ap, arith}
use Rattle.std.specs.List.{swap}
use Rattle.std.proofs.lemmas.List.{take_rest}
use Rattle.std.proofs.lemmas.Grind.{get_or_default_zero}
use Rattle.word_model.specs.Words.{Algebra, Descent, leftmost_descent, d_of, c_of}
use Rattle.word_model.proofs.Descents.{found_descent}
use Rattle.algebra.specs.declared.rewriting.WordTerm.{WordTerm}
use Rattle.algebra.specs.Inside.Places.{descent_at, with_swapped}
use Rattle.algebra.specs.Inside.WordSums.{words_of, reduced, between}
use Rattle.algebra.proofs.Places.{swap-side_by_side}
use Rattle.algebra.proofs.Sums.{push_replacement}
use Rattle.algebra.proofs.presentation.Presentation.push_rewritten.Goals as goal

-- a letter that was read
letter_at : (word : List ℕ) (i x : ℕ) → i < length word → x ≡ get_or word i x → x ≡ get_or word i 0
letter_at word i x inside is = is ∙ get_or_default_zero word i x inside

-- the letters at a descent
falls : (word : List ℕ) (k high low : ℕ) → k + 1 < length word → leftmost_descent word ≡ Some (descent_at k word)
    → high ≡ get_or word k high → low ≡ get_or word (k + 1) low → low < high
falls word k high low inside is high_is low_is =
    let next : k + 1 ≡ suc k = omega arith in
    omega (arith, (found_descent word (descent_at k word) is).1, letter_at word k high (omega arith) high_is, letter_at word (k + 1) low inside low_is, ap (λ i. get_or word i 0) next)

-- the letters behind a place
behind : (word : List ℕ) (k : ℕ) → take (length word - (k + 2)) (drop (k + 2) word) ≡ drop (suc (suc k)) word
behind word k = let next : k + 2 ≡ suc (suc k) = omega arith in take_rest word (k + 2) ∙ ap (λ i. drop i word) next

pub d-d-requires-clause-pair : goal.d-d-requires-clause-pair
d-d-requires-clause-pair c =
    falls c.args.term.word.items c.args.place c.index.result.now c.index-2.result.now c.requires.inside c.requires.descent c.index.ensures c.index-2.ensures

pub c-requires-clause-pair : goal.c-requires-clause-pair
c-requires-clause-pair c =
    falls c.args.term.word.items c.args.place c.index.result.now c.index-2.result.now c.requires.inside c.requires.descent c.index.ensures c.index-2.ensures

pub returns : goal.returns
returns c =
    let place : ℕ = c.args.place in
    let word : List ℕ = c.args.term.word.items in
    let a : Algebra = c.args.self.now in
    let k : ℕ = c.args.term.coef in
    let s : Descent = descent_at place word in
    let next : place + 1 ≡ suc place = omega arith in
    let inside : suc place < length word = omega (arith, c.requires.inside) in
    let high : c.index.result.now ≡ s.high = letter_at word place _ (omega arith) c.index.ensures in
    let low : c.index-2.result.now ≡ s.low = letter_at word (place + 1) _ c.requires.inside c.index-2.ensures ∙ ap (λ i. get_or word i 0) next in
    let d : c.d-d.result.now ≡ d_of a s.low s.high = c.d-d.ensures.value ∙ (λ i. d_of a (low i) (high i)) in
    let back : take (length c.deref-2.result.now - (place + 2)) (drop (place + 2) c.deref-2.result.now) ≡ s.after =
    behind c.deref-2.result.now place ∙ ap (drop (suc (suc place))) c.deref-2.ensures.value in
    let terms : words_of c.push_between.new.words.items ≡ words_of c.args.pending.now.items ++ reduced a.p (between k s.before (d_of a s.low s.high) s.after) =
    c.in_ok-push_between.ensures
    ∙ (λ i. words_of c.args.pending.now.items ++ reduced (c.field-field.ensures.value i) (between k (take place (c.deref.ensures.value i)) (d i) (back i))) in
    let swapped : WordTerm = record { coef = c.mul.result; word = c.swap.new.self } in
    let number : c.mul.result ≡ (k * c_of a s.low s.high) % a.p =
    c.mul.ensures.value ∙ (λ i. (k * (c.c.ensures.value ∙ (λ i. c_of a (low i) (high i))) i) % c.field-field.ensures.value i) in
    let turned : c.swap.new.self.items ≡ with_swapped s =
    c.swap.ensures.items ∙ ap (swap word place) next ∙ swap-side_by_side word place inside in
    ap words_of c.in_ok-push.ensures.items
    ∙ push_replacement a k s c.args.pending.now.items c.push_between.new.words.items swapped terms (λ i. (number i, turned i))
