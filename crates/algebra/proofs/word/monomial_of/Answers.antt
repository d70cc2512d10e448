use Rattle.std.proofs.Common.{◌≡◌, ℕ, suc, ◌+◌, ◌-◌, ◌<◌, ◌≤◌, ◌∙◌, List, length, take, get_or, ap, subst, arith}
use Rattle.std.proofs.Math.ListN.{length-set}
use Rattle.std.proofs.lemmas.List.{take_all}
use Rattle.monomials.specs.Monomials.{degree}
use Rattle.gpoly.proofs.Lists.{Each-get_or}
use Rattle.word_model.specs.Words.{monomial_of, count_of}
use Rattle.word_model.proofs.Letters.{degree-monomial_of}
use Rattle.algebra.proofs.Counting.{count_more, small_more, counts_all}
use Rattle.algebra.proofs.word.monomial_of.Goals as goal

pub loop-letter-preserved : goal.loop-letter-preserved
loop-letter-preserved c =
    let w = c.args.word.now in
    let i = c.loop-letter.letter-index in
    let x = c.from.result in
    let counts = c.loop-letter.exponents in
    let there : (1 ≤ get_or w i 0) × (get_or w i 0 ≤ c.args.n) =
    Each-get_or (λ v. (1 ≤ v) × (v ≤ c.args.n)) w i 0 c.loop-letter-test.true c.requires.letters in
    let few : x - 1 < length counts = omega arith in
    record {
      places = length-set counts (x - 1) (get_or counts (x - 1) 0 + 1) ∙ c.loop-letter.invariant.places;
      counts = λ v less.
          count_more counts w i x c.loop-letter-test.true c.from.ensures (omega arith) few c.loop-letter.invariant.counts v
          (subst (λ n. v < n) (length-set counts (x - 1) (get_or counts (x - 1) 0 + 1)) less);
      small = small_more counts (x - 1) i few c.loop-letter.invariant.small;
    }

-- the counts of all letters are the monomial's exponents
counted : (n : ℕ) (exponents word : List ℕ) (i : ℕ) → length exponents ≡ 16 → n ≤ 16 → length word ≤ i
    → ((v : ℕ) → v < length exponents → get_or exponents v 0 ≡ count_of (suc v) (take i word)) → take n exponents ≡ monomial_of n word
counted n exponents word i places few all h =
    counts_all n 1 exponents word (omega arith)
    (λ v less. let next : suc v ≡ 1 + v = omega arith in h v less ∙ ap (count_of (suc v)) (take_all i word all) ∙ ap (λ k. count_of k word) next)

pub of-requires-clause-small : goal.of-requires-clause-small
of-requires-clause-small c =
    let whole : take c.args.n c.loop-letter.exponents ≡ monomial_of c.args.n c.args.word.now =
    counted c.args.n c.loop-letter.exponents c.args.word.now c.loop-letter.letter-index c.loop-letter.invariant.places c.requires.few c.loop-letter-test.false c.loop-letter.invariant.counts in
    omega (arith, ap degree whole, degree-monomial_of c.args.n c.args.word.now c.requires.letters)

pub returns : goal.returns
returns c =
    c.of.ensures
    ∙ counted c.args.n c.loop-letter.exponents c.args.word.now c.loop-letter.letter-index c.loop-letter.invariant.places c.requires.few c.loop-letter-test.false c.loop-letter.invariant.counts
