use Rattle.std.proofs.Common.{◌≡◌, ℕ, ◌-◌, ◌*◌, ◌%◌, ◌<◌, ◌≤◌, ◌∙◌, ◌++◌, ◌∷◌, [], refl, ap, arith}
use Rattle.monomials.proofs.Modulo.{Same, same_refl, same_mul, same_rest}
use Rattle.word_model.specs.Words.{Algebra, sorted_word, c_of, d_of}
use Rattle.word_model.specs.Conditions.{times_words}
use Rattle.algebra.specs.Inside.WordSums.{words_of}
use Rattle.algebra.proofs.OverlapSums.{same_negative, pushed, with_first, with_last}
use Rattle.algebra.proofs.presentation.Presentation.overlap.Goals as goal

pub returns : goal.returns
returns c =
    let a : Algebra = c.args.self.now in
    let i : ℕ = c.args.i in
    let j : ℕ = c.args.j in
    let k : ℕ = c.args.k in
    let p : ℕ = a.p in
    let field : c.field-field.result ≡ p = c.field-field.ensures.value in
    let ij : c.c-c_ij.result ≡ c_of a i j = c.c-c_ij.ensures.value in
    let ik : c.c-c_ik.result ≡ c_of a i k = c.c-c_ik.ensures.value in
    let jk : c.c-c_jk.result ≡ c_of a j k = c.c-c_jk.ensures.value in
    let both : c.mul-c_ij_ik.result ≡ (c_of a i j * c_of a i k) % p = c.mul-c_ij_ik.ensures.value ∙ (λ t. (ij t * ik t) % field t) in
    let pos : 0 < p = omega (arith, c.field-field.ensures.prime.above_one) in
    let small : c_of a i j ≤ p = omega (arith, ij, c.c-c_ij.ensures.in_range) in
    let small_both : (c_of a i j * c_of a i k) % p ≤ p = omega (arith, both, field, c.mul-c_ij_ik.ensures.in_range) in
    let n1 : Same p c.mul-c_ik_jk.result (c_of a i k * c_of a j k) =
    same_refl p _ _ (c.mul-c_ik_jk.ensures.value ∙ (λ t. (ik t * jk t) % field t)) ∙ same_rest p (c_of a i k * c_of a j k) in
    let n2 : Same p c.neg.result (p - 1) =
    same_refl p _ _ (c.neg.ensures.value ∙ (λ t. (field t - 1) % field t)) ∙ same_rest p (p - 1) in
    let n4 : Same p c.neg-2.result ((p - 1) * c_of a i j) =
    same_refl p _ _ (c.neg-2.ensures.value ∙ (λ t. (field t - ij t) % field t)) ∙ same_rest p (p - c_of a i j) ∙ same_negative p (c_of a i j) pos small in
    let n6 : Same p c.neg-3.result ((p - 1) * (c_of a i j * c_of a i k)) =
    same_refl p _ _ (c.neg-3.ensures.value ∙ (λ t. (field t - both t) % field t)) ∙ same_rest p (p - (c_of a i j * c_of a i k) % p)
    ∙ same_negative p ((c_of a i j * c_of a i k) % p) pos small_both
    ∙ same_mul p (p - 1) _ _ (same_rest p (c_of a i j * c_of a i k)) in
    pushed p
    (times_words (c_of a i k * c_of a j k) (λ m. sorted_word m ++ k ∷ []) (d_of a i j))
    (times_words (p - 1) (λ m. k ∷ sorted_word m) (d_of a i j))
    (times_words (c_of a j k) (λ m. j ∷ sorted_word m) (d_of a i k))
    (times_words ((p - 1) * c_of a i j) (λ m. sorted_word m ++ j ∷ []) (d_of a i k))
    (times_words 1 (λ m. sorted_word m ++ i ∷ []) (d_of a j k))
    (times_words ((p - 1) * (c_of a i j * c_of a i k)) (λ m. i ∷ sorted_word m) (d_of a j k))
    (words_of c.new-words.result.items) (words_of c.push_between.new.words.items) (words_of c.push_between-2.new.words.items) (words_of c.push_between-3.new.words.items)
    (words_of c.push_between-4.new.words.items) (words_of c.push_between-5.new.words.items) (words_of c.push_between-6.new.words.items)
    (ap words_of c.new-words.ensures.items)
    (c.in_ok-push_between.ensures ∙ ap (λ w. words_of c.new-words.result.items ++ w) (with_last p _ _ _ k _ _ field c.d-d_ij.ensures.value n1))
    (c.in_ok-push_between-2.ensures ∙ ap (λ w. words_of c.push_between.new.words.items ++ w) (with_first p _ _ _ k _ _ field c.d-d_ij.ensures.value n2))
    (c.in_ok-push_between-3.ensures ∙ ap (λ w. words_of c.push_between-2.new.words.items ++ w) (with_first p _ _ _ j _ _ field c.d-d_ik.ensures.value (same_refl p _ _ jk)))
    (c.in_ok-push_between-4.ensures ∙ ap (λ w. words_of c.push_between-3.new.words.items ++ w) (with_last p _ _ _ j _ _ field c.d-d_ik.ensures.value n4))
    (c.in_ok-push_between-5.ensures ∙ ap (λ w. words_of c.push_between-4.new.words.items ++ w) (with_last p _ 1 1 i _ _ field c.d-d_jk.ensures.value refl))
    (c.in_ok-push_between-6.ensures ∙ ap (λ w. words_of c.push_between-5.new.words.items ++ w) (with_first p _ _ _ i _ _ field c.d-d_jk.ensures.value n6))
