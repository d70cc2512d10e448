use Rattle.std.proofs.Common.{◌≡◌, ◌<◌, ◌+◌, ◌-◌, ◌∷◌, ◌++◌, [], false, None, take, length, slice_index_or, sym, ap, ◌∙◌, subst, arith, append_assoc, append-nil}
use Rattle.std.specs.BTreeMap.{get}
use Rattle.std.specs.Ordering.{is_eq}
use Rattle.std.proofs.lemmas.List.{take_more}
use Rattle.word_model.specs.declared.records.Job.{Job}
use Rattle.board.specs.Slots.{Key, key, key_cmp, Finds}
use Rattle.board.proofs.Finding.{finds-less}
use Rattle.board.proofs.slots.leave.Goals as goal

pub loop-k-preserved : goal.loop-k-preserved
loop-k-preserved c =
    let i = c.loop-k.k - 1 in
    let jobs = c.args.jobs.now in
    let job : Job = c.nth-job.result in
    let is = c.loop-k.invariant in
    let e : c.loop-k.k ≡ i + 1 = omega (arith, c.loop-k-test.true) in
    let below : i < length jobs = omega (arith, e, is.in_range) in
    let at : slice_index_or jobs i job ≡ job = sym (c.nth-job.ensures job) in
    let split : take c.loop-k.k jobs ≡ take i jobs ++ job ∷ [] = ap (λ m. take m jobs) e ∙ (take_more jobs i job below ∙ ap (λ j. take i jobs ++ j ∷ []) at) in
    let gone : get key_cmp c.remove.new.self (key job) ≡ None = ap (get key_cmp c.remove.new.self) (sym c.key.ensures) ∙ c.remove.ensures.updates.1 in
    let others : (q : Key) → is_eq (key_cmp (key job) q) ≡ false → get key_cmp c.remove.new.self q ≡ get key_cmp c.loop-k.places q =
    λ q t. c.remove.ensures.updates.2 q (ap (λ p. is_eq (key_cmp p q)) c.key.ensures ∙ t) in
    record {
      in_range = omega (arith, is.in_range);
      finds = λ before was. finds-less (get key_cmp c.loop-k.places) (get key_cmp c.remove.new.self) (before ++ take i jobs) job
          (subst (Finds (get key_cmp c.loop-k.places)) (ap (λ l. before ++ l) split ∙ sym (append_assoc before (take i jobs) (job ∷ []))) (is.finds before was)) gone others;
    }

pub returns : goal.returns
returns c before was =
    let e : c.loop-k.k ≡ 0 = omega (arith, c.loop-k-test.false) in
    subst (Finds (get key_cmp c.loop-k.places)) (ap (λ m. before ++ take m c.args.jobs.now) e ∙ append-nil before) (c.loop-k.invariant.finds before was)
