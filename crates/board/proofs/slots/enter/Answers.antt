use Rattle.std.proofs.Common.{rules, false, ◌≡◌, ◌<◌, ◌+◌, ◌∷◌, ◌++◌, [], ℕ, List, Some, None, take, drop, length, slice_index_or, sym, ap, ◌∙◌, subst, arith, append_assoc, add-one, drop-cons}
use Rattle.std.specs.BTreeMap.{get, Updates}
use Rattle.std.specs.Map.{lookup}
use Rattle.std.specs.Ordering.{is_eq}
use Rattle.std.proofs.lemmas.List.{take_more, length-append, length-take}
use Rattle.monomials.specs.Polynomials.{Each}
use Rattle.word_model.specs.declared.records.Job.{Job}
use Rattle.pair_strategy.specs.Queues.{IsSet}
use Rattle.board.specs.Slots.{Key, key, key_cmp, Finds}
use Rattle.board.proofs.Finding.{finds-more, fresh-left}
use Rattle.board.proofs.slots.enter.Goals as goal

pub returns-then-is_err-clause-off : goal.returns-then-is_err-clause-off
returns-then-is_err-clause-off c before long was =
    let jobs = c.args.jobs.now in
    let same : c.insert.new.self.entries ≡ c.loop-k.places.entries = search rules in
    c.leave.ensures before (subst (λ (es : List (Key × ℕ)). Finds (λ p. lookup (λ q. is_eq (key_cmp p q)) es) (before ++ take c.loop-k.k jobs)) (sym same) (c.loop-k.invariant.finds before long was))

pub loop-k-preserved : goal.loop-k-preserved
loop-k-preserved c =
    let i = c.loop-k.k in
    let jobs = c.args.jobs.now in
    let job : Job = c.nth-job.result in
    let is = c.loop-k.invariant in
    let below : i < length jobs = c.loop-k-test.true in
    let at : slice_index_or jobs i job ≡ job = sym (c.nth-job.ensures job) in
    let split : take (i + 1) jobs ≡ take i jobs ++ job ∷ [] = take_more jobs i job below ∙ ap (λ j. take i jobs ++ j ∷ []) at in
    let rest : drop i jobs ≡ job ∷ drop (i + 1) jobs = rw add-one (drop-cons jobs i job below) ∙ ap (λ j. j ∷ drop (i + 1) jobs) at in
    let fresh : Each (λ j. get key_cmp c.loop-k.places (key j) ≡ None) (job ∷ drop (i + 1) jobs) = subst (Each (λ j. get key_cmp c.loop-k.places (key j) ≡ None)) rest is.fresh in
    let set : IsSet (job ∷ drop (i + 1) jobs) = subst IsSet rest is.set in
    let updates : Updates key_cmp c.loop-k.places c.insert.new.self c.key.result (Some (c.args.start + i)) = search rules in
    let others : (q : Key) → is_eq (key_cmp (key job) q) ≡ false → get key_cmp c.insert.new.self q ≡ get key_cmp c.loop-k.places q =
    λ q t. updates.2 q (ap (λ p. is_eq (key_cmp p q)) c.key.ensures ∙ t) in
    record {
      finds = λ before long was.
          let place : c.args.start + i ≡ length (before ++ take i jobs) = omega (arith, long, below, length-append before (take i jobs), length-take i jobs) in
          let here : get key_cmp c.insert.new.self (key job) ≡ Some (length (before ++ take i jobs)) = ap (get key_cmp c.insert.new.self) (sym c.key.ensures) ∙ (updates.1 ∙ ap Some place) in
          subst (Finds (get key_cmp c.insert.new.self)) (append_assoc before (take i jobs) (job ∷ []) ∙ ap (λ l. before ++ l) (sym split))
          (finds-more (get key_cmp c.loop-k.places) (get key_cmp c.insert.new.self) (before ++ take i jobs) job (is.finds before long was) fresh.0 here others);
      fresh = fresh-left (get key_cmp c.loop-k.places) (get key_cmp c.insert.new.self) job (drop (i + 1) jobs) set.0 others fresh.1;
      set = set.1;
    }
