use Rattle.std.proofs.Common.{◌≡◌, ℕ, ◌-◌, List, ◌++◌, ◌∷◌, [], length, drop, if◌then◌else◌, sym, ap, ◌∙◌, subst, arith, length-append}
use Rattle.std.specs.Result.{is_ok}
use Rattle.monomials.specs.Polynomials.{Polynomial, Each}
use Rattle.pair_strategy.specs.Queues.{jobs_in, HasKey, IsSet}
use Rattle.pair_strategy.specs.declared.keys.Keyed.{Keyed}
use Rattle.word_model.proofs.Sugars.{AreSugars-length}
use Rattle.commit_core.proofs.Bringing.{keys-longer, Each-rest, rest-is, rest-numbers}
use Rattle.commit_core.proofs.progress.Progress.admit.Goals as goal

pub push_jobs-requires-clause-jobs : goal.push_jobs-requires-clause-jobs
push_jobs-requires-clause-jobs c =
    let G : List Polynomial = c.args.self.now.basis.items in
    let grown : c.push.new.self.items ≡ G ++ c.args.element ∷ [] = c.in_ok-push.ensures.items in
    let count : length c.push.new.self.items - 1 ≡ length G = omega (arith, ap length grown, length-append G (c.args.element ∷ [])) in
    let rest = rest-is c.take_first.result c.reserve.new.self c.take_first.new.self c.take_first.ensures.first ∙ ap (drop 1) c.reserve.ensures.items in
    rest-numbers c.args.alg.now c.args.gens.now G c.args.self.now.queue.items c.take_first.new.self.items (length c.push.new.self.items - 1) count rest c.requires.jobs

pub returns-clause-keys : goal.returns-clause-keys
returns-clause-keys c = λ keys. (
    let A = c.args.alg.now in
    let gens = c.args.gens.now in
    let G : List Polynomial = c.args.self.now.basis.items in
    let grown : c.push.new.self.items ≡ G ++ c.args.element ∷ [] = c.in_ok-push.ensures.items in
    let rest = rest-is c.take_first.result c.reserve.new.self c.take_first.new.self c.take_first.ensures.first ∙ ap (drop 1) c.reserve.ensures.items in
    let n = c.args.self.now.sugars.items in
    let H : List Polynomial = G ++ c.args.element ∷ [] in
    let m : List ℕ = n ++ c.args.sugar ∷ [] in
    let count = AreSugars-length H m c.requires.sugars in
    let same : length n ≡ length G = omega (arith, count, length-append G (c.args.element ∷ []), length-append n (c.args.sugar ∷ [])) in
    let longer = keys-longer A gens G n c.args.element c.args.sugar c.args.self.now.queue.items same c.requires.jobs keys in
    let left = Each-rest (HasKey A gens H m) c.args.self.now.queue.items longer in
    let pushed : c.push-2.new.self.items ≡ m =
    c.push-2.ensures.items
    ∙ ap (λ r. if is_ok r then c.reserve-3.new.self.items ++ c.args.sugar ∷ [] else c.reserve-3.new.self.items) c.unwrap.ensures
    ∙ ap (λ (x : List ℕ). x ++ c.args.sugar ∷ []) c.reserve-3.ensures.items in
    let placed : Each (HasKey A gens c.push.new.self.items c.push-2.new.self.items) c.take_first.new.self.items =
    subst (λ (F : List Polynomial). Each (HasKey A gens F c.push-2.new.self.items) c.take_first.new.self.items) (sym grown)
    (subst (λ (x : List ℕ). Each (HasKey A gens H x) c.take_first.new.self.items) (sym pushed) (subst (Each (HasKey A gens H m)) (sym rest) left)) in
    subst (λ (x : List ℕ). Each (HasKey A gens c.push.new.self.items x) c.push_jobs.new.queue.items) c.deref.ensures.value
    (c.push_jobs.ensures.keys (subst (λ (x : List ℕ). Each (HasKey A gens c.push.new.self.items x) c.take_first.new.self.items) (sym c.deref.ensures.value) placed))
    )

pub returns-clause-set : goal.returns-clause-set
returns-clause-set c = subst (λ (items : List Keyed). IsSet (jobs_in items)) c.reserve.ensures.items c.take_first.ensures.facts.set
