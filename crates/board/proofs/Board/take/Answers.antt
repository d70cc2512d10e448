use Rattle.std.proofs.Common.{◌≡◌, ◌∷◌, ◌++◌, [], None, IsSome, slice_index_or, slice_set, sym, ap, ◌∙◌, subst, arith}
use Rattle.word_model.specs.declared.events.BoardEvent.TheVariants.{Take}
use Rattle.board.specs.Boards.{standing, offered, take_events, place_of, BoardValue}
use Rattle.board.specs.Logs.{Keeps}
use Rattle.board.proofs.Boards.{any_default}
use Rattle.board.proofs.Keeping.{keeps_taken, keeps_emptied}
use Rattle.board.proofs.Board.take.Goals as goal

pub invariant_of-self : goal.invariant_of-self
invariant_of-self g c =
    keeps_taken _ c.self.inside.core.log c.take.new.self.log c.self.inside.kept.items c.args.job.now (standing c.self.inside.core.log c.args.job.now) c.take.ensures.log c.self.invariant

pub invariant_of-self-2 : goal.invariant_of-self-2
invariant_of-self-2 g c =
    let log = c.self.inside.core.log in
    let place = c.in_ok-k.ensures.place in
    let more : c.take.new.self.log ≡ log ++ Take c.args.job.now ∷ [] = c.take.ensures.log ∙ ap (λ s. log ++ take_events c.args.job.now s) place.0 in
    subst (λ o. Keeps _ c.take.new.self.log (slice_set c.self.inside.kept.items c.in_ok-k.k o)) (sym c.take-2.ensures.after)
    (keeps_emptied _ log c.take.new.self.log c.self.inside.kept.items c.args.job.now c.in_ok-k.k more place.2 c.self.invariant)

pub returns-clause-some : goal.returns-clause-some
returns-clause-some g c published =
    let log = c.self.inside.core.log in
    let kept = c.self.inside.kept.items in
    let place = c.in_ok-k.ensures.place in
    let there = c.self.invariant.there c.in_ok-k.k c.args.job.now place.2 place.0 in
    let inside = c.self.invariant.long in
    let result : c.take-2.result ≡ slice_index_or kept c.in_ok-k.k None =
    c.take-2.ensures.value ∙ (c.index_mut.ensures.value ∙ any_default kept c.in_ok-k.k c.index_mut.result.now None (omega (arith, place.2.0, inside))) in
    subst (λ (b : BoardValue g.row.P.Denot). IsSome c.take-2.result × (c.take-2.result ≡ slice_index_or b.kept (place_of (offered b.log) c.args.job.now) None)
    × (slice_set kept c.in_ok-k.k c.take-2.new.self ≡ slice_set b.kept (place_of (offered b.log) c.args.job.now) None)) c.self.view_is (
      subst IsSome (sym result) there,
      result ∙ ap (λ k. slice_index_or kept k None) place.1,
      ap (slice_set kept c.in_ok-k.k) c.take-2.ensures.after ∙ ap (λ k. slice_set kept k None) place.1,
    )
