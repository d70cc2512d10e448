use Rattle.std.proofs.Common.{◌≡◌, ◌≢◌, Some, IsSome, IfSome, MatchOption, sym, subst}
use Rattle.word_model.specs.declared.events.Standing.TheVariants.{Taken}
use Rattle.board.specs.Boards.{hand, standing, offered, place_of, BoardValue}
use Rattle.board.specs.Logs.{IsAtPlace}
use Rattle.board.proofs.Keeping.{keeps_put, keeps_gone}
use Rattle.board.proofs.Board.publish.Goals as goal

pub invariant_of-self : goal.invariant_of-self
invariant_of-self g c =
    let log = c.self.inside.core.log in
    let h = hand log c.args.seat in
    let some : IsSome h = subst (λ (b : BoardValue g.row.P.Denot). IsSome (hand b.log c.args.seat)) (sym c.self.view_is) c.requires in
    let place = subst (λ r. IfSome h (λ j. MatchOption r (standing log j ≡ Some Taken) (λ k. (standing log j ≢ Some Taken) × (k ≡ place_of (offered log) j) × IsAtPlace (offered log) k j))) c.in-Some.is c.leave.ensures.place in
    keeps_put _ log c.leave.new.self.log c.self.inside.kept.items c.args.seat c.in-Some.k c.args.payload h some c.leave.ensures.log place c.leave.ensures.distinct c.self.invariant

pub invariant_of-self-in-None : goal.invariant_of-self-in-None
invariant_of-self-in-None g c =
    let log = c.self.inside.core.log in
    let h = hand log c.args.seat in
    let gone = subst (λ r. IfSome h (λ j. MatchOption r (standing log j ≡ Some Taken) (λ k. (standing log j ≢ Some Taken) × (k ≡ place_of (offered log) j) × IsAtPlace (offered log) k j))) c.in-None.is c.leave.ensures.place in
    keeps_gone _ log c.leave.new.self.log c.self.inside.kept.items c.args.seat h c.leave.ensures.log gone c.self.invariant
