use Rattle.std.proofs.Common.{◌≡◌, ◌++◌, map, length, replicate, None, sym, ap, ◌∙◌, subst, arith}
use Rattle.monomials.specs.Polynomials.{Each}
use Rattle.board.specs.Boards.{standing, BoardValue}
use Rattle.board.specs.Logs.{LogValue}
use Rattle.word_model.specs.declared.events.BoardEvent.TheVariants.{Offer}
use Rattle.board.proofs.Keeping.{keeps_offers}
use Rattle.board.proofs.Board.offer.Goals as goal

pub invariant_of-self-in-loop-job : goal.invariant_of-self-in-loop-job
invariant_of-self-in-loop-job g c =
    let was = c.self.inside.core.log in
    let jobs = c.args.jobs.now in
    let is = c.loop-job.invariant in
    let n : c.loop-job._job-index ≡ length jobs = omega (arith, c.loop-job-test.false, c.loop-job.auto._job-index-end) in
    let log : c.loop-job.self-inside.core.log ≡ was ++ map Offer jobs = ap (λ (v : LogValue). v.log) is.core ∙ c.in_ok-offer.ensures.log in
    let kept : c.loop-job.self-inside.kept.items ≡ c.self.inside.kept.items ++ replicate (length jobs) None =
    is.kept ∙ ap (λ k. k ++ replicate c.loop-job._job-index None) c.in_ok-reserve.ensures.items ∙ ap (λ m. c.self.inside.kept.items ++ replicate m None) n in
    keeps_offers _ was c.loop-job.self-inside.core.log c.self.inside.kept.items c.loop-job.self-inside.kept.items jobs
    (subst (λ (b : BoardValue g.row.P.Denot). Each (λ j. standing b.log j ≡ None) jobs) (sym c.self.view_is) c.requires.new) c.requires.differ log kept c.self.invariant
