use Rattle.std.proofs.Common.{length, sym, ap, ◌∙◌, subst}
use Rattle.monomials.specs.Polynomials.{Each}
use Rattle.word_model.specs.Finished.{FinishedList}
use Rattle.word_model.specs.Certificates.{Certificate}
use Rattle.plural_text.specs.Writable.{IsTermOf, IsLineOf}
use Rattle.plural_text.proofs.CertificateLines.{run_elements, run_lines, run_tails, run_one_each}
use Rattle.plural_text.proofs.certificates.chain_text.Goals as goal

pub write_lines-requires-clause-elements : goal.write_lines-requires-clause-elements
write_lines-requires-clause-elements c =
    run_elements c.args.alg.now c.n-n.ensures.accepted c.requires.of_run.0 c.requires.of_run.1 c.args.basis.now c.args.chain.now c.requires.of_run.2

pub write_lines-requires-clause-lines : goal.write_lines-requires-clause-lines
write_lines-requires-clause-lines c =
    let lines = c.deref.ensures.value ∙ ap (λ (C : Certificate). C.lines) c.chain.view_is in
    subst (Each (IsLineOf c.args.alg.now c.args.basis.now)) (sym lines)
    (run_lines c.args.alg.now c.n-n.ensures.accepted c.requires.of_run.0 c.requires.of_run.1 c.args.basis.now c.args.chain.now c.requires.of_run.2)

pub write_finals-requires-clause-tails : goal.write_finals-requires-clause-tails
write_finals-requires-clause-tails c =
    let tails = c.deref-3.ensures.value ∙ ap (λ (F : FinishedList). F.tails) c.finished.view_is ∙ ap (λ (C : Certificate). C.finished.tails) c.chain.view_is in
    subst (Each (Each (IsTermOf c.args.alg.now))) (sym tails)
    (run_tails c.args.alg.now c.n-n.ensures.accepted c.requires.of_run.0 c.requires.of_run.1 c.args.basis.now c.args.chain.now c.requires.of_run.2)

pub write_finals-requires-clause-one_each : goal.write_finals-requires-clause-one_each
write_finals-requires-clause-one_each c =
    let origin = c.deref-2.ensures.value ∙ ap (λ (F : FinishedList). F.origin) c.finished.view_is ∙ ap (λ (C : Certificate). C.finished.origin) c.chain.view_is in
    let tails = c.deref-3.ensures.value ∙ ap (λ (F : FinishedList). F.tails) c.finished.view_is ∙ ap (λ (C : Certificate). C.finished.tails) c.chain.view_is in
    ap length origin
    ∙ run_one_each c.args.alg.now c.n-n.ensures.accepted c.requires.of_run.0 c.requires.of_run.1 c.args.basis.now c.args.chain.now c.requires.of_run.2
    ∙ sym (ap length tails)
