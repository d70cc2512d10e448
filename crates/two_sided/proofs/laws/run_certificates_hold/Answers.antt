use Rattle.two_sided.proofs.OwnRuns.{run_checkable, run_holds}
use Rattle.two_sided.proofs.laws.run_certificates_hold.Goals as goal

pub returns-clause-checkable : goal.returns-clause-checkable
returns-clause-checkable c = λ A gens mode budget F ok sorted listed. run_checkable A ok gens sorted mode budget F listed

pub returns-clause-holds : goal.returns-clause-holds
returns-clause-holds c = λ A gens mode budget F ok sorted listed. run_holds A ok gens sorted mode budget F listed
