use Rattle.two_sided.proofs.Holding.{checked_holds}
use Rattle.two_sided.proofs.laws.checked_certificates_hold.Goals as goal

pub returns : goal.returns
returns c = checked_holds
