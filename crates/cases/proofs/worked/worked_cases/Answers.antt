use Rattle.std.proofs.Common.{refl}
use Rattle.cases.proofs.Computed.{worked_cases_lem}
use Rattle.cases.proofs.worked.worked_cases.Goals as goal

pub returns : goal.returns
returns c = record { count = refl; hold = worked_cases_lem }
