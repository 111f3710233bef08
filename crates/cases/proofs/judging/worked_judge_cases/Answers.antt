use Rattle.std.proofs.Common.{refl}
use Rattle.cases.proofs.Computed.{worked_judge_cases_lem}
use Rattle.cases.proofs.judging.worked_judge_cases.Goals as goal

pub returns : goal.returns
returns c = record { count = refl; hold = worked_judge_cases_lem }
