use Rattle.judges.specs.Answering.{by_rule}
use Rattle.judges.specs.SumLaw.{sum_decides}
use Rattle.judges.proofs.sums.SumJudge.judge.Goals as goal

pub returns-clause-rule : goal.returns-clause-rule
returns-clause-rule c = by_rule _ _ (sum_decides c.args.rows.now c.args.voucher.now) _ c.add_up.ensures
