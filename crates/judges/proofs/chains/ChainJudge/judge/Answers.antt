use Rattle.judges.specs.Answering.{by_rule}
use Rattle.judges.specs.ChainLaw.{chain_decides}
use Rattle.judges.proofs.chains.ChainJudge.judge.Goals as goal

pub returns-clause-rule : goal.returns-clause-rule
returns-clause-rule c = by_rule _ _ (chain_decides c.args.rows.now c.args.voucher.now) _ c.go_round.ensures
