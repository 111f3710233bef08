use Rattle.judges.specs.Answering.{by_rule}
use Rattle.judges.specs.ResidueLaw.{residue_decides}
use Rattle.judges.proofs.residues.ResidueJudge.judge.Goals as goal

pub returns-clause-rule : goal.returns-clause-rule
returns-clause-rule c = by_rule _ _ (residue_decides c.args.rows.now c.args.voucher.now) _ c.leave_remainder.ensures
