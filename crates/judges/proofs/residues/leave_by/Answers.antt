use Rattle.std.proofs.Common.{rules}
use Rattle.judges.specs.ResidueLaw.{totals_divided}
use Rattle.judges.proofs.residues.leave_by.Goals as goal

pub returns : goal.returns
returns c = let gone = totals_divided c.args.modulus c.args.rows.now c.args.numbers.now in search rules
