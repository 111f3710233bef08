use Rattle.std.proofs.Common.{rules}
use Rattle.judges.specs.SumLaw.{totals_vanish}
use Rattle.judges.proofs.sums.add_up.Goals as goal

pub returns : goal.returns
returns c = let gone = totals_vanish c.args.rows.now c.args.voucher.now in search rules
