use Rattle.std.proofs.Common.{get_or, arith, rules, FitsSigned}
use Rattle.std.specs.Int.{w64}
use Rattle.std.proofs.lemmas.List.{at_drop_more}
use Rattle.std.proofs.lemmas.Int.{ints}
use Rattle.judges.specs.Unknowns.{no_row}
use Rattle.judges.specs.Chain.{constants_of}
use Rattle.judges.proofs.chains.sum_constants.Goals as goal

pub loop-row-preserved : goal.loop-row-preserved
loop-row-preserved c =
    let rows = c.args.rows.now in
    let i = c.loop-row.row-index in
    let fits : FitsSigned w64 (get_or rows i no_row).constant = search rules in
    let more = at_drop_more constants_of rows i no_row c.loop-row-test.true in
    (omega (arith, ints), omega (arith, ints))
