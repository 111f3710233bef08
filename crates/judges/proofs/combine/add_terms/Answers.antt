use Rattle.std.proofs.Common.{arith}
use Rattle.std.proofs.lemmas.Int.{ints, to_z-of_z}
use Rattle.std.proofs.lemmas.List.Sums.{fold_more}
use Rattle.judges.proofs.combine.add_terms.Goals as goal

pub loop-term-preserved : goal.loop-term-preserved
loop-term-preserved c = (
  grind (arith, ints, to_z-of_z, fold_more),
  omega (arith, c.add.ensures.count, c.loop-term.invariant.1),
  omega (arith, c.add.ensures.sizes, c.loop-term.invariant.2),
)
