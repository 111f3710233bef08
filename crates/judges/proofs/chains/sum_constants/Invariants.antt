use Rattle.std.proofs.Common.{◌≡◌, ◌*◌, ◌^◌, ◌≤◌, drop, ◌+ℤ◌, nat_abs}
use Rattle.judges.specs.Chain.{constants_of}
use Rattle.judges.proofs.chains.sum_constants.Given as goal

abbrev pub invariant-loop-row : goal.invariant-loop-row
invariant-loop-row l = (constants_of l.rows ≡ l.sum +ℤ constants_of (drop l.row-index l.rows)) × (nat_abs l.sum ≤ l.row-index * 2 ^ 63)
