use Rattle.std.proofs.Common.{◌≡◌, ◌*◌, ◌^◌, ◌≤◌, [], length, drop, ◌+ℤ◌, unsigned_abs}
use Rattle.arrayvec.specs.ArrayVec.{array_vec_len}
use Rattle.judges.specs.Combination.{constant_of}
use Rattle.judges.specs.Gather.{gathered, peak}
use Rattle.judges.proofs.combine.Combination.of.Given as goal

abbrev pub invariant-loop-row : goal.invariant-loop-row
invariant-loop-row l =
    let k = length l.yielded in
    (gathered [] l.rows l.numbers ≡ gathered l.sum.totals.items (drop k l.rows) (drop k l.numbers))
    × (constant_of l.rows l.numbers ≡ l.sum.constant +ℤ constant_of (drop k l.rows) (drop k l.numbers))
    × (array_vec_len l.sum.totals ≤ 8 * k)
    × (peak l.sum.totals.items ≤ k * 2 ^ 54)
    × (unsigned_abs l.sum.constant ≤ k * 2 ^ 83)
