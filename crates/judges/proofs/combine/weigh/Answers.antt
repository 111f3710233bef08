use Rattle.std.proofs.Common.{◌^◌, ◌≤◌, ◌*◌, ◌*ℤ◌, FitsSigned, unsigned_abs, arith}
use Rattle.std.specs.Int.{w32, w64, w128}
use Rattle.std.proofs.lemmas.Int.{ints, to_z-of_z, unsigned_abs-mul}
use Rattle.std.proofs.lemmas.Nat.{mul-le}
use Rattle.judges.proofs.combine.weigh.Goals as goal

pub returns-clause-size : goal.returns-clause-size
returns-clause-size c =
    let n = c.args.number in
    let v = c.args.value in
    let large : unsigned_abs v ≤ 2 ^ 63 = omega (arith, ints) in
    let size : unsigned_abs (n *ℤ v) ≤ 2 ^ 20 * unsigned_abs v = rw (unsigned_abs-mul n v) (mul-le (unsigned_abs n) (unsigned_abs v) (2 ^ 20) (unsigned_abs v) c.requires (omega arith)) in
    let n_fits : FitsSigned w128 n = omega (arith, ints) in
    let v_fits : FitsSigned w128 v = omega (arith, ints) in
    let fits : FitsSigned w128 (n *ℤ v) = omega (arith, ints) in
    let short : FitsSigned w32 n = c.ranges.number in
    let long : FitsSigned w64 v = c.ranges.value in
    simp (c.from.ensures, c.from-2.ensures, to_z-of_z) size
