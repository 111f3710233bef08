use Rattle.std.proofs.Common.{◌≡◌, slice_get, arith}
use Rattle.std.proofs.lemmas.Grind.{common_steps}
use Rattle.std.proofs.lemmas.Option.{gets}
use Rattle.world.specs.Inner.{values_at}
use Rattle.world.proofs.Slots.{values_in, values_past}
use Rattle.world.proofs.elements.Trial.value.Goals as goal

pub returns-in_err-checked_sub : goal.returns-in_err-checked_sub
unfolding values_at
returns-in_err-checked_sub c =
    let a = c.in_err-checked_sub.ensures in
    let z : c.args.number ≡ 0 = omega arith in
    rw (c.from_residual.ensures, z)

pub returns-in_err-e : goal.returns-in_err-e
returns-in_err-e c =
    let b = c.in_ok-checked_sub.ensures in
    let a = c.in_err-e.ensures.lookup in
    rw (c.from_residual-in_err-e.ensures, values_past c.args.self.now.log.now c.args.number (omega (arith, a)))

pub returns : goal.returns
returns c =
    let n = c.in_ok-checked_sub.ensures in
    let e = c.in_ok-e.ensures.lookup in
    let v : c.copied.result ≡ slice_get c.in_ok-e.e.now.values.now c.args.attribute = grind (arith, common_steps, gets) in
    rw (values_in c.args.self.now.log.now c.args.number c.in_ok-e.e.now n.0 (omega (arith, e.3.0)) (rw n.1 at e.1)) v
