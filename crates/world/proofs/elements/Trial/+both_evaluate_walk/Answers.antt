use Rattle.std.proofs.Common.{pos, ◌∙◌, ap, zero-le, arith, w64, SFits, refl}
use lib.Signed.{le_z}
use Rattle.std.proofs.lemmas.Int.{to_z-of_z}
use Rattle.std.proofs.lemmas.Result.{err_from_is_err_and}
use Rattle.world.specs.Truth.{is_zero}
use Rattle.world.proofs.Arms.{arm_sound, arm_says, known_before, told_by, zero_bits}
use Rattle.world.proofs.Walks.{walk_skips, walk_spent, walk_over, walk_stops, walk_goes}
use Rattle.world.proofs.elements.Trial.+both_evaluate_walk.Goals as goal
use Rattle.world.proofs.elements.Trial.+both_evaluate_walk.Goals.{walk-then-e-q+else-visits-budget+in_ok-b+else-b-q, walk-else-e-q}

pub evaluate-worth-requires : goal.evaluate-worth-requires
evaluate-worth-requires t c = arm_sound c.requires c.nodes.ensures c.in-AtLeast.is

pub evaluate-worth-requires-in-Equal : goal.evaluate-worth-requires-in-Equal
evaluate-worth-requires-in-Equal t c = arm_sound c.requires c.nodes.ensures c.in-Equal.is

pub evaluate-both-requires : goal.evaluate-both-requires
evaluate-both-requires t c =
    let p = arm_sound c.requires c.nodes.ensures c.in-And.is in
    (omega (arith, p.0.1, p.1.1, c.decreases), (known_before c.requires p.0, known_before c.requires p.1))

pub evaluate-both-requires-in-Or : goal.evaluate-both-requires-in-Or
evaluate-both-requires-in-Or t c =
    let p = arm_sound c.requires c.nodes.ensures c.in-Or.is in
    (omega (arith, p.0.1, p.1.1, c.decreases), (known_before c.requires p.0, known_before c.requires p.1))

pub evaluate-walk-requires : goal.evaluate-walk-requires
evaluate-walk-requires t c =
    let p = arm_sound c.requires c.nodes.ensures c.in-Exists.is in
    rw (c.new.ensures, c.nodes.ensures) (omega (arith, p.0.1, c.decreases), (known_before c.requires p.0, p.1))

pub evaluate-walk-requires-in-Every : goal.evaluate-walk-requires-in-Every
evaluate-walk-requires-in-Every t c =
    let p = arm_sound c.requires c.nodes.ensures c.in-Every.is in
    rw (c.new-in-Every.ensures, c.nodes.ensures) (omega (arith, p.0.1, c.decreases), (known_before c.requires p.0, p.1))

pub evaluate-returns-in-AtLeast : goal.evaluate-returns-in-AtLeast
evaluate-returns-in-AtLeast t c =
    let e = arm_says c.requires c.nodes.ensures c.in-AtLeast.is c.args.slots in
    let f : SFits w64 c.worth.result = record { sfits = c.worth.type_inv } in
    let z = ap (le_z (pos 0)) (to_z-of_z w64 c.worth.result f ∙ c.worth.ensures) in
    rw (c.at_once.ensures, e) (simp z, zero-le)

pub evaluate-returns-in-Equal : goal.evaluate-returns-in-Equal
evaluate-returns-in-Equal t c =
    let e = arm_says c.requires c.nodes.ensures c.in-Equal.is c.args.slots in
    let z = zero_bits c.worth-in-Equal.result c.worth-in-Equal.type_inv ∙ ap is_zero c.worth-in-Equal.ensures in
    rw (c.at_once-in-Equal.ensures, e) (simp z, zero-le)

pub evaluate-returns-in-And : goal.evaluate-returns-in-And
evaluate-returns-in-And t c = told_by c.args.budget c.both.result (arm_says c.requires c.nodes.ensures c.in-And.is c.args.slots) c.both.ensures

pub evaluate-returns-in-Or : goal.evaluate-returns-in-Or
evaluate-returns-in-Or t c = told_by c.args.budget c.both-in-Or.result (arm_says c.requires c.nodes.ensures c.in-Or.is c.args.slots) c.both-in-Or.ensures

pub evaluate-returns-in-Exists : goal.evaluate-returns-in-Exists
evaluate-returns-in-Exists t c =
    let e = arm_says c.requires c.nodes.ensures c.in-Exists.is c.args.slots in
    told_by c.args.budget c.walk.result e (rw (c.new.ensures, c.nodes.ensures) at c.walk.ensures)

pub evaluate-returns-in-Every : goal.evaluate-returns-in-Every
evaluate-returns-in-Every t c =
    let e = arm_says c.requires c.nodes.ensures c.in-Every.is c.args.slots in
    told_by c.args.budget c.walk-in-Every.result e (rw (c.new-in-Every.ensures, c.nodes.ensures) at c.walk-in-Every.ensures)

pub walk-returns-then-visits-budget : goal.walk-returns-then-visits-budget
walk-returns-then-visits-budget t c = (refl, walk_spent c.loop-i.invariant c.loop-i-test.true c.if-e-q.true c.if-visits-budget.true)

pub walk-returns-in_err-b : goal.walk-returns-in_err-b
walk-returns-in_err-b t c =
    let p = err_from_is_err_and c.from_residual.result c.from_residual.ensures.1 in
    let k = c.in_err-b.ensures in
    rw p.1 (p.2 ∙ k.0, walk_over c.loop-i.invariant c.loop-i-test.true c.if-e-q.true k.1)

pub walk-returns-then-b-q : goal.walk-returns-then-b-q
walk-returns-then-b-q t c = walk_stops c.loop-i.invariant c.loop-i-test.true c.if-e-q.true c.if-visits-budget.false c.in_ok-b.ensures c.if-b-q.true

pub walk-loop-i-preserved : goal.walk-loop-i-preserved
walk-loop-i-preserved t c =
    elim c.if-e-q.branch [
      | walk-then-e-q+else-visits-budget+in_ok-b+else-b-q w ↦
          rw w.visits-is (walk_goes c.loop-i.invariant c.loop-i-test.true w.if-e-q.true w.if-visits-budget.false w.in_ok-b.ensures w.if-b-q.false)
      | walk-else-e-q w ↦ rw w.visits-is (walk_skips c.loop-i.invariant c.loop-i-test.true w.if-e-q.false)
    ]
