use Rattle.std.proofs.Common.{◌+◌, ◌*◌, max}
use Rattle.world.proofs.Walks.{Walked}
use Rattle.world.proofs.elements.Trial.+both_evaluate_walk.Given as goal

abbrev pub decreases-evaluate : goal.decreases-evaluate
decreases-evaluate l = 2 * l.n

abbrev pub decreases-both : goal.decreases-both
decreases-both l = 2 * max l.left l.right + 1

abbrev pub decreases-walk : goal.decreases-walk
decreases-walk l = 2 * l.q.body + 1

abbrev pub invariant-walk-loop-i : goal.invariant-walk-loop-i
invariant-walk-loop-i l = Walked l.self l.q l.slots l.i l.budget l.visits
