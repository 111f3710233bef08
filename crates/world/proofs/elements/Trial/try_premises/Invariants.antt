use Rattle.world.proofs.Gone.{Gone}
use Rattle.world.proofs.elements.Trial.try_premises.Given as goal

abbrev pub invariant-loop-i : goal.invariant-loop-i
invariant-loop-i l = Gone l.self l.i l.budget l.visits
