use Rattle.book.specs.Lowest.{HoldsTo}
use Rattle.book.specs.Rules.{node_ok}
use Rattle.book.proofs.rules.inspect.Given as goal

abbrev pub invariant-loop-i : goal.invariant-loop-i
invariant-loop-i l = HoldsTo l.i (node_ok l.classes l.nodes)
