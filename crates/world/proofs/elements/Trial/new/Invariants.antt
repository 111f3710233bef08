use Rattle.book.specs.Lowest.{HoldsTo}
use Rattle.book.specs.Whole.{classes_of}
use Rattle.world.specs.Worlds.{world_of, element_at, element_ok}
use Rattle.world.proofs.elements.Trial.new.Given as goal

abbrev pub invariant-loop-i : goal.invariant-loop-i
invariant-loop-i l = HoldsTo l.i (λ k. element_ok (classes_of l.book) (element_at (world_of l.log) k))
