use Rattle.std.proofs.Common.{◌≡◌, ◌+◌, ◌*◌, ◌^◌, ◌≤◌, drop, ◌+ℤ◌, nat_abs}
use Rattle.book.specs.Limits.{largest_coefficient}
use Rattle.book.specs.Rules.{terms_of}
use Rattle.world.specs.Worlds.{world_of, largest_value}
use Rattle.world.specs.Truth.{sum, worth}
use Rattle.world.specs.Inner.{env_of}
use Rattle.world.proofs.elements.Trial.worth.Given as goal

abbrev pub invariant-loop-t : goal.invariant-loop-t
invariant-loop-t l =
    let env = env_of (world_of l.self.log.now) l.slots in
    record {
      so_far : l.sum +ℤ sum env (drop l.t-index (terms_of l.a)) ≡ worth env l.a;
      size : nat_abs l.sum ≤ 2 ^ 31 + l.t-index * (largest_coefficient * largest_value);
    }
