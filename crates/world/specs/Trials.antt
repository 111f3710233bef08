-- What the nodes and the premises of a trial say.
use Rattle.std.specs.Prelude.{ℕ, ◌≤◌, List, length, slice_set}
use Rattle.book.specs.Whole.{nodes_of}
use Rattle.world.specs.Worlds.{world_of}
use Rattle.world.specs.Truth.{Env, tried, evaluated}
use Rattle.world.specs.Test.{tested}
use Rattle.world.specs.Inner.{env_of}
use Rattle.world.specs.declared.elements.Trial.{Trial}
use Rattle.world.specs.declared.parts.Answer.{Answer}
use Rattle.world.specs.declared.parts.Evaluation.{Evaluation}
use Rattle.world.specs.declared.parts.Quantifier.{Quantifier}

-- the book has a node n
pub record Known (t : Trial) (n : ℕ) : Type 0 where
  pub low : 1 ≤ n
  pub high : n ≤ length (nodes_of t.book.now)

-- the numbers of the elements in the slots
abbrev pub env_in : Trial → List ℕ → Env
env_in t slots = env_of (world_of t.log.now) slots

abbrev pub evaluated_in : Trial → ℕ → List ℕ → Evaluation
evaluated_in t n slots = evaluated (nodes_of t.book.now) (world_of t.log.now) n (env_in t slots)

-- what a quantifier says, whose slot is still unused
abbrev pub tried_in : Trial → Quantifier → List ℕ → Evaluation
tried_in t q slots =
    tried q.want q.class (λ vs. evaluated (nodes_of t.book.now) (world_of t.log.now) q.body (slice_set (env_in t slots) q.slot vs)) (world_of t.log.now)

abbrev pub tested_in : Trial → Answer
tested_in t = tested (nodes_of t.book.now) (world_of t.log.now)
