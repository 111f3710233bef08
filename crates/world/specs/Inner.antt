-- What the private functions of the test ask and promise.
use Rattle.std.specs.Prelude.{◌≡◌, ℕ, zero, suc, ◌<◌, ◌≤◌, List, [], map, length, get_or, ℤ, Ok, Err, Result, slice_index_or, unsigned_abs}
use Rattle.causes.specs.declared.cause.Cause.{Cause}
use Rattle.causes.specs.declared.cause.Cause.TheVariants.{BadWorld, OverBudget}
use Rattle.book.specs.Limits.{slot_count, largest_coefficient}
use Rattle.book.specs.Rules.{no_term, terms_of}
use Rattle.book.specs.declared.parts.Atom.{Atom}
use Rattle.book.specs.declared.parts.Class.{Class}
use Rattle.book.specs.declared.parts.Term.{Term}
use Rattle.world.specs.Worlds.{World, no_element}
use Rattle.world.specs.Truth.{Env}
use Rattle.world.specs.Test.{Unfit}
use Rattle.world.specs.declared.parts.Answer.{Answer}
use Rattle.world.specs.declared.parts.Evaluation.{Evaluation}

-- In the program a slot holds an element's number, or 0.
unfoldable pub values_at : World → ℕ → List ℤ
values_at world zero = []
values_at world (suc k) = (get_or world k no_element).values

abbrev pub env_of : World → List ℕ → Env
env_of world slots = map (values_at world) slots

pub record BoundedTerm (t : Term) : Type 0 where
  pub coefficient : unsigned_abs t.coefficient ≤ largest_coefficient
  pub slot : t.slot < slot_count

pub record Bounded (a : Atom) : Type 0 where
  pub each : (i : ℕ) → i < length (terms_of a) → BoundedTerm (slice_index_or (terms_of a) i no_term)

-- what is found, with so many visits, is told where the budget suffices, and refused where it does not
abbrev pub Within : {X : Type 0} → (X → ℕ) → ℕ → X → Result X Cause → Type 0
Within visits budget o (Ok a) = (a ≡ o) × (visits o ≤ budget)
Within visits budget o (Err e) = (e ≡ OverBudget) × (budget < visits o)

-- the same of a node, and of the premises
abbrev pub Told : ℕ → Evaluation → Result Evaluation Cause → Type 0
Told budget o r = Within (λ (x : Evaluation). x.visits) budget o r

abbrev pub GivenWithin : ℕ → Answer → Result Answer Cause → Type 0
GivenWithin budget o r = Within (λ (x : Answer). x.visits) budget o r

-- a refusal of the elements
abbrev pub UnfitBy : List Class → World → Cause → Type 0
UnfitBy classes world e = (d : ℕ) × (e ≡ BadWorld d) × Unfit classes world d
