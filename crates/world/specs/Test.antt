-- The world test.
use Rattle.std.specs.Prelude.{◌≡◌, ℕ, ◌+◌, ◌<◌, ◌≤◌, cond, ◌⊎◌, List, [], ◌∷◌, length, Ok, Err, Result}
use Rattle.causes.specs.declared.cause.Cause.{Cause}
use Rattle.causes.specs.declared.cause.Cause.TheVariants.{BadBook, BadWorld, OverBudget}
use Rattle.book.specs.Lowest.{HoldsTo, Lowest}
use Rattle.book.specs.declared.parts.Class.{Class}
use Rattle.book.specs.declared.parts.Node.{Node}
use Rattle.world.specs.Worlds.{World, element_at, element_ok, most_elements}
use Rattle.world.specs.Truth.{evaluated, nothing}
use Rattle.world.specs.declared.parts.Answer.{Answer}
use Rattle.world.specs.declared.parts.Evaluation.{Evaluation}
use Rattle.world.specs.declared.parts.Verdict.TheVariants.{Yes, No}

-- premise n, and the rest only where it is true
abbrev pub then_rest : ℕ → Evaluation → Answer → Answer
then_rest n e rest = cond e.truth (record { verdict = rest.verdict; visits = e.visits + rest.visits }) (record { verdict = No n; visits = e.visits })

-- the premises among the nodes from number n on
abbrev pub tested_from : List Node → World → ℕ → List Node → Answer
tested_from nodes world n [] = record { verdict = Yes; visits = 0 }
tested_from nodes world n (x ∷ xs) =
    cond x.premise (then_rest n (evaluated nodes world n nothing) (tested_from nodes world (n + 1) xs)) (tested_from nodes world (n + 1) xs)

-- THE ANSWER: premises by rising number, up to the first false one
unfoldable pub tested : List Node → World → Answer
tested nodes world = tested_from nodes world 1 nodes

-- what the test can take: few enough elements, each of them good
pub record Testable (classes : List Class) (world : World) : Type 0 where
  pub few : length world ≤ most_elements
  pub each : HoldsTo (length world) (λ k. element_ok classes (element_at world k))

-- why it cannot take a list of elements, as the detail of the refusal: 0 for too many, else the first bad element
abbrev pub Unfit : List Class → World → ℕ → Type 0
Unfit classes world d =
    ((most_elements < length world) × (d ≡ 0)) ⊎ ((length world ≤ most_elements) × Lowest (length world) (λ k. element_ok classes (element_at world k)) d)

-- WHAT THE WORLD TEST RETURNS
abbrev pub Answered : List Class → List Node → World → ℕ → Result Answer Cause → Type 0
Answered classes nodes world budget (Ok a) = Testable classes world × (a ≡ tested nodes world) × ((tested nodes world).visits ≤ budget)
Answered classes nodes world budget (Err (BadBook d)) = ⊥
Answered classes nodes world budget (Err (BadWorld d)) = Unfit classes world d
Answered classes nodes world budget (Err OverBudget) = Testable classes world × (budget < (tested nodes world).visits)
