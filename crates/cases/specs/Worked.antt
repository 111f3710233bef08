-- The worked cases: what the definitions say of the example, by computation.
use Rattle.std.specs.Prelude.{ℕ, [], ◌∷◌, pos, Ok, Err}
use Rattle.causes.specs.declared.cause.Cause.TheVariants.{OverBudget}
use Rattle.book.specs.Rules.{WellFormed, Fault}
use Rattle.world.specs.Worlds.{World, Element}
use Rattle.world.specs.Test.{Answered}
use Rattle.world.specs.declared.parts.Answer.{Answer}
use Rattle.world.specs.declared.parts.Verdict.TheVariants.{Yes, No}
use Rattle.cases.specs.Book.{opening, grant, example_classes_lem, example_nodes_lem, rule_nodes, one_class, nested_nodes_lem}

-- an event of a class, at a time
abbrev pub event : ℕ → ℕ → Element
event class time = record { class = class; values = pos time ∷ [] }

abbrev pub same_time : World
same_time = event opening 5 ∷ event grant 5 ∷ []

abbrev pub no_by_six : ℕ → Answer
no_by_six visits = record { verdict = No 6; visits = visits }

-- a grant before its opening
abbrev pub in_order : World
in_order = event grant 4 ∷ event opening 5 ∷ []

pub record WorkedCases : Type 0 where
  pub made : WellFormed example_classes_lem example_nodes_lem
  pub empty_world : Answered example_classes_lem example_nodes_lem [] 0 (Ok (no_by_six 0))
  pub one_of_each : Answered example_classes_lem example_nodes_lem same_time 4 (Ok (no_by_six 4))
  pub over_budget : Answered example_classes_lem example_nodes_lem same_time 3 (Err OverBudget)
  pub rule_made : WellFormed example_classes_lem rule_nodes
  pub rule_kept : Answered example_classes_lem rule_nodes in_order 2 (Ok (record { verdict = Yes; visits = 2 }))
  -- an "exists" at depth 5 passes, and at depth 6 the refusal names its node
  pub depth_five : WellFormed one_class (nested_nodes_lem (1 ∷ 1 ∷ 1 ∷ 1 ∷ 1 ∷ 0 ∷ []))
  pub depth_six : Fault one_class (nested_nodes_lem (1 ∷ 1 ∷ 1 ∷ 1 ∷ 1 ∷ 1 ∷ [])) 2
