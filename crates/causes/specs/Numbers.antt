-- The number of each cause of refusal, and the detail that goes with it.
use Rattle.std.specs.Prelude.{ℕ}
use Rattle.causes.specs.declared.cause.Cause.{Cause}
use Rattle.causes.specs.declared.cause.Cause.TheVariants.{BadBook, BadWorld, OverBudget}

abbrev pub cause_number : Cause → ℕ
cause_number (BadBook node) = 14
cause_number (BadWorld element) = 15
cause_number OverBudget = 16

-- 0 where there is none to give
abbrev pub cause_detail : Cause → ℕ
cause_detail (BadBook node) = node
cause_detail (BadWorld element) = element
cause_detail OverBudget = 0
