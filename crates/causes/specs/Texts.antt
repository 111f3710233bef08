-- The text of a refusal.
use Rattle.std.specs.Prelude.{ℕ, List, ◌++◌, codes, decimal}
use Rattle.causes.specs.Numbers.{cause_number, cause_detail}
use Rattle.causes.specs.declared.cause.Cause.{Cause}
use Rattle.causes.specs.declared.cause.Cause.TheVariants.{BadBook, BadWorld, OverBudget}

abbrev pub cause_meaning : Cause → List ℕ
cause_meaning (BadBook node) = codes "the book breaks a rule"
cause_meaning (BadWorld element) = codes "no world for this book"
cause_meaning OverBudget = codes "more visits than the budget"

abbrev pub cause_text : Cause → List ℕ
cause_text c = codes "refused by " ++ (decimal (cause_number c) ++ (codes ", detail " ++ (decimal (cause_detail c) ++ (codes ": " ++ cause_meaning c))))
