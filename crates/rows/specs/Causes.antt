-- The number of each cause for which a judge says no.
use Rattle.std.specs.Prelude.{ℕ}
use Rattle.rows.specs.declared.cause.JudgeCause.{JudgeCause}
use Rattle.rows.specs.declared.cause.JudgeCause.TheVariants.{TooManyRows, BadVoucher, BadShape, UnknownsLeft, NoConflict}

abbrev pub judge_cause_number : JudgeCause → ℕ
judge_cause_number TooManyRows = 1
judge_cause_number BadVoucher = 2
judge_cause_number BadShape = 3
judge_cause_number UnknownsLeft = 4
judge_cause_number NoConflict = 5
