-- The judge Sum: the rows, times the voucher's numbers, add up to a negative constant alone.
use Rattle.std.specs.Prelude.{◌≡◌, ℕ, ◌≤◌, Bool, true, List, length, ℤ, pos, negsuc, ◌≤ℤ◌, int_le, nat_le}
use Rattle.rows.specs.declared.cause.JudgeCause.{JudgeCause}
use Rattle.rows.specs.declared.cause.JudgeCause.TheVariants.{TooManyRows, BadVoucher, BadShape, UnknownsLeft, NoConflict}
use Rattle.rows.specs.declared.row.Unknown.{Unknown}
use Rattle.rows.specs.declared.row.Row.{Row}
use Rattle.judges.specs.Judging.{Answer, answer_of}
use Rattle.judges.specs.Combination.{coefficient_of, constant_of, each_coefficient, is_zero, NumbersFit, numbers_fit}

abbrev pub sum_rows : ℕ
sum_rows = 32

-- THE RULE, a condition for each cause
abbrev pub sum_asks : List Row → List ℤ → JudgeCause → Type 0
sum_asks rows voucher TooManyRows = length rows ≤ sum_rows
sum_asks rows voucher BadVoucher = NumbersFit (pos 0) (length rows) voucher
sum_asks rows voucher BadShape = Unit {0}
sum_asks rows voucher UnknownsLeft = (u : Unknown) → coefficient_of u rows voucher ≡ pos 0
sum_asks rows voucher NoConflict = constant_of rows voucher ≤ℤ negsuc 0

-- the same as tests
abbrev pub sum_passes : List Row → List ℤ → JudgeCause → Bool
sum_passes rows voucher TooManyRows = nat_le (length rows) sum_rows
sum_passes rows voucher BadVoucher = numbers_fit (pos 0) (length rows) voucher
sum_passes rows voucher BadShape = true
sum_passes rows voucher UnknownsLeft = each_coefficient is_zero rows voucher
sum_passes rows voucher NoConflict = int_le (constant_of rows voucher) (negsuc 0)

abbrev pub sum_answer : List Row → List ℤ → Answer
sum_answer rows voucher = answer_of (sum_passes rows voucher)
