-- The judge Residue: a modulus divides all coefficients of a sum of equations, and not its constant.
use Rattle.std.specs.Prelude.{◌≡◌, ℕ, ◌%◌, ◌≤◌, Bool, true, false, not, ◌&&◌, List, length, drop, ℤ, pos, ◌*ℤ◌, neg_ℤ, ◌==◌, nat_le, slice_index_or, unsigned_abs}
use Rattle.std.specs.List.{AllByRecursion, list_all}
use Rattle.rows.specs.declared.cause.JudgeCause.{JudgeCause}
use Rattle.rows.specs.declared.cause.JudgeCause.TheVariants.{TooManyRows, BadVoucher, BadShape, UnknownsLeft, NoConflict}
use Rattle.rows.specs.declared.row.Unknown.{Unknown}
use Rattle.rows.specs.declared.row.Relation.{Relation}
use Rattle.rows.specs.declared.row.Relation.TheVariants.{AtLeast, Equal}
use Rattle.rows.specs.declared.row.Row.{Row}
use Rattle.judges.specs.Judging.{Answer, answer_of}
use Rattle.judges.specs.Combination.{coefficient_of, constant_of, each_coefficient, largest_number, Between, between, NumbersFit, numbers_fit}

abbrev pub residue_rows : ℕ
residue_rows = 16

-- the voucher's first number, 0 where there is none, and the others
abbrev pub modulus_of : List ℤ → ℤ
modulus_of voucher = slice_index_or voucher 0 (pos 0)

abbrev pub numbers_of : List ℤ → List ℤ
numbers_of voucher = drop 1 voucher

-- z is a multiple of m
abbrev pub Divides : ℤ → ℤ → Type 0
Divides m z = (q : ℤ) × (z ≡ q *ℤ m)

abbrev pub divides : ℤ → ℤ → Bool
divides m z = unsigned_abs z % unsigned_abs m == 0

abbrev pub is_equal : Relation → Bool
is_equal AtLeast = false
is_equal Equal = true

abbrev pub all_equal : List Row → Bool
all_equal rows = list_all (λ row. is_equal row.relation) rows

-- THE RULE, a condition for each cause
abbrev pub residue_asks : List Row → List ℤ → JudgeCause → Type 0
residue_asks rows voucher TooManyRows = length rows ≤ residue_rows
residue_asks rows voucher BadVoucher =
    Between (pos 2) (pos largest_number) (modulus_of voucher) × NumbersFit (neg_ℤ (pos largest_number)) (length rows) (numbers_of voucher)
residue_asks rows voucher BadShape = AllByRecursion (λ row. row.relation ≡ Equal) rows
residue_asks rows voucher UnknownsLeft = (u : Unknown) → Divides (modulus_of voucher) (coefficient_of u rows (numbers_of voucher))
residue_asks rows voucher NoConflict = Divides (modulus_of voucher) (constant_of rows (numbers_of voucher)) → ⊥

-- the same as tests
abbrev pub residue_passes : List Row → List ℤ → JudgeCause → Bool
residue_passes rows voucher TooManyRows = nat_le (length rows) residue_rows
residue_passes rows voucher BadVoucher =
    between (pos 2) (pos largest_number) (modulus_of voucher) && numbers_fit (neg_ℤ (pos largest_number)) (length rows) (numbers_of voucher)
residue_passes rows voucher BadShape = all_equal rows
residue_passes rows voucher UnknownsLeft = each_coefficient (divides (modulus_of voucher)) rows (numbers_of voucher)
residue_passes rows voucher NoConflict = not (divides (modulus_of voucher) (constant_of rows (numbers_of voucher)))

abbrev pub residue_answer : List Row → List ℤ → Answer
residue_answer rows voucher = answer_of (residue_passes rows voucher)
