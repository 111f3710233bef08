-- The judge Sum: its tests decide its conditions, and its law.
use Rattle.std.specs.Prelude.{◌≡◌, ◌≤◌, true, T, List, [], ◌∷◌, length, ℤ, pos, negsuc, ◌+ℤ◌, ◌*ℤ◌, ◌≤ℤ◌, is_ok, Decides, unsigned_abs, refl}
use Rattle.std.proofs.Common.{ap, ◌∙◌, arith}
use Rattle.std.proofs.Math.IntN.{*ℤ-zero, zero-*ℤ}
use Rattle.std.proofs.lemmas.Int.{ints}
use Rattle.std.proofs.lemmas.Bool.{eqb-true, and_parts}
use Rattle.std.proofs.lemmas.Bool.Decides.{Decides-like}
use Rattle.std.specs.List.{AllByRecursion}
use Rattle.rows.specs.Meaning.{Valuation, sum_of, terms_of, value, Related, AllHold, Impossible}
use Rattle.rows.specs.declared.cause.JudgeCause.{JudgeCause}
use Rattle.rows.specs.declared.cause.JudgeCause.TheVariants.{TooManyRows, BadVoucher, BadShape, UnknownsLeft, NoConflict}
use Rattle.rows.specs.declared.row.Relation.{Relation}
use Rattle.rows.specs.declared.row.Relation.TheVariants.{AtLeast, Equal}
use Rattle.rows.specs.declared.row.Row.{Row}
use Rattle.judges.specs.declared.combine.Total.{Total}
use Rattle.judges.specs.Combination.{coefficient_of, constant_of, each_coefficient, is_zero, largest_number, Between}
use Rattle.judges.specs.Gather.{gathered, each_total}
use Rattle.judges.specs.Residue.{divides}
use Rattle.judges.specs.Sum.{sum_rows, sum_asks, sum_passes, sum_answer}
use Rattle.judges.specs.Answering.{asked}
use Rattle.judges.specs.Combined.{worth, weighted, weighted_is, coefficients_decide, totals_decide, totals_are}
use Rattle.judges.specs.Division.{by_zero}
use Rattle.judges.specs.Numbers.{leb_decides, le_z_decides, numbers_decide}
use Rattle.judges.specs.Ring.{times_add, times_not_below}

zero_from : (z : ℤ) → is_zero z ≡ true → z ≡ pos 0
zero_from z h = let n = eqb-true (unsigned_abs z) 0 h in omega (arith, ints)

zero_to : (z : ℤ) → z ≡ pos 0 → is_zero z ≡ true
zero_to z e = ap is_zero e

pub sum_decides : (rows : List Row) (voucher : List ℤ) (e : JudgeCause) → Decides (sum_passes rows voucher e) (sum_asks rows voucher e)
sum_decides rows voucher TooManyRows = leb_decides (length rows) sum_rows
sum_decides rows voucher BadVoucher = numbers_decide (pos 0) (length rows) voucher
sum_decides rows voucher BadShape = (λ _. tt, λ _. refl)
sum_decides rows voucher UnknownsLeft =
    Decides-like (each_coefficient is_zero rows voucher) (λ h u. zero_from (coefficient_of u rows voucher) (h u)) (λ h u. zero_to (coefficient_of u rows voucher) (h u)) (coefficients_decide is_zero refl rows voucher)
sum_decides rows voucher NoConflict = le_z_decides (constant_of rows voucher) (negsuc 0)

-- the code's test of the totals, where 0 divides 0 alone
pub totals_vanish : (rows : List Row) (voucher : List ℤ) → each_total (divides (pos 0)) (gathered [] rows voucher) ≡ each_coefficient is_zero rows voucher
totals_vanish rows voucher = (λ j. each_total (λ z. by_zero z j) (gathered [] rows voucher)) ∙ totals_are is_zero refl rows voucher

zeros_worth : (v : Valuation) (es : List Total) → each_total is_zero es ≡ true → worth v es ≡ pos 0
zeros_worth v [] h = refl
zeros_worth v (e ∷ es) h =
    let both = and_parts (is_zero e.total) (each_total is_zero es) h in
    let z = ap (λ x. x *ℤ v e.unknown) (zero_from e.total both.0) ∙ zero-*ℤ (v e.unknown) in
    let q = zeros_worth v es both.1 in
    omega (arith, ints)

row_not_below : (rel : Relation) (n z : ℤ) → Related rel z → pos 0 ≤ℤ n → pos 0 ≤ℤ (n *ℤ z)
row_not_below AtLeast n z h k = times_not_below n z k h
row_not_below Equal n z h k = let e = ap (λ x. n *ℤ x) h ∙ *ℤ-zero n in omega (arith, ints)

not_below : (v : Valuation) (rows : List Row) (ns : List ℤ) → AllHold v rows → AllByRecursion (Between (pos 0) (pos largest_number)) ns → pos 0 ≤ℤ (weighted v rows ns +ℤ constant_of rows ns)
not_below v [] ns h k = omega (arith, ints)
not_below v (r ∷ rs) [] h k = omega (arith, ints)
not_below v (r ∷ rs) (n ∷ ns) h k =
    let first = row_not_below r.relation n (value v r) h.0 k.0.0 in
    let d = times_add n (sum_of v (terms_of r)) r.constant in
    let rest = not_below v rs ns h.1 k.1 in
    omega (arith, ints)

-- admitted rows add up to a negative constant, and rows that hold to none
module _ (rows : List Row) (voucher : List ℤ) (h : T (is_ok (sum_answer rows voucher))) where
  holds : (e : JudgeCause) → sum_asks rows voucher e
  holds = asked (sum_asks rows voucher) (sum_passes rows voucher) (sum_decides rows voucher) h

  pub sum_bounded : length rows ≤ sum_rows
  sum_bounded = holds TooManyRows

  pub sum_sound : Impossible rows
  sum_sound v all =
      let up = not_below v rows voucher all (holds BadVoucher).1 in
      let none = weighted_is v rows voucher ∙ zeros_worth v (gathered [] rows voucher) ((totals_decide is_zero refl rows voucher).1 (λ u. zero_to (coefficient_of u rows voucher) (holds UnknownsLeft u))) in
      let below = holds NoConflict in
      omega (arith, ints)
