-- The judge Residue: its tests decide its conditions, and its law.
use Rattle.std.specs.Prelude.{◌≡◌, ◌≤◌, true, T, List, [], ◌∷◌, length, ℤ, pos, ◌+ℤ◌, ◌*ℤ◌, neg_ℤ, is_ok, Decides, refl}
use Rattle.std.proofs.Common.{sym, ap, subst, ◌∙◌, arith}
use Rattle.std.proofs.Math.IntN.{*ℤ-zero}
use Rattle.std.proofs.lemmas.Int.{ints}
use Rattle.std.proofs.lemmas.Bool.{and_parts}
use Rattle.std.proofs.lemmas.Bool.Decides.{Decides-like, Decides-and, Decides-not}
use Rattle.std.proofs.ByRecursion.{Decides-by_and}
use Rattle.std.specs.List.{AllByRecursion}
use Rattle.rows.specs.Meaning.{Valuation, sum_of, terms_of, value, Related, Holds, AllHold, Impossible}
use Rattle.rows.specs.declared.cause.JudgeCause.{JudgeCause}
use Rattle.rows.specs.declared.cause.JudgeCause.TheVariants.{TooManyRows, BadVoucher, BadShape, UnknownsLeft, NoConflict}
use Rattle.rows.specs.declared.row.Relation.{Relation}
use Rattle.rows.specs.declared.row.Relation.TheVariants.{AtLeast, Equal}
use Rattle.rows.specs.declared.row.Row.{Row}
use Rattle.judges.specs.declared.combine.Total.{Total}
use Rattle.judges.specs.Combination.{coefficient_of, constant_of, each_coefficient, largest_number}
use Rattle.judges.specs.Gather.{gathered, each_total}
use Rattle.judges.specs.Residue.{residue_rows, modulus_of, numbers_of, Divides, divides, is_equal, all_equal, residue_asks, residue_passes, residue_answer}
use Rattle.judges.specs.Answering.{asked}
use Rattle.judges.specs.Combined.{worth, weighted, weighted_is, coefficients_decide, totals_decide, totals_are}
use Rattle.judges.specs.Division.{divides_decides, divides_zero, divides_add, divides_times, divides_rest}
use Rattle.judges.specs.Numbers.{leb_decides, between_decides, numbers_decide}
use Rattle.judges.specs.Ring.{times_add}

equal_decides : (r : Relation) → Decides (is_equal r) (r ≡ Equal)
equal_decides AtLeast = (λ h. cc, λ h. cc)
equal_decides Equal = (λ h. refl, λ h. refl)

-- every modulus divides 0
zero_passes : (m : ℤ) → divides m (pos 0) ≡ true
zero_passes m = (divides_decides m (pos 0)).1 (divides_zero m)

pub residue_decides : (rows : List Row) (voucher : List ℤ) (e : JudgeCause) → Decides (residue_passes rows voucher e) (residue_asks rows voucher e)
residue_decides rows voucher TooManyRows = leb_decides (length rows) residue_rows
residue_decides rows voucher BadVoucher =
    Decides-and _ _ (between_decides (pos 2) (pos largest_number) (modulus_of voucher)) (numbers_decide (neg_ℤ (pos largest_number)) (length rows) (numbers_of voucher))
residue_decides rows voucher BadShape =
    Decides-by_and (λ row. is_equal row.relation) (λ row. row.relation ≡ Equal) all_equal (λ row. equal_decides row.relation) refl (λ _ _. refl) rows
residue_decides rows voucher UnknownsLeft =
    let m = modulus_of voucher in
    Decides-like (residue_passes rows voucher UnknownsLeft)
    (λ h u. (divides_decides m (coefficient_of u rows (numbers_of voucher))).0 (h u))
    (λ h u. (divides_decides m (coefficient_of u rows (numbers_of voucher))).1 (h u))
    (coefficients_decide (divides m) (zero_passes m) rows (numbers_of voucher))
residue_decides rows voucher NoConflict =
    Decides-not (divides (modulus_of voucher) (constant_of rows (numbers_of voucher))) (divides_decides (modulus_of voucher) (constant_of rows (numbers_of voucher)))

-- the code's test of the totals
pub totals_divided : (m : ℤ) (rows : List Row) (ns : List ℤ) → each_total (divides m) (gathered [] rows ns) ≡ each_coefficient (divides m) rows ns
totals_divided m = totals_are (divides m) (zero_passes m)

divided_worth : (m : ℤ) (v : Valuation) (es : List Total) → each_total (divides m) es ≡ true → Divides m (worth v es)
divided_worth m v [] h = divides_zero m
divided_worth m v (e ∷ es) h =
    let both = and_parts (divides m e.total) (each_total (divides m) es) h in
    divides_add m (e.total *ℤ v e.unknown) (worth v es) (divides_times m e.total (v e.unknown) ((divides_decides m e.total).0 both.0)) (divided_worth m v es both.1)

row_zero : (v : Valuation) (r : Row) → r.relation ≡ Equal → Holds v r → value v r ≡ pos 0
row_zero v r is h = subst (λ q. Related q (value v r)) is h

-- equations that hold add up to 0
adds_up : (v : Valuation) (rows : List Row) (ns : List ℤ) → AllByRecursion (λ row. row.relation ≡ Equal) rows → AllHold v rows → weighted v rows ns +ℤ constant_of rows ns ≡ pos 0
adds_up v [] ns k h = refl
adds_up v (r ∷ rs) [] k h = refl
adds_up v (r ∷ rs) (n ∷ ns) k h =
    let first = ap (λ x. n *ℤ x) (row_zero v r k.0 h.0) ∙ *ℤ-zero n in
    let d = times_add n (sum_of v (terms_of r)) r.constant in
    let rest = adds_up v rs ns k.1 h.1 in
    omega (arith, ints)

module _ (rows : List Row) (voucher : List ℤ) (h : T (is_ok (residue_answer rows voucher))) where
  holds : (e : JudgeCause) → residue_asks rows voucher e
  holds = asked (residue_asks rows voucher) (residue_passes rows voucher) (residue_decides rows voucher) h

  pub residue_bounded : length rows ≤ residue_rows
  residue_bounded = holds TooManyRows

  pub residue_sound : Impossible rows
  residue_sound v all =
      let m = modulus_of voucher in
      let ns = numbers_of voucher in
      let totals = (totals_decide (divides m) (zero_passes m) rows ns).1 (λ u. (divides_decides m (coefficient_of u rows ns)).1 (holds UnknownsLeft u)) in
      let divided : Divides m (weighted v rows ns) = subst (Divides m) (sym (weighted_is v rows ns)) (divided_worth m v (gathered [] rows ns) totals) in
      holds NoConflict (divides_rest m (weighted v rows ns) (constant_of rows ns) (adds_up v rows ns (holds BadShape) all) divided)
