-- A pair of judges: the voucher's first number picks one, which gets the rest.
use Rattle.std.specs.Prelude.{◌≡◌, ℕ, zero, suc, false, cond, ◌&&◌, List, [], ◌∷◌, length, ℤ, pos, negsuc, Err, nat_le}
use Rattle.rows.specs.declared.cause.JudgeCause.{JudgeCause}
use Rattle.rows.specs.declared.cause.JudgeCause.TheVariants.{TooManyRows, BadVoucher}
use Rattle.rows.specs.declared.row.Row.{Row}
use Rattle.judges.specs.Judging.{Answer, Meaning, Limited}

abbrev pub pair_rows : ℕ
pair_rows = 64

-- what is said of the rest for the first or second judge, or where neither is picked
abbrev pub picked {ℓ} : {X : Type ℓ} → (List ℤ → X) → (List ℤ → X) → X → List ℤ → X
picked first second none [] = none
picked first second none (pos zero ∷ rest) = first rest
picked first second none (pos (suc zero) ∷ rest) = second rest
picked first second none (pos (suc (suc n)) ∷ rest) = none
picked first second none (negsuc n ∷ rest) = none

abbrev pub pair_admits : Meaning → Meaning → Meaning
pair_admits first second rows voucher = nat_le (length rows) pair_rows && picked (first rows) (second rows) false voucher

-- a picked judge's cause stands, whichever it is
abbrev pub pair_gives : (List Row → List ℤ → JudgeCause → Type 0) → (List Row → List ℤ → JudgeCause → Type 0) → List Row → List ℤ → JudgeCause → Type 0
pair_gives first second rows voucher =
    Limited pair_rows (length rows) (λ e. picked (λ rest. first rows rest e) (λ rest. second rows rest e) (e ≡ BadVoucher) voucher)

-- the whole answer, where those of both judges are fixed
abbrev pub pair_answer : (List Row → List ℤ → Answer) → (List Row → List ℤ → Answer) → List Row → List ℤ → Answer
pair_answer first second rows voucher =
    cond (nat_le (length rows) pair_rows) (picked (first rows) (second rows) (Err BadVoucher) voucher) (Err TooManyRows)
