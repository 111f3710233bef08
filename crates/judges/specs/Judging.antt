-- What a judge answers, and what its answer is worth.
use Rattle.std.specs.Prelude.{◌≡◌, ℕ, ◌<◌, ◌≤◌, Bool, true, false, T, ◌⊎◌, List, length, ℤ, Ok, Err, Result}
use Rattle.rows.specs.Causes.{judge_cause_number}
use Rattle.rows.specs.Meaning.{Impossible}
use Rattle.rows.specs.declared.cause.JudgeCause.{JudgeCause}
use Rattle.rows.specs.declared.cause.JudgeCause.TheVariants.{TooManyRows, BadVoucher, BadShape, UnknownsLeft, NoConflict}
use Rattle.rows.specs.declared.row.Row.{Row}

abbrev pub Answer : Type 0
Answer = Result (Unit {0}) JudgeCause

-- A judge's meaning: which rows it admits with which voucher.
abbrev pub Meaning : Type 0
Meaning = List Row → List ℤ → Bool

-- A judge's law: it admits no more rows than its limit, and only rows that no whole numbers satisfy.
abbrev pub Lawful : ℕ → Meaning → Type 0
Lawful most admits = (rows : List Row) (voucher : List ℤ) → T (admits rows voucher) → (length rows ≤ most) × Impossible rows

-- a no has such a cause
abbrev pub Caused : (JudgeCause → Type 0) → Answer → Type 0
Caused gives (Ok _) = Unit {0}
Caused gives (Err e) = gives e

-- the causes of a call that tests the row limit before it asks the judge
abbrev pub Limited : ℕ → ℕ → (JudgeCause → Type 0) → JudgeCause → Type 0
Limited most count gives e = ((most < count) × (e ≡ TooManyRows)) ⊎ ((count ≤ most) × gives e)

-- A named judge sets one condition for each cause. It says yes where all of them hold,
-- and else gives the first cause, by number, whose condition does not hold.
abbrev pub Judged : (JudgeCause → Type 0) → Answer → Type 0
Judged asks (Ok _) = (e : JudgeCause) → asks e
Judged asks (Err e) = ((f : JudgeCause) → judge_cause_number f < judge_cause_number e → asks f) × (asks e → ⊥)

-- the same by tests of the conditions
abbrev pub tried : Bool → JudgeCause → Answer → Answer
tried true e next = next
tried false e next = Err e

abbrev pub answer_of : (JudgeCause → Bool) → Answer
answer_of passes =
    tried (passes TooManyRows) TooManyRows (tried (passes BadVoucher) BadVoucher (tried (passes BadShape) BadShape (tried (passes UnknownsLeft) UnknownsLeft (tried (passes NoConflict) NoConflict (Ok tt)))))
