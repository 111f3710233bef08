use Rattle.std.proofs.Common.{ℕ, length, Ok, Err, inl, ⊎_elim}
use Rattle.rows.specs.declared.cause.JudgeCause.{JudgeCause}
use Rattle.judges.specs.Judging.{Answer, Caused, Limited}
use Rattle.judges.proofs.Nesting.{nested_fixed}
use Rattle.cases.specs.Judges.{example_judge}
use Rattle.cases.proofs.judging.example_referee.Goals as goal

-- a limit that is tested twice
once : (most count : ℕ) (gives : JudgeCause → Type 0) (r : Answer) → Caused (Limited most count (Limited most count gives)) r → Caused (Limited most count gives) r
once most count gives (Ok x) h = tt
once most count gives (Err e) h = ⊎_elim inl (λ k. k.1) h

pub returns : goal.returns
returns c =
    let rows = c.args.rows.now in
    let voucher = c.args.voucher.now in
    nested_fixed example_judge rows voucher c.referee.result c.referee.ensures.yes (once 64 (length rows) _ c.referee.result c.referee.ensures.cause)
