-- The named judges, and pairs of them, however nested.
use Rattle.std.specs.Prelude.{◌≡◌, List, ℤ, is_ok, Err}
use Rattle.rows.specs.declared.cause.JudgeCause.{JudgeCause}
use Rattle.rows.specs.declared.row.Row.{Row}
use Rattle.judges.specs.Judging.{Answer, Meaning, Caused}
use Rattle.judges.specs.Sum.{sum_answer}
use Rattle.judges.specs.Chain.{chain_answer}
use Rattle.judges.specs.Residue.{residue_answer}
use Rattle.judges.specs.Pair.{pair_admits, pair_gives, pair_answer}

pub data Named : Type 0 where
  sum : Named
  chain : Named
  residue : Named
  pair : Named → Named → Named

-- what each means and gives, as its impl of the trait says
abbrev pub named_admits : Named → Meaning
named_admits sum rows voucher = is_ok (sum_answer rows voucher)
named_admits chain rows voucher = is_ok (chain_answer rows voucher)
named_admits residue rows voucher = is_ok (residue_answer rows voucher)
named_admits (pair a b) rows voucher = pair_admits (named_admits a) (named_admits b) rows voucher

abbrev pub named_gives : Named → List Row → List ℤ → JudgeCause → Type 0
named_gives sum rows voucher e = sum_answer rows voucher ≡ Err e
named_gives chain rows voucher e = chain_answer rows voucher ≡ Err e
named_gives residue rows voucher e = residue_answer rows voucher ≡ Err e
named_gives (pair a b) rows voucher e = pair_gives (named_gives a) (named_gives b) rows voucher e

-- the one answer
abbrev pub named_answer : Named → List Row → List ℤ → Answer
named_answer sum = sum_answer
named_answer chain = chain_answer
named_answer residue = residue_answer
named_answer (pair a b) = pair_answer (named_answer a) (named_answer b)

-- WHATEVER THE NESTING, what such a judge may answer by its meaning and its causes is one answer, the cause included.
abbrev pub NestedFixed : Type 0
NestedFixed =
    (j : Named) (rows : List Row) (voucher : List ℤ) (r : Answer) → is_ok r ≡ named_admits j rows voucher → Caused (named_gives j rows voucher) r → r ≡ named_answer j rows voucher
