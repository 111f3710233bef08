use Rattle.std.proofs.Common.{◌≡◌, ◌+◌, ◌*◌, ◌^◌, ◌≤◌, take}
use Rattle.arrayvec.specs.ArrayVec.{array_vec_len}
use Rattle.judges.specs.Gather.{peak, put_terms}
use Rattle.judges.proofs.combine.add_terms.Given as goal

abbrev pub invariant-loop-term : goal.invariant-loop-term
invariant-loop-term l =
    (l.totals.items ≡ put_terms l.initial.totals.items l.number (take l.term-index l.term-items))
    × (array_vec_len l.totals ≤ array_vec_len l.initial.totals + l.term-index)
    × (peak l.totals.items ≤ peak l.initial.totals.items + l.term-index * 2 ^ 51)
