-- The law of a pair.
use Rattle.std.specs.Prelude.{zero, suc, Bool, true, false, ◌&&◌, T, List, [], ◌∷◌, length, ℤ, pos, negsuc, nat_le}
use Rattle.rows.specs.Meaning.{Impossible}
use Rattle.rows.specs.declared.row.Row.{Row}
use Rattle.judges.specs.Judging.{Meaning}
use Rattle.judges.specs.Pair.{pair_rows, picked, pair_admits}

and_right : (a b : Bool) → T (a && b) → T b
and_right true b h = h
and_right false b h = elim h [ ]

by_pick : {C : Type 0} (first second : List ℤ → Bool) (v : List ℤ) → ((rest : List ℤ) → T (first rest) → C) → ((rest : List ℤ) → T (second rest) → C) → T (picked first second false v) → C
by_pick first second [] f s h = elim h [ ]
by_pick first second (pos zero ∷ rest) f s h = f rest h
by_pick first second (pos (suc zero) ∷ rest) f s h = s rest h
by_pick first second (pos (suc (suc n)) ∷ rest) f s h = elim h [ ]
by_pick first second (negsuc n ∷ rest) f s h = elim h [ ]

abbrev Sound : Meaning → Type 0
Sound admits = (rows : List Row) (voucher : List ℤ) → T (admits rows voucher) → Impossible rows

pub pair_sound : (first second : Meaning) → Sound first → Sound second → Sound (pair_admits first second)
pair_sound first second f s rows v h =
    by_pick (first rows) (second rows) v (f rows) (s rows) (and_right (nat_le (length rows) pair_rows) _ h)
