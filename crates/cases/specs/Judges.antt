-- The example judge, and the rows of its worked cases.
use Rattle.std.specs.Prelude.{ℕ, List, [], ◌∷◌, ℤ, pos, negsuc}
use Rattle.rows.specs.Making.{row_of}
use Rattle.rows.specs.declared.row.Relation.TheVariants.{AtLeast, Equal}
use Rattle.rows.specs.declared.row.Term.{Term}
use Rattle.rows.specs.declared.row.Unknown.{Unknown}
use Rattle.rows.specs.declared.row.Row.{Row}
use Rattle.judges.specs.Judging.{Answer}
use Rattle.judges.specs.Nested.{Named, named_answer}

-- the pair of the sum and the pair of the chain and the residue
abbrev pub example_judge : Named
example_judge = Named.pair Named.sum (Named.pair Named.chain Named.residue)

abbrev pub example_answer : List Row → List ℤ → Answer
example_answer = named_answer example_judge

-- the times of two object lines
abbrev pub time_of : ℕ → Unknown
time_of line = record { object = line; attribute = 0 }

abbrev pub scaled : ℤ → Unknown → Term
scaled c u = record { coefficient = c; unknown = u }

-- u less w, plus c, is at least 0
abbrev pub difference : Unknown → Unknown → ℤ → Row
difference u w c = row_of AtLeast (scaled (pos 1) u ∷ scaled (negsuc 0) w ∷ []) c

-- an opening that comes no earlier than its grant, and yet before it
abbrev pub opposed_rows : List Row
opposed_rows = difference (time_of 3) (time_of 11) (pos 0) ∷ row_of AtLeast (scaled (negsuc 0) (time_of 3) ∷ scaled (pos 1) (time_of 11) ∷ []) (negsuc 0) ∷ []

-- twice u, plus c, is 0
abbrev pub doubled : ℤ → List Row
doubled c = row_of Equal (scaled (pos 2) (time_of 3) ∷ []) c ∷ []

abbrev pub own_ring : ℤ → List Row
own_ring c = difference (time_of 3) (time_of 3) c ∷ []
