-- The row that is made of a list of terms.
use Rattle.std.specs.Prelude.{cond, List, [], ◌∷◌, map, length, ℤ, pos, Some, None, Option, nat_lt, slice_index_or}
use Rattle.rows.specs.Meaning.{most_terms}
use Rattle.rows.specs.declared.row.Term.{Term}
use Rattle.rows.specs.declared.row.Relation.{Relation}
use Rattle.rows.specs.declared.row.Row.{Row}

-- what fills the places that no term takes
abbrev pub no_term : Term
no_term = record { coefficient = pos 0; unknown = record { object = 0; attribute = 0 } }

-- the eight places of a row that is made of these terms
abbrev pub places_of : List Term → List Term
places_of ts = map (λ i. slice_index_or ts i no_term) (0 ∷ 1 ∷ 2 ∷ 3 ∷ 4 ∷ 5 ∷ 6 ∷ 7 ∷ [])

abbrev pub row_of : Relation → List Term → ℤ → Row
row_of relation ts constant = record { relation = relation; terms = places_of ts; count = length ts; constant = constant }

-- none where there are more terms than places
abbrev pub made_row : Relation → List Term → ℤ → Option Row
made_row relation ts constant = cond (nat_lt most_terms (length ts)) None (Some (row_of relation ts constant))
