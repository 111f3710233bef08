-- What the judge Clash admits: two equations of one term, the same in both, with different constants.
use Rattle.std.specs.Prelude.{Bool, not, ◌&&◌, List, length, ℤ, ◌==◌, slice_index_or}
use Rattle.rows.specs.Making.{no_term}
use Rattle.rows.specs.Meaning.{terms_of}
use Rattle.rows.specs.declared.row.Term.{Term}
use Rattle.rows.specs.declared.row.Row.{Row}
use Rattle.judges.specs.Unknowns.{same_unknown, same_number, no_row}
use Rattle.judges.specs.Residue.{is_equal}

abbrev pub same_term : Term → Term → Bool
same_term s t = same_number s.coefficient t.coefficient && same_unknown s.unknown t.unknown

abbrev pub opposed : Row → Row → Bool
opposed a b =
    is_equal a.relation && (is_equal b.relation && (length (terms_of a) == 1 && (length (terms_of b) == 1
    && (same_term (slice_index_or (terms_of a) 0 no_term) (slice_index_or (terms_of b) 0 no_term) && not (same_number a.constant b.constant)))))

abbrev pub clash_admits : List Row → List ℤ → Bool
clash_admits rows voucher = length rows == 2 && (length voucher == 0 && opposed (slice_index_or rows 0 no_row) (slice_index_or rows 1 no_row))
