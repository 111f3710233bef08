-- Tests of unknowns and whole numbers, and what a read past the end gives.
use Rattle.std.specs.Prelude.{Bool, ◌&&◌, [], ℤ, pos, ◌==◌, int_le}
use Rattle.rows.specs.declared.row.Unknown.{Unknown}
use Rattle.rows.specs.declared.row.Relation.TheVariants.{AtLeast}
use Rattle.rows.specs.declared.row.Row.{Row}

abbrev pub same_unknown : Unknown → Unknown → Bool
same_unknown x y = x.object == y.object && x.attribute == y.attribute

-- two whole numbers are the same
abbrev pub same_number : ℤ → ℤ → Bool
same_number x y = int_le x y && int_le y x

abbrev pub no_unknown : Unknown
no_unknown = record { object = 0; attribute = 0 }

abbrev pub no_row : Row
no_row = record { relation = AtLeast; terms = []; count = 0; constant = pos 0 }
