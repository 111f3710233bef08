-- The limits of a book.
use Rattle.std.specs.Prelude.{ℕ}

abbrev pub most_classes : ℕ
most_classes = 32

abbrev pub most_attributes : ℕ
most_attributes = 8

abbrev pub most_nodes : ℕ
most_nodes = 4096

abbrev pub most_terms : ℕ
most_terms = 8

-- the slots of a scope
abbrev pub slot_count : ℕ
slot_count = 6

abbrev pub largest_coefficient : ℕ
largest_coefficient = 32767

abbrev pub largest_constant : ℕ
largest_constant = 2147483647
