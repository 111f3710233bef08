-- Worlds: finite lists of elements, whose numbers have no bound.
use Rattle.std.specs.Prelude.{ℕ, ◌-◌, Bool, ◌&&◌, List, [], map, length, ℤ, ◌==◌, nat_le, slice_index_or, unsigned_abs}
use Rattle.std.specs.List.{list_all}
use Rattle.book.specs.Rules.{is_class, attributes_of}
use Rattle.book.specs.declared.parts.Class.{Class}
use Rattle.world.specs.declared.parts.Element.{Element as Given}

-- an element has a class and one whole number for each attribute
pub record Element : Type 0 where
  pub class : ℕ
  pub values : List ℤ

abbrev pub World : Type 0
World = List Element

-- the world that a program's list of elements stands for
abbrev pub element_of : Given → Element
element_of e = record { class = e.class; values = e.values.now }

abbrev pub world_of : List Given → World
world_of es = map element_of es

abbrev pub no_element : Element
no_element = record { class = 0; values = [] }

-- Elements are numbered from 1.
abbrev pub element_at : World → ℕ → Element
element_at w k = slice_index_or w (k - 1) no_element

-- the most elements of a world test
abbrev pub most_elements : ℕ
most_elements = 256

-- THE RANGE OF VALUES in a world test: from minus this number to this number
abbrev pub largest_value : ℕ
largest_value = 2147483647

abbrev pub values_ok : List ℤ → Bool
values_ok vs = list_all (λ v. nat_le (unsigned_abs v) largest_value) vs

-- a known class, as many values as it has attributes, each in range
unfoldable pub element_ok : List Class → Element → Bool
element_ok classes e = is_class classes e.class && (length e.values == attributes_of classes e.class && values_ok e.values)
