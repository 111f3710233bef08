-- What a made book holds.
use Rattle.std.specs.Prelude.{◌≡◌, List, Ok, Err, vec_items, Result}
use Rattle.causes.specs.declared.cause.Cause.{Cause}
use Rattle.book.specs.Rules.{WellFormed, Refused}
use Rattle.book.specs.declared.parts.Class.{Class}
use Rattle.book.specs.declared.parts.Node.{Node}
use Rattle.book.specs.declared.made.Book.{Book}

abbrev pub classes_of : Book → List Class
classes_of b = vec_items b.classes

abbrev pub nodes_of : Book → List Node
nodes_of b = vec_items b.nodes

-- what making a book of these classes and nodes returns
abbrev pub Making : List Class → List Node → Result Book Cause → Type 0
Making classes nodes (Ok b) = (classes_of b ≡ classes) × (nodes_of b ≡ nodes) × WellFormed classes nodes
Making classes nodes (Err e) = Refused classes nodes e
