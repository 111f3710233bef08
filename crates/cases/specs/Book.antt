-- The example book: an opening of a door wants a grant at its time or before, and yet some opening has none.
use Rattle.std.specs.Prelude.{ℕ, true, false, List, [], ◌∷◌, take, ℤ, pos, negsuc}
use Rattle.book.specs.Rules.{places_of}
use Rattle.book.specs.declared.parts.Atom.{Atom}
use Rattle.book.specs.declared.parts.Class.{Class}
use Rattle.book.specs.declared.parts.Formula.{Formula}
use Rattle.book.specs.declared.parts.Formula.TheVariants.{AtLeast, Exists, Every}
use Rattle.book.specs.declared.parts.Node.{Node}

abbrev pub opening : ℕ
opening = 1

abbrev pub grant : ℕ
grant = 2

-- each has one attribute, its time
abbrev pub example_classes_lem : List Class
example_classes_lem = record { attributes = 1 } ∷ record { attributes = 1 } ∷ []

-- x times the time in slot 0, plus y times that in slot 1, plus k
abbrev pub times : ℤ → ℤ → ℤ → Atom
times x y k = record { terms = places_of (record { coefficient = x; slot = 0; attribute = 0 } ∷ record { coefficient = y; slot = 1; attribute = 0 } ∷ []); count = 2; constant = k }

-- the scope that has these classes in its first two slots
abbrev pub in_slots_lem : ℕ → ℕ → List ℕ
in_slots_lem a b = a ∷ b ∷ 0 ∷ 0 ∷ 0 ∷ 0 ∷ []

abbrev pub example_nodes_lem : List Node
example_nodes_lem =
    record { scope = in_slots_lem opening grant; premise = false; formula = AtLeast (times (pos 1) (negsuc 0) (pos 0)) } ∷
    record { scope = in_slots_lem opening 0; premise = false; formula = Exists grant 1 } ∷
    record { scope = in_slots_lem 0 0; premise = true; formula = Every opening 2 } ∷
    record { scope = in_slots_lem opening grant; premise = false; formula = AtLeast (times (negsuc 0) (pos 1) (negsuc 0)) } ∷
    record { scope = in_slots_lem opening 0; premise = false; formula = Every grant 4 } ∷
    record { scope = in_slots_lem 0 0; premise = true; formula = Exists opening 5 } ∷ []

-- the rule alone, without the forbidden event
abbrev pub rule_nodes : List Node
rule_nodes = take 3 example_nodes_lem

abbrev pub one_class : List Class
one_class = record { attributes = 1 } ∷ []

-- an atom that is always true
abbrev pub always : Formula
always = AtLeast (record { terms = places_of []; count = 0; constant = pos 0 })

-- an "exists" of this scope, over a body that uses all six slots
abbrev pub nested_nodes_lem : List ℕ → List Node
nested_nodes_lem scope =
    record { scope = 1 ∷ 1 ∷ 1 ∷ 1 ∷ 1 ∷ 1 ∷ []; premise = false; formula = always } ∷
    record { scope = scope; premise = false; formula = Exists 1 1 } ∷
    record { scope = in_slots_lem 0 0; premise = true; formula = always } ∷ []
