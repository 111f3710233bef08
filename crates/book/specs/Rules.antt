-- The rules of a book: when its classes, nodes and premises are well formed.
use Rattle.std.specs.Prelude.{◌≡◌, ℕ, ◌-◌, Bool, true, false, cond, not, ◌&&◌, ◌||◌, ◌⊎◌, List, [], ◌∷◌, map, length, get_or, take, pos, ◌==◌, nat_eq, nat_le, nat_lt, slice_index, slice_index_or, slice_set, unsigned_abs}
use Rattle.std.specs.Cmp.Lexicographic.{pointwise}
use Rattle.std.specs.List.{list_all, list_any, position_or_len}
use Rattle.causes.specs.declared.cause.Cause.{Cause}
use Rattle.causes.specs.declared.cause.Cause.TheVariants.{BadBook}
use Rattle.book.specs.Limits.{most_classes, most_attributes, most_nodes, most_terms, slot_count, largest_coefficient, largest_constant}
use Rattle.book.specs.Lowest.{HoldsTo, Lowest}
use Rattle.book.specs.declared.parts.Class.{Class}
use Rattle.book.specs.declared.parts.Term.{Term}
use Rattle.book.specs.declared.parts.Atom.{Atom}
use Rattle.book.specs.declared.parts.Formula.{Formula}
use Rattle.book.specs.declared.parts.Formula.TheVariants.{AtLeast, Equal, And, Or, Exists, Every}
use Rattle.book.specs.declared.parts.Node.{Node}

abbrev pub from_to_lem : ℕ → ℕ → ℕ → Bool
from_to_lem low high n = nat_le low n && nat_le n high

-- Classes are numbered from 1.
abbrev pub is_class : List Class → ℕ → Bool
is_class classes c = from_to_lem 1 (length classes) c

abbrev pub no_class : Class
no_class = record { attributes = 0 }

-- the count of attributes of class c, 0 where there is no such class
abbrev pub attributes_of : List Class → ℕ → ℕ
attributes_of classes c = cond (is_class classes c) (get_or classes (c - 1) no_class).attributes 0

-- each class has from 1 to 8 attributes
abbrev pub class_ok : Class → Bool
class_ok c = from_to_lem 1 most_attributes c.attributes

abbrev pub classes_ok : List Class → Bool
classes_ok classes = list_all class_ok classes

-- A scope's depth is its count of used slots: those before the first 0.
unfoldable pub depth_of : List ℕ → ℕ
depth_of scope = position_or_len (λ c. c == 0) scope

abbrev pub is_empty : List ℕ → Bool
is_empty scope = list_all (λ c. c == 0) scope

-- used slots first, with a class in each, and 0 in the rest
abbrev pub slots_ok : List Class → List ℕ → Bool
slots_ok classes [] = true
slots_ok classes (c ∷ cs) = cond (c == 0) (is_empty cs) (is_class classes c && slots_ok classes cs)

-- a scope has six slots
abbrev pub scope_ok : List Class → List ℕ → Bool
scope_ok classes scope = length scope == slot_count && slots_ok classes scope

abbrev pub same_scope_lem : List ℕ → List ℕ → Bool
same_scope_lem xs ys = pointwise nat_eq xs ys

-- a coefficient within its limit, a used slot, an attribute of that slot's class
abbrev pub term_ok : List Class → List ℕ → Term → Bool
term_ok classes scope t =
    nat_le (unsigned_abs t.coefficient) largest_coefficient && (nat_lt t.slot (depth_of scope) && nat_lt t.attribute (attributes_of classes (slice_index scope t.slot)))

abbrev pub terms_ok : List Class → List ℕ → List Term → Bool
terms_ok classes scope ts = list_all (term_ok classes scope) ts

-- An atom's terms are the first `count` of its places.
abbrev pub terms_of : Atom → List Term
terms_of a = take a.count a.terms

abbrev pub no_term : Term
no_term = record { coefficient = pos 0; slot = 0; attribute = 0 }

-- the eight places of an atom that is made of these terms
abbrev pub places_of : List Term → List Term
places_of ts = map (λ i. get_or ts i no_term) (0 ∷ 1 ∷ 2 ∷ 3 ∷ 4 ∷ 5 ∷ 6 ∷ 7 ∷ [])

unfoldable pub atom_ok : List Class → List ℕ → Atom → Bool
atom_ok classes scope a = nat_le a.count most_terms && (terms_ok classes scope (terms_of a) && nat_le (unsigned_abs a.constant) largest_constant)

-- what stands at a number that no node has
abbrev pub no_node : Node
no_node = record { scope = []; premise = false; formula = AtLeast (record { terms = []; count = 0; constant = pos 0 }) }

-- Nodes are numbered from 1.
abbrev pub node_at : List Node → ℕ → Node
node_at nodes n = slice_index_or nodes (n - 1) no_node

-- node n may name node k, which has this scope
abbrev pub child_ok : List Node → ℕ → List ℕ → ℕ → Bool
child_ok nodes n scope k = nat_le 1 k && (nat_lt k n && same_scope_lem (node_at nodes k).scope scope)

-- the scope of a quantifier's body adds the class in the first unused slot
abbrev pub widened : List ℕ → ℕ → List ℕ
widened scope class = slice_set scope (depth_of scope) class

unfoldable pub body_ok : List Class → List Node → ℕ → List ℕ → ℕ → ℕ → Bool
body_ok classes nodes n scope class body = nat_lt (depth_of scope) slot_count && (is_class classes class && child_ok nodes n (widened scope class) body)

-- what node n of this scope may say
abbrev pub formula_ok : List Class → List Node → ℕ → List ℕ → Formula → Bool
formula_ok classes nodes n scope (AtLeast a) = atom_ok classes scope a
formula_ok classes nodes n scope (Equal a) = atom_ok classes scope a
formula_ok classes nodes n scope (And left right) = child_ok nodes n scope left && child_ok nodes n scope right
formula_ok classes nodes n scope (Or left right) = child_ok nodes n scope left && child_ok nodes n scope right
formula_ok classes nodes n scope (Exists class body) = body_ok classes nodes n scope class body
formula_ok classes nodes n scope (Every class body) = body_ok classes nodes n scope class body

unfoldable pub node_ok : List Class → List Node → ℕ → Bool
node_ok classes nodes n = scope_ok classes (node_at nodes n).scope && formula_ok classes nodes n (node_at nodes n).scope (node_at nodes n).formula

abbrev pub some_premise : List Node → Bool
some_premise nodes = list_any (λ x. x.premise) nodes

-- each premise has an empty scope
abbrev pub premise_ok : Node → Bool
premise_ok x = not x.premise || is_empty x.scope

abbrev pub premises_ok : List Node → Bool
premises_ok nodes = list_all premise_ok nodes

-- the counts of classes, attributes and nodes, and the premise marks
abbrev pub counts_ok : List Class → List Node → Bool
counts_ok classes nodes = from_to_lem 1 most_classes (length classes) && from_to_lem 1 most_nodes (length nodes)

abbrev pub marks_ok : List Node → Bool
marks_ok nodes = some_premise nodes && premises_ok nodes

unfoldable pub heads_ok : List Class → List Node → Bool
heads_ok classes nodes = counts_ok classes nodes && (classes_ok classes && marks_ok nodes)

-- ALL RULES OF A BOOK
abbrev pub WellFormed : List Class → List Node → Type 0
WellFormed classes nodes = (heads_ok classes nodes ≡ true) × HoldsTo (length nodes) (node_ok classes nodes)

-- what is wrong, as the detail of the refusal: 0 for a count or a premise mark, else the lowest bad node
abbrev pub Fault : List Class → List Node → ℕ → Type 0
Fault classes nodes d = ((heads_ok classes nodes ≡ false) × (d ≡ 0)) ⊎ ((heads_ok classes nodes ≡ true) × Lowest (length nodes) (node_ok classes nodes) d)

abbrev pub Refused : List Class → List Node → Cause → Type 0
Refused classes nodes e = (d : ℕ) × (e ≡ BadBook d) × Fault classes nodes d
