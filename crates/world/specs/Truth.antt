-- What a node says in a world, and how many elements are visited to tell.
use Rattle.std.specs.Prelude.{ℕ, zero, suc, ◌+◌, Bool, true, false, cond, not, List, [], ◌∷◌, ℤ, pos, negsuc, ◌+ℤ◌, ◌*ℤ◌, ◌==◌, int_le, slice_index_or, slice_set}
use Rattle.book.specs.Rules.{depth_of, node_at, terms_of}
use Rattle.book.specs.declared.parts.Term.{Term}
use Rattle.book.specs.declared.parts.Atom.{Atom}
use Rattle.book.specs.declared.parts.Formula.{Formula}
use Rattle.book.specs.declared.parts.Formula.TheVariants.{AtLeast, Equal, And, Or, Exists, Every}
use Rattle.book.specs.declared.parts.Node.{Node}
use Rattle.world.specs.Worlds.{World}
use Rattle.world.specs.declared.parts.Evaluation.{Evaluation}

-- each slot's numbers
abbrev pub Env : Type 0
Env = List (List ℤ)

-- no element in any slot
abbrev pub nothing : Env
nothing = [] ∷ [] ∷ [] ∷ [] ∷ [] ∷ [] ∷ []

-- the attribute of the element in a slot
abbrev pub reading : Env → ℕ → ℕ → ℤ
reading env slot attribute = slice_index_or (slice_index_or env slot []) attribute (pos 0)

abbrev pub product : Env → Term → ℤ
product env t = t.coefficient *ℤ reading env t.slot t.attribute

abbrev pub sum : Env → List Term → ℤ
sum env [] = pos 0
sum env (t ∷ ts) = product env t +ℤ sum env ts

-- the sum of coefficient × attribute, plus the constant
unfoldable pub worth : Env → Atom → ℤ
worth env a = sum env (terms_of a) +ℤ a.constant

abbrev pub is_zero : ℤ → Bool
is_zero (pos n) = n == 0
is_zero (negsuc n) = false

-- the first, and the second only where the first's truth is `go_on`
abbrev pub chained : Bool → Evaluation → Evaluation → Evaluation
chained true a b = cond a.truth (record { truth = b.truth; visits = a.visits + b.visits }) a
chained false a b = cond a.truth a (record { truth = b.truth; visits = a.visits + b.visits })

-- an element that is tried is a visit
abbrev pub visited : Evaluation → Evaluation
visited o = record { truth = o.truth; visits = 1 + o.visits }

-- the elements of a class in list order, until the body's truth is `want`
abbrev pub tried : Bool → ℕ → (List ℤ → Evaluation) → World → Evaluation
tried want class body [] = record { truth = not want; visits = 0 }
tried want class body (e ∷ es) = cond (e.class == class) (chained (not want) (visited (body e.values)) (tried want class body es)) (tried want class body es)

-- what a formula at depth d says, given what the nodes before it say
abbrev pub said : (ℕ → Env → Evaluation) → World → ℕ → Env → Formula → Evaluation
said below world d env (AtLeast a) = record { truth = int_le (pos 0) (worth env a); visits = 0 }
said below world d env (Equal a) = record { truth = is_zero (worth env a); visits = 0 }
said below world d env (And left right) = chained true (below left env) (below right env)
said below world d env (Or left right) = chained false (below left env) (below right env)
said below world d env (Exists class body) = tried true class (λ vs. below body (slice_set env d vs)) world
said below world d env (Every class body) = tried false class (λ vs. below body (slice_set env d vs)) world

-- k bounds how far down the nodes reach: a node's own number is enough, since what it names has a lower one
abbrev pub means : List Node → World → ℕ → ℕ → Env → Evaluation
means nodes world zero n env = record { truth = false; visits = 0 }
means nodes world (suc k) n env = said (means nodes world k) world (depth_of (node_at nodes n).scope) env (node_at nodes n).formula

-- TRUTH AND VISIT COUNT of node n in a world, with these numbers in its slots
unfoldable pub evaluated : List Node → World → ℕ → Env → Evaluation
evaluated nodes world n env = means nodes world n n env
