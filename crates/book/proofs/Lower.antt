-- What a node may say depends on the nodes before it alone.
use Rattle.std.proofs.Common.{◌≡◌, ℕ, ◌+◌, ◌-◌, ◌<◌, ◌&&◌, List, length, take, get_or, sym, refl, ap, arith}
use Rattle.std.proofs.lemmas.List.{get_or-take, length-take-le}
use Rattle.std.proofs.lemmas.Bool.Decides.{nat_tests}
use Rattle.book.specs.Rules.{scope_ok, child_ok, body_ok, formula_ok, node_ok, no_node}
use Rattle.book.specs.declared.parts.Class.{Class}
use Rattle.book.specs.declared.parts.Node.{Node}
use Rattle.book.specs.declared.parts.Formula.{Formula}
use Rattle.book.specs.declared.parts.Formula.TheVariants.{AtLeast, Equal, And, Or, Exists, Every}

module _ (classes : List Class) (nodes : List Node) (i : ℕ) (l : i < length nodes) where
  child_lower : (scope : List ℕ) (k : ℕ) → child_ok (take i nodes) (i + 1) scope k ≡ child_ok nodes (i + 1) scope k
  child_lower scope k = grind (arith, nat_tests, get_or-take i nodes (k - 1) no_node)

  body_lower : (scope : List ℕ) (class body : ℕ) → body_ok classes (take i nodes) (i + 1) scope class body ≡ body_ok classes nodes (i + 1) scope class body
  unfolding body_ok
  body_lower scope class body = simp child_lower

  formula_at : (scope : List ℕ) (f : Formula) → formula_ok classes (take i nodes) (i + 1) scope f ≡ formula_ok classes nodes (i + 1) scope f
  formula_at scope (AtLeast a) = refl
  formula_at scope (Equal a) = refl
  formula_at scope (And left right) = simp child_lower
  formula_at scope (Or left right) = simp child_lower
  formula_at scope (Exists class body) = body_lower scope class body
  formula_at scope (Every class body) = body_lower scope class body

  formula_lower : (scope : List ℕ) (f : Formula) → formula_ok classes (take i nodes) (length (take i nodes) + 1) scope f ≡ formula_ok classes nodes (i + 1) scope f
  formula_lower scope f = rw (length-take-le i nodes (omega arith)) (formula_at scope f)

  pub node_lower : node_ok classes nodes (i + 1) ≡ (scope_ok classes (get_or nodes i no_node).scope && formula_ok classes (take i nodes) (length (take i nodes) + 1) (get_or nodes i no_node).scope (get_or nodes i no_node).formula)
  unfolding node_ok
  node_lower = let e : i + 1 - 1 ≡ i = omega arith in rw e (ap (λ b. scope_ok classes (get_or nodes i no_node).scope && b) (sym (formula_lower (get_or nodes i no_node).scope (get_or nodes i no_node).formula)))
