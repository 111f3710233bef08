-- Laws of truth and of the world test, in the words of the subject.
use Rattle.std.specs.Prelude.{◌≡◌, ℕ, ◌<◌, ◌≤◌, true, ◌⊎◌, List, [], ◌∷◌, length, pos, ◌≤ℤ◌, Ok, slice_set}
use Rattle.book.specs.Rules.{depth_of, node_at}
use Rattle.book.specs.declared.parts.Atom.{Atom}
use Rattle.book.specs.declared.parts.Class.{Class}
use Rattle.book.specs.declared.parts.Formula.{Formula}
use Rattle.book.specs.declared.parts.Formula.TheVariants.{AtLeast, Equal, And, Or, Exists, Every}
use Rattle.book.specs.declared.parts.Node.{Node}
use Rattle.world.specs.Worlds.{World, Element}
use Rattle.world.specs.Truth.{Env, nothing, worth, evaluated}
use Rattle.world.specs.Test.{tested, Answered}
use Rattle.world.specs.declared.parts.Answer.{Answer}
use Rattle.world.specs.declared.parts.Verdict.TheVariants.{Yes, No}

infix 1 ◌⇔◌
abbrev pub ◌⇔◌ : Type 0 → Type 0 → Type 0
P ⇔ Q = (P → Q) × (Q → P)

abbrev pub In : {X : Type 0} → X → List X → Type 0
In x [] = ⊥
In x (y ∷ ys) = (y ≡ x) ⊎ In x ys

-- node n is true in the world, with these numbers in its slots
abbrev pub True : List Node → World → ℕ → Env → Type 0
True nodes world n env = (evaluated nodes world n env).truth ≡ true

-- node n of the book says f
pub record Says (nodes : List Node) (n : ℕ) (f : Formula) : Type 0 where
  pub low : 1 ≤ n
  pub high : n ≤ length nodes
  pub formula : (node_at nodes n).formula ≡ f

-- the numbers in the slots, with those of one element more
abbrev pub with_element : List Node → ℕ → Env → Element → Env
with_element nodes n env e = slice_set env (depth_of (node_at nodes n).scope) e.values

-- what each kind of node says, in every world
pub record TruthLaws (nodes : List Node) : Type 0 where
  pub at_least : (w : World) (n : ℕ) (env : Env) (a : Atom) → Says nodes n (AtLeast a) → True nodes w n env ⇔ (pos 0 ≤ℤ worth env a)
  pub equal : (w : World) (n : ℕ) (env : Env) (a : Atom) → Says nodes n (Equal a) → True nodes w n env ⇔ (worth env a ≡ pos 0)
  pub both : (w : World) (n : ℕ) (env : Env) (l r : ℕ) → Says nodes n (And l r) → True nodes w n env ⇔ (True nodes w l env × True nodes w r env)
  pub either : (w : World) (n : ℕ) (env : Env) (l r : ℕ) → Says nodes n (Or l r) → True nodes w n env ⇔ (True nodes w l env ⊎ True nodes w r env)
  pub exists : (w : World) (n : ℕ) (env : Env) (c b : ℕ) → Says nodes n (Exists c b) →
      True nodes w n env ⇔ ((e : Element) × In e w × (e.class ≡ c) × True nodes w b (with_element nodes n env e))
  pub every : (w : World) (n : ℕ) (env : Env) (c b : ℕ) → Says nodes n (Every c b) →
      True nodes w n env ⇔ ((e : Element) → In e w → e.class ≡ c → True nodes w b (with_element nodes n env e))

pub record Premise (nodes : List Node) (n : ℕ) : Type 0 where
  pub low : 1 ≤ n
  pub high : n ≤ length nodes
  pub marked : (node_at nodes n).premise ≡ true

-- premise p is false in the world, and each lower premise is true
pub record FirstFalse (nodes : List Node) (w : World) (p : ℕ) : Type 0 where
  pub premise : Premise nodes p
  pub false_here : True nodes w p nothing → ⊥
  pub true_before : (k : ℕ) → Premise nodes k → k < p → True nodes w k nothing

-- what the answers of the world test mean
pub record TestLaws (classes : List Class) (nodes : List Node) : Type 0 where
  pub yes_says : (w : World) → ((tested nodes w).verdict ≡ Yes) ⇔ ((n : ℕ) → Premise nodes n → True nodes w n nothing)
  pub no_says : (w : World) (p : ℕ) → ((tested nodes w).verdict ≡ No p) ⇔ FirstFalse nodes w p
  -- where two budgets both let it answer, it answers the same
  pub any_budget : (w : World) (b c : ℕ) (r s : Answer) → Answered classes nodes w b (Ok r) → Answered classes nodes w c (Ok s) → r ≡ s
