-- What a node says, by what the nodes that it names say.
use Rattle.std.proofs.Common.{◌≡◌, ℕ, zero, suc, ◌<◌, ◌≤◌, true, false, List, length, set, ℤ, refl, ap, ◌∙◌, subst, arith}
use mathlib.Core.Path.{fun_ext}
use Rattle.std.proofs.lemmas.Bool.Decides.{nat_tests}
use Rattle.std.proofs.lemmas.List.Recursion.{and_at}
use Rattle.book.specs.Limits.{slot_count}
use Rattle.book.specs.Lowest.{HoldsTo}
use Rattle.book.specs.Rules.{depth_of, term_ok, terms_ok, terms_of, atom_ok, body_ok, formula_ok, node_ok, node_at, no_term}
use Rattle.book.specs.declared.parts.Atom.{Atom}
use Rattle.book.specs.declared.parts.Class.{Class}
use Rattle.book.specs.declared.parts.Term.{Term}
use Rattle.book.specs.declared.parts.Formula.{Formula}
use Rattle.book.specs.declared.parts.Formula.TheVariants.{AtLeast, Equal, And, Or, Exists, Every}
use Rattle.book.specs.declared.parts.Node.{Node}
use Rattle.book.proofs.Tests.{depth_le}
use Rattle.world.specs.Worlds.{World}
use Rattle.world.specs.Truth.{Env, tried, said, means, evaluated}
use Rattle.world.specs.Inner.{Bounded, BoundedTerm}
use Rattle.world.specs.declared.parts.Evaluation.{Evaluation}

-- a number that node n may name
abbrev pub Before : ℕ → ℕ → Type 0
Before n k = (1 ≤ k) × (k < n)

-- what the rules say of a formula at depth d, as far as its evaluation needs it
abbrev pub Sound : ℕ → ℕ → Formula → Type 0
Sound n d (AtLeast a) = Bounded a
Sound n d (Equal a) = Bounded a
Sound n d (And l r) = Before n l × Before n r
Sound n d (Or l r) = Before n l × Before n r
Sound n d (Exists c b) = Before n b × (d < slot_count)
Sound n d (Every c b) = Before n b × (d < slot_count)

-- a scope of six slots, at most
module _ (classes : List Class) (scope : List ℕ) (six : length scope ≤ slot_count) where
  term_bounded : (t : Term) → term_ok classes scope t ≡ true → BoundedTerm t
  term_bounded t h =
      let d = depth_le scope in
      record { coefficient = grind (arith, nat_tests); slot = grind (arith, nat_tests) }

  atom_bounded : (a : Atom) → atom_ok classes scope a ≡ true → Bounded a
  unfolding atom_ok
  atom_bounded a h =
      let p : terms_ok classes scope (terms_of a) ≡ true = grind (arith, nat_tests) in
      record { each = λ i l. term_bounded _ (and_at (terms_ok classes scope) (term_ok classes scope) refl (λ _ _. refl) (terms_of a) i no_term l p) }

-- the rules of node n, as far as its evaluation needs them
module _ (classes : List Class) (nodes : List Node) (n : ℕ) where
  formula_sound : (scope : List ℕ) → length scope ≤ slot_count → (f : Formula) → formula_ok classes nodes n scope f ≡ true → Sound n (depth_of scope) f
  unfolding body_ok
  formula_sound scope six (AtLeast a) h = atom_bounded classes scope six a h
  formula_sound scope six (Equal a) h = atom_bounded classes scope six a h
  formula_sound scope six (And l r) h = grind (arith, nat_tests)
  formula_sound scope six (Or l r) h = grind (arith, nat_tests)
  formula_sound scope six (Exists c b) h = grind (arith, nat_tests)
  formula_sound scope six (Every c b) h = grind (arith, nat_tests)

  pub node_sound : node_ok classes nodes n ≡ true → Sound n (depth_of (node_at nodes n).scope) (node_at nodes n).formula
  unfolding node_ok
  node_sound h =
      let scope = (node_at nodes n).scope in
      formula_sound scope (grind (arith, nat_tests)) (node_at nodes n).formula (grind (arith, nat_tests))

-- every node of the table keeps the rules
module _ (classes : List Class) (nodes : List Node) (ok : HoldsTo (length nodes) (node_ok classes nodes)) where
  -- node n has this formula
  pub sound_at : (n : ℕ) → 1 ≤ n → n ≤ length nodes → {f : Formula} → (node_at nodes n).formula ≡ f → Sound n (depth_of (node_at nodes n).scope) f
  sound_at n low high is = subst (Sound n (depth_of (node_at nodes n).scope)) is (node_sound classes nodes n (ok n low high))

  module _ (world : World) where
    -- what a formula says depends on the nodes before it alone
    same_said : (f g : ℕ → Env → Evaluation) (n d : ℕ) (env : Env) (x : Formula) → Sound n d x → ((k : ℕ) → 1 ≤ k → k < n → (env : Env) → f k env ≡ g k env) → said f world d env x ≡ said g world d env x
    same_said f g n d env (AtLeast a) h s = refl
    same_said f g n d env (Equal a) h s = refl
    same_said f g n d env (And l r) h s = rw (s l h.0.0 h.0.1 env, s r h.1.0 h.1.1 env)
    same_said f g n d env (Or l r) h s = rw (s l h.0.0 h.0.1 env, s r h.1.0 h.1.1 env)
    same_said f g n d env (Exists c b) h s =
        ap (λ (u : List ℤ → Evaluation). tried true c u world) (fun_ext (λ vs. s b h.0.0 h.0.1 (set env d vs)))
    same_said f g n d env (Every c b) h s =
        ap (λ (u : List ℤ → Evaluation). tried false c u world) (fun_ext (λ vs. s b h.0.0 h.0.1 (set env d vs)))

    steady : (j k n : ℕ) → 1 ≤ n → n ≤ j → n ≤ k → n ≤ length nodes → (env : Env) → means nodes world j n env ≡ means nodes world k n env
    steady zero k n low a b top env = absurd (omega arith)
    steady (suc j) zero n low a b top env = absurd (omega arith)
    steady (suc j) (suc k) n low a b top env =
        same_said (means nodes world j) (means nodes world k) n (depth_of (node_at nodes n).scope) env (node_at nodes n).formula (node_sound classes nodes n (ok n low top)) (λ m lo hi e. steady j k m lo (omega arith) (omega arith) (omega arith) e)

    -- THE LAW of a node
    pub evaluated_at : (n : ℕ) → 1 ≤ n → n ≤ length nodes → (env : Env) → evaluated nodes world n env ≡ said (evaluated nodes world) world (depth_of (node_at nodes n).scope) env (node_at nodes n).formula
    unfolding evaluated
    evaluated_at zero low top env = absurd (omega arith)
    evaluated_at (suc k) low top env =
        same_said (means nodes world k) (λ m e. means nodes world m m e) (suc k) (depth_of (node_at nodes (suc k)).scope) env (node_at nodes (suc k)).formula (node_sound classes nodes (suc k) (ok (suc k) low top)) (λ m lo hi e. steady k m m lo (omega arith) (omega arith) (omega arith) e)

    -- the same, at the formula that the node has
    pub evaluated_is : (n : ℕ) → 1 ≤ n → n ≤ length nodes → (env : Env) {f : Formula} → (node_at nodes n).formula ≡ f → evaluated nodes world n env ≡ said (evaluated nodes world) world (depth_of (node_at nodes n).scope) env f
    evaluated_is n low top env is = evaluated_at n low top env ∙ ap (said (evaluated nodes world) world (depth_of (node_at nodes n).scope) env) is
