-- How a quantifier's walk goes on: what is left to try tells the whole.
use Rattle.std.proofs.Common.{◌≡◌, ℕ, ◌+◌, ◌-◌, ◌<◌, ◌≤◌, Bool, true, false, not, List, ◌∷◌, length, get_or, drop, set, ℤ, Ok, sym, ap, ◌∙◌, add_assoc, arith}
use mathlib.Core.Bool.{beq}
use Rattle.std.proofs.lemmas.List.{at_drop_more}
use Rattle.std.proofs.lemmas.Bool.{eq-eqb, ne_eqb}
use Rattle.book.specs.Whole.{nodes_of}
use Rattle.book.specs.declared.parts.Node.{Node}
use Rattle.world.specs.Worlds.{World, Element, world_of, no_element}
use Rattle.world.specs.Truth.{Env, chained, visited, tried, evaluated}
use Rattle.world.specs.Inner.{Within, Told}
use Rattle.world.specs.Trials.{env_in, evaluated_in, tried_in}
use Rattle.world.specs.declared.elements.Trial.{Trial}
use Rattle.world.specs.declared.parts.Evaluation.{Evaluation}
use Rattle.world.specs.declared.parts.Quantifier.{Quantifier}
use Rattle.world.proofs.Slots.{no_given, length_world, world_at, slot_set}

-- what a quantifier's body says of an element's values in a slot
abbrev pub body_of : List Node → World → ℕ → Env → ℕ → List ℤ → Evaluation
body_of nodes world body env slot vs = evaluated nodes world body (set env slot vs)

-- an evaluation after some visits
abbrev pub later : ℕ → Evaluation → Evaluation
later visits o = record { truth = o.truth; visits = visits + o.visits }

-- a try that decides, a try that does not, and what both count at least
chain_stops : (want : Bool) (o rest : Evaluation) → beq o.truth want ≡ true → chained (not want) (visited o) rest ≡ record { truth = want; visits = 1 + o.visits }
chain_stops want o rest h = grind arith

chain_goes : (want : Bool) (o rest : Evaluation) → beq o.truth want ≡ false → chained (not want) (visited o) rest ≡ later (1 + o.visits) rest
chain_goes want o rest h = grind arith

chain_least : (want : Bool) (o rest : Evaluation) → 1 + o.visits ≤ (chained want (visited o) rest).visits
chain_least want o rest = grind arith

-- what is found is told, where the budget suffices
pub told_ok : {X : Type 0} (visits : X → ℕ) {budget : ℕ} {whole o : X} → whole ≡ o → visits o ≤ budget → Within visits budget whole (Ok o)
told_ok visits e h = (sym e, rw e h)

-- what a quantifier says of the elements from place i on
abbrev pub rest_from : Trial → Quantifier → List ℕ → ℕ → Evaluation
rest_from t q slots i = tried q.want q.class (body_of (nodes_of t.book.now) (world_of t.log.now) q.body (env_in t slots) q.slot) (drop i (world_of t.log.now))

pub record Walked (t : Trial) (q : Quantifier) (slots : List ℕ) (i budget visits : ℕ) : Type 0 where
  pub within : visits ≤ budget
  pub so_far : tried_in t q slots ≡ later visits (rest_from t q slots i)

module _ {t : Trial} {q : Quantifier} {slots : List ℕ} {i budget visits : ℕ} (at : Walked t q slots i budget visits) where
  -- what the body says of the element at place i
  abbrev said : Evaluation
  said = evaluated_in t q.body (set slots q.slot (i + 1))

  abbrev tail : Evaluation
  tail = rest_from t q slots (i + 1)

  abbrev from_here : World → Evaluation
  from_here w = tried q.want q.class (body_of (nodes_of t.book.now) (world_of t.log.now) q.body (env_in t slots) q.slot) w

  module _ (l : i < length t.log.now) where
    next : tried_in t q slots ≡ later visits (from_here (get_or (world_of t.log.now) i no_element ∷ drop (i + 1) (world_of t.log.now)))
    next = at.so_far ∙ ap (later visits) (at_drop_more from_here (world_of t.log.now) i no_element (omega (arith, length_world t.log.now)))

    class_is : (get_or (world_of t.log.now) i no_element).class ≡ (get_or t.log.now i no_given).class
    class_is = ap (λ (x : Element). x.class) (world_at t.log.now i no_given l)

    pub walk_skips : ((get_or t.log.now i no_given).class ≡ q.class → ⊥) → Walked t q slots (i + 1) budget visits
    walk_skips ne = record { within = at.within; so_far = next ∙ simp (ne_eqb _ q.class (λ e. ne (sym class_is ∙ e))) }

    module _ (is : (get_or t.log.now i no_given).class ≡ q.class) where
      met : tried_in t q slots ≡ later visits (chained (not q.want) (visited said) tail)
      met = rw (slot_set (world_of t.log.now) slots q.slot i) (next ∙ simp (eq-eqb _ q.class (class_is ∙ is)))

      least : visits + (1 + said.visits) ≤ (tried_in t q slots).visits
      least = rw met (omega (arith, chain_least (not q.want) said tail))

      pub walk_spent : visits ≡ budget → budget < (tried_in t q slots).visits
      walk_spent e = omega (arith, least)

      pub walk_over : budget - (visits + 1) < said.visits → budget < (tried_in t q slots).visits
      walk_over e = omega (arith, least)

      module _ {b : Evaluation} (ne : visits ≡ budget → ⊥) (told : Told (budget - (visits + 1)) said (Ok b)) where
        after : tried_in t q slots ≡ later visits (chained (not q.want) (visited b) tail)
        after = met ∙ ap (λ o. later visits (chained (not q.want) (visited o) tail)) (sym told.0)

        fits : visits + 1 + b.visits ≤ budget
        fits = let e : b.visits ≤ budget - (visits + 1) = rw told.0 told.1 in omega (arith, at.within)

        pub walk_stops : beq b.truth q.want ≡ true → Told budget (tried_in t q slots) (Ok (record { truth = q.want; visits = visits + 1 + b.visits }))
        walk_stops h = told_ok (λ (x : Evaluation). x.visits) (after ∙ ap (later visits) (chain_stops q.want b tail h) ∙ simp add_assoc) fits

        pub walk_goes : beq b.truth q.want ≡ false → Walked t q slots (i + 1) budget (visits + 1 + b.visits)
        walk_goes h = record { within = fits; so_far = after ∙ ap (later visits) (chain_goes q.want b tail h) ∙ simp add_assoc }
