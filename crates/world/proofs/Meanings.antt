-- The laws of truth: what each kind of node says.
use Rattle.std.proofs.Common.{◌≡◌, ℕ, true, false, ◌⊎◌, List, [], ◌∷◌, length, ℤ, pos, negsuc, ◌≤ℤ◌, sym, refl, ap, ◌∙◌, inl, inr, ⊎_elim, arith}
use lib.Signed.{le_z}
use Rattle.std.proofs.lemmas.Int.{ints}
use Rattle.std.proofs.lemmas.Bool.Decides.{nat_tests}
use Rattle.std.proofs.lemmas.Bool.{eqb-true, eq-eqb, false≢true}
use Rattle.book.specs.Lowest.{HoldsTo}
use Rattle.book.specs.Rules.{depth_of, node_at, node_ok}
use Rattle.book.specs.declared.parts.Class.{Class}
use Rattle.book.specs.declared.parts.Node.{Node}
use Rattle.world.specs.Worlds.{World, Element}
use Rattle.world.specs.Truth.{worth, is_zero, chained, tried, evaluated}
use Rattle.world.specs.Laws.{◌⇔◌, In, TruthLaws}
use Rattle.world.specs.declared.parts.Evaluation.{Evaluation}
use Rattle.world.proofs.Nodes.{evaluated_is}
use Rattle.world.proofs.Walks.{body_of}

le_says : (z : ℤ) → (le_z (pos 0) z ≡ true) ⇔ (pos 0 ≤ℤ z)
le_says z = (λ h. grind (arith, ints), λ h. grind (arith, ints))

zero_says : (z : ℤ) → (is_zero z ≡ true) ⇔ (z ≡ pos 0)
zero_says (pos n) = (λ h. ap pos (eqb-true n 0 h), λ h. eq-eqb n 0 (omega (arith, ints, h)))
zero_says (negsuc n) = (λ h. absurd (false≢true h), λ h. absurd (omega (arith, ints, h)))

both_say : (a b : Evaluation) → ((chained true a b).truth ≡ true) ⇔ ((a.truth ≡ true) × (b.truth ≡ true))
both_say a b = (λ h. grind arith, λ h. grind arith)

either_says : (a b : Evaluation) → ((chained false a b).truth ≡ true) ⇔ ((a.truth ≡ true) ⊎ (b.truth ≡ true))
either_says a b = (λ h. grind arith, λ h. grind arith)

-- a quantifier over a class, with f the body
module _ (class : ℕ) (f : List ℤ → Evaluation) where
  abbrev SomeOf : World → Type 0
  SomeOf w = (e : Element) × In e w × (e.class ≡ class) × ((f e.values).truth ≡ true)

  abbrev AllOf : World → Type 0
  AllOf w = (e : Element) → In e w → e.class ≡ class → (f e.values).truth ≡ true

  -- one element more decides, or the rest does
  some_next : (x : Element) (w : World) → ((tried true class f (x ∷ w)).truth ≡ true) ⇔ (((x.class ≡ class) × ((f x.values).truth ≡ true)) ⊎ ((tried true class f w).truth ≡ true))
  some_next x w = (λ h. grind (arith, nat_tests), λ h. grind (arith, nat_tests))

  all_next : (x : Element) (w : World) → ((tried false class f (x ∷ w)).truth ≡ true) ⇔ ((x.class ≡ class → (f x.values).truth ≡ true) × ((tried false class f w).truth ≡ true))
  all_next x w = (λ h. (λ e. grind (arith, nat_tests), grind (arith, nat_tests)), λ h. grind (arith, nat_tests))

  some_from : (w : World) → (tried true class f w).truth ≡ true → SomeOf w
  some_from [] h = absurd (false≢true h)
  some_from (x ∷ w) h =
      ⊎_elim
      (λ here. (x, inl refl, here.0, here.1))
      (λ rest. let s = some_from w rest in (s.0, inr s.1, s.2, s.3))
      ((some_next x w).0 h)

  some_to : (w : World) → SomeOf w → (tried true class f w).truth ≡ true
  some_to [] s = absurd s.1
  some_to (x ∷ w) s =
      (some_next x w).1 (⊎_elim
      (λ (e : x ≡ s.0). inl (ap (λ (y : Element). y.class) e ∙ s.2, ap (λ (y : Element). (f y.values).truth) e ∙ s.3))
      (λ m. inr (some_to w (s.0, m, s.2, s.3)))
      s.1)

  pub some_says : (w : World) → ((tried true class f w).truth ≡ true) ⇔ SomeOf w
  some_says w = (some_from w, some_to w)

  all_from : (w : World) → (tried false class f w).truth ≡ true → AllOf w
  all_from [] h = λ e m is. absurd m
  all_from (x ∷ w) h =
      let p = (all_next x w).0 h in
      λ e m is. ⊎_elim
      (λ (s : x ≡ e). ap (λ (y : Element). (f y.values).truth) (sym s) ∙ p.0 (ap (λ (y : Element). y.class) s ∙ is))
      (λ k. all_from w p.1 e k is)
      m

  all_to : (w : World) → AllOf w → (tried false class f w).truth ≡ true
  all_to [] s = refl
  all_to (x ∷ w) s = (all_next x w).1 (s x (inl refl), all_to w (λ e m. s e (inr m)))

  pub all_say : (w : World) → ((tried false class f w).truth ≡ true) ⇔ AllOf w
  all_say w = (all_from w, all_to w)

-- what is said of an evaluation, at an equal one
moved : {o p : Evaluation} {P : Type 0} → o ≡ p → (p.truth ≡ true) ⇔ P → (o.truth ≡ true) ⇔ P
moved {P} e s = (λ h. s.0 (ap (λ (x : Evaluation). x.truth) (sym e) ∙ h), λ h. ap (λ (x : Evaluation). x.truth) e ∙ s.1 h)

pub truth_laws : (classes : List Class) (nodes : List Node) → HoldsTo (length nodes) (node_ok classes nodes) → TruthLaws nodes
truth_laws classes nodes ok = record {
  at_least = λ w n env a s. moved (evaluated_is classes nodes ok w n s.low s.high env s.formula) (le_says (worth env a));
  equal = λ w n env a s. moved (evaluated_is classes nodes ok w n s.low s.high env s.formula) (zero_says (worth env a));
  both = λ w n env l r s. moved (evaluated_is classes nodes ok w n s.low s.high env s.formula) (both_say (evaluated nodes w l env) (evaluated nodes w r env));
  either = λ w n env l r s. moved (evaluated_is classes nodes ok w n s.low s.high env s.formula) (either_says (evaluated nodes w l env) (evaluated nodes w r env));
  exists = λ w n env c b s. moved (evaluated_is classes nodes ok w n s.low s.high env s.formula) (some_says c (body_of nodes w b env (depth_of (node_at nodes n).scope)) w);
  every = λ w n env c b s. moved (evaluated_is classes nodes ok w n s.low s.high env s.formula) (all_say c (body_of nodes w b env (depth_of (node_at nodes n).scope)) w);
}
