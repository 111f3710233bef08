-- The laws of the world test: what its answers mean.
use Rattle.std.proofs.Common.{◌≡◌, ℕ, zero, suc, ◌+◌, ◌-◌, ◌<◌, Bool, true, false, List, [], ◌∷◌, length, get_or, Ok, Err, Result, sym, refl, ap, ◌∙◌, subst, ⊎_elim, arith}
use Rattle.std.proofs.lemmas.Bool.{false≢true, cases_order}
use Rattle.book.specs.Rules.{no_node}
use Rattle.book.specs.Whole.{classes_of, nodes_of}
use Rattle.book.specs.declared.parts.Class.{Class}
use Rattle.book.specs.declared.parts.Node.{Node}
use Rattle.causes.specs.declared.cause.Cause.{Cause}
use Rattle.causes.specs.declared.cause.Cause.TheVariants.{BadBook, BadWorld, OverBudget}
use Rattle.world.specs.Worlds.{World, world_of}
use Rattle.world.specs.Truth.{nothing, evaluated}
use Rattle.world.specs.Test.{tested_from, tested, Answered}
use Rattle.world.specs.Inner.{GivenWithin}
use Rattle.world.specs.Laws.{True, Premise, FirstFalse, TestLaws}
use Rattle.world.specs.declared.elements.Trial.{Trial}
use Rattle.world.specs.declared.parts.Answer.{Answer}
use Rattle.world.specs.declared.parts.Verdict.{Verdict}
use Rattle.world.specs.declared.parts.Verdict.TheVariants.{Yes, No}

module _ (nodes : List Node) (w : World) where
  abbrev Holds : ℕ → Type 0
  Holds n = True nodes w n nothing

  -- each premise among xs, whose first has number n, is true
  abbrev AllTrue : ℕ → List Node → Type 0
  AllTrue n xs = (j : ℕ) → j < length xs → (get_or xs j no_node).premise ≡ true → Holds (n + j)

  -- the premise at j is false, and those before it are true
  abbrev First : ℕ → List Node → ℕ → Type 0
  First n xs p = (j : ℕ) × (p ≡ n + j) × (j < length xs) × ((get_or xs j no_node).premise ≡ true) × (Holds p → ⊥) × ((i : ℕ) → i < j → (get_or xs i no_node).premise ≡ true → Holds (n + i))

  -- one node more in front
  all_more : (n : ℕ) (x : Node) (xs : List Node) → (x.premise ≡ true → Holds n) → AllTrue (n + 1) xs → AllTrue n (x ∷ xs)
  all_more n x xs here rest zero l m = let e : n ≡ n + 0 = omega arith in subst Holds e (here m)
  all_more n x xs here rest (suc j) l m = let e : n + 1 + j ≡ n + suc j = omega arith in subst Holds e (rest j (omega arith) m)

  first_more : (n p : ℕ) (x : Node) (xs : List Node) → (x.premise ≡ true → Holds n) → First (n + 1) xs p → First n (x ∷ xs) p
  first_more n p x xs here f = (suc f.0, omega (arith, f.1), omega (arith, f.2), f.3, f.4, before)
    where
      before : (i : ℕ) → i < suc f.0 → (get_or (x ∷ xs) i no_node).premise ≡ true → Holds (n + i)
      before zero l m = let e : n ≡ n + 0 = omega arith in subst Holds e (here m)
      before (suc i) l m = let e : n + 1 + i ≡ n + suc i = omega arith in subst Holds e (f.5 i (omega arith) m)

  -- what a verdict says of the nodes from number n on
  abbrev Means : ℕ → List Node → Verdict → Type 0
  Means n xs Yes = AllTrue n xs
  Means n xs (No p) = First n xs p

  means_more : (n : ℕ) (x : Node) (xs : List Node) (v : Verdict) → (x.premise ≡ true → Holds n) → Means (n + 1) xs v → Means n (x ∷ xs) v
  means_more n x xs Yes here m = all_more n x xs here m
  means_more n x xs (No p) here m = first_more n p x xs here m

  means_here : (n : ℕ) (x : Node) (xs : List Node) → x.premise ≡ true → (Holds n → ⊥) → First n (x ∷ xs) n
  means_here n x xs m not-here = (0, omega arith, omega arith, m, not-here, λ i l k. absurd (omega arith))

  means_next : (n : ℕ) (x : Node) (xs : List Node) → Means (n + 1) xs (tested_from nodes w (n + 1) xs).verdict → (b : Bool) → x.premise ≡ b → (t : Bool) → (evaluated nodes w n nothing).truth ≡ t → Means n (x ∷ xs) (tested_from nodes w n (x ∷ xs)).verdict
  means_next n x xs rest true p true q =
      let e : (tested_from nodes w n (x ∷ xs)).verdict ≡ (tested_from nodes w (n + 1) xs).verdict = simp (p, q) in
      subst (Means n (x ∷ xs)) (sym e) (means_more n x xs (tested_from nodes w (n + 1) xs).verdict (λ _. q) rest)
  means_next n x xs rest true p false q =
      let e : (tested_from nodes w n (x ∷ xs)).verdict ≡ No n = simp (p, q) in
      subst (Means n (x ∷ xs)) (sym e) (means_here n x xs p (λ h. false≢true (sym q ∙ h)))
  means_next n x xs rest false p t q =
      let e : (tested_from nodes w n (x ∷ xs)).verdict ≡ (tested_from nodes w (n + 1) xs).verdict = simp p in
      subst (Means n (x ∷ xs)) (sym e) (means_more n x xs (tested_from nodes w (n + 1) xs).verdict (λ h. absurd (false≢true (sym p ∙ h))) rest)

  means : (n : ℕ) (xs : List Node) → Means n xs (tested_from nodes w n xs).verdict
  means n [] = λ j l m. absurd (omega arith)
  means n (x ∷ xs) = means_next n x xs (means (n + 1) xs) x.premise refl (evaluated nodes w n nothing).truth refl

  verdict_means : Means 1 nodes (tested nodes w).verdict
  unfolding tested
  verdict_means = means 1 nodes

  -- node numbers are counted from 1
  all_holds : AllTrue 1 nodes → (n : ℕ) → Premise nodes n → Holds n
  all_holds all n p = let e : 1 + (n - 1) ≡ n = omega (arith, p.low) in subst Holds e (all (n - 1) (omega (arith, p.low, p.high)) p.marked)

  first_false : (p : ℕ) → First 1 nodes p → FirstFalse nodes w p
  first_false p f = record {
    premise = record { low = omega (arith, f.1); high = omega (arith, f.1, f.2); marked = let e : f.0 ≡ p - 1 = omega (arith, f.1) in subst (λ k. (get_or nodes k no_node).premise ≡ true) e f.3 };
    false_here = f.4;
    true_before = λ k m l. let e : 1 + (k - 1) ≡ k = omega (arith, m.low) in subst Holds e (f.5 (k - 1) (omega (arith, m.low, f.1)) m.marked);
  }

  yes_from : (tested nodes w).verdict ≡ Yes → (n : ℕ) → Premise nodes n → Holds n
  yes_from e = all_holds (subst (Means 1 nodes) e verdict_means)

  no_from : (p : ℕ) → (tested nodes w).verdict ≡ No p → FirstFalse nodes w p
  no_from p e = first_false p (subst (Means 1 nodes) e verdict_means)

  -- a verdict is yes or names a premise
  yes_by : (v : Verdict) → (tested nodes w).verdict ≡ v → ((n : ℕ) → Premise nodes n → Holds n) → (tested nodes w).verdict ≡ Yes
  yes_by Yes e all = e
  yes_by (No p) e all = let f = no_from p e in absurd (f.false_here (all p f.premise))

  same_first : (p q : ℕ) → FirstFalse nodes w p → FirstFalse nodes w q → p ≡ q
  same_first p q f g =
      ⊎_elim (λ e. e)
      (⊎_elim (λ l. absurd (f.false_here (g.true_before p f.premise l))) (λ l. absurd (g.false_here (f.true_before q g.premise l))))
      (cases_order p q)

  no_by : (v : Verdict) (p : ℕ) → (tested nodes w).verdict ≡ v → FirstFalse nodes w p → (tested nodes w).verdict ≡ No p
  no_by Yes p e f = absurd (f.false_here (yes_from e p f.premise))
  no_by (No q) p e f = e ∙ ap (λ k. No k) (same_first q p (no_from q e) f)

pub test_laws : (classes : List Class) (nodes : List Node) → TestLaws classes nodes
test_laws classes nodes = record {
  yes_says = λ w. (yes_from nodes w, yes_by nodes w (tested nodes w).verdict refl);
  no_says = λ w p. (no_from nodes w p, no_by nodes w (tested nodes w).verdict p refl);
  any_budget = λ w b c r s p q. p.1 ∙ sym q.1;
}

-- the answer of the premises is that of the test
pub answered_from : (t : Trial) (budget : ℕ) (r : Result Answer Cause) → GivenWithin budget (tested (nodes_of t.book.now) (world_of t.log.now)) r → Answered (classes_of t.book.now) (nodes_of t.book.now) (world_of t.log.now) budget r
answered_from t budget (Ok a) g = (t.testable, g.0, g.1)
answered_from t budget (Err (BadBook d)) g = cc g.0
answered_from t budget (Err (BadWorld d)) g = cc g.0
answered_from t budget (Err OverBudget) g = (t.testable, g.1)
