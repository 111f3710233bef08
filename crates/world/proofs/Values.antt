-- The values of a world that the test can take are in range.
use Rattle.std.proofs.Common.{◌≡◌, ℕ, zero, suc, ◌-◌, ◌<◌, ◌≤◌, true, List, [], ◌∷◌, length, get_or, ℤ, pos, nat_abs, sym, subst, ⊎_elim, zero-le, arith}
use Rattle.std.proofs.lemmas.List.{get_or_past}
use Rattle.std.proofs.lemmas.Bool.{cases_lt}
use Rattle.std.proofs.lemmas.Bool.Decides.{nat_tests}
use Rattle.book.specs.declared.parts.Class.{Class}
use Rattle.book.specs.Whole.{classes_of}
use Rattle.world.specs.Worlds.{World, Element, world_of, no_element, values_ok, element_ok, largest_value}
use Rattle.world.specs.Test.{Testable}
use Rattle.world.specs.Inner.{values_at}
use Rattle.world.specs.declared.elements.Trial.{Trial}

values_small : (vs : List ℤ) → values_ok vs ≡ true → (a : ℕ) → nat_abs (get_or vs a (pos 0)) ≤ largest_value
values_small [] h a = zero-le
values_small (v ∷ vs) h zero = grind (arith, nat_tests)
values_small (v ∷ vs) h (suc a) = values_small vs (grind (arith, nat_tests)) a

element_small : (classes : List Class) (e : Element) → element_ok classes e ≡ true → (a : ℕ) → nat_abs (get_or e.values a (pos 0)) ≤ largest_value
unfolding element_ok
element_small classes e h a = values_small e.values (grind (arith, nat_tests)) a

-- an attribute of any element, and what stands where there is none
value_small : (classes : List Class) (world : World) → Testable classes world → (k a : ℕ) → nat_abs (get_or (values_at world k) a (pos 0)) ≤ largest_value
unfolding values_at
value_small classes world t zero a = zero-le
value_small classes world t (suc j) a =
    let e : suc j - 1 ≡ j = omega arith in
    ⊎_elim
    (λ (l : j < length world). element_small classes (get_or world j no_element) (subst (λ k. element_ok classes (get_or world k no_element) ≡ true) e (t.each (suc j) (omega arith) (omega arith))) a)
    (λ (g : length world ≤ j). subst (λ (x : Element). nat_abs (get_or x.values a (pos 0)) ≤ largest_value) (sym (get_or_past world j no_element g)) zero-le)
    (cases_lt j (length world))

-- the same of a trial
pub small : (t : Trial) (k a : ℕ) → nat_abs (get_or (values_at (world_of t.log.now) k) a (pos 0)) ≤ largest_value
small t = value_small (classes_of t.book.now) (world_of t.log.now) t.testable
