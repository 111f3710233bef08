-- An array that `array::from_fn` fills: at each index stands what the closure computes of it.
use Rattle.std.proofs.Common.{◌≡◌, ℕ, zero, suc, ◌+◌, ◌<◌, ◌≤◌, List, map, get_or, sym, ap, ◌∙◌, subst, ⊎_elim, arith}
use Rattle.std.proofs.lemmas.Bool.{cases_eq}
use Rattle.std.proofs.lemmas.List.FromFn.{fill_by_all}
use Rattle.std.specs.Array.{IsFromFnResult, IsFromFnResultFrom}
use Rattle.std.specs.Fn.{Called}
use Rattle.std.specs.List.{range_with_len}
use denote.Param.Members.{Mut}

module _ {F B : Type 0} (g : Mut F (ℕ × Unit {0}) B) (f : F) (h : ℕ → B) (computes : (i : ℕ) (y : B) (q : F) → Called g f (i, tt) y q → (q ≡ f) × (y ≡ h i)) where
  filled_from : (ys : List B) (i n k : ℕ) (d : B) → IsFromFnResultFrom g f ys i n → i ≤ k → k < i + n → get_or ys k d ≡ h k
  filled_from ys i zero k d made low high = absurd (omega arith)
  filled_from ys i (suc n) k d (q, y, at, called, rest) low high =
      let c = computes i y q called in
      ⊎_elim
      (λ (e : k ≡ i). ap (λ j. get_or ys j d) e ∙ at.1 d ∙ c.1 ∙ ap h (sym e))
      (λ ne. filled_from ys (i + 1) n k d (subst (λ p. IsFromFnResultFrom g p ys (i + 1) n) c.0 rest) (omega arith) (omega arith))
      (cases_eq k i)

  pub filled : (ys : List B) (n : ℕ) (d : B) → IsFromFnResult g f ys n → ys ≡ map h (range_with_len 0 n)
  filled ys n d made = fill_by_all h ys n d made.long (λ k l. filled_from ys 0 n k d made.each (omega arith) (omega arith))
