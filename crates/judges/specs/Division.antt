-- Multiples of a whole number, and the test of them.
use Rattle.std.specs.Prelude.{◌≡◌, ◌%◌, ℤ, pos, negsuc, ◌+ℤ◌, ◌*ℤ◌, neg_ℤ, Decides, nat_eq, unsigned_abs}
use Rattle.std.proofs.Common.{sym, ap, ◌∙◌, arith}
use Rattle.std.proofs.Math.Nat.{mul-mod_left, mod-zero}
use Rattle.std.proofs.Math.IntN.{zero-*ℤ, *ℤ_comm}
use Rattle.std.specs.Int.RustNames.{int_div}
use Rattle.std.proofs.lemmas.Int.{ints, unsigned_abs-mul, quot-rem}
use Rattle.std.proofs.lemmas.Bool.{eqb-true, eq-eqb}
use Rattle.judges.specs.Combination.{is_zero}
use Rattle.judges.specs.Residue.{Divides, divides}
use Rattle.judges.specs.Ring.{add_times, times_times}

neg_times : (x y : ℤ) → neg_ℤ x *ℤ y ≡ neg_ℤ (x *ℤ y)
neg_times x y =
    let e : x +ℤ neg_ℤ x ≡ pos 0 = omega (arith, ints) in
    let s = sym (add_times x (neg_ℤ x) y) ∙ ap (λ z. z *ℤ y) e ∙ zero-*ℤ y in
    omega (arith, ints)

divided : (m z : ℤ) → unsigned_abs z % unsigned_abs m ≡ 0 → Divides m z
divided m (pos a) h = (int_div (pos a) m, (let q = quot-rem (pos a) m in omega (arith, ints, h)))
divided m (negsuc a) h = (int_div (negsuc a) m, (let q = quot-rem (negsuc a) m in omega (arith, ints, h)))

pub divides_decides : (m z : ℤ) → Decides (divides m z) (Divides m z)
divides_decides m z = (
  λ h. divided m z (eqb-true (unsigned_abs z % unsigned_abs m) 0 h),
  λ d. eq-eqb (unsigned_abs z % unsigned_abs m) 0 (ap (λ n. n % unsigned_abs m) (ap unsigned_abs d.1 ∙ unsigned_abs-mul d.0 m) ∙ mul-mod_left (unsigned_abs d.0) (unsigned_abs m)),
)

-- 0 divides 0 alone
pub by_zero : (z : ℤ) → divides (pos 0) z ≡ is_zero z
by_zero z = ap (λ n. nat_eq n 0) (mod-zero (unsigned_abs z))

module _ (m : ℤ) where
  pub divides_zero : Divides m (pos 0)
  divides_zero = (pos 0, sym (zero-*ℤ m))

  pub divides_add : (a b : ℤ) → Divides m a → Divides m b → Divides m (a +ℤ b)
  divides_add a b d e = (d.0 +ℤ e.0, (let p = d.1 in let q = e.1 in let s = add_times d.0 e.0 m in let g : a +ℤ b ≡ (d.0 +ℤ e.0) *ℤ m = omega (arith, ints) in g))

  pub divides_times : (a k : ℤ) → Divides m a → Divides m (a *ℤ k)
  divides_times a k d = (d.0 *ℤ k, ap (λ x. x *ℤ k) d.1 ∙ times_times d.0 m k ∙ ap (λ x. d.0 *ℤ x) (*ℤ_comm m k) ∙ sym (times_times d.0 k m))

  -- where a and b add up to 0
  pub divides_rest : (a b : ℤ) → a +ℤ b ≡ pos 0 → Divides m a → Divides m b
  divides_rest a b z d = (neg_ℤ d.0, (let p = d.1 in let s = neg_times d.0 m in let g : b ≡ neg_ℤ d.0 *ℤ m = omega (arith, ints) in g))
