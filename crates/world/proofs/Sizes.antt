-- The size of a product and of a sum.
use Rattle.std.proofs.Common.{◌≡◌, ◌*◌, ◌≤◌, ℤ, ◌*ℤ◌, nat_abs, lit<, mul-le-mul, arith, w32, w64, SFits, to_z, of_z}
use Rattle.std.proofs.lemmas.Int.{ints, to_z-of_z, unsigned_abs-mul, fits_signed_mul}
use Rattle.book.specs.Limits.{largest_coefficient}
use Rattle.world.specs.Worlds.{largest_value}

pub product_size : (k y : ℤ) → nat_abs k ≤ largest_coefficient → nat_abs y ≤ largest_value → nat_abs (k *ℤ y) ≤ largest_coefficient * largest_value
product_size k y h l = rw unsigned_abs-mul (mul-le-mul h l)

-- a coefficient k, which the code has as f, times a value y, which it has as v
module _ (k : ℤ) {f y v : ℤ} (h : nat_abs k ≤ largest_coefficient) (l : nat_abs y ≤ largest_value) (fk : f ≡ to_z w32 (of_z w32 k)) (vy : v ≡ y) where
  is_k : to_z w64 (of_z w64 f) ≡ k
  is_k = omega (arith, ints)

  is_y : to_z w64 (of_z w64 v) ≡ y
  is_y = omega (arith, ints)

  fits : SFits w64 (k *ℤ y)
  fits = fits_signed_mul w64 k y largest_coefficient largest_value h l (lit< tt)

  pub product_fits : SFits w64 (to_z w64 (of_z w64 f) *ℤ to_z w64 (of_z w64 v))
  product_fits = rw (is_k, is_y) fits

  pub product_is : to_z w64 (of_z w64 (to_z w64 (of_z w64 f) *ℤ to_z w64 (of_z w64 v))) ≡ k *ℤ y
  product_is = rw (is_k, is_y) (to_z-of_z w64 (k *ℤ y) fits)
