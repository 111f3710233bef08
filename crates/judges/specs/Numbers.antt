-- The numbers of a voucher, and tests of whole numbers.
use Rattle.std.specs.Prelude.{◌≡◌, ℕ, ◌≤◌, List, length, ℤ, pos, ◌≤ℤ◌, Decides, int_le, nat_le, refl}
use Rattle.std.proofs.Common.{arith}
use Rattle.std.proofs.lemmas.Int.{ints}
use Rattle.std.proofs.lemmas.Bool.{leb-true, le-leb}
use Rattle.std.proofs.lemmas.Bool.Decides.{Decides-eqb, Decides-and}
use Rattle.std.proofs.ByRecursion.{Decides-by_and}
use Rattle.judges.specs.Unknowns.{same_number}
use Rattle.judges.specs.Combination.{largest_number, Between, between, all_between, NumbersFit, numbers_fit}

pub leb_decides : (a b : ℕ) → Decides (nat_le a b) (a ≤ b)
leb_decides a b = (leb-true a b, le-leb a b)

pub le_z_decides : (x y : ℤ) → Decides (int_le x y) (x ≤ℤ y)
le_z_decides x y = (λ h. grind (arith, ints), λ h. grind (arith, ints))

pub number_decides : (x y : ℤ) → Decides (same_number x y) (x ≡ y)
number_decides x y = (λ h. grind (arith, ints), λ e. grind (arith, ints))

pub between_decides : (low high n : ℤ) → Decides (between low high n) (Between low high n)
between_decides low high n = Decides-and (int_le low n) (int_le n high) (le_z_decides low n) (le_z_decides n high)

pub numbers_decide : (low : ℤ) (count : ℕ) (ns : List ℤ) → Decides (numbers_fit low count ns) (NumbersFit low count ns)
numbers_decide low count ns =
    Decides-and _ _ (Decides-eqb (length ns) count)
    (Decides-by_and (between low (pos largest_number)) (Between low (pos largest_number)) (all_between low (pos largest_number)) (between_decides low (pos largest_number)) refl (λ _ _. refl) ns)
