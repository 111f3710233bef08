-- The sum of rows, each times its number.
use Rattle.std.specs.Prelude.{◌≡◌, ℕ, Bool, cond, ◌&&◌, List, [], ◌∷◌, length, ℤ, pos, ◌+ℤ◌, ◌*ℤ◌, ◌≤ℤ◌, ◌==◌, int_le, unsigned_abs}
use Rattle.std.specs.List.{AllByRecursion, list_all}
use Rattle.rows.specs.Meaning.{terms_of}
use Rattle.rows.specs.declared.row.Unknown.{Unknown}
use Rattle.rows.specs.declared.row.Term.{Term}
use Rattle.rows.specs.declared.row.Row.{Row}
use Rattle.judges.specs.Unknowns.{same_unknown}

-- the coefficient of an unknown in a list of terms, which may name it more than once
abbrev pub share : Unknown → List Term → ℤ
share u [] = pos 0
share u (t ∷ ts) = cond (same_unknown t.unknown u) t.coefficient (pos 0) +ℤ share u ts

-- the coefficient of an unknown in the sum of the rows, each times its number
abbrev pub coefficient_of : Unknown → List Row → List ℤ → ℤ
coefficient_of u [] numbers = pos 0
coefficient_of u (r ∷ rs) [] = pos 0
coefficient_of u (r ∷ rs) (n ∷ ns) = (n *ℤ share u (terms_of r)) +ℤ coefficient_of u rs ns

-- the constant of that sum
abbrev pub constant_of : List Row → List ℤ → ℤ
constant_of [] numbers = pos 0
constant_of (r ∷ rs) [] = pos 0
constant_of (r ∷ rs) (n ∷ ns) = (n *ℤ r.constant) +ℤ constant_of rs ns

-- a test passes each unknown that occurs
abbrev pub each_term : (Unknown → Bool) → List Term → Bool
each_term p ts = list_all (λ t. p t.unknown) ts

abbrev pub each_unknown : (Unknown → Bool) → List Row → Bool
each_unknown p rows = list_all (λ row. each_term p (terms_of row)) rows

-- a test passes the coefficient of each unknown in the sum
abbrev pub each_coefficient : (ℤ → Bool) → List Row → List ℤ → Bool
each_coefficient p rows numbers = each_unknown (λ u. p (coefficient_of u rows numbers)) rows

abbrev pub is_zero : ℤ → Bool
is_zero z = unsigned_abs z == 0

-- numbers of a voucher are at most this, up or down
abbrev pub largest_number : ℕ
largest_number = 1048576

abbrev pub Between : ℤ → ℤ → ℤ → Type 0
Between low high n = (low ≤ℤ n) × (n ≤ℤ high)

abbrev pub between : ℤ → ℤ → ℤ → Bool
between low high n = int_le low n && int_le n high

abbrev pub all_between : ℤ → ℤ → List ℤ → Bool
all_between low high ns = list_all (between low high) ns

-- this many numbers of a voucher, each from `low` to the largest
abbrev pub NumbersFit : ℤ → ℕ → List ℤ → Type 0
NumbersFit low count ns = (length ns ≡ count) × AllByRecursion (Between low (pos largest_number)) ns

abbrev pub numbers_fit : ℤ → ℕ → List ℤ → Bool
numbers_fit low count ns = length ns == count && all_between low (pos largest_number) ns
