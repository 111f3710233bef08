-- The lowest number at which a test fails.
use Rattle.std.specs.Prelude.{◌≡◌, ℕ, ◌<◌, ◌≤◌, Bool, true, false}

-- the test holds at each number from 1 to count
abbrev pub HoldsTo : ℕ → (ℕ → Bool) → Type 0
HoldsTo count test = (k : ℕ) → 1 ≤ k → k ≤ count → test k ≡ true

-- n, from 1 to count, is the lowest number at which the test fails
pub record Lowest (count : ℕ) (test : ℕ → Bool) (n : ℕ) : Type 0 where
  pub low : 1 ≤ n
  pub high : n ≤ count
  pub fails : test n ≡ false
  pub first : (k : ℕ) → 1 ≤ k → k < n → test k ≡ true
