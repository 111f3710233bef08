-- Inside the library: the totals so far, in a table with one entry for each unknown.
use Rattle.std.specs.Prelude.{ℕ, ◌≤◌, max, Bool, cond, List, [], ◌∷◌, ℤ, pos, ◌+ℤ◌, ◌*ℤ◌, slice_index_or, unsigned_abs}
use Rattle.std.specs.List.{fold, list_all, zip}
use Rattle.rows.specs.Meaning.{terms_of}
use Rattle.rows.specs.declared.row.Unknown.{Unknown}
use Rattle.rows.specs.declared.row.Term.{Term}
use Rattle.rows.specs.declared.row.Row.{Row}
use Rattle.judges.specs.Unknowns.{same_unknown}
use Rattle.judges.specs.Combination.{largest_number}
use Rattle.judges.specs.declared.combine.Total.{Total}

-- how many rows a table has room for
abbrev pub most_combined : ℕ
most_combined = 32

-- the largest total, up or down
abbrev pub peak : List Total → ℕ
peak [] = 0
peak (e ∷ es) = max (unsigned_abs e.total) (peak es)

-- each number of a voucher is within its limit
abbrev pub Small : List ℤ → Type 0
Small ns = (k : ℕ) → unsigned_abs (slice_index_or ns k (pos 0)) ≤ largest_number

-- c more for an unknown
abbrev pub put : List Total → Unknown → ℤ → List Total
put [] u c = record { unknown = u; total = c } ∷ []
put (e ∷ es) u c = cond (same_unknown e.unknown u) (record { unknown = e.unknown; total = e.total +ℤ c } ∷ es) (e ∷ put es u c)

abbrev pub put_terms : List Total → ℤ → List Term → List Total
put_terms es n ts = fold (λ es t. put es t.unknown (n *ℤ t.coefficient)) es ts

abbrev pub gathered : List Total → List Row → List ℤ → List Total
gathered es rows numbers = fold (λ es p. put_terms es p.1 (terms_of p.0)) es (zip rows numbers)

abbrev pub each_total : (ℤ → Bool) → List Total → Bool
each_total p es = list_all (λ e. p e.total) es
