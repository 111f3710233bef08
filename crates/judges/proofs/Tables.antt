-- What `put` does to a table, by place, and the sizes of its totals.
use Rattle.std.proofs.Common.{◌≡◌, ℕ, zero, suc, ◌+◌, ◌<◌, ◌≤◌, Bool, true, false, cond, List, [], ◌∷◌, ◌++◌, length, get_or, drop, set, ℤ, pos, ◌+ℤ◌, ◌*ℤ◌, unsigned_abs, Some, None, nat_lt, refl, ap, arith}
use Rattle.std.specs.List.{position, position_or_len}
use Rattle.std.proofs.lemmas.List.Quantifiers.{position-Some}
use Rattle.std.proofs.lemmas.List.Recursion.{max_bounds}
use Rattle.std.proofs.lemmas.List.Sums.{fails_before_first}
use Rattle.std.proofs.lemmas.Bool.Decides.{nat_tests}
use Rattle.std.proofs.lemmas.List.{drop_more}
use Rattle.std.proofs.lemmas.Bool.{cond_both}
use Rattle.std.proofs.lemmas.Int.{ints}
use Rattle.rows.specs.declared.row.Unknown.{Unknown}
use Rattle.rows.specs.declared.row.Row.{Row}
use Rattle.judges.specs.declared.combine.Total.{Total}
use Rattle.rows.specs.Meaning.{terms_of}
use Rattle.judges.specs.Unknowns.{same_unknown, no_unknown, no_row}
use Rattle.judges.specs.Combination.{constant_of}
use Rattle.judges.specs.Gather.{put, put_terms, gathered, peak}

-- what a read past the end of a table gives
abbrev pub no_total : Total
no_total = record { unknown = no_unknown; total = pos 0 }

-- an entry with c more
abbrev pub raised : Total → ℤ → Total
raised e c = record { unknown = e.unknown; total = e.total +ℤ c }

none_long : (n m : ℕ) → cond (nat_lt n m) (Some n) None ≡ None → m ≤ n
none_long n m h = grind (arith, nat_tests)

-- an entry with c more for an unknown, by what `position` finds
module _ (u : Unknown) (c : ℤ) where
  abbrev is_here : Total → Bool
  is_here e = same_unknown e.unknown u

  put_first : (es : List Total) (i : ℕ) → i < length es → is_here (get_or es i no_total) ≡ true → ((k : ℕ) → k < i → is_here (get_or es k no_total) ≡ false) → put es u c ≡ set es i (raised (get_or es i no_total) c)
  put_first [] i l h before = absurd (omega arith)
  put_first (e ∷ es) zero l h before = rw h refl
  put_first (e ∷ es) (suc i) l h before = rw (before 0 (omega arith)) (ap (λ x. e ∷ x) (put_first es i (omega arith) h (λ k l. before (suc k) (omega arith))))

  put_last : (es : List Total) → ((k : ℕ) → k < length es → is_here (get_or es k no_total) ≡ false) → put es u c ≡ es ++ record { unknown = u; total = c } ∷ []
  put_last [] none = refl
  put_last (e ∷ es) none = rw (none 0 (omega arith)) (ap (λ x. e ∷ x) (put_last es (λ k l. none (suc k) (omega arith))))

  pub put_at : (es : List Total) (i : ℕ) → position is_here es ≡ Some i → put es u c ≡ set es i (raised (get_or es i no_total) c)
  put_at es i h = let f = position-Some is_here es i no_total h in put_first es i f.0 f.1 f.2

  pub put_end : (es : List Total) → position is_here es ≡ None → put es u c ≡ es ++ record { unknown = u; total = c } ∷ []
  put_end es h = put_last es (λ k l. let past = none_long (position_or_len is_here es) (length es) h in fails_before_first is_here es k no_total (omega arith))

pub peak_at : (es : List Total) (i : ℕ) → i < length es → unsigned_abs (get_or es i no_total).total ≤ peak es
peak_at es i l = max_bounds peak (λ e. unsigned_abs e.total) refl (λ _ _. refl) es i no_total l

peak_put : (es : List Total) (u : Unknown) (c : ℤ) → peak (put es u c) ≤ peak es + unsigned_abs c
peak_put [] u c = omega arith
peak_put (e ∷ es) u c =
    let rest = peak_put es u c in
    cond_both (same_unknown e.unknown u) (raised e c ∷ es) (e ∷ put es u c) (λ x. peak x ≤ peak (e ∷ es) + unsigned_abs c) (λ _. omega (arith, ints)) (λ _. omega arith)

length_put : (es : List Total) (u : Unknown) (c : ℤ) → length (put es u c) ≤ length es + 1
length_put [] u c = omega arith
length_put (e ∷ es) u c =
    let rest = length_put es u c in
    cond_both (same_unknown e.unknown u) (raised e c ∷ es) (e ∷ put es u c) (λ x. length x ≤ length (e ∷ es) + 1) (λ _. omega arith) (λ _. omega arith)

-- what the table is after c more
pub put_leaves : (es new : List Total) (u : Unknown) (c : ℤ) (k : ℕ) → unsigned_abs c ≤ k → new ≡ put es u c → (new ≡ put es u c) × (length new ≤ length es + 1) × (peak new ≤ peak es + k)
put_leaves es new u c k h is = let n = length_put es u c in let p = peak_put es u c in (is, rw is n, rw is (omega arith))

-- one more row r and number n
module _ (rows : List Row) (ns : List ℤ) (i : ℕ) (l : i < length rows) (m : i < length ns) (r : Row) (n : ℤ) (is_row : r ≡ get_or rows i no_row) (is_number : n ≡ get_or ns i (pos 0)) where
  pub constant_more : constant_of (drop i rows) (drop i ns) ≡ (n *ℤ r.constant) +ℤ constant_of (drop (i + 1) rows) (drop (i + 1) ns)
  constant_more = rw (drop_more rows i no_row l, drop_more ns i (pos 0) m, is_row, is_number) refl

  pub gathered_more : (es : List Total) → gathered es (drop i rows) (drop i ns) ≡ gathered (put_terms es n (terms_of r)) (drop (i + 1) rows) (drop (i + 1) ns)
  gathered_more es = rw (drop_more rows i no_row l, drop_more ns i (pos 0) m, is_row, is_number) refl
