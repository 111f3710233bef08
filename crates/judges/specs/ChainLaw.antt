-- The judge Chain: its tests decide its conditions, and its law.
use Rattle.std.specs.Prelude.{◌≡◌, ◌≤◌, Bool, true, false, ◌&&◌, T, ◌⊎◌, List, [], ◌∷◌, length, ℤ, pos, negsuc, ◌+ℤ◌, ◌*ℤ◌, ◌≤ℤ◌, is_ok, Decides, ◌==◌, slice_index_or, refl}
use Rattle.std.proofs.Common.{sym, ap, subst, inl, inr, ⊎_elim, arith}
use Rattle.std.proofs.Math.IntN.{suc_ℤ-*ℤ, pred_ℤ-*ℤ, zero-*ℤ}
use Rattle.std.proofs.lemmas.Int.{ints}
use Rattle.std.proofs.lemmas.Bool.{both_ways, and_parts, or_cases, eqb-true}
use Rattle.std.proofs.lemmas.Bool.Decides.{Decides-eqb, Decides-and}
use Rattle.std.proofs.ByRecursion.{Decides-by_and}
use Rattle.std.specs.List.{AllByRecursion}
use Rattle.rows.specs.Making.{no_term}
use Rattle.rows.specs.Meaning.{Valuation, terms_of, sum_of, value, Related, AllHold, Impossible}
use Rattle.rows.specs.declared.cause.JudgeCause.{JudgeCause}
use Rattle.rows.specs.declared.cause.JudgeCause.TheVariants.{TooManyRows, BadVoucher, BadShape, UnknownsLeft, NoConflict}
use Rattle.rows.specs.declared.row.Unknown.{Unknown}
use Rattle.rows.specs.declared.row.Term.{Term}
use Rattle.rows.specs.declared.row.Relation.{Relation}
use Rattle.rows.specs.declared.row.Relation.TheVariants.{AtLeast, Equal}
use Rattle.rows.specs.declared.row.Row.{Row}
use Rattle.judges.specs.Unknowns.{same_unknown, same_number}
use Rattle.judges.specs.Chain.{chain_rows, unknown_with_lem, minus_of, IsDifference, is_at_least, are_opposed_lem, is_difference, all_differences, next_plus, Leads, leads, home_of, constants_of, chain_asks, chain_passes, chain_answer}
use Rattle.judges.specs.Answering.{asked}
use Rattle.judges.specs.Combined.{same_decides}
use Rattle.judges.specs.Numbers.{leb_decides, le_z_decides, number_decides}

-- what each test decides
at_least_decides : (r : Relation) → Decides (is_at_least r) (r ≡ AtLeast)
at_least_decides AtLeast = (λ h. refl, λ e. refl)
at_least_decides Equal = (λ h. absurd (both_ways false refl h), λ e. ap is_at_least e)

-- the terms of a difference
abbrev of_one : Unknown → Term
of_one u = record { coefficient = pos 1; unknown = u }

abbrev of_minus_one : Unknown → Term
of_minus_one w = record { coefficient = negsuc 0; unknown = w }

abbrev Opposed : List Term → Type 0
Opposed ts = (u w : Unknown) × ((ts ≡ of_one u ∷ (of_minus_one w ∷ [])) ⊎ (ts ≡ of_minus_one w ∷ (of_one u ∷ [])))

abbrev opposed : List Term → Bool
opposed ts = length ts == 2 && are_opposed_lem (slice_index_or ts 0 no_term).coefficient (slice_index_or ts 1 no_term).coefficient

opposed_from : (ts : List Term) → Opposed ts → opposed ts ≡ true
opposed_from ts (u, w, inl e) = ap opposed e
opposed_from ts (u, w, inr e) = ap opposed e

-- two terms that have these coefficients
two_terms : (a b : Term) (m n : ℤ) → (same_number a.coefficient m && same_number b.coefficient n) ≡ true → a ∷ (b ∷ []) ≡ record { coefficient = m; unknown = a.unknown } ∷ (record { coefficient = n; unknown = b.unknown } ∷ [])
two_terms a b m n h =
    let both = and_parts (same_number a.coefficient m) (same_number b.coefficient n) h in
    let p = (number_decides a.coefficient m).0 both.0 in
    let q = (number_decides b.coefficient n).0 both.1 in
    λ i. record { coefficient = p i; unknown = a.unknown } ∷ (record { coefficient = q i; unknown = b.unknown } ∷ [])

opposed_to : (ts : List Term) → opposed ts ≡ true → Opposed ts
opposed_to [] h = absurd (both_ways false refl h)
opposed_to (a ∷ []) h = absurd (both_ways false refl h)
opposed_to (a ∷ (b ∷ [])) h =
    let x = a.coefficient in
    let y = b.coefficient in
    ⊎_elim (λ k. (a.unknown, b.unknown, inl (two_terms a b (pos 1) (negsuc 0) k))) (λ k. (b.unknown, a.unknown, inr (two_terms a b (negsuc 0) (pos 1) k)))
    (or_cases (same_number x (pos 1) && same_number y (negsuc 0)) (same_number x (negsuc 0) && same_number y (pos 1)) h)
opposed_to (a ∷ (b ∷ (c ∷ ts))) h =
    let n = length (a ∷ (b ∷ (c ∷ ts))) in
    let two = eqb-true n 2 (and_parts (n == 2) (are_opposed_lem a.coefficient b.coefficient) h).0 in
    absurd (omega arith)

difference_decides : (row : Row) → Decides (is_difference row) (IsDifference row)
difference_decides row =
    Decides-and (is_at_least row.relation) (opposed (terms_of row)) (at_least_decides row.relation) (opposed_to (terms_of row), opposed_from (terms_of row))

leads_decides : (home : Unknown) (rows : List Row) → Decides (leads home rows) (Leads home rows)
leads_decides home [] = (λ h. tt, λ h. refl)
leads_decides home (r ∷ rs) =
    Decides-and (same_unknown (minus_of r) (next_plus home rs)) (leads home rs) (same_decides (minus_of r) (next_plus home rs)) (leads_decides home rs)

pub chain_decides : (rows : List Row) (voucher : List ℤ) (e : JudgeCause) → Decides (chain_passes rows voucher e) (chain_asks rows voucher e)
chain_decides rows voucher TooManyRows = leb_decides (length rows) chain_rows
chain_decides rows voucher BadVoucher = Decides-eqb (length voucher) 0
chain_decides rows voucher BadShape = Decides-by_and is_difference IsDifference all_differences difference_decides refl (λ _ _. refl) rows
chain_decides rows voucher UnknownsLeft = leads_decides (home_of rows) rows
chain_decides rows voucher NoConflict = le_z_decides (constants_of rows) (negsuc 0)

-- the law
one_times : (x : ℤ) → pos 1 *ℤ x ≡ x
one_times x = let a = suc_ℤ-*ℤ (pos 0) x in let z = zero-*ℤ x in omega (arith, ints)

minus_one_times : (x : ℤ) → (negsuc 0 *ℤ x) +ℤ x ≡ pos 0
minus_one_times x = let a = pred_ℤ-*ℤ (pos 0) x in let z = zero-*ℤ x in omega (arith, ints)

module _ (v : Valuation) where
  -- the sum of the terms, and the unknown with -1, make the unknown with 1
  abbrev EvensOut : List Term → Type 0
  EvensOut ts = sum_of v ts +ℤ v (unknown_with_lem (negsuc 0) ts) ≡ v (unknown_with_lem (pos 1) ts)

  evens_out : (ts : List Term) → Opposed ts → EvensOut ts
  evens_out ts (u, w, inl e) = subst EvensOut (sym e) (omega (arith, ints, one_times (v u), minus_one_times (v w)))
  evens_out ts (u, w, inr e) = subst EvensOut (sym e) (omega (arith, ints, one_times (v u), minus_one_times (v w)))

  -- from the unknown where a way ends back to the one where it begins, there is no more than the constants
  way : (home : Unknown) (rows : List Row) → AllByRecursion IsDifference rows → Leads home rows → AllHold v rows → v home ≤ℤ (v (next_plus home rows) +ℤ constants_of rows)
  way home [] d l h = omega (arith, ints)
  way home (r ∷ rs) d l h =
      let s = evens_out (terms_of r) d.0.1 in
      let P : Relation → Type 0 = λ x. Related x (value v r) in
      let k = subst P d.0.0 h.0 in
      let e = ap v l.0 in
      let rest = way home rs d.1 l.1 h.1 in
      omega (arith, ints)

home_is : (rows : List Row) → next_plus (home_of rows) rows ≡ home_of rows
home_is [] = refl
home_is (r ∷ rs) = refl

module _ (rows : List Row) (voucher : List ℤ) (h : T (is_ok (chain_answer rows voucher))) where
  all : (e : JudgeCause) → chain_asks rows voucher e
  all = asked (chain_asks rows voucher) (chain_passes rows voucher) (chain_decides rows voucher) h

  pub chain_sound : Impossible rows
  chain_sound v hold =
      let w = way v (home_of rows) rows (all BadShape) (all UnknownsLeft) hold in
      let e = ap v (home_is rows) in
      let k : constants_of rows ≤ℤ negsuc 0 = all NoConflict in
      omega (arith, ints)

  pub chain_bounded : length rows ≤ chain_rows
  chain_bounded = all TooManyRows
