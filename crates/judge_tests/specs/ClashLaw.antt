-- Two equations that clash have no solution.
use Rattle.std.specs.Prelude.{◌≡◌, Bool, true, false, T, List, [], ◌∷◌, length, get_or, ℤ, pos, ◌+ℤ◌, ◌*ℤ◌, ◌==◌, slice_index_or, refl}
use Rattle.std.proofs.Common.{ap, arith}
use Rattle.std.proofs.lemmas.Int.{ints}
use Rattle.std.proofs.lemmas.Bool.{and_parts, eqb-true, not-true, both_ways}
use Rattle.rows.specs.Making.{no_term}
use Rattle.rows.specs.Meaning.{Valuation, sum_of, terms_of, value, Related, Holds, Impossible}
use Rattle.rows.specs.declared.row.Relation.{Relation}
use Rattle.rows.specs.declared.row.Relation.TheVariants.{AtLeast, Equal}
use Rattle.rows.specs.declared.row.Term.{Term}
use Rattle.rows.specs.declared.row.Row.{Row}
use Rattle.judges.specs.Unknowns.{same_number}
use Rattle.judges.specs.Residue.{is_equal}
use Rattle.judges.specs.Numbers.{number_decides}
use Rattle.judges.specs.Combined.{same_is}
use Rattle.judge_tests.specs.Clash.{same_term, opposed, clash_admits}

-- what an equation of one term says
one_term : (v : Valuation) (r : Row) → is_equal r.relation ≡ true → (ts : List Term) → terms_of r ≡ ts → (length ts == 1) ≡ true → Holds v r →
    ((get_or ts 0 no_term).coefficient *ℤ v (get_or ts 0 no_term).unknown) +ℤ r.constant ≡ pos 0
one_term v r is [] e one h = absurd (both_ways false refl one)
one_term v r is (t ∷ []) e one h =
    let zero : value v r ≡ pos 0 = equation r.relation is h in
    let s = ap (sum_of v) e in
    omega (arith, ints)
  where
    equation : (q : Relation) → is_equal q ≡ true → Related q (value v r) → value v r ≡ pos 0
    equation AtLeast h k = absurd (both_ways false refl h)
    equation Equal h k = k
one_term v r is (t ∷ (s ∷ ts)) e one h = let n = eqb-true (length (t ∷ (s ∷ ts))) 1 one in absurd (omega arith)

same_product : (v : Valuation) (s t : Term) → same_term s t ≡ true → s.coefficient *ℤ v s.unknown ≡ t.coefficient *ℤ v t.unknown
same_product v s t h =
    let a = and_parts (same_number s.coefficient t.coefficient) _ h in
    let p = (number_decides s.coefficient t.coefficient).0 a.0 in
    let q = same_is s.unknown t.unknown a.1 in
    λ i. p i *ℤ v (q i)

opposed_fail : (a b : Row) → opposed a b ≡ true → (v : Valuation) → Holds v a → Holds v b → ⊥
opposed_fail a b h v x y =
    let p = and_parts (is_equal a.relation) _ h in
    let q = and_parts (is_equal b.relation) _ p.1 in
    let r = and_parts (length (terms_of a) == 1) _ q.1 in
    let s = and_parts (length (terms_of b) == 1) _ r.1 in
    let t = and_parts (same_term (slice_index_or (terms_of a) 0 no_term) (slice_index_or (terms_of b) 0 no_term)) _ s.1 in
    let f = one_term v a p.0 (terms_of a) refl r.0 x in
    let g = one_term v b q.0 (terms_of b) refl s.0 y in
    let e = same_product v (slice_index_or (terms_of a) 0 no_term) (slice_index_or (terms_of b) 0 no_term) t.0 in
    let k : a.constant ≡ b.constant = omega (arith, ints) in
    both_ways (same_number a.constant b.constant) (not-true _ t.1) ((number_decides a.constant b.constant).1 k)

true_from : (b : Bool) → T b → b ≡ true
true_from true h = refl
true_from false h = elim h [ ]

pub clash_sound : (rows : List Row) (voucher : List ℤ) → T (clash_admits rows voucher) → Impossible rows
clash_sound [] voucher h = absurd (both_ways false refl (true_from _ h))
clash_sound (a ∷ []) voucher h = absurd (both_ways false refl (true_from _ h))
clash_sound (a ∷ (b ∷ [])) voucher h = λ v all. opposed_fail a b (and_parts (length voucher == 0) _ (true_from _ h)).1 v all.0 all.1.0
clash_sound (a ∷ (b ∷ (c ∷ rs))) voucher h =
    let n = eqb-true (length (a ∷ (b ∷ (c ∷ rs)))) 2 (and_parts (length (a ∷ (b ∷ (c ∷ rs))) == 2) _ (true_from _ h)).0 in
    absurd (omega arith)
