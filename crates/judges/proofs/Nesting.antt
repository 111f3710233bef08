-- A judge that is made of named ones has one answer.
use Rattle.std.proofs.Common.{◌≡◌, zero, suc, Bool, true, false, cond, ◌&&◌, leb, List, [], ◌∷◌, length, ℤ, pos, negsuc, is_ok, Ok, Err, sym, refl, ap, ◌∙◌, ⊎_elim, arith}
use Rattle.std.proofs.lemmas.Bool.{true≢false, leb-true, leb-false}
use Rattle.rows.specs.declared.cause.JudgeCause.{JudgeCause}
use Rattle.rows.specs.declared.cause.JudgeCause.TheVariants.{TooManyRows, BadVoucher}
use Rattle.rows.specs.declared.row.Row.{Row}
use Rattle.judges.specs.Judging.{Answer, Meaning, Caused}
use Rattle.judges.specs.Pair.{pair_rows, picked, pair_admits, pair_gives, pair_answer}
use Rattle.judges.specs.Nested.{Named, named_admits, named_gives, named_answer, NestedFixed}

-- an answer a that is known, and an answer r that says the same
alone : (a r : Answer) → is_ok r ≡ is_ok a → Caused (λ e. a ≡ Err e) r → r ≡ a
alone (Ok s) (Ok t) y g = refl
alone (Ok s) (Err e) y g = sym g
alone (Err d) (Ok t) y g = absurd (true≢false y)
alone (Err d) (Err e) y g = sym g

-- meaning, causes and answer of a judge on these rows
abbrev Fixes : (List ℤ → Bool) → (List ℤ → JudgeCause → Type 0) → (List ℤ → Answer) → Type 0
Fixes admits gives answers = (voucher : List ℤ) (r : Answer) → is_ok r ≡ admits voucher → Caused (gives voucher) r → r ≡ answers voucher

module _ (a b : List ℤ → Bool) (g h : List ℤ → JudgeCause → Type 0) (x y : List ℤ → Answer) (first : Fixes a g x) (second : Fixes b h y) where
  bad : (r : Answer) → is_ok r ≡ false → Caused (λ e. e ≡ BadVoucher) r → r ≡ Err BadVoucher
  bad (Ok t) p c = absurd (true≢false p)
  bad (Err e) p c = ap Err c

  pub picked_fixes : (v : List ℤ) (r : Answer) → is_ok r ≡ picked a b false v → Caused (λ e. picked (λ rest. g rest e) (λ rest. h rest e) (e ≡ BadVoucher) v) r → r ≡ picked x y (Err BadVoucher) v
  picked_fixes [] r p c = bad r p c
  picked_fixes (pos zero ∷ rest) r p c = first rest r p c
  picked_fixes (pos (suc zero) ∷ rest) r p c = second rest r p c
  picked_fixes (pos (suc (suc n)) ∷ rest) r p c = bad r p c
  picked_fixes (negsuc n ∷ rest) r p c = bad r p c

module _ (first second : Meaning) (g h : List Row → List ℤ → JudgeCause → Type 0) (x y : List Row → List ℤ → Answer) (rows : List Row) (f : Fixes (first rows) (g rows) (x rows)) (s : Fixes (second rows) (h rows) (y rows)) where
  many : (v : List ℤ) (r : Answer) → leb (length rows) pair_rows ≡ false → is_ok r ≡ pair_admits first second rows v → Caused (pair_gives g h rows v) r → r ≡ pair_answer x y rows v
  many v (Ok t) l p c = absurd (true≢false (p ∙ ap (λ b. b && picked (first rows) (second rows) false v) l))
  many v (Err e) l p c =
      ⊎_elim (λ k. ap Err k.1) (λ k. absurd (omega (arith, leb-false (length rows) pair_rows l, k.0))) c
      ∙ sym (ap (λ b. cond b (picked (x rows) (y rows) (Err BadVoucher) v) (Err TooManyRows)) l)

  few : (v : List ℤ) (r : Answer) → leb (length rows) pair_rows ≡ true → is_ok r ≡ pair_admits first second rows v → Caused (pair_gives g h rows v) r → r ≡ pair_answer x y rows v
  few v r l p c =
      picked_fixes (first rows) (second rows) (g rows) (h rows) (x rows) (y rows) f s v r (p ∙ ap (λ b. b && picked (first rows) (second rows) false v) l) (within r c)
      ∙ sym (ap (λ b. cond b (picked (x rows) (y rows) (Err BadVoucher) v) (Err TooManyRows)) l)
    where
      within : (r : Answer) → Caused (pair_gives g h rows v) r → Caused (λ e. picked (λ rest. g rows rest e) (λ rest. h rows rest e) (e ≡ BadVoucher) v) r
      within (Ok t) c = tt
      within (Err e) c = ⊎_elim (λ k. absurd (omega (arith, leb-true (length rows) pair_rows l, k.0))) (λ k. k.1) c

  pub pair_fixes : Fixes (pair_admits first second rows) (pair_gives g h rows) (pair_answer x y rows)
  pair_fixes v r p c = go (leb (length rows) pair_rows) refl
    where
      go : (b : Bool) → leb (length rows) pair_rows ≡ b → r ≡ pair_answer x y rows v
      go true l = few v r l p c
      go false l = many v r l p c

pub nested_fixed : NestedFixed
nested_fixed Named.sum rows voucher r p c = alone (named_answer Named.sum rows voucher) r p c
nested_fixed Named.chain rows voucher r p c = alone (named_answer Named.chain rows voucher) r p c
nested_fixed Named.residue rows voucher r p c = alone (named_answer Named.residue rows voucher) r p c
nested_fixed (Named.pair a b) rows voucher r p c =
    pair_fixes (named_admits a) (named_admits b) (named_gives a) (named_gives b) (named_answer a) (named_answer b) rows (nested_fixed a rows) (nested_fixed b rows) voucher r p c
