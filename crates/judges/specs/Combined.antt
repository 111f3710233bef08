-- The coefficients of a sum of rows are the totals of the table that the code gathers.
use Rattle.std.specs.Prelude.{◌≡◌, Bool, true, false, cond, ◌⊎◌, List, [], ◌∷◌, ℤ, pos, ◌+ℤ◌, ◌*ℤ◌, Decides, ◌==◌, refl}
use Rattle.std.proofs.Common.{sym, ap, subst, ◌∙◌, inl, inr, ⊎_elim, arith}
use Rattle.std.proofs.Math.IntN.{*ℤ-zero, zero-*ℤ, *ℤ_comm, suc_ℤ-*ℤ}
use Rattle.std.proofs.lemmas.Int.{ints}
use Rattle.std.proofs.lemmas.Bool.{eqb-true, eq-eqb, and_parts, and_from, cases_Bool, cond_both}
use Rattle.std.proofs.lemmas.Bool.Decides.{nat_tests, same_from_decides}
use Rattle.std.specs.List.{list_all}
use Rattle.rows.specs.Meaning.{Valuation, sum_of, terms_of}
use Rattle.rows.specs.declared.row.Unknown.{Unknown}
use Rattle.rows.specs.declared.row.Term.{Term}
use Rattle.rows.specs.declared.row.Row.{Row}
use Rattle.judges.specs.declared.combine.Total.{Total}
use Rattle.judges.specs.Unknowns.{same_unknown}
use Rattle.judges.specs.Combination.{share, coefficient_of, each_term, each_unknown, each_coefficient}
use Rattle.judges.specs.Gather.{put, put_terms, gathered, each_total}
use Rattle.judges.specs.Ring.{add_times, times_add, times_times}

pub same_is : (x y : Unknown) → same_unknown x y ≡ true → x ≡ y
same_is x y h =
    let both = and_parts (x.object == y.object) (x.attribute == y.attribute) h in
    let p = eqb-true x.object y.object both.0 in
    let q = eqb-true x.attribute y.attribute both.1 in
    λ i. record { object = p i; attribute = q i }

pub same_refl : (x : Unknown) → same_unknown x x ≡ true
same_refl x = and_from (x.object == x.object) (x.attribute == x.attribute) (eq-eqb x.object x.object refl) (eq-eqb x.attribute x.attribute refl)

pub same_decides : (x y : Unknown) → Decides (same_unknown x y) (x ≡ y)
same_decides x y = (same_is x y, λ e. subst (λ z. same_unknown x z ≡ true) e (same_refl x))

same_sym : (x y : Unknown) → same_unknown x y ≡ false → same_unknown y x ≡ false
same_sym x y h = grind (arith, nat_tests)

-- what a table is worth under a valuation
abbrev pub worth : Valuation → List Total → ℤ
worth v [] = pos 0
worth v (e ∷ es) = (e.total *ℤ v e.unknown) +ℤ worth v es

-- what the terms of the rows, each times its number, are worth
abbrev pub weighted : Valuation → List Row → List ℤ → ℤ
weighted v [] numbers = pos 0
weighted v (r ∷ rs) [] = pos 0
weighted v (r ∷ rs) (n ∷ ns) = (n *ℤ sum_of v (terms_of r)) +ℤ weighted v rs ns

worth_put : (v : Valuation) (es : List Total) (u : Unknown) (c : ℤ) → worth v (put es u c) ≡ worth v es +ℤ (c *ℤ v u)
worth_put v [] u c = omega (arith, ints)
worth_put v (e ∷ es) u c =
    cond_both (same_unknown e.unknown u) (record { unknown = e.unknown; total = e.total +ℤ c } ∷ es) (e ∷ put es u c)
    (λ x. worth v x ≡ worth v (e ∷ es) +ℤ (c *ℤ v u))
    (λ h.
    let q = ap (λ x. c *ℤ v x) (same_is e.unknown u h) in
    let d = add_times e.total c (v e.unknown) in
    omega (arith, ints))
    (λ h. let q = worth_put v es u c in omega (arith, ints))

worth_put_terms : (v : Valuation) (es : List Total) (n : ℤ) (ts : List Term) → worth v (put_terms es n ts) ≡ worth v es +ℤ (n *ℤ sum_of v ts)
worth_put_terms v es n [] = let z = *ℤ-zero n in omega (arith, ints)
worth_put_terms v es n (t ∷ ts) =
    let rest = worth_put_terms v (put es t.unknown (n *ℤ t.coefficient)) n ts in
    let first = worth_put v es t.unknown (n *ℤ t.coefficient) in
    let a = times_times n t.coefficient (v t.unknown) in
    let d = times_add n (t.coefficient *ℤ v t.unknown) (sum_of v ts) in
    omega (arith, ints)

worth_gather : (v : Valuation) (es : List Total) (rows : List Row) (ns : List ℤ) → worth v (gathered es rows ns) ≡ worth v es +ℤ weighted v rows ns
worth_gather v es [] ns = omega (arith, ints)
worth_gather v es (r ∷ rs) [] = omega (arith, ints)
worth_gather v es (r ∷ rs) (n ∷ ns) =
    let rest = worth_gather v (put_terms es n (terms_of r)) rs ns in
    let first = worth_put_terms v es n (terms_of r) in
    omega (arith, ints)

pub weighted_is : (v : Valuation) (rows : List Row) (ns : List ℤ) → weighted v rows ns ≡ worth v (gathered [] rows ns)
weighted_is v rows ns = let a = worth_gather v [] rows ns in omega (arith, ints)

-- a coefficient is what the terms are worth where one unknown is 1 and the others are 0
abbrev only : Unknown → Valuation
only u x = cond (same_unknown x u) (pos 1) (pos 0)

times_pick : (b : Bool) (c : ℤ) → cond b c (pos 0) ≡ c *ℤ cond b (pos 1) (pos 0)
times_pick true c = sym (*ℤ_comm c (pos 1) ∙ suc_ℤ-*ℤ (pos 0) c ∙ (let z = zero-*ℤ c in let g : (pos 0 *ℤ c) +ℤ c ≡ c = omega (arith, ints) in g))
times_pick false c = sym (*ℤ-zero c)

share_is : (u : Unknown) (ts : List Term) → share u ts ≡ sum_of (only u) ts
share_is u [] = refl
share_is u (t ∷ ts) =
    let p = times_pick (same_unknown t.unknown u) t.coefficient in
    let r = share_is u ts in
    omega (arith, ints)

coefficient_weighted : (u : Unknown) (rows : List Row) (ns : List ℤ) → coefficient_of u rows ns ≡ weighted (only u) rows ns
coefficient_weighted u [] ns = refl
coefficient_weighted u (r ∷ rs) [] = refl
coefficient_weighted u (r ∷ rs) (n ∷ ns) =
    let p = ap (λ x. n *ℤ x) (share_is u (terms_of r)) in
    let q = coefficient_weighted u rs ns in
    omega (arith, ints)

coefficient_is : (u : Unknown) (rows : List Row) (ns : List ℤ) → coefficient_of u rows ns ≡ worth (only u) (gathered [] rows ns)
coefficient_is u rows ns = coefficient_weighted u rows ns ∙ weighted_is (only u) rows ns

-- a test that passes each unknown that occurs passes any other, or that has no share
share_or : (p : Unknown → Bool) (u : Unknown) (ts : List Term) → each_term p ts ≡ true → (p u ≡ true) ⊎ (share u ts ≡ pos 0)
share_or p u [] h = inr refl
share_or p u (t ∷ ts) h =
    let both = and_parts (p t.unknown) (each_term p ts) h in
    ⊎_elim
    (λ e. inl (sym (ap p (same_is t.unknown u e)) ∙ both.0))
    (λ e. ⊎_elim inl (λ z. inr (rw e (let g : pos 0 +ℤ share u ts ≡ pos 0 = omega (arith, ints) in g))) (share_or p u ts both.1))
    (cases_Bool (same_unknown t.unknown u))

coefficient_or : (p : Unknown → Bool) (u : Unknown) (rows : List Row) (ns : List ℤ) → each_unknown p rows ≡ true → (p u ≡ true) ⊎ (coefficient_of u rows ns ≡ pos 0)
coefficient_or p u [] ns h = inr refl
coefficient_or p u (r ∷ rs) [] h = inr refl
coefficient_or p u (r ∷ rs) (n ∷ ns) h =
    let both = and_parts (each_term p (terms_of r)) (each_unknown p rs) h in
    ⊎_elim inl
    (λ z. ⊎_elim inl
    (λ y. inr (
    let m = ap (λ x. n *ℤ x) z ∙ *ℤ-zero n in
    let g : (n *ℤ share u (terms_of r)) +ℤ coefficient_of u rs ns ≡ pos 0 = omega (arith, ints) in g))
    (coefficient_or p u rs ns both.1))
    (share_or p u (terms_of r) both.0)

every : {X : Type 0} (p : X → Bool) → ((x : X) → p x ≡ true) → (xs : List X) → list_all p xs ≡ true
every p h [] = refl
every p h (x ∷ xs) = and_from (p x) (list_all p xs) (h x) (every p h xs)

every_unknown : (p : Unknown → Bool) → ((u : Unknown) → p u ≡ true) → (rows : List Row) → each_unknown p rows ≡ true
every_unknown p h rows = every (λ (row : Row). each_term p (terms_of row)) (λ row. every (λ (t : Term). p t.unknown) (λ t. h t.unknown) (terms_of row)) rows

-- the unknowns of a table differ
abbrev Fresh : Unknown → List Total → Type 0
Fresh u [] = Unit {0}
Fresh u (e ∷ es) = (same_unknown e.unknown u ≡ false) × Fresh u es

abbrev Apart : List Total → Type 0
Apart [] = Unit {0}
Apart (e ∷ es) = Fresh e.unknown es × Apart es

fresh_put : (u : Unknown) (es : List Total) (w : Unknown) (c : ℤ) → same_unknown w u ≡ false → Fresh u es → Fresh u (put es w c)
fresh_put u [] w c h f = (h, tt)
fresh_put u (e ∷ es) w c h f =
    cond_both (same_unknown e.unknown w) (record { unknown = e.unknown; total = e.total +ℤ c } ∷ es) (e ∷ put es w c)
    (Fresh u) (λ _. (f.0, f.1)) (λ _. (f.0, fresh_put u es w c h f.1))

apart_put : (es : List Total) (w : Unknown) (c : ℤ) → Apart es → Apart (put es w c)
apart_put [] w c a = (tt, tt)
apart_put (e ∷ es) w c a =
    cond_both (same_unknown e.unknown w) (record { unknown = e.unknown; total = e.total +ℤ c } ∷ es) (e ∷ put es w c)
    Apart (λ _. (a.0, a.1)) (λ h. (fresh_put e.unknown es w c (same_sym e.unknown w h) a.0, apart_put es w c a.1))

apart_put_terms : (es : List Total) (n : ℤ) (ts : List Term) → Apart es → Apart (put_terms es n ts)
apart_put_terms es n [] a = a
apart_put_terms es n (t ∷ ts) a = apart_put_terms (put es t.unknown (n *ℤ t.coefficient)) n ts (apart_put es t.unknown (n *ℤ t.coefficient) a)

apart_gathered : (es : List Total) (rows : List Row) (ns : List ℤ) → Apart es → Apart (gathered es rows ns)
apart_gathered es [] ns a = a
apart_gathered es (r ∷ rs) [] a = a
apart_gathered es (r ∷ rs) (n ∷ ns) a = apart_gathered (put_terms es n (terms_of r)) rs ns (apart_put_terms es n (terms_of r) a)

-- an entry's own total, and that of an unknown which the table does not have
worth_fresh : (u : Unknown) (es : List Total) → Fresh u es → worth (only u) es ≡ pos 0
worth_fresh u [] f = refl
worth_fresh u (e ∷ es) f =
    let q = worth_fresh u es f.1 in
    let z = *ℤ-zero e.total in
    rw f.0 (let g : (e.total *ℤ pos 0) +ℤ worth (only u) es ≡ pos 0 = omega (arith, ints) in g)

worth_own : (e : Total) (es : List Total) → Fresh e.unknown es → worth (only e.unknown) (e ∷ es) ≡ e.total
worth_own e es f =
    let p = times_pick true e.total in
    let k = ap (λ b. e.total *ℤ cond b (pos 1) (pos 0)) (same_refl e.unknown) in
    let q = worth_fresh e.unknown es f in
    omega (arith, ints)

worth_other : (u : Unknown) (e : Total) (es : List Total) → same_unknown e.unknown u ≡ false → worth (only u) (e ∷ es) ≡ worth (only u) es
worth_other u e es h = let k = ap (λ b. e.total *ℤ cond b (pos 1) (pos 0)) h ∙ *ℤ-zero e.total in omega (arith, ints)

-- a test that passes 0
module _ (p : ℤ → Bool) (zero : p (pos 0) ≡ true) where
  totals_from : (es : List Total) → Apart es → ((u : Unknown) → p (worth (only u) es) ≡ true) → each_total p es ≡ true
  totals_from [] a h = refl
  totals_from (e ∷ es) a h =
      and_from (p e.total) (each_total p es) (ap p (sym (worth_own e es a.0)) ∙ h e.unknown)
      (totals_from es a.1 (λ u. ⊎_elim
      (λ s. ap p (subst (λ x. worth (only x) es ≡ pos 0) (same_is e.unknown u s) (worth_fresh e.unknown es a.0)) ∙ zero)
      (λ s. ap p (sym (worth_other u e es s)) ∙ h u)
      (cases_Bool (same_unknown e.unknown u))))

  totals_to : (es : List Total) → Apart es → each_total p es ≡ true → (u : Unknown) → p (worth (only u) es) ≡ true
  totals_to [] a h u = zero
  totals_to (e ∷ es) a h u =
      let both = and_parts (p e.total) (each_total p es) h in
      ⊎_elim
      (λ s. subst (λ x. p (worth (only x) (e ∷ es)) ≡ true) (same_is e.unknown u s) (ap p (worth_own e es a.0) ∙ both.0))
      (λ s. ap p (worth_other u e es s) ∙ totals_to es a.1 both.1 u)
      (cases_Bool (same_unknown e.unknown u))

  module _ (rows : List Row) (ns : List ℤ) where
    -- the test says it of every unknown, whether it occurs or not
    pub coefficients_decide : Decides (each_coefficient p rows ns) ((u : Unknown) → p (coefficient_of u rows ns) ≡ true)
    coefficients_decide = (
      λ h u. ⊎_elim (λ q. q) (λ z. ap p z ∙ zero) (coefficient_or (λ x. p (coefficient_of x rows ns)) u rows ns h),
      λ h. every_unknown (λ u. p (coefficient_of u rows ns)) h rows,
    )

    pub totals_decide : Decides (each_total p (gathered [] rows ns)) ((u : Unknown) → p (coefficient_of u rows ns) ≡ true)
    totals_decide = (
      λ h u. ap p (coefficient_is u rows ns) ∙ totals_to (gathered [] rows ns) (apart_gathered [] rows ns tt) h u,
      λ h. totals_from (gathered [] rows ns) (apart_gathered [] rows ns tt) (λ u. ap p (sym (coefficient_is u rows ns)) ∙ h u),
    )

    -- the test over all unknowns is the test over the table
    pub totals_are : each_total p (gathered [] rows ns) ≡ each_coefficient p rows ns
    totals_are = same_from_decides (each_total p (gathered [] rows ns)) (each_coefficient p rows ns) totals_decide coefficients_decide
