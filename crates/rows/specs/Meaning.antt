-- What a row says of whole numbers that have no bound.
use Rattle.std.specs.Prelude.{◌≡◌, ℕ, List, [], ◌∷◌, take, ℤ, pos, ◌+ℤ◌, ◌*ℤ◌, ◌≤ℤ◌}
use Rattle.rows.specs.declared.row.Unknown.{Unknown}
use Rattle.rows.specs.declared.row.Term.{Term}
use Rattle.rows.specs.declared.row.Relation.{Relation}
use Rattle.rows.specs.declared.row.Relation.TheVariants.{AtLeast, Equal}
use Rattle.rows.specs.declared.row.Row.{Row}

-- a whole number for each unknown
abbrev pub Valuation : Type 0
Valuation = Unknown → ℤ

-- a row's places for terms
abbrev pub most_terms : ℕ
most_terms = 8

-- the terms that count
abbrev pub terms_of : Row → List Term
terms_of row = take row.count row.terms

abbrev pub sum_of : Valuation → List Term → ℤ
sum_of v [] = pos 0
sum_of v (t ∷ ts) = (t.coefficient *ℤ v t.unknown) +ℤ sum_of v ts

-- the sum of the terms, plus the constant
abbrev pub value : Valuation → Row → ℤ
value v row = sum_of v (terms_of row) +ℤ row.constant

abbrev pub Related : Relation → ℤ → Type 0
Related AtLeast z = pos 0 ≤ℤ z
Related Equal z = z ≡ pos 0

-- the valuation satisfies the row
abbrev pub Holds : Valuation → Row → Type 0
Holds v row = Related row.relation (value v row)

abbrev pub AllHold : Valuation → List Row → Type 0
AllHold v [] = Unit {0}
AllHold v (r ∷ rs) = Holds v r × AllHold v rs

-- no whole numbers satisfy all rows
abbrev pub Impossible : List Row → Type 0
Impossible rows = (v : Valuation) → AllHold v rows → ⊥
