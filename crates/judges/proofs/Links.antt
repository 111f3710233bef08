-- A ring of rows: each one beside the next, and the last one beside the first.
use Rattle.std.proofs.Common.{◌≡◌, suc, ◌-◌, ◌<◌, Bool, ◌&&◌, List, [], ◌∷◌, length, get_or, take, drop, sym, ap, ◌∙◌, arith}
use Rattle.std.specs.List.{list_all, zip}
use Rattle.std.proofs.Math.Bool.{and-true, and_assoc}
use Rattle.std.proofs.lemmas.List.{take_all}
use Rattle.rows.specs.declared.row.Row.{Row}
use Rattle.judges.specs.Chain.{plus_of, linked, leads, home_of}

leads_on : (first row : Row) (more : List Row) (any : Row) → leads (plus_of first) (row ∷ more) ≡ (list_all linked (zip (row ∷ more) more) && linked (get_or (row ∷ more) (length more) any, first))
leads_on first row [] any = and-true (linked (row, first))
leads_on first row (next ∷ more) any =
    ap (λ b. linked (row, next) && b) (leads_on first next more any)
    ∙ sym (and_assoc (linked (row, next)) (list_all linked (zip (next ∷ more) more)) (linked (get_or (next ∷ more) (length more) any, first)))

-- b says whether each row leads to the next
pub leads_round : (rows : List Row) (any : Row) (b : Bool) → 0 < length rows → b ≡ list_all linked (zip rows (take (length rows - 1) (drop 1 rows))) → (b && linked (get_or rows (length rows - 1) any, get_or rows 0 any)) ≡ leads (home_of rows) rows
leads_round [] any b h is = absurd (omega arith)
leads_round (row ∷ more) any b h is = let last : suc (length more) - 1 ≡ length more = omega arith in rw (is, last, take_all (length more) more (omega arith)) (sym (leads_on row row more any))
