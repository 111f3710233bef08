use Rattle.std.proofs.Common.{◌≡◌, length, take, slice_index_or, ap, ◌∙◌, rules}
use Rattle.rows.specs.Making.{no_term, places_of}
use Rattle.rows.proofs.Filled.{filled}
use Rattle.rows.proofs.Places.{places_kept}
use Rattle.rows.proofs.row.Row.new.Goals as goal

pub returns : goal.returns
returns c =
    let ts = c.args.terms.now in
    let places : c.from_fn.result ≡ places_of ts = filled _ _ (λ i. slice_index_or ts i no_term) (λ i y q h. search rules) c.from_fn.result 8 no_term c.from_fn.ensures.items in
    record { row = search (rules, places); kept = ap (take (length ts)) places ∙ places_kept ts c.if-terms-gt-MOST_TERMS.false }
