use Rattle.std.proofs.Common.{◌≡◌, ◌+◌, ◌<◌, length, drop, pos, ◌*ℤ◌, FitsSigned, rules, arith, sym, ap, ◌∙◌}
use Rattle.std.specs.Int.{w32, w64}
use Rattle.std.proofs.lemmas.Int.{ints}
use Rattle.std.proofs.lemmas.List.{length_push}
use Rattle.std.proofs.lemmas.Slice.Zip.{zip_turn}
use Rattle.judges.specs.Unknowns.{no_row}
use Rattle.rows.specs.Meaning.{terms_of}
use Rattle.judges.specs.Gather.{put_terms, gathered}
use Rattle.judges.proofs.Tables.{gathered_more, constant_more}
use Rattle.judges.proofs.combine.Combination.of.Goals as goal

pub overflow_add-sum : goal.overflow_add-sum
overflow_add-sum c =
    let t = zip_turn c.args.rows.now c.args.numbers.now c.loop-row.yielded c.into_iter-row-iterator.result c.loop-row.row-iterator c.next.new.self c.next.result (search rules) (search rules) c.loop-row.yielded_by (c.in-Some.row, c.in-Some.number) c.in-Some.is c.next.ensures.steps in
    omega (arith, ints, t.0, c.requires.few, c.loop-row.invariant.4, c.weigh.ensures.size)

pub loop-row-preserved : goal.loop-row-preserved
loop-row-preserved c =
    let rows = c.args.rows.now in
    let ns = c.args.numbers.now in
    let xs = c.loop-row.yielded in
    let k = length xs in
    let r = c.in-Some.row.now in
    let n = c.in-Some.number.now in
    let t = zip_turn rows ns xs c.into_iter-row-iterator.result c.loop-row.row-iterator c.next.new.self c.next.result (search rules) (search rules) c.loop-row.yielded_by (c.in-Some.row, c.in-Some.number) c.in-Some.is c.next.ensures.steps in
    let few : k < 32 = omega (arith, t.0, c.requires.few) in
    let kept = c.loop-row.invariant in
    let fit : FitsSigned w32 n = search rules in
    let fits : FitsSigned w64 r.constant = search rules in
    let table : c.add_terms.new.totals.items ≡ put_terms c.loop-row.sum.totals.items n (terms_of r) = search rules in
    let product : c.weigh.result ≡ n *ℤ r.constant = search rules in
    let size = c.weigh.ensures.size in
    let more = constant_more rows ns k t.0 t.1 r n (t.2 no_row) (t.3 (pos 0)) in
    rw (length_push xs (c.in-Some.row, c.in-Some.number)) (
      kept.0 ∙ gathered_more rows ns k t.0 t.1 r n (t.2 no_row) (t.3 (pos 0)) c.loop-row.sum.totals.items ∙ sym (ap (λ es. gathered es (drop (k + 1) rows) (drop (k + 1) ns)) table),
      omega (arith, ints, kept.1, more, product),
      omega (arith, kept.2, c.add_terms.ensures.count),
      omega (arith, kept.3, c.add_terms.ensures.sizes),
      omega (arith, ints, kept.4),
    )
