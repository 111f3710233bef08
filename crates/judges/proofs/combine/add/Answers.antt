use Rattle.std.proofs.Common.{◌≡◌, ◌^◌, get_or, set, ◌+ℤ◌, to_z, of_z, Some, None, rules, arith, ◌∙◌, sym, ap}
use Rattle.std.specs.Int.{w64}
use Rattle.std.specs.List.{position}
use Rattle.std.proofs.Math.ListN.{length-set}
use Rattle.std.proofs.lemmas.Int.{ints, to_z-of_z}
use Rattle.std.proofs.lemmas.List.Quantifiers.{position-Some}
use Rattle.arrayvec.proofs.ArrayVecLemmas.{items-with_items}
use Rattle.judges.specs.Unknowns.{same_unknown}
use Rattle.judges.proofs.Tables.{no_total, peak_at, put_leaves, put_at, put_end}
use Rattle.judges.proofs.combine.add.Goals as goal

pub overflow_add-deref_mut : goal.overflow_add-deref_mut
overflow_add-deref_mut c =
    let es = c.args.totals.now.items in
    let i = c.in-Some.i in
    let at : position (λ e. same_unknown e.unknown c.args.unknown) es ≡ Some i = search rules in
    let one = peak_at es i (position-Some _ es i no_total at).0 in
    let all = c.requires in
    rw c.deref_mut.ensures.value (omega (arith, ints))

pub returns-in-Some : goal.returns-in-Some
returns-in-Some c =
    let es = c.args.totals.now.items in
    let i = c.in-Some.i in
    let e = get_or es i no_total in
    let at : position (λ e. same_unknown e.unknown c.args.unknown) es ≡ Some i = search rules in
    let one = peak_at es i (position-Some _ es i no_total at).0 in
    let all = c.requires in
    let sum : to_z w64 (of_z w64 (to_z w64 (of_z w64 e.total) +ℤ to_z w64 (of_z w64 c.args.by))) ≡ e.total +ℤ c.args.by = omega (arith, ints) in
    let table = rw c.deref_mut.ensures.value (items-with_items c.args.totals.now _ (length-set es i _))
    ∙ ap (λ z. set es i (record { unknown = e.unknown; total = z })) sum
    ∙ sym (put_at c.args.unknown c.args.by es i at) in
    let after = put_leaves es _ c.args.unknown c.args.by (2 ^ 51) c.requires.size table in
    record { table = after.0; count = after.1; sizes = after.2 }

pub returns-in-None : goal.returns-in-None
returns-in-None c =
    let es = c.args.totals.now.items in
    let at : position (λ e. same_unknown e.unknown c.args.unknown) es ≡ None = search rules in
    let all = c.requires in
    let table = c.push.ensures.items ∙ rw (to_z-of_z w64 c.args.by c.ranges.by) (sym (put_end c.args.unknown c.args.by es at)) in
    let after = put_leaves es _ c.args.unknown c.args.by (2 ^ 51) c.requires.size table in
    record { table = after.0; count = after.1; sizes = after.2 }
