use Rattle.std.proofs.Common.{◌<◌, length, get_or, pos, FitsSigned, sym, ap, ◌∙◌, rules}
use Rattle.std.specs.Int.{w32}
use Rattle.std.proofs.lemmas.Int.{to_z-of_z}
use Rattle.std.proofs.lemmas.Slice.{first_rest}
use Rattle.judges.specs.Residue.{residue_answer}
use Rattle.judges.proofs.residues.leave_remainder.Goals as goal

pub returns-in-len1-up : goal.returns-in-len1-up
returns-in-len1-up c =
    let voucher = c.args.voucher.now in
    let some : 0 < length voucher = search rules in
    let fit : FitsSigned w32 (get_or voucher 0 (pos 0)) = search rules in
    (simp to_z-of_z at c.leave_by.ensures) ∙ ap (residue_answer c.args.rows.now) (sym (first_rest voucher (pos 0) some))
