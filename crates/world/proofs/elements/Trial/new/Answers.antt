use Rattle.std.proofs.Common.{sym, ap, ◌∙◌}
use Rattle.book.specs.Whole.{classes_of}
use Rattle.book.proofs.Tests.{holds_more}
use Rattle.world.specs.Worlds.{element_ok}
use Rattle.world.proofs.Slots.{element_next}
use Rattle.world.proofs.elements.Trial.new.Goals as goal

pub loop-i-preserved : goal.loop-i-preserved
loop-i-preserved c =
    let e = element_next c.args.log.now c.loop-i.i _ c.loop-i-test.true in
    holds_more c.loop-i.i _ c.loop-i.invariant (ap (element_ok (classes_of c.args.book.now)) e ∙ sym c.if-not-element_fits.ensures)
