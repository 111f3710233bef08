use Rattle.std.proofs.Common.{get_or, ◌*ℤ◌, ap, ◌∙◌, arith}
use Rattle.std.proofs.lemmas.Option.{unwrap_or-slice_get}
use Rattle.world.specs.Worlds.{world_of}
use Rattle.world.proofs.Values.{small}
use Rattle.world.proofs.Slots.{slot_reading}
use Rattle.world.proofs.Sizes.{product_fits, product_is, product_size}
use Rattle.world.proofs.elements.Trial.part.Goals as goal

pub overflow_mul-result : goal.overflow_mul-result
overflow_mul-result c =
    let t = c.args.t.now in
    let l = small c.args.self.now (get_or c.args.slots.now t.slot 0) t.attribute in
    product_fits t.coefficient c.requires.coefficient l c.from.ensures (rw (c.value.ensures, unwrap_or-slice_get) at c.unwrap_or-x.ensures)

pub returns : goal.returns
returns c =
    let t = c.args.t.now in
    let l = small c.args.self.now (get_or c.args.slots.now t.slot 0) t.attribute in
    let e = product_is t.coefficient c.requires.coefficient l c.from.ensures (rw (c.value.ensures, unwrap_or-slice_get) at c.unwrap_or-x.ensures) in
    record {
      value = e ∙ ap (λ z. t.coefficient *ℤ z) (slot_reading (world_of c.args.self.now.log.now) c.args.slots.now t.slot t.attribute (omega arith));
      size = rw e (product_size t.coefficient _ c.requires.coefficient l);
    }
