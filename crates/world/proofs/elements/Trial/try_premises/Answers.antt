use Rattle.std.proofs.Common.{◌∙◌, arith}
use Rattle.std.proofs.lemmas.Result.{err_from_is_err_and}
use Rattle.world.proofs.Gone.{few_nodes, gone_none, gone_skips, gone_over, gone_stops, gone_goes}
use Rattle.world.proofs.elements.Trial.try_premises.Goals as goal
use Rattle.world.proofs.elements.Trial.try_premises.Goals.{then-node+in_ok-seen+else-not-seen, else-node}

pub loop-i-init : goal.loop-i-init
loop-i-init c = gone_none c.args.self.now c.args.budget

pub overflow_cast-n : goal.overflow_cast-n
overflow_cast-n c = omega (arith, few_nodes c.args.self.now c.nodes-node-items.ensures)

pub overflow_add-n : goal.overflow_add-n
overflow_add-n c = omega (arith, few_nodes c.args.self.now c.nodes-node-items.ensures)

pub returns-in_err-seen : goal.returns-in_err-seen
returns-in_err-seen c =
    let p = err_from_is_err_and c.from_residual.result c.from_residual.ensures.1 in
    let k = c.in_err-seen.ensures in
    rw p.1 (p.2 ∙ k.0, gone_over c.loop-i.invariant c.nodes-node-items.ensures c.loop-i-test.true c.if-node.true k.1)

pub returns-then-not-seen : goal.returns-then-not-seen
returns-then-not-seen c = gone_stops c.loop-i.invariant c.nodes-node-items.ensures c.loop-i-test.true c.if-node.true c.in_ok-seen.ensures c.if-not-seen.true

pub loop-i-preserved : goal.loop-i-preserved
loop-i-preserved c =
    elim c.if-node.branch [
      | then-node+in_ok-seen+else-not-seen w ↦
          rw w.visits-is (gone_goes c.loop-i.invariant c.nodes-node-items.ensures c.loop-i-test.true w.if-node.true w.in_ok-seen.ensures w.if-not-seen.false)
      | else-node w ↦ rw w.visits-is (gone_skips c.loop-i.invariant c.nodes-node-items.ensures c.loop-i-test.true w.if-node.false)
    ]
