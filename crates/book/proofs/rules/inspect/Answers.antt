use Rattle.std.proofs.Common.{arith}
use Rattle.book.specs.Rules.{node_ok}
use Rattle.book.proofs.Lower.{node_lower}
use Rattle.book.proofs.Tests.{holds_more}
use Rattle.book.proofs.rules.inspect.Goals as goal

pub loop-i-preserved : goal.loop-i-preserved
loop-i-preserved c =
    holds_more c.loop-i.i (node_ok c.args.classes.now c.args.nodes.now) c.loop-i.invariant (grind (arith, node_lower c.args.classes.now c.args.nodes.now c.loop-i.i c.loop-i-test.true))
