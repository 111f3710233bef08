use Rattle.std.proofs.Common.{rules, tests}
use Rattle.judge_tests.proofs.outside.are_opposed.Goals as goal

pub returns-then-eq : goal.returns-then-eq
returns-then-eq c = search (rules, tests)

pub returns-else-eq : goal.returns-else-eq
returns-else-eq c = search (rules, tests)
