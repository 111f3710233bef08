use Rattle.std.proofs.Common.{pos, rules, tests}
use Rattle.std.proofs.lemmas.Iterator.{YieldsList-from_slice}
use Rattle.std.proofs.lemmas.Iterator.Search.{all_from_yields_List}
use Rattle.judges.specs.Combination.{largest_number, between}
use Rattle.judges.proofs.shared.numbers_fit.Goals as goal

pub returns-then-numbers-count : goal.returns-then-numbers-count
returns-then-numbers-count c =
    let all = all_from_yields_List (between c.args.low (pos largest_number)) _ _ c.all.result c.all.ensures.ran (YieldsList-from_slice c.args.numbers.now cc) (λ x b q k. search (rules, tests)) in
    search (rules, all)
