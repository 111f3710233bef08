use Rattle.std.proofs.Common.{true, false, rules, sym, ◌∙◌}
use Rattle.judges.specs.Unknowns.{no_row}
use Rattle.judges.proofs.Links.{leads_round}
use Rattle.judges.proofs.chains.is_ring.Goals as goal

pub returns-then-are_linked : goal.returns-then-are_linked
returns-then-are_linked c = c.leads_to.ensures ∙ leads_round c.args.rows.now no_row true (search rules) (sym c.if-are_linked.true ∙ c.are_linked.ensures)

pub returns-else-are_linked : goal.returns-else-are_linked
returns-else-are_linked c = c.if-are_linked.false ∙ leads_round c.args.rows.now no_row false (search rules) (sym c.if-are_linked.false ∙ c.are_linked.ensures)
