use Rattle.std.proofs.Common.{slice_index_or, rules}
use Rattle.book.specs.Rules.{no_term}
use Rattle.book.proofs.Filled.{filled}
use Rattle.book.proofs.parts.Atom.new.Goals as goal

pub returns-clause-places : goal.returns-clause-places
returns-clause-places c = filled _ _ (λ i. slice_index_or c.args.terms.now i no_term) (λ i y q h. search rules) c.from_fn.result 8 no_term c.from_fn.ensures.items
