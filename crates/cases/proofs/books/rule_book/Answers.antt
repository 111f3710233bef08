use Rattle.std.proofs.Common.{take, ap}
use Rattle.cases.specs.Book.{example_classes_lem, rule_nodes}
use Rattle.cases.proofs.Computed.{rule_made, lawful_at}
use Rattle.cases.proofs.books.rule_book.Goals as goal

pub lawful_book-requires : goal.lawful_book-requires
lawful_book-requires c = lawful_at _ example_classes_lem _ rule_nodes c.example_classes.ensures (ap (take 3) c.example_nodes-nodes.ensures) rule_made
