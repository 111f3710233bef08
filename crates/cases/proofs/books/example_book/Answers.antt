use Rattle.cases.specs.Book.{example_classes_lem, example_nodes_lem}
use Rattle.cases.proofs.Computed.{example_made, lawful_at}
use Rattle.cases.proofs.books.example_book.Goals as goal

pub lawful_book-requires : goal.lawful_book-requires
lawful_book-requires c = lawful_at _ example_classes_lem _ example_nodes_lem c.example_classes.ensures c.example_nodes-nodes.ensures example_made
