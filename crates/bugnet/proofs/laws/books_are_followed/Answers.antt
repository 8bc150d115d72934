use Rattle.bugnet.proofs.Books.{books_followed}
use Rattle.bugnet.proofs.laws.books_are_followed.Goals as goal

pub returns : goal.returns
returns c = books_followed c.whole_lists_are_followed.ensures
