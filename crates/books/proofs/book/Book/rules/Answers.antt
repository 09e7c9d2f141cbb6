use Rattle.books.proofs.Whole.{whole}
use Rattle.books.proofs.book.Book.rules.Goals as goal

pub returns-clause-hold : goal.returns-clause-hold
returns-clause-hold c = (whole _ c.args.self.now.stands).1
