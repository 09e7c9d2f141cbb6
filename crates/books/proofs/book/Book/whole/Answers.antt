use Rattle.books.proofs.Whole.{whole}
use Rattle.books.proofs.book.Book.whole.Goals as goal

pub returns-clause-whole : goal.returns-clause-whole
returns-clause-whole c = whole _ c.args.self.stands
