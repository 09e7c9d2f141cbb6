use Rattle.books.proofs.Growth.{stands_entry}
use Rattle.books.proofs.book.Book.push_entry.Goals as goal

pub invariant_of-self : goal.invariant_of-self
invariant_of-self c = record { stands = rw c.push.ensures (stands_entry _ c.args.self.now.stands c.args.name c.args.unit c.requires) }
