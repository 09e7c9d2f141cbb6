use Rattle.std.specs.Fn.{FnReturnsAt}
use Rattle.sets.specs.Members.{has}
use Rattle.books.proofs.Tested.{Tells}
use Rattle.books.proofs.places.places.Given as goal

abbrev pub invariant-loop-i : goal.invariant-loop-i
invariant-loop-i g l = Tells (FnReturnsAt g.F.Fn l.test) l.items (has l.found) l.i
