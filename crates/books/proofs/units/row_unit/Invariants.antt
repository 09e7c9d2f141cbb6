use Rattle.std.proofs.Common.{◌≤◌, List, [], length, drop, ℤ, Result}
use Rattle.books.specs.declared.refusal.Refusal.{Refusal}
use Rattle.books.specs.Books.{units}
use Rattle.books.proofs.UnitRows.{Runs}
use Rattle.books.proofs.units.row_unit.Given as goal

abbrev pub invariant-loop-step : goal.invariant-loop-step
invariant-loop-step l =
    let unit = units l.book.entries l.book.lines in
    ((r : Result (List (ℤ × ℤ)) Refusal) → Runs unit (drop l.step-index l.row) l.stack r → Runs unit l.row [] r) × (length l.stack ≤ l.step-index)
