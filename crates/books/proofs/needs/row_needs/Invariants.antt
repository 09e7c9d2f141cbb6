use Rattle.std.proofs.Common.{◌≡◌, ℕ, take}
use Rattle.sets.specs.Members.{has}
use Rattle.books.specs.Needs.{row_entry, row_line}
use Rattle.books.proofs.needs.row_needs.Given as goal

abbrev pub invariant-loop-step : goal.invariant-loop-step
invariant-loop-step l = record {
  entries : (e : ℕ) → has l.needs.entries e ≡ row_entry l.lines (take l.step-index l.row) e;
  lines : (k : ℕ) → has l.needs.lines k ≡ row_line l.lines (take l.step-index l.row) k;
}
