use Rattle.std.proofs.Common.{sym, ap, ◌∙◌, Some}
use Rattle.books.specs.Drafts.{lists_of}
use Rattle.books.proofs.Refusals.{line_unknown, line_refused, line_full, line_checked, broken}
use Rattle.books.proofs.desk.Desk.check_line.Goals as goal

pub returns-in_err-resolve : goal.returns-in_err-resolve
returns-in_err-resolve c = λ t q.
    let d = lists_of c.args.book.now in
    let p = c.in_err-resolve.ensures in
    broken _ _ _ _ c.from_residual-in_err-resolve.ensures.1 (line_unknown d c.args.name.now t c.in_ok-check_name.ensures (rw (← q) p.1) ∙ ap Some (sym p.0))

pub returns-in_err-unit : goal.returns-in_err-unit
returns-in_err-unit c = λ t q.
    broken _ _ _ _ c.from_residual-in_err-unit.ensures.1 (line_refused (lists_of c.args.book.now) c.args.name.now t c.in_ok-check_name.ensures c.resolve.new.self.row (rw (← q) c.in_ok-resolve.ensures) _ (λ f e. c.in_err-unit.ensures f (c.as_slice-row.ensures.items ∙ e)))

pub returns-in_err-check_room : goal.returns-in_err-check_room
returns-in_err-check_room c = λ t q.
    broken _ _ _ _ c.from_residual-in_err-check_room.ensures.1 (line_full (lists_of c.args.book.now) c.args.name.now t c.in_ok-check_name.ensures c.resolve.new.self.row (rw (← q) c.in_ok-resolve.ensures) _ (λ f e. c.in_ok-unit.ensures f (c.as_slice-row.ensures.items ∙ e)) _ (rw (← c.lines.ensures.items, ← c.as_slice-row.ensures.items) c.in_err-check_room.ensures))

pub returns : goal.returns
returns c = λ t q.
    line_checked (lists_of c.args.book.now) c.args.name.now t c.in_ok-check_name.ensures c.resolve.new.self.row (rw (← q) c.in_ok-resolve.ensures) _ (λ f e. c.in_ok-unit.ensures f (c.as_slice-row.ensures.items ∙ e)) (rw (← c.lines.ensures.items, ← c.as_slice-row.ensures.items) c.in_ok-check_room.ensures)
