use Rattle.std.proofs.Common.{length, sym, ap, ◌∙◌, Some, arith}
use Rattle.books.specs.Drafts.{lists_of, look_in}
use Rattle.books.proofs.Refusals.{row_count, rule_unknown, left_refused, right_refused, sides_refused, rule_full, rule_checked, broken}
use Rattle.books.proofs.desk.Desk.check_rule.Goals as goal

pub returns-in_err-resolve : goal.returns-in_err-resolve
returns-in_err-resolve c = λ t u q at.
    let d = lists_of c.args.book.now in
    let p = c.in_err-resolve.ensures in
    broken _ _ _ _ c.from_residual-in_err-resolve.ensures.1 (rule_unknown d c.args.name.now c.args.root t u c.in_ok-check_name.ensures (rw (← q) p.1) ∙ ap Some (sym p.0))

pub split_at-requires : goal.split_at-requires
split_at-requires c =
    let size = row_count (look_in (lists_of c.args.book.now)) c.args.line.now c.args.self.now.parsed.raw.items _ c.in_ok-resolve.ensures in
    omega (arith, size, ap length c.as_slice-row.ensures.items)

pub returns-in_err-unit : goal.returns-in_err-unit
returns-in_err-unit c = λ t u q at.
    let row = c.as_slice-row.ensures.items in
    broken _ _ _ _ c.from_residual-in_err-unit.ensures.1 (left_refused (lists_of c.args.book.now) c.args.name.now c.args.root t u c.in_ok-check_name.ensures c.as_slice-row.result.now c.args.split (rw (row, ← q) c.in_ok-resolve.ensures) at _ (λ f e. c.in_err-unit.ensures f (c.split_at.ensures.front ∙ e)))

pub returns-in_err-other : goal.returns-in_err-other
returns-in_err-other c = λ t u q at.
    let row = c.as_slice-row.ensures.items in
    broken _ _ _ _ c.from_residual-in_err-other.ensures.1 (right_refused (lists_of c.args.book.now) c.args.name.now c.args.root t u c.in_ok-check_name.ensures c.as_slice-row.result.now c.args.split (rw (row, ← q) c.in_ok-resolve.ensures) at _ (λ f e. c.in_ok-unit.ensures f (c.split_at.ensures.front ∙ e)) _ (λ g e. c.in_err-other.ensures g (c.split_at.ensures.back ∙ e)))

pub returns-then-not-sides_agree : goal.returns-then-not-sides_agree
returns-then-not-sides_agree c = λ t u q at.
    let row = c.as_slice-row.ensures.items in
    sides_refused (lists_of c.args.book.now) c.args.name.now c.args.root t u c.in_ok-check_name.ensures c.as_slice-row.result.now c.args.split (rw (row, ← q) c.in_ok-resolve.ensures) at _ (λ f e. c.in_ok-unit.ensures f (c.split_at.ensures.front ∙ e)) _ (λ g e. c.in_ok-other.ensures g (c.split_at.ensures.back ∙ e)) (sym c.if-not-sides_agree.ensures)

pub returns-in_err-check_room : goal.returns-in_err-check_room
returns-in_err-check_room c = λ t u q at.
    let row = c.as_slice-row.ensures.items in
    broken _ _ _ _ c.from_residual-in_err-check_room.ensures.1 (rule_full (lists_of c.args.book.now) c.args.name.now c.args.root t u c.in_ok-check_name.ensures c.as_slice-row.result.now c.args.split (rw (row, ← q) c.in_ok-resolve.ensures) at _ (λ f e. c.in_ok-unit.ensures f (c.split_at.ensures.front ∙ e)) _ (λ g e. c.in_ok-other.ensures g (c.split_at.ensures.back ∙ e)) (sym c.if-not-sides_agree.ensures) _ (rw (← c.rules.ensures.items) c.in_err-check_room.ensures))

pub returns : goal.returns
returns c = λ t u q at.
    let row = c.as_slice-row.ensures.items in
    rw (← row) (rule_checked (lists_of c.args.book.now) c.args.name.now c.args.root t u c.in_ok-check_name.ensures c.as_slice-row.result.now c.args.split (rw (row, ← q) c.in_ok-resolve.ensures) at _ (λ f e. c.in_ok-unit.ensures f (c.split_at.ensures.front ∙ e)) _ (λ g e. c.in_ok-other.ensures g (c.split_at.ensures.back ∙ e)) (sym c.if-not-sides_agree.ensures) (rw (← c.rules.ensures.items) c.in_ok-check_room.ensures))
