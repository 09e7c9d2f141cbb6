use Rattle.std.proofs.Common.{◌<◌, length, Err, sym, ap, ◌∙◌, subst, arith, length-append}
use Rattle.std.proofs.lemmas.List.{drop_all, drop_more}
use Rattle.std.proofs.lemmas.Result.{err_from_is_err_and}
use Rattle.books.specs.Books.{units}
use Rattle.books.proofs.UnitRows.{Runs, row_refused, row_unit}
use Rattle.books.proofs.units.row_unit.Goals as goal

pub loop-step-preserved : goal.loop-step-preserved
loop-step-preserved c =
    let unit = units c.args.book.now.entries c.args.book.now.lines in
    let h : c.loop-step.step-index < length c.args.row.now = omega arith in (
      λ r more. c.loop-step.invariant.0 r (subst (λ l. Runs unit l c.loop-step.stack r) (sym (drop_more c.args.row.now c.loop-step.step-index _ h)) (Runs.goes _ _ c.in_ok-unit.ensures.unit (rw (← c.push.ensures) more))),
      grind (arith, length-append, c.in_ok-unit.ensures.len),
    )

pub returns-in_err-unit : goal.returns-in_err-unit
returns-in_err-unit c = λ f e.
    let unit = units c.args.book.now.entries c.args.book.now.lines in
    let h : c.loop-step.step-index < length c.args.row.now = omega arith in
    let p = err_from_is_err_and c.from_residual.result c.from_residual.ensures.1 in
    p.1 ∙ ap Err p.2 ∙ row_refused unit c.args.row.now f e _ (c.loop-step.invariant.0 _ (subst (λ l. Runs unit l c.loop-step.stack (Err c.in_err-unit.field-0.0)) (sym (drop_more c.args.row.now c.loop-step.step-index _ h)) (Runs.stops _ c.in_err-unit.ensures.unit)))

pub returns : goal.returns
returns c = λ f e.
    let unit = units c.args.book.now.entries c.args.book.now.lines in
    row_unit unit c.args.row.now f e _ _ _ (c.loop-step.invariant.0 _ (rw (drop_all c.loop-step.step-index c.args.row.now (omega arith)) Runs.done)) c.pop_unit.ensures.taken
