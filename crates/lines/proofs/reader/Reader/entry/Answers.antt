use Rattle.std.proofs.Common.{refl, ◌∙◌, arith}
use Rattle.lines.specs.Expected.{State}
use Rattle.lines.proofs.Joins.{broken, unwritten}
use Rattle.lines.proofs.Lines.{no_name, is_entry}
use Rattle.lines.proofs.reader.Reader.entry.Goals as goal

pub returns-in_err-name-clause-reads : goal.returns-in_err-name-clause-reads
returns-in_err-name-clause-reads c =
    broken _ _ _ _ c.from_residual.ensures.1 (no_name State.entry_name _ refl refl _ _ c.in_err-name.ensures.name)

pub returns-clause-reads : goal.returns-clause-reads
returns-clause-reads c =
    let x = c.in_ok-name.ensures.name in
    let y = c.in_ok-unit.ensures.unit in
    let e = c.in_ok-end.ensures in
    let none = unwritten c.unit.ensures.takes ∙ unwritten c.name.ensures.takes in
    (λ k kw. (is_entry x.0 x.1 y.1 y.2 e k kw, none), grind arith)
