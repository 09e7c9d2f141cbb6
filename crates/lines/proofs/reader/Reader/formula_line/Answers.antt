use Rattle.std.proofs.Common.{◌++◌, refl, ap, ◌∙◌, arith}
use Rattle.lines.specs.Grammar.{postfix}
use Rattle.lines.specs.Expected.{State}
use Rattle.lines.proofs.Joins.{broken, unwritten}
use Rattle.lines.proofs.Lines.{no_name, is_line}
use Rattle.lines.proofs.reader.Reader.formula_line.Goals as goal

pub returns-in_err-name-clause-reads : goal.returns-in_err-name-clause-reads
returns-in_err-name-clause-reads c =
    broken _ _ _ _ c.from_residual.ensures.1 (no_name State.line_name _ refl refl _ _ c.in_err-name.ensures.name)

pub returns-clause-reads : goal.returns-clause-reads
returns-clause-reads c =
    let x = c.in_ok-name.ensures.name in
    let e = c.in_ok-expect.ensures.sign in
    let s = c.in_ok-last_sum.ensures.reads in
    let none = unwritten c.expect.ensures.takes ∙ unwritten c.name.ensures.takes in (
      λ k kw. (s.0, is_line x.0 x.1 e s.1 k kw, s.2 ∙ ap (λ b. b ++ postfix s.0) none),
      grind arith,
    )
