use Rattle.std.proofs.Common.{◌++◌, length, vec_items, refl, sym, ap, ◌∙◌, arith}
use Rattle.std.proofs.lemmas.List.{length-map}
use Rattle.lines.specs.Grammar.{postfix}
use Rattle.lines.specs.Expected.{State}
use Rattle.lines.specs.Reading.{item}
use Rattle.lines.proofs.Joins.{broken, unwritten}
use Rattle.lines.proofs.Lines.{no_name, is_rule}
use Rattle.lines.proofs.reader.Reader.rule.Goals as goal

pub returns-in_err-name-clause-reads : goal.returns-in_err-name-clause-reads
returns-in_err-name-clause-reads c =
    broken _ _ _ _ c.from_residual.ensures.1 (no_name State.rule_name _ refl refl _ _ c.in_err-name.ensures.name)

pub returns-clause-reads : goal.returns-clause-reads
returns-clause-reads c =
    let x = c.in_ok-name.ensures.name in
    let e = c.in_ok-expect.ensures.sign in
    let r = c.in_ok-outer_sum.ensures.reads in
    let f = c.in_ok-expect-2.ensures.sign in
    let s = c.in_ok-root.ensures.reads in
    let none = unwritten c.expect.ensures.takes ∙ unwritten c.name.ensures.takes in
    let left = unwritten c.expect-2.ensures.takes ∙ r.steps ∙ ap (λ b. b ++ postfix r.tree) none in
    let split = c.len-split.ensures ∙ sym (length-map (vec_items c.expect-2.new.self.steps.now.raw) (item c.expect-2.new.self.line.now)) ∙ ap length left in (
      λ k kw. (r.tree, s.0.0, is_rule x.0 x.1 e r.reading f s.0.1 k kw, s.0.2 ∙ ap (λ b. b ++ postfix s.0.0) left, split),
      grind arith,
    )
