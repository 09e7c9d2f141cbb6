use Rattle.std.proofs.Common.{◌≡◌, [], sym, refl, ap, subst}
use Rattle.lines.specs.declared.word.Word.TheVariants as words
use Rattle.lines.specs.Tokens.{tok}
use Rattle.lines.specs.Grammar.{Stated, Line}
use Rattle.lines.specs.Expected.{State, outcome}
use Rattle.lines.specs.Reading.{ahead}
use Rattle.lines.proofs.Joins.{at_part, unwritten}
use Rattle.lines.proofs.Lines.{first_word}
use Rattle.lines.proofs.reader.Reader.statement.Goals as goal

pub returns-in-End-clause-reads : goal.returns-in-End-clause-reads
returns-in-End-clause-reads c =
    let e : ahead c.args.self.now ≡ [] = at_part _ c.next.ensures.part (ap tok c.in-End.is) in
    ((subst (λ ts. Line ts Stated.blank) (sym e) Line.blank, unwritten c.next.ensures.takes), ap (outcome State.start) e)

pub returns-in-Entry-clause-reads : goal.returns-in-Entry-clause-reads
returns-in-Entry-clause-reads c = first_word words.Entry State.entry_name c.entry.new.self c.entry.result (at_part _ c.next.ensures.part (ap tok c.in-Word.is)) (sym c.in-Entry.ensures) refl c.next.ensures.takes c.entry.ensures.reads

pub returns-in-Line-clause-reads : goal.returns-in-Line-clause-reads
returns-in-Line-clause-reads c = first_word words.Line State.line_name c.formula_line.new.self c.formula_line.result (at_part _ c.next.ensures.part (ap tok c.in-Word.is)) (sym c.in-Line.ensures) refl c.next.ensures.takes c.formula_line.ensures.reads

pub returns-in-Rule-clause-reads : goal.returns-in-Rule-clause-reads
returns-in-Rule-clause-reads c = first_word words.Rule State.rule_name c.rule.new.self c.rule.result (at_part _ c.next.ensures.part (ap tok c.in-Word.is)) (sym c.in-Rule.ensures) refl c.next.ensures.takes c.rule.ensures.reads
