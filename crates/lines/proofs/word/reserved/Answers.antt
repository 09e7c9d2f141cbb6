use Rattle.std.proofs.Common.{codes, arith, rules}
use Rattle.std.proofs.lemmas.Slice.Eq.{text_from_reads}
use Rattle.lines.proofs.word.reserved.Goals as goal

pub returns-in-line : goal.returns-in-line
returns-in-line c = rw (text_from_reads c.args.text.now (codes "line") (omega arith) (search rules))

pub returns-in-rule : goal.returns-in-rule
returns-in-rule c = rw (text_from_reads c.args.text.now (codes "rule") (omega arith) (search rules))

pub returns-in-root : goal.returns-in-root
returns-in-root c = rw (text_from_reads c.args.text.now (codes "root") (omega arith) (search rules))

pub returns-in-entry : goal.returns-in-entry
returns-in-entry c = rw (text_from_reads c.args.text.now (codes "entry") (omega arith) (search rules))

pub returns-in-form : goal.returns-in-form
returns-in-form c = rw (text_from_reads c.args.text.now (codes "form") (omega arith) (search rules))

pub returns-in-close : goal.returns-in-close
returns-in-close c = rw (text_from_reads c.args.text.now (codes "close") (omega arith) (search rules))
