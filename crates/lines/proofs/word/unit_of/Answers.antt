use Rattle.std.proofs.Common.{codes, arith, rules}
use Rattle.std.proofs.lemmas.Slice.Eq.{text_from_reads}
use Rattle.lines.proofs.word.unit_of.Goals as goal

pub returns-in-kipin : goal.returns-in-kipin
returns-in-kipin c = rw (text_from_reads c.args.text.now (codes "kipin") (omega arith) (search rules))
