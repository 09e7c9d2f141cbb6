use Rattle.lines.proofs.Faults.{refused_once}
use Rattle.lines.proofs.statement.read_line.Goals as goal

pub returns-then-is_err-clause-only : goal.returns-then-is_err-clause-only
returns-then-is_err-clause-only c = refused_once c.args.line.now _ _ c.read_plain-read.ensures.reads

pub returns-else-is_err-clause-only : goal.returns-else-is_err-clause-only
returns-else-is_err-clause-only c = refused_once c.args.line.now _ _ c.read_plain-read.ensures.reads
