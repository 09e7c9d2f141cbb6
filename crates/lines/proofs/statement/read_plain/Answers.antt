use Rattle.std.proofs.Common.{vec_items, rules}
use Rattle.lines.proofs.Faults.{settled}
use Rattle.lines.proofs.statement.read_plain.Goals as goal

pub returns-clause-reads : goal.returns-clause-reads
returns-clause-reads c =
    let r = c.statement.new.self in
    settled c.args.line.now r.line.now c.statement.result _ (vec_items r.steps.now.raw) _ c.requires.plain (search rules) c.statement.ensures.keeps.0 (search rules) c.statement.ensures.reads
