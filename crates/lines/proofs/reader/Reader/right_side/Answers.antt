use Rattle.std.proofs.Common.{true, sym, subst, arith}
use Rattle.lines.specs.Tokens.{tok}
use Rattle.lines.specs.Grammar.{Right}
use Rattle.lines.proofs.Lines.{at_root}
use Rattle.lines.proofs.reader.Reader.right_side.Goals as goal

pub returns-then-is_root-clause-reads : goal.returns-then-is_root-clause-reads
returns-then-is_root-clause-reads c =
    let x = at_root (tok c.next_token-after.result.0) c.next_token-after.ensures.parts c.if-is_root.ensures in
    let s = c.in_ok-under_root.ensures.reads in
    ((s.0.0, subst (λ ts. Right ts true s.0.0) (sym x.1) (s.0.1 x.0 x.2), s.0.2), grind arith)

pub returns-clause-reads : goal.returns-clause-reads
returns-clause-reads c =
    let s = c.in_ok-last_sum.ensures.reads in
    ((s.0, Right.plain s.1, s.2), grind arith)
