use Rattle.std.proofs.Common.{rules}
use Rattle.ranges.specs.declared.verdict.Verdict.TheVariants.{Holds, Breaks, Open}
use Rattle.ranges.specs.Ranges.{span}
use Rattle.ranges.proofs.Calls.{root_judged}
use Rattle.ranges.proofs.verdict.judge_root.Goals as goal

pub returns-then-root_holds : goal.returns-then-root_holds
returns-then-root_holds g c = let G = g.F.Grid.gauge in root_judged G (span G c.args.left) (span G c.args.right) _ _ Holds c.in_ok-up.ensures c.in_ok-down.ensures (search rules)

pub returns-then-root_breaks : goal.returns-then-root_breaks
returns-then-root_breaks g c = let G = g.F.Grid.gauge in root_judged G (span G c.args.left) (span G c.args.right) _ _ Breaks c.in_ok-up.ensures c.in_ok-down.ensures (search rules)

pub returns : goal.returns
returns g c = let G = g.F.Grid.gauge in root_judged G (span G c.args.left) (span G c.args.right) _ _ Open c.in_ok-up.ensures c.in_ok-down.ensures (search rules)
