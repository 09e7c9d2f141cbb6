use Rattle.ranges.proofs.Verdicts.{verdict_promise}
use Rattle.ranges.proofs.verdict.judged.Goals as goal

pub returns-in-Plain : goal.returns-in-Plain
returns-in-Plain g c = rw c.in-Plain.is (verdict_promise _ g.met.F.Grid.grid _ _ _ _ c.judge_plain.ensures)

pub returns-in-Root : goal.returns-in-Root
returns-in-Root g c = rw c.in-Root.is (verdict_promise _ g.met.F.Grid.grid _ _ _ _ c.judge_root.ensures)
