use Rattle.ranges.proofs.Steps.{step_promise}
use Rattle.ranges.proofs.range.Range.stepped.Goals as goal

pub returns-in-Plus : goal.returns-in-Plus
returns-in-Plus g c = rw c.in-Plus.is (step_promise _ g.met.F.Grid.grid _ _ _ _ c.sum.ensures)

pub returns-in-Minus : goal.returns-in-Minus
returns-in-Minus g c = rw c.in-Minus.is (step_promise _ g.met.F.Grid.grid _ _ _ _ c.difference.ensures)

pub returns-in-Times : goal.returns-in-Times
returns-in-Times g c = rw c.in-Times.is (step_promise _ g.met.F.Grid.grid _ _ _ _ c.product.ensures)

pub returns-in-Over : goal.returns-in-Over
returns-in-Over g c = rw c.in-Over.is (step_promise _ g.met.F.Grid.grid _ _ _ _ c.quotient.ensures)

pub returns-in-Least : goal.returns-in-Least
returns-in-Least g c = rw c.in-Least.is (step_promise _ g.met.F.Grid.grid _ _ _ _ c.min.ensures)

pub returns-in-Greatest : goal.returns-in-Greatest
returns-in-Greatest g c = rw c.in-Greatest.is (step_promise _ g.met.F.Grid.grid _ _ _ _ c.max.ensures)
