use Rattle.ranges.proofs.Calls.{extremes_step}
use Rattle.ranges.proofs.range.Range.extremes.Goals as goal

pub returns : goal.returns
returns g c = rw (c.extreme.ensures, c.extreme-2.ensures) (extremes_step g.F.Grid.gauge _ _ _ g.met.F.Grid.grid.reach)
