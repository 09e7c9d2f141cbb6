use Rattle.std.proofs.Common.{drop}
use Rattle.figures.specs.Workings.{chained}
use Rattle.figures.proofs.Chains.{Along}
use Rattle.figures.proofs.figure.worked.Given as goal

abbrev pub invariant-loop-link : goal.invariant-loop-link
invariant-loop-link g l = Along g.F.Grid.gauge g.met.F.Grid.grid (chained l.working) l.range (drop l.link-index l.working.links.now)
