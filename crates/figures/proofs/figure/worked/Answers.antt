use Rattle.std.proofs.Common.{Ok, Err, arith}
use Rattle.figures.specs.Workings.{chained}
use Rattle.figures.proofs.Chains.{begins, goes_on, stops, ends}
use Rattle.figures.proofs.figure.worked.Goals as goal

pub loop-link-init : goal.loop-link-init
loop-link-init g c = begins g.F.Grid.gauge g.met.F.Grid.grid c.args.working _ c.taken-range.ensures

pub loop-link-preserved : goal.loop-link-preserved
loop-link-preserved g c =
    goes_on g.F.Grid.gauge g.met.F.Grid.grid (chained c.args.working) _ _ _ _ c.loop-link.link-index (Ok c.in_ok-range.range) (omega arith) c.link-item.is c.loop-link.invariant c.taken.ensures c.in_ok-range.ensures.answer

pub returns-in_err-range : goal.returns-in_err-range
returns-in_err-range g c =
    let refused = goes_on g.F.Grid.gauge g.met.F.Grid.grid (chained c.args.working) _ _ _ _ c.loop-link.link-index (Err c.in_err-range.field-0.0) (omega arith) c.link-item.is c.loop-link.invariant c.taken.ensures c.in_err-range.ensures.answer in
    stops g.F.Grid.gauge g.met.F.Grid.grid (chained c.args.working) _ refused _ c.from_residual.ensures.1

pub returns : goal.returns
returns g c = ends g.F.Grid.gauge g.met.F.Grid.grid (chained c.args.working) _ c.args.working.links.now _ (omega arith) c.loop-link.invariant
