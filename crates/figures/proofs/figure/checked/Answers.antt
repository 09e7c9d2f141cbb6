use Rattle.figures.specs.Workings.{chained, comes}
use Rattle.figures.proofs.Chains.{sides_judged}
use Rattle.figures.proofs.figure.checked.Goals as goal

pub returns : goal.returns
returns g c =
    let G = g.F.Grid.gauge in
    sides_judged G g.met.F.Grid.grid c.args.kind c.in_ok-left.left c.in_ok-right.right
    (comes G (chained c.args.left)) (comes G (chained c.args.right)) _ c.in_ok-left.ensures c.in_ok-right.ensures c.judge.ensures.answer
