use Rattle.std.proofs.Common.{arith}
use Rattle.std.proofs.lemmas.Int.{ints}
use Rattle.figures.specs.Workings.{chained, comes}
use Rattle.figures.proofs.Chains.{reads}
use Rattle.figures.proofs.figure.read.Goals as goal

pub returns : goal.returns
returns g c =
    let G = g.F.Grid.gauge in
    reads G g.met.F.Grid.grid c.in_ok-range.range (comes G (chained c.args.working)) _ c.in_ok-range.ensures c.exact.ensures c.exact-2.ensures
    (omega (arith, ints, c.exact.type_inv)) (omega (arith, ints, c.exact-2.type_inv))
