use Rattle.std.proofs.Common.{arith, w64, to_z, of_z}
use Rattle.std.proofs.lemmas.Int.{ints}
use Rattle.numbers.specs.Counts.{order}
use Rattle.numbers.proofs.counted.ordered.Goals as goal

pub returns : goal.returns
returns g c =
    let S = g.C.Counted.scale in
    rw (g.met.C.Counted.means c.args.left, g.met.C.Counted.means c.args.right)
    (order S.per_one S.some (g.C.Counted.counts c.args.left) (g.C.Counted.counts c.args.right) (to_z w64 (of_z w64 c.count.result)) (to_z w64 (of_z w64 c.count-2.result))
    (omega (arith, ints, c.count.type_inv, c.count.ensures)) (omega (arith, ints, c.count-2.type_inv, c.count-2.ensures)))
