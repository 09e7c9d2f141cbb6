use Rattle.std.proofs.Common.{◌*◌, ◌<◌, ℤ, mul-pos, arith, lit<}
use Rattle.std.proofs.lemmas.Int.{ints}
use Rattle.numbers.specs.Roundings.{answers_same}
use Rattle.numbers.specs.Counts.{sum_of_counts}
use Rattle.numbers.proofs.counted.sum.Goals as goal

pub invariant_of-rounded : goal.invariant_of-rounded
invariant_of-rounded g c =
    let S = g.C.Counted.scale in
    let small_a = g.met.C.Counted.within c.args.left in
    let small_b = g.met.C.Counted.within c.args.right in
    record { turns = omega (arith, ints, S.narrow, c.count.ensures, c.count-2.ensures); positive = omega arith; small = omega arith }

pub returns : goal.returns
returns g c =
    let S = g.C.Counted.scale in
    let a : ℤ = g.C.Counted.counts c.args.left in
    let b : ℤ = g.C.Counted.counts c.args.right in
    let small_a = g.met.C.Counted.within c.args.left in
    let small_b = g.met.C.Counted.within c.args.right in
    let h : 0 < S.per_one * 1 = mul-pos S.some (lit< tt) in
    rw (g.met.C.Counted.means c.args.left, g.met.C.Counted.means c.args.right)
    (answers_same g.C.Counted.gauge c.args.rounding c.rounded.result (sum_of_counts S.per_one S.some a b (omega (arith, ints, S.narrow, c.count.ensures, c.count-2.ensures)) h) (c.rounded.ensures h))
