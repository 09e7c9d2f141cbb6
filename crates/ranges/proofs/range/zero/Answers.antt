use Rattle.std.proofs.Common.{pos, arith}
use Rattle.std.proofs.lemmas.Int.{ints}
use Rattle.numbers.specs.Fractions.{zeroᶠ, thousandths, ◌≤ᶠ◌}
use Rattle.numbers.specs.Orders.{≤ᶠ_trans}
use Rattle.ranges.proofs.range.zero.Goals as goal

pub returns : goal.returns
returns g c =
    let down : thousandths (pos 0) ≤ᶠ zeroᶠ = record { at_most = omega (arith, ints) } in
    let up : zeroᶠ ≤ᶠ thousandths (pos 0) = record { at_most = omega (arith, ints) } in
    let (v, e) = g.met.F.Grid.grid.zero in
    (≤ᶠ_trans c.take.ensures.0 down, ≤ᶠ_trans e.1 (c.take.ensures.1 v (≤ᶠ_trans e.0 up)))
