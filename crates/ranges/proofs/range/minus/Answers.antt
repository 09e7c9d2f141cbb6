use Rattle.numbers.specs.Orders.{≤ᶠ_refl, plus_same}
use Rattle.numbers.specs.Roundings.{answers_same}
use Rattle.ranges.proofs.range.minus.Goals as goal

pub returns : goal.returns
returns g c = answers_same g.F.Grid.gauge _ _ (plus_same (≤ᶠ_refl _, ≤ᶠ_refl _) c.negated.ensures) c.add.ensures
