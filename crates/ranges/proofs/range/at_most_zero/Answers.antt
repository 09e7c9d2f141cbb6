use Rattle.numbers.specs.Orders.{≤ᶠ_trans}
use Rattle.ranges.proofs.range.at_most_zero.Goals as goal

pub returns : goal.returns
returns g c = (λ t. ≤ᶠ_trans (c.at_most.ensures.0 t) c.zero.ensures.0, λ h. c.at_most.ensures.1 (≤ᶠ_trans h c.zero.ensures.1))
