use Rattle.std.proofs.Common.{rules}
use Rattle.numbers.specs.Fractions.{◌*ᶠ◌}
use Rattle.ranges.proofs.range.Range.outer_product.Goals as goal

pub returns : goal.returns
returns g c = c.outer_end.ensures ◌*ᶠ◌ (search rules)
