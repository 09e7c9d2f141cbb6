use Rattle.std.proofs.Common.{rules}
use Rattle.numbers.specs.Fractions.{◌÷ᶠ◌}
use Rattle.ranges.proofs.Calls.{zero_low, zero_high, divided}
use Rattle.ranges.proofs.range.Range.outer_quotient.Goals as goal

pub returns : goal.returns
returns g c = c.outer_end.ensures ◌÷ᶠ◌ (search (rules, divided, zero_low, zero_high))
