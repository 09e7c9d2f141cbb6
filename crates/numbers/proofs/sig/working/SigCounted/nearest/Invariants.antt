use Rattle.std.proofs.Common.{◌-◌, ◌*◌, ◌^◌, ◌≤◌, pos, ◌*ℤ◌, unsigned_abs}
use Rattle.numbers.specs.Nearest.{Near}
use Rattle.numbers.proofs.sig.working.SigCounted.nearest.Given as goal

-- the nearest so far, and the digits that are left
abbrev pub invariant-loop-mantissa : goal.invariant-loop-mantissa
invariant-loop-mantissa l = (l.exponent ≤ 12) × (unsigned_abs l.mantissa ≤ 999999 * 10 ^ (12 - l.exponent)) × Near l.rounding l.count (l.mantissa *ℤ pos (10 ^ l.exponent))

abbrev pub decreases-loop-mantissa : goal.decreases-loop-mantissa
decreases-loop-mantissa l = 12 - l.exponent
