-- What the values of the two forms mean. Assumes nothing.
use Rattle.numbers.specs.declared.mil.Mil.{Mil}
use Rattle.numbers.specs.declared.sig.Sig.{Sig}
use Rattle.numbers.specs.Grids.{Gauge}
use Rattle.numbers.specs.Steps.{evenly, mil_steps}
use Rattle.numbers.specs.Digits.{digits}

-- every multiple of 1/1000 up to 3,000,000
abbrev pub mil : Gauge Mil
mil = evenly mil_steps (λ v. v.count)

-- every m * 10^e, m whole from -999,999 to 999,999 and e whole from -6 to 6
abbrev pub sig : Gauge Sig
sig = digits (λ v. v.mantissa) (λ v. v.exponent)
