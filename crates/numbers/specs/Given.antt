-- The number that is taken as thousandths. Assumes nothing.
use Rattle.std.specs.Prelude.{ℤ}
use Rattle.numbers.specs.declared.thousandths.Thousandths.{Thousandths}

abbrev pub count_of : Thousandths → ℤ
count_of t = t.count
