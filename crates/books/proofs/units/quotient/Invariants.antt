use Rattle.std.proofs.Common.{◌-ℤ◌}
use Rattle.books.proofs.units.quotient.Given as goal

abbrev pub ghost-combined : goal.ghost-combined
ghost-combined a = ◌-ℤ◌
