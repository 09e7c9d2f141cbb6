-- The form of six digits: every m * 10^e, m of at most six digits, in millionths. Assumes nothing.
use Rattle.std.specs.Prelude.{ℕ, zero, suc, ◌^◌, if◌then◌else◌, ℤ, pos, ◌*ℤ◌, nat_le, unsigned_abs}
use Rattle.std.specs.Int.{int_div_euclid}
use Rattle.numbers.specs.Fractions.{whole, millionths}
use Rattle.numbers.specs.Grids.{Gauge, parts}

-- c rounded down to six digits, where it has at most so many more
abbrev pub six : ℕ → ℤ → ℤ
six zero c = c
six (suc k) c = if nat_le (unsigned_abs c) 999999 then c else six k (int_div_euclid c (pos 10)) *ℤ pos 10

-- values of a mantissa and a power of ten, which count millionths
abbrev pub digits : {V : Type 0} → (V → ℤ) → (V → ℕ) → Gauge V
digits mantissa exponent = record {
  meaning = λ v. millionths (mantissa v *ℤ pos (10 ^ exponent v));
  top = whole (pos 999999000000);
  down = λ q. millionths (six 12 (parts 1000000 q));
}
