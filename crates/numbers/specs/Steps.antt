-- Forms of equal steps: every multiple of one step up to a top. Assumes nothing.
use Rattle.std.specs.Prelude.{ℕ, ◌*◌, ◌<◌, ◌≤◌, ℤ, pos}
use Rattle.std.proofs.Common.{lit<, lit≤}
use Rattle.numbers.specs.Fractions.{over}
use Rattle.numbers.specs.Grids.{Gauge, parts}

-- how many steps make one, and how many the top: at least a million, and few enough that a product of two counts fits 64 bits
pub record Steps : Type 0 where
  pub per_one : ℕ
  pub most : ℕ
  pub some : 0 < per_one
  pub wide : 1000000 * per_one ≤ most
  pub narrow : most ≤ 3037000499

-- values that count such steps
abbrev pub evenly : {V : Type 0} → Steps → (V → ℤ) → Gauge V
evenly S counts = record {
  meaning = λ v. over S.per_one S.some (counts v);
  top = over S.per_one S.some (pos S.most);
  down = λ q. over S.per_one S.some (parts S.per_one q);
}

-- thousandths, up to 3,000,000
abbrev pub mil_steps : Steps
mil_steps = record { per_one = 1000; most = 3000000000; some = lit< tt; wide = lit≤ tt; narrow = lit≤ tt }
