-- What values count: how many make one, and how many the greatest. Assumes nothing.
use Rattle.std.specs.Prelude.{◌≡◌, ℕ, ◌*◌, ◌<◌, ◌≤◌}
use Rattle.std.proofs.Common.{lit<, lit≤, arith, refl, mul_comm, mul-le-mul}
use Rattle.numbers.specs.Steps.{Steps}

-- The top is at least a million, and two of the greatest fit 64 bits. So many counts, `part`, make so many thousandths, `parts`.
pub record Scale : Type 0 where
  pub per_one : ℕ
  pub most : ℕ
  pub part : ℕ
  pub parts : ℕ
  pub some : 0 < per_one
  pub wide : 1000000 * per_one ≤ most
  pub narrow : most ≤ 1000000000000000000
  pub shared : part * 1000 ≡ parts * per_one
  pub part_some : 0 < part
  pub part_few : part ≤ 1000000
  pub parts_some : 0 < parts
  pub parts_few : most * parts ≤ 9000000000000000000

pub steps_narrow : (S : Steps) → S.most ≤ 1000000000000000000
steps_narrow S = omega (arith, S.narrow)

pub steps_few : (S : Steps) → S.per_one ≤ 1000000
steps_few S = omega (arith, S.wide, S.narrow)

pub steps_parts : (S : Steps) → S.most * 1000 ≤ 9000000000000000000
steps_parts S = omega (arith, S.narrow)

pub steps_fit : (S : Steps) → S.most * S.most ≤ 9223372036854775807
steps_fit S = let h : S.most * S.most ≤ 3037000499 * 3037000499 = mul-le-mul S.narrow S.narrow in omega (arith, h)

-- equal steps
abbrev pub of_steps : Steps → Scale
of_steps S = record {
  per_one = S.per_one;
  most = S.most;
  part = S.per_one;
  parts = 1000;
  some = S.some;
  wide = S.wide;
  narrow = steps_narrow S;
  shared = mul_comm S.per_one 1000;
  part_some = S.some;
  part_few = steps_few S;
  parts_some = lit< tt;
  parts_few = steps_parts S;
}

-- millionths, up to 999,999,000,000
abbrev pub sig_scale : Scale
sig_scale = record {
  per_one = 1000000;
  most = 999999000000000000;
  part = 1000;
  parts = 1;
  some = lit< tt;
  wide = lit≤ tt;
  narrow = lit≤ tt;
  shared = refl;
  part_some = lit< tt;
  part_few = lit≤ tt;
  parts_some = lit< tt;
  parts_few = lit≤ tt;
}
