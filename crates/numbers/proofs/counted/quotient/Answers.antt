use Rattle.std.proofs.Common.{◌≡◌, ℕ, ◌*◌, ◌≤◌, ℤ, pos, negsuc, ◌*ℤ◌, unsigned_abs, min, refl, ap, ◌∙◌, mul-le-mul, arith, lit<, w64, to_z, of_z}
use Rattle.std.proofs.lemmas.Int.{ints, fits_signed_mul}
use Rattle.std.specs.Int.{int_signum}
use Rattle.numbers.specs.Scales.{Scale}
use Rattle.numbers.specs.Integers.{mul_bound}
use Rattle.numbers.specs.Counts.{by_count, signed_size}
use Rattle.numbers.proofs.counted.quotient.Goals as goal

-- the dividend with the sign of the divisor, as the code has it
record Turned (S : Scale) (a b n : ℤ) : Type 0 where
  is : n ≡ a *ℤ int_signum b *ℤ pos S.per_one
  small : unsigned_abs n ≤ S.most * S.most

sign_back : (b : ℤ) → to_z w64 (of_z w64 (int_signum b)) ≡ int_signum b
sign_back (pos k) = let e : min k 1 ≤ 1 = omega arith in omega (arith, ints)
sign_back (negsuc k) = refl

turned : (S : Scale) (a b x y s p : ℤ) (q : ℕ) → unsigned_abs a ≤ S.most → unsigned_abs b ≤ S.most → x ≡ a → y ≡ b → s ≡ int_signum (to_z w64 (of_z w64 y)) → p ≡ pos q → q ≡ S.per_one → Turned S a b (to_z w64 (of_z w64 (to_z w64 (of_z w64 x) *ℤ to_z w64 (of_z w64 s))) *ℤ to_z w64 (of_z w64 p))
turned S a b x y s p q h k e f i j l =
    let size = signed_size a b in
    let xa : to_z w64 (of_z w64 x) ≡ a = omega (arith, ints, S.narrow) in
    let yb : to_z w64 (of_z w64 y) ≡ b = omega (arith, ints, S.narrow) in
    let sb : s ≡ int_signum b = i ∙ ap int_signum yb in
    let ss : to_z w64 (of_z w64 s) ≡ int_signum b = rw sb (sign_back b) in
    let m : to_z w64 (of_z w64 (a *ℤ int_signum b)) ≡ a *ℤ int_signum b = omega (arith, ints, S.narrow, size) in
    let pp : to_z w64 (of_z w64 p) ≡ pos S.per_one = omega (arith, ints, S.wide, S.narrow) in
    record {
      is = rw (xa, ss, m, pp);
      small = rw (xa, ss, m, pp) (mul_bound (a *ℤ int_signum b) (pos S.per_one) S.most S.most (omega (arith, size)) (omega (arith, S.wide)));
    }

pub overflow_mul-count : goal.overflow_mul-count
overflow_mul-count g c =
    let S = g.C.Counted.scale in
    let x : unsigned_abs (to_z w64 (of_z w64 c.count.result)) ≤ 1000000000000000000 = omega (arith, ints, S.narrow, g.met.C.Counted.within c.args.left, c.count.ensures) in
    let s : unsigned_abs (to_z w64 (of_z w64 c.signum.result)) ≤ 1 = omega (arith, ints, c.signum.ensures.lower_bound, c.signum.ensures.upper_bound) in
    fits_signed_mul w64 (to_z w64 (of_z w64 c.count.result)) (to_z w64 (of_z w64 c.signum.result)) 1000000000000000000 1 x s (lit< tt)

pub product-n-requires : goal.product-n-requires
product-n-requires g c =
    let S = g.C.Counted.scale in
    let t = turned S _ _ c.count.result c.count-divisor.result c.signum.result c.from.result c.per_one.result (g.met.C.Counted.within c.args.left) (g.met.C.Counted.within c.args.right) c.count.ensures c.count-divisor.ensures c.signum.ensures.value c.from.ensures c.per_one.ensures in
    omega (arith, t.small, g.met.C.Counted.fits)

-- the divisor without its sign
size : (S : Scale) (b y : ℤ) (d : ℕ) → unsigned_abs b ≤ S.most → y ≡ b → d ≡ unsigned_abs (to_z w64 (of_z w64 y)) → d ≡ unsigned_abs b
size S b y d k e f = omega (arith, ints, S.narrow)

pub invariant_of-rounded : goal.invariant_of-rounded
invariant_of-rounded g c =
    let S = g.C.Counted.scale in
    let t = turned S _ _ c.count.result c.count-divisor.result c.signum.result c.from.result c.per_one.result (g.met.C.Counted.within c.args.left) (g.met.C.Counted.within c.args.right) c.count.ensures c.count-divisor.ensures c.signum.ensures.value c.from.ensures c.per_one.ensures in
    let d = size S _ c.count-divisor.result c.unsigned_abs-d.result (g.met.C.Counted.within c.args.right) c.count-divisor.ensures c.unsigned_abs-d.ensures.value in
    record { turns = rw c.product-n.ensures (omega (arith, t.small, g.met.C.Counted.fits)); positive = omega (arith, ints, c.if-divisor-eq0.false, c.count-divisor.ensures, d); small = omega (arith, S.narrow, g.met.C.Counted.within c.args.right, d) }

pub rounded-requires : goal.rounded-requires
rounded-requires g c =
    let S = g.C.Counted.scale in
    let d = size S _ c.count-divisor.result c.unsigned_abs-d.result (g.met.C.Counted.within c.args.right) c.count-divisor.ensures c.unsigned_abs-d.ensures.value in
    let h : S.most * c.unsigned_abs-d.result ≤ S.most * S.most = mul-le-mul (omega arith) (omega (arith, g.met.C.Counted.within c.args.right, d)) in
    omega (arith, h, g.met.C.Counted.fits)

pub returns : goal.returns
returns g c =
    let S = g.C.Counted.scale in
    let a : ℤ = g.C.Counted.counts c.args.left in
    let b : ℤ = g.C.Counted.counts c.args.right in
    let t = turned S _ _ c.count.result c.count-divisor.result c.signum.result c.from.result c.per_one.result (g.met.C.Counted.within c.args.left) (g.met.C.Counted.within c.args.right) c.count.ensures c.count-divisor.ensures c.signum.ensures.value c.from.ensures c.per_one.ensures in
    let d = size S b c.count-divisor.result c.unsigned_abs-d.result (g.met.C.Counted.within c.args.right) c.count-divisor.ensures c.unsigned_abs-d.ensures.value in
    rw (g.met.C.Counted.means c.args.left, g.met.C.Counted.means c.args.right)
    (by_count S.per_one S.some g.C.Counted.gauge c.args.rounding a b (g.C.Wide.Whole.value c.product-n.result) c.unsigned_abs-d.result c.rounded.result
    (λ e. omega (arith, ints, c.if-divisor-eq0.false, c.count-divisor.ensures)) d (c.product-n.ensures ∙ t.is) c.rounded.ensures)
