use Rattle.std.proofs.Common.{◌≡◌, ℕ, ◌*◌, ◌<◌, ◌≤◌, ℤ, ◌*ℤ◌, unsigned_abs, subst, ◌∙◌, mul-pos, arith, w64, to_z, of_z}
use Rattle.std.proofs.lemmas.Int.{ints}
use Rattle.numbers.specs.Fractions.{over}
use Rattle.numbers.specs.Grids.{Answers}
use Rattle.numbers.specs.Scales.{Scale}
use Rattle.numbers.specs.Integers.{mul_bound}
use Rattle.numbers.specs.Roundings.{answers_same}
use Rattle.numbers.specs.Counts.{product_of_counts}
use Rattle.numbers.proofs.counted.product.Goals as goal

-- the product of two counts, as the code has it
record Product (S : Scale) (a b n : ℤ) : Type 0 where
  is : n ≡ a *ℤ b
  small : unsigned_abs n ≤ S.most * S.most

product : (S : Scale) (a b x y : ℤ) → unsigned_abs a ≤ S.most → unsigned_abs b ≤ S.most → x ≡ a → y ≡ b → Product S a b (to_z w64 (of_z w64 x) *ℤ to_z w64 (of_z w64 y))
product S a b x y h k e f =
    let i : to_z w64 (of_z w64 x) ≡ a = omega (arith, ints, S.narrow) in
    let j : to_z w64 (of_z w64 y) ≡ b = omega (arith, ints, S.narrow) in
    record { is = rw (i, j); small = rw (i, j) (mul_bound a b S.most S.most h k) }

pub product-n-requires : goal.product-n-requires
product-n-requires g c =
    let p = product g.C.Counted.scale _ _ c.count.result c.count-2.result (g.met.C.Counted.within c.args.left) (g.met.C.Counted.within c.args.right) c.count.ensures c.count-2.ensures in
    omega (arith, p.small, g.met.C.Counted.fits)

pub invariant_of-rounded : goal.invariant_of-rounded
invariant_of-rounded g c =
    let S = g.C.Counted.scale in
    let p = product S _ _ c.count.result c.count-2.result (g.met.C.Counted.within c.args.left) (g.met.C.Counted.within c.args.right) c.count.ensures c.count-2.ensures in
    record { turns = rw c.product-n.ensures (omega (arith, p.small, g.met.C.Counted.fits)); positive = omega (arith, S.some, c.per_one.ensures, c.from-d.ensures); small = omega (arith, c.per_one.ensures, c.from-d.ensures) }

pub returns : goal.returns
returns g c =
    let S = g.C.Counted.scale in
    let a : ℤ = g.C.Counted.counts c.args.left in
    let b : ℤ = g.C.Counted.counts c.args.right in
    let p = product S a b c.count.result c.count-2.result (g.met.C.Counted.within c.args.left) (g.met.C.Counted.within c.args.right) c.count.ensures c.count-2.ensures in
    let one : c.from-d.result ≡ S.per_one = omega (arith, c.per_one.ensures, c.from-d.ensures) in
    let answered = subst (λ (d : ℕ). (h : 0 < S.per_one * d) → Answers g.C.Counted.gauge c.args.rounding (over (S.per_one * d) h (g.C.Wide.Whole.value c.product-n.result)) c.rounded.result) one c.rounded.ensures in
    let h : 0 < S.per_one * S.per_one = mul-pos S.some S.some in
    rw (g.met.C.Counted.means c.args.left, g.met.C.Counted.means c.args.right)
    (answers_same g.C.Counted.gauge c.args.rounding c.rounded.result (product_of_counts S.per_one S.some a b (c.product-n.ensures ∙ p.is) h) (answered h))
