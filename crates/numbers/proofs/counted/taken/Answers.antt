use Rattle.std.proofs.Common.{◌≡◌, ℕ, ◌≤◌, ℤ, pos, ◌*ℤ◌, unsigned_abs, refl, ◌∙◌, arith, w32, to_z, of_z}
use Rattle.std.proofs.lemmas.Int.{ints}
use Rattle.numbers.specs.declared.grid.Rounding.{Rounding}
use Rattle.numbers.specs.Grids.{Few, IsQuotient}
use Rattle.numbers.specs.Scales.{Scale}
use Rattle.numbers.specs.Integers.{mul_bound}
use Rattle.numbers.specs.Quotients.{quotient_at}
use Rattle.numbers.proofs.Working.{back, Times, times, few, parts_small, within, taken}
use Rattle.numbers.proofs.counted.taken.Goals as goal

-- a multiple of thousandths, as the code has it
scaled : (S : Scale) (t x y p : ℤ) (q : ℕ) → Few t → x ≡ t → y ≡ to_z w32 (of_z w32 x) → p ≡ pos q → q ≡ S.part → Times t (pos S.part) (back y *ℤ back p)
scaled S t x y p q h e f i j =
    let size = mul_bound t (pos S.part) 999999999 1000000 (omega (arith, ints)) (omega (arith, S.part_few)) in
    times t (pos S.part) y p (omega (arith, size)) (omega (arith, ints)) (omega (arith, ints, S.part_few))

pub invariant_of-ratio : goal.invariant_of-ratio
invariant_of-ratio g c =
    let S = g.C.Counted.scale in
    let s = scaled S c.args.given.count c.count.result c.from.result c.from-2.result c.thousandths-counts.result.0 c.args.given.few c.count.ensures c.from.ensures c.from-2.ensures c.thousandths-counts.ensures.counts in
    record { turns = s.turns; positive = omega (arith, S.parts_some, c.thousandths-counts.ensures.thousandths, c.from-3.ensures); small = omega (arith, parts_small S, c.thousandths-counts.ensures.thousandths, c.from-3.ensures) }

-- the quotient, and where it lies
record Made (S : Scale) (to : Rounding) (t k : ℤ) : Type 0 where
  is : IsQuotient to (t *ℤ pos S.part) S.parts k
  small : unsigned_abs k ≤ S.most

made : (S : Scale) (to : Rounding) (t n k : ℤ) (d : ℕ) → Few t → Times t (pos S.part) n → d ≡ S.parts → IsQuotient to (back n) d k → Made S to t k
made S to t n k d h s e r =
    let is = quotient_at to s.is e refl r in
    record { is = is; small = within to (t *ℤ pos S.part) k S.most S.parts S.parts_some (few S t h) is }

pub nearest-requires : goal.nearest-requires
nearest-requires g c =
    let S = g.C.Counted.scale in
    let s = scaled S c.args.given.count c.count.result c.from.result c.from-2.result c.thousandths-counts.result.0 c.args.given.few c.count.ensures c.from.ensures c.from-2.ensures c.thousandths-counts.ensures.counts in
    let m = made S c.args.rounding c.args.given.count _ c.rounded.result c.from-3.result c.args.given.few s (c.from-3.ensures ∙ c.thousandths-counts.ensures.thousandths) c.rounded.ensures in
    omega (arith, ints, S.narrow, m.small)

pub returns : goal.returns
returns g c =
    let S = g.C.Counted.scale in
    let t : ℤ = c.args.given.count in
    let s = scaled S c.args.given.count c.count.result c.from.result c.from-2.result c.thousandths-counts.result.0 c.args.given.few c.count.ensures c.from.ensures c.from-2.ensures c.thousandths-counts.ensures.counts in
    let m = made S c.args.rounding t _ c.rounded.result c.from-3.result c.args.given.few s (c.from-3.ensures ∙ c.thousandths-counts.ensures.thousandths) c.rounded.ensures in
    let same : back c.rounded.result ≡ c.rounded.result = omega (arith, ints, S.narrow, m.small) in
    taken g.C.Counted.gauge S g.C.Counted.counts g.met.C.Counted.means c.args.rounding t c.rounded.result c.nearest.result m.is (rw same at c.nearest.ensures)
