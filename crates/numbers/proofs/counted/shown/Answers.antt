use Rattle.std.proofs.Common.{◌≡◌, ℕ, ◌≤◌, ℤ, pos, ◌*ℤ◌, unsigned_abs, ◌∙◌, arith}
use Rattle.std.proofs.lemmas.Int.{ints}
use Rattle.numbers.specs.Scales.{Scale}
use Rattle.numbers.specs.Integers.{mul_bound}
use Rattle.numbers.specs.Quotients.{quotient_at}
use Rattle.numbers.proofs.Working.{back, Times, times, parts_small, shown}
use Rattle.numbers.proofs.counted.shown.Goals as goal

-- a multiple of a count, as the code has it
scaled : (S : Scale) (a x p : ℤ) (q : ℕ) → unsigned_abs a ≤ S.most → x ≡ a → p ≡ pos q → q ≡ S.parts → Times a (pos S.parts) (back x *ℤ back p)
scaled S a x p q h e i j =
    let size = mul_bound a (pos S.parts) S.most S.parts h (omega arith) in
    times a (pos S.parts) x p (omega (arith, size, S.parts_few)) (omega (arith, ints, S.narrow)) (omega (arith, ints, parts_small S))

pub overflow_mul-ratio : goal.overflow_mul-ratio
overflow_mul-ratio g c =
    (scaled g.C.Counted.scale _ c.count.result c.from.result c.thousandths-counts.result.1 (g.met.C.Counted.within c.args.value) c.count.ensures c.from.ensures c.thousandths-counts.ensures.thousandths).fits

pub invariant_of-ratio : goal.invariant_of-ratio
invariant_of-ratio g c =
    let S = g.C.Counted.scale in
    let s = scaled S _ c.count.result c.from.result c.thousandths-counts.result.1 (g.met.C.Counted.within c.args.value) c.count.ensures c.from.ensures c.thousandths-counts.ensures.thousandths in
    record { turns = s.turns; positive = omega (arith, S.part_some, c.thousandths-counts.ensures.counts, c.from-2.ensures); small = omega (arith, S.part_few, c.thousandths-counts.ensures.counts, c.from-2.ensures) }

pub returns : goal.returns
returns g c =
    let S = g.C.Counted.scale in
    let s = scaled S _ c.count.result c.from.result c.thousandths-counts.result.1 (g.met.C.Counted.within c.args.value) c.count.ensures c.from.ensures c.thousandths-counts.ensures.thousandths in
    let k : ℤ = back c.rounded.result in
    let same : c.rounded.result ≡ k = omega (arith, ints, c.rounded.type_inv) in
    shown g.C.Counted.gauge S g.C.Counted.counts g.met.C.Counted.means c.args.rounding c.args.value k (quotient_at c.args.rounding s.is (c.from-2.ensures ∙ c.thousandths-counts.ensures.counts) same c.rounded.ensures)
