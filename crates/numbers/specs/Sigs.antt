-- What the proofs of the form "sig" share. Assumes nothing.
use Rattle.std.specs.Prelude.{◌≡◌, ℕ, ◌*◌, ◌^◌, ◌<◌, ◌≤◌, ℤ, pos, ◌*ℤ◌, neg_ℤ, unsigned_abs, refl}
use Rattle.std.proofs.Common.{sym, ap, ◌∙◌, subst, arith, mul-pos, lit<, lit≤}
use Rattle.std.proofs.lemmas.Int.{ints}
use Rattle.numbers.specs.declared.sig.Sig.{Sig}
use Rattle.numbers.specs.declared.grid.Rounding.TheVariants.{Down}
use Rattle.numbers.specs.Fractions.{Fraction, over, ◌≈ᶠ◌, -ᶠ◌, millionths}
use Rattle.numbers.specs.Grids.{InReach, IsGrid, Computes, IsQuotient, parts}
use Rattle.numbers.specs.Digits.{six}
use Rattle.numbers.specs.Forms.{sig}
use Rattle.numbers.specs.Integers.{mul_bound, neg_left, times_one}
use Rattle.numbers.specs.Orders.{alike}
use Rattle.numbers.specs.Quotients.{floor, stays_within}
use Rattle.numbers.specs.Roundings.{by_quotient, rounded_same, parted, two_stage, computes_both}
use Rattle.numbers.specs.Counts.{same_count}
use Rattle.numbers.specs.Nearest.{Near, ten_most, near_self, near_rounded, six_near}

abbrev pub count : Sig → ℤ
count v = v.mantissa *ℤ pos (10 ^ v.exponent)

abbrev pub meaning : Sig → Fraction
meaning v = millionths (count v)

pub count_bound : (v : Sig) → unsigned_abs (count v) ≤ 999999000000000000
count_bound v = mul_bound v.mantissa (pos (10 ^ v.exponent)) 999999 1000000000000 v.six (ten_most v.exponent v.power)

reach_by : (n : ℤ) → unsigned_abs n ≤ 999999000000000000 → InReach sig (millionths n)
reach_by n h = (record { at_most = omega (arith, ints) }, record { at_most = omega (arith, ints) })

pub reach : (v : Sig) → InReach sig (meaning v)
reach v = reach_by (count v) (count_bound v)

-- every value is a whole number of millionths
pub finer : (v : Sig) → (n : ℤ) × (millionths n ≈ᶠ meaning v)
finer v = (count v, alike refl)

pub neg_count : (v : Sig) → neg_ℤ v.mantissa *ℤ pos (10 ^ v.exponent) *ℤ pos 1000000 ≡ neg_ℤ (count v) *ℤ pos 1000000
neg_count v = ap (λ (n : ℤ). n *ℤ pos 1000000) (neg_left v.mantissa (pos (10 ^ v.exponent)))

-- ---- rounding by computing

abbrev made : (a : ℤ) (e : ℕ) → unsigned_abs a ≤ 999999 → e ≤ 12 → Sig
made a e h k = record { mantissa = a; exponent = e; six = h; power = k }

pub negative : (v : Sig) → (w : Sig) × (meaning w ≈ᶠ (-ᶠ◌ (meaning v)))
negative v = (made (neg_ℤ v.mantissa) v.exponent (omega (arith, ints)) v.power, alike (neg_count v))

pub computes : Computes sig Down
computes q i =
    let n : ℤ = q.num *ℤ pos 1000000 in
    let c : ℤ = parts 1000000 q in
    let down : IsQuotient Down n q.den c = floor n q.den q.positive in
    let inside = stays_within Down n c q.den 999999000000000000 q.positive down (omega (arith, ints, i.0.at_most)) (omega (arith, ints, i.1.at_most)) in
    let (a, (e, (is, small, power, near))) = six_near 12 0 c c refl (omega (arith, ints)) (subst (Near Down c) (sym (times_one c)) (near_self Down c)) in
    let v : Sig = made a e small power in
    let h : 0 < 1000000 * q.den = mul-pos (millionths c).positive q.positive in
    let first = rounded_same millionths Down c (parted 1000000 q h) (by_quotient (λ (k : ℤ). k) 1000000 (millionths c).positive Down n q.den h c down) in
    let second = near_rounded (λ (w : Sig). w.mantissa) (λ (w : Sig). w.exponent) (λ (w : Sig). w.six) Down c v near in
    (v, same_count 1000000 (millionths c).positive (sym is ∙ times_one (six 12 c)), two_stage millionths meaning finer Down q c v first second)

pub grid : IsGrid sig
grid = record {
  zero = (made (pos 0) 0 (omega arith) (omega arith), alike refl);
  negative = negative;
  greatest = (made (pos 999999) 12 (omega arith) (omega arith), alike refl);
  reach = reach;
  top_low = record { at_most = omega (arith, ints) };
  top_high = record { at_most = omega (arith, ints) };
  scale = 1000000;
  scale_positive = omega arith;
  count = λ v. (count v, alike refl);
  computes = computes_both sig negative computes;
}

pub sig_top : sig.top ≈ᶠ over 1000000 (lit< tt) (pos 999999000000000000)
sig_top = (record { at_most = omega (arith, ints) }, record { at_most = omega (arith, ints) })

pub sig_fits : 999999000000000000 * 999999000000000000 ≤ 170141183460469231731687303715884105727
sig_fits = lit≤ tt
