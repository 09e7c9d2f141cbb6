-- What the working of values that count answers.
use Rattle.std.proofs.Common.{◌≡◌, ℕ, ◌*◌, ◌<◌, ◌≤◌, ℤ, pos, ◌*ℤ◌, neg_ℤ, ◌≤ℤ◌, ◌<ℤ◌, Ok, unsigned_abs, FitsSigned, w64, to_z, of_z, refl, inl, inr, arith, mul-pos, mul_comm, mul-le-mul_right}
use Rattle.std.proofs.lemmas.Int.{by_lt_z, ints}
use Rattle.numbers.specs.declared.grid.Rounding.{Rounding}
use Rattle.numbers.specs.Fractions.{◌≈ᶠ◌, over, thousandths}
use Rattle.numbers.specs.Grids.{Gauge, InReach, Beyond, IsRounded, Answers, IsQuotient, Few}
use Rattle.numbers.specs.Scales.{Scale}
use Rattle.numbers.specs.Integers.{mul_le, mul_split, mul_bound, product_back, neg_left, times_lt}
use Rattle.numbers.specs.Orders.{≤ᶠ_trans, <ᶠ-≤ᶠ_trans, ≤ᶠ-<ᶠ_trans, neg_le, alike}
use Rattle.numbers.specs.Quotients.{stays_within}
use Rattle.numbers.specs.Roundings.{by_quotient, rounded_same, two_stage}

-- a number that went to bits and is read again
abbrev pub back : ℤ → ℤ
back z = to_z w64 (of_z w64 z)

-- a product in 64 bits
pub record Times (a b n : ℤ) : Type 0 where
  pub fits : FitsSigned w64 n
  pub is : back n ≡ a *ℤ b
  pub turns : unsigned_abs (back n) ≤ 9223372036854775807

pub times : (a b x y : ℤ) → unsigned_abs (a *ℤ b) ≤ 9223372036854775807 → back x ≡ a → back y ≡ b → Times a b (back x *ℤ back y)
times a b x y h e f =
    let fits : FitsSigned w64 (a *ℤ b) = omega (arith, ints) in
    let is = product_back w64 a b fits e f in
    record { fits = rw (e, f) fits; is = is; turns = rw is h }

-- minus the top, times d
least : (m d : ℕ) → neg_ℤ (pos m) *ℤ pos d ≡ neg_ℤ (pos (m * d))
least m d = neg_left (pos m) (pos d)

-- the quotient lies within the top
pub within : (to : Rounding) (n k : ℤ) (m d : ℕ) → 0 < d → unsigned_abs n ≤ m * d → IsQuotient to n d k → unsigned_abs k ≤ m
within to n k m d p size q =
    let inside = stays_within to n k d m p q (rw (least m d) (omega (arith, ints))) (omega (arith, ints)) in
    omega (arith, ints)

-- twice the top is no farther than its square
pub twice : (S : Scale) (far : ℕ) → S.most * S.most ≤ far → 2 * S.most ≤ far
twice S far h = let k : 2 * S.most ≤ S.most * S.most = mul-le-mul_right S.most (omega (arith, S.wide, S.some)) in omega (arith, h, k)

-- thousandths, of which so many counts are a share, lie within the top
pub few : (S : Scale) (t : ℤ) → Few t → unsigned_abs (t *ℤ pos S.part) ≤ S.most * S.parts
few S t h =
    let size = mul_bound t (pos S.part) 999999999 S.part (omega (arith, ints)) (omega arith) in
    let top : 1000000 * S.per_one * S.parts ≤ S.most * S.parts = mul-le-mul_right S.parts S.wide in
    omega (arith, size, top, S.shared, mul_comm S.per_one S.parts)

pub parts_small : (S : Scale) → S.parts ≤ 9000000000000000000
parts_small S = let h : 1 * S.parts ≤ S.most * S.parts = mul-le-mul_right S.parts (omega (arith, S.wide, S.some)) in omega (arith, h, S.parts_few)

module _ {V : Type 0} (G : Gauge V) (S : Scale) (counts : V → ℤ) (means : (v : V) → G.meaning v ≡ over S.per_one S.some (counts v)) where
  finer : (w : V) → (k : ℤ) × (over S.per_one S.some k ≈ᶠ G.meaning w)
  finer w = (counts w, rw (means w) (alike refl))

  -- a count of thousandths t, of which so many counts k are a share
  pub taken : (to : Rounding) (t k : ℤ) (v : V) → IsQuotient to (t *ℤ pos S.part) S.parts k → IsRounded G.meaning to (over S.per_one S.some k) v → IsRounded G.meaning to (thousandths t) v
  taken to t k v q near =
      let h : 0 < S.per_one * S.parts = mul-pos S.some S.parts_some in
      let e : S.per_one * S.parts ≡ 1000 * S.part = omega (arith, S.shared, mul_comm S.per_one S.parts) in
      let same : over (S.per_one * S.parts) h (t *ℤ pos S.part) ≈ᶠ thousandths t = alike (rw (e, mul_split t 1000 S.part)) in
      two_stage (over S.per_one S.some) G.meaning finer to (thousandths t) k v (rounded_same (over S.per_one S.some) to k same (by_quotient (λ (i : ℤ). i) S.per_one S.some to (t *ℤ pos S.part) S.parts h k q)) near

  pub shown : (to : Rounding) (v : V) (k : ℤ) → IsQuotient to (counts v *ℤ pos S.parts) S.part k → IsRounded thousandths to (G.meaning v) k
  shown to v k q =
      let h : 0 < 1000 * S.part = mul-pos (thousandths k).positive S.part_some in
      let e : 1000 * S.part ≡ S.per_one * S.parts = omega (arith, S.shared, mul_comm S.per_one S.parts) in
      let same : over (1000 * S.part) h (counts v *ℤ pos S.parts) ≈ᶠ over S.per_one S.some (counts v) = alike (rw (e, mul_split (counts v) S.per_one S.parts)) in
      rw (means v) (rounded_same thousandths to k same (by_quotient (λ (i : ℤ). i) 1000 (thousandths k).positive to (counts v *ℤ pos S.parts) S.part h k q))

module _ {V : Type 0} (G : Gauge V) (S : Scale) (top : G.top ≈ᶠ over S.per_one S.some (pos S.most)) where
  in_reach : (n : ℤ) (d : ℕ) (h : 0 < S.per_one * d) → unsigned_abs n ≤ S.most * d → InReach G (over (S.per_one * d) h n)
  in_reach n d h size =
      let low : (neg_ℤ (pos S.most) *ℤ pos d) ≤ℤ n = rw (least S.most d) (omega (arith, ints)) in
      let high : n ≤ℤ (pos S.most *ℤ pos d) = omega (arith, ints) in (
        ≤ᶠ_trans (neg_le top.1) (record { at_most = rw (mul_split (neg_ℤ (pos S.most)) S.per_one d) (mul_le _ _ S.per_one low) }),
        ≤ᶠ_trans (record { at_most = rw (mul_split (pos S.most) S.per_one d) (mul_le _ _ S.per_one high) }) top.1,
      )

  -- n/d counts, beyond the reach and within it
  pub beyond : (n : ℤ) (d : ℕ) (h : 0 < S.per_one * d) → S.most * d < unsigned_abs n → Beyond G (over (S.per_one * d) h n)
  beyond n d h size = by_lt_z n (pos 0) (λ l. inl (<ᶠ-≤ᶠ_trans (record { below = below l }) (neg_le top.0))) (λ l. inr (≤ᶠ-<ᶠ_trans top.0 (record { below = above l })))
    where
      step : pos 0 <ℤ pos S.per_one
      step = omega (arith, ints, S.some)

      below : n <ℤ pos 0 → (n *ℤ pos S.per_one) <ℤ (neg_ℤ (pos S.most) *ℤ pos (S.per_one * d))
      below l = rw (mul_split (neg_ℤ (pos S.most)) S.per_one d, least S.most d) (times_lt {a = n} {b = neg_ℤ (pos (S.most * d))} (pos S.per_one) step (omega (arith, ints)))

      above : pos 0 ≤ℤ n → (pos S.most *ℤ pos (S.per_one * d)) <ℤ (n *ℤ pos S.per_one)
      above l = rw (mul_split (pos S.most) S.per_one d) (times_lt {a = pos S.most *ℤ pos d} {b = n} (pos S.per_one) step (omega (arith, ints)))

  -- a count k that is n/d rounded, itself rounded to a value
  pub answered : (counts : V → ℤ) (means : (v : V) → G.meaning v ≡ over S.per_one S.some (counts v)) (to : Rounding) (n k : ℤ) (d : ℕ) (h : 0 < S.per_one * d) (v : V) → unsigned_abs n ≤ S.most * d → IsQuotient to n d k → IsRounded G.meaning to (over S.per_one S.some k) v → Answers G to (over (S.per_one * d) h n) (Ok v)
  answered counts means to n k d h v size q near =
      (in_reach n d h size, two_stage (over S.per_one S.some) G.meaning (finer G S counts means) to (over (S.per_one * d) h n) k v (by_quotient (λ (i : ℤ). i) S.per_one S.some to n d h k q) near)
