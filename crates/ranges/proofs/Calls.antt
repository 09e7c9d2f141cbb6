-- From a form's answers to the steps on ranges. Assumes nothing.
use Rattle.std.proofs.Common.{◌≡◌, Bool, true, false, cond, ◌⊎◌, Ok, Err, Result, IsErrAnd, inl, inr}
use Rattle.numbers.specs.declared.grid.Rounding.{Rounding}
use Rattle.numbers.specs.declared.grid.Rounding.TheVariants.{Down, Up}
use Rattle.numbers.specs.declared.grid.Refusal.{Refusal}
use Rattle.numbers.specs.declared.grid.Refusal.TheVariants.{BeyondReach, ZeroDivisor}
use Rattle.ranges.specs.declared.range.Range.{Range}
use Rattle.ranges.specs.declared.verdict.Kind.TheVariants.{Root}
use Rattle.ranges.specs.declared.verdict.Verdict.{Verdict}
use Rattle.numbers.specs.Fractions.{Fraction, zeroᶠ, ◌≤ᶠ◌, ◌≈ᶠ◌, leᶠ, minᶠ, maxᶠ, ◌÷ᶠ◌}
use Rattle.numbers.specs.Grids.{Gauge, InReach, Beyond, IsRounded, Answers, AnswersOver}
use Rattle.ranges.specs.Ranges.{Interval, span, ◌∈ᶠ◌, corners, end, outer, outermost, bound, Corner, HoldsZero, IsStep}
use Rattle.ranges.specs.Verdicts.{Judged, RootHolds, RootBreaks, SquareOf, SquareBeyond, Judges}
use Rattle.numbers.specs.Orders.{byᶠ, below_le, ≤ᶠ_refl, ≤ᶠ_trans, <ᶠ-≤ᶠ_trans, ≤ᶠ-<ᶠ_trans, min_ind, max_ind, min_left, min_right, max_left, max_right}
use Rattle.numbers.specs.Roundings.{rounded_exact, not_beyond}

-- a range with an end that is zero holds zero
pub zero_low : (b : Interval) → b.low ≈ᶠ zeroᶠ → HoldsZero b
zero_low b e = byᶠ zeroᶠ b.high (λ h. inl (e.0, below_le h)) (λ h. inr (h, e.1))

pub zero_high : (b : Interval) → b.high ≈ᶠ zeroᶠ → HoldsZero b
zero_high b e = byᶠ zeroᶠ b.low (λ h. inr (e.0, below_le h)) (λ h. inl (h, e.1))

-- the least and the greatest of four
least_of : (p q r s : Fraction) → let m = minᶠ (minᶠ p q) (minᶠ r s) in (m ≤ᶠ p) × (m ≤ᶠ q) × (m ≤ᶠ r) × (m ≤ᶠ s)
least_of p q r s =
    let i = min_left (minᶠ p q) (minᶠ r s) in
    let j = min_right (minᶠ p q) (minᶠ r s) in
    (≤ᶠ_trans i (min_left p q), ≤ᶠ_trans i (min_right p q), ≤ᶠ_trans j (min_left r s), ≤ᶠ_trans j (min_right r s))

greatest_of : (p q r s : Fraction) → let m = maxᶠ (maxᶠ p q) (maxᶠ r s) in (p ≤ᶠ m) × (q ≤ᶠ m) × (r ≤ᶠ m) × (s ≤ᶠ m)
greatest_of p q r s =
    let i = max_left (maxᶠ p q) (maxᶠ r s) in
    let j = max_right (maxᶠ p q) (maxᶠ r s) in
    (≤ᶠ_trans (max_left p q) i, ≤ᶠ_trans (max_right p q) i, ≤ᶠ_trans (max_left r s) j, ≤ᶠ_trans (max_right r s) j)

-- the four pairings lie within their least and greatest
pub pairings_within : (f : Fraction → Fraction → Fraction) (a b : Interval) →
    (f a.low b.low ∈ᶠ corners f a b) × (f a.low b.high ∈ᶠ corners f a b) × (f a.high b.low ∈ᶠ corners f a b) × (f a.high b.high ∈ᶠ corners f a b)
pairings_within f a b =
    let m = least_of (f a.low b.low) (f a.low b.high) (f a.high b.low) (f a.high b.high) in
    let n = greatest_of (f a.low b.low) (f a.low b.high) (f a.high b.low) (f a.high b.high) in
    ((m.0, n.0), (m.1, n.1), (m.2, n.2), (m.3, n.3))

module _ {V : Type 0} (G : Gauge V) where
  -- a value that means the lesser of two is the lesser result, rounded down; so for the greater, up
  outer_rounded : (to : Rounding) (v w r : V) (p q : Fraction) → IsRounded G.meaning to p v → IsRounded G.meaning to q w → G.meaning r ≈ᶠ outer to (G.meaning v) (G.meaning w) → IsRounded G.meaning to (outer to p q) r
  outer_rounded Down v w r p q d e m = (
    min_ind (λ z. G.meaning r ≤ᶠ z) p q (λ _. ≤ᶠ_trans m.0 (≤ᶠ_trans (min_left (G.meaning v) (G.meaning w)) d.0)) (λ _. ≤ᶠ_trans m.0 (≤ᶠ_trans (min_right (G.meaning v) (G.meaning w)) e.0)),
    λ x h. ≤ᶠ_trans (min_ind (λ z. G.meaning x ≤ᶠ z) (G.meaning v) (G.meaning w) (λ _. d.1 x (≤ᶠ_trans h (min_left p q))) (λ _. e.1 x (≤ᶠ_trans h (min_right p q)))) m.1,
  )
  outer_rounded Up v w r p q d e m = (
    max_ind (λ z. z ≤ᶠ G.meaning r) p q (λ _. ≤ᶠ_trans d.0 (≤ᶠ_trans (max_left (G.meaning v) (G.meaning w)) m.1)) (λ _. ≤ᶠ_trans e.0 (≤ᶠ_trans (max_right (G.meaning v) (G.meaning w)) m.1)),
    λ x h. ≤ᶠ_trans m.0 (max_ind (λ z. z ≤ᶠ G.meaning x) (G.meaning v) (G.meaning w) (λ _. d.1 x (≤ᶠ_trans (max_left p q) h)) (λ _. e.1 x (≤ᶠ_trans (max_right p q) h))),
  )

  -- a quotient whose divisor is not zero
  pub divided : (to : Rounding) (p d : Fraction) (o : Result V Refusal) → ¬ (d ≈ᶠ zeroᶠ) → AnswersOver G to p d o → Answers G to (p ÷ᶠ d) o
  divided to p d (Ok v) n h = h.1
  divided to p d (Err BeyondReach) n h = h.1
  divided to p d (Err ZeroDivisor) n h = n h

  beyond_end : {c : Fraction} (a : Interval) → a.low ≤ᶠ c → c ≤ᶠ a.high → Beyond G c → Beyond G a.low ⊎ Beyond G a.high
  beyond_end a h k (inl b) = inl (inl (≤ᶠ-<ᶠ_trans h b))
  beyond_end a h k (inr b) = inr (inr (<ᶠ-≤ᶠ_trans b k))

  -- a pairing that is refused refuses the end
  pub corner_refused : (to : Rounding) (a : Interval) {c : Fraction} (e : Refusal) → c ∈ᶠ a → Answers G to c (Err e) → (o : Result V Refusal) → IsErrAnd o (λ x. x ≡ e) → Corner G to a o
  corner_refused to a e i h (Ok v) w = absurd w
  corner_refused to a BeyondReach i h (Err x) w = rw w (beyond_end a i.0 i.1 h)
  corner_refused to a ZeroDivisor i h (Err x) w = absurd h

  -- the farther of two values means the farther of their fractions
  outermost_is : (to : Rounding) (x y : V) → G.meaning (outermost G to x y) ≈ᶠ outer to (G.meaning x) (G.meaning y)
  outermost_is Down x y = go (leᶠ (G.meaning x) (G.meaning y))
    where
      go : (t : Bool) → G.meaning (cond t x y) ≈ᶠ cond t (G.meaning x) (G.meaning y)
      go true = (≤ᶠ_refl (G.meaning x), ≤ᶠ_refl (G.meaning x))
      go false = (≤ᶠ_refl (G.meaning y), ≤ᶠ_refl (G.meaning y))
  outermost_is Up x y = go (leᶠ (G.meaning x) (G.meaning y))
    where
      go : (t : Bool) → G.meaning (cond t y x) ≈ᶠ cond t (G.meaning y) (G.meaning x)
      go true = (≤ᶠ_refl (G.meaning y), ≤ᶠ_refl (G.meaning y))
      go false = (≤ᶠ_refl (G.meaning x), ≤ᶠ_refl (G.meaning x))

  -- the lesser of two results rounded down is the lesser result, rounded down; so for the greater, up
  outermost_rounded : (to : Rounding) (v w : V) (p q : Fraction) → IsRounded G.meaning to p v → IsRounded G.meaning to q w → IsRounded G.meaning to (outer to p q) (outermost G to v w)
  outermost_rounded to v w p q d e = outer_rounded to v w (outermost G to v w) p q d e (outermost_is to v w)

  -- four answered pairings, and the outermost of them
  pub corner_answered : (f : Fraction → Fraction → Fraction) (a b : Interval) (to : Rounding) (v₁ v₂ v₃ v₄ : V) →
      Answers G to (f a.low b.low) (Ok v₁) → Answers G to (f a.low b.high) (Ok v₂) → Answers G to (f a.high b.low) (Ok v₃) → Answers G to (f a.high b.high) (Ok v₄) →
      Corner G to (corners f a b) (Ok (outermost G to (outermost G to v₁ v₂) (outermost G to v₃ v₄)))
  corner_answered f a b to v₁ v₂ v₃ v₄ h₁ h₂ h₃ h₄ = (reach_min, reach_max, rounded to h₁ h₂ h₃ h₄)
    where
      c₁ : Fraction
      c₁ = f a.low b.low

      c₂ : Fraction
      c₂ = f a.low b.high

      c₃ : Fraction
      c₃ = f a.high b.low

      c₄ : Fraction
      c₄ = f a.high b.high

      reach_min : InReach G (corners f a b).low
      reach_min = min_ind (InReach G) (minᶠ c₁ c₂) (minᶠ c₃ c₄) (λ _. min_ind (InReach G) c₁ c₂ (λ _. h₁.0) (λ _. h₂.0)) (λ _. min_ind (InReach G) c₃ c₄ (λ _. h₃.0) (λ _. h₄.0))

      reach_max : InReach G (corners f a b).high
      reach_max = max_ind (InReach G) (maxᶠ c₁ c₂) (maxᶠ c₃ c₄) (λ _. max_ind (InReach G) c₁ c₂ (λ _. h₁.0) (λ _. h₂.0)) (λ _. max_ind (InReach G) c₃ c₄ (λ _. h₃.0) (λ _. h₄.0))

      rounded : (to : Rounding) → Answers G to c₁ (Ok v₁) → Answers G to c₂ (Ok v₂) → Answers G to c₃ (Ok v₃) → Answers G to c₄ (Ok v₄) →
          IsRounded G.meaning to (end to (corners f a b)) (outermost G to (outermost G to v₁ v₂) (outermost G to v₃ v₄))
      rounded Down h₁ h₂ h₃ h₄ =
          outermost_rounded Down (outermost G Down v₁ v₂) (outermost G Down v₃ v₄) (minᶠ c₁ c₂) (minᶠ c₃ c₄) (outermost_rounded Down v₁ v₂ c₁ c₂ h₁.1 h₂.1) (outermost_rounded Down v₃ v₄ c₃ c₄ h₃.1 h₄.1)
      rounded Up h₁ h₂ h₃ h₄ =
          outermost_rounded Up (outermost G Up v₁ v₂) (outermost G Up v₃ v₄) (maxᶠ c₁ c₂) (maxᶠ c₃ c₄) (outermost_rounded Up v₁ v₂ c₁ c₂ h₁.1 h₂.1) (outermost_rounded Up v₃ v₄ c₃ c₄ h₃.1 h₄.1)

  -- the farther of two pairs of ends
  pub extremes_step : (to : Rounding) (a b : Range V) → ((v : V) → InReach G (G.meaning v)) →
      IsStep G (bound to) (span G a) (span G b) (Ok (record { low = outermost G to a.low b.low; high = outermost G to a.high b.high }))
  extremes_step to a b within = at to
    where
      reach : (to : Rounding) (v w : V) → InReach G (outer to (G.meaning v) (G.meaning w))
      reach Down v w = min_ind (InReach G) (G.meaning v) (G.meaning w) (λ _. within v) (λ _. within w)
      reach Up v w = max_ind (InReach G) (G.meaning v) (G.meaning w) (λ _. within v) (λ _. within w)

      at : (to : Rounding) → IsStep G (bound to) (span G a) (span G b) (Ok (record { low = outermost G to a.low b.low; high = outermost G to a.high b.high }))
      at Down = (λ u. u, reach Down a.low b.low, reach Down a.high b.high, (rounded_exact G.meaning Down _ (outermost_is Down a.low b.low), rounded_exact G.meaning Up _ (outermost_is Down a.high b.high)))
      at Up = (λ u. u, reach Up a.low b.low, reach Up a.high b.high, (rounded_exact G.meaning Down _ (outermost_is Up a.low b.low), rounded_exact G.meaning Up _ (outermost_is Up a.high b.high)))

  -- ---- verdicts

  pub root_judged : (a b : Interval) (up down : V) (v : Verdict) → SquareOf G Up a.high (Ok up) → SquareOf G Down a.low (Ok down) →
      Judged (RootHolds G a b up) (RootBreaks G a b down) v → Judges G Root a b (Ok v)
  root_judged a b up down v hu hd d = (never, (record { up = up; down = down; up_is = λ p. (hu.0 p).1; down_is = λ p. (hd.0 p).1 }, d))
    where
      never : SquareBeyond G a → ⊥
      never (inl s) = not_beyond G (hu.0 s.0).0 s.1
      never (inr s) = not_beyond G (hd.0 s.0).0 s.1
