-- Rounding to a grid. Assumes nothing.
use Rattle.std.specs.Prelude.{ℕ, ◌*◌, ◌<◌, ℤ, pos, ◌+ℤ◌, ◌-ℤ◌, ◌*ℤ◌, ◌≤ℤ◌, ◌<ℤ◌, Ok, Err, Result}
use Rattle.std.proofs.Common.{sym, ap, ◌∙◌, arith, mul_comm, inl, inr}
use Rattle.std.proofs.Math.IntN.{neg_ℤ-neg_ℤ}
use Rattle.std.proofs.lemmas.Int.{ints}
use Rattle.numbers.specs.declared.grid.Rounding.{Rounding}
use Rattle.numbers.specs.declared.grid.Rounding.TheVariants.{Down, Up}
use Rattle.numbers.specs.declared.grid.Refusal.{Refusal}
use Rattle.numbers.specs.declared.grid.Refusal.TheVariants.{BeyondReach, ZeroDivisor}
use Rattle.numbers.specs.Fractions.{Fraction, ◌≈ᶠ◌, over, -ᶠ◌}
use Rattle.numbers.specs.Grids.{Gauge, IsRounded, InReach, Beyond, Answers, Computes, IsQuotient}
use Rattle.numbers.specs.Integers.{mul_split, mul_le, mul_le_back, mul_lt_back}
use Rattle.numbers.specs.Orders.{≤ᶠ_trans, <ᶠ-≤ᶠ_trans, ≤ᶠ-<ᶠ_trans, clashᶠ, neg_le, alike}

-- a value that means q is q rounded either way
pub rounded_exact : {V : Type 0} (meaning : V → Fraction) (to : Rounding) (v : V) {q : Fraction} → meaning v ≈ᶠ q → IsRounded meaning to q v
rounded_exact meaning Down v e = (e.0, λ w h. ≤ᶠ_trans h e.1)
rounded_exact meaning Up v e = (e.1, λ w h. ≤ᶠ_trans e.0 h)

-- the rounding goes by the fraction, not by its terms
pub rounded_same : {V : Type 0} (meaning : V → Fraction) (to : Rounding) (v : V) {p q : Fraction} → p ≈ᶠ q → IsRounded meaning to p v → IsRounded meaning to q v
rounded_same meaning Down v e d = (≤ᶠ_trans d.0 e.0, λ w h. d.1 w (≤ᶠ_trans h e.1))
rounded_same meaning Up v e d = (≤ᶠ_trans e.1 d.0, λ w h. d.1 w (≤ᶠ_trans e.0 h))

module _ {V : Type 0} (G : Gauge V) where
  -- the answer goes by the fraction, not by its terms
  pub answers_same : (to : Rounding) (o : Result V Refusal) {p q : Fraction} → p ≈ᶠ q → Answers G to p o → Answers G to q o
  answers_same to (Ok v) e (i, d) = ((≤ᶠ_trans i.0 e.0, ≤ᶠ_trans e.1 i.1), rounded_same G.meaning to v e d)
  answers_same to (Err BeyondReach) e (inl b) = inl (≤ᶠ-<ᶠ_trans e.1 b)
  answers_same to (Err BeyondReach) e (inr b) = inr (<ᶠ-≤ᶠ_trans b e.0)
  answers_same to (Err ZeroDivisor) e b = absurd b

-- what is in reach is not beyond it
pub not_beyond : {V : Type 0} (G : Gauge V) {q : Fraction} → InReach G q → Beyond G q → ⊥
not_beyond G i (inl b) = clashᶠ b i.0
not_beyond G i (inr b) = clashᶠ b i.1

-- A grid of whole numbers of 1/s: the value with the count n/d, rounded, is n/(s * d), rounded.
module _ {G : Type 0} (count : G → ℤ) (s : ℕ) (hs : 0 < s) where
  pub by_quotient : (rounding : Rounding) (n : ℤ) (d : ℕ) (h : 0 < s * d) (v : G) → IsQuotient rounding n d (count v) → IsRounded (λ w. over s hs (count w)) rounding (over (s * d) h n) v
  by_quotient Down n d h v (low, high) = (
    record { at_most = rw (mul_split (count v) s d) (mul_le _ _ s low) },
    λ w k.
        let under : (count w *ℤ pos d) ≤ℤ n = mul_le_back _ _ s hs (rw (mul_split (count w) s d) at k.at_most) in
        let less : count w <ℤ (count v +ℤ pos 1) = mul_lt_back _ _ d (omega (arith, ints)) in
        record { at_most = mul_le _ _ s (omega (arith, ints)) },
  )
  by_quotient Up n d h v (high, low) = (
    record { at_most = rw (mul_split (count v) s d) (mul_le _ _ s high) },
    λ w k.
        let over : n ≤ℤ (count w *ℤ pos d) = mul_le_back _ _ s hs (rw (mul_split (count w) s d) at k.at_most) in
        let less : (count v -ℤ pos 1) <ℤ count w = mul_lt_back _ _ d (omega (arith, ints)) in
        record { at_most = mul_le _ _ s (omega (arith, ints)) },
  )

-- rounded to a finer grid first: k is q on it, and v is k
module _ {K G : Type 0} (fine : K → Fraction) (coarse : G → Fraction) (finer : (w : G) → (k : K) × (fine k ≈ᶠ coarse w)) where
  pub two_stage : (rounding : Rounding) (q : Fraction) (k : K) (v : G) → IsRounded fine rounding q k → IsRounded coarse rounding (fine k) v → IsRounded coarse rounding q v
  two_stage Down q k v first second = (
    ≤ᶠ_trans second.0 first.0,
    λ w h. let (j, e) = finer w in second.1 w (≤ᶠ_trans e.1 (first.1 j (≤ᶠ_trans e.0 h))),
  )
  two_stage Up q k v first second = (
    ≤ᶠ_trans first.0 second.0,
    λ w h. let (j, e) = finer w in second.1 w (≤ᶠ_trans (first.1 j (≤ᶠ_trans h e.1)) e.0),
  )

-- a fraction in the terms that a count of 1/s is rounded by
pub parted : (s : ℕ) (q : Fraction) (h : 0 < s * q.den) → over (s * q.den) h (q.num *ℤ pos s) ≈ᶠ q
parted s q h = alike (sym (mul_split q.num q.den s) ∙ ap (λ (n : ℕ). q.num *ℤ pos n) (mul_comm q.den s))

pub neg_neg : (p : Fraction) → (-ᶠ◌ (-ᶠ◌ p)) ≈ᶠ p
neg_neg p = alike (ap (λ (n : ℤ). n *ℤ pos p.den) (neg_ℤ-neg_ℤ p.num))

-- a grid with all negatives that rounds down by computing rounds up by it
pub computes_up : {V : Type 0} (G : Gauge V) → ((v : V) → (w : V) × (G.meaning w ≈ᶠ (-ᶠ◌ (G.meaning v)))) → Computes G Down → Computes G Up
computes_up {V} G negative computes q i =
    let (v, e, d) = computes (-ᶠ◌ q) (neg_le i.1, ≤ᶠ_trans (neg_le i.0) (neg_neg G.top).0) in
    let (w, n) = negative v in (
      w,
      (≤ᶠ_trans n.0 (neg_le e.1), ≤ᶠ_trans (neg_le e.0) n.1),
      (
        ≤ᶠ_trans (neg_neg q).1 (≤ᶠ_trans (neg_le d.0) n.1),
        λ x h.
            let (y, m) = negative x in
            ≤ᶠ_trans n.0 (≤ᶠ_trans (neg_le (d.1 y (≤ᶠ_trans m.0 (neg_le h)))) (≤ᶠ_trans (neg_le m.1) (neg_neg (G.meaning x)).0)),
      ),
    )

pub computes_both : {V : Type 0} (G : Gauge V) → ((v : V) → (w : V) × (G.meaning w ≈ᶠ (-ᶠ◌ (G.meaning v)))) → Computes G Down → (to : Rounding) → Computes G to
computes_both G negative computes Down = computes
computes_both G negative computes Up = computes_up G negative computes
