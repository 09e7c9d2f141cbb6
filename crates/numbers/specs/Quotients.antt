-- Division rounded down or up. Assumes nothing.
use Rattle.std.specs.Prelude.{◌≡◌, ℕ, ◌/◌, ◌<◌, ℤ, pos, negsuc, ◌+ℤ◌, ◌-ℤ◌, ◌*ℤ◌, neg_ℤ, ◌≤ℤ◌, ◌<ℤ◌}
use Rattle.std.proofs.Common.{subst, arith}
use Rattle.std.proofs.lemmas.Int.{ints}
use Rattle.std.specs.Int.{int_div_euclid}
use Rattle.numbers.specs.declared.grid.Rounding.{Rounding}
use Rattle.numbers.specs.declared.grid.Rounding.TheVariants.{Down, Up}
use Rattle.numbers.specs.Grids.{IsQuotient}
use Rattle.numbers.specs.Integers.{spread_left, neg_left, mul_le_back, mul_lt_back}

pub floor : (n : ℤ) (d : ℕ) → 0 < d → IsQuotient Down n d (int_div_euclid n (pos d))
floor (pos a) d h = omega (arith, ints)
floor (negsuc a) d h = omega (arith, ints, spread_left (negsuc (a / d)) (pos 1) (pos d))

-- up is down on the other side of zero
pub ceiling : (n k : ℤ) (d : ℕ) → IsQuotient Down (neg_ℤ n) d k → IsQuotient Up n d (neg_ℤ k)
ceiling n k d h =
    (omega (arith, ints, neg_left k (pos d), h.0), omega (arith, ints, h.1, spread_left k (pos 1) (pos d), spread_left (neg_ℤ k) (neg_ℤ (pos 1)) (pos d), neg_left k (pos d)))

-- n/d from -t to t has its quotient there too
pub stays_within : (rounding : Rounding) (n k : ℤ) (d t : ℕ) → 0 < d → IsQuotient rounding n d k → (neg_ℤ (pos t) *ℤ pos d) ≤ℤ n → n ≤ℤ (pos t *ℤ pos d) → (neg_ℤ (pos t) ≤ℤ k) × (k ≤ℤ pos t)
stays_within Down n k d t h (low, high) p q =
    let less : neg_ℤ (pos t) <ℤ (k +ℤ pos 1) = mul_lt_back _ _ d (omega (arith, ints)) in
    (omega (arith, ints), mul_le_back _ _ d h (omega (arith, ints)))
stays_within Up n k d t h (high, low) p q =
    let less : (k -ℤ pos 1) <ℤ pos t = mul_lt_back _ _ d (omega (arith, ints)) in
    (mul_le_back _ _ d h (omega (arith, ints)), omega (arith, ints))

-- a quotient, in terms that are equal to its own
pub quotient_at : (rounding : Rounding) {m n k j : ℤ} {e d : ℕ} → m ≡ n → e ≡ d → k ≡ j → IsQuotient rounding m e k → IsQuotient rounding n d j
quotient_at rounding {n = n} {k = k} {e = e} {d = d} x y z q =
    subst (λ (i : ℤ). IsQuotient rounding n d i) z (subst (λ (i : ℕ). IsQuotient rounding n i k) y (subst (λ (i : ℤ). IsQuotient rounding i e k) x q))
