-- Values that count 1/s: their order, sums, products and quotients. Assumes nothing.
use Rattle.std.specs.Prelude.{◌≡◌, ℕ, zero, suc, ◌*◌, ◌<◌, ◌≤◌, ℤ, pos, negsuc, ◌+ℤ◌, ◌*ℤ◌, neg_ℤ, ◌≤ℤ◌, Ok, Err, Decides, Result, ◌≢◌, int_le, unsigned_abs, refl}
use Rattle.std.proofs.Common.{sym, ap, arith, mul-pos, min}
use Rattle.std.specs.Int.{int_signum}
use borrow.Author.Differences.{true_is_le}
use Rattle.std.proofs.lemmas.Int.{ints}
use Rattle.numbers.specs.declared.grid.Rounding.{Rounding}
use Rattle.numbers.specs.declared.grid.Refusal.{Refusal}
use Rattle.numbers.specs.declared.grid.Refusal.TheVariants.{BeyondReach, ZeroDivisor}
use Rattle.numbers.specs.Fractions.{Fraction, ◌≤ᶠ◌, ◌≈ᶠ◌, over, zeroᶠ, ◌+ᶠ◌, ◌*ᶠ◌, ◌÷ᶠ◌}
use Rattle.numbers.specs.Grids.{Gauge, Answers, AnswersOver}
use Rattle.numbers.specs.Integers.{spread_left, times_one, mul_split, mul_le, mul_le_back, mul_bound, neg_left, neg_right}
use Rattle.numbers.specs.Roundings.{answers_same}
use Rattle.numbers.specs.Orders.{alike}

-- a number with the sign of another
signed_up : (a : ℤ) (k : ℕ) → a *ℤ int_signum (pos (suc k)) ≡ a
signed_up a k = let e : min (suc k) 1 ≡ 1 = omega arith in rw e (times_one a)

signed_down : (a : ℤ) → a *ℤ negsuc zero ≡ neg_ℤ a
signed_down a = omega (arith, ints)

pub signed_size : (a b : ℤ) → unsigned_abs (a *ℤ int_signum b) ≤ unsigned_abs a
signed_size a (pos k) = let e : min k 1 ≤ 1 = omega arith in let h = mul_bound a (pos (min k 1)) (unsigned_abs a) 1 (omega arith) e in omega (arith, h)
signed_size a (negsuc k) = rw (signed_down a) (omega (arith, ints))

module _ (s : ℕ) (hs : 0 < s) where
  pub same_count : {a b : ℤ} → a ≡ b → over s hs a ≈ᶠ over s hs b
  same_count e = alike (ap (λ (n : ℤ). n *ℤ pos s) e)

  -- counts p and q compare as their fractions
  pub order : (x y p q : ℤ) → p ≡ x → q ≡ y → Decides (int_le p q) (over s hs x ≤ᶠ over s hs y)
  order x y p q e f = (
    λ h. record { at_most = mul_le x y s (omega (arith, ints)) },
    λ h. let k = mul_le_back x y s hs h.at_most in sym (true_is_le p q (omega (arith, ints))),
  )

  pub sum_of_counts : {n : ℤ} (a b : ℤ) → n ≡ a +ℤ b → (h : 0 < s * 1) → over (s * 1) h n ≈ᶠ (over s hs a +ᶠ over s hs b)
  sum_of_counts a b e h = rw e (alike (rw (mul_split (a +ℤ b) s s, mul_split (a *ℤ pos s +ℤ b *ℤ pos s) s 1, spread_left a b (pos s), times_one (a *ℤ pos s +ℤ b *ℤ pos s))))

  pub product_of_counts : {n : ℤ} (a b : ℤ) → n ≡ a *ℤ b → (h : 0 < s * s) → over (s * s) h n ≈ᶠ (over s hs a *ᶠ over s hs b)
  product_of_counts a b e h = rw e (alike refl)

  -- a quotient whose divisor is not zero
  divides_by : {V : Type 0} (G : Gauge V) (to : Rounding) (p d : Fraction) (o : Result V Refusal) → ¬ (d ≈ᶠ zeroᶠ) → Answers G to (p ÷ᶠ d) o → AnswersOver G to p d o
  divides_by G to p d (Ok v) n h = (n, h)
  divides_by G to p d (Err BeyondReach) n h = (n, h)
  divides_by G to p d (Err ZeroDivisor) n h = absurd h

  not_zero : (b : ℤ) → (b ≢ pos 0) → ¬ (over s hs b ≈ᶠ zeroᶠ)
  not_zero b n e = n (zero_by b e.0.at_most e.1.at_most)
    where
      zero_by : (b : ℤ) → (b *ℤ pos 1) ≤ℤ (pos 0 *ℤ pos s) → (pos 0 *ℤ pos s) ≤ℤ (b *ℤ pos 1) → b ≡ pos 0
      zero_by b h k = omega (arith, ints)

  -- n/d counts the quotient of a by b: d is b without its sign, and n is a with that sign, s-fold
  pub by_count : {V : Type 0} (G : Gauge V) (to : Rounding) (a b n : ℤ) (d : ℕ) (r : Result V Refusal) → (b ≢ pos 0) → d ≡ unsigned_abs b → n ≡ a *ℤ int_signum b *ℤ pos s → ((h : 0 < s * d) → Answers G to (over (s * d) h n) r) → AnswersOver G to (over s hs a) (over s hs b) r
  by_count G to a (pos zero) n d r some e t f = absurd (some refl)
  by_count G to a (pos (suc k)) n d r some e t f =
      let h : 0 < s * d = mul-pos hs (omega arith) in
      divides_by G to (over s hs a) (over s hs (pos (suc k))) r (not_zero (pos (suc k)) some) (answers_same G to r (alike {p = over (s * d) h n} (rw (t, signed_up a k, e))) (f h))
  by_count G to a (negsuc k) n d r some e t f =
      let h : 0 < s * d = mul-pos hs (omega arith) in
      divides_by G to (over s hs a) (over s hs (negsuc k)) r (not_zero (negsuc k) some) (answers_same G to r (alike {p = over (s * d) h n} (rw (t, signed_down a, e, neg_left a (pos s), neg_right a (pos s)))) (f h))
