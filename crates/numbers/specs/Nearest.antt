-- The nearest whole number of the form a * 10^j, with a of at most six digits. Assumes nothing.
use Rattle.std.specs.Prelude.{◌≡◌, ℕ, zero, suc, ◌+◌, ◌-◌, ◌*◌, ◌^◌, ◌<◌, ◌≤◌, Bool, true, false, cond, ◌⊎◌, ℤ, pos, ◌*ℤ◌, neg_ℤ, ◌≤ℤ◌, nat_le, unsigned_abs, refl}
use Rattle.std.proofs.Common.{sym, ◌∙◌, ap, inl, inr, arith, mul-le-mul, add-one, pow-add, leb-true, leb-false}
use borrow.Author.Differences.{same_in}
use Rattle.std.specs.Int.{int_div_euclid}
use Rattle.std.proofs.lemmas.Int.{ints, by_lt_z}
use Rattle.numbers.specs.declared.grid.Rounding.{Rounding}
use Rattle.numbers.specs.declared.grid.Rounding.TheVariants.{Down, Up}
use Rattle.numbers.specs.Fractions.{millionths}
use Rattle.numbers.specs.Grids.{IsQuotient, IsRounded}
use Rattle.numbers.specs.Digits.{six}
use Rattle.numbers.specs.Quotients.{floor, stays_within}
use Rattle.numbers.specs.Integers.{mul_le, mul_le_back, mul_split, mul_bound, up_mul, down_mul}

-- x is such a number, and none is nearer to c on its side
abbrev pub Near : Rounding → ℤ → ℤ → Type 0
Near Down c x = (x ≤ℤ c) × ((a : ℤ) (j : ℕ) → unsigned_abs a ≤ 999999 → (a *ℤ pos (10 ^ j)) ≤ℤ c → (a *ℤ pos (10 ^ j)) ≤ℤ x)
Near Up c x = (c ≤ℤ x) × ((a : ℤ) (j : ℕ) → unsigned_abs a ≤ 999999 → c ≤ℤ (a *ℤ pos (10 ^ j)) → x ≤ℤ (a *ℤ pos (10 ^ j)))

pub ten_positive : (k : ℕ) → 0 < 10 ^ k
ten_positive zero = omega arith
ten_positive (suc k) = let h = ten_positive k in omega arith

pub ten_up : (j i : ℕ) → 10 ^ j ≤ 10 ^ (j + i)
ten_up j i = rw (pow-add 10 j i) (let h = mul-le-mul {n₁ = 10 ^ j} {n₂ = 10 ^ j} (omega arith) (ten_positive i) in omega arith)

ten_suc : (k : ℕ) → 10 ^ suc k ≡ 10 * 10 ^ k
ten_suc k = omega arith

-- one digit less
pub digit : (m : ℤ) (k : ℕ) → m *ℤ pos (10 ^ suc k) ≡ m *ℤ pos (10 ^ k) *ℤ pos 10
digit m k = rw (ten_suc k) (mul_split m 10 (10 ^ k))

-- a number with a lower power has its size below a million of the power
pub small : (a : ℤ) (j i : ℕ) → unsigned_abs a ≤ 999999 → unsigned_abs (a *ℤ pos (10 ^ j)) ≤ 999999 * 10 ^ (j + i)
small a j i h = mul_bound a (pos (10 ^ j)) 999999 (10 ^ (j + i)) h (ten_up j i)

-- one with a higher power is a multiple
pub multiple : (a : ℤ) (k i : ℕ) → a *ℤ pos (10 ^ (i + suc k)) ≡ (a *ℤ pos (10 ^ i)) *ℤ pos 10 *ℤ pos (10 ^ k)
multiple a k i =
    let e : 10 ^ i * (10 * 10 ^ k) ≡ 10 ^ k * (10 * 10 ^ i) = omega arith in
    rw (pow-add 10 i (suc k), ten_suc k, e, mul_split a (10 ^ k) (10 * 10 ^ i), mul_split a 10 (10 ^ i))

-- a number j is at most k, or above it
pub split_at : (j k : ℕ) → ((i : ℕ) × (k ≡ j + i)) ⊎ ((i : ℕ) × (j ≡ i + suc k))
split_at zero k = inl (k, omega arith)
split_at (suc j) zero = inr (j, omega arith)
split_at (suc j) (suc k) = elim (split_at j k) [ inl (i, e) ↦ inl (i, omega arith) | inr (i, e) ↦ inr (i, omega arith) ]

swap_ten : (b : ℤ) (P : ℕ) → b *ℤ pos 10 *ℤ pos P ≡ b *ℤ pos P *ℤ pos 10
swap_ten b P = same_in _ _ (simp (up_mul, down_mul) (omega arith))

-- m/10 rounded to n, at the power P, against w: of a lower power, or b ten times at P
low_down : (w m n : ℤ) (P : ℕ) → 0 < P → 999999 < unsigned_abs m → IsQuotient Down m 10 n → unsigned_abs w ≤ 999999 * P → w ≤ℤ (m *ℤ pos P) → w ≤ℤ (n *ℤ pos P *ℤ pos 10)
low_down w m n P p large q size under = by_lt_z m (pos 0)
    (λ h. let k = mul_le m (neg_ℤ (pos 1000000)) P (omega (arith, ints)) in absurd (omega (arith, ints)))
    (λ h. let k = mul_le (pos 100000) n P (omega (arith, ints)) in omega (arith, ints))

low_up : (w m n : ℤ) (P : ℕ) → 0 < P → 999999 < unsigned_abs m → IsQuotient Up m 10 n → unsigned_abs w ≤ 999999 * P → (m *ℤ pos P) ≤ℤ w → (n *ℤ pos P *ℤ pos 10) ≤ℤ w
low_up w m n P p large q size over = by_lt_z m (pos 0)
    (λ h. let k = mul_le n (neg_ℤ (pos 100000)) P (omega (arith, ints)) in omega (arith, ints))
    (λ h. let k = mul_le (pos 1000000) m P (omega (arith, ints)) in absurd (omega (arith, ints)))

high_down : (b m n : ℤ) (P : ℕ) → 0 < P → IsQuotient Down m 10 n → (b *ℤ pos 10 *ℤ pos P) ≤ℤ (m *ℤ pos P) → (b *ℤ pos 10 *ℤ pos P) ≤ℤ (n *ℤ pos P *ℤ pos 10)
high_down b m n P p q h =
    let k = mul_le_back (b *ℤ pos 10) m P p h in
    let l = mul_le b n P (omega (arith, ints)) in
    rw (swap_ten b P) (omega (arith, ints))

high_up : (b m n : ℤ) (P : ℕ) → 0 < P → IsQuotient Up m 10 n → (m *ℤ pos P) ≤ℤ (b *ℤ pos 10 *ℤ pos P) → (n *ℤ pos P *ℤ pos 10) ≤ℤ (b *ℤ pos 10 *ℤ pos P)
high_up b m n P p q h =
    let k = mul_le_back m (b *ℤ pos 10) P p h in
    let l = mul_le n b P (omega (arith, ints)) in
    rw (swap_ten b P) (omega (arith, ints))

-- dividing what has more than six digits by ten, rounded as told, keeps the nearest
pub near_step : (rounding : Rounding) (c m n : ℤ) (k : ℕ) → 999999 < unsigned_abs m → IsQuotient rounding m 10 n → Near rounding c (m *ℤ pos (10 ^ k)) → Near rounding c (n *ℤ pos (10 ^ suc k))
near_step Down c m n k large q (bound, best) =
    let lower : (n *ℤ pos 10 *ℤ pos (10 ^ k)) ≤ℤ (m *ℤ pos (10 ^ k)) = mul_le (n *ℤ pos 10) m (10 ^ k) q.0 in
    let turned : (n *ℤ pos (10 ^ k) *ℤ pos 10) ≤ℤ (m *ℤ pos (10 ^ k)) = rw (swap_ten n (10 ^ k)) at lower in
    rw (digit n k) (
      omega (arith, ints, turned, bound),
      λ a j h w.
          let under = best a j h w in
          let size : (i : ℕ) → k ≡ j + i → unsigned_abs (a *ℤ pos (10 ^ j)) ≤ 999999 * 10 ^ k = λ i e. rw e (small a j i h) in
          elim (split_at j k) [
            | inl (i, e) ↦ low_down (a *ℤ pos (10 ^ j)) m n (10 ^ k) (ten_positive k) large q (size i e) under
            | inr (i, e) ↦
                let moved : a *ℤ pos (10 ^ j) ≡ (a *ℤ pos (10 ^ i)) *ℤ pos 10 *ℤ pos (10 ^ k) = rw e (multiple a k i) in
                rw moved (high_down (a *ℤ pos (10 ^ i)) m n (10 ^ k) (ten_positive k) q (rw moved at under))
          ],
    )
near_step Up c m n k large q (bound, best) =
    let upper : (m *ℤ pos (10 ^ k)) ≤ℤ (n *ℤ pos 10 *ℤ pos (10 ^ k)) = mul_le m (n *ℤ pos 10) (10 ^ k) q.0 in
    let turned : (m *ℤ pos (10 ^ k)) ≤ℤ (n *ℤ pos (10 ^ k) *ℤ pos 10) = rw (swap_ten n (10 ^ k)) at upper in
    rw (digit n k) (
      omega (arith, ints, turned, bound),
      λ a j h w.
          let above = best a j h w in
          let size : (i : ℕ) → k ≡ j + i → unsigned_abs (a *ℤ pos (10 ^ j)) ≤ 999999 * 10 ^ k = λ i e. rw e (small a j i h) in
          elim (split_at j k) [
            | inl (i, e) ↦ low_up (a *ℤ pos (10 ^ j)) m n (10 ^ k) (ten_positive k) large q (size i e) above
            | inr (i, e) ↦
                let moved : a *ℤ pos (10 ^ j) ≡ (a *ℤ pos (10 ^ i)) *ℤ pos 10 *ℤ pos (10 ^ k) = rw e (multiple a k i) in
                rw moved (high_up (a *ℤ pos (10 ^ i)) m n (10 ^ k) (ten_positive k) q (rw moved at above))
          ],
    )

pub near_self : (rounding : Rounding) (c : ℤ) → Near rounding c c
near_self Down c = (omega (arith, ints), λ a j h w. w)
near_self Up c = (omega (arith, ints), λ a j h w. w)

pub ten_most : (k : ℕ) → k ≤ 12 → 10 ^ k ≤ 1000000000000
ten_most k h = let e : k + (12 - k) ≡ 12 = omega arith in rw e at (ten_up k (12 - k))

-- a turn of the loop, with the digits that are left
fewer : (rounding : Rounding) (m n : ℤ) (d : ℕ) → unsigned_abs m ≤ 999999 * 10 ^ d → 999999 < unsigned_abs m → IsQuotient rounding m 10 n → (e : ℕ) × (d ≡ suc e) × (unsigned_abs n ≤ 999999 * 10 ^ e)
fewer rounding m n zero left large q = absurd (omega arith)
fewer rounding m n (suc e) left large q =
    let t : ℕ = 999999 * 10 ^ e in
    let ten : 10 ^ suc e ≡ 10 * 10 ^ e = ten_suc e in
    let within = stays_within rounding m n 10 (999999 * 10 ^ e) (omega arith) q (omega (arith, ints)) (omega (arith, ints)) in
    (e, refl, omega (arith, ints))

pub turn : (rounding : Rounding) (c m n : ℤ) (k : ℕ) → k ≤ 12 → unsigned_abs m ≤ 999999 * 10 ^ (12 - k) → Near rounding c (m *ℤ pos (10 ^ k)) → 999999 < unsigned_abs m → IsQuotient rounding m 10 n → (k + 1 ≤ 12) × (unsigned_abs n ≤ 999999 * 10 ^ (12 - (k + 1))) × Near rounding c (n *ℤ pos (10 ^ (k + 1)))
turn rounding c m n k h left near large q =
    let (e, is, size) = fewer rounding m n (12 - k) left large q in
    let rest : 12 - (k + 1) ≡ e = omega arith in
    (omega arith, rw rest size, rw (add-one k) (near_step rounding c m n k large q near))

-- in millionths
module _ {G : Type 0} (mantissa : G → ℤ) (exponent : G → ℕ) (digits : (v : G) → unsigned_abs (mantissa v) ≤ 999999) where
  pub near_rounded : (rounding : Rounding) (c : ℤ) (v : G) → Near rounding c (mantissa v *ℤ pos (10 ^ exponent v)) → IsRounded (λ w. millionths (mantissa w *ℤ pos (10 ^ exponent w))) rounding (millionths c) v
  near_rounded Down c v (bound, best) = (
    record { at_most = mul_le _ _ 1000000 bound },
    λ w h. record { at_most = mul_le _ _ 1000000 (best (mantissa w) (exponent w) (digits w) (mul_le_back _ _ 1000000 (omega arith) h.at_most)) },
  )
  near_rounded Up c v (bound, best) = (
    record { at_most = mul_le _ _ 1000000 bound },
    λ w h. record { at_most = mul_le _ _ 1000000 (best (mantissa w) (exponent w) (digits w) (mul_le_back _ _ 1000000 (omega arith) h.at_most)) },
  )

-- x at the power k is a number of six digits, and none is nearer to c below
abbrev Found : ℤ → ℕ → ℤ → Type 0
Found c k x = (a : ℤ) × ((e : ℕ) × ((x *ℤ pos (10 ^ k) ≡ a *ℤ pos (10 ^ e)) × (unsigned_abs a ≤ 999999) × (e ≤ 12) × Near Down c (a *ℤ pos (10 ^ e))))

-- m at the power k, with so many digits left, is rounded down by computing
pub six_near : (f k : ℕ) (c m : ℤ) → k + f ≡ 12 → unsigned_abs m ≤ 999999 * 10 ^ f → Near Down c (m *ℤ pos (10 ^ k)) → Found c k (six f m)
six_near zero k c m left size near = (m, (k, (refl, omega arith, omega arith, near)))
six_near (suc f) k c m left size near = go (nat_le (unsigned_abs m) 999999) refl (six_near f (k + 1) c (int_div_euclid m (pos 10)) (omega arith))
  where
    n : ℤ
    n = int_div_euclid m (pos 10)

    go : (t : Bool) → nat_le (unsigned_abs m) 999999 ≡ t → (unsigned_abs n ≤ 999999 * 10 ^ f → Near Down c (n *ℤ pos (10 ^ (k + 1))) → Found c (k + 1) (six f n)) → Found c k (cond t m (six f n *ℤ pos 10))
    go true e next = (m, (k, (refl, leb-true (unsigned_abs m) 999999 e, omega arith, near)))
    go false e next =
        let rest : 12 - k ≡ suc f = omega arith in
        let over : 12 - (k + 1) ≡ f = omega arith in
        let (_, less, nearer) = turn Down c m n k (omega arith) (rw rest size) near (leb-false (unsigned_abs m) 999999 e) (floor m 10 (omega arith)) in
        let (a, (j, (is, small, power, nearest))) = next (rw over at less) nearer in
        (a, (j, (swap_ten (six f n) (10 ^ k) ∙ sym (digit (six f n) k) ∙ ap (λ (i : ℕ). six f n *ℤ pos (10 ^ i)) (sym (add-one k)) ∙ is, small, power, nearest)))
