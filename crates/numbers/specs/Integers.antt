-- Products of integers and their order. Assumes nothing.
use Rattle.std.specs.Prelude.{◌≡◌, ℕ, ◌+◌, ◌*◌, ◌<◌, ◌≤◌, ℤ, pos, negsuc, ◌+ℤ◌, ◌*ℤ◌, neg_ℤ, ◌≤ℤ◌, ◌<ℤ◌, FitsSigned, unsigned_abs}
use Rattle.std.proofs.Common.{sym, ap, ◌∙◌, subst, arith, mul-pos, mul-le-mul, mul-le-mul_right, le_of_mul-le-mul_right, lt_of_mul-lt-mul_right, ltb→lt, lt→ltb, to_z, of_z}
use borrow.Author.Differences.{up, down, le_out, at_most_in, below_in, same_in, product_is, neg_is, sum_is_lem}
use Rattle.std.proofs.Math.IntN.{*ℤ_comm, +ℤ_assoc, +ℤ_comm}
use Rattle.std.specs.Int.Signed.{lt_z_yes, clash_ℤ}
use Rattle.std.specs.Int.{Width}
use Rattle.std.proofs.lemmas.Int.{ints, by_lt_z, to_z-of_z, unsigned_abs-mul}

pub mul_le : (a b : ℤ) (k : ℕ) → a ≤ℤ b → (a *ℤ pos k) ≤ℤ (b *ℤ pos k)
mul_le a b k h = omega (arith, ints, mul-le-mul_right k (le_out a b h))

pub mul_le_back : (a b : ℤ) (k : ℕ) → 0 < k → (a *ℤ pos k) ≤ℤ (b *ℤ pos k) → a ≤ℤ b
mul_le_back a b k p h =
    let m : (up a + down b) * k ≤ (up b + down a) * k = omega (arith, ints) in
    at_most_in a b (le_of_mul-le-mul_right m p)

pub mul_lt_back : (a b : ℤ) (k : ℕ) → (a *ℤ pos k) <ℤ (b *ℤ pos k) → a <ℤ b
mul_lt_back a b k h =
    let m : (up a + down b) * k < (up b + down a) * k = omega (arith, ints) in
    below_in a b (lt_of_mul-lt-mul_right k m)

-- the two parts of a product and of a negative, as equations for `simp`
pub up_mul : (a b : ℤ) → up (a *ℤ b) ≡ up a * up b + down a * down b
up_mul a b = (product_is a b).0

pub down_mul : (a b : ℤ) → down (a *ℤ b) ≡ up a * down b + down a * up b
down_mul a b = (product_is a b).1

pub up_neg : (a : ℤ) → up (neg_ℤ a) ≡ down a
up_neg a = (neg_is a).0

pub down_neg : (a : ℤ) → down (neg_ℤ a) ≡ up a
down_neg a = (neg_is a).1

pub times_one : (a : ℤ) → a *ℤ pos 1 ≡ a
times_one a = omega (arith, ints)

pub times_assoc : (a b c : ℤ) → (a *ℤ b) *ℤ c ≡ a *ℤ (b *ℤ c)
times_assoc a b c = same_in _ _ (simp (up_mul, down_mul) (omega arith))

pub neg_left : (a b : ℤ) → neg_ℤ a *ℤ b ≡ neg_ℤ (a *ℤ b)
neg_left a b = same_in _ _ (simp (up_mul, down_mul, up_neg, down_neg, up_mul, down_mul) (omega arith))

pub spread_left : (a b c : ℤ) → (a +ℤ b) *ℤ c ≡ a *ℤ c +ℤ b *ℤ c
spread_left a b c = omega (arith, ints, ap (λ (n : ℕ). n * up c) (sum_is_lem a b), ap (λ (n : ℕ). n * down c) (sum_is_lem a b))

pub mul_split : (a : ℤ) (m n : ℕ) → a *ℤ pos (m * n) ≡ a *ℤ pos n *ℤ pos m
mul_split a m n = same_in _ _ (simp (up_mul, down_mul) (omega arith))

pub neg_right : (a b : ℤ) → a *ℤ neg_ℤ b ≡ neg_ℤ (a *ℤ b)
neg_right a b = same_in _ _ (simp (up_mul, down_mul, up_neg, down_neg, up_mul, down_mul) (omega arith))

-- a bound on a product
pub mul_bound : (a b : ℤ) (m n : ℕ) → unsigned_abs a ≤ m → unsigned_abs b ≤ n → unsigned_abs (a *ℤ b) ≤ m * n
mul_bound a b m n h k = rw (unsigned_abs-mul a b) (mul-le-mul h k)

-- a product that went to bits and is read again: its factors p and q are a and b
pub product_back : (w : Width) {p q : ℤ} (a b : ℤ) → FitsSigned w (a *ℤ b) → p ≡ a → q ≡ b → to_z w (of_z w (p *ℤ q)) ≡ a *ℤ b
product_back w a b fits e f = rw (e, f) (to_z-of_z w (a *ℤ b) fits)

pub spread : (a b c : ℤ) → a *ℤ (b +ℤ c) ≡ a *ℤ b +ℤ a *ℤ c
spread a b c = *ℤ_comm a (b +ℤ c) ∙ spread_left b c a ∙ ap (λ x. x +ℤ c *ℤ a) (*ℤ_comm b a) ∙ ap (λ x. a *ℤ b +ℤ x) (*ℤ_comm c a)

pub times_left_comm : (a b c : ℤ) → a *ℤ (b *ℤ c) ≡ b *ℤ (a *ℤ c)
times_left_comm a b c = sym (times_assoc a b c) ∙ ap (λ x. x *ℤ c) (*ℤ_comm a b) ∙ times_assoc b a c

pub plus_left_comm : (a b c : ℤ) → a +ℤ (b +ℤ c) ≡ b +ℤ (a +ℤ c)
plus_left_comm a b c = omega (arith, ints)

-- both sides of an equation of products, and of sums of products, sorted alike
pub ruleset products = (times_assoc, times_left_comm, *ℤ_comm)

pub ruleset sums = (spread, spread_left, times_assoc, times_left_comm, *ℤ_comm, +ℤ_assoc, plus_left_comm, +ℤ_comm)

-- ---- order

pub nonneg_times : {x y : ℤ} → pos 0 ≤ℤ x → pos 0 ≤ℤ y → pos 0 ≤ℤ (x *ℤ y)
nonneg_times {x = pos m} {y = pos n} h k = omega (arith, ints)
nonneg_times {x = pos m} {y = negsuc n} h k = absurd k.le
nonneg_times {x = negsuc m} {y = y} h k = absurd h.le

pub pos_times : {x y : ℤ} → pos 0 <ℤ x → pos 0 <ℤ y → pos 0 <ℤ (x *ℤ y)
pos_times {x = pos m} {y = pos n} h k = lt_z_yes (lt→ltb 0 (m * n) (mul-pos (ltb→lt 0 m h.lt) (ltb→lt 0 n k.lt)))
pos_times {x = pos m} {y = negsuc n} h k = absurd k.lt
pos_times {x = negsuc m} {y = y} h k = absurd h.lt

difference : (a b c : ℤ) → (b +ℤ neg_ℤ a) *ℤ c ≡ b *ℤ c +ℤ neg_ℤ (a *ℤ c)
difference a b c = spread_left b (neg_ℤ a) c ∙ ap (λ x. b *ℤ c +ℤ x) (neg_left a c)

le_to : {a b : ℤ} → a ≤ℤ b → pos 0 ≤ℤ (b +ℤ neg_ℤ a)
le_to h = omega (arith, ints)

le_from : (a b : ℤ) → pos 0 ≤ℤ (b +ℤ neg_ℤ a) → a ≤ℤ b
le_from a b h = omega (arith, ints)

lt_to : {a b : ℤ} → a <ℤ b → pos 0 <ℤ (b +ℤ neg_ℤ a)
lt_to h = omega (arith, ints)

lt_from : (a b : ℤ) → pos 0 <ℤ (b +ℤ neg_ℤ a) → a <ℤ b
lt_from a b h = omega (arith, ints)

pub times_le : {a b : ℤ} (c : ℤ) → pos 0 ≤ℤ c → a ≤ℤ b → (a *ℤ c) ≤ℤ (b *ℤ c)
times_le {a} {b} c h k = le_from (a *ℤ c) (b *ℤ c) (subst (λ x. pos 0 ≤ℤ x) (difference a b c) (nonneg_times (le_to k) h))

pub times_lt : {a b : ℤ} (c : ℤ) → pos 0 <ℤ c → a <ℤ b → (a *ℤ c) <ℤ (b *ℤ c)
times_lt {a} {b} c h k = lt_from (a *ℤ c) (b *ℤ c) (subst (λ x. pos 0 <ℤ x) (difference a b c) (pos_times (lt_to k) h))

pub lt_le : {a b : ℤ} → a <ℤ b → a ≤ℤ b
lt_le h = omega (arith, ints)

pub le-≤ : {a b c : ℤ} → a ≤ℤ b → b ≤ℤ c → a ≤ℤ c
le-≤ h k = omega (arith, ints)

pub cancel_le : (a b c : ℤ) → pos 0 <ℤ c → (a *ℤ c) ≤ℤ (b *ℤ c) → a ≤ℤ b
cancel_le a b c h k = by_lt_z b a (λ l. clash_ℤ (times_lt c h l) k) (λ l. l)
