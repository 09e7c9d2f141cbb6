-- The ordered field of fractions: the order is total, and sums, products and quotients respect it. Assumes nothing.
use Rattle.std.specs.Prelude.{◌≡◌, ℕ, zero, suc, Bool, true, false, cond, not, T, ℤ, pos, negsuc, ◌+ℤ◌, ◌*ℤ◌, neg_ℤ, ◌≤ℤ◌, ◌<ℤ◌, refl}
use Rattle.std.proofs.Common.{sym, ap, ◌∙◌, subst, subst₂, arith, lt→ltb}
use Rattle.std.proofs.Math.IntN.{*ℤ_comm}
use Rattle.std.specs.Int.Signed.{lt_z, lt_z_yes, lt_z_no, le_z_yes, clash_ℤ, ≤ℤ_refl}
use Rattle.std.proofs.lemmas.Int.{ints}
use Rattle.numbers.specs.Fractions.{Fraction, zeroᶠ, ◌≤ᶠ◌, ◌<ᶠ◌, ◌≈ᶠ◌, leᶠ, minᶠ, maxᶠ, -ᶠ◌, ◌+ᶠ◌, ◌-ᶠ◌, ◌*ᶠ◌, inverse}
use Rattle.numbers.specs.Integers.{neg_left, neg_right, products, sums, nonneg_times, times_le, lt_le, le-≤, cancel_le}

-- ---- a total order

den_pos : (p : Fraction) → pos 0 <ℤ pos p.den
den_pos p = lt_z_yes (lt→ltb 0 p.den p.positive)

den_nonneg : (p : Fraction) → pos 0 ≤ℤ pos p.den
den_nonneg p = lt_le (den_pos p)

le_eq : {a b : ℤ} → a ≡ b → a ≤ℤ b
le_eq {a} e = subst (λ x. a ≤ℤ x) e (≤ℤ_refl a)

le_by : {a b c d : ℤ} → a ≡ c → b ≡ d → c ≤ℤ d → a ≤ℤ b
le_by e f h = subst₂ ◌≤ℤ◌ (sym e) (sym f) h

swap_last : (a b c : ℤ) → (a *ℤ b) *ℤ c ≡ (a *ℤ c) *ℤ b
swap_last a b c = simp products

pub ≤ᶠ_refl : (p : Fraction) → p ≤ᶠ p
≤ᶠ_refl p = record { at_most = ≤ℤ_refl (p.num *ℤ pos p.den) }

pub ≤ᶠ_trans : {p q r : Fraction} → p ≤ᶠ q → q ≤ᶠ r → p ≤ᶠ r
≤ᶠ_trans {p} {q} {r} h k =
    let a = p.num in
    let b = q.num in
    let c = r.num in
    let x = pos p.den in
    let y = pos q.den in
    let z = pos r.den in
    let hz = times_le z (den_nonneg r) h.at_most in
    let kx = times_le x (den_nonneg p) k.at_most in
    record { at_most = cancel_le (a *ℤ z) (c *ℤ x) y (den_pos q) (le_by (swap_last a z y) (swap_last c x y) (le-≤ hz (le_by (swap_last b x z) refl kx))) }

pub below_le : {p q : Fraction} → p <ᶠ q → p ≤ᶠ q
below_le h = record { at_most = lt_le h.below }

pub clashᶠ {ℓ} : {X : Type ℓ} {p q : Fraction} → p <ᶠ q → q ≤ᶠ p → X
clashᶠ h k = clash_ℤ h.below k.at_most

-- either below, or not
pub byᶠ {ℓ} : {P : Type ℓ} (p q : Fraction) → (p <ᶠ q → P) → (q ≤ᶠ p → P) → P
byᶠ {P = P} p q f g = go (lt_z (p.num *ℤ pos q.den) (q.num *ℤ pos p.den)) refl
  where
    go : (t : Bool) → lt_z (p.num *ℤ pos q.den) (q.num *ℤ pos p.den) ≡ t → P
    go true e = f (record { below = lt_z_yes (subst T (sym e) tt) })
    go false e = g (record { at_most = lt_z_no (subst (λ (t : Bool). T (not t)) (sym e) tt) })

pub below_of_not : {p q : Fraction} → ¬ (p ≤ᶠ q) → q <ᶠ p
below_of_not {p} {q} n = byᶠ q p (λ l. l) (λ l. absurd (n l))

pub <ᶠ-≤ᶠ_trans : {p q r : Fraction} → p <ᶠ q → q ≤ᶠ r → p <ᶠ r
<ᶠ-≤ᶠ_trans {p} {q} {r} h k = byᶠ p r (λ l. l) (λ l. clashᶠ h (≤ᶠ_trans k l))

pub ≤ᶠ-<ᶠ_trans : {p q r : Fraction} → p ≤ᶠ q → q <ᶠ r → p <ᶠ r
≤ᶠ-<ᶠ_trans {p} {q} {r} h k = byᶠ p r (λ l. l) (λ l. clashᶠ k (≤ᶠ_trans l h))

-- the test says what the order is
pub leᶠ_yes : (p q : Fraction) → T (leᶠ p q) → p ≤ᶠ q
leᶠ_yes p q t = record { at_most = le_z_yes t }

pub leᶠ_no : (p q : Fraction) → T (not (leᶠ p q)) → q <ᶠ p
leᶠ_no p q t = byᶠ q p (λ l. l) (λ l. absurd (both (leᶠ p q) l.at_most.le t))
  where
    both : (b : Bool) → T b → T (not b) → ⊥
    both true s t = t
    both false s t = s

-- ---- the lesser and the greater of two

pub min_ind {ℓ} : (P : Fraction → Type ℓ) (p q : Fraction) → (p ≤ᶠ q → P p) → (q ≤ᶠ p → P q) → P (minᶠ p q)
min_ind P p q f g = go (leᶠ p q) refl
  where
    go : (t : Bool) → leᶠ p q ≡ t → P (cond t p q)
    go true e = f (leᶠ_yes p q (subst T (sym e) tt))
    go false e = g (below_le (leᶠ_no p q (subst (λ (t : Bool). T (not t)) (sym e) tt)))

pub max_ind {ℓ} : (P : Fraction → Type ℓ) (p q : Fraction) → (q ≤ᶠ p → P p) → (p ≤ᶠ q → P q) → P (maxᶠ p q)
max_ind P p q f g = go (leᶠ p q) refl
  where
    go : (t : Bool) → leᶠ p q ≡ t → P (cond t q p)
    go true e = g (leᶠ_yes p q (subst T (sym e) tt))
    go false e = f (below_le (leᶠ_no p q (subst (λ (t : Bool). T (not t)) (sym e) tt)))

pub min_left : (p q : Fraction) → minᶠ p q ≤ᶠ p
min_left p q = min_ind (λ m. m ≤ᶠ p) p q (λ h. ≤ᶠ_refl p) (λ h. h)

pub min_right : (p q : Fraction) → minᶠ p q ≤ᶠ q
min_right p q = min_ind (λ m. m ≤ᶠ q) p q (λ h. h) (λ h. ≤ᶠ_refl q)

pub max_left : (p q : Fraction) → p ≤ᶠ maxᶠ p q
max_left p q = max_ind (λ m. p ≤ᶠ m) p q (λ h. ≤ᶠ_refl p) (λ h. h)

pub max_right : (p q : Fraction) → q ≤ᶠ maxᶠ p q
max_right p q = max_ind (λ m. q ≤ᶠ m) p q (λ h. h) (λ h. ≤ᶠ_refl q)

pub min_le : {p q r s : Fraction} → p ≤ᶠ r → q ≤ᶠ s → minᶠ p q ≤ᶠ minᶠ r s
min_le {p} {q} {r} {s} h k = min_ind (λ m. minᶠ p q ≤ᶠ m) r s (λ _. ≤ᶠ_trans (min_left p q) h) (λ _. ≤ᶠ_trans (min_right p q) k)

pub max_le : {p q r s : Fraction} → p ≤ᶠ r → q ≤ᶠ s → maxᶠ p q ≤ᶠ maxᶠ r s
max_le {p} {q} {r} {s} h k = max_ind (λ m. m ≤ᶠ maxᶠ r s) p q (λ _. ≤ᶠ_trans h (max_left r s)) (λ _. ≤ᶠ_trans k (max_right r s))

-- ---- sums

plus_comm' : (a x b y : ℤ) → (a *ℤ y +ℤ b *ℤ x) *ℤ (y *ℤ x) ≡ (b *ℤ x +ℤ a *ℤ y) *ℤ (x *ℤ y)
plus_comm' a x b y = simp sums

pub plus_comm : (p q : Fraction) → p +ᶠ q ≤ᶠ q +ᶠ p
plus_comm p q = record { at_most = le_eq (plus_comm' p.num (pos p.den) q.num (pos q.den)) }

plus_is : (a x b y c z : ℤ) → (a *ℤ z +ℤ c *ℤ x) *ℤ (y *ℤ z) ≡ (a *ℤ y) *ℤ (z *ℤ z) +ℤ (c *ℤ z) *ℤ (x *ℤ y)
plus_is a x b y c z = simp sums

plus_is' : (a x b y c z : ℤ) → (b *ℤ z +ℤ c *ℤ y) *ℤ (x *ℤ z) ≡ (b *ℤ x) *ℤ (z *ℤ z) +ℤ (c *ℤ z) *ℤ (x *ℤ y)
plus_is' a x b y c z = simp sums

plus_both : {a b : ℤ} (c : ℤ) → a ≤ℤ b → (a +ℤ c) ≤ℤ (b +ℤ c)
plus_both c h = omega (arith, ints)

pub plus_left : {p q : Fraction} (r : Fraction) → p ≤ᶠ q → p +ᶠ r ≤ᶠ q +ᶠ r
plus_left {p} {q} r h =
    let a = p.num in
    let b = q.num in
    let c = r.num in
    let x = pos p.den in
    let y = pos q.den in
    let z = pos r.den in
    record { at_most = le_by (plus_is a x b y c z) (plus_is' a x b y c z) (plus_both ((c *ℤ z) *ℤ (x *ℤ y)) (times_le (z *ℤ z) (nonneg_times (den_nonneg r) (den_nonneg r)) h.at_most)) }

pub plus_le : {p q r s : Fraction} → p ≤ᶠ q → r ≤ᶠ s → p +ᶠ r ≤ᶠ q +ᶠ s
plus_le {p} {q} {r} {s} h k = ≤ᶠ_trans (plus_left r h) (≤ᶠ_trans (plus_comm q r) (≤ᶠ_trans (plus_left q k) (plus_comm s q)))

neg_both : {a b : ℤ} → a ≤ℤ b → neg_ℤ b ≤ℤ neg_ℤ a
neg_both h = omega (arith, ints)

pub neg_le : {p q : Fraction} → p ≤ᶠ q → -ᶠ◌ q ≤ᶠ -ᶠ◌ p
neg_le {p} {q} h = record { at_most = le_by (neg_left q.num (pos p.den)) (neg_left p.num (pos q.den)) (neg_both h.at_most) }

pub minus_le : {p q r s : Fraction} → p ≤ᶠ q → s ≤ᶠ r → p -ᶠ r ≤ᶠ q -ᶠ s
minus_le h k = plus_le h (neg_le k)

-- ---- products

times_comm' : (a x b y : ℤ) → (a *ℤ b) *ℤ (y *ℤ x) ≡ (b *ℤ a) *ℤ (x *ℤ y)
times_comm' a x b y = simp products

pub times_comm : (p q : Fraction) → p *ᶠ q ≤ᶠ q *ᶠ p
times_comm p q = record { at_most = le_eq (times_comm' p.num (pos p.den) q.num (pos q.den)) }

pair : (a b c d : ℤ) → (a *ℤ b) *ℤ (c *ℤ d) ≡ (a *ℤ c) *ℤ (b *ℤ d)
pair a b c d = simp products

pub nonneg_num : {r : Fraction} → zeroᶠ ≤ᶠ r → pos 0 ≤ℤ r.num
nonneg_num {r} h = let k = h.at_most in omega (arith, ints)

pub nonpos_num : {r : Fraction} → r ≤ᶠ zeroᶠ → r.num ≤ℤ pos 0
nonpos_num {r} h = let k = h.at_most in omega (arith, ints)

pub nonneg_in : {r : Fraction} → pos 0 ≤ℤ r.num → zeroᶠ ≤ᶠ r
nonneg_in {r} h = record { at_most = omega (arith, ints) }

pub nonneg_product : {p q : Fraction} → zeroᶠ ≤ᶠ p → zeroᶠ ≤ᶠ q → zeroᶠ ≤ᶠ p *ᶠ q
nonneg_product {p} {q} h k = nonneg_in {r = p *ᶠ q} (nonneg_times (nonneg_num h) (nonneg_num k))

pub times_nonneg : {p q : Fraction} (r : Fraction) → zeroᶠ ≤ᶠ r → p ≤ᶠ q → p *ᶠ r ≤ᶠ q *ᶠ r
times_nonneg {p} {q} r n h =
    let c = r.num in
    let z = pos r.den in
    record { at_most = le_by (pair p.num c (pos q.den) z) (pair q.num c (pos p.den) z) (times_le (c *ℤ z) (nonneg_times (nonneg_num n) (den_nonneg r)) h.at_most) }

times_back : {a b : ℤ} (c : ℤ) → pos 0 ≤ℤ neg_ℤ c → a ≤ℤ b → (b *ℤ c) ≤ℤ (a *ℤ c)
times_back {a} {b} c n h = un (le_by (sym (neg_right a c)) (sym (neg_right b c)) (times_le (neg_ℤ c) n h))
  where
    un : {x y : ℤ} → neg_ℤ x ≤ℤ neg_ℤ y → y ≤ℤ x
    un h = omega (arith, ints)

pub times_nonpos : {p q : Fraction} (r : Fraction) → r ≤ᶠ zeroᶠ → p ≤ᶠ q → q *ᶠ r ≤ᶠ p *ᶠ r
times_nonpos {p} {q} r n h =
    let c = r.num in
    let z = pos r.den in
    record { at_most = le_by (pair q.num c (pos p.den) z) (pair p.num c (pos q.den) z) (times_back (c *ℤ z) (subst (λ x. pos 0 ≤ℤ x) (neg_left c z) (nonneg_times (neg_both (nonpos_num n)) (den_nonneg r))) h.at_most) }

-- ---- inverses

inverse_pos : (a : ℤ) (x : ℕ) (b : ℤ) (y : ℕ) → pos 0 <ℤ a → pos 0 <ℤ b → (a *ℤ pos y) ≤ℤ (b *ℤ pos x) → inverse b y ≤ᶠ inverse a x
inverse_pos (pos zero) x b y s t h = absurd (omega (arith, ints))
inverse_pos (negsuc a) x b y s t h = absurd s.lt
inverse_pos (pos (suc a)) x (pos zero) y s t h = absurd (omega (arith, ints))
inverse_pos (pos (suc a)) x (negsuc b) y s t h = absurd t.lt
inverse_pos (pos (suc a)) x (pos (suc b)) y s t h = record { at_most = le_by (*ℤ_comm (pos y) (pos (suc a))) (*ℤ_comm (pos x) (pos (suc b))) h }

turned : (x a : ℕ) → neg_ℤ (pos x) *ℤ pos a ≡ neg_ℤ (pos a *ℤ pos x)
turned x a = neg_left (pos x) (pos a) ∙ ap neg_ℤ (*ℤ_comm (pos x) (pos a))

inverse_neg : (a : ℤ) (x : ℕ) (b : ℤ) (y : ℕ) → a <ℤ pos 0 → b <ℤ pos 0 → (a *ℤ pos y) ≤ℤ (b *ℤ pos x) → inverse b y ≤ᶠ inverse a x
inverse_neg (pos a) x b y s t h = absurd (omega (arith, ints))
inverse_neg (negsuc a) x (pos b) y s t h = absurd (omega (arith, ints))
inverse_neg (negsuc a) x (negsuc b) y s t h = record { at_most = le_by (turned y (suc a)) (turned x (suc b)) h }

pub pos_num : {r : Fraction} → zeroᶠ <ᶠ r → pos 0 <ℤ r.num
pos_num {r} h = let k = h.below in omega (arith, ints)

pub neg_num : {r : Fraction} → r <ᶠ zeroᶠ → r.num <ℤ pos 0
neg_num {r} h = let k = h.below in omega (arith, ints)

pub inverse_above : {p q : Fraction} → zeroᶠ <ᶠ p → p ≤ᶠ q → inverse q.num q.den ≤ᶠ inverse p.num p.den
inverse_above {p} {q} s h = inverse_pos p.num p.den q.num q.den (pos_num s) (pos_num (<ᶠ-≤ᶠ_trans s h)) h.at_most

pub inverse_below : {p q : Fraction} → q <ᶠ zeroᶠ → p ≤ᶠ q → inverse q.num q.den ≤ᶠ inverse p.num p.den
inverse_below {p} {q} s h = inverse_neg p.num p.den q.num q.den (neg_num (≤ᶠ-<ᶠ_trans h s)) (neg_num s) h.at_most

-- ---- the same fraction in other terms

pub plus_same : {p q r s : Fraction} → p ≈ᶠ q → r ≈ᶠ s → (p +ᶠ r) ≈ᶠ (q +ᶠ s)
plus_same h k = (plus_le h.0 k.0, plus_le h.1 k.1)

-- ---- between two fractions, in either order

abbrev pub Between : Fraction → Fraction → Fraction → Type 0
Between p q x = (minᶠ p q ≤ᶠ x) × (x ≤ᶠ maxᶠ p q)

pub between_up : {p q x : Fraction} → p ≤ᶠ x → x ≤ᶠ q → Between p q x
between_up {p} {q} h k = (≤ᶠ_trans (min_left p q) h, ≤ᶠ_trans k (max_right p q))

pub between_down : {p q x : Fraction} → q ≤ᶠ x → x ≤ᶠ p → Between p q x
between_down {p} {q} h k = (≤ᶠ_trans (min_right p q) h, ≤ᶠ_trans k (max_left p q))

-- either way round
pub between_by {ℓ} : {P : Type ℓ} (p q x : Fraction) → Between p q x → (p ≤ᶠ x → x ≤ᶠ q → P) → (q ≤ᶠ x → x ≤ᶠ p → P) → P
between_by {P = P} p q x b f g = byᶠ p q (λ l. f (le_min (below_le l)) (le_max (below_le l))) (λ l. g (ge_min l) (ge_max l))
  where
    le_min : p ≤ᶠ q → p ≤ᶠ x
    le_min l = ≤ᶠ_trans (min_ind (λ m. p ≤ᶠ m) p q (λ _. ≤ᶠ_refl p) (λ _. l)) b.0

    le_max : p ≤ᶠ q → x ≤ᶠ q
    le_max l = ≤ᶠ_trans b.1 (max_ind (λ m. m ≤ᶠ q) p q (λ _. l) (λ _. ≤ᶠ_refl q))

    ge_min : q ≤ᶠ p → q ≤ᶠ x
    ge_min l = ≤ᶠ_trans (min_ind (λ m. q ≤ᶠ m) p q (λ _. l) (λ _. ≤ᶠ_refl q)) b.0

    ge_max : q ≤ᶠ p → x ≤ᶠ p
    ge_max l = ≤ᶠ_trans b.1 (max_ind (λ m. m ≤ᶠ p) p q (λ _. ≤ᶠ_refl p) (λ _. l))

pub between_times : (a b x y : Fraction) → Between a b x → Between (a *ᶠ y) (b *ᶠ y) (x *ᶠ y)
between_times a b x y h = byᶠ zeroᶠ y (λ s. up (below_le s)) (λ s. down s)
  where
    up : zeroᶠ ≤ᶠ y → Between (a *ᶠ y) (b *ᶠ y) (x *ᶠ y)
    up s = between_by a b x h (λ l m. between_up (times_nonneg y s l) (times_nonneg y s m)) (λ l m. between_down (times_nonneg y s l) (times_nonneg y s m))

    down : y ≤ᶠ zeroᶠ → Between (a *ᶠ y) (b *ᶠ y) (x *ᶠ y)
    down s = between_by a b x h (λ l m. between_down (times_nonpos y s m) (times_nonpos y s l)) (λ l m. between_up (times_nonpos y s m) (times_nonpos y s l))

pub between_times_right : (x c d y : Fraction) → Between c d y → Between (x *ᶠ c) (x *ᶠ d) (x *ᶠ y)
between_times_right x c d y h =
    let b = between_times c d y x h in
    (≤ᶠ_trans (min_le (times_comm x c) (times_comm x d)) (≤ᶠ_trans b.0 (times_comm y x)), ≤ᶠ_trans (times_comm x y) (≤ᶠ_trans b.1 (max_le (times_comm c x) (times_comm d x))))

-- x * y lies between the least and the greatest of the four products of the ends
pub corners_times : (a b c d x y : Fraction) → Between a b x → Between c d y →
    (minᶠ (minᶠ (a *ᶠ c) (a *ᶠ d)) (minᶠ (b *ᶠ c) (b *ᶠ d)) ≤ᶠ x *ᶠ y) × (x *ᶠ y ≤ᶠ maxᶠ (maxᶠ (a *ᶠ c) (a *ᶠ d)) (maxᶠ (b *ᶠ c) (b *ᶠ d)))
corners_times a b c d x y h k =
    let s = between_times_right a c d y k in
    let t = between_times_right b c d y k in
    let u = between_times a b x y h in
    (≤ᶠ_trans (min_le s.0 t.0) u.0, ≤ᶠ_trans u.1 (max_le s.1 t.1))

-- y lies between c and d, which are on one side of zero
pub between_inverse : (c d y : Fraction) → c ≤ᶠ y → y ≤ᶠ d → ¬ ((c ≤ᶠ zeroᶠ) × (zeroᶠ ≤ᶠ d)) →
    Between (inverse c.num c.den) (inverse d.num d.den) (inverse y.num y.den)
between_inverse c d y h k n =
    byᶠ zeroᶠ c (λ s. between_down (inverse_above (<ᶠ-≤ᶠ_trans s h) k) (inverse_above s h))
    (λ s. byᶠ d zeroᶠ (λ t. between_down (inverse_below t k) (inverse_below (≤ᶠ-<ᶠ_trans k t) h)) (λ t. absurd (n (s, t))))

-- the same fraction, from one equation of its terms
pub alike : {p q : Fraction} → p.num *ℤ pos q.den ≡ q.num *ℤ pos p.den → p ≈ᶠ q
alike e = (record { at_most = le_eq e }, record { at_most = le_eq (sym e) })
