-- A step's range holds the step's value at any two fractions of its operands, and a step on narrower ranges gives a narrower range. Assumes nothing.
use Rattle.std.proofs.Common.{◌≡◌, zero, suc, Bool, true, false, cond, ◌⊎◌, ℤ, pos, negsuc, Some, None, Ok, Err, Result, sym, refl, subst, inl, inr, arith}
use Rattle.std.proofs.lemmas.Int.{ints}
use Rattle.numbers.specs.Fractions.{Fraction, zeroᶠ, ◌≤ᶠ◌, minᶠ, maxᶠ, ◌+ᶠ◌, ◌-ᶠ◌, ◌*ᶠ◌, inverse, ◌÷ᶠ◌, is_zeroᶠ}
use Rattle.ranges.specs.declared.range.Sign.{Sign}
use Rattle.ranges.specs.declared.range.Sign.TheVariants.{Plus, Minus, Times, Over, Least, Greatest}
use Rattle.numbers.specs.declared.grid.Refusal.{Refusal}
use Rattle.numbers.specs.declared.grid.Refusal.TheVariants.{BeyondReach, ZeroDivisor}
use Rattle.ranges.specs.declared.range.Range.{Range}
use Rattle.numbers.specs.Grids.{Gauge, InReach, Beyond, IsGrid}
use Rattle.ranges.specs.Ranges.{Interval, span, ◌∈ᶠ◌, Inside, Covers, corners, ends, Undefined, combine, IsStep, ZeroRefused, SoundStep, NarrowestStep, TightStep, StepPromise}
use Rattle.numbers.specs.Roundings.{not_beyond}
use Rattle.numbers.specs.Orders.{≤ᶠ_refl, ≤ᶠ_trans, plus_le, minus_le, min_ind, max_ind, min_le, max_le, between_up, corners_times, between_inverse}
use Rattle.ranges.proofs.Computed.{step_agrees}

-- the value of a step at two fractions, where a divisor is not zero
abbrev pub value : Sign → Fraction → Fraction → Fraction
value Plus p q = p +ᶠ q
value Minus p q = p -ᶠ q
value Times p q = p *ᶠ q
value Over p q = p ÷ᶠ q
value Least p q = minᶠ p q
value Greatest p q = maxᶠ p q

-- the ends of a step hold its value
pub holds_value : (s : Sign) (a b : Interval) (x y : Fraction) → ¬ (Undefined s b) → x ∈ᶠ a → y ∈ᶠ b → value s x y ∈ᶠ ends s a b
holds_value Plus a b x y n h k = (plus_le h.0 k.0, plus_le h.1 k.1)
holds_value Minus a b x y n h k = (minus_le h.0 k.1, minus_le h.1 k.0)
holds_value Times a b x y n h k = corners_times a.low a.high b.low b.high x y (between_up h.0 h.1) (between_up k.0 k.1)
holds_value Over a b x y n h k =
    corners_times a.low a.high (inverse b.low.num b.low.den) (inverse b.high.num b.high.den) x (inverse y.num y.den)
    (between_up h.0 h.1) (between_inverse b.low b.high y k.0 k.1 (λ z. n (inl z)))
holds_value Least a b x y n h k = (min_le h.0 k.0, min_le h.1 k.1)
holds_value Greatest a b x y n h k = (max_le h.0 k.0, max_le h.1 k.1)

-- each end of a step is its value at two ends of the operands
pub ends_ind : (s : Sign) (a b : Interval) (P Q : Fraction → Type 0) → ((x y : Fraction) → (x ≡ a.low) ⊎ (x ≡ a.high) → (y ≡ b.low) ⊎ (y ≡ b.high) → P (value s x y) × Q (value s x y)) →
    P (ends s a b).low × Q (ends s a b).high
ends_ind s a b P Q f = go s f
  where
    L : {x y : Fraction} → (x ≡ x) ⊎ (x ≡ y)
    L = inl refl

    R : {x y : Fraction} → (y ≡ x) ⊎ (y ≡ y)
    R = inr refl

    four : (g : Fraction → Fraction → Fraction) → ((x y : Fraction) → (x ≡ a.low) ⊎ (x ≡ a.high) → (y ≡ b.low) ⊎ (y ≡ b.high) → P (g x y) × Q (g x y)) →
        P (corners g a b).low × Q (corners g a b).high
    four g f =
        let ll = f a.low b.low L L in
        let lh = f a.low b.high L R in
        let hl = f a.high b.low R L in
        let hh = f a.high b.high R R in
        let p : (x y : Fraction) → P x → P y → P (minᶠ x y) = λ x y u v. min_ind P x y (λ _. u) (λ _. v) in
        let q : (x y : Fraction) → Q x → Q y → Q (maxᶠ x y) = λ x y u v. max_ind Q x y (λ _. u) (λ _. v) in (
          p (minᶠ (g a.low b.low) (g a.low b.high)) (minᶠ (g a.high b.low) (g a.high b.high))
              (p (g a.low b.low) (g a.low b.high) ll.0 lh.0) (p (g a.high b.low) (g a.high b.high) hl.0 hh.0),
          q (maxᶠ (g a.low b.low) (g a.low b.high)) (maxᶠ (g a.high b.low) (g a.high b.high))
              (q (g a.low b.low) (g a.low b.high) ll.1 lh.1) (q (g a.high b.low) (g a.high b.high) hl.1 hh.1),
        )

    go : (s : Sign) → ((x y : Fraction) → (x ≡ a.low) ⊎ (x ≡ a.high) → (y ≡ b.low) ⊎ (y ≡ b.high) → P (value s x y) × Q (value s x y)) →
        P (ends s a b).low × Q (ends s a b).high
    go Plus f = ((f a.low b.low L L).0, (f a.high b.high R R).1)
    go Minus f = ((f a.low b.high L R).0, (f a.high b.low R L).1)
    go Times f = four ◌*ᶠ◌ f
    go Over f = four ◌÷ᶠ◌ f
    go Least f = ((f a.low b.low L L).0, (f a.high b.high R R).1)
    go Greatest f = ((f a.low b.low L L).0, (f a.high b.high R R).1)

-- an end of a range that lies in a lies in a
end_in : {a a' : Interval} → Inside a' a → (x : Fraction) → (x ≡ a'.low) ⊎ (x ≡ a'.high) → x ∈ᶠ a
end_in {a} i x (inl e) = subst (λ z. z ∈ᶠ a) (sym e) (i.0, ≤ᶠ_trans i.1 i.2)
end_in {a} i x (inr e) = subst (λ z. z ∈ᶠ a) (sym e) (≤ᶠ_trans i.0 i.1, i.2)

itself : {a a' : Interval} → Inside a' a → Inside a' a'
itself {a' = a} i = (≤ᶠ_refl a.low, i.1, ≤ᶠ_refl a.high)

pub undefined_wider : (s : Sign) {b b' : Interval} → Inside b' b → Undefined s b' → Undefined s b
undefined_wider Plus i u = u
undefined_wider Minus i u = u
undefined_wider Times i u = u
undefined_wider Over i (inl u) = inl (≤ᶠ_trans i.0 u.0, ≤ᶠ_trans u.1 i.2)
undefined_wider Over i (inr u) = inl (≤ᶠ_trans i.0 (≤ᶠ_trans i.1 u.0), ≤ᶠ_trans u.1 (≤ᶠ_trans i.1 i.2))
undefined_wider Least i u = u
undefined_wider Greatest i u = u

-- narrower operands have narrower ends
pub ends_inside : (s : Sign) (a a' b b' : Interval) → Inside a' a → Inside b' b → ¬ (Undefined s b) → Inside (ends s a' b') (ends s a b)
ends_inside s a a' b b' i j n =
    let wide = ends_ind s a' b' (λ q. (ends s a b).low ≤ᶠ q) (λ q. q ≤ᶠ (ends s a b).high) (λ x y h k. holds_value s a b x y n (end_in i x h) (end_in j y k)) in
    let own = holds_value s a' b' a'.low b'.low (λ u. n (undefined_wider s j u)) (end_in (itself i) a'.low (inl refl)) (end_in (itself j) b'.low (inl refl)) in
    (wide.0, ≤ᶠ_trans own.0 own.1, wide.1)

-- ---- a step at two fractions

zero_num : (n : ℤ) → (elim n as (λ _. Bool) [ pos zero ↦ true | pos (suc k) ↦ false | negsuc k ↦ false ]) ≡ true → n ≡ pos 0
zero_num (pos zero) e = refl
zero_num (pos (suc k)) e = cc
zero_num (negsuc k) e = cc

zero_held : {b : Interval} {y : Fraction} → is_zeroᶠ y ≡ true → y ∈ᶠ b → zeroᶠ ∈ᶠ b
zero_held {y = y} e k =
    let z : y.num ≡ pos 0 = zero_num y.num e in
    let up : y ≤ᶠ zeroᶠ = record { at_most = omega (arith, ints) } in
    let down : zeroᶠ ≤ᶠ y = record { at_most = omega (arith, ints) } in
    (≤ᶠ_trans k.0 up, ≤ᶠ_trans down k.1)

pub combine_is : (s : Sign) {b : Interval} (x : Fraction) {y : Fraction} → ¬ (Undefined s b) → y ∈ᶠ b → combine s x y ≡ Some (value s x y)
combine_is Plus x n k = refl
combine_is Minus x n k = refl
combine_is Times x n k = refl
combine_is Over x {y} n k = go (is_zeroᶠ y) refl
  where
    go : (t : Bool) → is_zeroᶠ y ≡ t → cond t None (Some (x ÷ᶠ y)) ≡ Some (x ÷ᶠ y)
    go true e = absurd (n (inl (zero_held e k)))
    go false e = refl
combine_is Least x n k = refl
combine_is Greatest x n k = refl

module _ {V : Type 0} (G : Gauge V) where
  -- ---- rounding outward

  pub covers_hold : (r : Range V) {a : Interval} {q : Fraction} → Covers G a r → q ∈ᶠ a → q ∈ᶠ span G r
  covers_hold r c h = (≤ᶠ_trans c.0.0 h.0, ≤ᶠ_trans h.1 c.1.0)

  pub covers_inside : (r r' : Range V) {a a' : Interval} → Inside a' a → Covers G a r → Covers G a' r' → Inside (span G r') (span G r)
  covers_inside r r' i c d =
      (d.0.1 r.low (≤ᶠ_trans c.0.0 i.0), ≤ᶠ_trans d.0.0 (≤ᶠ_trans i.1 d.1.0), d.1.1 r.high (≤ᶠ_trans i.2 c.1.0))

  -- between two fractions in reach
  reach_between : {l q h : Fraction} → InReach G l → InReach G h → l ≤ᶠ q → q ≤ᶠ h → InReach G q
  reach_between i j k m = (≤ᶠ_trans i.0 k, ≤ᶠ_trans m j.1)

  -- ---- a step on ranges

  pub step_sound : (s : Sign) (a b : Interval) (r : Range V) (x y : Fraction) → IsStep G s a b (Ok r) → x ∈ᶠ a → y ∈ᶠ b →
      (q : Fraction) × (combine s x y ≡ Some q) × q ∈ᶠ span G r
  step_sound s a b r x y w h k = (value s x y, combine_is s {b = b} x w.0 k, covers_hold r {a = ends s a b} w.3 (holds_value s a b x y w.0 h k))

  pub step_tight : (s : Sign) (a a' b b' : Interval) (r : Range V) (o : Result (Range V) Refusal) → Inside a' a → Inside b' b → IsStep G s a b (Ok r) → IsStep G s a' b' o →
      (r' : Range V) × (o ≡ Ok r') × Inside (span G r') (span G r)
  step_tight s a a' b b' r (Ok r') i j w w' = (r', refl, covers_inside r r' (ends_inside s a a' b b' i j w.0) w.3 w'.3)
  step_tight s a a' b b' r (Err BeyondReach) i j w w' = absurd (out w'.1)
    where
      e : Inside (ends s a' b') (ends s a b)
      e = ends_inside s a a' b b' i j w.0

      out : Beyond G (ends s a' b').low ⊎ Beyond G (ends s a' b').high → ⊥
      out (inl x) = not_beyond G (reach_between w.1 w.2 e.0 (≤ᶠ_trans e.1 e.2)) x
      out (inr x) = not_beyond G (reach_between w.1 w.2 (≤ᶠ_trans e.0 e.1) e.2) x
  step_tight s a a' b b' r (Err ZeroDivisor) i j w w' = absurd (w.0 (undefined_wider s {b = b} {b' = b'} j w'))

  pub sound_step : (s : Sign) (a b : Interval) (o : Result (Range V) Refusal) → IsStep G s a b o → SoundStep G s a b o
  sound_step s a b (Ok r) w = λ p q h k. step_sound s a b r p q w h k
  sound_step s a b (Err e) w = tt

  pub tight_step : (s : Sign) (a b : Interval) (o : Result (Range V) Refusal) → IsStep G s a b o → TightStep G s a b o
  tight_step s a b o w a⁺ b⁺ r⁺ i j w⁺ = step_tight s a⁺ a b⁺ b r⁺ o i j w⁺ w

  -- in a range whose low is not above its high
  zero_within : (s : Sign) (b : Interval) → b.low ≤ᶠ b.high → Undefined s b → (s ≡ Over) × zeroᶠ ∈ᶠ b
  zero_within Plus b h u = absurd u
  zero_within Minus b h u = absurd u
  zero_within Times b h u = absurd u
  zero_within Over b h (inl u) = (refl, u)
  zero_within Over b h (inr u) = (refl, (≤ᶠ_trans h u.0, ≤ᶠ_trans u.1 h))
  zero_within Least b h u = absurd u
  zero_within Greatest b h u = absurd u

  zero_refused : (s : Sign) (a b : Interval) (o : Result (Range V) Refusal) → IsStep G s a b o → ZeroRefused s b o
  zero_refused s a b o w h = (λ e. zero_within s b h (subst (IsStep G s a b) e w), λ e z. go o w (subst (λ t. Undefined t b) (sym e) (inl z)))
    where
      go : (o : Result (Range V) Refusal) → IsStep G s a b o → Undefined s b → o ≡ Err ZeroDivisor
      go (Ok r) w u = absurd (w.0 u)
      go (Err BeyondReach) w u = absurd (w.0 u)
      go (Err ZeroDivisor) w u = refl

  narrowest_step : (s : Sign) (a b : Interval) (o : Result (Range V) Refusal) → IsStep G s a b o → NarrowestStep G s a b o
  narrowest_step s a b (Ok r) w = λ c h k holds.
      let own_a : Inside a a = (≤ᶠ_refl a.low, h, ≤ᶠ_refl a.high) in
      let own_b : Inside b b = (≤ᶠ_refl b.low, k, ≤ᶠ_refl b.high) in
      let inner = ends_ind s a b (λ q. G.meaning c.low ≤ᶠ q) (λ q. q ≤ᶠ G.meaning c.high)
      (λ x y i j. holds x y (value s x y) (end_in own_a x i) (end_in own_b y j) (combine_is s {b = b} x w.0 (end_in own_b y j))) in
      (w.3.0.1 c.low inner.0, w.3.1.1 c.high inner.1)
  narrowest_step s a b (Err e) w = tt

  pub step_promise : IsGrid G → (s : Sign) (a b : Interval) (o : Result (Range V) Refusal) → IsStep G s a b o → StepPromise G s a b o
  step_promise grid s a b o w = record { answer = w; zero = zero_refused s a b o w; sound = sound_step s a b o w; narrowest = narrowest_step s a b o w; tight = tight_step s a b o w; computed = step_agrees G grid s a b o w }
