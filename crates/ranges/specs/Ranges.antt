-- Ranges of grid values, and what a step on two ranges gives. Assumes nothing.
use Rattle.std.specs.Prelude.{◌≡◌, Bool, false, if◌then◌else◌, ◌&&◌, ◌||◌, ◌⊎◌, Some, Ok, Err, Option, Result}
use Rattle.numbers.specs.declared.grid.Rounding.{Rounding}
use Rattle.numbers.specs.declared.grid.Rounding.TheVariants.{Down, Up}
use Rattle.numbers.specs.declared.grid.Refusal.{Refusal}
use Rattle.numbers.specs.declared.grid.Refusal.TheVariants.{BeyondReach, ZeroDivisor}
use Rattle.ranges.specs.declared.range.Range.{Range}
use Rattle.ranges.specs.declared.range.Sign.{Sign}
use Rattle.ranges.specs.declared.range.Sign.TheVariants.{Plus, Minus, Times, Over, Least, Greatest}
use Rattle.numbers.specs.Fractions.{Fraction, zeroᶠ, ◌≤ᶠ◌, ◌≈ᶠ◌, leᶠ, minᶠ, maxᶠ, -ᶠ◌, ◌+ᶠ◌, ◌-ᶠ◌, ◌*ᶠ◌, ◌÷ᶠ◌, ◌/ᶠ◌}
use Rattle.numbers.specs.Grids.{Gauge, rounded, IsDown, IsUp, IsRounded, InReach, Beyond, Answers}

-- ---- ranges

pub record Interval : Type 0 where
  pub low : Fraction
  pub high : Fraction

-- the fractions from the low to the high end
abbrev pub span : {V : Type 0} → Gauge V → Range V → Interval
span G r = record { low = G.meaning r.low; high = G.meaning r.high }

infix 50 ◌∈ᶠ◌
abbrev pub ◌∈ᶠ◌ : Fraction → Interval → Type 0
q ∈ᶠ a = (a.low ≤ᶠ q) × (q ≤ᶠ a.high)

-- a is a range, and lies in b
abbrev pub Inside : Interval → Interval → Type 0
Inside a b = (b.low ≤ᶠ a.low) × (a.low ≤ᶠ a.high) × (a.high ≤ᶠ b.high)

-- r is the range of the fractions from low to high: low rounded down and high rounded up
abbrev pub Covers : {V : Type 0} → Gauge V → Interval → Range V → Type 0
Covers G a r = IsDown G.meaning a.low r.low × IsUp G.meaning a.high r.high

-- ---- steps

-- the least and the greatest of f at the four pairings of ends
abbrev pub corners : (Fraction → Fraction → Fraction) → Interval → Interval → Interval
corners f a b = record {
  low = minᶠ (minᶠ (f a.low b.low) (f a.low b.high)) (minᶠ (f a.high b.low) (f a.high b.high));
  high = maxᶠ (maxᶠ (f a.low b.low) (f a.low b.high)) (maxᶠ (f a.high b.low) (f a.high b.high));
}

-- the exact ends of a step's result
abbrev pub ends : Sign → Interval → Interval → Interval
ends Plus a b = record { low = a.low +ᶠ b.low; high = a.high +ᶠ b.high }
ends Minus a b = record { low = a.low -ᶠ b.high; high = a.high -ᶠ b.low }
ends Times a b = corners ◌*ᶠ◌ a b
ends Over a b = corners ◌÷ᶠ◌ a b
ends Least a b = record { low = minᶠ a.low b.low; high = minᶠ a.high b.high }
ends Greatest a b = record { low = maxᶠ a.low b.low; high = maxᶠ a.high b.high }

-- zero lies between the ends, in either order; `ZeroRefused` says it of a range whose low is not above its high
abbrev pub HoldsZero : Interval → Type 0
HoldsZero b = ((b.low ≤ᶠ zeroᶠ) × (zeroᶠ ≤ᶠ b.high)) ⊎ ((b.high ≤ᶠ zeroᶠ) × (zeroᶠ ≤ᶠ b.low))

-- a quotient whose divisor's range holds zero
abbrev pub Undefined : Sign → Interval → Type 0
Undefined Plus b = ⊥
Undefined Minus b = ⊥
Undefined Times b = ⊥
Undefined Over b = HoldsZero b
Undefined Least b = ⊥
Undefined Greatest b = ⊥

-- the result of a step on two ranges: refused exactly where its quotient is undefined, or an end is beyond reach
abbrev pub IsStep : {V : Type 0} → Gauge V → Sign → Interval → Interval → Result (Range V) Refusal → Type 0
IsStep G s a b (Ok r) = (¬ (Undefined s b)) × InReach G (ends s a b).low × InReach G (ends s a b).high × Covers G (ends s a b) r
IsStep G s a b (Err BeyondReach) = (¬ (Undefined s b)) × (Beyond G (ends s a b).low ⊎ Beyond G (ends s a b).high)
IsStep G s a b (Err ZeroDivisor) = Undefined s b

-- ---- laws

-- the exact result at two fractions: none where the divisor is zero
abbrev pub combine : Sign → Fraction → Fraction → Option Fraction
combine Plus p q = Some (p +ᶠ q)
combine Minus p q = Some (p -ᶠ q)
combine Times p q = Some (p *ᶠ q)
combine Over p q = p /ᶠ q
combine Least p q = Some (minᶠ p q)
combine Greatest p q = Some (maxᶠ p q)

-- an unrefused step's range holds the exact result at every choice from its operands
abbrev pub SoundStep : {V : Type 0} → Gauge V → Sign → Interval → Interval → Result (Range V) Refusal → Type 0
SoundStep G s a b (Ok r) = (p q : Fraction) → p ∈ᶠ a → q ∈ᶠ b → (x : Fraction) × (combine s p q ≡ Some x) × x ∈ᶠ span G r
SoundStep G s a b (Err e) = Unit {0}

-- a divisor whose low is not above its high: refused as zero exactly where the step is a quotient and the divisor's range holds zero
abbrev pub ZeroRefused : {V : Type 0} → Sign → Interval → Result (Range V) Refusal → Type 0
ZeroRefused s b o = b.low ≤ᶠ b.high → (o ≡ Err ZeroDivisor → (s ≡ Over) × zeroᶠ ∈ᶠ b) × (s ≡ Over → zeroᶠ ∈ᶠ b → o ≡ Err ZeroDivisor)

-- no range of the form that holds the exact result at every choice is narrower
abbrev pub NarrowestStep : {V : Type 0} → Gauge V → Sign → Interval → Interval → Result (Range V) Refusal → Type 0
NarrowestStep {V} G s a b (Ok r) = (c : Range V) → a.low ≤ᶠ a.high → b.low ≤ᶠ b.high → ((p q x : Fraction) → p ∈ᶠ a → q ∈ᶠ b → combine s p q ≡ Some x → x ∈ᶠ span G c) →
    (G.meaning c.low ≤ᶠ G.meaning r.low) × (G.meaning r.high ≤ᶠ G.meaning c.high)
NarrowestStep G s a b (Err e) = Unit {0}

-- where a step on wider operands is not refused, this one is not either, and its range lies inside
abbrev pub TightStep : {V : Type 0} → Gauge V → Sign → Interval → Interval → Result (Range V) Refusal → Type 0
TightStep {V} G s a b o = (a⁺ b⁺ : Interval) (r⁺ : Range V) → Inside a a⁺ → Inside b b⁺ → IsStep G s a⁺ b⁺ (Ok r⁺) → (r : Range V) × (o ≡ Ok r) × Inside (span G r) (span G r⁺)

-- ---- steps by computing

-- a range of fractions, rounded outward
abbrev pub outward : {V : Type 0} → Gauge V → Interval → Interval
outward G a = record { low = rounded G Down a.low; high = rounded G Up a.high }

-- the tests for `InReach`, `HoldsZero` and `Undefined`
abbrev pub in_reach : {V : Type 0} → Gauge V → Fraction → Bool
in_reach G q = leᶠ (-ᶠ◌ G.top) q && leᶠ q G.top

abbrev pub holds_zero : Interval → Bool
holds_zero b = (leᶠ b.low zeroᶠ && leᶠ zeroᶠ b.high) || (leᶠ b.high zeroᶠ && leᶠ zeroᶠ b.low)

abbrev pub undefined : Sign → Interval → Bool
undefined Plus b = false
undefined Minus b = false
undefined Times b = false
undefined Over b = holds_zero b
undefined Least b = false
undefined Greatest b = false

-- the result of a step, as a range of fractions
abbrev pub worked : {V : Type 0} → Gauge V → Sign → Interval → Interval → Result Interval Refusal
worked G s a b =
    if undefined s b then Err ZeroDivisor
    else if in_reach G (ends s a b).low && in_reach G (ends s a b).high then Ok (outward G (ends s a b)) else Err BeyondReach

-- results that R relates, or the same refusal
abbrev pub Related : {A B : Type 0} → (A → B → Type 0) → Result A Refusal → Result B Refusal → Type 0
Related R (Ok x) (Ok y) = R x y
Related R (Ok x) (Err e) = ⊥
Related R (Err e) (Ok y) = ⊥
Related R (Err e) (Err f) = e ≡ f

-- ends that are equal as fractions
abbrev pub SameEnds : {V : Type 0} → Gauge V → Range V → Interval → Type 0
SameEnds G r a = (G.meaning r.low ≈ᶠ a.low) × (G.meaning r.high ≈ᶠ a.high)

-- the same range, perhaps in other terms
abbrev pub Alike : Interval → Interval → Type 0
Alike a b = Inside a b × Inside b a

-- what is promised of a step: its result, the laws, and what computing gives
pub record StepPromise {V : Type 0} (G : Gauge V) (s : Sign) (a b : Interval) (o : Result (Range V) Refusal) : Type 0 where
  pub answer : IsStep G s a b o
  pub zero : ZeroRefused s b o
  pub sound : SoundStep G s a b o
  pub narrowest : NarrowestStep G s a b o
  pub tight : TightStep G s a b o
  pub computed : Related (SameEnds G) o (worked G s a b)

-- ---- what the working's own functions say

-- the end of the range of the four pairings that is rounded that way
abbrev pub end : Rounding → Interval → Fraction
end Down a = a.low
end Up a = a.high

abbrev pub outer : Rounding → Fraction → Fraction → Fraction
outer Down p q = minᶠ p q
outer Up p q = maxᶠ p q

-- of two values the one that is farther out that way
abbrev pub outermost : {V : Type 0} → Gauge V → Rounding → V → V → V
outermost G Down x y = if leᶠ (G.meaning x) (G.meaning y) then x else y
outermost G Up x y = if leᶠ (G.meaning x) (G.meaning y) then y else x

-- the sign that takes the lesser ends, or the greater
abbrev pub bound : Rounding → Sign
bound Down = Least
bound Up = Greatest

-- P at each end of one range with each of the other
abbrev pub AtEnds : {V : Type 0} → (V → V → Type 0) → Range V → Range V → Type 0
AtEnds P a b = P a.low b.low × P a.low b.high × P a.high b.low × P a.high b.high

-- each result of a step at two values answers the exact step
abbrev pub AnswersStep : {V : Type 0} → Gauge V → (Fraction → Fraction → Fraction) → (V → V → Rounding → Result V Refusal → Type 0) → Rounding → V → V → Type 0
AnswersStep {V} G exact step to x y = (r : Result V Refusal) → step x y to r → Answers G to (exact (G.meaning x) (G.meaning y)) r

-- one end of a product or quotient: refused where either end is beyond reach
abbrev pub Corner : {V : Type 0} → Gauge V → Rounding → Interval → Result V Refusal → Type 0
Corner G to a (Ok v) = InReach G a.low × InReach G a.high × IsRounded G.meaning to (end to a) v
Corner G to a (Err BeyondReach) = Beyond G a.low ⊎ Beyond G a.high
Corner G to a (Err ZeroDivisor) = ⊥
