-- Verdicts over two ranges: left at most right, or left at most the root of right. Assumes nothing.
use Rattle.std.specs.Prelude.{◌≡◌, ℕ, List, codes, Bool, if◌then◌else◌, not, ◌&&◌, ◌||◌, ◌⊎◌, IsOk, Ok, Err, Result}
use Rattle.numbers.specs.declared.grid.Rounding.{Rounding}
use Rattle.numbers.specs.declared.grid.Rounding.TheVariants.{Down, Up}
use Rattle.numbers.specs.declared.grid.Refusal.{Refusal}
use Rattle.numbers.specs.declared.grid.Refusal.TheVariants.{BeyondReach, ZeroDivisor}
use Rattle.ranges.specs.declared.verdict.Kind.{Kind}
use Rattle.ranges.specs.declared.verdict.Kind.TheVariants.{Plain, Root}
use Rattle.ranges.specs.declared.verdict.Verdict.{Verdict}
use Rattle.ranges.specs.declared.verdict.Verdict.TheVariants.{Holds, Breaks, Open}
use Rattle.numbers.specs.Fractions.{Fraction, zeroᶠ, ◌≤ᶠ◌, ◌<ᶠ◌, leᶠ, ◌*ᶠ◌}
use Rattle.numbers.specs.Grids.{Gauge, rounded, IsDown, IsUp, Beyond, Answers}
use Rattle.ranges.specs.Ranges.{Interval, ◌∈ᶠ◌, Inside, in_reach}

-- the rule is true of a left and a right fraction
abbrev pub TrueOf : Kind → Fraction → Fraction → Type 0
TrueOf Plain l r = l ≤ᶠ r
TrueOf Root l r = (zeroᶠ ≤ᶠ r) × ((l ≤ᶠ zeroᶠ) ⊎ (l *ᶠ l ≤ᶠ r))

-- the verdict where H is when it holds and B when it breaks; `Apart` says that never both are so of ranges whose low is not above their high
abbrev pub Judged : Type 0 → Type 0 → Verdict → Type 0
Judged H B Holds = H
Judged H B Breaks = (¬ H) × B
Judged H B Open = (¬ H) × (¬ B)

-- of a range: its high end's square rounded up and its low end's rounded down, each where that end is above zero
pub record Squares {V : Type 0} (G : Gauge V) (a : Interval) : Type 0 where
  pub up : V
  pub down : V
  pub up_is : zeroᶠ <ᶠ a.high → IsUp G.meaning (a.high *ᶠ a.high) up
  pub down_is : zeroᶠ <ᶠ a.low → IsDown G.meaning (a.low *ᶠ a.low) down

-- x is above zero and its square beyond reach
abbrev pub Bursts : {V : Type 0} → Gauge V → Fraction → Type 0
Bursts G x = (zeroᶠ <ᶠ x) × Beyond G (x *ᶠ x)

-- so for an end of the range; `SquareRefused` says it of a range whose low is not above its high
abbrev pub SquareBeyond : {V : Type 0} → Gauge V → Interval → Type 0
SquareBeyond G a = Bursts G a.high ⊎ Bursts G a.low

-- right is at least zero, and left at most zero or its square, up, at most right
abbrev pub RootHolds : {V : Type 0} → Gauge V → Interval → Interval → V → Type 0
RootHolds G a b up = (zeroᶠ ≤ᶠ b.low) × ((a.high ≤ᶠ zeroᶠ) ⊎ (G.meaning up ≤ᶠ b.low))

-- right is below zero, or left above zero and its square, down, above right
abbrev pub RootBreaks : {V : Type 0} → Gauge V → Interval → Interval → V → Type 0
RootBreaks G a b down = (b.high <ᶠ zeroᶠ) ⊎ ((zeroᶠ <ᶠ a.low) × (b.high <ᶠ G.meaning down))

-- the verdict over a left and a right range
abbrev pub Judges : {V : Type 0} → Gauge V → Kind → Interval → Interval → Result Verdict Refusal → Type 0
Judges G Plain a b (Ok v) = Judged (a.high ≤ᶠ b.low) (b.high <ᶠ a.low) v
Judges G Plain a b (Err e) = ⊥
Judges G Root a b (Ok v) = (¬ (SquareBeyond G a)) × ((s : Squares G a) × Judged (RootHolds G a b s.up) (RootBreaks G a b s.down) v)
Judges G Root a b (Err BeyondReach) = SquareBeyond G a
Judges G Root a b (Err ZeroDivisor) = ⊥

-- w keeps what v has decided
abbrev pub Keeps : Verdict → Verdict → Type 0
Keeps Holds w = w ≡ Holds
Keeps Breaks w = w ≡ Breaks
Keeps Open w = Unit {0}

-- ---- laws

-- what a verdict says of the exact sides
abbrev pub Says : Kind → Verdict → Fraction → Fraction → Type 0
Says k Holds l r = TrueOf k l r
Says k Breaks l r = ¬ (TrueOf k l r)
Says k Open l r = Unit {0}

-- a verdict that holds is true, and one that breaks is false, at every choice from the two ranges
abbrev pub SoundVerdict : Kind → Interval → Interval → Result Verdict Refusal → Type 0
SoundVerdict k a b (Ok v) = (l r : Fraction) → l ∈ᶠ a → r ∈ᶠ b → Says k v l r
SoundVerdict k a b (Err e) = Unit {0}

-- a left side whose low is not above its high: refused exactly where the rule is a root rule, left's high above zero and its square beyond reach
abbrev pub SquareRefused : {V : Type 0} → Gauge V → Kind → Interval → Result Verdict Refusal → Type 0
SquareRefused G k a o = a.low ≤ᶠ a.high → (o ≡ Err BeyondReach → (k ≡ Root) × Bursts G a.high) × (k ≡ Root → Bursts G a.high → o ≡ Err BeyondReach)

-- of sides whose low is not above their high, a rule does not both hold and break
abbrev pub Apart : {V : Type 0} → Gauge V → Kind → Interval → Interval → Type 0
Apart G Plain a b = a.low ≤ᶠ a.high → b.low ≤ᶠ b.high → a.high ≤ᶠ b.low → b.high <ᶠ a.low → ⊥
Apart G Root a b = a.low ≤ᶠ a.high → b.low ≤ᶠ b.high → (s : Squares G a) → RootHolds G a b s.up → RootBreaks G a b s.down → ⊥

-- where wider sides are not refused, these are not either, and keep the verdict
abbrev pub TightVerdict : {V : Type 0} → Gauge V → Kind → Interval → Interval → Result Verdict Refusal → Type 0
TightVerdict G k a b o = (a⁺ b⁺ : Interval) (v : Verdict) → Inside a a⁺ → Inside b b⁺ → Judges G k a⁺ b⁺ (Ok v) → (w : Verdict) × (o ≡ Ok w) × Keeps v w

-- ---- verdicts by computing

-- x is above zero
abbrev pub above : Fraction → Bool
above x = not (leᶠ x zeroᶠ)

-- the tests for `Bursts`, `RootHolds` and `RootBreaks`
abbrev pub bursts : {V : Type 0} → Gauge V → Fraction → Bool
bursts G x = above x && not (in_reach G (x *ᶠ x))

abbrev pub root_holds : {V : Type 0} → Gauge V → Interval → Interval → Bool
root_holds G a b = leᶠ zeroᶠ b.low && (leᶠ a.high zeroᶠ || leᶠ (rounded G Up (a.high *ᶠ a.high)) b.low)

abbrev pub root_breaks : {V : Type 0} → Gauge V → Interval → Interval → Bool
root_breaks G a b = not (leᶠ zeroᶠ b.high) || (above a.low && not (leᶠ (rounded G Down (a.low *ᶠ a.low)) b.high))

abbrev pub decided : Bool → Bool → Verdict
decided holds breaks = if holds then Holds else if breaks then Breaks else Open

-- the verdict over a left and a right range
abbrev pub judged : {V : Type 0} → Gauge V → Kind → Interval → Interval → Result Verdict Refusal
judged G Plain a b = Ok (decided (leᶠ a.high b.low) (not (leᶠ a.low b.high)))
judged G Root a b = if bursts G a.high || bursts G a.low then Err BeyondReach else Ok (decided (root_holds G a b) (root_breaks G a b))

-- what is promised of a verdict: which it is, the laws, and what computing gives
pub record VerdictPromise {V : Type 0} (G : Gauge V) (k : Kind) (a b : Interval) (o : Result Verdict Refusal) : Type 0 where
  pub answer : Judges G k a b o
  pub square : SquareRefused G k a o
  pub apart : Apart G k a b
  pub sound : SoundVerdict k a b o
  pub tight : TightVerdict G k a b o
  pub computed : o ≡ judged G k a b

-- the word that a verdict is printed by
abbrev pub word : Verdict → List ℕ
word Holds = codes "holds"
word Breaks = codes "breaks"
word Open = codes "open"

-- ---- what the working's own functions say

-- the square of x, wanted only where x is above zero
abbrev pub SquareOf : {V : Type 0} → Gauge V → Rounding → Fraction → Result V Refusal → Type 0
SquareOf G to x o = (zeroᶠ <ᶠ x → Answers G to (x *ᶠ x) o) × (¬ (zeroᶠ <ᶠ x) → IsOk o)
