-- Grids of fractions, rounding to them, and what a form answers. Assumes nothing.
use Rattle.std.specs.Prelude.{ℕ, ◌<◌, Bool, ◌⊎◌, ℤ, pos, ◌+ℤ◌, ◌-ℤ◌, ◌*ℤ◌, neg_ℤ, ◌≤ℤ◌, ◌<ℤ◌, Ok, Err, Decides, Result}
use Rattle.std.specs.Int.{int_div_euclid}
use Rattle.numbers.specs.declared.grid.Rounding.{Rounding}
use Rattle.numbers.specs.declared.grid.Rounding.TheVariants.{Down, Up}
use Rattle.numbers.specs.declared.grid.Refusal.{Refusal}
use Rattle.numbers.specs.declared.grid.Refusal.TheVariants.{BeyondReach, ZeroDivisor}
use Rattle.numbers.specs.Fractions.{Fraction, over, whole, thousandths, zeroᶠ, ◌≤ᶠ◌, ◌<ᶠ◌, ◌≈ᶠ◌, -ᶠ◌, ◌+ᶠ◌, ◌*ᶠ◌, ◌÷ᶠ◌}

-- what each value of a grid means, the greatest of those fractions, and the one that a fraction is rounded down to
pub record Gauge (V : Type 0) : Type 0 where
  pub meaning : V → Fraction
  pub top : Fraction
  pub down : Fraction → Fraction

-- a fraction rounded as told: with each fraction a grid has its negative, so up is down on the other side of zero
abbrev pub rounded : {V : Type 0} → Gauge V → Rounding → Fraction → Fraction
rounded G Down q = G.down q
rounded G Up q = -ᶠ◌ (G.down (-ᶠ◌ q))

-- v is the greatest value not above q
abbrev pub IsDown : {V : Type 0} → (V → Fraction) → Fraction → V → Type 0
IsDown {V} meaning q v = (meaning v ≤ᶠ q) × ((w : V) → meaning w ≤ᶠ q → meaning w ≤ᶠ meaning v)

-- v is the least value not below q
abbrev pub IsUp : {V : Type 0} → (V → Fraction) → Fraction → V → Type 0
IsUp {V} meaning q v = (q ≤ᶠ meaning v) × ((w : V) → q ≤ᶠ meaning w → meaning v ≤ᶠ meaning w)

-- v is q, rounded as told
abbrev pub IsRounded : {V : Type 0} → (V → Fraction) → Rounding → Fraction → V → Type 0
IsRounded meaning Down q v = IsDown meaning q v
IsRounded meaning Up q v = IsUp meaning q v

-- q lies from minus top to top
abbrev pub InReach : {V : Type 0} → Gauge V → Fraction → Type 0
InReach G q = (-ᶠ◌ G.top ≤ᶠ q) × (q ≤ᶠ G.top)

-- q lies outside minus top to top
abbrev pub Beyond : {V : Type 0} → Gauge V → Fraction → Type 0
Beyond G q = (q <ᶠ -ᶠ◌ G.top) ⊎ (G.top <ᶠ q)

-- what a form answers where the exact result is q: refused exactly where q is beyond reach
abbrev pub Answers : {V : Type 0} → Gauge V → Rounding → Fraction → Result V Refusal → Type 0
Answers G to q (Ok v) = InReach G q × IsRounded G.meaning to q v
Answers G to q (Err BeyondReach) = Beyond G q
Answers G to q (Err ZeroDivisor) = ⊥

-- what a form answers to p over d: refused as that exactly where d is zero
abbrev pub AnswersOver : {V : Type 0} → Gauge V → Rounding → Fraction → Fraction → Result V Refusal → Type 0
AnswersOver G to p d (Ok v) = (¬ (d ≈ᶠ zeroᶠ)) × Answers G to (p ÷ᶠ d) (Ok v)
AnswersOver G to p d (Err BeyondReach) = (¬ (d ≈ᶠ zeroᶠ)) × Beyond G (p ÷ᶠ d)
AnswersOver G to p d (Err ZeroDivisor) = d ≈ᶠ zeroᶠ

-- ---- what a grid and a form do

-- compares two values as fractions
abbrev pub Compares : {V : Type 0} → Gauge V → V → V → Bool → Type 0
Compares G v w r = Decides r (G.meaning v ≤ᶠ G.meaning w)

-- negates exactly
abbrev pub Negates : {V : Type 0} → Gauge V → V → V → Type 0
Negates G v r = G.meaning r ≈ᶠ -ᶠ◌ (G.meaning v)

-- takes a count of thousandths
abbrev pub Takes : {V : Type 0} → Gauge V → Rounding → ℤ → V → Type 0
Takes G to n r = IsRounded G.meaning to (thousandths n) r

-- shows a value as a count of thousandths
abbrev pub Shows : {V : Type 0} → Gauge V → Rounding → V → ℤ → Type 0
Shows G to v n = IsRounded thousandths to (G.meaning v) n

abbrev pub Adds : {V : Type 0} → Gauge V → Rounding → V → V → Result V Refusal → Type 0
Adds G to v w r = Answers G to (G.meaning v +ᶠ G.meaning w) r

abbrev pub Multiplies : {V : Type 0} → Gauge V → Rounding → V → V → Result V Refusal → Type 0
Multiplies G to v w r = Answers G to (G.meaning v *ᶠ G.meaning w) r

abbrev pub Divides : {V : Type 0} → Gauge V → Rounding → V → V → Result V Refusal → Type 0
Divides G to v w r = AnswersOver G to (G.meaning v) (G.meaning w) r

-- rounding by computing: a value means what q is rounded to, and is q rounded
abbrev pub Computes : {V : Type 0} → Gauge V → Rounding → Type 0
Computes {V} G to = (q : Fraction) → InReach G q → (v : V) × (G.meaning v ≈ᶠ rounded G to q) × IsRounded G.meaning to q v

-- what makes the values of a type a grid: a finite set of fractions with zero and all negatives, whose greatest is the top
pub record IsGrid {V : Type 0} (G : Gauge V) : Type 0 where
  pub zero : (v : V) × (G.meaning v ≈ᶠ zeroᶠ)
  pub negative : (v : V) → (w : V) × (G.meaning w ≈ᶠ (-ᶠ◌ (G.meaning v)))
  pub greatest : (v : V) × (G.meaning v ≈ᶠ G.top)
  pub reach : (v : V) → InReach G (G.meaning v)
  pub top_low : whole (pos 1000000) ≤ᶠ G.top
  pub top_high : G.top ≤ᶠ whole (pos 1000000000000)
  pub scale : ℕ
  pub scale_positive : 0 < scale
  pub count : (v : V) → (n : ℤ) × (G.meaning v ≈ᶠ over scale scale_positive n)
  pub computes : (to : Rounding) → Computes G to

-- k is n/d, rounded to a whole number as told
abbrev pub IsQuotient : Rounding → ℤ → ℕ → ℤ → Type 0
IsQuotient Down n d k = ((k *ℤ pos d) ≤ℤ n) × (n <ℤ ((k +ℤ pos 1) *ℤ pos d))
IsQuotient Up n d k = (n ≤ℤ (k *ℤ pos d)) × (((k -ℤ pos 1) *ℤ pos d) <ℤ n)

-- the whole number of 1/s that q is rounded down to
abbrev pub parts : ℕ → Fraction → ℤ
parts s q = int_div_euclid (q.num *ℤ pos s) (pos q.den)

-- a count of thousandths that a grid takes
abbrev pub Few : ℤ → Type 0
Few n = (neg_ℤ (pos 999999999) ≤ℤ n) × (n ≤ℤ pos 999999999)
