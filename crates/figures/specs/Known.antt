-- Figures that a checker redoes on paper, each proved of the definitions. Assumes nothing.
use Rattle.std.specs.Prelude.{◌≡◌, List, [], ◌∷◌, ℤ, pos, neg_ℤ, Ok, Err, Result}
use Rattle.numbers.specs.declared.grid.Refusal.{Refusal}
use Rattle.numbers.specs.declared.grid.Refusal.TheVariants.{BeyondReach}
use Rattle.numbers.specs.Fractions.{millionths, ◌≈ᶠ◌}
use Rattle.ranges.specs.declared.range.Sign.{Sign}
use Rattle.ranges.specs.declared.range.Sign.TheVariants.{Minus, Times, Over}
use Rattle.ranges.specs.declared.verdict.Kind.{Kind}
use Rattle.ranges.specs.declared.verdict.Kind.TheVariants.{Root}
use Rattle.ranges.specs.declared.verdict.Verdict.{Verdict}
use Rattle.ranges.specs.declared.verdict.Verdict.TheVariants.{Holds}
use Rattle.ranges.specs.Ranges.{Interval}
use Rattle.figures.specs.declared.entry.FormName.{FormName}
use Rattle.figures.specs.declared.entry.FormName.TheVariants.{Mil, Sig}
use Rattle.figures.specs.Workings.{from, Chain, comes_in, judged_in}

-- a figure: in a form, a working comes to a range, in millionths, or is refused, or a rule has a verdict
pub data Figure : Type 0 where
  range : FormName → Chain → ℤ → ℤ → Figure
  refused : FormName → Chain → Refusal → Figure
  verdict : FormName → Kind → Chain → Chain → Verdict → Figure

-- the range from low to high millionths
abbrev pub Is : ℤ → ℤ → Result Interval Refusal → Type 0
Is low high (Ok a) = (a.low ≈ᶠ millionths low) × (a.high ≈ᶠ millionths high)
Is low high (Err e) = ⊥

-- the figure is what the definitions give
abbrev pub Stands : Figure → Type 0
Stands (range f c low high) = Is low high (comes_in f c)
Stands (refused f c e) = comes_in f c ≡ Err e
Stands (verdict f k l r v) = judged_in f k l r ≡ Ok v

-- every figure of a list stands
abbrev pub AllStand : List Figure → Type 0
AllStand [] = Unit {0}
AllStand (f ∷ fs) = Stands f × AllStand fs

-- so many thousandths, alone and with a step after
abbrev one : ℤ → ℤ → Chain
one low high = record { first = from low high; rest = [] }

abbrev then : Chain → Sign → ℤ → ℤ → Chain
then c s low high = record { first = c.first; rest = added c.rest }
  where
    added : List (Sign × Interval) → List (Sign × Interval)
    added [] = (s, from low high) ∷ []
    added (l ∷ ls) = l ∷ added ls

abbrev pub known : List Figure
known =
    range Mil (then (one (pos 2000) (pos 2000)) Over (pos 3000) (pos 3000)) (pos 666000) (pos 667000)
    ∷ (range Mil (then (then (one (pos 0) (pos 0)) Minus (pos 2000) (pos 2000)) Over (pos 3000) (pos 3000)) (neg_ℤ (pos 667000)) (neg_ℤ (pos 666000))
    ∷ (range Sig (then (one (pos 2000) (pos 2000)) Over (pos 3000) (pos 3000)) (pos 666666) (pos 666667)
    ∷ (range Mil (then (one (neg_ℤ (pos 2000)) (pos 3000)) Times (neg_ℤ (pos 4000)) (pos 5000)) (neg_ℤ (pos 12000000)) (pos 15000000)
    ∷ (range Mil (then (one (pos 750000000) (pos 750000000)) Times (pos 4000) (pos 4000)) (pos 3000000000000) (pos 3000000000000)
    ∷ (refused Mil (then (one (pos 750000000) (pos 750000000)) Times (pos 4001) (pos 4001)) BeyondReach
    ∷ (verdict Mil Root (one (neg_ℤ (pos 3000)) (neg_ℤ (pos 2000))) (one (pos 1000) (pos 1000)) Holds ∷ []))))))
