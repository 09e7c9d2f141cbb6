-- Workings from the left, and what they come to in a form. Assumes nothing.
use Rattle.std.specs.Prelude.{List, [], ◌∷◌, ℤ, Ok, Err, Result}
use Rattle.numbers.specs.declared.grid.Refusal.{Refusal}
use Rattle.numbers.specs.Fractions.{thousandths, millionths, ◌≈ᶠ◌}
use Rattle.numbers.specs.Given.{count_of}
use Rattle.numbers.specs.Grids.{Gauge}
use Rattle.numbers.specs.Forms.{mil, sig}
use Rattle.ranges.specs.declared.range.Sign.{Sign}
use Rattle.ranges.specs.declared.verdict.Kind.{Kind}
use Rattle.ranges.specs.declared.verdict.Verdict.{Verdict}
use Rattle.ranges.specs.Ranges.{Interval, outward, worked}
use Rattle.ranges.specs.Verdicts.{judged}
use Rattle.figures.specs.declared.entry.Entry.{Entry}
use Rattle.figures.specs.declared.entry.Link.{Link}
use Rattle.figures.specs.declared.entry.Working.{Working}
use Rattle.figures.specs.declared.entry.Ends.{Ends}
use Rattle.figures.specs.declared.entry.FormName.{FormName}
use Rattle.figures.specs.declared.entry.FormName.TheVariants.{Mil, Sig}

-- the fractions from low to high thousandths
abbrev pub from : ℤ → ℤ → Interval
from low high = record { low = thousandths low; high = thousandths high }

abbrev pub given : Entry → Interval
given e = from (count_of e.low) (count_of e.high)

-- a range, and then signs with what stands right of each
pub record Chain : Type 0 where
  pub first : Interval
  pub rest : List (Sign × Interval)

abbrev pub linked : List Link → List (Sign × Interval)
linked [] = []
linked (l ∷ ls) = (l.sign, given l.operand.entry) ∷ linked ls

abbrev pub chained : Working → Chain
chained w = record { first = given w.first.entry; rest = linked w.links.now }

-- steps from the left, each range rounded outward before its step; the first refusal ends them
abbrev pub onward : {V : Type 0} → Gauge V → List (Sign × Interval) → Result Interval Refusal → Result Interval Refusal
onward G [] o = o
onward G (l ∷ ls) (Err e) = Err e
onward G (l ∷ ls) (Ok a) = onward G ls (worked G l.0 a (outward G l.1))

-- what a working comes to
abbrev pub comes : {V : Type 0} → Gauge V → Chain → Result Interval Refusal
comes G c = onward G c.rest (Ok (outward G c.first))

-- the verdict over two sides: the left side's refusal first, then the right's
abbrev pub sides : {V : Type 0} → Gauge V → Kind → Result Interval Refusal → Result Interval Refusal → Result Verdict Refusal
sides G k (Err e) q = Err e
sides G k (Ok a) (Err e) = Err e
sides G k (Ok a) (Ok b) = judged G k a b

-- ---- in a form

abbrev pub comes_in : FormName → Chain → Result Interval Refusal
comes_in Mil c = comes mil c
comes_in Sig c = comes sig c

abbrev pub judged_in : FormName → Kind → Chain → Chain → Result Verdict Refusal
judged_in Mil k l r = sides mil k (comes mil l) (comes mil r)
judged_in Sig k l r = sides sig k (comes sig l) (comes sig r)

-- ends in millionths
abbrev pub Reads : Ends → Interval → Type 0
Reads e a = (millionths e.low ≈ᶠ a.low) × (millionths e.high ≈ᶠ a.high)
