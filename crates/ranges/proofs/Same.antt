-- Operands that are the same ranges, in whatever terms, give the same results. Assumes nothing.
use Rattle.std.proofs.Common.{◌≡◌, ℤ, pos, neg_ℤ, ◌≤ℤ◌, Ok, Err, Result, sym, refl, ap, ◌∙◌, arith}
use Rattle.std.proofs.lemmas.Int.{ints}
use Rattle.numbers.specs.declared.grid.Rounding.TheVariants.{Down, Up}
use Rattle.numbers.specs.declared.grid.Refusal.{Refusal}
use Rattle.numbers.specs.declared.grid.Refusal.TheVariants.{BeyondReach, ZeroDivisor}
use Rattle.numbers.specs.Fractions.{whole, thousandths, ◌≤ᶠ◌, ◌≈ᶠ◌}
use Rattle.numbers.specs.Grids.{Gauge, InReach, IsGrid, Few}
use Rattle.numbers.specs.Orders.{≤ᶠ_trans, neg_le}
use Rattle.ranges.specs.declared.range.Range.{Range}
use Rattle.ranges.specs.declared.range.Sign.{Sign}
use Rattle.ranges.specs.declared.verdict.Kind.{Kind}
use Rattle.ranges.specs.declared.verdict.Kind.TheVariants.{Plain, Root}
use Rattle.ranges.specs.declared.verdict.Verdict.{Verdict}
use Rattle.ranges.specs.declared.verdict.Verdict.TheVariants.{Holds, Breaks, Open}
use Rattle.ranges.specs.Ranges.{Interval, span, Inside, Covers, IsStep, outward, worked, Related, SameEnds, Alike}
use Rattle.ranges.specs.Verdicts.{Judges, Keeps, judged}
use Rattle.ranges.proofs.Steps.{undefined_wider, step_tight}
use Rattle.ranges.proofs.Verdicts.{keeps, judge_tight}
use Rattle.ranges.proofs.Computed.{computed_end, step_agrees, step_exists, judge_exists}

pub alike_by : (a b : Interval) → a.low ≤ᶠ a.high → a.low ≈ᶠ b.low → a.high ≈ᶠ b.high → Alike a b
alike_by a b h l u = ((l.1, h, u.0), (l.0, ≤ᶠ_trans l.1 (≤ᶠ_trans h u.0), u.1))

-- the verdict is one
agree : (v w : Verdict) → Keeps v w → Keeps w v → v ≡ w
agree Holds w k l = sym k
agree Breaks w k l = sym k
agree Open Holds k l = l
agree Open Breaks k l = l
agree Open Open k l = refl

module _ {V : Type 0} (G : Gauge V) (grid : IsGrid G) where
  pub step_alike : (s : Sign) (a a' b b' : Interval) (o : Result (Range V) Refusal) → Alike a a' → Alike b b' → IsStep G s a b o → Related (λ x. Alike (span G x)) o (worked G s a' b')
  step_alike s a a' b b' o i j w = let (o', w') = step_exists G grid s a' b' in go o o' (worked G s a' b') w w' (step_agrees G grid s a' b' o' w')
    where
      go : (o o' : Result (Range V) Refusal) (c : Result Interval Refusal) → IsStep G s a b o → IsStep G s a' b' o' → Related (SameEnds G) o' c → Related (λ x. Alike (span G x)) o c
      go (Ok r) (Ok r') (Ok c) w w' (l, h) =
          let (x, ex, ix) = step_tight G s a a' b b' r (Ok r') i.1 j.1 w w' in
          let (y, ey, iy) = step_tight G s a' a b' b r' (Ok r) i.0 j.0 w' w in
          let inner : Inside (span G r') (span G r) = let e : r' ≡ x = cc in rw e ix in
          let outer : Inside (span G r) (span G r') = let e : r ≡ y = cc in rw e iy in (
            (≤ᶠ_trans l.1 outer.0, outer.1, ≤ᶠ_trans outer.2 h.0),
            (≤ᶠ_trans inner.0 l.0, ≤ᶠ_trans l.1 (≤ᶠ_trans inner.1 h.0), ≤ᶠ_trans h.1 inner.2),
          )
      go (Ok r) (Ok r') (Err f) w w' m = m
      go (Ok r) (Err e) c w w' m = let (x, ex, ix) = step_tight G s a a' b b' r (Err e) i.1 j.1 w w' in cc
      go (Err e) (Ok r') c w w' m = let (x, ex, ix) = step_tight G s a' a b' b r' (Err e) i.0 j.0 w' w in cc
      go (Err e) (Err e') (Ok c) w w' m = m
      go (Err e) (Err e') (Err f) w w' m = one e e' w w' ∙ m
        where
          one : (e e' : Refusal) → IsStep G s a b (Err e) → IsStep G s a' b' (Err e') → e ≡ e'
          one BeyondReach BeyondReach w w' = refl
          one BeyondReach ZeroDivisor w w' = absurd (w.0 (undefined_wider s {b = b} {b' = b'} j.1 w'))
          one ZeroDivisor BeyondReach w w' = absurd (w'.0 (undefined_wider s {b = b'} {b' = b} j.0 w))
          one ZeroDivisor ZeroDivisor w w' = refl

  pub judge_alike : (k : Kind) (a a' b b' : Interval) (o : Result Verdict Refusal) → Alike a a' → Alike b b' → Judges G k a b o → o ≡ judged G k a' b'
  judge_alike k a a' b b' o i j w = go k o (judged G k a' b') w (judge_exists G grid k a' b')
    where
      go : (k : Kind) (o o' : Result Verdict Refusal) → Judges G k a b o → Judges G k a' b' o' → o ≡ o'
      go k (Ok v) (Ok w) h d = ap Ok (agree v w (keeps G k v w a a' b b' i.1 j.1 h d) (keeps G k w v a' a b' b i.0 j.0 d h))
      go k (Ok v) (Err e) h d = let (w, ew, _) = judge_tight G k v (Err e) a a' b b' i.1 j.1 h d in cc
      go k (Err e) (Ok w) h d = let (v, ev, _) = judge_tight G k w (Err e) a' a b' b i.0 j.0 d h in cc
      go Plain (Err e) (Err f) h d = absurd h
      go Root (Err BeyondReach) (Err BeyondReach) h d = refl
      go Root (Err BeyondReach) (Err ZeroDivisor) h d = absurd d
      go Root (Err ZeroDivisor) (Err f) h d = absurd h

  -- ---- what is typed

  few_reach : (n : ℤ) → Few n → InReach G (thousandths n)
  few_reach n few =
      let low : whole (neg_ℤ (pos 1000000)) ≤ᶠ thousandths n = record { at_most = omega (arith, ints) } in
      let high : thousandths n ≤ᶠ whole (pos 1000000) = record { at_most = omega (arith, ints) } in
      (≤ᶠ_trans (neg_le grid.top_low) low, ≤ᶠ_trans high grid.top_low)

  -- the range of what is typed is what computing gives
  pub covers_alike : (low high : ℤ) (r : Range V) → Few low → Few high → low ≤ℤ high → Covers G (record { low = thousandths low; high = thousandths high }) r → Alike (span G r) (outward G (record { low = thousandths low; high = thousandths high }))
  covers_alike low high r few_low few_high h c =
      let between : thousandths low ≤ᶠ thousandths high = record { at_most = omega (arith, ints) } in
      alike_by (span G r) (outward G (record { low = thousandths low; high = thousandths high })) (≤ᶠ_trans c.0.0 (≤ᶠ_trans between c.1.0))
      (computed_end G grid Down (thousandths low) r.low (few_reach low few_low) c.0) (computed_end G grid Up (thousandths high) r.high (few_reach high few_high) c.1)
