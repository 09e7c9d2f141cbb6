-- Workings step by step. Assumes nothing.
use Rattle.std.proofs.Common.{◌≡◌, ℕ, ◌+◌, ◌<◌, ◌≤◌, List, [], ◌∷◌, length, get_or, drop, ℤ, Ok, Err, Result, IsErrAnd, sym, refl, ap, ◌∙◌, subst}
use Rattle.std.proofs.lemmas.List.{drop_more, drop_all}
use Rattle.numbers.specs.declared.grid.Refusal.{Refusal}
use Rattle.numbers.specs.Fractions.{Fraction, millionths, ◌≈ᶠ◌}
use Rattle.numbers.specs.Given.{count_of}
use Rattle.numbers.specs.Grids.{Gauge, IsGrid}
use Rattle.numbers.specs.Orders.{≤ᶠ_trans}
use Rattle.ranges.specs.declared.range.Range.{Range}
use Rattle.ranges.specs.Ranges.{Interval, span, Covers, IsStep, outward, worked, Related, Alike}
use Rattle.ranges.specs.declared.verdict.Kind.{Kind}
use Rattle.ranges.specs.declared.verdict.Verdict.{Verdict}
use Rattle.ranges.specs.Verdicts.{Judges}
use Rattle.ranges.proofs.Same.{step_alike, judge_alike, covers_alike}
use Rattle.figures.specs.declared.entry.Link.{Link}
use Rattle.figures.specs.declared.entry.Working.{Working}
use Rattle.figures.specs.declared.entry.Ends.{Ends}
use Rattle.figures.specs.Workings.{given, Chain, linked, chained, onward, comes, sides, Reads}

module _ {V : Type 0} (G : Gauge V) (grid : IsGrid G) where
  -- a range on the way: computing has come to the same, with these links left
  pub record Along (c : Chain) (r : Range V) (left : List Link) : Type 0 where
    pub at : Interval
    pub alike : Alike (span G r) at
    pub same : comes G c ≡ onward G (linked left) (Ok at)

  pub begins : (w : Working) (r : Range V) → Covers G (given w.first.entry) r → Along (chained w) r w.links.now
  begins k r w = let e = k.first.entry in record { at = outward G (given e); alike = covers_alike G grid (count_of e.low) (count_of e.high) r e.low.few e.high.few e.ordered w; same = refl }

  -- one step more
  abbrev pub After : Chain → List Link → Result (Range V) Refusal → Type 0
  After c ls (Ok r) = Along c r ls
  After c ls (Err x) = Related (λ x. Alike (span G x)) (Err x) (comes G c)

  onto : (c : Chain) (r e : Range V) (l : Link) (ls : List Link) (o : Result (Range V) Refusal) → Along c r (l ∷ ls) → Covers G (given l.operand.entry) e → IsStep G l.sign (span G r) (span G e) o → After c ls o
  onto c r e l ls o a w s =
      let x = l.operand.entry in
      let other = covers_alike G grid (count_of x.low) (count_of x.high) e x.low.few x.high.few x.ordered w in
      go o (worked G l.sign a.at (outward G (given x))) a.same (step_alike G grid l.sign (span G r) a.at (span G e) (outward G (given x)) o a.alike other s)
    where
      stuck : (ls : List Link) (f : Refusal) → onward G (linked ls) (Err f) ≡ Err f
      stuck [] f = refl
      stuck (l ∷ ls) f = refl

      go : (o : Result (Range V) Refusal) (d : Result Interval Refusal) → comes G c ≡ onward G (linked ls) d → Related (λ x. Alike (span G x)) o d → After c ls o
      go (Ok r') (Ok b) same m = record { at = b; alike = m; same = same }
      go (Ok r') (Err f) same m = absurd m
      go (Err e) (Ok b) same m = absurd m
      go (Err e) (Err f) same m = subst (Related (λ x. Alike (span G x)) (Err e)) (sym (same ∙ stuck ls f)) m

  -- the link l at the place i
  pub goes_on : (c : Chain) (r e : Range V) (l : Link) (ls : List Link) (i : ℕ) (o : Result (Range V) Refusal) → i < length ls → l ≡ get_or ls i l → Along c r (drop i ls) → Covers G (given l.operand.entry) e → IsStep G l.sign (span G r) (span G e) o → After c (drop (i + 1) ls) o
  goes_on c r e l ls i o h is a w s = onto c r e l (drop (i + 1) ls) o (subst (Along c r) (drop_more ls i l h ∙ ap (λ x. x ∷ drop (i + 1) ls) (sym is)) a) w s

  -- a step that is refused ends the working
  pub stops : (c : Chain) (e : Refusal) → Related (λ x. Alike (span G x)) (Err e) (comes G c) → (o : Result (Range V) Refusal) → IsErrAnd o (λ x. x ≡ e) → Related (λ x. Alike (span G x)) o (comes G c)
  stops c e a (Ok r) w = absurd w
  stops c e a (Err x) w = rw w a

  -- with no link left
  pub ends : (c : Chain) (r : Range V) (ls : List Link) (i : ℕ) → length ls ≤ i → Along c r (drop i ls) → Related (λ x. Alike (span G x)) (Ok r) (comes G c)
  ends c r ls i h a =
      let last : Along c r [] = subst (Along c r) (drop_all i ls h) a in
      subst (Related (λ x. Alike (span G x)) (Ok r)) (sym last.same) last.alike

  -- a range that is read out in millionths
  pub reads : (r : Range V) (o : Result Interval Refusal) {x y : ℤ} (e : Ends) → Related (λ x. Alike (span G x)) (Ok r) o → G.meaning r.low ≈ᶠ millionths x → G.meaning r.high ≈ᶠ millionths y → e.low ≡ x → e.high ≡ y → Related Reads (Ok e) o
  reads r (Ok a) e m low high i j =
      (≈ᶠ_trans (subst (λ (n : ℤ). millionths n ≈ᶠ G.meaning r.low) (sym i) (low.1, low.0)) (m.1.0, m.0.0), ≈ᶠ_trans (subst (λ (n : ℤ). millionths n ≈ᶠ G.meaning r.high) (sym j) (high.1, high.0)) (m.0.2, m.1.2))
    where
      ≈ᶠ_trans : {p q s : Fraction} → p ≈ᶠ q → q ≈ᶠ s → p ≈ᶠ s
      ≈ᶠ_trans h k = (≤ᶠ_trans h.0 k.0, ≤ᶠ_trans k.1 h.1)
  reads r (Err f) e m low high i j = m

  pub sides_judged : (k : Kind) (l r : Range V) (p q : Result Interval Refusal) (o : Result Verdict Refusal) → Related (λ x. Alike (span G x)) (Ok l) p → Related (λ x. Alike (span G x)) (Ok r) q → Judges G k (span G l) (span G r) o → o ≡ sides G k p q
  sides_judged k l r (Ok a) (Ok b) o m n w = judge_alike G grid k (span G l) a (span G r) b o m n w
  sides_judged k l r (Ok a) (Err f) o m n w = absurd n
  sides_judged k l r (Err e) q o m n w = absurd m
