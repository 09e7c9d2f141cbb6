-- Steps and verdicts by computing are those that are defined. Assumes nothing.
use Rattle.std.proofs.Common.{◌≡◌, Bool, true, false, cond, not, ◌&&◌, ◌||◌, T, ◌⊎◌, Ok, Err, Decides, Result, sym, refl, ap, subst, inl, inr}
use Rattle.std.proofs.lemmas.Bool.{false≢true}
use Rattle.std.proofs.lemmas.Bool.Decides.{Decides-and, Decides-or, Decides-not, Decides-like, not_from_Decides}
use Rattle.numbers.specs.declared.grid.Rounding.{Rounding}
use Rattle.numbers.specs.declared.grid.Rounding.TheVariants.{Down, Up}
use Rattle.numbers.specs.declared.grid.Refusal.{Refusal}
use Rattle.numbers.specs.declared.grid.Refusal.TheVariants.{BeyondReach, ZeroDivisor}
use Rattle.numbers.specs.Fractions.{Fraction, zeroᶠ, ◌≤ᶠ◌, ◌<ᶠ◌, ◌≈ᶠ◌, leᶠ, -ᶠ◌, ◌*ᶠ◌}
use Rattle.numbers.specs.Grids.{Gauge, rounded, IsRounded, InReach, Beyond, IsGrid}
use Rattle.numbers.specs.Roundings.{not_beyond}
use Rattle.numbers.specs.Orders.{≤ᶠ_trans, <ᶠ-≤ᶠ_trans, clashᶠ, below_of_not, leᶠ_yes, leᶠ_no}
use Rattle.ranges.specs.declared.range.Range.{Range}
use Rattle.ranges.specs.declared.range.Sign.{Sign}
use Rattle.ranges.specs.declared.range.Sign.TheVariants.{Plus, Minus, Times, Over, Least, Greatest}
use Rattle.ranges.specs.declared.verdict.Kind.{Kind}
use Rattle.ranges.specs.declared.verdict.Kind.TheVariants.{Plain, Root}
use Rattle.ranges.specs.declared.verdict.Verdict.{Verdict}
use Rattle.ranges.specs.declared.verdict.Verdict.TheVariants.{Holds, Breaks, Open}
use Rattle.ranges.specs.Ranges.{Interval, ends, Undefined, IsStep, outward, in_reach, undefined, worked, Related, SameEnds}
use Rattle.ranges.specs.Verdicts.{Judged, Squares, Bursts, SquareBeyond, RootHolds, RootBreaks, Judges, above, bursts, root_holds, root_breaks, decided, judged}

-- ---- tests

decides_le : (p q : Fraction) → Decides (leᶠ p q) (p ≤ᶠ q)
decides_le p q = go (leᶠ p q) refl
  where
    go : (t : Bool) → leᶠ p q ≡ t → Decides t (p ≤ᶠ q)
    go true e = (λ _. leᶠ_yes p q (subst T (sym e) tt), λ _. refl)
    go false e = (λ f. absurd (false≢true f), λ h. clashᶠ (leᶠ_no p q (subst (λ (t : Bool). T (not t)) (sym e) tt)) h)

decides_lt : (p q : Fraction) → Decides (not (leᶠ q p)) (p <ᶠ q)
decides_lt p q = Decides-like (not (leᶠ q p)) below_of_not (λ h k. clashᶠ h k) (Decides-not (leᶠ q p) (decides_le q p))

decides_undefined : (s : Sign) (b : Interval) → Decides (undefined s b) (Undefined s b)
decides_undefined Plus b = (λ f. false≢true f, λ h. absurd h)
decides_undefined Minus b = (λ f. false≢true f, λ h. absurd h)
decides_undefined Times b = (λ f. false≢true f, λ h. absurd h)
decides_undefined Over b =
    Decides-or (leᶠ b.low zeroᶠ && leᶠ zeroᶠ b.high) (leᶠ b.high zeroᶠ && leᶠ zeroᶠ b.low)
    (Decides-and (leᶠ b.low zeroᶠ) (leᶠ zeroᶠ b.high) (decides_le b.low zeroᶠ) (decides_le zeroᶠ b.high))
    (Decides-and (leᶠ b.high zeroᶠ) (leᶠ zeroᶠ b.low) (decides_le b.high zeroᶠ) (decides_le zeroᶠ b.low))
decides_undefined Least b = (λ f. false≢true f, λ h. absurd h)
decides_undefined Greatest b = (λ f. false≢true f, λ h. absurd h)

module _ {V : Type 0} (G : Gauge V) where
  decides_reach : (q : Fraction) → Decides (in_reach G q) (InReach G q)
  decides_reach q = Decides-and (leᶠ (-ᶠ◌ G.top) q) (leᶠ q G.top) (decides_le (-ᶠ◌ G.top) q) (decides_le q G.top)

  beyond_by : (q : Fraction) → (InReach G q → ⊥) → Beyond G q
  beyond_by q n = go (leᶠ (-ᶠ◌ G.top) q) (decides_le (-ᶠ◌ G.top) q)
    where
      go : (t : Bool) → Decides t (-ᶠ◌ G.top ≤ᶠ q) → Beyond G q
      go true d = inr (below_of_not (λ h. n (d.0 refl, h)))
      go false d = inl (below_of_not (λ h. false≢true (d.1 h)))

  module _ (grid : IsGrid G) where
    -- what is q rounded means what computing gives
    pub computed_end : (to : Rounding) (q : Fraction) (v : V) → InReach G q → IsRounded G.meaning to q v → G.meaning v ≈ᶠ rounded G to q
    computed_end Down q v i d = let (w, e, x) = grid.computes Down q i in (≤ᶠ_trans (x.1 v d.0) e.0, ≤ᶠ_trans e.1 (d.1 w x.0))
    computed_end Up q v i d = let (w, e, x) = grid.computes Up q i in (≤ᶠ_trans (d.1 w x.0) e.0, ≤ᶠ_trans e.1 (x.1 v d.0))

    -- ---- steps

    within : (a : Interval) → Decides (in_reach G a.low && in_reach G a.high) (InReach G a.low × InReach G a.high)
    within a = Decides-and (in_reach G a.low) (in_reach G a.high) (decides_reach a.low) (decides_reach a.high)

    pub step_agrees : (s : Sign) (a b : Interval) (o : Result (Range V) Refusal) → IsStep G s a b o → Related (SameEnds G) o (worked G s a b)
    step_agrees s a b o w = go o (undefined s b) (in_reach G (ends s a b).low && in_reach G (ends s a b).high) (decides_undefined s b) (within (ends s a b)) w
      where
        go : (o : Result (Range V) Refusal) (t u : Bool) → Decides t (Undefined s b) → Decides u (InReach G (ends s a b).low × InReach G (ends s a b).high) → IsStep G s a b o →
            Related (SameEnds G) o (cond t (Err ZeroDivisor) (cond u (Ok (outward G (ends s a b))) (Err BeyondReach)))
        go (Ok r) true u d e w = w.0 (d.0 refl)
        go (Ok r) false true d e w = (computed_end Down (ends s a b).low r.low w.1 w.3.0, computed_end Up (ends s a b).high r.high w.2 w.3.1)
        go (Ok r) false false d e w = false≢true (e.1 (w.1, w.2))
        go (Err BeyondReach) true u d e w = absurd (w.0 (d.0 refl))
        go (Err BeyondReach) false true d e w = absurd (elim w.1 [ inl x ↦ not_beyond G (e.0 refl).0 x | inr x ↦ not_beyond G (e.0 refl).1 x ])
        go (Err BeyondReach) false false d e w = refl
        go (Err ZeroDivisor) true u d e w = refl
        go (Err ZeroDivisor) false u d e w = absurd (false≢true (d.1 w))

    -- every step has a result
    pub step_exists : (s : Sign) (a b : Interval) → (o : Result (Range V) Refusal) × IsStep G s a b o
    step_exists s a b = go (undefined s b) (in_reach G (ends s a b).low) (in_reach G (ends s a b).high) (decides_undefined s b) (decides_reach (ends s a b).low) (decides_reach (ends s a b).high)
      where
        go : (t u v : Bool) → Decides t (Undefined s b) → Decides u (InReach G (ends s a b).low) → Decides v (InReach G (ends s a b).high) → (o : Result (Range V) Refusal) × IsStep G s a b o
        go true u v d e f = (Err ZeroDivisor, d.0 refl)
        go false true true d e f =
            let (l, _, low) = grid.computes Down (ends s a b).low (e.0 refl) in
            let (h, _, high) = grid.computes Up (ends s a b).high (f.0 refl) in
            (Ok (record { low = l; high = h }), (not_from_Decides false d refl, e.0 refl, f.0 refl, (low, high)))
        go false false v d e f = (Err BeyondReach, (not_from_Decides false d refl, inl (beyond_by (ends s a b).low (not_from_Decides false e refl))))
        go false true false d e f = (Err BeyondReach, (not_from_Decides false d refl, inr (beyond_by (ends s a b).high (not_from_Decides false f refl))))

    -- ---- verdicts

    decided_is : (h k : Bool) {H B : Type 0} (v : Verdict) → Decides h H → Decides k B → Judged H B v → v ≡ decided h k
    decided_is true k Holds d e j = refl
    decided_is true k Breaks d e j = absurd (j.0 (d.0 refl))
    decided_is true k Open d e j = absurd (j.0 (d.0 refl))
    decided_is false k Holds d e j = absurd (false≢true (d.1 j))
    decided_is false true Breaks d e j = refl
    decided_is false true Open d e j = absurd (j.1 (e.0 refl))
    decided_is false false Breaks d e j = absurd (false≢true (e.1 j.1))
    decided_is false false Open d e j = refl

    decides_beyond : (q : Fraction) → Decides (not (in_reach G q)) (Beyond G q)
    decides_beyond q = Decides-like (not (in_reach G q)) (beyond_by q) (λ b i. not_beyond G i b) (Decides-not (in_reach G q) (decides_reach q))

    decides_bursts : (x : Fraction) → Decides (bursts G x) (Bursts G x)
    decides_bursts x = Decides-and (above x) (not (in_reach G (x *ᶠ x))) (decides_lt zeroᶠ x) (decides_beyond (x *ᶠ x))

    -- a square that does not burst is in reach
    squared : {x : Fraction} → (Bursts G x → ⊥) → zeroᶠ <ᶠ x → InReach G (x *ᶠ x)
    squared {x} n p = go (in_reach G (x *ᶠ x)) (decides_reach (x *ᶠ x))
      where
        go : (t : Bool) → Decides t (InReach G (x *ᶠ x)) → InReach G (x *ᶠ x)
        go true d = d.0 refl
        go false d = absurd (n (p, beyond_by (x *ᶠ x) (not_from_Decides false d refl)))

    module _ (a b : Interval) (n : SquareBeyond G a → ⊥) (s : Squares G a) where
      up_is : zeroᶠ <ᶠ a.high → G.meaning s.up ≈ᶠ rounded G Up (a.high *ᶠ a.high)
      up_is p = computed_end Up (a.high *ᶠ a.high) s.up (squared (λ x. n (inl x)) p) (s.up_is p)

      down_is : zeroᶠ <ᶠ a.low → G.meaning s.down ≈ᶠ rounded G Down (a.low *ᶠ a.low)
      down_is p = computed_end Down (a.low *ᶠ a.low) s.down (squared (λ x. n (inr x)) p) (s.down_is p)

      holds_square : Decides (leᶠ a.high zeroᶠ || leᶠ (rounded G Up (a.high *ᶠ a.high)) b.low) ((a.high ≤ᶠ zeroᶠ) ⊎ (G.meaning s.up ≤ᶠ b.low))
      holds_square = go (leᶠ a.high zeroᶠ) (leᶠ (rounded G Up (a.high *ᶠ a.high)) b.low) (decides_le a.high zeroᶠ) (decides_le (rounded G Up (a.high *ᶠ a.high)) b.low)
        where
          go : (t u : Bool) → Decides t (a.high ≤ᶠ zeroᶠ) → Decides u (rounded G Up (a.high *ᶠ a.high) ≤ᶠ b.low) → Decides (t || u) ((a.high ≤ᶠ zeroᶠ) ⊎ (G.meaning s.up ≤ᶠ b.low))
          go true u d e = (λ _. inl (d.0 refl), λ _. refl)
          go false u d e =
              let same = up_is (below_of_not (not_from_Decides false d refl)) in
              (λ t. inr (≤ᶠ_trans same.0 (e.0 t)), λ h. elim h [ inl x ↦ absurd (not_from_Decides false d refl x) | inr y ↦ e.1 (≤ᶠ_trans same.1 y) ])

      decides_holds : Decides (root_holds G a b) (RootHolds G a b s.up)
      decides_holds = Decides-and (leᶠ zeroᶠ b.low) (leᶠ a.high zeroᶠ || leᶠ (rounded G Up (a.high *ᶠ a.high)) b.low) (decides_le zeroᶠ b.low) holds_square

      breaks_square : Decides (above a.low && not (leᶠ (rounded G Down (a.low *ᶠ a.low)) b.high)) ((zeroᶠ <ᶠ a.low) × (b.high <ᶠ G.meaning s.down))
      breaks_square = go (above a.low) (not (leᶠ (rounded G Down (a.low *ᶠ a.low)) b.high)) (decides_lt zeroᶠ a.low) (decides_lt b.high (rounded G Down (a.low *ᶠ a.low)))
        where
          go : (t u : Bool) → Decides t (zeroᶠ <ᶠ a.low) → Decides u (b.high <ᶠ rounded G Down (a.low *ᶠ a.low)) → Decides (t && u) ((zeroᶠ <ᶠ a.low) × (b.high <ᶠ G.meaning s.down))
          go true u d e =
              let same = down_is (d.0 refl) in
              (λ t. (d.0 refl, <ᶠ-≤ᶠ_trans (e.0 t) same.1), λ h. e.1 (<ᶠ-≤ᶠ_trans h.1 same.0))
          go false u d e = (λ f. absurd (false≢true f), λ h. absurd (not_from_Decides false d refl h.0))

      decides_breaks : Decides (root_breaks G a b) (RootBreaks G a b s.down)
      decides_breaks = Decides-or (not (leᶠ zeroᶠ b.high)) (above a.low && not (leᶠ (rounded G Down (a.low *ᶠ a.low)) b.high)) (decides_lt b.high zeroᶠ) breaks_square

    pub judge_agrees : (k : Kind) (a b : Interval) (o : Result Verdict Refusal) → Judges G k a b o → o ≡ judged G k a b
    judge_agrees Plain a b (Ok v) j = ap Ok (decided_is (leᶠ a.high b.low) (not (leᶠ a.low b.high)) v (decides_le a.high b.low) (decides_lt b.high a.low) j)
    judge_agrees Plain a b (Err e) j = absurd j
    judge_agrees Root a b o j = go o (bursts G a.high || bursts G a.low) (Decides-or (bursts G a.high) (bursts G a.low) (decides_bursts a.high) (decides_bursts a.low)) j
      where
        go : (o : Result Verdict Refusal) (t : Bool) → Decides t (SquareBeyond G a) → Judges G Root a b o → o ≡ cond t (Err BeyondReach) (Ok (decided (root_holds G a b) (root_breaks G a b)))
        go (Ok v) true d (n, (s, j)) = absurd (n (d.0 refl))
        go (Ok v) false d (n, (s, j)) = ap Ok (decided_is (root_holds G a b) (root_breaks G a b) v (decides_holds a b n s) (decides_breaks a b n s) j)
        go (Err BeyondReach) true d j = refl
        go (Err BeyondReach) false d j = absurd (false≢true (d.1 j))
        go (Err ZeroDivisor) t d j = absurd j

    -- every verdict is given
    judged_by : (h k : Bool) {H B : Type 0} → Decides h H → Decides k B → Judged H B (decided h k)
    judged_by true k d e = d.0 refl
    judged_by false true d e = (not_from_Decides false d refl, e.0 refl)
    judged_by false false d e = (not_from_Decides false d refl, not_from_Decides false e refl)

    -- the square of an end that is above zero, or else any value
    square_end : (to : Rounding) (x : Fraction) → (Bursts G x → ⊥) → (v : V) × (zeroᶠ <ᶠ x → IsRounded G.meaning to (x *ᶠ x) v)
    square_end to x n = go (above x) (decides_lt zeroᶠ x)
      where
        go : (t : Bool) → Decides t (zeroᶠ <ᶠ x) → (v : V) × (zeroᶠ <ᶠ x → IsRounded G.meaning to (x *ᶠ x) v)
        go true d = let (v, _, r) = grid.computes to (x *ᶠ x) (squared n (d.0 refl)) in (v, λ _. r)
        go false d = (grid.zero.0, λ p. absurd (not_from_Decides false d refl p))

    pub judge_exists : (k : Kind) (a b : Interval) → Judges G k a b (judged G k a b)
    judge_exists Plain a b = judged_by (leᶠ a.high b.low) (not (leᶠ a.low b.high)) (decides_le a.high b.low) (decides_lt b.high a.low)
    judge_exists Root a b = go (bursts G a.high || bursts G a.low) (Decides-or (bursts G a.high) (bursts G a.low) (decides_bursts a.high) (decides_bursts a.low))
      where
        go : (t : Bool) → Decides t (SquareBeyond G a) → Judges G Root a b (cond t (Err BeyondReach) (Ok (decided (root_holds G a b) (root_breaks G a b))))
        go true d = d.0 refl
        go false d =
            let n = not_from_Decides false d refl in
            let (u, up) = square_end Up a.high (λ x. n (inl x)) in
            let (l, down) = square_end Down a.low (λ x. n (inr x)) in
            let s : Squares G a = record { up = u; down = l; up_is = up; down_is = down } in
            (n, (s, judged_by (root_holds G a b) (root_breaks G a b) (decides_holds a b n s) (decides_breaks a b n s)))
