-- A verdict that holds over ranges is true, and one that breaks is false, at every choice within them; narrower ranges keep the verdict. Assumes nothing.
use Rattle.std.proofs.Common.{◌≡◌, ◌⊎◌, Ok, Err, Result, refl, inl, inr}
use Rattle.numbers.specs.Fractions.{Fraction, zeroᶠ, ◌≤ᶠ◌, ◌<ᶠ◌, ◌*ᶠ◌}
use Rattle.numbers.specs.declared.grid.Refusal.{Refusal}
use Rattle.numbers.specs.declared.grid.Refusal.TheVariants.{BeyondReach, ZeroDivisor}
use Rattle.numbers.specs.Grids.{Gauge, IsGrid}
use Rattle.ranges.specs.Ranges.{Interval, ◌∈ᶠ◌, Inside}
use Rattle.ranges.specs.declared.verdict.Kind.{Kind}
use Rattle.ranges.specs.declared.verdict.Kind.TheVariants.{Plain, Root}
use Rattle.ranges.specs.declared.verdict.Verdict.{Verdict}
use Rattle.ranges.specs.declared.verdict.Verdict.TheVariants.{Holds, Breaks, Open}
use Rattle.ranges.specs.Verdicts.{TrueOf, Judged, Squares, Bursts, SquareBeyond, RootHolds, RootBreaks, Judges, Says, Keeps, SquareRefused, Apart, SoundVerdict, TightVerdict, VerdictPromise}
use Rattle.numbers.specs.Orders.{≤ᶠ_trans, <ᶠ-≤ᶠ_trans, ≤ᶠ-<ᶠ_trans, below_le, clashᶠ, byᶠ, times_nonneg, nonneg_product, times_comm, neg_le}
use Rattle.ranges.proofs.Computed.{judge_agrees}

square_le : {x y : Fraction} → zeroᶠ ≤ᶠ x → x ≤ᶠ y → x *ᶠ x ≤ᶠ y *ᶠ y
square_le {x} {y} n h = ≤ᶠ_trans (times_nonneg x n h) (≤ᶠ_trans (times_comm y x) (times_nonneg y (≤ᶠ_trans n h) h))

is_holds : {H : Type 0} (B : Type 0) (w : Verdict) → Judged H B w → H → w ≡ Holds
is_holds B Holds d h = refl
is_holds B Breaks d h = absurd (d.0 h)
is_holds B Open d h = absurd (d.0 h)

is_breaks : {H B : Type 0} (w : Verdict) → Judged H B w → B → (H → B → ⊥) → w ≡ Breaks
is_breaks Holds d b n = absurd (n d b)
is_breaks Breaks d b n = refl
is_breaks Open d b n = absurd (d.1 b)

module _ {V : Type 0} (G : Gauge V) where
  pub judge_sound : (k : Kind) (v : Verdict) (a b : Interval) (l r : Fraction) → l ∈ᶠ a → r ∈ᶠ b → Judges G k a b (Ok v) → Says k v l r
  judge_sound Plain Holds a b l r h k j = ≤ᶠ_trans h.1 (≤ᶠ_trans j k.0)
  judge_sound Plain Breaks a b l r h k (_, j) = λ t. clashᶠ j (≤ᶠ_trans h.0 (≤ᶠ_trans t k.1))
  judge_sound Plain Open a b l r h k j = tt
  judge_sound Root Holds a b l r h k (n, (s, (z, c))) = (≤ᶠ_trans z k.0, at c)
    where
      at : (a.high ≤ᶠ zeroᶠ) ⊎ (G.meaning s.up ≤ᶠ b.low) → (l ≤ᶠ zeroᶠ) ⊎ (l *ᶠ l ≤ᶠ r)
      at (inl c) = inl (≤ᶠ_trans h.1 c)
      at (inr c) = byᶠ zeroᶠ l (λ p. inr (≤ᶠ_trans (square_le (below_le p) h.1) (≤ᶠ_trans (s.up_is (<ᶠ-≤ᶠ_trans p h.1)).0 (≤ᶠ_trans c k.0)))) (λ p. inl p)
  judge_sound Root Breaks a b l r h k (n, (s, (_, c))) = λ t. at c t
    where
      at : RootBreaks G a b s.down → TrueOf Root l r → ⊥
      at (inl c) (z, t) = clashᶠ c (≤ᶠ_trans z k.1)
      at (inr (p, c)) (z, inl t) = clashᶠ p (≤ᶠ_trans h.0 t)
      at (inr (p, c)) (z, inr t) = clashᶠ c (≤ᶠ_trans (s.down_is p).0 (≤ᶠ_trans (square_le (below_le p) h.0) (≤ᶠ_trans t k.1)))
  judge_sound Root Open a b l r h k j = tt

  -- ---- narrower ranges

  never_both : (a b : Interval) (s : Squares G a) → a.low ≤ᶠ a.high → b.low ≤ᶠ b.high → RootHolds G a b s.up → RootBreaks G a b s.down → ⊥
  never_both a b s i j (z, c) (inl d) = clashᶠ d (≤ᶠ_trans z j)
  never_both a b s i j (z, inl c) (inr (p, d)) = clashᶠ p (≤ᶠ_trans i c)
  never_both a b s i j (z, inr c) (inr (p, d)) =
      clashᶠ d (≤ᶠ_trans (s.down_is p).0 (≤ᶠ_trans (square_le (below_le p) i) (≤ᶠ_trans (s.up_is (<ᶠ-≤ᶠ_trans p i)).0 (≤ᶠ_trans c j))))

  root_holds_lem : (a a' b b' : Interval) (s : Squares G a) (s' : Squares G a') → Inside a' a → Inside b' b → RootHolds G a b s.up → RootHolds G a' b' s'.up
  root_holds_lem a a' b b' s s' i j (z, inl c) = (≤ᶠ_trans z j.0, inl (≤ᶠ_trans i.2 c))
  root_holds_lem a a' b b' s s' i j (z, inr c) = (
    ≤ᶠ_trans z j.0,
    byᶠ zeroᶠ a'.high
        (λ p. inr (≤ᶠ_trans ((s'.up_is p).1 s.up (≤ᶠ_trans (square_le (below_le p) i.2) (s.up_is (<ᶠ-≤ᶠ_trans p i.2)).0)) (≤ᶠ_trans c j.0)))
        (λ p. inl p),
  )

  root_breaks_lem : (a a' b b' : Interval) (s : Squares G a) (s' : Squares G a') → Inside a' a → Inside b' b → RootBreaks G a b s.down → RootBreaks G a' b' s'.down
  root_breaks_lem a a' b b' s s' i j (inl c) = inl (≤ᶠ-<ᶠ_trans j.2 c)
  root_breaks_lem a a' b b' s s' i j (inr (p, c)) =
      let p' = <ᶠ-≤ᶠ_trans p i.0 in
      inr (p', <ᶠ-≤ᶠ_trans (≤ᶠ-<ᶠ_trans j.2 c) ((s'.down_is p').1 s.down (≤ᶠ_trans (s.down_is p).0 (square_le (below_le p) i.0))))

  pub keeps : (k : Kind) (v w : Verdict) (a a' b b' : Interval) → Inside a' a → Inside b' b → Judges G k a b (Ok v) → Judges G k a' b' (Ok w) → Keeps v w
  keeps Plain Holds w a a' b b' i j h d = is_holds (b'.high <ᶠ a'.low) w d (≤ᶠ_trans i.2 (≤ᶠ_trans h j.0))
  keeps Plain Breaks w a a' b b' i j (_, h) d = is_breaks w d (<ᶠ-≤ᶠ_trans (≤ᶠ-<ᶠ_trans j.2 h) i.0) (λ x y. clashᶠ y (≤ᶠ_trans i.1 (≤ᶠ_trans x j.1)))
  keeps Plain Open w a a' b b' i j h d = tt
  keeps Root Holds w a a' b b' i j (n, (s, h)) (n', (s', d)) = is_holds (RootBreaks G a' b' s'.down) w d (root_holds_lem a a' b b' s s' i j h)
  keeps Root Breaks w a a' b b' i j (n, (s, (_, h))) (n', (s', d)) = is_breaks w d (root_breaks_lem a a' b b' s s' i j h) (never_both a' b' s' i.1 j.1)
  keeps Root Open w a a' b b' i j h d = tt

  -- what bursts stays so where it is greater
  bursts_more : {x y : Fraction} → x ≤ᶠ y → Bursts G x → Bursts G y
  bursts_more h (p, inr c) = (<ᶠ-≤ᶠ_trans p h, inr (<ᶠ-≤ᶠ_trans c (square_le (below_le p) h)))
  bursts_more {x} h (p, inl c) = byᶠ G.top zeroᶠ
      (λ t. let q = square_le (below_le p) h in (<ᶠ-≤ᶠ_trans p h, inr (<ᶠ-≤ᶠ_trans t (≤ᶠ_trans nonneg q))))
      (λ t. clashᶠ c (≤ᶠ_trans (neg_le t) nonneg))
    where
      nonneg : zeroᶠ ≤ᶠ x *ᶠ x
      nonneg = nonneg_product (below_le p) (below_le p)

  -- a square that is beyond reach stays so where the range is wider
  pub square_wider : (a a' : Interval) → Inside a' a → SquareBeyond G a' → SquareBeyond G a
  square_wider a a' i (inl b) = inl (bursts_more i.2 b)
  square_wider a a' i (inr b) = inl (bursts_more (≤ᶠ_trans i.1 i.2) b)

  pub judge_tight : (k : Kind) (v : Verdict) (o : Result Verdict Refusal) (a a' b b' : Interval) → Inside a' a → Inside b' b → Judges G k a b (Ok v) → Judges G k a' b' o →
      (w : Verdict) × (o ≡ Ok w) × Keeps v w
  judge_tight k v (Ok w) a a' b b' i j h d = (w, refl, keeps k v w a a' b b' i j h d)
  judge_tight Plain v (Err e) a a' b b' i j h d = absurd d
  judge_tight Root v (Err BeyondReach) a a' b b' i j h d = absurd (h.0 (square_wider a a' i d))
  judge_tight Root v (Err ZeroDivisor) a a' b b' i j h d = absurd d

  pub sound_verdict : (k : Kind) (a b : Interval) (o : Result Verdict Refusal) → Judges G k a b o → SoundVerdict k a b o
  sound_verdict k a b (Ok v) w = λ l r h i. judge_sound k v a b l r h i w
  sound_verdict k a b (Err e) w = tt

  pub tight_verdict : (k : Kind) (a b : Interval) (o : Result Verdict Refusal) → Judges G k a b o → TightVerdict G k a b o
  tight_verdict k a b o w a⁺ b⁺ v i j w⁺ = judge_tight k v o a⁺ a b⁺ b i j w⁺ w

  square_refused : (k : Kind) (a b : Interval) (o : Result Verdict Refusal) → Judges G k a b o → SquareRefused G k a o
  square_refused Plain a b (Ok v) w h = (λ e. cc, λ e. cc)
  square_refused Plain a b (Err e) w h = absurd w
  square_refused Root a b (Ok v) w h = (λ e. cc, λ _ x. absurd (w.0 (inl x)))
  square_refused Root a b (Err BeyondReach) (inl x) h = (λ _. (refl, x), λ _ _. refl)
  square_refused Root a b (Err BeyondReach) (inr x) h = (λ _. (refl, bursts_more h x), λ _ _. refl)
  square_refused Root a b (Err ZeroDivisor) w h = absurd w

  apart : (k : Kind) (a b : Interval) → Apart G k a b
  apart Plain a b = λ h k x y. clashᶠ y (≤ᶠ_trans h (≤ᶠ_trans x k))
  apart Root a b = λ h k s x y. never_both a b s h k x y

  pub verdict_promise : IsGrid G → (k : Kind) (a b : Interval) (o : Result Verdict Refusal) → Judges G k a b o → VerdictPromise G k a b o
  verdict_promise grid k a b o w = record { answer = w; square = square_refused k a b o w; apart = apart k a b; sound = sound_verdict k a b o w; tight = tight_verdict k a b o w; computed = judge_agrees G grid k a b o w }
