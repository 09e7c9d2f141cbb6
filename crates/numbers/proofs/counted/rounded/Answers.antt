use Rattle.std.proofs.Common.{◌≡◌, ℕ, ◌*◌, ◌<◌, ◌≤◌, ℤ, pos, ◌*ℤ◌, unsigned_abs, subst, inl, inr, arith, w64, to_z, of_z}
use Rattle.std.proofs.lemmas.Int.{ints, unsigned_abs-mul}
use Rattle.std.proofs.lemmas.Bool.{false≢true, cases_lt}
use Rattle.numbers.specs.Fractions.{over}
use Rattle.numbers.specs.Grids.{IsRounded}
use Rattle.numbers.specs.Scales.{Scale}
use Rattle.numbers.proofs.Working.{within, beyond, answered}
use Rattle.numbers.proofs.counted.rounded.Goals as goal

-- the limit, as the code has it
limit : (S : Scale) (m : ℤ) (d : ℕ) → m ≡ pos S.most → unsigned_abs (to_z w64 (of_z w64 m) *ℤ pos d) ≡ S.most * d
limit S m d e =
    let x : unsigned_abs (to_z w64 (of_z w64 m)) ≡ S.most = omega (arith, ints, S.narrow) in
    rw (unsigned_abs-mul (to_z w64 (of_z w64 m)) (pos d), x)

-- n is within the limit
near : (S : Scale) (n : ℤ) (d : ℕ) {a : ℕ} → a ≡ S.most * d → (a < unsigned_abs n → ⊥) → unsigned_abs n ≤ S.most * d
near S n d e h = elim (cases_lt (S.most * d) (unsigned_abs n)) [ inl l ↦ absurd (h (rw e l)) | inr l ↦ l ]

pub returns-then-exceeds : goal.returns-then-exceeds
returns-then-exceeds g c h =
    let S = g.C.Counted.scale in
    beyond g.C.Counted.gauge S g.met.C.Counted.top (g.W.Whole.value c.args.ratio.n) c.args.ratio.d h
    (rw (limit S c.most.result c.args.ratio.d c.most.ensures) at (c.exceeds.ensures.0 c.if-exceeds.true))

pub narrow-requires : goal.narrow-requires
narrow-requires g c =
    let S = g.C.Counted.scale in
    let n : ℤ = g.W.Whole.value c.args.ratio.n in
    let size = near S n c.args.ratio.d (limit S c.most.result c.args.ratio.d c.most.ensures) (λ l. false≢true (c.if-exceeds.ensures.1 l)) in
    omega (arith, S.narrow, within c.args.rounding n (g.W.Whole.value c.rounded.result) S.most c.args.ratio.d c.args.ratio.positive size c.rounded.ensures)

pub nearest-requires : goal.nearest-requires
nearest-requires g c =
    let S = g.C.Counted.scale in
    let n : ℤ = g.W.Whole.value c.args.ratio.n in
    let size = near S n c.args.ratio.d (limit S c.most.result c.args.ratio.d c.most.ensures) (λ l. false≢true (c.if-exceeds.ensures.1 l)) in
    omega (arith, ints, S.narrow, c.narrow.ensures, within c.args.rounding n (g.W.Whole.value c.rounded.result) S.most c.args.ratio.d c.args.ratio.positive size c.rounded.ensures)

pub returns : goal.returns
returns g c h =
    let S = g.C.Counted.scale in
    let n : ℤ = g.W.Whole.value c.args.ratio.n in
    let k : ℤ = g.W.Whole.value c.rounded.result in
    let size = near S n c.args.ratio.d (limit S c.most.result c.args.ratio.d c.most.ensures) (λ l. false≢true (c.if-exceeds.ensures.1 l)) in
    let back : to_z w64 (of_z w64 c.narrow.result) ≡ k = omega (arith, ints, c.narrow.type_inv, c.narrow.ensures) in
    answered g.C.Counted.gauge S g.met.C.Counted.top g.C.Counted.counts g.met.C.Counted.means c.args.rounding n k c.args.ratio.d h c.nearest.result size c.rounded.ensures
    (subst (λ (i : ℤ). IsRounded g.C.Counted.gauge.meaning c.args.rounding (over S.per_one S.some i) c.nearest.result) back c.nearest.ensures)
