-- Forms of equal steps are grids. Assumes nothing.
use Rattle.std.specs.Prelude.{◌≡◌, ◌*◌, ◌<◌, ◌≤◌, ℤ, pos, ◌*ℤ◌, neg_ℤ, ◌≤ℤ◌, unsigned_abs}
use Rattle.std.proofs.Common.{sym, subst, arith, mul-pos}
use Rattle.std.proofs.lemmas.Int.{ints}
use Rattle.numbers.specs.declared.grid.Rounding.TheVariants.{Down}
use Rattle.numbers.specs.Fractions.{◌≈ᶠ◌, over, -ᶠ◌}
use Rattle.numbers.specs.Grids.{InReach, Computes, IsGrid, IsQuotient, parts}
use Rattle.numbers.specs.Steps.{Steps, evenly}
use Rattle.numbers.specs.Integers.{mul_le}
use Rattle.numbers.specs.Orders.{alike, ≤ᶠ_refl}
use Rattle.numbers.specs.Quotients.{floor, stays_within}
use Rattle.numbers.specs.Roundings.{by_quotient, rounded_same, parted, computes_both}
use Rattle.numbers.specs.Counts.{same_count}

module _ {V : Type 0} (S : Steps) (counts : V → ℤ) (within : (v : V) → unsigned_abs (counts v) ≤ S.most) (every : (n : ℤ) → unsigned_abs n ≤ S.most → (v : V) × (counts v ≡ n)) where
  reach : (v : V) → InReach (evenly S counts) (over S.per_one S.some (counts v))
  reach v =
      let w = within v in
      let low : neg_ℤ (pos S.most) ≤ℤ counts v = omega (arith, ints) in
      let high : counts v ≤ℤ pos S.most = omega (arith, ints) in
      (record { at_most = mul_le _ _ S.per_one low }, record { at_most = mul_le _ _ S.per_one high })

  negative : (v : V) → (w : V) × (over S.per_one S.some (counts w) ≈ᶠ (-ᶠ◌ (over S.per_one S.some (counts v))))
  negative v =
      let small = within v in
      let (w, e) = every (neg_ℤ (counts v)) (omega (arith, ints)) in
      (w, same_count S.per_one S.some e)

  computes : Computes (evenly S counts) Down
  computes q i =
      let k : ℤ = parts S.per_one q in
      let down : IsQuotient Down (q.num *ℤ pos S.per_one) q.den k = floor (q.num *ℤ pos S.per_one) q.den q.positive in
      let inside = stays_within Down (q.num *ℤ pos S.per_one) k q.den S.most q.positive down i.0.at_most i.1.at_most in
      let (v, e) = every k (omega (arith, ints)) in
      let h : 0 < S.per_one * q.den = mul-pos S.some q.positive in
      (v, same_count S.per_one S.some e, rounded_same (λ w. over S.per_one S.some (counts w)) Down v (parted S.per_one q h) (by_quotient counts S.per_one S.some Down (q.num *ℤ pos S.per_one) q.den h v (subst (λ (n : ℤ). IsQuotient Down (q.num *ℤ pos S.per_one) q.den n) (sym e) down)))

  pub even_grid : IsGrid (evenly S counts)
  even_grid = record {
    zero = let (v, e) = every (pos 0) (omega arith) in (v, alike (rw e (omega (arith, ints))));
    negative = negative;
    greatest = let (v, e) = every (pos S.most) (omega arith) in (v, same_count S.per_one S.some e);
    reach = reach;
    top_low = record { at_most = omega (arith, ints, S.wide) };
    top_high = record { at_most = omega (arith, ints, S.narrow, S.some) };
    scale = S.per_one;
    scale_positive = S.some;
    count = λ v. (counts v, (≤ᶠ_refl _, ≤ᶠ_refl _));
    computes = computes_both (evenly S counts) negative computes;
  }
