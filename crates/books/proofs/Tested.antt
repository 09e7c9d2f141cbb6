-- The places of a list's elements that pass a test, one element more, and by what the test is.
use Rattle.std.proofs.Common.{◌≡◌, ℕ, ◌+◌, ◌<◌, ◌≤◌, Bool, true, false, ◌&&◌, ◌||◌, eqb, List, length, Some, Option, sym, refl, ap, ◌∙◌, subst, ⊎_elim, arith}
use Rattle.std.proofs.Math.Bool.{or-false}
use Rattle.std.proofs.lemmas.Bool.{cases_eq, eq-eqb, ne_eqb}
use Rattle.std.proofs.lemmas.Option.{same_Some, slice_get_cases}
use Rattle.std.specs.Option.{option_map, unwrap_or}
use Rattle.std.specs.List.{slice_get}

and_false : (a : Bool) → (a && false) ≡ false
and_false true = refl
and_false false = refl

-- R says what the test gives: the set has those of the places below i whose elements pass
pub record Tells {X : Type 0} (R : X → Bool → Type 0) (xs : List X) (has : ℕ → Bool) (i : ℕ) : Type 0 where
  pub inside : (k : ℕ) (x : X) → k < i → slice_get xs k ≡ Some x → R x (has k)
  pub outside : (k : ℕ) → i ≤ k → has k ≡ false

module _ {X : Type 0} (R : X → Bool → Type 0) (xs : List X) (h h' one : ℕ → Bool) (i : ℕ) (x : X) (b : Bool) (at : slice_get xs i ≡ Some x) (tested : R x b) (either : (k : ℕ) → h' k ≡ (h k || one k)) (single : (k : ℕ) → one k ≡ (b && eqb k i)) (old : Tells R xs h i) where
  more : (k : ℕ) → h' k ≡ (h k || (b && eqb k i))
  more k = either k ∙ ap (λ t. h k || t) (single k)

  elsewhere : (k : ℕ) → (k ≡ i → ⊥) → h' k ≡ h k
  elsewhere k n = more k ∙ ap (λ t. h k || (b && t)) (ne_eqb k i n) ∙ ap (λ t. h k || t) (and_false b) ∙ or-false (h k)

  here : h' i ≡ b
  here = more i ∙ (λ j. old.outside i (omega arith) j || (b && eq-eqb i i refl j)) ∙ go b
    where
      go : (b : Bool) → (false || (b && true)) ≡ b
      go true = refl
      go false = refl

  pub tells_more : Tells R xs h' (i + 1)
  tells_more = record {
    inside = λ k y l e. ⊎_elim (λ (q : k ≡ i). let s : x ≡ y = same_Some x y (sym at ∙ sym (ap (slice_get xs) q) ∙ e) in subst (λ z. R z (h' k)) s (subst (R x) (sym (ap h' q ∙ here)) tested)) (λ (n : k ≡ i → ⊥). subst (R y) (sym (elsewhere k n)) (old.inside k y (omega arith) e)) (cases_eq k i);
    outside = λ k l. elsewhere k (λ q. omega arith) ∙ old.outside k (omega arith);
  }

-- what the set has, by what the test is
pub tested_by : {X : Type 0} (p : X → Bool) (xs : List X) (h : ℕ → Bool) → ((k : ℕ) (x : X) → slice_get xs k ≡ Some x → h k ≡ p x) → ((k : ℕ) → length xs ≤ k → h k ≡ false) → (k : ℕ) → h k ≡ unwrap_or (option_map p (slice_get xs k)) false
tested_by {X = X} p xs h inside outside k = ⊎_elim (λ (x, l, e, d). inside k x e ∙ sym (at e)) (λ (l, e). outside k l ∙ sym (at e)) (slice_get_cases xs k).1
  where
    at : {o : Option X} → slice_get xs k ≡ o → unwrap_or (option_map p (slice_get xs k)) false ≡ unwrap_or (option_map p o) false
    at e = ap (λ o. unwrap_or (option_map p o) false) e
