-- What holds of every book, in the words of formulas.
use Rattle.std.proofs.Common.{◌≡◌, ℕ, Bool, true, false, ◌||◌, List, length, ℤ, Some, None, Ok, Err, Decides, Option, Result, sym, refl, ap, ◌∙◌, subst, inl, inr, ⊎_elim, arith}
use Rattle.std.proofs.lemmas.Bool.{and_parts}
use Rattle.std.proofs.lemmas.Bool.Decides.{Decides-at, Decides-int_eq, Decides-like}
use Rattle.std.proofs.lemmas.Option.{slice_get_within}
use Rattle.std.specs.Option.{option_map, unwrap_or}
use Rattle.std.specs.List.{slice_get}
use Rattle.std.specs.Ordering.{int_eq}
use Rattle.sets.specs.Members.{has}
use Rattle.books.specs.declared.refusal.Refusal.{Refusal}
use Rattle.books.specs.declared.step.Line.{Line}
use Rattle.books.specs.declared.step.Rule.{Rule}
use Rattle.books.specs.Formulas.{Named, entry, steps}
use Rattle.books.specs.Needs.{in_words, line_has}
use Rattle.books.specs.Units.{same_unit, sides_agree}
use Rattle.books.specs.Books.{Lists, Stands, part, is_unit, agree, rule_has, line_reaches, rule_reaches}
use Rattle.books.specs.Drafts.{NeededIn, LineHolds, RuleHolds, Whole, LineDepends, RuleDepends}
use Rattle.books.proofs.Postfix.{steps_formula}
use Rattle.books.proofs.Growth.{steps_same}
use Rattle.books.proofs.Reach.{needed_decides, needed_both}
use Rattle.books.proofs.Standing.{within_more, reaches_by, line_parts, rule_parts}

-- ---- units

unit_same : (a u : ℤ × ℤ) → same_unit a u ≡ true → a ≡ u
unit_same a u e =
    let (p, q) = and_parts (int_eq a.0 u.0) (int_eq a.1 u.1) e in
    let x = (Decides-int_eq a.0 u.0).0 p in
    let y = (Decides-int_eq a.1 u.1).0 q in
    λ i. (x i, y i)

is_unit_lem : (r : Result (ℤ × ℤ) Refusal) (u : ℤ × ℤ) → is_unit r u ≡ true → r ≡ Ok u
is_unit_lem (Ok a) u e = ap Ok (unit_same a u e)
is_unit_lem (Err x) u e = cc

agreeing : (root : Bool) (a : ℤ × ℤ) (x y : Result (ℤ × ℤ) Refusal) → x ≡ Ok a → agree root x y ≡ true → (b : ℤ × ℤ) × (y ≡ Ok b) × (sides_agree root a b ≡ true)
agreeing root a x y e h = go y (sym (ap (λ z. agree root z y) e) ∙ h)
  where
    go : (y : Result (ℤ × ℤ) Refusal) → agree root (Ok a) y ≡ true → (b : ℤ × ℤ) × (y ≡ Ok b) × (sides_agree root a b ≡ true)
    go (Ok b) h = (b, refl, h)
    go (Err z) h = cc

-- ---- lines and rules

module _ (d : Lists) (b : Stands d) where
  whole_line : (k : ℕ) (l : Line) → slice_get (d.lines) k ≡ Some l → LineHolds d k l
  whole_line k l e =
      let es = d.entries in
      let ls = d.lines in
      let row = d.steps in
      let (f, w, u) = line_parts es ls row k l (b.lines_stand k l e) in
      let h = slice_get_within ls k l e in
      let words = λ (x : Named). sym (ap (λ o. line_has o x) e) ∙ b.line_words k x ∙ ap (λ o. line_reaches ls row o x) e ∙ reaches_by ls row l.steps f x w.2 in
      record {
        f = f;
        is_steps = steps_formula _ f w.2;
        inside = w.3;
        has_unit = is_unit_lem _ l.unit u;
        words = λ x. Decides-at _ _ (words x) (needed_decides es ls row b.lines_stand b.line_words f (within_more (length es) (length es) k (length ls) f (omega arith) (omega arith) w.3) x);
      }

  whole_rule : (k : ℕ) (r : Rule) → slice_get (d.rules) k ≡ Some r → RuleHolds d r
  whole_rule k r e =
      let es = d.entries in
      let ls = d.lines in
      let row = d.steps in
      let (f, g, (v, w, u, z)) = rule_parts es ls row r (b.rules_stand k r e) in
      let left = is_unit_lem _ r.unit u in
      let (other, right, agrees) = agreeing r.root r.unit _ _ left z in
      let words = λ (x : Named). sym (ap (λ o. rule_has o x) e) ∙ b.rule_words k x ∙ ap (λ o. rule_reaches ls row o x) e ∙ (λ i. reaches_by ls row r.left f x v.2 i || reaches_by ls row r.right g x w.2 i) in
      record {
        f = f;
        g = g;
        is_left = steps_formula _ f v.2;
        is_right = steps_formula _ g w.2;
        left_inside = v.3;
        right_inside = w.3;
        left_unit = left;
        other = other;
        right_unit = right;
        agrees = agrees;
        words = λ x. Decides-at _ _ (words x) (needed_both es ls row b.lines_stand b.line_words f g v.3 w.3 x);
      }

  pub whole : Whole d
  whole = (whole_line, whole_rule)

-- ---- what depends on a name

module _ (d : Lists) (holds : Whole d) (k : ℕ) (x : Named) where
  line_depends : Decides (line_has (slice_get d.lines k) x) (LineDepends d k x)
  line_depends = go (slice_get d.lines k) refl
    where
      go : (o : Option Line) → slice_get d.lines k ≡ o → Decides (line_has o x) (LineDepends d k x)
      go None e = (λ q. absurd (cc), λ (l, at, f, is, n). absurd (cc))
      go (Some l) e =
          let h = holds.0 k l e in
          Decides-like (in_words l.needs x) (λ n. (l, e, h.f, h.is_steps, n)) (λ (m, at, f, is, n).
          let same : l ≡ m = cc (sym e ∙ at) in
          let one = steps_same h.f f (sym h.is_steps ∙ ap (λ (l : Line). part d.steps l.steps) same ∙ is) in
          subst (λ f. NeededIn d f x) (sym one) n) (h.words x)

  rule_depends : Decides (rule_has (slice_get d.rules k) x) (RuleDepends d k x)
  rule_depends = go (slice_get d.rules k) refl
    where
      go : (o : Option Rule) → slice_get d.rules k ≡ o → Decides (rule_has o x) (RuleDepends d k x)
      go None e = (λ q. absurd (cc), λ (r, at, f, is, n). absurd (cc))
      go (Some r) e =
          let h = holds.1 k r e in
          Decides-like (in_words r.needs x) (⊎_elim (λ n. (r, e, h.f, inl h.is_left, n)) (λ n. (r, e, h.g, inr h.is_right, n))) (λ (m, at, f, is, n).
          let same : r ≡ m = cc (sym e ∙ at) in
          ⊎_elim (λ (q : part d.steps m.left ≡ steps f). inl (subst (λ f. NeededIn d f x) (sym (steps_same h.f f (sym h.is_left ∙ ap (λ (r : Rule). part d.steps r.left) same ∙ q))) n)) (λ (q : part d.steps m.right ≡ steps f). inr (subst (λ f. NeededIn d f x) (sym (steps_same h.g f (sym h.is_right ∙ ap (λ (r : Rule). part d.steps r.right) same ∙ q))) n)) is) (h.words x)

-- the places whose words have an entry
module _ (d : Lists) (b : Stands d) (n : ℕ) (h : ℕ → Bool) where
  line_has_lem : (o : Option Line) → unwrap_or (option_map (λ (l : Line). has l.needs.entries n) o) false ≡ line_has o (entry n)
  line_has_lem None = refl
  line_has_lem (Some l) = refl

  rule_has_lem : (o : Option Rule) → unwrap_or (option_map (λ (r : Rule). has r.needs.entries n) o) false ≡ rule_has o (entry n)
  rule_has_lem None = refl
  rule_has_lem (Some r) = refl

  pub line_places : {ls : List Line} → ls ≡ d.lines → ((k : ℕ) → h k ≡ unwrap_or (option_map (λ (l : Line). has l.needs.entries n) (slice_get ls k)) false) → (k : ℕ) → Decides (h k) (LineDepends d k (entry n))
  line_places {ls} e at k = Decides-at _ _ (at k ∙ line_has_lem (slice_get ls k) ∙ ap (λ (l : List Line). line_has (slice_get l k) (entry n)) e) (line_depends d (whole d b) k (entry n))

  pub rule_places : {rs : List Rule} → rs ≡ d.rules → ((k : ℕ) → h k ≡ unwrap_or (option_map (λ (r : Rule). has r.needs.entries n) (slice_get rs k)) false) → (k : ℕ) → Decides (h k) (RuleDepends d k (entry n))
  rule_places {rs} e at k = Decides-at _ _ (at k ∙ rule_has_lem (slice_get rs k) ∙ ap (λ (l : List Rule). rule_has (slice_get l k) (entry n)) e) (rule_depends d (whole d b) k (entry n))
