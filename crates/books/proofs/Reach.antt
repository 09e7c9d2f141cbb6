-- What a row of steps finds is what its formula reaches, and that is what the formula needs.
use Rattle.std.proofs.Common.{◌≡◌, ℕ, zero, suc, ◌<◌, ◌≤◌, Bool, true, ◌&&◌, ◌||◌, eqb, ltb, ◌⊎◌, List, [], ◌∷◌, ◌++◌, length, Some, None, Decides, Option, sym, refl, ap, ◌∙◌, subst, inl, inr, ⊎_elim, arith}
use Rattle.std.proofs.Math.Bool.{or-false}
use Rattle.std.proofs.lemmas.List.Folds.{list_any-append}
use Rattle.std.proofs.lemmas.Bool.{and_parts, or_cases, or_left, or_right, ltb-true, eqb-true, eq-eqb}
use Rattle.std.proofs.lemmas.Bool.Decides.{nat_tests, Decides-or}
use Rattle.std.proofs.lemmas.Option.{slice_get_within, slice_get_cases}
use Rattle.std.specs.Option.{option_and_then}
use Rattle.std.specs.List.{slice_get}
use Rattle.books.specs.declared.step.Entry.{Entry}
use Rattle.books.specs.declared.step.Line.{Line}
use Rattle.books.specs.declared.step.Step.{Step}
use Rattle.books.specs.declared.step.Step.TheVariants as step
use Rattle.books.specs.Formulas.{Named, entry, line, Formula, steps, formula}
use Rattle.books.specs.Needs.{Names, Needed, named, through, same, line_has, reaches, any_name, step_entry, step_line, row_entry, row_line}
use Rattle.books.specs.Books.{part, formulas, within, LinesStand, line_reaches, LineWords}
use Rattle.books.proofs.Standing.{within_more, reaches_by, line_parts}

-- ---- rows

-- a number below 64 is the one looked for
here : (e i j : ℕ) → e ≤ 64 → ltb j e ≡ true → (ltb j 64 && eqb i j) ≡ eqb j i
here e i j h w = let l = ltb-true j e w in grind (arith, nat_tests)

pub row_entries : (e k : ℕ) (ls : List Line) (f : Formula) (i : ℕ) → e ≤ 64 → k ≤ 64 → within e k f ≡ true → row_entry ls (steps f) i ≡ any_name (reaches ls (entry i)) f
row_entries e k ls (Formula.number c u) i h j w = refl
row_entries e k ls (Formula.name (entry n)) i h j w = or-false (ltb n 64 && eqb i n) ∙ here e i n h w
row_entries e k ls (Formula.name (line n)) i h j w = or-false (line_has (slice_get ls n) (entry i))
row_entries e k ls (Formula.join o f g) i h j w =
    let (p, q) = and_parts (within e k f) (within e k g) w in
    let x = row_entries e k ls f i h j p in
    let y = row_entries e k ls g i h j q in
    let append = list_any-append (λ s. step_entry ls s i) in
    append (steps f) (steps g ++ (step.Op o ∷ [])) ∙ ap (λ t. row_entry ls (steps f) i || t) (append (steps g) (step.Op o ∷ []) ∙ or-false (row_entry ls (steps g) i)) ∙ (λ j. x j || y j)

pub row_lines : (e k : ℕ) (ls : List Line) (f : Formula) (i : ℕ) → e ≤ 64 → k ≤ 64 → within e k f ≡ true → row_line ls (steps f) i ≡ any_name (reaches ls (line i)) f
row_lines e k ls (Formula.number c u) i h j w = refl
row_lines e k ls (Formula.name (entry n)) i h j w = refl
row_lines e k ls (Formula.name (line n)) i h j w = or-false ((ltb n 64 && eqb i n) || line_has (slice_get ls n) (line i)) ∙ ap (λ t. t || line_has (slice_get ls n) (line i)) (here k i n j w)
row_lines e k ls (Formula.join o f g) i h j w =
    let (p, q) = and_parts (within e k f) (within e k g) w in
    let x = row_lines e k ls f i h j p in
    let y = row_lines e k ls g i h j q in
    let append = list_any-append (λ s. step_line ls s i) in
    append (steps f) (steps g ++ (step.Op o ∷ [])) ∙ ap (λ t. row_line ls (steps f) i || t) (append (steps g) (step.Op o ∷ []) ∙ or-false (row_line ls (steps g) i)) ∙ (λ j. x j || y j)

-- ---- the names of a formula

any_found : (p : Named → Bool) (f : Formula) → any_name p f ≡ true → (x : Named) × Names f x × (p x ≡ true)
any_found p (Formula.number c u) e = cc
any_found p (Formula.name x) e = (x, refl, e)
any_found p (Formula.join o f g) e = ⊎_elim (λ h. let (x, m, q) = any_found p f h in (x, inl m, q)) (λ h. let (x, m, q) = any_found p g h in (x, inr m, q)) (or_cases (any_name p f) (any_name p g) e)

any_of : (p : Named → Bool) (f : Formula) (x : Named) → Names f x → p x ≡ true → any_name p f ≡ true
any_of p (Formula.number c u) x m e = absurd m
any_of p (Formula.name y) x m e = subst (λ z. p z ≡ true) (sym m) e
any_of p (Formula.join o f g) x (inl m) e = or_left (any_name p f) (any_name p g) (any_of p f x m e)
any_of p (Formula.join o f g) x (inr m) e = or_right (any_name p f) (any_name p g) (any_of p g x m e)

same_is : (x y : Named) → same x y ≡ true → x ≡ y
same_is (entry i) (entry j) e = ap entry (eqb-true i j e)
same_is (entry i) (line j) e = cc
same_is (line i) (entry j) e = cc
same_is (line i) (line j) e = ap line (eqb-true i j e)

name_within : (e k : ℕ) (f : Formula) (x : Named) → within e k f ≡ true → Names f x → within e k (Formula.name x) ≡ true
name_within e k (Formula.number c u) x w m = absurd m
name_within e k (Formula.name y) x w m = subst (λ z. within e k (Formula.name z) ≡ true) m w
name_within e k (Formula.join o f g) x w (inl m) = name_within e k f x (and_parts (within e k f) (within e k g) w).0 m
name_within e k (Formula.join o f g) x w (inr m) = name_within e k g x (and_parts (within e k f) (within e k g) w).1 m

-- ---- what a formula needs

module _ (es : List Entry) (ls : List Line) (row : List Step) (stand : LinesStand es ls row) (words : LineWords ls row) where
  -- the line k has the formula g
  abbrev About : ℕ → Formula → Type 0
  About k g = (k < length ls) × (formulas row ls k ≡ Some g) × (within (length es) k g ≡ true) × ((x : Named) → line_has (slice_get ls k) x ≡ any_name (reaches ls x) g)

  line_here : (k : ℕ) (l : Line) → slice_get ls k ≡ Some l → (g : Formula) × About k g
  line_here k l e =
      let (g, w, u) = line_parts es ls row k l (stand k l e) in
      let is : formulas row ls k ≡ Some g = ap (λ o. option_and_then (λ (l : Line). formula (part row l.steps)) o) e ∙ w.2 in
      (g, (slice_get_within ls k l e, is, w.3, λ x. words k x ∙ ap (λ o. line_reaches ls row o x) e ∙ reaches_by ls row l.steps g x w.2))

  line_at : (k : ℕ) → k < length ls → (g : Formula) × About k g
  line_at k h = ⊎_elim (λ (l, i, e, q). line_here k l e) (λ (past, e). absurd (omega arith)) (slice_get_cases ls k).1

  line_of : (k : ℕ) (g : Formula) → formulas row ls k ≡ Some g → About k g
  line_of k g e = go (slice_get ls k) refl
    where
      go : (o : Option Line) → slice_get ls k ≡ o → About k g
      go None n = cc
      go (Some l) n =
          let (f, a) = line_here k l n in
          let q : f ≡ g = cc (sym a.1 ∙ e) in
          subst (About k) q a

  self_reach : (x : Named) → reaches ls x x ≡ true
  self_reach (entry i) = eq-eqb i i refl
  self_reach (line k) = or_left (same (line k) (line k)) (line_has (slice_get ls k) (line k)) (eq-eqb k k refl)

  module _ (f : Formula) where
    -- what a needed name reaches is needed
    reach_needed : (y : Named) (n : ℕ) (x : Named) → n ≤ length ls → within (length es) n (Formula.name x) ≡ true → Needed (formulas row ls) f x → reaches ls y x ≡ true → Needed (formulas row ls) f y
    reach_needed y n (entry i) h b d e = subst (Needed (formulas row ls) f) (same_is (entry i) y e) d
    reach_needed y zero (line k) h b d e = let l = ltb-true k 0 b in absurd (omega arith)
    reach_needed y (suc n) (line k) h b d e =
        let l = ltb-true k (suc n) b in
        let (g, (lk, is, w, has)) = line_at k (omega arith) in
        ⊎_elim (λ (q : same (line k) y ≡ true). subst (Needed (formulas row ls) f) (same_is (line k) y q) d)
        (λ (q : line_has (slice_get ls k) y ≡ true).
        let (x, m, r) = any_found (reaches ls y) g (sym (has y) ∙ q) in
        reach_needed y n x (omega arith) (within_more (length es) (length es) k n (Formula.name x) (omega arith) (omega arith) (name_within (length es) k g x w m)) (through d is m) r)
        (or_cases (same (line k) y) (line_has (slice_get ls k) y) e)

  module _ (k : ℕ) (g : Formula) (about : About k g) (x : Named) (m : Names g x) where
    -- what reaches a line reaches the names of its formula
    reach_through : (n : ℕ) (z : Named) → n ≤ length ls → within (length es) n (Formula.name z) ≡ true → reaches ls (line k) z ≡ true → reaches ls x z ≡ true
    reach_through n (entry i) h b e = cc
    reach_through zero (line i) h b e = let l = ltb-true i 0 b in absurd (omega arith)
    reach_through (suc n) (line i) h b e =
        let l = ltb-true i (suc n) b in
        let (g', (li, is, w, has)) = line_at i (omega arith) in
        ⊎_elim
        (λ (q : eqb i k ≡ true). subst (λ j. reaches ls x (line j) ≡ true) (sym (eqb-true i k q)) (or_right (same (line k) x) (line_has (slice_get ls k) x) (about.3 x ∙ any_of (reaches ls x) g x m (self_reach x))))
        (λ (q : line_has (slice_get ls i) (line k) ≡ true).
        let (z, mz, r) = any_found (reaches ls (line k)) g' (sym (has (line k)) ∙ q) in
        let on = reach_through n z (omega arith) (within_more (length es) (length es) i n (Formula.name z) (omega arith) (omega arith) (name_within (length es) i g' z w mz)) r in
        or_right (same (line i) x) (line_has (slice_get ls i) x) (has x ∙ any_of (reaches ls x) g' z mz on))
        (or_cases (eqb i k) (line_has (slice_get ls i) (line k)) e)

  module _ (f : Formula) (w : within (length es) (length ls) f ≡ true) where
    listed : (x : Named) → Needed (formulas row ls) f x → any_name (reaches ls x) f ≡ true
    listed x (named m) = any_of (reaches ls x) f x m (self_reach x)
    listed x (through {k} {g} d e m) =
        let (z, mz, r) = any_found (reaches ls (line k)) f (listed (line k) d) in
        any_of (reaches ls x) f z mz (reach_through k g (line_of k g e) x m (length ls) z (omega arith) (name_within (length es) (length ls) f z w mz) r)

    pub needed_decides : (x : Named) → Decides (any_name (reaches ls x) f) (Needed (formulas row ls) f x)
    needed_decides x = (λ e. let (z, m, r) = any_found (reaches ls x) f e in reach_needed f x (length ls) z (omega arith) (name_within (length es) (length ls) f z w m) (named m) r, listed x)

  pub needed_both : (f g : Formula) → within (length es) (length ls) f ≡ true → within (length es) (length ls) g ≡ true → (x : Named) → Decides (any_name (reaches ls x) f || any_name (reaches ls x) g) (Needed (formulas row ls) f x ⊎ Needed (formulas row ls) g x)
  needed_both f g v w x = Decides-or (any_name (reaches ls x) f) (any_name (reaches ls x) g) (needed_decides f v x) (needed_decides g w x)
