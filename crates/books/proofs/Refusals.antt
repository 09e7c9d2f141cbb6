-- The refusal of a line or a rule, by the first check that does not pass.
use Rattle.std.proofs.Common.{◌≡◌, ℕ, ◌+◌, Bool, true, false, cond, ◌⊎◌, List, [], ◌∷◌, ◌++◌, length, take, drop, ℤ, IsErrAnd, Some, None, Ok, Err, Option, Result, sym, refl, ap, ◌∙◌, subst, inl, inr, arith, length-append, MatchResult}
use Rattle.std.proofs.Math.Seq.{take-append_seam, drop-append_seam}
use Rattle.std.proofs.lemmas.List.{length-map}
use Rattle.std.specs.Option.{option_map}
use Rattle.lines.specs.declared.reader.Raw.{Raw}
use Rattle.lines.specs.Reading.{item, items}
use Rattle.lines.specs.Grammar.{Tree, Item, Stated, postfix}
use Rattle.books.specs.declared.refusal.Refusal.{Refusal}
use Rattle.books.specs.declared.refusal.Refusal.TheVariants as refusal
use Rattle.books.specs.declared.step.Declared.{Declared}
use Rattle.books.specs.declared.step.Step.{Step}
use Rattle.books.specs.Names.{step_of, join, resolved}
use Rattle.books.specs.Formulas.{Formula, steps, formula_of}
use Rattle.books.specs.Units.{sides_agree}
use Rattle.books.specs.Books.{Lists}
use Rattle.books.specs.Drafts.{look_in, unit_in, taken, fits, full, refusal_of, LineChecked, RuleChecked}
use Rattle.books.proofs.Trees.{chained, resolved_append, rows_of_trees}

-- the formula whose steps were looked up, if all names are known
some_steps : (o : Option Formula) (ss : List Step) → option_map steps o ≡ Some ss → (f : Formula) × (o ≡ Some f) × (ss ≡ steps f)
some_steps None ss e = cc
some_steps (Some f) ss e = let q : ss ≡ steps f = cc e in (f, refl, q)

no_steps : (o : Option Formula) → option_map steps o ≡ None → o ≡ None
no_steps None e = refl
no_steps (Some f) e = cc

all_known : (look : List ℕ → Option Declared) (t : Tree) (ss : List Step) → resolved look (postfix t) ≡ Some ss → (f : Formula) × (formula_of look t ≡ Some f) × (ss ≡ steps f)
all_known look t ss e = some_steps (formula_of look t) ss (sym (rows_of_trees look t) ∙ e)

one_unknown : (look : List ℕ → Option Declared) (t : Tree) → resolved look (postfix t) ≡ None → formula_of look t ≡ None
one_unknown look t e = no_steps (formula_of look t) (sym (rows_of_trees look t) ∙ e)

-- the formulas of two sides, if all names are known; their steps stand one after the other
some_sides : (x y : Option Formula) (ss : List Step) → chained (option_map steps x) (option_map steps y) ≡ Some ss → (f g : Formula) × (x ≡ Some f) × (y ≡ Some g) × (ss ≡ steps f ++ steps g)
unfolding chained
some_sides None y ss e = cc
some_sides (Some f) None ss e = cc
some_sides (Some f) (Some g) ss e = let q : ss ≡ steps f ++ steps g = cc e in (f, g, refl, refl, q)

no_sides : (x y : Option Formula) → chained (option_map steps x) (option_map steps y) ≡ None → (x ≡ None) ⊎ ((f : Formula) × (x ≡ Some f) × (y ≡ None))
unfolding chained
no_sides None y e = inl refl
no_sides (Some f) None e = inr (f, refl, refl)
no_sides (Some f) (Some g) e = cc

both_rows : (look : List ℕ → Option Declared) (t u : Tree) → chained (option_map steps (formula_of look t)) (option_map steps (formula_of look u)) ≡ resolved look (postfix t ++ postfix u)
both_rows look t u = sym (resolved_append look (postfix t) (postfix u) ∙ (λ i. chained (rows_of_trees look t i) (rows_of_trees look u i)))

sides_known : (look : List ℕ → Option Declared) (t u : Tree) (ss : List Step) → resolved look (postfix t ++ postfix u) ≡ Some ss → (f g : Formula) × (formula_of look t ≡ Some f) × (formula_of look u ≡ Some g) × (ss ≡ steps f ++ steps g)
sides_known look t u ss e = some_sides (formula_of look t) (formula_of look u) ss (both_rows look t u ∙ e)

side_unknown : (look : List ℕ → Option Declared) (t u : Tree) → resolved look (postfix t ++ postfix u) ≡ None → (formula_of look t ≡ None) ⊎ ((f : Formula) × (formula_of look t ≡ Some f) × (formula_of look u ≡ None))
side_unknown look t u e = no_sides (formula_of look t) (formula_of look u) (both_rows look t u ∙ e)

-- a step for each item
same_count : (look : List ℕ → Option Declared) (xs : List Item) (ss : List Step) → resolved look xs ≡ Some ss → length ss ≡ length xs
same_count look [] ss e = let q : ss ≡ [] = cc e in ap length q
same_count look (x ∷ xs) ss e = go (step_of look x) (resolved look xs) e (same_count look xs)
  where
    go : (o : Option Step) (p : Option (List Step)) → join o p ≡ Some ss → ((rs : List Step) → p ≡ Some rs → length rs ≡ length xs) → length ss ≡ length (x ∷ xs)
    go None p q ih = cc
    go (Some s) None q ih = cc
    go (Some s) (Some rs) q ih = let h : ss ≡ s ∷ rs = cc q in omega (arith, ap length h, ih rs refl)

-- so for the steps of a line as they were read
pub row_count : (look : List ℕ → Option Declared) (line : List ℕ) (raw : List Raw) (ss : List Step) → resolved look (items line raw) ≡ Some ss → length ss ≡ length raw
row_count look line raw ss e = same_count look (items line raw) ss e ∙ length-map raw (item line)

pub steps_count : (look : List ℕ → Option Declared) (t : Tree) (f : Formula) → formula_of look t ≡ Some f → length (steps f) ≡ length (postfix t)
steps_count look t f e = same_count look (postfix t) (steps f) (rows_of_trees look t ∙ ap (option_map steps) e)

-- the sides of a rule, whose left side has the first steps of the row
record Sides (look : List ℕ → Option Declared) (t u : Tree) (row : List Step) (split : ℕ) : Type 0 where
  pub f : Formula
  pub g : Formula
  pub known_left : formula_of look t ≡ Some f
  pub known_right : formula_of look u ≡ Some g
  pub is_left : take split row ≡ steps f
  pub is_right : drop split row ≡ steps g
  pub count : length row ≡ length (steps f) + length (steps g)

split_sides : (look : List ℕ → Option Declared) (t u : Tree) (row : List Step) (split : ℕ) → resolved look (postfix t ++ postfix u) ≡ Some row → split ≡ length (postfix t) → Sides look t u row split
split_sides look t u row split e at =
    let (f, g, p, q, all) = sides_known look t u row e in
    let n = at ∙ sym (steps_count look t f p) in
    record {
      f = f;
      g = g;
      known_left = p;
      known_right = q;
      is_left = (λ i. take (n i) (all i)) ∙ take-append_seam (steps f) (steps g);
      is_right = (λ i. drop (n i) (all i)) ∙ drop-append_seam (steps f) (steps g);
      count = ap length all ∙ length-append (steps f) (steps g);
    }

-- what is not full
not_full : (d : Lists) (count more : ℕ) → None ≡ full d count more → fits d count more ≡ true
not_full d count more e = go (fits d count more) e
  where
    go : (b : Bool) → None ≡ cond b None (Some refusal.Full) → b ≡ true
    go true q = refl
    go false q = cc

-- ---- a line whose name is free, by what its names and its unit are

module _ (d : Lists) (n : List ℕ) (t : Tree) (free : None ≡ taken d n) where
  pub line_unknown : resolved (look_in d) (postfix t) ≡ None → refusal_of d (Stated.line n t) ≡ Some refusal.Unknown
  line_unknown is = rw (← free, one_unknown (look_in d) t is)

  module _ (row : List Step) (is : resolved (look_in d) (postfix t) ≡ Some row) where
    pub line_refused : (e : Refusal) → ((f : Formula) → row ≡ steps f → Err e ≡ unit_in d f) → refusal_of d (Stated.line n t) ≡ Some e
    line_refused e u = let (f, k, r) = all_known (look_in d) t row is in rw (← free, k, ← u f r)

    module _ (a : ℤ × ℤ) (u : (f : Formula) → row ≡ steps f → Ok a ≡ unit_in d f) where
      pub line_full : (e : Refusal) → Some e ≡ full d (length d.lines) (length row) → refusal_of d (Stated.line n t) ≡ Some e
      line_full e x = let (f, k, r) = all_known (look_in d) t row is in rw (← free, k, ← u f r, ← r, ← x)

      pub line_checked : None ≡ full d (length d.lines) (length row) → LineChecked d n t row a
      line_checked x =
          let (f, k, r) = all_known (look_in d) t row is in
          record {
            f = f;
            known = k;
            is_row = r;
            has_unit = sym (u f r);
            room = not_full d _ _ x;
            unrefused = rw (← free, k, ← u f r, ← r, ← x);
          }

-- ---- a rule whose name is free; its left side has the first steps

module _ (d : Lists) (n : List ℕ) (root : Bool) (t u : Tree) (free : None ≡ taken d n) where
  pub rule_unknown : resolved (look_in d) (postfix t ++ postfix u) ≡ None → refusal_of d (Stated.rule n root t u) ≡ Some refusal.Unknown
  rule_unknown is = go (side_unknown (look_in d) t u is)
    where
      go : (formula_of (look_in d) t ≡ None) ⊎ ((f : Formula) × (formula_of (look_in d) t ≡ Some f) × (formula_of (look_in d) u ≡ None)) → refusal_of d (Stated.rule n root t u) ≡ Some refusal.Unknown
      go (inl e) = rw (← free, e)
      go (inr (f, k, e)) = rw (← free, k, e)

  module _ (row : List Step) (split : ℕ) (is : resolved (look_in d) (postfix t ++ postfix u) ≡ Some row) (at : split ≡ length (postfix t)) where
    sides : Sides (look_in d) t u row split
    sides = split_sides (look_in d) t u row split is at

    pub left_refused : (e : Refusal) → ((f : Formula) → take split row ≡ steps f → Err e ≡ unit_in d f) → refusal_of d (Stated.rule n root t u) ≡ Some e
    left_refused e l = let k = sides in rw (← free, k.known_left, k.known_right, ← l k.f k.is_left)

    module _ (a : ℤ × ℤ) (l : (f : Formula) → take split row ≡ steps f → Ok a ≡ unit_in d f) where
      pub right_refused : (e : Refusal) → ((g : Formula) → drop split row ≡ steps g → Err e ≡ unit_in d g) → refusal_of d (Stated.rule n root t u) ≡ Some e
      right_refused e r = let k = sides in rw (← free, k.known_left, k.known_right, ← l k.f k.is_left, ← r k.g k.is_right)

      module _ (b : ℤ × ℤ) (r : (g : Formula) → drop split row ≡ steps g → Ok b ≡ unit_in d g) where
        pub sides_refused : sides_agree root a b ≡ false → refusal_of d (Stated.rule n root t u) ≡ Some refusal.Units
        sides_refused x = let k = sides in rw (← free, k.known_left, k.known_right, ← l k.f k.is_left, ← r k.g k.is_right, x)

        module _ (agrees : sides_agree root a b ≡ true) where
          pub rule_full : (e : Refusal) → Some e ≡ full d (length d.rules) (length row) → refusal_of d (Stated.rule n root t u) ≡ Some e
          rule_full e x = let k = sides in rw (← free, k.known_left, k.known_right, ← l k.f k.is_left, ← r k.g k.is_right, agrees, ← k.count, ← x)

          pub rule_checked : None ≡ full d (length d.rules) (length row) → RuleChecked d n root t u (take split row) (drop split row) a
          rule_checked x =
              let k = sides in
              record {
                f = k.f;
                g = k.g;
                known_left = k.known_left;
                known_right = k.known_right;
                is_left = k.is_left;
                is_right = k.is_right;
                left_unit = sym (l k.f k.is_left);
                b = b;
                right_unit = sym (r k.g k.is_right);
                agrees = agrees;
                room = rw (← k.count) (not_full d _ _ x);
                unrefused = rw (← free, k.known_left, k.known_right, ← l k.f k.is_left, ← r k.g k.is_right, agrees, ← k.count, ← x);
              }

-- the exit of a `?`
pub broken : {T : Type 0} (r : Result T Refusal) (e : Refusal) (P : T → Type 0) (Q : Refusal → Type 0) → IsErrAnd r (λ y. y ≡ e) → Q e → MatchResult r P Q
broken (Ok x) e P Q h q = absurd h
broken (Err y) e P Q h q = subst Q (sym h) q
