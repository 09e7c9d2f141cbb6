-- A book stays one with an entry, a line or a rule at the end.
use Rattle.std.proofs.Common.{◌≡◌, ℕ, ◌+◌, ◌<◌, ◌≤◌, Bool, true, ◌||◌, ◌⊎◌, List, [], ◌∷◌, ◌++◌, length, ℤ, Some, Ok, sym, refl, ap, ◌∙◌, ⊎_elim, append-nil, arith, length-append}
use Rattle.std.proofs.lemmas.Bool.{cases_lt}
use Rattle.std.proofs.lemmas.Bool.Decides.{Decides-at}
use Rattle.std.proofs.lemmas.Option.{slice_get_past}
use Rattle.sets.specs.Members.{has}
use Rattle.lines.specs.Grammar.{Stated}
use Rattle.books.specs.declared.name.Name.{Name}
use Rattle.books.specs.declared.step.Entry.{Entry}
use Rattle.books.specs.declared.step.Line.{Line}
use Rattle.books.specs.declared.step.Needs.{Needs}
use Rattle.books.specs.declared.step.Rule.{Rule}
use Rattle.books.specs.declared.step.Step.{Step}
use Rattle.books.specs.Names.{text_of}
use Rattle.books.specs.Formulas.{Named, entry, line, Formula, steps, formula}
use Rattle.books.specs.Needs.{in_words, reaches, any_name, row_entry, row_line}
use Rattle.books.specs.Books.{Lists, Stands, within, LinesStand, LineWords}
use Rattle.books.specs.Drafts.{Grows, unit_in, Words, NeededIn, RuleSides, with_entry, with_line, with_rule}
use Rattle.books.proofs.Postfix.{formula_steps}
use Rattle.books.proofs.Reach.{row_entries, row_lines, needed_decides, needed_both}
use Rattle.books.proofs.Standing.{lines_more, line_words_more, rules_more, rule_words_more, lines_push, line_words_push, rules_push, rule_words_push}

-- a formula is known by its steps
pub steps_same : (f g : Formula) → steps f ≡ steps g → f ≡ g
steps_same f g e = let p : Some f ≡ Some g = sym (formula_steps f) ∙ ap formula e ∙ formula_steps g in cc p

-- words stay, with more steps
line_words_kept : (es : List Entry) (ls : List Line) (row c : List Step) → LinesStand es ls row → LineWords ls row → LineWords ls (row ++ c)
line_words_kept es ls row c h w k x = ⊎_elim
    (λ (l : k < length ls). simp append-nil at (line_words_more es ls [] row c h w k x l))
    (λ (l : length ls ≤ k). simp (slice_get_past ls k l))
    (cases_lt k (length ls))

-- the lists with an entry at the end, whose name is a text of at most 16
pub grows_entry : (d d' : Lists) (name : Name) (u : ℤ × ℤ) (text : List ℕ) → d' ≡ with_entry d name u → text ≡ text_of name → length text ≤ 16 → Grows d (Stated.entry (text_of name) u) d'
grows_entry d d' name u text e p short = rw e (Grows.entry name (rw p at short))

module _ (d : Lists) (s : Stands d) where
  -- ---- an entry

  pub stands_entry : (name : Name) (u : ℤ × ℤ) → length d.entries < 64 → Stands (with_entry d name u)
  stands_entry name u few =
      let more : List Entry = record { name = name; unit = u } ∷ [] in
      record {
        few_entries = omega (arith, length-append d.entries more);
        few_lines = s.few_lines;
        few_rules = s.few_rules;
        few_steps = s.few_steps;
        lines_stand = simp append-nil at (lines_more d.entries more d.lines [] d.steps [] s.lines_stand);
        line_words = s.line_words;
        rules_stand = simp append-nil at (rules_more d.entries more d.lines [] d.rules d.steps [] s.rules_stand);
        rule_words = s.rule_words;
      }

  -- ---- a line

  -- the words of a row are those of its formula
  pub words_of : {ls : List Line} (row : List Step) (f : Formula) (n : Needs) → ls ≡ d.lines → within (length d.entries) (length d.lines) f ≡ true → row ≡ steps f → ((i : ℕ) → has n.entries i ≡ row_entry ls row i) → ((i : ℕ) → has n.lines i ≡ row_line ls row i) → (x : Named) → in_words n x ≡ any_name (reaches d.lines x) f
  words_of row f n p w q es ks (entry i) = es i ∙ (λ j. row_entry (p j) (q j) i) ∙ row_entries (length d.entries) (length d.lines) d.lines f i s.few_entries s.few_lines w
  words_of row f n p w q es ks (line i) = ks i ∙ (λ j. row_line (p j) (q j) i) ∙ row_lines (length d.entries) (length d.lines) d.lines f i s.few_entries s.few_lines w

  module _ (needs : Needs) (more : List Step) (f : Formula) (is : more ≡ steps f) (w : within (length d.entries) (length d.lines) f ≡ true) (words : (x : Named) → in_words needs x ≡ any_name (reaches d.lines x) f) where
    pub line_needs : (g : Formula) → more ≡ steps g → Words needs (NeededIn d g)
    line_needs g e x =
        rw (steps_same g f (sym e ∙ is)) (Decides-at _ _ (words x) (needed_decides d.entries d.lines d.steps s.lines_stand s.line_words f w x))

    pub stands_line : (name : Name) (u : ℤ × ℤ) → unit_in d f ≡ Ok u → length d.lines < 64 → length d.steps + length more ≤ 1024 → length more ≤ 120 → Stands (with_line d name u needs more)
    stands_line name u has_unit few room short =
        let l : Line = record { name = name; unit = u; steps = record { start = length d.steps; len = length more }; needs = needs } in
        record {
          few_entries = s.few_entries;
          few_lines = omega (arith, length-append d.lines (l ∷ []));
          few_rules = s.few_rules;
          few_steps = omega (arith, length-append d.steps more);
          lines_stand = lines_push d.entries d.lines d.steps more l f s.lines_stand is short w refl has_unit;
          line_words = line_words_push d.entries d.lines d.steps more l f s.lines_stand s.line_words is w refl words;
          rules_stand = simp append-nil at (rules_more d.entries [] d.lines (l ∷ []) d.rules d.steps more s.rules_stand);
          rule_words = rule_words_more d.entries d.lines (l ∷ []) d.rules d.steps more s.rules_stand s.rule_words;
        }

  -- ---- a rule

  module _ (needs : Needs) (root : Bool) (u : ℤ × ℤ) (left right : List Step) (sides : RuleSides d root u left right) (words : (x : Named) → in_words needs x ≡ (any_name (reaches d.lines x) sides.f || any_name (reaches d.lines x) sides.g)) where
    pub rule_needs : (f g : Formula) → left ≡ steps f → right ≡ steps g → Words needs (λ x. NeededIn d f x ⊎ NeededIn d g x)
    rule_needs f g p q x =
        rw (steps_same f sides.f (sym p ∙ sides.is_left), steps_same g sides.g (sym q ∙ sides.is_right)) (Decides-at _ _ (words x) (needed_both d.entries d.lines d.steps s.lines_stand s.line_words sides.f sides.g sides.left_within sides.right_within x))

    pub stands_rule : (name : Name) → length d.rules < 64 → length d.steps + (length left + length right) ≤ 1024 → length left ≤ 120 → length right ≤ 120 → Stands (with_rule d name root u needs left right)
    stands_rule name few room short shorter =
        let r : Rule = record { name = name; root = root; unit = u; left = record { start = length d.steps; len = length left }; right = record { start = length d.steps + length left; len = length right }; needs = needs } in
        record {
          few_entries = s.few_entries;
          few_lines = s.few_lines;
          few_rules = omega (arith, length-append d.rules (r ∷ []));
          few_steps = omega (arith, length-append d.steps (left ++ right), length-append left right);
          lines_stand = simp append-nil at (lines_more d.entries [] d.lines [] d.steps (left ++ right) s.lines_stand);
          line_words = line_words_kept d.entries d.lines d.steps (left ++ right) s.lines_stand s.line_words;
          rules_stand = rules_push d.entries d.lines d.rules d.steps left right r sides.f sides.g sides.other s.rules_stand sides.is_left sides.is_right short shorter sides.left_within sides.right_within refl refl sides.left_unit sides.right_unit sides.agrees;
          rule_words = rule_words_push d.entries d.lines d.rules d.steps left right r sides.f sides.g s.rules_stand s.rule_words sides.is_left sides.is_right refl refl words;
        }

-- the words of two rows
pub both_words : (n a b : Needs) {p q : Named → Bool} → ((i : ℕ) → has n.entries i ≡ has a.entries i || has b.entries i) → ((i : ℕ) → has n.lines i ≡ has a.lines i || has b.lines i) → ((x : Named) → in_words a x ≡ p x) → ((x : Named) → in_words b x ≡ q x) → (x : Named) → in_words n x ≡ p x || q x
both_words n a b es ks f g (entry i) = es i ∙ (λ j. f (entry i) j || g (entry i) j)
both_words n a b es ks f g (line i) = ks i ∙ (λ j. f (line i) j || g (line i) j)
