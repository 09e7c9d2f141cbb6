-- What stands in a book still stands when something is put at the end of its lists.
use Rattle.std.proofs.Common.{◌≡◌, ℕ, zero, suc, ◌+◌, ◌<◌, ◌≤◌, Bool, true, false, ◌&&◌, ◌||◌, leb, List, [], ◌∷◌, ◌++◌, length, take, drop, ℤ, pos, Some, None, Ok, Option, sym, refl, ap, ◌∙◌, subst, ⊎_elim, append_assoc, append-nil, arith, length-append, length-drop}
use Rattle.std.proofs.lemmas.List.{take-append-le, drop-append-le}
use Rattle.std.proofs.lemmas.Option.{cond_some, slice_get_past, slice_get_within}
use Rattle.std.proofs.lemmas.Bool.{and_parts, and_from, ltb-true, lt-ltb, leb-true, le-leb, cases_lt, cases_eq}
use Rattle.std.proofs.lemmas.Bool.Decides.{Decides-int_eq}
use Rattle.std.specs.Option.{option_map, option_map_or, option_or}
use Rattle.std.specs.Ordering.{int_eq}
use Rattle.std.specs.Bool.{then_some}
use Rattle.std.specs.List.{list_any, position, slice_get}
use Rattle.std.specs.Str.{bytes_eq}
use Rattle.lines.specs.declared.reader.Op.{Op}
use Rattle.lines.specs.Grammar.{Tree, Counts}
use Rattle.books.specs.declared.step.Declared.TheVariants as declared
use Rattle.books.specs.declared.step.Entry.{Entry}
use Rattle.books.specs.declared.step.Line.{Line}
use Rattle.books.specs.declared.step.Rule.{Rule}
use Rattle.books.specs.declared.step.Span.{Span}
use Rattle.books.specs.declared.step.Step.{Step}
use Rattle.books.specs.Names.{text_of, found}
use Rattle.books.specs.Formulas.{Named, entry, line, Formula, steps, formula, operand, join_both, formula_of}
use Rattle.books.specs.Needs.{in_words, line_has, same, reaches, any_name}
use Rattle.books.specs.Units.{after, join_units, formula_unit, same_unit, sides_agree}
use Rattle.books.specs.Books.{part, units, within, is_unit, passes, formed, line_stands, agree, rule_stands, part_reaches, LinesStand, line_reaches, LineWords, RulesStand, rule_has, rule_reaches, RuleWords}
use Rattle.books.proofs.Postfix.{formula_steps, part_new}

-- ---- places in a list

module _ {X : Type 0} where
  pub nth_more : (xs ys : List X) (k : ℕ) → k < length xs → slice_get (xs ++ ys) k ≡ slice_get xs k
  nth_more [] ys k h = absurd (omega arith)
  nth_more (x ∷ xs) ys zero h = refl
  nth_more (x ∷ xs) ys (suc k) h = nth_more xs ys k (omega arith)

  pub nth_new : (xs : List X) (x : X) → slice_get (xs ++ x ∷ []) (length xs) ≡ Some x
  nth_new [] x = refl
  nth_new (y ∷ xs) x = nth_new xs x

  -- a place of a list with one more is one of the list, or the last, or none
  pub nth_push : (xs : List X) (x : X) (P : ℕ → Option X → Type 0) → ((k : ℕ) → k < length xs → P k (slice_get (xs ++ x ∷ []) k)) → P (length xs) (Some x) → ((k : ℕ) → P k None) → (k : ℕ) → P k (slice_get (xs ++ x ∷ []) k)
  nth_push xs x P old new none k = ⊎_elim (old k) (λ (h : length xs ≤ k). ⊎_elim (λ (q : k ≡ length xs). subst (λ j. P j (slice_get (xs ++ x ∷ []) j)) (sym q) (subst (P (length xs)) (sym (nth_new xs x)) new)) (λ (q : k ≡ length xs → ⊥). subst (P k) (sym (slice_get_past (xs ++ x ∷ []) k (past h q))) (none k)) (cases_eq k (length xs))) (cases_lt k (length xs))
    where
      past : length xs ≤ k → (k ≡ length xs → ⊥) → length (xs ++ x ∷ []) ≤ k
      past h q = let long = length-append xs (x ∷ []) in omega arith

-- ---- formulas over fewer entries and lines

pub part_more : (row c : List Step) (p : Span) → p.start + p.len ≤ length row → part (row ++ c) p ≡ part row p
part_more row c p h =
    let long = length-drop p.start row in
    ap (take p.len) (drop-append-le p.start row c (omega arith)) ∙ take-append-le p.len (drop p.start row) c (omega arith)

pub within_more : (e e' k k' : ℕ) (f : Formula) → e ≤ e' → k ≤ k' → within e k f ≡ true → within e' k' f ≡ true
within_more e e' k k' (Formula.number c u) h j w = w
within_more e e' k k' (Formula.name (entry i)) h j w = let l = ltb-true i e w in lt-ltb i e' (omega arith)
within_more e e' k k' (Formula.name (line i)) h j w = let l = ltb-true i k w in lt-ltb i k' (omega arith)
within_more e e' k k' (Formula.join o f g) h j w =
    let (p, q) = and_parts (within e k f) (within e k g) w in
    and_from (within e' k' f) (within e' k' g) (within_more e e' k k' f h j p) (within_more e e' k k' g h j q)

module _ (es a : List Entry) (ls b : List Line) where
  pub unit_more : (f : Formula) (k : ℕ) → k ≤ length ls → within (length es) k f ≡ true → formula_unit (units (es ++ a) (ls ++ b)) f ≡ formula_unit (units es ls) f
  unit_more (Formula.number c u) k h w = refl
  unit_more (Formula.name (entry i)) k h w = ap (λ o. Ok (option_map_or (λ (e : Entry). e.unit) o (pos 0, pos 0))) (nth_more es a i (ltb-true i (length es) w))
  unit_more (Formula.name (line i)) k h w = let l = ltb-true i k w in ap (λ o. Ok (option_map_or (λ (l : Line). l.unit) o (pos 0, pos 0))) (nth_more ls b i (omega arith))
  unit_more (Formula.join o f g) k h w =
      let (p, q) = and_parts (within (length es) k f) (within (length es) k g) w in
      let x = unit_more f k h p in
      let y = unit_more g k h q in
      λ i. after (x i) (λ u. after (y i) (λ v. join_units o u v))

pub unit_lines : (es : List Entry) (ls b : List Line) (f : Formula) (k : ℕ) → k ≤ length ls → within (length es) k f ≡ true → formula_unit (units es (ls ++ b)) f ≡ formula_unit (units es ls) f
unit_lines es ls b f k h w = ap (λ z. formula_unit (units z (ls ++ b)) f) (sym (append-nil es)) ∙ unit_more es [] ls b f k h w

pub any_more : (e : ℕ) (ls b : List Line) (f : Formula) (k : ℕ) (x : Named) → k ≤ length ls → within e k f ≡ true → any_name (reaches (ls ++ b) x) f ≡ any_name (reaches ls x) f
any_more e ls b (Formula.number c u) k x h w = refl
any_more e ls b (Formula.name (entry i)) k x h w = refl
any_more e ls b (Formula.name (line i)) k x h w = let l = ltb-true i k w in ap (λ o. same (line i) x || line_has o x) (nth_more ls b i (omega arith))
any_more e ls b (Formula.join o f g) k x h w =
    let (p, q) = and_parts (within e k f) (within e k g) w in
    λ i. any_more e ls b f k x h p i || any_more e ls b g k x h q i

-- ---- a part that is the steps of a formula

passes_parts : (o : Option Formula) (test : Formula → Bool) → passes o test ≡ true → (f : Formula) × (o ≡ Some f) × (test f ≡ true)
passes_parts None test e = cc
passes_parts (Some f) test e = (f, refl, e)

-- what a part reaches goes by its formula
pub reaches_by : (ls : List Line) (row : List Step) (p : Span) (f : Formula) (x : Named) → formula (part row p) ≡ Some f → part_reaches ls row p x ≡ any_name (reaches ls x) f
reaches_by ls row p f x q = ap (λ o. passes o (any_name (reaches ls x))) q

-- what a part that is formed is
abbrev pub Formed : List Entry → List Step → ℕ → Span → Formula → Type 0
Formed es row k p f = (p.start + p.len ≤ length row) × (p.len ≤ 120) × (formula (part row p) ≡ Some f) × (within (length es) k f ≡ true)

module _ (es : List Entry) (row : List Step) (k : ℕ) (p : Span) where
  pub formed_parts : formed es row k p ≡ true → (f : Formula) × Formed es row k p f
  formed_parts e =
      let (x, y) = and_parts (leb (p.start + p.len) (length row)) (leb p.len 120 && passes (formula (part row p)) (within (length es) k)) e in
      let (z, w) = and_parts (leb p.len 120) (passes (formula (part row p)) (within (length es) k)) y in
      let (f, q, r) = passes_parts (formula (part row p)) (within (length es) k) w in
      (f, (leb-true (p.start + p.len) (length row) x, leb-true p.len 120 z, q, r))

  pub formed_from : (f : Formula) → Formed es row k p f → formed es row k p ≡ true
  formed_from f (x, y, q, r) =
      and_from (leb (p.start + p.len) (length row)) (leb p.len 120 && passes (formula (part row p)) (within (length es) k)) (le-leb (p.start + p.len) (length row) x) (and_from (leb p.len 120) (passes (formula (part row p)) (within (length es) k)) (le-leb p.len 120 y) (ap (λ o. passes o (within (length es) k)) q ∙ r))

  pub formed_more : (a : List Entry) (c : List Step) (k' : ℕ) (f : Formula) → k ≤ k' → Formed es row k p f → Formed (es ++ a) (row ++ c) k' p f
  formed_more a c k' f h (x, y, q, r) =
      let long = length-append row c in
      let more = length-append es a in
      (omega arith, y, ap formula (part_more row c p x) ∙ q, within_more (length es) (length (es ++ a)) k k' f (omega arith) h r)

-- steps that were put into a row are formed
pub formula_new : (whole row more rest : List Step) (p : Span) (f : Formula) → whole ≡ row ++ (more ++ rest) → p ≡ record { start = length row; len = length more } → more ≡ steps f → formula (part whole p) ≡ Some f
formula_new whole row more rest p f e q s = (λ i. formula (part (e i) (q i))) ∙ ap formula (part_new row more rest ∙ s) ∙ formula_steps f

pub formed_new : (es : List Entry) (whole row more rest : List Step) (k : ℕ) (p : Span) (f : Formula) → whole ≡ row ++ (more ++ rest) → p ≡ record { start = length row; len = length more } → more ≡ steps f → length more ≤ 120 → within (length es) k f ≡ true → Formed es whole k p f
formed_new es whole row more rest k p f e q s h w =
    let long : length whole ≡ length row + (length more + length rest) = ap length e ∙ length-append row (more ++ rest) ∙ ap (λ n. length row + n) (length-append more rest) in
    let start : p.start ≡ length row = ap (λ (p : Span). p.start) q in
    let len : p.len ≡ length more = ap (λ (p : Span). p.len) q in
    (omega arith, omega arith, formula_new whole row more rest p f e q s, w)

-- ---- units

pub same_unit_lem : (u : ℤ × ℤ) → same_unit u u ≡ true
same_unit_lem u = and_from (int_eq u.0 u.0) (int_eq u.1 u.1) ((Decides-int_eq u.0 u.0).1 refl) ((Decides-int_eq u.1 u.1).1 refl)

-- ---- lines

module _ (es : List Entry) (ls : List Line) (row : List Step) (k : ℕ) (l : Line) where
  pub line_parts : line_stands es ls row k l ≡ true → (f : Formula) × Formed es row k l.steps f × (is_unit (formula_unit (units es ls) f) l.unit ≡ true)
  line_parts e =
      let (x, y) = and_parts (formed es row k l.steps) (passes (formula (part row l.steps)) (λ f. is_unit (formula_unit (units es ls) f) l.unit)) e in
      let (f, w) = formed_parts es row k l.steps x in
      (f, w, sym (ap (λ o. passes o (λ f. is_unit (formula_unit (units es ls) f) l.unit)) w.2) ∙ y)

  pub line_from : (f : Formula) → Formed es row k l.steps f → is_unit (formula_unit (units es ls) f) l.unit ≡ true → line_stands es ls row k l ≡ true
  line_from f w u = and_from (formed es row k l.steps) (passes (formula (part row l.steps)) (λ f. is_unit (formula_unit (units es ls) f) l.unit)) (formed_from es row k l.steps f w) (ap (λ o. passes o (λ f. is_unit (formula_unit (units es ls) f) l.unit)) w.2 ∙ u)

pub lines_more : (es a : List Entry) (ls b : List Line) (row c : List Step) → LinesStand es ls row → (k : ℕ) (l : Line) → slice_get ls k ≡ Some l → line_stands (es ++ a) (ls ++ b) (row ++ c) k l ≡ true
lines_more es a ls b row c stand k l at =
    let in_List = slice_get_within ls k l at in
    let (f, w, u) = line_parts es ls row k l (stand k l at) in
    line_from (es ++ a) (ls ++ b) (row ++ c) k l f (formed_more es row k l.steps a c k f (omega arith) w) (ap (λ z. is_unit z l.unit) (unit_more es a ls b f k (omega arith) w.3) ∙ u)

pub reach_more : (es : List Entry) (ls b : List Line) (row c : List Step) (k : ℕ) (p : Span) (x : Named) → k ≤ length ls → formed es row k p ≡ true → part_reaches (ls ++ b) (row ++ c) p x ≡ part_reaches ls row p x
reach_more es ls b row c k p x h e =
    let (f, w) = formed_parts es row k p e in
    reaches_by (ls ++ b) (row ++ c) p f x (ap formula (part_more row c p w.0) ∙ w.2) ∙ any_more (length es) ls b f k x h w.3 ∙ sym (reaches_by ls row p f x w.2)

pub line_words_more : (es : List Entry) (ls b : List Line) (row c : List Step) → LinesStand es ls row → LineWords ls row → (k : ℕ) (x : Named) → k < length ls → line_has (slice_get (ls ++ b) k) x ≡ line_reaches (ls ++ b) (row ++ c) (slice_get (ls ++ b) k) x
line_words_more es ls b row c stand words k x h =
    let at = nth_more ls b k h in
    ap (λ o. line_has o x) at ∙ words k x ∙ go (slice_get ls k) refl ∙ sym (ap (λ o. line_reaches (ls ++ b) (row ++ c) o x) at)
  where
    go : (o : Option Line) → slice_get ls k ≡ o → line_reaches ls row o x ≡ line_reaches (ls ++ b) (row ++ c) o x
    go None e = refl
    go (Some l) e = let (f, w, u) = line_parts es ls row k l (stand k l e) in sym (reach_more es ls b row c k l.steps x (omega arith) (formed_from es row k l.steps f w))

module _ (es : List Entry) (ls : List Line) (row more : List Step) (l : Line) (f : Formula) where
  end : row ++ more ≡ row ++ (more ++ [])
  end = ap (λ r. row ++ r) (sym (append-nil more))

  new_line : more ≡ steps f → length more ≤ 120 → within (length es) (length ls) f ≡ true → l.steps ≡ record { start = length row; len = length more } → Formed es (row ++ more) (length ls) l.steps f
  new_line s h w e = formed_new es (row ++ more) row more [] (length ls) l.steps f end e s h w

  pub lines_push : LinesStand es ls row → more ≡ steps f → length more ≤ 120 → within (length es) (length ls) f ≡ true → l.steps ≡ record { start = length row; len = length more } → formula_unit (units es ls) f ≡ Ok l.unit → LinesStand es (ls ++ l ∷ []) (row ++ more)
  lines_push stand s h w e u =
      nth_push ls l (λ k o. (m : Line) → o ≡ Some m → line_stands es (ls ++ l ∷ []) (row ++ more) k m ≡ true) (λ k i m q. subst (λ z. line_stands z (ls ++ l ∷ []) (row ++ more) k m ≡ true) (append-nil es) (lines_more es [] ls (l ∷ []) row more stand k m (sym (nth_more ls (l ∷ []) k i) ∙ q))) (λ m q. let at : l ≡ m = cc q in subst (λ m. line_stands es (ls ++ l ∷ []) (row ++ more) (length ls) m ≡ true) at last) (λ k m q. absurd (cc))
    where
      last : line_stands es (ls ++ l ∷ []) (row ++ more) (length ls) l ≡ true
      last = line_from es (ls ++ l ∷ []) (row ++ more) (length ls) l f (new_line s h w e) (ap (λ z. is_unit z l.unit) (unit_lines es ls (l ∷ []) f (length ls) (omega arith) w ∙ u) ∙ same_unit_lem l.unit)

  pub line_words_push : LinesStand es ls row → LineWords ls row → more ≡ steps f → within (length es) (length ls) f ≡ true → l.steps ≡ record { start = length row; len = length more } → ((x : Named) → in_words l.needs x ≡ any_name (reaches ls x) f) → LineWords (ls ++ l ∷ []) (row ++ more)
  line_words_push stand words s w e new k x =
      nth_push ls l (λ k o. line_has o x ≡ line_reaches (ls ++ l ∷ []) (row ++ more) o x) (λ k i. line_words_more es ls (l ∷ []) row more stand words k x i) (new x ∙ sym (any_more (length es) ls (l ∷ []) f (length ls) x (omega arith) w) ∙ sym (reaches_by (ls ++ l ∷ []) (row ++ more) l.steps f x (formula_new (row ++ more) row more [] l.steps f end e s))) (λ k. refl) k

-- ---- rules

module _ (es : List Entry) (ls : List Line) (row : List Step) (r : Rule) where
  abbrev Agreeing : Formula → Formula → Bool
  Agreeing f g = agree r.root (formula_unit (units es ls) f) (formula_unit (units es ls) g)

  abbrev Right : Formula → Bool
  Right f = passes (formula (part row r.right)) (λ g. Agreeing f g)

  abbrev Left : Formula → Bool
  Left f = is_unit (formula_unit (units es ls) f) r.unit && Right f

  abbrev pub Sides : Formula → Formula → Type 0
  Sides f g = Formed es row (length ls) r.left f × Formed es row (length ls) r.right g × (is_unit (formula_unit (units es ls) f) r.unit ≡ true) × (agree r.root (formula_unit (units es ls) f) (formula_unit (units es ls) g) ≡ true)

  pub rule_parts : rule_stands es ls row r ≡ true → (f g : Formula) × Sides f g
  rule_parts e =
      let (x, y) = and_parts (formed es row (length ls) r.left && formed es row (length ls) r.right) (passes (formula (part row r.left)) Left) e in
      let (p, q) = and_parts (formed es row (length ls) r.left) (formed es row (length ls) r.right) x in
      let (f, v) = formed_parts es row (length ls) r.left p in
      let (g, w) = formed_parts es row (length ls) r.right q in
      let (u, z) = and_parts (is_unit (formula_unit (units es ls) f) r.unit) (Right f) (sym (ap (λ o. passes o Left) v.2) ∙ y) in
      (f, g, (v, w, u, sym (ap (λ o. passes o (Agreeing f)) w.2) ∙ z))

  pub rule_from : (f g : Formula) → Sides f g → rule_stands es ls row r ≡ true
  rule_from f g (v, w, u, z) =
      and_from (formed es row (length ls) r.left && formed es row (length ls) r.right) (passes (formula (part row r.left)) Left) (and_from (formed es row (length ls) r.left) (formed es row (length ls) r.right) (formed_from es row (length ls) r.left f v) (formed_from es row (length ls) r.right g w)) (ap (λ o. passes o Left) v.2 ∙ and_from (is_unit (formula_unit (units es ls) f) r.unit) (Right f) u (ap (λ o. passes o (Agreeing f)) w.2 ∙ z))

rule_more : (es a : List Entry) (ls b : List Line) (row c : List Step) (r : Rule) → rule_stands es ls row r ≡ true → rule_stands (es ++ a) (ls ++ b) (row ++ c) r ≡ true
rule_more es a ls b row c r e =
    let (f, g, (v, w, u, z)) = rule_parts es ls row r e in
    let long = length-append ls b in
    let x = unit_more es a ls b f (length ls) (omega arith) v.3 in
    let y = unit_more es a ls b g (length ls) (omega arith) w.3 in
    rule_from (es ++ a) (ls ++ b) (row ++ c) r f g (formed_more es row (length ls) r.left a c (length (ls ++ b)) f (omega arith) v, formed_more es row (length ls) r.right a c (length (ls ++ b)) g (omega arith) w, ap (λ z. is_unit z r.unit) x ∙ u, (λ i. agree r.root (x i) (y i)) ∙ z)

pub rules_more : (es a : List Entry) (ls b : List Line) (rs : List Rule) (row c : List Step) → RulesStand es ls rs row → RulesStand (es ++ a) (ls ++ b) rs (row ++ c)
rules_more es a ls b rs row c stand k r at = rule_more es a ls b row c r (stand k r at)

pub rule_words_more : (es : List Entry) (ls b : List Line) (rs : List Rule) (row c : List Step) → RulesStand es ls rs row → RuleWords ls rs row → RuleWords (ls ++ b) rs (row ++ c)
rule_words_more es ls b rs row c stand words k x = words k x ∙ go (slice_get rs k) refl
  where
    go : (o : Option Rule) → slice_get rs k ≡ o → rule_reaches ls row o x ≡ rule_reaches (ls ++ b) (row ++ c) o x
    go None e = refl
    go (Some r) e =
        let (f, g, (v, w, u, z)) = rule_parts es ls row r (stand k r e) in
        let left = reach_more es ls b row c (length ls) r.left x (omega arith) (formed_from es row (length ls) r.left f v) in
        let right = reach_more es ls b row c (length ls) r.right x (omega arith) (formed_from es row (length ls) r.right g w) in
        sym (λ i. left i || right i)

module _ (es : List Entry) (ls : List Line) (rs : List Rule) (row left right : List Step) (r : Rule) (f g : Formula) where
  behind : row ++ (left ++ right) ≡ (row ++ left) ++ (right ++ [])
  behind = sym (append_assoc row left right) ∙ ap (λ z. (row ++ left) ++ z) (sym (append-nil right))

  place : r.right ≡ record { start = length row + length left; len = length right } → r.right ≡ record { start = length (row ++ left); len = length right }
  place q = q ∙ ap (λ (n : ℕ). record { start = n; len = length right }) (sym (length-append row left))

  pub rules_push : (b : ℤ × ℤ) → RulesStand es ls rs row → left ≡ steps f → right ≡ steps g → length left ≤ 120 → length right ≤ 120 → within (length es) (length ls) f ≡ true → within (length es) (length ls) g ≡ true → r.left ≡ record { start = length row; len = length left } → r.right ≡ record { start = length row + length left; len = length right } → formula_unit (units es ls) f ≡ Ok r.unit → formula_unit (units es ls) g ≡ Ok b → sides_agree r.root r.unit b ≡ true → RulesStand es ls (rs ++ r ∷ []) (row ++ (left ++ right))
  rules_push b stand s t h j v w p q x y z =
      nth_push rs r (λ k o. (m : Rule) → o ≡ Some m → rule_stands es ls (row ++ (left ++ right)) m ≡ true) (λ k i m e. sym (λ i. rule_stands (append-nil es i) (append-nil ls i) (row ++ (left ++ right)) m) ∙ rule_more es [] ls [] row (left ++ right) m (stand k m (sym (nth_more rs (r ∷ []) k i) ∙ e))) (λ m e. let at : r ≡ m = cc e in subst (λ m. rule_stands es ls (row ++ (left ++ right)) m ≡ true) at last) (λ k m e. absurd (cc))
    where
      last : rule_stands es ls (row ++ (left ++ right)) r ≡ true
      last = rule_from es ls (row ++ (left ++ right)) r f g (formed_new es (row ++ (left ++ right)) row left right (length ls) r.left f refl p s h v, formed_new es (row ++ (left ++ right)) (row ++ left) right [] (length ls) r.right g behind (place q) t j w, ap (λ a. is_unit a r.unit) x ∙ same_unit_lem r.unit, (λ i. agree r.root (x i) (y i)) ∙ z)

  pub rule_words_push : RulesStand es ls rs row → RuleWords ls rs row → left ≡ steps f → right ≡ steps g → r.left ≡ record { start = length row; len = length left } → r.right ≡ record { start = length row + length left; len = length right } → ((x : Named) → in_words r.needs x ≡ (any_name (reaches ls x) f || any_name (reaches ls x) g)) → RuleWords ls (rs ++ r ∷ []) (row ++ (left ++ right))
  rule_words_push stand words s t p q new k x =
      nth_push rs r (λ k o. rule_has o x ≡ rule_reaches ls (row ++ (left ++ right)) o x) old last (λ k. refl) k
    where
      old : (k : ℕ) → k < length rs → rule_has (slice_get (rs ++ r ∷ []) k) x ≡ rule_reaches ls (row ++ (left ++ right)) (slice_get (rs ++ r ∷ []) k) x
      old k i = subst (λ o. rule_has o x ≡ rule_reaches ls (row ++ (left ++ right)) o x) (sym (nth_more rs (r ∷ []) k i)) (subst (λ z. rule_has (slice_get rs k) x ≡ rule_reaches z (row ++ (left ++ right)) (slice_get rs k) x) (append-nil ls) (rule_words_more es ls [] rs row (left ++ right) stand words k x))

      last : in_words r.needs x ≡ (part_reaches ls (row ++ (left ++ right)) r.left x || part_reaches ls (row ++ (left ++ right)) r.right x)
      last =
          let y = reaches_by ls (row ++ (left ++ right)) r.left f x (formula_new (row ++ (left ++ right)) row left right r.left f refl p s) in
          let z = reaches_by ls (row ++ (left ++ right)) r.right g x (formula_new (row ++ (left ++ right)) (row ++ left) right [] r.right g behind (place q) t) in
          new x ∙ sym (λ i. y i || z i)

-- ---- names

position_inside : {X : Type 0} (p : X → Bool) (xs : List X) (i : ℕ) → position p xs ≡ Some i → i < length xs
position_inside p xs i e =
    let h = cond_some _ _ _ e in
    subst (λ n. n < length xs) h.1 (ltb-true _ _ h.0)

module _ (e k : ℕ) where
  found_inside : (x y : Option ℕ) (z : Bool) (f : Formula) → ((i : ℕ) → x ≡ Some i → i < e) → ((i : ℕ) → y ≡ Some i → i < k) → operand (option_or (option_map (λ n. declared.Entry n) x) (option_or (option_map (λ n. declared.Line n) y) (then_some z declared.Rule))) ≡ Some f → within e k f ≡ true
  found_inside (Some i) y z f a b q = let at : Formula.name (entry i) ≡ f = cc q in subst (λ f. within e k f ≡ true) at (lt-ltb i e (a i refl))
  found_inside None (Some i) z f a b q = let at : Formula.name (line i) ≡ f = cc q in subst (λ f. within e k f ≡ true) at (lt-ltb i k (b i refl))
  found_inside None None true f a b q = cc
  found_inside None None false f a b q = cc

  both_within : (o : Op) (x y : Option Formula) (f : Formula) → ((g : Formula) → x ≡ Some g → within e k g ≡ true) → ((g : Formula) → y ≡ Some g → within e k g ≡ true) → join_both o x y ≡ Some f → within e k f ≡ true
  both_within o None y f a b q = cc
  both_within o (Some g) None f a b q = cc
  both_within o (Some g) (Some h) f a b q =
      let at : Formula.join o g h ≡ f = cc q in
      subst (λ f. within e k f ≡ true) at (and_from (within e k g) (within e k h) (a g refl) (b h refl))

-- the formula of a tree
pub within_of : (es : List Entry) (ls : List Line) (rs : List Rule) (t : Tree) (f : Formula) → Counts t → formula_of (found es ls rs) t ≡ Some f → within (length es) (length ls) f ≡ true
within_of es ls rs (Tree.number n u) f c q = let at : Formula.number n u ≡ f = cc q in subst (λ f. within (length es) (length ls) f ≡ true) at (lt-ltb n 1000000000 c)
within_of es ls rs (Tree.name w) f c q =
    let is_entry = λ (e : Entry). bytes_eq (text_of e.name) w in
    let is_line = λ (l : Line). bytes_eq (text_of l.name) w in
    found_inside (length es) (length ls) (position is_entry es) (position is_line ls) (list_any (λ (r : Rule). bytes_eq (text_of r.name) w) rs) f (position_inside is_entry es) (position_inside is_line ls) q
within_of es ls rs (Tree.join o t u) f c q = both_within (length es) (length ls) o (formula_of (found es ls rs) t) (formula_of (found es ls rs) u) f (λ g h. within_of es ls rs t g c.0 h) (λ g h. within_of es ls rs u g c.1 h) q
