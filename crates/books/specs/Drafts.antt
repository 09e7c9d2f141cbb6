-- What adding a line does to a book: the refusal by the table's order, or what stands at the end of the lists.
use Rattle.std.specs.Prelude.{◌≡◌, ℕ, ◌+◌, ◌≤◌, Bool, true, cond, ◌&&◌, ◌⊎◌, List, [], ◌∷◌, ◌++◌, length, ℤ, Some, None, Ok, Err, Decides, Option, Result, nat_le, nat_lt}
use Rattle.std.specs.Option.{option_map, option_map_or, option_or}
use Rattle.std.specs.Result.{result_err}
use Rattle.std.specs.List.{slice_get}
use Rattle.lines.specs.declared.refusal.Refusal.{Refusal as Unread}
use Rattle.lines.specs.declared.refusal.Refusal.TheVariants as unread
use Rattle.lines.specs.Grammar.{Tree, Stated, Line as IsLine}
use Rattle.lines.specs.Tokens.{parts}
use Rattle.lines.specs.Faults.{Refused, Shallow}
use Rattle.lines.specs.Reading.{plain}
use Rattle.books.specs.declared.book.Book.{Book}
use Rattle.books.specs.declared.name.Name.{Name}
use Rattle.books.specs.declared.refusal.Refusal.{Refusal}
use Rattle.books.specs.declared.refusal.Refusal.TheVariants as refusal
use Rattle.books.specs.declared.step.Declared.{Declared}
use Rattle.books.specs.declared.step.Line.{Line}
use Rattle.books.specs.declared.step.Rule.{Rule}
use Rattle.books.specs.declared.step.Needs.{Needs}
use Rattle.books.specs.declared.step.Step.{Step}
use Rattle.books.specs.Names.{text_of, found}
use Rattle.books.specs.Formulas.{Named, Formula, steps, formula_of}
use Rattle.books.specs.Needs.{Needed, in_words}
use Rattle.books.specs.Units.{formula_unit, sides_agree}
use Rattle.books.specs.Books.{Lists, part, units, formulas, within}

-- the lists of a book
abbrev pub lists_of : Book → Lists
lists_of b = record { entries = b.entries; lines = b.lines; rules = b.rules; steps = b.steps }

-- an empty book
abbrev pub nothing : Lists
nothing = record { entries = []; lines = []; rules = []; steps = [] }

-- what a name stands for in a book
abbrev pub look_in : Lists → List ℕ → Option Declared
look_in d = found d.entries d.lines d.rules

-- the unit of a formula in a book
abbrev pub unit_in : Lists → Formula → Result (ℤ × ℤ) Refusal
unit_in d f = formula_unit (units d.entries d.lines) f

-- 6: the name is in use
abbrev pub taken : Lists → List ℕ → Option Refusal
taken d n = option_map (λ _. refusal.Taken) (look_in d n)

-- 5: a name is unknown; or what comes then
abbrev pub knowing : Lists → Tree → (Formula → Option Refusal) → Option Refusal
knowing d t k = option_map_or k (formula_of (look_in d) t) (Some refusal.Unknown)

-- 7 and 8, of the first step
abbrev pub unfit : Lists → Formula → Option Refusal
unfit d f = result_err (unit_in d f)

-- 7, of the sides of a rule
abbrev pub apart : Bool → Result (ℤ × ℤ) Refusal → Result (ℤ × ℤ) Refusal → Option Refusal
apart root (Ok a) (Ok b) = cond (sides_agree root a b) None (Some refusal.Units)
apart root (Ok a) (Err e) = None
apart root (Err e) b = None

-- one more of a kind, after `count`, and so many steps more fit
abbrev pub fits : Lists → ℕ → ℕ → Bool
fits d count more = nat_lt count 64 && nat_le (length d.steps + more) 1024

-- 9: a 65th of a kind, or a 1,025th step
abbrev pub full : Lists → ℕ → ℕ → Option Refusal
full d count more = cond (fits d count more) None (Some refusal.Full)

-- the first refusal of an entry, and of what a line states, in the table's order
abbrev pub refusal_of_entry : Lists → List ℕ → Option Refusal
refusal_of_entry d n = option_or (taken d n) (full d (length d.entries) 0)

abbrev pub refusal_of : Lists → Stated → Option Refusal
refusal_of d Stated.blank = None
refusal_of d (Stated.entry n u) = refusal_of_entry d n
refusal_of d (Stated.line n t) = option_or (taken d n) (knowing d t (λ f. option_or (unfit d f) (full d (length d.lines) (length (steps f)))))
refusal_of d (Stated.rule n root t u) =
    option_or (taken d n) (knowing d t (λ f. knowing d u (λ g. option_or (unfit d f) (option_or (unfit d g) (option_or (apart root (unit_in d f) (unit_in d g)) (full d (length d.rules) (length (steps f) + length (steps g))))))))

-- a line that is not refused: its formula's steps are `row`, its unit is u
pub record LineChecked (d : Lists) (n : List ℕ) (t : Tree) (row : List Step) (u : ℤ × ℤ) : Type 0 where
  pub f : Formula
  pub known : formula_of (look_in d) t ≡ Some f
  pub is_row : row ≡ steps f
  pub has_unit : unit_in d f ≡ Ok u
  pub room : fits d (length d.lines) (length row) ≡ true
  pub unrefused : refusal_of d (Stated.line n t) ≡ None

-- a rule that is not refused: its sides' steps are `left` and `right`, its left side's unit is a
pub record RuleChecked (d : Lists) (n : List ℕ) (root : Bool) (t u : Tree) (left right : List Step) (a : ℤ × ℤ) : Type 0 where
  pub f : Formula
  pub g : Formula
  pub known_left : formula_of (look_in d) t ≡ Some f
  pub known_right : formula_of (look_in d) u ≡ Some g
  pub is_left : left ≡ steps f
  pub is_right : right ≡ steps g
  pub left_unit : unit_in d f ≡ Ok a
  pub b : ℤ × ℤ
  pub right_unit : unit_in d g ≡ Ok b
  pub agrees : sides_agree root a b ≡ true
  pub room : fits d (length d.rules) (length (steps f) + length (steps g)) ≡ true
  pub unrefused : refusal_of d (Stated.rule n root t u) ≡ None

-- the words are what the formula, or one of two formulas, needs
abbrev pub Words : Needs → (Named → Type 0) → Type 0
Words n P = (x : Named) → Decides (in_words n x) (P x)

-- the formula needs x, through the lines of the book
abbrev pub NeededIn : Lists → Formula → Named → Type 0
NeededIn d f x = Needed (formulas d.steps d.lines) f x

-- the lists with an entry, a line or a rule at the end
abbrev pub with_entry : Lists → Name → ℤ × ℤ → Lists
with_entry d name u =
    record { entries = d.entries ++ record { name = name; unit = u } ∷ []; lines = d.lines; rules = d.rules; steps = d.steps }

abbrev pub with_line : Lists → Name → ℤ × ℤ → Needs → List Step → Lists
with_line d name u needs row =
    record { entries = d.entries; lines = d.lines ++ record { name = name; unit = u; steps = record { start = length d.steps; len = length row }; needs = needs } ∷ []; rules = d.rules; steps = d.steps ++ row }

abbrev pub with_rule : Lists → Name → Bool → ℤ × ℤ → Needs → List Step → List Step → Lists
with_rule d name root u needs left right =
    record { entries = d.entries; lines = d.lines; rules = d.rules ++ record { name = name; root = root; unit = u; left = record { start = length d.steps; len = length left }; right = record { start = length d.steps + length left; len = length right }; needs = needs } ∷ []; steps = d.steps ++ (left ++ right) }

-- two rows are the sides of a rule over the book: formulas within it, whose units agree
pub record RuleSides (d : Lists) (root : Bool) (unit : ℤ × ℤ) (left right : List Step) : Type 0 where
  pub f : Formula
  pub g : Formula
  pub is_left : left ≡ steps f
  pub is_right : right ≡ steps g
  pub left_within : within (length d.entries) (length d.lines) f ≡ true
  pub right_within : within (length d.entries) (length d.lines) g ≡ true
  pub left_unit : unit_in d f ≡ Ok unit
  pub other : ℤ × ℤ
  pub right_unit : unit_in d g ≡ Ok other
  pub agrees : sides_agree root unit other ≡ true

-- `Grows d s d'`: d' is d with what s states at the end, and nothing else
pub data Grows (d : Lists) : Stated → Lists → Type 0 where
  blank : Grows d Stated.blank d
  entry : (name : Name) {u : ℤ × ℤ} → length (text_of name) ≤ 16 → Grows d (Stated.entry (text_of name) u) (with_entry d name u)
  line : (name : Name) (needs : Needs) {t : Tree} {f : Formula} {u : ℤ × ℤ} → length (text_of name) ≤ 16 → formula_of (look_in d) t ≡ Some f → unit_in d f ≡ Ok u → Words needs (NeededIn d f) → Grows d (Stated.line (text_of name) t) (with_line d name u needs (steps f))
  rule : (name : Name) (needs : Needs) {root : Bool} {t u : Tree} {f g : Formula} {a : ℤ × ℤ} → length (text_of name) ≤ 16 → formula_of (look_in d) t ≡ Some f → formula_of (look_in d) u ≡ Some g → unit_in d f ≡ Ok a → Words needs (λ x. NeededIn d f x ⊎ NeededIn d g x) → Grows d (Stated.rule (text_of name) root t u) (with_rule d name root a needs (steps f) (steps g))

-- the refusals of the reader are refusals of a book
abbrev pub of_reader : Unread → Refusal
of_reader unread.Text = refusal.Text
of_reader unread.Grammar = refusal.Grammar
of_reader unread.Nesting = refusal.Nesting
of_reader unread.Digits = refusal.Digits

-- a line states s: its text is plain, at most 16 parentheses are open, and by the grammar its parts are a line that does
abbrev pub Reads : List ℕ → Stated → Type 0
Reads text s = (plain text ≡ true) × Shallow (parts text) × IsLine (parts text) s

-- adding what is stated gives r and leaves d': grown by it, or as it was
abbrev pub Settles : Lists → Stated → Result (Unit {0}) Refusal → Lists → Type 0
Settles d s (Ok x) d' = (refusal_of d s ≡ None) × Grows d s d'
Settles d s (Err e) d' = (refusal_of d s ≡ Some e) × (d' ≡ d)

-- a line that the reader refuses gives that refusal, and leaves the book as it was
abbrev pub Unadded : Lists → Unread → Result (Unit {0}) Refusal → Lists → Type 0
Unadded d u r d' = (r ≡ Err (of_reader u)) × (d' ≡ d)

-- adding a line to the book d gives r and leaves d'
abbrev pub Adds : Lists → List ℕ → Result (Unit {0}) Refusal → Lists → Type 0
Adds d text r d' = ((s : Stated) × Reads text s × Settles d s r d') ⊎ ((u : Unread) × Refused text u × Unadded d u r d')

-- ---- what holds of a closed book, in the words of formulas

-- the line k: the steps of a formula over entries and earlier lines, with its unit and what it needs
pub record LineHolds (d : Lists) (k : ℕ) (l : Line) : Type 0 where
  pub f : Formula
  pub is_steps : part d.steps l.steps ≡ steps f
  pub inside : within (length d.entries) k f ≡ true
  pub has_unit : unit_in d f ≡ Ok l.unit
  pub words : Words l.needs (NeededIn d f)

-- a rule: the steps of two formulas over entries and lines, whose units agree, and what they need
pub record RuleHolds (d : Lists) (r : Rule) : Type 0 where
  pub f : Formula
  pub g : Formula
  pub is_left : part d.steps r.left ≡ steps f
  pub is_right : part d.steps r.right ≡ steps g
  pub left_inside : within (length d.entries) (length d.lines) f ≡ true
  pub right_inside : within (length d.entries) (length d.lines) g ≡ true
  pub left_unit : unit_in d f ≡ Ok r.unit
  pub other : ℤ × ℤ
  pub right_unit : unit_in d g ≡ Ok other
  pub agrees : sides_agree r.root r.unit other ≡ true
  pub words : Words r.needs (λ x. NeededIn d f x ⊎ NeededIn d g x)

-- every line holds, and every rule
abbrev pub LinesHold : Lists → Type 0
LinesHold d = (k : ℕ) (l : Line) → slice_get d.lines k ≡ Some l → LineHolds d k l

abbrev pub RulesHold : Lists → Type 0
RulesHold d = (k : ℕ) (r : Rule) → slice_get d.rules k ≡ Some r → RuleHolds d r

abbrev pub Whole : Lists → Type 0
Whole d = LinesHold d × RulesHold d

-- the line k depends on x: the formula of its steps needs x
abbrev pub LineDepends : Lists → ℕ → Named → Type 0
LineDepends d k x = (l : Line) × (slice_get d.lines k ≡ Some l) × (f : Formula) × (part d.steps l.steps ≡ steps f) × NeededIn d f x

-- the same of the rule k, with either side
abbrev pub RuleDepends : Lists → ℕ → Named → Type 0
RuleDepends d k x = (r : Rule) × (slice_get d.rules k ≡ Some r) × (f : Formula) × ((part d.steps r.left ≡ steps f) ⊎ (part d.steps r.right ≡ steps f)) × NeededIn d f x
