-- What holds of every book, over its lists.
use Rattle.std.specs.Prelude.{◌≡◌, ℕ, ◌+◌, Bool, true, false, ◌&&◌, ◌||◌, List, length, take, drop, ℤ, pos, Some, None, Ok, Err, Option, Result, nat_le, nat_lt, ◌≤◌}
use Rattle.std.specs.Option.{option_and_then, option_map_or}
use Rattle.std.specs.List.{slice_get}
use Rattle.books.specs.declared.refusal.Refusal.{Refusal}
use Rattle.books.specs.declared.step.Entry.{Entry}
use Rattle.books.specs.declared.step.Line.{Line}
use Rattle.books.specs.declared.step.Rule.{Rule}
use Rattle.books.specs.declared.step.Span.{Span}
use Rattle.books.specs.declared.step.Step.{Step}
use Rattle.books.specs.Formulas.{Named, entry, line, Formula, formula}
use Rattle.books.specs.Needs.{in_words, line_has, reaches, any_name}
use Rattle.books.specs.Units.{formula_unit, same_unit, sides_agree}

-- what a book holds: its entries, lines and rules, and the steps of all formulas
pub record Lists : Type 0 where
  pub entries : List Entry
  pub lines : List Line
  pub rules : List Rule
  pub steps : List Step

-- the steps of a part
abbrev pub part : List Step → Span → List Step
part row p = take p.len (drop p.start row)

-- the unit of each name
abbrev pub units : List Entry → List Line → Named → ℤ × ℤ
units es ls (entry i) = option_map_or (λ (e : Entry). e.unit) (slice_get es i) (pos 0, pos 0)
units es ls (line k) = option_map_or (λ (l : Line). l.unit) (slice_get ls k) (pos 0, pos 0)

-- the formula of each line
abbrev pub formulas : List Step → List Line → ℕ → Option Formula
formulas row ls k = option_and_then (λ (l : Line). formula (part row l.steps)) (slice_get ls k)

-- names stand for entries below e and lines below k, and numbers are below a million
abbrev pub within : ℕ → ℕ → Formula → Bool
within e k (Formula.number c u) = nat_lt c 1000000000
within e k (Formula.name (entry i)) = nat_lt i e
within e k (Formula.name (line j)) = nat_lt j k
within e k (Formula.join o f g) = within e k f && within e k g

-- the unit is the one that was found
abbrev pub is_unit : Result (ℤ × ℤ) Refusal → ℤ × ℤ → Bool
is_unit (Ok a) u = same_unit a u
is_unit (Err e) u = false

-- there is a formula, and it passes the test
abbrev pub passes : Option Formula → (Formula → Bool) → Bool
passes None test = false
passes (Some f) test = test f

-- a part lies among the steps, has at most 120, and is the steps of a formula over entries and the first k lines
abbrev pub formed : List Entry → List Step → ℕ → Span → Bool
formed es row k p = nat_le (p.start + p.len) (length row) && (nat_le p.len 120 && passes (formula (part row p)) (within (length es) k))

-- the line k is such a formula, over the lines before it, and has its unit
abbrev pub line_stands : List Entry → List Line → List Step → ℕ → Line → Bool
line_stands es ls row k l = formed es row k l.steps && passes (formula (part row l.steps)) (λ f. is_unit (formula_unit (units es ls) f) l.unit)

-- both sides of a rule have a unit, and these agree
abbrev pub agree : Bool → Result (ℤ × ℤ) Refusal → Result (ℤ × ℤ) Refusal → Bool
agree root (Ok a) (Ok b) = sides_agree root a b
agree root (Ok a) (Err e) = false
agree root (Err e) b = false

-- the sides of a rule are such formulas, and their units agree
abbrev pub rule_stands : List Entry → List Line → List Step → Rule → Bool
rule_stands es ls row r =
    (formed es row (length ls) r.left && formed es row (length ls) r.right) && passes (formula (part row r.left)) (λ f. is_unit (formula_unit (units es ls) f) r.unit && passes (formula (part row r.right)) (λ g. agree r.root (formula_unit (units es ls) f) (formula_unit (units es ls) g)))

-- x is named by the part, or in the words of a line that it names
abbrev pub part_reaches : List Line → List Step → Span → Named → Bool
part_reaches ls row p x = passes (formula (part row p)) (any_name (reaches ls x))

-- ---- what holds of every book

-- every line stands
abbrev pub LinesStand : List Entry → List Line → List Step → Type 0
LinesStand es ls row = (k : ℕ) (l : Line) → slice_get ls k ≡ Some l → line_stands es ls row k l ≡ true

-- x is named by the line, if there is one, or in the words of a line that it names
abbrev pub line_reaches : List Line → List Step → Option Line → Named → Bool
line_reaches ls row None x = false
line_reaches ls row (Some l) x = part_reaches ls row l.steps x

-- a line's words are what its formula names, with the words of the lines among them
abbrev pub LineWords : List Line → List Step → Type 0
LineWords ls row = (k : ℕ) (x : Named) → line_has (slice_get ls k) x ≡ line_reaches ls row (slice_get ls k) x

-- every rule stands
abbrev pub RulesStand : List Entry → List Line → List Rule → List Step → Type 0
RulesStand es ls rs row = (k : ℕ) (r : Rule) → slice_get rs k ≡ Some r → rule_stands es ls row r ≡ true

-- so for a rule, with both its sides: x is in its words
abbrev pub rule_has : Option Rule → Named → Bool
rule_has None x = false
rule_has (Some r) x = in_words r.needs x

-- x is named by a side, or in the words of a line that a side names
abbrev pub rule_reaches : List Line → List Step → Option Rule → Named → Bool
rule_reaches ls row None x = false
rule_reaches ls row (Some r) x = part_reaches ls row r.left x || part_reaches ls row r.right x

-- a rule's words are that
abbrev pub RuleWords : List Line → List Rule → List Step → Type 0
RuleWords ls rs row = (k : ℕ) (x : Named) → rule_has (slice_get rs k) x ≡ rule_reaches ls row (slice_get rs k) x

-- all that, and that a book has at most 64 of each, whose numbers are then below 64, as sets of 64 numbers hold them, and 1,024 steps
pub record Stands (d : Lists) : Type 0 where
  pub few_entries : length d.entries ≤ 64
  pub few_lines : length d.lines ≤ 64
  pub few_rules : length d.rules ≤ 64
  pub few_steps : length d.steps ≤ 1024
  pub lines_stand : LinesStand d.entries d.lines d.steps
  pub line_words : LineWords d.lines d.steps
  pub rules_stand : RulesStand d.entries d.lines d.rules d.steps
  pub rule_words : RuleWords d.lines d.rules d.steps
