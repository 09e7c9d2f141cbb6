-- Names, and the steps of a formula with its names looked up.
use Rattle.std.specs.Prelude.{ℕ, List, [], ◌∷◌, take, Some, None, Option}
use Rattle.std.specs.Bool.{then_some}
use Rattle.std.specs.List.{list_any, position}
use Rattle.std.specs.Option.{option_map, option_or}
use Rattle.std.specs.Str.{bytes_eq}
use Rattle.lines.specs.Grammar.{Item}
use Rattle.books.specs.declared.name.Name.{Name}
use Rattle.books.specs.declared.step.Declared.{Declared}
use Rattle.books.specs.declared.step.Declared.TheVariants as declared
use Rattle.books.specs.declared.step.Entry.{Entry}
use Rattle.books.specs.declared.step.Line.{Line}
use Rattle.books.specs.declared.step.Rule.{Rule}
use Rattle.books.specs.declared.step.Step.{Step}
use Rattle.books.specs.declared.step.Step.TheVariants as step

-- the letters and digits of a name
abbrev pub text_of : Name → List ℕ
text_of n = take n.len n.bytes

-- what the name w stands for: an entry, a line or a rule, and the first of these that has it
abbrev pub found : List Entry → List Line → List Rule → List ℕ → Option Declared
found es ls rs w =
    option_or (option_map (λ n. declared.Entry n) (position (λ (e : Entry). bytes_eq (text_of e.name) w) es)) (option_or (option_map (λ n. declared.Line n) (position (λ (l : Line). bytes_eq (text_of l.name) w) ls)) (then_some (list_any (λ (r : Rule). bytes_eq (text_of r.name) w) rs) declared.Rule))

-- the step of an entry or a line; a rule is no operand
abbrev pub known : Option Declared → Option Step
known None = None
known (Some (declared.Entry i)) = Some (step.Entry i)
known (Some (declared.Line k)) = Some (step.Line k)
known (Some declared.Rule) = None

-- the step, if its name is known
abbrev pub step_of : (List ℕ → Option Declared) → Item → Option Step
step_of look (Item.number n u) = Some (step.Number n u)
step_of look (Item.name w) = known (look w)
step_of look (Item.join o) = Some (step.Op o)

abbrev pub join : Option Step → Option (List Step) → Option (List Step)
join None o = None
join (Some s) o = option_map (λ ss. s ∷ ss) o

-- all steps, if all names are known
abbrev pub resolved : (List ℕ → Option Declared) → List Item → Option (List Step)
resolved look [] = Some []
resolved look (x ∷ xs) = join (step_of look x) (resolved look xs)
