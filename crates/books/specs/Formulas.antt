-- Formulas over a book, their steps, and the formula that a tree of names and numbers is.
use Rattle.std.specs.Prelude.{ℕ, List, [], ◌∷◌, ◌++◌, ℤ, Some, None, Option}
use Rattle.std.specs.Option.{option_and_then, option_map}
use Rattle.lines.specs.declared.reader.Op.{Op}
use Rattle.lines.specs.Grammar.{Tree}
use Rattle.books.specs.declared.step.Declared.{Declared}
use Rattle.books.specs.declared.step.Declared.TheVariants as declared
use Rattle.books.specs.declared.step.Step.{Step}
use Rattle.books.specs.declared.step.Step.TheVariants as step

-- an entry or a line of a book, by its number
pub data Named : Type 0 where
  entry line : ℕ → Named

-- a formula over a book: a number's count of thousandths with its unit, an entry or a line, or two formulas joined
pub data Formula : Type 0 where
  number : ℕ → ℤ × ℤ → Formula
  name : Named → Formula
  join : Op → Formula → Formula → Formula

-- its steps, signs after their operands
abbrev pub name_step : Named → Step
name_step (entry i) = step.Entry i
name_step (line k) = step.Line k

abbrev pub steps : Formula → List Step
steps (Formula.number c u) = step.Number c u ∷ []
steps (Formula.name x) = name_step x ∷ []
steps (Formula.join o f g) = steps f ++ (steps g ++ (step.Op o ∷ []))

-- the formula that a row of steps ends in, where the formulas fs wait for a sign, the newest first
abbrev pub built : List Step → List Formula → Option Formula
built [] [] = None
built [] (f ∷ []) = Some f
built [] (f ∷ (g ∷ fs)) = None
built (step.Number c u ∷ row) fs = built row (Formula.number c u ∷ fs)
built (step.Entry i ∷ row) fs = built row (Formula.name (entry i) ∷ fs)
built (step.Line k ∷ row) fs = built row (Formula.name (line k) ∷ fs)
built (step.Op o ∷ row) [] = None
built (step.Op o ∷ row) (g ∷ []) = None
built (step.Op o ∷ row) (g ∷ (f ∷ fs)) = built row (Formula.join o f g ∷ fs)

-- the formula whose steps a row is, if it is one's
abbrev pub formula : List Step → Option Formula
formula row = built row []

-- a rule is no operand
abbrev pub operand : Option Declared → Option Formula
operand None = None
operand (Some (declared.Entry i)) = Some (Formula.name (entry i))
operand (Some (declared.Line k)) = Some (Formula.name (line k))
operand (Some declared.Rule) = None

abbrev pub join_both : Op → Option Formula → Option Formula → Option Formula
join_both o x y = option_and_then (λ f. option_map (λ g. Formula.join o f g) y) x

-- the formula of a tree, if all its names are known
abbrev pub formula_of : (List ℕ → Option Declared) → Tree → Option Formula
formula_of look (Tree.number n u) = Some (Formula.number n u)
formula_of look (Tree.name w) = operand (look w)
formula_of look (Tree.join o t u) = join_both o (formula_of look t) (formula_of look u)
