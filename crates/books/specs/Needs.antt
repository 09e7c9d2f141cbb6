-- What a formula needs: the entries and lines that it names, and all that those lines need.
use Rattle.std.specs.Prelude.{◌≡◌, ℕ, Bool, false, ◌&&◌, ◌||◌, ◌⊎◌, List, Some, None, Option, ◌==◌, nat_lt}
use Rattle.std.specs.List.{list_any, slice_get}
use Rattle.sets.specs.Members.{has}
use Rattle.books.specs.declared.step.Line.{Line}
use Rattle.books.specs.declared.step.Needs.{Needs}
use Rattle.books.specs.declared.step.Step.{Step}
use Rattle.books.specs.declared.step.Step.TheVariants as step
use Rattle.books.specs.Formulas.{Named, entry, line, Formula}

-- the formula names x
abbrev pub Names : Formula → Named → Type 0
Names (Formula.number c u) x = ⊥
Names (Formula.name y) x = y ≡ x
Names (Formula.join o f g) x = Names f x ⊎ Names g x

-- x is named by the formula, or by a line that the formula needs
pub data Needed (lines : ℕ → Option Formula) (f : Formula) : Named → Type 0 where
  named : {x : Named} → Names f x → Needed lines f x
  through : {k : ℕ} {g : Formula} {x : Named} → Needed lines f (line k) → lines k ≡ Some g → Names g x → Needed lines f x

-- x is in the two words
abbrev pub in_words : Needs → Named → Bool
in_words n (entry e) = has n.entries e
in_words n (line k) = has n.lines k

abbrev pub same : Named → Named → Bool
same (entry i) (entry j) = i == j
same (entry i) (line j) = false
same (line i) (entry j) = false
same (line i) (line j) = i == j

-- x is in the words of the line, if there is one
abbrev pub line_has : Option Line → Named → Bool
line_has None x = false
line_has (Some l) x = in_words l.needs x

-- y is x, or a line in whose words x is
abbrev pub reaches : List Line → Named → Named → Bool
reaches ls x (entry i) = same (entry i) x
reaches ls x (line k) = same (line k) x || line_has (slice_get ls k) x

-- some name of a formula passes the test
abbrev pub any_name : (Named → Bool) → Formula → Bool
any_name p (Formula.number c u) = false
any_name p (Formula.name x) = p x
any_name p (Formula.join o f g) = any_name p f || any_name p g

-- the same on steps: a step needs entry e, or line k; numbers are below 64
abbrev pub step_entry : List Line → Step → ℕ → Bool
step_entry ls (step.Number c u) e = false
step_entry ls (step.Entry i) e = nat_lt i 64 && e == i
step_entry ls (step.Line i) e = line_has (slice_get ls i) (entry e)
step_entry ls (step.Op o) e = false

abbrev pub step_line : List Line → Step → ℕ → Bool
step_line ls (step.Number c u) k = false
step_line ls (step.Entry i) k = false
step_line ls (step.Line i) k = (nat_lt i 64 && k == i) || line_has (slice_get ls i) (line k)
step_line ls (step.Op o) k = false

-- a row of steps needs entry e, or line k
abbrev pub row_entry : List Line → List Step → ℕ → Bool
row_entry ls row e = list_any (λ s. step_entry ls s e) row

abbrev pub row_line : List Line → List Step → ℕ → Bool
row_line ls row k = list_any (λ s. step_line ls s k) row
