-- Units as pairs of exponents, of inch and of kip.
use Rattle.std.specs.Prelude.{◌≡◌, Bool, if◌then◌else◌, ◌&&◌, ◌⊎◌, List, [], ◌∷◌, ◌++◌, ℤ, pos, negsuc, ◌+ℤ◌, ◌-ℤ◌, Ok, Err, Option, Result, int_le, SomeIff, FitsSigned}
use Rattle.std.specs.Int.{w8}
use Rattle.std.specs.Ordering.{int_eq}
use Rattle.lines.specs.declared.reader.Op.{Op}
use Rattle.lines.specs.declared.reader.Op.TheVariants as op
use Rattle.books.specs.declared.refusal.Refusal.{Refusal}
use Rattle.books.specs.declared.refusal.Refusal.TheVariants as refusal
use Rattle.books.specs.declared.step.Step.{Step}
use Rattle.books.specs.declared.step.Step.TheVariants as step
use Rattle.books.specs.Formulas.{Named, entry, line, Formula}

-- an exponent from -12 to 12
abbrev pub small : ℤ → Bool
small x = int_le (negsuc 11) x && int_le x (pos 12)

-- both exponents are
abbrev pub small_unit : ℤ × ℤ → Bool
small_unit u = small u.0 && small u.1

-- two units are equal
abbrev pub same_unit : ℤ × ℤ → ℤ × ℤ → Bool
same_unit a b = int_eq a.0 b.0 && int_eq a.1 b.1

-- the unit whose exponents an operation makes of two units'
abbrev pub each_exponent : (ℤ → ℤ → ℤ) → ℤ × ℤ → ℤ × ℤ → ℤ × ℤ
each_exponent op a b = (op a.0 b.0, op a.1 b.1)

-- the unit of a product, and of a quotient
abbrev pub times_unit : ℤ × ℤ → ℤ × ℤ → ℤ × ℤ
times_unit = each_exponent ◌+ℤ◌

abbrev pub over_unit : ℤ × ℤ → ℤ × ℤ → ℤ × ℤ
over_unit = each_exponent ◌-ℤ◌

-- a call at x and y gives what the operation does, or `None` where an `i8` cannot hold it
abbrev pub IsExact : (ℤ → ℤ → Option ℤ → Type 0) → (ℤ → ℤ → ℤ) → ℤ → ℤ → Type 0
IsExact post op x y = (r : Option ℤ) → post x y r → SomeIff r (FitsSigned w8 (op x y)) (op x y)

-- a unit that is to be small, and one of two that are to be equal
abbrev pub reach : ℤ × ℤ → Result (ℤ × ℤ) Refusal
reach u = if small_unit u then Ok u else Err refusal.Exponent

abbrev pub equal : ℤ × ℤ → ℤ × ℤ → Result (ℤ × ℤ) Refusal
equal a b = if same_unit a b then Ok a else Err refusal.Units

-- the unit of a sign's result, from those of its operands
abbrev pub join_units : Op → ℤ × ℤ → ℤ × ℤ → Result (ℤ × ℤ) Refusal
join_units op.Add a b = equal a b
join_units op.Sub a b = equal a b
join_units op.Mul a b = reach (times_unit a b)
join_units op.Div a b = reach (over_unit a b)
join_units op.Min a b = equal a b
join_units op.Max a b = equal a b

-- what follows a part, unless that was refused
abbrev pub after : {A B : Type 0} → Result A Refusal → (A → Result B Refusal) → Result B Refusal
after (Ok x) k = k x
after (Err e) k = Err e

-- the unit of a formula, where each name has one, or the refusal of its first step that has one
abbrev pub formula_unit : (Named → ℤ × ℤ) → Formula → Result (ℤ × ℤ) Refusal
formula_unit unit (Formula.number c u) = Ok u
formula_unit unit (Formula.name x) = Ok (unit x)
formula_unit unit (Formula.join o f g) = after (formula_unit unit f) (λ a. after (formula_unit unit g) (λ b. join_units o a b))

-- the sides of a rule agree: in a root rule the left side's exponents, doubled, are the right side's
abbrev pub sides_agree : Bool → ℤ × ℤ → ℤ × ℤ → Bool
sides_agree root a b = if root then same_unit (times_unit a a) b else same_unit a b

-- ---- the same on a row of steps, over a stack of units

-- the unit of a step that is no sign
abbrev pub step_unit : (Named → ℤ × ℤ) → Step → ℤ × ℤ
step_unit unit (step.Number c u) = u
step_unit unit (step.Entry i) = unit (entry i)
step_unit unit (step.Line k) = unit (line k)
step_unit unit (step.Op o) = (pos 0, pos 0)

-- a is taken from the end of a stack; an empty one gives (0, 0)
abbrev pub Pops : List (ℤ × ℤ) → ℤ × ℤ → List (ℤ × ℤ) → Type 0
Pops st a rest = (st ≡ rest ++ a ∷ []) ⊎ ((st ≡ []) × (rest ≡ []) × (a ≡ (pos 0, pos 0)))

-- one step: what is left of the stack, and the unit to push
abbrev pub Steps : (Named → ℤ × ℤ) → Step → List (ℤ × ℤ) → List (ℤ × ℤ) → Result (ℤ × ℤ) Refusal → Type 0
Steps unit (step.Number c u) st rest r = (rest ≡ st) × (r ≡ Ok u)
Steps unit (step.Entry i) st rest r = (rest ≡ st) × (r ≡ Ok (unit (entry i)))
Steps unit (step.Line k) st rest r = (rest ≡ st) × (r ≡ Ok (unit (line k)))
Steps unit (step.Op o) st rest r = (a : ℤ × ℤ) × (b : ℤ × ℤ) × (mid : List (ℤ × ℤ)) × Pops st b mid × Pops mid a rest × (r ≡ join_units o a b)
