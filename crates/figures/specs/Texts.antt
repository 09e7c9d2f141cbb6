-- How formulas and forms are written. Assumes nothing.
use Rattle.std.specs.Prelude.{ℕ, Bool, true, false, if◌then◌else◌, List, ◌++◌, codes}
use Rattle.ranges.specs.declared.range.Sign.{Sign}
use Rattle.ranges.specs.declared.range.Sign.TheVariants.{Plus, Minus, Times, Over, Least, Greatest}
use Rattle.figures.specs.declared.entry.FormName.{FormName}
use Rattle.figures.specs.declared.entry.FormName.TheVariants.{Mil, Sig}

abbrev pub form_word : FormName → List ℕ
form_word Mil = codes "mil"
form_word Sig = codes "sig"

-- the sign of a sum or a difference
abbrev pub is_sum : Sign → Bool
is_sum Plus = true
is_sum Minus = true
is_sum Times = false
is_sum Over = false
is_sum Least = false
is_sum Greatest = false

-- in parentheses where it is a sum
abbrev pub grouped : List ℕ → Bool → List ℕ
grouped left sum = if sum then codes "(" ++ left ++ codes ")" else left

-- a formula and one step more
abbrev pub joined : List ℕ → Bool → Sign → List ℕ → List ℕ
joined left sum Plus right = left ++ codes "+" ++ right
joined left sum Minus right = left ++ codes "-" ++ right
joined left sum Times right = grouped left sum ++ codes "*" ++ right
joined left sum Over right = grouped left sum ++ codes "/" ++ right
joined left sum Least right = codes "min(" ++ left ++ codes "," ++ right ++ codes ")"
joined left sum Greatest right = codes "max(" ++ left ++ codes "," ++ right ++ codes ")"
