-- What each word of a book line is.
use Rattle.std.specs.Prelude.{ℕ, if◌then◌else◌, List, [], ◌∷◌, length, ℤ, pos, negsuc, codes, Option, unwrap_or, option_map, nat_le}
use Rattle.std.specs.Map.{lookup}
use Rattle.std.specs.Str.{bytes_eq}
use Rattle.lines.specs.declared.word.Word.{Word}
use Rattle.lines.specs.declared.word.Word.TheVariants.{Entry, Line, Rule, Root, Min, Max, Unit, Name, Other}

-- exponents of inch and of kip
abbrev pub units : List (List ℕ × (ℤ × ℤ))
units =
    (codes "one", (pos 0, pos 0)) ∷ (codes "in", (pos 1, pos 0)) ∷ (codes "in2", (pos 2, pos 0)) ∷ (codes "kip", (pos 0, pos 1)) ∷ (codes "kipin", (pos 1, pos 1)) ∷ (codes "ksi", (negsuc 1, pos 1)) ∷ []

abbrev pub unit_of : List ℕ → Option (ℤ × ℤ)
unit_of w = lookup (bytes_eq w) units

-- the words that are no names, besides the units
abbrev pub reserved : List (List ℕ × Word)
reserved =
    (codes "entry", Entry) ∷ (codes "line", Line) ∷ (codes "rule", Rule) ∷ (codes "root", Root) ∷ (codes "min", Min) ∷ (codes "max", Max) ∷ (codes "form", Other) ∷ (codes "close", Other) ∷ []

-- any word but a unit; a name has at most 16 letters and digits
abbrev pub plain_word_of : List ℕ → Word
plain_word_of w = unwrap_or (lookup (bytes_eq w) reserved) (if nat_le (length w) 16 then Name else Other)

-- what a word is; a unit word is that before all else
abbrev pub word_of : List ℕ → Word
word_of w = unwrap_or (option_map Unit (unit_of w)) (plain_word_of w)
