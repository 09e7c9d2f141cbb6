-- The first fault of the parts of a line, in the words of the grammar.
use Rattle.std.specs.Prelude.{◌≡◌, ℕ, ◌+◌, ◌-◌, ◌≤◌, true, false, cond, List, [], ◌∷◌, ◌++◌, pos}
use Rattle.lines.specs.declared.refusal.Refusal.{Refusal}
use Rattle.lines.specs.declared.refusal.Refusal.TheVariants as refusal
use Rattle.lines.specs.declared.token.Sign.TheVariants as signs
use Rattle.lines.specs.Tokens.{Tok, parts}
use Rattle.lines.specs.Grammar.{Stated, Line}
use Rattle.lines.specs.Expected.{Kind, kind_of, same}
use Rattle.lines.specs.Reading.{plain}

-- some line begins with these parts
abbrev pub Begins : List Tok → Type 0
Begins ts = (rest : List Tok) × (s : Stated) × Line (ts ++ rest) s

-- how many parentheses are open after a part, where n were open before it
abbrev pub now_open : ℕ → Tok → ℕ
now_open n t = cond (same (kind_of t) (Kind.sign signs.Open)) (n + 1) (cond (same (kind_of t) (Kind.sign signs.Close)) (n - 1) n)

-- the same after several parts
abbrev pub open_after : ℕ → List Tok → ℕ
open_after n [] = n
open_after n (t ∷ ts) = open_after (now_open n t) ts

-- where n are open before the parts, at most 16 are ever open
abbrev pub ShallowFrom : ℕ → List Tok → Type 0
ShallowFrom n [] = n ≤ 16
ShallowFrom n (t ∷ ts) = (n ≤ 16) × ShallowFrom (now_open n t) ts

-- at most 16 parentheses are ever open
abbrev pub Shallow : List Tok → Type 0
Shallow ts = ShallowFrom 0 ts

-- the grammar asks nothing of a number
abbrev pub some_number : Tok
some_number = Tok.number 0 (pos 0, pos 0)

-- a malformed number stands where a number would
abbrev pub stands : Tok → Tok
stands (Tok.word w) = Tok.word w
stands (Tok.number n u) = Tok.number n u
stands Tok.malformed = some_number
stands (Tok.sign s) = Tok.sign s
stands Tok.other = Tok.other
stands Tok.ends = Tok.ends

-- parts with no fault so far
abbrev pub Clean : List Tok → Type 0
Clean ts = Begins ts × Shallow ts

-- the first fault of the parts of a line, by its refusal
pub data Fault (ts : List Tok) : Refusal → Type 0 where
  -- no line begins with the parts up to t
  part : (before after : List Tok) (t : Tok) → ts ≡ before ++ t ∷ after → Clean before → (Begins (before ++ stands t ∷ []) → ⊥) → Fault ts refusal.Grammar
  -- the parts are no line yet
  ends : Clean ts → ((s : Stated) → Line ts s → ⊥) → Fault ts refusal.Grammar
  -- a parenthesis may open, but 16 are open
  nesting : (before after : List Tok) → ts ≡ before ++ Tok.sign signs.Open ∷ after → Clean before → Begins (before ++ Tok.sign signs.Open ∷ []) → open_after 0 before ≡ 16 → Fault ts refusal.Nesting
  -- a number may come, but it is malformed
  digits : (before after : List Tok) → ts ≡ before ++ Tok.malformed ∷ after → Clean before → Begins (before ++ some_number ∷ []) → Fault ts refusal.Digits

-- why a line is refused: its text, or the first fault of its parts
abbrev pub Refused : List ℕ → Refusal → Type 0
Refused line refusal.Text = plain line ≡ false
Refused line refusal.Grammar = (plain line ≡ true) × Fault (parts line) refusal.Grammar
Refused line refusal.Nesting = (plain line ≡ true) × Fault (parts line) refusal.Nesting
Refused line refusal.Digits = (plain line ≡ true) × Fault (parts line) refusal.Digits
