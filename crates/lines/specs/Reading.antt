-- What the functions of the reader promise.
use Rattle.std.specs.Prelude.{◌≡◌, ℕ, ◌+◌, Bool, false, ◌&&◌, ◌||◌, List, [], ◌∷◌, ◌++◌, map, length, take, drop, Some, None, Option, Result, MatchResult, IfOk, ◌<◌, ◌≤◌, ◌==◌, nat_le, vec_items, vec_len}
use Rattle.std.specs.List.{list_all}
use Rattle.lines.specs.declared.reader.Op.{Op}
use Rattle.lines.specs.declared.reader.Place.{Place}
use Rattle.lines.specs.declared.reader.Rank.{Rank}
use Rattle.lines.specs.declared.reader.Rank.TheVariants as rank
use Rattle.lines.specs.declared.reader.Raw.{Raw}
use Rattle.lines.specs.declared.reader.Raw.TheVariants as raw
use Rattle.lines.specs.declared.reader.Reader.{Reader}
use Rattle.lines.specs.declared.refusal.Refusal.{Refusal}
use Rattle.lines.specs.declared.refusal.Refusal.TheVariants as refusal
use Rattle.lines.specs.declared.token.Sign.{Sign}
use Rattle.lines.specs.declared.token.Sign.TheVariants as signs
use Rattle.lines.specs.declared.statement.Statement.{Statement}
use Rattle.lines.specs.declared.statement.Statement.TheVariants as st
use Rattle.lines.specs.Tokens.{Tok, up_to, parts}
use Rattle.lines.specs.Grammar.{Tree, Additive, Multiplicative, Sum, Product, Factor, Item, postfix, Stated, Line}
use Rattle.lines.specs.Words.{word_of}
use Rattle.lines.specs.declared.word.Word.{Word}
use Rattle.lines.specs.Expected.{Paren, Side, State, sign_number, outcome}

-- the bytes at a place
abbrev pub text_at : List ℕ → Place → List ℕ
text_at line p = take p.len (drop p.start line)

-- a step of the reader, with its name's text in place of the place
abbrev pub item : List ℕ → Raw → Item
item line (raw.Number n u) = Item.number n u
item line (raw.Name p) = Item.name (text_at line p)
item line (raw.Op o) = Item.join o

-- the steps of the reader, as those of a tree
abbrev pub items : List ℕ → List Raw → List Item
items line rs = map (item line) rs

-- the number that is reported
abbrev pub code : Refusal → ℕ
code refusal.Text = 1
code refusal.Grammar = 2
code refusal.Nesting = 3
code refusal.Digits = 4

-- the sign is one of those listed
abbrev pub is_one : Sign → List Sign → Bool
is_one s [] = false
is_one s (x ∷ xs) = sign_number s == sign_number x || is_one s xs

-- the parts begin with one of the signs
abbrev pub begins : List Sign → List Tok → Bool
begins ss [] = false
begins ss (Tok.word w ∷ ts) = false
begins ss (Tok.number n u ∷ ts) = false
begins ss (Tok.malformed ∷ ts) = false
begins ss (Tok.sign s ∷ ts) = is_one s ss
begins ss (Tok.other ∷ ts) = false
begins ss (Tok.ends ∷ ts) = false

-- the signs that join products
abbrev pub adds : List Sign
adds = signs.Plus ∷ signs.Minus ∷ []

-- those that join factors
abbrev pub factors : List Sign
factors = signs.Times ∷ signs.Over ∷ []

-- those that join products or factors
abbrev pub joins : List Sign
joins = signs.Plus ∷ signs.Minus ∷ signs.Times ∷ signs.Over ∷ []

-- what has to come next is there, as P says, or it is not, as N says, and the grammar allows nothing else
abbrev pub Wants : {X : Type 0} → Result X Refusal → (X → Type 0) → Type 0 → Type 0
Wants r P N = MatchResult r P (λ e. (e ≡ refusal.Grammar) × N)

-- a formula was read from the parts `from`, and `rest` follows it, which goes on with none of the signs `on`; `left` more parentheses may open
pub record Reads (R : List Tok → List Tok → Tree → Type 0) (on : List Sign) (left : ℕ) (from rest : List Tok) (before now : List Item) : Type 0 where
  pub tree : Tree
  pub reading : R from rest tree
  pub stops : begins on rest ≡ false
  pub steps : now ≡ before ++ postfix tree
  pub goes : (side : Side) (ps : List Paren) → length ps + left ≡ 16 → outcome (State.operand side ps) from ≡ outcome (State.operator side ps) rest

-- no formula can be read, and r is the refusal
abbrev pub Refuses : ℕ → List Tok → Refusal → Type 0
Refuses left from r = (side : Side) (ps : List Paren) → length ps + left ≡ 16 → outcome (State.operand side ps) from ≡ code r

-- the grammar of what a rank joins, and of what it joins to
abbrev pub Operand : Rank → List Tok → List Tok → Tree → Type 0
Operand rank.Sum = Product
Operand rank.Product = Factor

abbrev pub Joined : Rank → List Tok → List Tok → Tree → Type 0
Joined rank.Sum = Sum
Joined rank.Product = Product

-- the signs of a rank, and their steps
abbrev pub rank_signs : Rank → List Sign
rank_signs rank.Sum = adds
rank_signs rank.Product = factors

abbrev pub Binds : Rank → Sign → Op → Type 0
Binds rank.Sum = Additive
Binds rank.Product = Multiplicative

-- the signs of the ranks that bind tighter
abbrev pub tight : Rank → List Sign
tight rank.Sum = factors
tight rank.Product = []

-- the step of a sign of the rank, if the part is one
abbrev pub Joins : Rank → Tok → Option Op → Type 0
Joins k t None = (ts : List Tok) → begins (rank_signs k) (up_to t ts) ≡ false
Joins k t (Some o) = (s : Sign) × (t ≡ Tok.sign s) × Binds k s o

-- what is left to read
abbrev pub ahead : Reader → List Tok
ahead r = parts (drop r.at r.line.now)

-- the steps so far
abbrev pub written : Reader → List Item
written r = items r.line.now (vec_items r.steps.now.raw)

-- the steps of the tree were written
abbrev pub Writes : Tree → Reader → Reader → Type 0
Writes t before after = written after ≡ written before ++ postfix t

-- the same line is read, into the same steps
abbrev pub Keeps : Reader → Reader → Type 0
Keeps before after = (after.line.now ≡ before.line.now) × (after.steps.ghost_name ≡ before.steps.ghost_name)

-- the same, with no step written
pub record Takes (before after : Reader) : Type 0 where
  pub keeps : Keeps before after
  pub steps : after.steps.now ≡ before.steps.now

-- bytes were read, and no more steps written
abbrev pub Moves : Reader → Reader → Type 0
Moves before after = (before.at < after.at) × (vec_len after.steps.now.raw + before.at ≤ vec_len before.steps.now.raw + after.at)

-- the same of a reading that may be refused
abbrev pub Advances : {X : Type 0} → Result X Refusal → Reader → Reader → Type 0
Advances r before after = Keeps before after × IfOk r (λ _. Moves before after)

-- a formula was read from the parts `from` on, or none is there
abbrev pub Formula : {X : Type 0} → (List Tok → List Tok → Tree → Type 0) → List Sign → ℕ → List Tok → Result X Refusal → Reader → Reader → Type 0
Formula R on left from r before after = MatchResult r (λ _. Reads R on left from (ahead after) (written before) (written after)) (λ e. Refuses left from e)

-- what was read, with its texts in the line, is what the parts ts state, and its steps are now after those before
abbrev pub Adds : List ℕ → List Item → List Item → List Tok → Statement → Type 0
Adds line before now ts st.Blank = Line ts Stated.blank × (now ≡ before)
Adds line before now ts (st.Entry name u) = Line ts (Stated.entry (text_at line name) u) × (now ≡ before)
Adds line before now ts (st.Line name) = (t : Tree) × Line ts (Stated.line (text_at line name) t) × (now ≡ before ++ postfix t)
Adds line before now ts (st.Rule name root split) = (t : Tree) × (u : Tree) × Line ts (Stated.rule (text_at line name) root t u) × (now ≡ (before ++ postfix t) ++ postfix u) × (split ≡ length (before ++ postfix t))

-- the same, with no steps before
abbrev pub Read : List ℕ → List Item → List Tok → Statement → Type 0
Read line steps ts s = Adds line [] steps ts s

-- parts up to the end were read from a state on, with no refusal; or the refusal is given
abbrev pub Ends : {X : Type 0} → State → List Tok → Result X Refusal → (X → Type 0) → Type 0
Ends s ts r P = MatchResult r (λ x. P x × (outcome s ts ≡ 0)) (λ e. outcome s ts ≡ code e)

-- what follows the word x was read from a state on, and is what the line states
abbrev pub Follows : Word → State → Result Statement Refusal → Reader → Reader → Type 0
Follows x s r before after = Ends s (ahead before) r (λ read. (k : List ℕ) → word_of k ≡ x → Adds before.line.now (written before) (written after) (Tok.word k ∷ ahead before) read)

-- the refusal where a sum up to the end has to come, as the formula of a line and as the right side of a rule
abbrev pub Last : List Tok → ℕ → Type 0
Last ts n = (outcome (State.operand Side.whole []) ts ≡ n) × (outcome (State.operand Side.right []) ts ≡ n)

-- every byte is from hexadecimal 20 to 7e
abbrev pub printable : List ℕ → Bool
printable bs = list_all (λ b. nat_le 32 b && nat_le b 126) bs

-- at most 120 bytes, each from hexadecimal 20 to 7e
abbrev pub plain : List ℕ → Bool
plain line = nat_le (length line) 120 && printable line
