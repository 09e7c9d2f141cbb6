-- The grammar of a line, over its parts.
use Rattle.std.specs.Prelude.{◌≡◌, ℕ, ◌<◌, Bool, true, false, List, [], ◌∷◌, ◌++◌, ℤ, Some, None, Option}
use Rattle.lines.specs.declared.reader.Op.{Op}
use Rattle.lines.specs.declared.reader.Op.TheVariants as op
use Rattle.lines.specs.declared.token.Sign.{Sign}
use Rattle.lines.specs.declared.token.Sign.TheVariants as signs
use Rattle.lines.specs.declared.word.Word.{Word}
use Rattle.lines.specs.declared.word.Word.TheVariants as words
use Rattle.lines.specs.Tokens.{Tok}
use Rattle.lines.specs.Words.{word_of}

-- a formula as it is read: a number's count of thousandths with its unit, a name, or two formulas joined
pub data Tree : Type 0 where
  number : ℕ → ℤ × ℤ → Tree
  name : List ℕ → Tree
  join : Op → Tree → Tree → Tree

-- every number of the tree is below 1,000,000 units, that is 1,000,000,000 thousandths
abbrev pub Counts : Tree → Type 0
Counts (number n u) = n < 1000000000
Counts (name w) = Unit {0}
Counts (join o t u) = Counts t × Counts u

-- the signs that join products
pub data Additive : Sign → Op → Type 0 where
  plus : Additive signs.Plus op.Add
  minus : Additive signs.Minus op.Sub

-- the signs that join factors
pub data Multiplicative : Sign → Op → Type 0 where
  times : Multiplicative signs.Times op.Mul
  over : Multiplicative signs.Over op.Div

-- the words that join two sums
pub data Function : Word → Op → Type 0 where
  least : Function words.Min op.Min
  greatest : Function words.Max op.Max

-- `Sum ts us t`: ts begins with a sum that reads as t, and us follows it; signs of one rank join from the left
mutual
  pub data Sum : List Tok → List Tok → Tree → Type 0 where
    product : {ts us : List Tok} {t : Tree} → Product ts us t → Sum ts us t
    add : {ts us vs : List Tok} {t u : Tree} {s : Sign} {o : Op} → Sum ts (Tok.sign s ∷ us) t → Additive s o → Product us vs u → Sum ts vs (join o t u)

  pub data Product : List Tok → List Tok → Tree → Type 0 where
    factor : {ts us : List Tok} {t : Tree} → Factor ts us t → Product ts us t
    multiply : {ts us vs : List Tok} {t u : Tree} {s : Sign} {o : Op} → Product ts (Tok.sign s ∷ us) t → Multiplicative s o → Factor us vs u → Product ts vs (join o t u)

  pub data Factor : List Tok → List Tok → Tree → Type 0 where
    numeral : {ts : List Tok} {n : ℕ} {u : ℤ × ℤ} → Factor (Tok.number n u ∷ ts) ts (number n u)
    named : {ts : List Tok} {w : List ℕ} → word_of w ≡ words.Name → Factor (Tok.word w ∷ ts) ts (name w)
    group : {ts us : List Tok} {t : Tree} → Sum ts (Tok.sign signs.Close ∷ us) t → Factor (Tok.sign signs.Open ∷ ts) us t
    pair : {ts us vs : List Tok} {t u : Tree} {w : List ℕ} {o : Op} → Function (word_of w) o → Sum ts (Tok.sign signs.Comma ∷ us) t → Sum us (Tok.sign signs.Close ∷ vs) u → Factor (Tok.word w ∷ Tok.sign signs.Open ∷ ts) vs (join o t u)

-- a formula's steps, signs after their operands
pub data Item : Type 0 where
  number : ℕ → ℤ × ℤ → Item
  name : List ℕ → Item
  join : Op → Item

-- the steps of a tree
abbrev pub postfix : Tree → List Item
postfix (Tree.number n u) = Item.number n u ∷ []
postfix (Tree.name w) = Item.name w ∷ []
postfix (Tree.join o t u) = postfix t ++ (postfix u ++ (Item.join o ∷ []))

-- what a line states: nothing, an entry with its unit, a line with its formula, or a rule with its sides, the right one under a root or not
pub data Stated : Type 0 where
  blank : Stated
  entry : List ℕ → ℤ × ℤ → Stated
  line : List ℕ → Tree → Stated
  rule : List ℕ → Bool → Tree → Tree → Stated

-- the same of the formulas of a line
abbrev pub StatedCounts : Stated → Type 0
StatedCounts Stated.blank = Unit {0}
StatedCounts (Stated.entry n u) = Unit {0}
StatedCounts (Stated.line n t) = Counts t
StatedCounts (Stated.rule n root t u) = Counts t × Counts u

-- the name that a line declares, if it states anything
abbrev pub declares : Stated → Option (List ℕ)
declares Stated.blank = None
declares (Stated.entry n u) = Some n
declares (Stated.line n t) = Some n
declares (Stated.rule n root t u) = Some n

-- the right side of a rule, up to the end: a sum, or root of a sum
pub data Right : List Tok → Bool → Tree → Type 0 where
  plain : {ts : List Tok} {t : Tree} → Sum ts [] t → Right ts false t
  rooted : {ts : List Tok} {t : Tree} {w : List ℕ} → word_of w ≡ words.Root → Sum ts (Tok.sign signs.Close ∷ []) t → Right (Tok.word w ∷ Tok.sign signs.Open ∷ ts) true t

-- `Line ts s`: the parts ts are a line, and it states s
pub data Line : List Tok → Stated → Type 0 where
  blank : Line [] Stated.blank
  entry : {k n w : List ℕ} {u : ℤ × ℤ} → word_of k ≡ words.Entry → word_of n ≡ words.Name → word_of w ≡ words.Unit u → Line (Tok.word k ∷ Tok.word n ∷ Tok.word w ∷ []) (Stated.entry n u)
  line : {k n : List ℕ} {ts : List Tok} {t : Tree} → word_of k ≡ words.Line → word_of n ≡ words.Name → Sum ts [] t → Line (Tok.word k ∷ Tok.word n ∷ Tok.sign signs.Equals ∷ ts) (Stated.line n t)
  rule : {k n : List ℕ} {ts us : List Tok} {t u : Tree} {root : Bool} → word_of k ≡ words.Rule → word_of n ≡ words.Name → Sum ts (Tok.sign signs.AtMost ∷ us) t → Right us root u → Line (Tok.word k ∷ Tok.word n ∷ Tok.sign signs.Colon ∷ ts) (Stated.rule n root t u)
