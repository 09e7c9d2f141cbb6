-- The parts of a book line, from its bytes.
use Rattle.std.specs.Prelude.{◌≡◌, ℕ, zero, suc, ◌+◌, ◌-◌, ◌*◌, ◌^◌, ◌≤◌, Bool, if◌then◌else◌, ◌&&◌, List, [], ◌∷◌, length, take, drop, ℤ, pos, is_some, Some, None, Option, ◌==◌, nat_le, slice_index}
use Rattle.std.specs.Char.{is_ascii_digit, is_ascii_alphabetic, is_ascii_alphanumeric}
use Rattle.std.specs.List.{prefix_len}
use Rattle.lines.specs.declared.token.Part.{Part}
use Rattle.lines.specs.declared.token.Sign.{Sign}
use Rattle.lines.specs.declared.token.Sign.TheVariants as signs
use Rattle.lines.specs.declared.token.Token.{Token}
use Rattle.lines.specs.declared.token.Token.TheVariants as token
use Rattle.std.specs.Option.{unwrap_or}
use Rattle.std.specs.Str.Parse.{digits_value}
use Rattle.lines.specs.Words.{unit_of}

-- a part, without its place
pub data Tok : Type 0 where
  word : List ℕ → Tok
  number : ℕ → ℤ × ℤ → Tok  -- a count of thousandths, and its unit
  malformed : Tok
  sign : Sign → Tok
  other : Tok
  ends : Tok

-- each part but the end has a byte
abbrev pub least : Tok → ℕ
least (word w) = 1
least (number n u) = 1
least malformed = 1
least (sign s) = 1
least other = 1
least ends = 0

-- the blank is the space
abbrev pub is_blank : ℕ → Bool
is_blank b = b == 32

-- the sign that b begins, where next is the byte after it
abbrev pub sign_of : ℕ → ℕ → Option Sign
sign_of b next =
    if b == 43 then Some signs.Plus
    else (if b == 45 then Some signs.Minus
    else (if b == 42 then Some signs.Times
    else (if b == 47 then Some signs.Over
    else (if b == 40 then Some signs.Open
    else (if b == 41 then Some signs.Close
    else (if b == 44 then Some signs.Comma
    else (if b == 61 then Some signs.Equals
    else (if b == 58 then Some signs.Colon
    else (if b == 60 && next == 61 then Some signs.AtMost
    else None)))))))))

-- the sign at the front, if one stands there
abbrev pub front_sign : List ℕ → Option Sign
front_sign bs = sign_of (slice_index bs 0) (slice_index bs 1)

-- how many digits stand before the point, whether a point follows them, and how many digits follow it
abbrev pub whole : List ℕ → ℕ
whole bs = prefix_len is_ascii_digit bs

abbrev pub pointed : List ℕ → Bool
pointed bs = slice_index bs (whole bs) == 46

abbrev pub decimals : List ℕ → ℕ
decimals bs = prefix_len is_ascii_digit (drop (whole bs + 1) bs)

-- the digits before the point, and those after it
abbrev pub whole_digits : List ℕ → List ℕ
whole_digits bs = take (whole bs) bs

abbrev pub decimal_digits : List ℕ → List ℕ
decimal_digits bs = if pointed bs then take (decimals bs) (drop (whole bs + 1) bs) else []

-- the count of thousandths that the digits before and after a point write
abbrev pub counted : List ℕ → List ℕ → ℕ
counted ws ds = digits_value 10 ws * 1000 + digits_value 10 ds * 10 ^ (3 - length ds)

-- the count of thousandths of the number at the front
abbrev pub thousandths : List ℕ → ℕ
thousandths bs = counted (whole_digits bs) (decimal_digits bs)

-- how many bytes the digits and their point have
abbrev pub numeral_len : List ℕ → ℕ
numeral_len bs = if pointed bs then whole bs + 1 + decimals bs else whole bs

-- at most 6 digits before the point, and 1 to 3 after it
abbrev pub few_digits : ℕ → ℕ → Bool
few_digits whole decimals = nat_le whole 6 && (nat_le 1 decimals && nat_le decimals 3)

-- the number at the front has few enough digits
abbrev pub well_formed : List ℕ → Bool
well_formed bs = if pointed bs then few_digits (whole bs) (decimals bs) else nat_le (whole bs) 6

-- the count of thousandths, if the digits are few enough
abbrev pub count_of : List ℕ → Option ℕ
count_of bs = if well_formed bs then Some (thousandths bs) else None

-- the unit of the word at the front, if it is a unit word
abbrev pub front_unit : List ℕ → Option (ℤ × ℤ)
front_unit bs = unit_of (take (prefix_len is_ascii_alphanumeric bs) bs)

-- a number with the unit word straight after it; without one the unit is (0, 0)
abbrev pub number_tok : List ℕ → Tok
number_tok bs = if well_formed bs then number (thousandths bs) (unwrap_or (front_unit (drop (numeral_len bs) bs)) (pos 0, pos 0)) else malformed

-- how many bytes the unit word has
abbrev pub unit_len : List ℕ → ℕ
unit_len bs = if is_some (front_unit bs) then prefix_len is_ascii_alphanumeric bs else 0

-- how many bytes a number has with its unit word
abbrev pub number_width : List ℕ → ℕ
number_width bs = if well_formed bs then numeral_len bs + unit_len (drop (numeral_len bs) bs) else numeral_len bs

-- a byte that begins no sign is a part too
abbrev pub sign_tok : Option Sign → Tok
sign_tok None = other
sign_tok (Some s) = sign s

-- only <= has two bytes
abbrev pub sign_len : Sign → ℕ
sign_len signs.Plus = 1
sign_len signs.Minus = 1
sign_len signs.Times = 1
sign_len signs.Over = 1
sign_len signs.Open = 1
sign_len signs.Close = 1
sign_len signs.Comma = 1
sign_len signs.Equals = 1
sign_len signs.Colon = 1
sign_len signs.AtMost = 2

-- how many bytes a sign has, or a byte that begins none
abbrev pub sign_width : Option Sign → ℕ
sign_width None = 1
sign_width (Some s) = sign_len s

-- the part at the front, where no blank stands
abbrev pub part : List ℕ → Tok
part bs =
    if length bs == 0 then ends
    else (if is_ascii_alphabetic (slice_index bs 0) then word (take (prefix_len is_ascii_alphanumeric bs) bs)
    else (if is_ascii_digit (slice_index bs 0) then number_tok bs
    else sign_tok (front_sign bs)))

-- how many bytes it has
abbrev pub width : List ℕ → ℕ
width bs =
    if length bs == 0 then 0
    else (if is_ascii_alphabetic (slice_index bs 0) then prefix_len is_ascii_alphanumeric bs
    else (if is_ascii_digit (slice_index bs 0) then number_width bs
    else sign_width (front_sign bs)))

-- the bytes from the first that is no blank
abbrev pub unblank : List ℕ → List ℕ
unblank bs = drop (prefix_len is_blank bs) bs

-- the first part after blanks, and the bytes after it
abbrev pub front : List ℕ → Tok
front bs = part (unblank bs)

-- the bytes after the first part
abbrev pub after : List ℕ → List ℕ
after bs = drop (width (unblank bs)) (unblank bs)

-- the end is no part of the list
abbrev pub up_to : Tok → List Tok → List Tok
up_to (word w) ts = word w ∷ ts
up_to (number n u) ts = number n u ∷ ts
up_to malformed ts = malformed ∷ ts
up_to (sign s) ts = sign s ∷ ts
up_to other ts = other ∷ ts
up_to ends ts = []

-- the first n parts
abbrev pub parts_up : ℕ → List ℕ → List Tok
parts_up zero bs = []
parts_up (suc n) bs = up_to (front bs) (parts_up n (after bs))

-- the parts of a line; there are no more than bytes
unfoldable pub parts : List ℕ → List Tok
parts bs = parts_up (suc (length bs)) bs

-- a part of the code as one of these, and its place
abbrev pub tok : Token → Tok
tok (token.Word p) = word p.text.now
tok (token.Number p n u) = number n u
tok (token.Malformed p) = malformed
tok (token.Sign s at) = sign s
tok (token.Other at) = other
tok (token.End at) = ends

-- where it stands
abbrev pub place : Token → ℕ
place (token.Word p) = p.start
place (token.Number p n u) = p.start
place (token.Malformed p) = p.start
place (token.Sign s at) = at
place (token.Other at) = at
place (token.End at) = at

-- the text stands in the line at the place
abbrev pub Lies : List ℕ → List ℕ → ℕ → Type 0
Lies line text start = text ≡ take (length text) (drop start line)

-- the part's texts stand in the line at their places
abbrev pub Placed : List ℕ → Token → Type 0
Placed line (token.Word p) = Lies line p.text.now p.start
Placed line (token.Number p n u) = Lies line p.text.now p.start
Placed line (token.Malformed p) = Lies line p.text.now p.start
Placed line (token.Sign s at) = Unit {0}
Placed line (token.Other at) = Unit {0}
Placed line (token.End at) = Unit {0}

-- what is cut from the front of these bytes is the part t: it has n of them, starts where they do, and lies in each line that has them there
pub record Cuts (from : Part) (t : Tok) (n : ℕ) (cut : Token × ℕ) : Type 0 where
  pub token : tok cut.0 ≡ t
  pub width : cut.1 ≡ n
  pub bound : cut.1 ≤ length from.text.now
  pub place : place cut.0 ≡ from.start
  pub lies : (line : List ℕ) → from.text.now ≡ drop from.start line → Placed line cut.0
