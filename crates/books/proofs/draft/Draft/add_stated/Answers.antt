use Rattle.std.proofs.Common.{◌≤◌, List, ℕ, length, take, Some, Ok, refl, rules, ap, ◌∙◌, ◌≡◌}
use Rattle.std.proofs.lemmas.List.{take_all}
use Rattle.lines.specs.Grammar.{Stated, Line as IsLine, declares}
use Rattle.lines.specs.Tokens.{Tok, parts}
use Rattle.lines.proofs.Bounds.{line_small, name_short, line_names}
use Rattle.books.specs.Drafts.{lists_of, Grows, Settles}
use Rattle.books.proofs.draft.Draft.add_stated.Goals as goal

-- a declared name has at most 16 letters and digits
short_name : (ts : List Tok) (s : Stated) (n : List ℕ) → IsLine ts s → declares s ≡ Some n → length n ≤ 16
short_name ts s n l e = name_short n (line_names ts s l n e)

-- so what a name keeps of it is the whole
whole_name : (ts : List Tok) (s : Stated) (n : List ℕ) {name text : List ℕ} → IsLine ts s → declares s ≡ Some n → text ≡ n → name ≡ take 16 text → name ≡ n
whole_name ts s n l e at is = is ∙ ap (take 16) at ∙ take_all 16 n (short_name ts s n l e)

pub add_line-requires : goal.add_line-requires
add_line-requires c =
    let read = rw c.in-Line.is at c.in_ok-read_line.ensures.reads.0 in
    (read.0, read.2, line_small c.args.line.now _ read.1)

pub add_rule-requires : goal.add_rule-requires
add_rule-requires c =
    let read = rw c.in-Rule.is at c.in_ok-read_line.ensures.reads.0 in
    let small = line_small c.args.line.now _ read.2 in
    (read.0, read.1, read.3, read.4, small.0, small.1)

pub returns-in-Blank : goal.returns-in-Blank
returns-in-Blank c =
    let read = rw c.in-Blank.is at c.in_ok-read_line.ensures.reads.0 in
    let settles : Settles (lists_of c.self.inside.book) Stated.blank (Ok tt) (lists_of c.self.inside.book) = (refl, Grows.blank) in
    search rules

pub returns-in-Entry : goal.returns-in-Entry
returns-in-Entry c =
    let read = rw c.in-Entry.is at c.in_ok-read_line.ensures.reads.0 in
    let settles = rw (whole_name (parts c.args.line.now) _ _ read.0 refl c.text_at.ensures c.new-name.ensures) at c.add_entry.ensures in
    search rules

pub returns-in-Line : goal.returns-in-Line
returns-in-Line c =
    let read = rw c.in-Line.is at c.in_ok-read_line.ensures.reads.0 in
    let settles = rw (whole_name (parts c.args.line.now) _ _ read.1 refl c.text_at-in-Line.ensures c.new-name-in-Line.ensures) at c.add_line.ensures read.0 read.2 in
    search rules

pub returns-in-Rule : goal.returns-in-Rule
returns-in-Rule c =
    let read = rw c.in-Rule.is at c.in_ok-read_line.ensures.reads.0 in
    let settles = rw (whole_name (parts c.args.line.now) _ _ read.2 refl c.text_at-in-Rule.ensures c.new-name-in-Rule.ensures) at c.add_rule.ensures read.0 read.1 read.3 read.4 in
    search rules
