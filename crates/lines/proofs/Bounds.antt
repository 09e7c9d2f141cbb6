-- How long the names and how large the numbers of a line are.
use Rattle.std.proofs.Common.{◌≡◌, ℕ, zero, suc, ◌+◌, ◌<◌, ◌≤◌, Bool, true, false, cond, ◌&&◌, eqb, leb, List, [], ◌∷◌, length, get_or, take, drop, ℤ, Some, None, Option, unwrap_or, option_map, sym, refl, ap, ◌∙◌, subst, arith, leb-true, length-take}
use Rattle.std.proofs.lemmas.Bool.{false≢true}
use Rattle.std.specs.Str.Parse.{AllDigits}
use Rattle.std.specs.Char.{is_ascii_digit, is_ascii_alphabetic, is_ascii_alphanumeric}
use Rattle.std.specs.List.{prefix_len}
use Rattle.std.specs.Map.{lookup}
use Rattle.std.specs.Str.{bytes_eq}
use Rattle.lines.specs.declared.token.Sign.{Sign}
use Rattle.lines.specs.declared.word.Word.{Word}
use Rattle.lines.specs.declared.word.Word.TheVariants as words
use Rattle.lines.specs.Tokens.{Tok, sign_of, unblank, whole, pointed, decimals, whole_digits, counted, thousandths, few_digits, well_formed, number_tok, sign_tok, part, front, after, up_to, parts_up, parts}
use Rattle.lines.specs.Words.{reserved, unit_of, plain_word_of, word_of}
use Rattle.lines.specs.Expected.{Kind, word_kind, same}
use Rattle.lines.specs.Grammar.{Tree, Counts, Sum, Product, Factor, Stated, StatedCounts, declares, Right, Line}
use Rattle.lines.proofs.Counts.{six_digits, decimals_small, digits_run}

-- a name is none of the listed words

abbrev is_name : Word → Bool
is_name x = same (word_kind x) Kind.name

abbrev Others : List (List ℕ × Word) → Type 0
Others [] = Unit {0}
Others (k ∷ ks) = (is_name k.1 ≡ false) × Others ks

past : (ks : List (List ℕ × Word)) → Others ks → (w : List ℕ) (none : Word) → is_name (unwrap_or (lookup (bytes_eq w) ks) none) ≡ true → is_name none ≡ true
past [] o w none e = e
past (k ∷ ks) o w none e = go (bytes_eq w k.0) e (past ks o.1 w none)
  where
    go : (b : Bool) → is_name (unwrap_or (cond b (Some k.1) (lookup (bytes_eq w) ks)) none) ≡ true → (is_name (unwrap_or (lookup (bytes_eq w) ks) none) ≡ true → is_name none ≡ true) → is_name none ≡ true
    go true e ih = cc (sym o.0 ∙ e)
    go false e ih = ih e

no_unit : (o : Option (ℤ × ℤ)) (x : Word) → is_name (unwrap_or (option_map words.Unit o) x) ≡ true → is_name x ≡ true
no_unit None x e = e
no_unit (Some u) x e = cc

short : (b : Bool) → is_name (cond b words.Name words.Other) ≡ true → b ≡ true
short true e = refl
short false e = cc

-- a name has at most 16 letters and digits
pub name_short : (w : List ℕ) → word_of w ≡ words.Name → length w ≤ 16
name_short w e = leb-true (length w) 16 (short (leb (length w) 16) (past reserved (refl, (refl, (refl, (refl, (refl, (refl, (refl, (refl, tt)))))))) w (cond (leb (length w) 16) words.Name words.Other) (no_unit (unit_of w) (plain_word_of w) (ap is_name e))))

-- a number of at most 6 and 3 digits is below 1,000,000

counted_small : (ws ds : List ℕ) → AllDigits 10 ws → length ws ≤ 6 → AllDigits 10 ds → length ds ≤ 3 → counted ws ds < 1000000000
counted_small ws ds dw w dd d = omega (arith, six_digits ws dw w, decimals_small ds dd d)

abbrev Small : Tok → Type 0
Small (Tok.word w) = Unit {0}
Small (Tok.number n u) = n < 1000000000
Small Tok.malformed = Unit {0}
Small (Tok.sign s) = Unit {0}
Small Tok.other = Unit {0}
Small Tok.ends = Unit {0}

abbrev AllSmall : List Tok → Type 0
AllSmall [] = Unit {0}
AllSmall (t ∷ ts) = Small t × AllSmall ts

module _ (bs : List ℕ) where
  whole_small : leb (whole bs) 6 ≡ true → length (whole_digits bs) ≤ 6
  whole_small e = omega (arith, length-take (whole bs) bs, leb-true (whole bs) 6 e)

  plain_small : leb (whole bs) 6 ≡ true → counted (whole_digits bs) [] < 1000000000
  plain_small e = counted_small (whole_digits bs) [] (digits_run bs) (whole_small e) tt (omega arith)

  point_small : (a b c : Bool) → leb (whole bs) 6 ≡ a → leb (decimals bs) 3 ≡ c → a && (b && c) ≡ true → counted (whole_digits bs) (take (decimals bs) (drop (whole bs + 1) bs)) < 1000000000
  point_small true true true e f h = counted_small (whole_digits bs) _ (digits_run bs) (whole_small e) (digits_run (drop (whole bs + 1) bs)) (omega (arith, length-take (decimals bs) (drop (whole bs + 1) bs), leb-true (decimals bs) 3 f))
  point_small true true false e f h = cc
  point_small true false c e f h = cc
  point_small false b c e f h = cc

  formed_small : (p : Bool) → cond p (few_digits (whole bs) (decimals bs)) (leb (whole bs) 6) ≡ true → counted (whole_digits bs) (cond p (take (decimals bs) (drop (whole bs + 1) bs)) []) < 1000000000
  formed_small true e = point_small _ (leb 1 (decimals bs)) _ refl refl e
  formed_small false e = plain_small e

  number_small : Small (number_tok bs)
  number_small = go (well_formed bs) refl _
    where
      go : (b : Bool) → well_formed bs ≡ b → (u : ℤ × ℤ) → Small (cond b (Tok.number (thousandths bs) u) Tok.malformed)
      go true e u = formed_small (pointed bs) e
      go false e u = tt

sign_small : (o : Option Sign) → Small (sign_tok o)
sign_small None = tt
sign_small (Some s) = tt

by_first : (none letter digit : Bool) (w : List ℕ) (t : Tok) (o : Option Sign) → Small t → Small (cond none Tok.ends (cond letter (Tok.word w) (cond digit t (sign_tok o))))
by_first true b c w t o h = tt
by_first false true c w t o h = tt
by_first false false true w t o h = h
by_first false false false w t o h = sign_small o

part_small : (bs : List ℕ) → Small (part bs)
part_small bs = by_first (eqb (length bs) 0) (is_ascii_alphabetic (get_or bs 0 0)) (is_ascii_digit (get_or bs 0 0)) (take (prefix_len is_ascii_alphanumeric bs) bs) (number_tok bs) (sign_of (get_or bs 0 0) (get_or bs 1 0)) (number_small bs)

up_small : (t : Tok) (ts : List Tok) → Small t → AllSmall ts → AllSmall (up_to t ts)
up_small (Tok.word w) ts p q = (p, q)
up_small (Tok.number n u) ts p q = (p, q)
up_small Tok.malformed ts p q = (p, q)
up_small (Tok.sign s) ts p q = (p, q)
up_small Tok.other ts p q = (p, q)
up_small Tok.ends ts p q = tt

parts_up_small : (n : ℕ) (bs : List ℕ) → AllSmall (parts_up n bs)
parts_up_small zero bs = tt
parts_up_small (suc n) bs = up_small (front bs) (parts_up n (after bs)) (part_small (unblank bs)) (parts_up_small n (after bs))

parts_small : (bs : List ℕ) → AllSmall (parts bs)
unfolding parts
parts_small bs = parts_up_small (suc (length bs)) bs

-- so are the numbers of a formula, and of what follows it
mutual
  sum_small : {ts us : List Tok} {t : Tree} → Sum ts us t → AllSmall ts → Counts t × AllSmall us
  sum_small (Sum.product x) a = product_small x a
  sum_small (Sum.add x o y) a =
      let p = sum_small x a in
      let q = product_small y p.1.1 in
      ((p.0, q.0), q.1)

  product_small : {ts us : List Tok} {t : Tree} → Product ts us t → AllSmall ts → Counts t × AllSmall us
  product_small (Product.factor x) a = factor_small x a
  product_small (Product.multiply x o y) a =
      let p = product_small x a in
      let q = factor_small y p.1.1 in
      ((p.0, q.0), q.1)

  factor_small : {ts us : List Tok} {t : Tree} → Factor ts us t → AllSmall ts → Counts t × AllSmall us
  factor_small Factor.numeral a = a
  factor_small (Factor.named e) a = a
  factor_small (Factor.group x) a =
      let p = sum_small x a.1 in
      (p.0, p.1.1)
  factor_small (Factor.pair f x y) a =
      let p = sum_small x a.1.1 in
      let q = sum_small y p.1.1 in
      ((p.0, q.0), q.1.1)

right_small : {ts : List Tok} {root : Bool} {t : Tree} → Right ts root t → AllSmall ts → Counts t
right_small (Right.plain x) a = (sum_small x a).0
right_small (Right.rooted e x) a = (sum_small x a.1.1).0

stated_small : {ts : List Tok} {s : Stated} → Line ts s → AllSmall ts → StatedCounts s
stated_small Line.blank a = tt
stated_small (Line.entry e f g) a = tt
stated_small (Line.line e f x) a = (sum_small x a.1.1.1).0
stated_small (Line.rule e f x y) a =
    let p = sum_small x a.1.1.1 in
    (p.0, right_small y p.1.1)

-- every number of a line is below 1,000,000 units
pub line_small : (line : List ℕ) (s : Stated) → Line (parts line) s → StatedCounts s
line_small line s l = stated_small l (parts_small line)

-- what a line declares is a name
pub line_names : (ts : List Tok) (s : Stated) → Line ts s → (n : List ℕ) → declares s ≡ Some n → word_of n ≡ words.Name
line_names ts s Line.blank n e = absurd (false≢true cc)
line_names ts s (Line.entry {n = m} f g h) n e = let q : m ≡ n = cc in subst (λ x. word_of x ≡ words.Name) q g
line_names ts s (Line.line {n = m} f g x) n e = let q : m ≡ n = cc in subst (λ x. word_of x ≡ words.Name) q g
line_names ts s (Line.rule {n = m} f g x y) n e = let q : m ≡ n = cc in subst (λ x. word_of x ≡ words.Name) q g
