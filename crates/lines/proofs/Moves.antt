-- How far the reader gets by one part.
use Rattle.std.proofs.Common.{◌≡◌, ℕ, zero, suc, ◌+◌, ◌-◌, ◌<◌, ◌≤◌, Bool, true, false, cond, ◌||◌, eqb, List, [], ◌∷◌, length, get_or, take, drop, pos, Some, None, Option, unwrap_or, sym, refl, ap, ◌∙◌, arith, length-drop}
use Rattle.std.specs.Char.{is_ascii_digit, is_ascii_alphabetic, is_ascii_alphanumeric}
use Rattle.std.specs.Int.{is_in_range}
use Rattle.std.specs.List.{prefix_len}
use Rattle.std.proofs.lemmas.Bool.Decides.{nat_tests}
use Rattle.lines.specs.declared.token.Sign.{Sign}
use Rattle.lines.specs.declared.token.Sign.TheVariants as signs
use Rattle.lines.specs.Tokens.{Tok, least, is_blank, sign_of, sign_tok, sign_width, well_formed, numeral_len, pointed, whole, decimals, thousandths, front_unit, unit_len, number_tok, number_width, part, width, unblank, front, after, up_to, parts_up, parts}

letter_alnum : (p q r : Bool) → (q || r) ≡ true → ((p || q) || r) ≡ true
letter_alnum p q r e = grind (arith, nat_tests)

sign_least : (o : Option Sign) → least (sign_tok o) ≤ sign_width o
sign_least None = omega arith
sign_least (Some signs.Plus) = omega arith
sign_least (Some signs.Minus) = omega arith
sign_least (Some signs.Times) = omega arith
sign_least (Some signs.Over) = omega arith
sign_least (Some signs.Open) = omega arith
sign_least (Some signs.Close) = omega arith
sign_least (Some signs.Comma) = omega arith
sign_least (Some signs.Equals) = omega arith
sign_least (Some signs.Colon) = omega arith
sign_least (Some signs.AtMost) = omega arith

numeral_least : (bs : List ℕ) → 1 ≤ whole bs → 1 ≤ numeral_len bs
numeral_least bs h = go (pointed bs)
  where
    go : (t : Bool) → 1 ≤ cond t (whole bs + 1 + decimals bs) (whole bs)
    go true = omega arith
    go false = h

number_least : (bs : List ℕ) → 1 ≤ whole bs → least (number_tok bs) ≤ number_width bs
number_least bs h = go (well_formed bs)
  where
    low : 1 ≤ numeral_len bs
    low = numeral_least bs h

    go : (t : Bool) → least (cond t (Tok.number (thousandths bs) (unwrap_or (front_unit (drop (numeral_len bs) bs)) (pos 0, pos 0))) Tok.malformed) ≤ cond t (numeral_len bs + unit_len (drop (numeral_len bs) bs)) (numeral_len bs)
    go true = omega (arith, low)
    go false = low

-- where the first byte passes the test, the run has a byte
some_run : (p : ℕ → Bool) (b : ℕ) (bs : List ℕ) → p b ≡ true → 1 ≤ prefix_len p (b ∷ bs)
some_run p b bs e = go (p b) e
  where
    go : (t : Bool) → t ≡ true → 1 ≤ cond t (1 + prefix_len p bs) 0
    go true h = omega arith
    go false h = cc

pub width_least : (bs : List ℕ) → least (part bs) ≤ width bs
width_least [] = omega arith
width_least (b ∷ bs) = some (eqb (length (b ∷ bs)) 0) refl
  where
    digits : (t : Bool) → is_ascii_digit b ≡ t → least (cond t (number_tok (b ∷ bs)) (sign_tok (sign_of b (get_or (b ∷ bs) 1 0)))) ≤ cond t (number_width (b ∷ bs)) (sign_width (sign_of b (get_or (b ∷ bs) 1 0)))
    digits true e = number_least (b ∷ bs) (some_run is_ascii_digit b bs e)
    digits false e = sign_least (sign_of b (get_or (b ∷ bs) 1 0))

    go : (t : Bool) → is_ascii_alphabetic b ≡ t → least (cond t (Tok.word (take (prefix_len is_ascii_alphanumeric (b ∷ bs)) (b ∷ bs))) (cond (is_ascii_digit b) (number_tok (b ∷ bs)) (sign_tok (sign_of b (get_or (b ∷ bs) 1 0))))) ≤ cond t (prefix_len is_ascii_alphanumeric (b ∷ bs)) (cond (is_ascii_digit b) (number_width (b ∷ bs)) (sign_width (sign_of b (get_or (b ∷ bs) 1 0))))
    go true e = some_run is_ascii_alphanumeric b bs (letter_alnum (is_in_range 48 57 b) (is_in_range 65 90 b) (is_in_range 97 122 b) e)
    go false e = digits (is_ascii_digit b) refl

    some : (t : Bool) → eqb (length (b ∷ bs)) 0 ≡ t → least (cond t Tok.ends (cond (is_ascii_alphabetic b) (Tok.word (take (prefix_len is_ascii_alphanumeric (b ∷ bs)) (b ∷ bs))) (cond (is_ascii_digit b) (number_tok (b ∷ bs)) (sign_tok (sign_of b (get_or (b ∷ bs) 1 0)))))) ≤ cond t 0 (cond (is_ascii_alphabetic b) (prefix_len is_ascii_alphanumeric (b ∷ bs)) (cond (is_ascii_digit b) (number_width (b ∷ bs)) (sign_width (sign_of b (get_or (b ∷ bs) 1 0)))))
    some true e = omega arith
    some false e = go (is_ascii_alphabetic b) refl

-- what follows a part is shorter, but for the end
follows : (bs : List ℕ) → 1 ≤ least (front bs) → length (after bs) < length bs
follows bs h =
    let more : 1 ≤ width (unblank bs) = omega (arith, width_least (unblank bs)) in
    go (unblank bs) more (length-drop (prefix_len is_blank bs) bs)
  where
    go : (cs : List ℕ) → 1 ≤ width cs → length cs ≡ length bs - prefix_len is_blank bs → length (drop (width cs) cs) < length bs
    go [] w e = absurd (omega (arith, w))
    go (c ∷ cs) w e = omega (arith, length-drop (width (c ∷ cs)) (c ∷ cs), w, e)

-- what follows the end is in no list
same_up : (t : Tok) (us vs : List Tok) → (1 ≤ least t → us ≡ vs) → up_to t us ≡ up_to t vs
same_up (Tok.word w) us vs e = ap (λ ts. Tok.word w ∷ ts) (e (omega arith))
same_up (Tok.number x u) us vs e = ap (λ ts. Tok.number x u ∷ ts) (e (omega arith))
same_up Tok.malformed us vs e = ap (λ ts. Tok.malformed ∷ ts) (e (omega arith))
same_up (Tok.sign s) us vs e = ap (λ ts. Tok.sign s ∷ ts) (e (omega arith))
same_up Tok.other us vs e = ap (λ ts. Tok.other ∷ ts) (e (omega arith))
same_up Tok.ends us vs e = refl

-- the count of parts asked for does not matter once it is above the bytes
enough : (m n : ℕ) (bs : List ℕ) → length bs < m → length bs < n → parts_up m bs ≡ parts_up n bs
enough zero n bs h k = absurd (omega arith)
enough (suc m) zero bs h k = absurd (omega arith)
enough (suc m) (suc n) bs h k =
    same_up (front bs) _ _ (λ more. enough m n (after bs) (omega (arith, follows bs more)) (omega (arith, follows bs more)))

-- the parts are the first one and those of what follows
pub parts_step : (bs : List ℕ) → parts bs ≡ up_to (front bs) (parts (after bs))
unfolding parts
parts_step bs = same_up (front bs) _ _ (λ more. enough (length bs) (suc (length (after bs))) (after bs) (follows bs more) (omega arith))

-- the same, at a place in a line
pub parts_on : (line : List ℕ) (at to : ℕ) (t : Tok) → t ≡ front (drop at line) → drop to line ≡ after (drop at line) → parts (drop at line) ≡ up_to t (parts (drop to line))
parts_on line at to t first rest = parts_step (drop at line) ∙ sym (λ i. up_to (first i) (parts (rest i)))
