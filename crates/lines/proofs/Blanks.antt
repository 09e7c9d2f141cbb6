-- A blank cuts a line wherever it stands.
use Rattle.std.proofs.Common.{◌≡◌, ℕ, zero, suc, ◌+◌, ◌<◌, ◌≤◌, Bool, true, false, cond, ◌&&◌, eqb, leb, List, [], ◌∷◌, ◌++◌, length, get_or, take, drop, pos, is_some, Some, None, Option, unwrap_or, sym, refl, ap, ◌∙◌, subst, arith, length-drop, ne_eqb, eqb-true}
use Rattle.std.specs.Char.{is_ascii_digit, is_ascii_alphabetic, is_ascii_alphanumeric}
use Rattle.std.specs.List.{prefix_len}
use Rattle.std.proofs.lemmas.List.{get_or_past, take-append-le, drop-append-le}
use Rattle.std.proofs.lemmas.List.Sums.{prefix_len-le-length}
use Rattle.lines.specs.declared.token.Sign.{Sign}
use Rattle.lines.specs.declared.token.Sign.TheVariants as signs
use Rattle.lines.specs.Words.{unit_of}
use Rattle.lines.specs.Tokens.{Tok, least, is_blank, sign_of, sign_tok, sign_width, whole, pointed, decimals, decimal_digits, counted, thousandths, numeral_len, few_digits, well_formed, front_unit, unit_len, number_tok, number_width, part, width, unblank, up_to, parts}
use Rattle.lines.proofs.Moves.{width_least, parts_step}

either : {A : Type 0} (P : A → Type 0) (t : Bool) (x y : A) → P x → P y → P (cond t x y)
either P true x y p q = p
either P false x y p q = q

-- how many bytes a part has, at most
Fits : ℕ → Option Sign → Type 0
Fits k o = sign_width o ≤ k

fits : (k : ℕ) (t : Bool) (s : Sign) (o : Option Sign) → sign_width (Some s) ≤ k → Fits k o → Fits k (cond t (Some s) o)
unfolding Fits
fits k true s o h f = h
fits k false s o h f = f

fits_last : (k : ℕ) (s t : Bool) → 1 ≤ k → (t ≡ true → 2 ≤ k) → Fits k (cond (s && t) (Some signs.AtMost) None)
unfolding Fits
fits_last k true true h two = two refl
fits_last k true false h two = h
fits_last k false true h two = h
fits_last k false false h two = h

sign_fits : (x next k : ℕ) → 1 ≤ k → (eqb next 61 ≡ true → 2 ≤ k) → Fits k (sign_of x next)
sign_fits x next k h two =
    fits k (eqb x 43) signs.Plus _ h (fits k (eqb x 45) signs.Minus _ h (fits k (eqb x 42) signs.Times _ h (fits k (eqb x 47) signs.Over _ h (fits k (eqb x 40) signs.Open _ h (fits k (eqb x 41) signs.Close _ h (fits k (eqb x 44) signs.Comma _ h (fits k (eqb x 61) signs.Equals _ h (fits k (eqb x 58) signs.Colon _ h (fits_last k (eqb x 60) (eqb next 61) h two)))))))))

sign_le : (x next k : ℕ) → 1 ≤ k → (eqb next 61 ≡ true → 2 ≤ k) → sign_width (sign_of x next) ≤ k
unfolding Fits
sign_le = sign_fits

point_inside : (c : List ℕ) → pointed c ≡ true → whole c < length c
point_inside c e =
    let no : length c ≤ whole c → ⊥ = λ h. omega (arith, get_or_past c (whole c) 0 h, eqb-true (get_or c (whole c) 0) 46 e) in
    omega arith

numeral_le : (c : List ℕ) → numeral_len c ≤ length c
numeral_le c = go (pointed c) refl
  where
    go : (t : Bool) → pointed c ≡ t → cond t (whole c + 1 + decimals c) (whole c) ≤ length c
    go true e = omega (arith, point_inside c e, prefix_len-le-length is_ascii_digit (drop (whole c + 1) c), length-drop (whole c + 1) c)
    go false e = prefix_len-le-length is_ascii_digit c

unit_le : (c : List ℕ) → unit_len c ≤ length c
unit_le c = either (λ n. n ≤ length c) (is_some (front_unit c)) (prefix_len is_ascii_alphanumeric c) 0 (prefix_len-le-length is_ascii_alphanumeric c) (omega arith)

number_le : (c : List ℕ) → number_width c ≤ length c
number_le c =
    either (λ n. n ≤ length c) (well_formed c) (numeral_len c + unit_len (drop (numeral_len c) c)) (numeral_len c) (omega (arith, numeral_le c, unit_le (drop (numeral_len c) c), length-drop (numeral_len c) c)) (numeral_le c)

width_le : (x : ℕ) (c : List ℕ) → width (x ∷ c) ≤ length (x ∷ c)
width_le x c =
    either P (eqb (length (x ∷ c)) 0) _ _ (omega arith) (either P (is_ascii_alphabetic x) _ _ (prefix_len-le-length is_ascii_alphanumeric (x ∷ c)) (either P (is_ascii_digit x) _ _ (number_le (x ∷ c)) (sign_le x (get_or c 0 0) (length (x ∷ c)) (omega arith) (two c))))
  where
    P : ℕ → Type 0
    P n = n ≤ length (x ∷ c)

    two : (l : List ℕ) → eqb (get_or l 0 0) 61 ≡ true → 2 ≤ suc (length l)
    two [] e = cc
    two (y ∷ l) e = omega arith

-- where a byte stands, a part does
some_part : (x : ℕ) (c : List ℕ) → 1 ≤ least (part (x ∷ c))
some_part x c =
    subst (λ t. P (cond t Tok.ends rest)) (sym (ne_eqb (length (x ∷ c)) 0 (λ e. omega arith))) (either P (is_ascii_alphabetic x) _ _ (omega arith) (either P (is_ascii_digit x) _ _ (either P (well_formed (x ∷ c)) _ _ (omega arith) (omega arith)) (signed (sign_of x (get_or c 0 0)))))
  where
    P : Tok → Type 0
    P t = 1 ≤ least t

    rest : Tok
    rest = cond (is_ascii_alphabetic x) (Tok.word (take (prefix_len is_ascii_alphanumeric (x ∷ c)) (x ∷ c))) (cond (is_ascii_digit x) (number_tok (x ∷ c)) (sign_tok (sign_of x (get_or c 0 0))))

    signed : (o : Option Sign) → P (sign_tok o)
    signed None = omega arith
    signed (Some s) = omega arith

-- the blanks at the front
unblank_yes : (y : ℕ) (a : List ℕ) → eqb y 32 ≡ true → unblank (y ∷ a) ≡ unblank a
unblank_yes y a e =
    let more : 1 + prefix_len is_blank a ≡ suc (prefix_len is_blank a) = omega arith in
    ap (λ t. drop (cond t (1 + prefix_len is_blank a) 0) (y ∷ a)) e ∙ ap (λ n. drop n (y ∷ a)) more

unblank_no : (y : ℕ) (a : List ℕ) → eqb y 32 ≡ false → unblank (y ∷ a) ≡ y ∷ a
unblank_no y a e = ap (λ t. drop (cond t (1 + prefix_len is_blank a) 0) (y ∷ a)) e

look_sign : (x m n : ℕ) → eqb m 61 ≡ eqb n 61 → sign_of x m ≡ sign_of x n
look_sign x m n e = rw e

module _ (b : List ℕ) where
  -- a run ends at the blank
  run_cut : (p : ℕ → Bool) → p 32 ≡ false → (c : List ℕ) → prefix_len p (c ++ 32 ∷ b) ≡ prefix_len p c
  run_cut p e [] = ap (λ t. cond t (1 + prefix_len p b) 0) e
  run_cut p e (x ∷ c) = ap (λ n. cond (p x) (1 + n) 0) (run_cut p e c)

  run_take : (p : ℕ → Bool) → p 32 ≡ false → (c : List ℕ) → take (prefix_len p (c ++ 32 ∷ b)) (c ++ 32 ∷ b) ≡ take (prefix_len p c) c
  run_take p e c = ap (λ n. take n (c ++ 32 ∷ b)) (run_cut p e c) ∙ take-append-le (prefix_len p c) c (32 ∷ b) (prefix_len-le-length p c)

  -- a look ahead finds the blank where it found the end
  look : (k : ℕ) → eqb 32 k ≡ eqb 0 k → (c : List ℕ) (n : ℕ) → n ≤ length c → eqb (get_or (c ++ 32 ∷ b) n 0) k ≡ eqb (get_or c n 0) k
  look k e [] zero h = e
  look k e [] (suc n) h = absurd (omega arith)
  look k e (x ∷ c) zero h = refl
  look k e (x ∷ c) (suc n) h = look k e c n (omega arith)

  front_unit_cut : (c : List ℕ) → front_unit (c ++ 32 ∷ b) ≡ front_unit c
  front_unit_cut c = ap unit_of (run_take is_ascii_alphanumeric refl c)

  unit_len_cut : (c : List ℕ) → unit_len (c ++ 32 ∷ b) ≡ unit_len c
  unit_len_cut c i = cond (is_some (front_unit_cut c i)) (run_cut is_ascii_alphanumeric refl c i) 0

  module _ (c : List ℕ) where
    whole_cut : whole (c ++ 32 ∷ b) ≡ whole c
    whole_cut = run_cut is_ascii_digit refl c

    pointed_cut : pointed (c ++ 32 ∷ b) ≡ pointed c
    pointed_cut = ap (λ n. eqb (get_or (c ++ 32 ∷ b) n 0) 46) whole_cut ∙ look 46 refl c (whole c) (prefix_len-le-length is_ascii_digit c)

    by_point : {A : Type 0} (x x' y y' : A) → (pointed c ≡ true → x ≡ x') → y ≡ y' → cond (pointed (c ++ 32 ∷ b)) x y ≡ cond (pointed c) x' y'
    by_point {A} x x' y y' f e = ap (λ t. cond t x y) pointed_cut ∙ go (pointed c) refl
      where
        go : (t : Bool) → pointed c ≡ t → cond t x y ≡ cond t x' y'
        go true h = f h
        go false h = e

    tail_cut : pointed c ≡ true → drop (whole (c ++ 32 ∷ b) + 1) (c ++ 32 ∷ b) ≡ drop (whole c + 1) c ++ 32 ∷ b
    tail_cut h = ap (λ n. drop (n + 1) (c ++ 32 ∷ b)) whole_cut ∙ drop-append-le (whole c + 1) c (32 ∷ b) (omega (arith, point_inside c h))

    decimals_cut : pointed c ≡ true → decimals (c ++ 32 ∷ b) ≡ decimals c
    decimals_cut h = ap (prefix_len is_ascii_digit) (tail_cut h) ∙ run_cut is_ascii_digit refl (drop (whole c + 1) c)

    numeral_cut : numeral_len (c ++ 32 ∷ b) ≡ numeral_len c
    numeral_cut = by_point _ _ _ _ (λ h i. whole_cut i + 1 + decimals_cut h i) whole_cut

    formed_cut : well_formed (c ++ 32 ∷ b) ≡ well_formed c
    formed_cut = by_point _ _ _ _ (λ h i. few_digits (whole_cut i) (decimals_cut h i)) (ap (λ n. leb n 6) whole_cut)

    decimal_digits_cut : decimal_digits (c ++ 32 ∷ b) ≡ decimal_digits c
    decimal_digits_cut =
        by_point _ _ _ _ (λ h. ap (λ l. take (prefix_len is_ascii_digit l) l) (tail_cut h) ∙ run_take is_ascii_digit refl (drop (whole c + 1) c)) refl

    thousandths_cut : thousandths (c ++ 32 ∷ b) ≡ thousandths c
    thousandths_cut i = counted (run_take is_ascii_digit refl c i) (decimal_digits_cut i)

    rest_cut : drop (numeral_len (c ++ 32 ∷ b)) (c ++ 32 ∷ b) ≡ drop (numeral_len c) c ++ 32 ∷ b
    rest_cut = ap (λ n. drop n (c ++ 32 ∷ b)) numeral_cut ∙ drop-append-le (numeral_len c) c (32 ∷ b) (numeral_le c)

    unit_cut : front_unit (drop (numeral_len (c ++ 32 ∷ b)) (c ++ 32 ∷ b)) ≡ front_unit (drop (numeral_len c) c)
    unit_cut = ap front_unit rest_cut ∙ front_unit_cut (drop (numeral_len c) c)

    number_cut : number_tok (c ++ 32 ∷ b) ≡ number_tok c
    number_cut i = cond (formed_cut i) (Tok.number (thousandths_cut i) (unwrap_or (unit_cut i) (pos 0, pos 0))) Tok.malformed

    number_width_cut : number_width (c ++ 32 ∷ b) ≡ number_width c
    number_width_cut i = cond (formed_cut i) (numeral_cut i + (ap unit_len rest_cut ∙ unit_len_cut (drop (numeral_len c) c)) i) (numeral_cut i)

  module _ (x : ℕ) (c : List ℕ) where
    sign_cut : sign_of x (get_or (c ++ 32 ∷ b) 0 0) ≡ sign_of x (get_or c 0 0)
    sign_cut = look_sign x (get_or (c ++ 32 ∷ b) 0 0) (get_or c 0 0) (look 61 refl c 0 (omega arith))

    some_cut : eqb (length (x ∷ c ++ 32 ∷ b)) 0 ≡ eqb (length (x ∷ c)) 0
    some_cut = ne_eqb _ 0 (λ e. omega arith) ∙ sym (ne_eqb _ 0 (λ e. omega arith))

    part_cut : part (x ∷ c ++ 32 ∷ b) ≡ part (x ∷ c)
    part_cut i = cond (some_cut i) Tok.ends (cond (is_ascii_alphabetic x) (Tok.word (run_take is_ascii_alphanumeric refl (x ∷ c) i)) (cond (is_ascii_digit x) (number_cut (x ∷ c) i) (sign_tok (sign_cut i))))

    width_cut : width (x ∷ c ++ 32 ∷ b) ≡ width (x ∷ c)
    width_cut i = cond (some_cut i) 0 (cond (is_ascii_alphabetic x) (run_cut is_ascii_alphanumeric refl (x ∷ c) i) (cond (is_ascii_digit x) (number_width_cut (x ∷ c) i) (sign_width (sign_cut i))))

    after_cut : drop (width (x ∷ c ++ 32 ∷ b)) (x ∷ c ++ 32 ∷ b) ≡ drop (width (x ∷ c)) (x ∷ c) ++ 32 ∷ b
    after_cut = ap (λ n. drop n (x ∷ c ++ 32 ∷ b)) width_cut ∙ drop-append-le (width (x ∷ c)) (x ∷ c) (32 ∷ b) (width_le x c)

  -- blanks alone, and blanks before a byte
  unblank_all : (a : List ℕ) → unblank a ≡ [] → unblank (a ++ 32 ∷ b) ≡ unblank b
  unblank_all [] e = unblank_yes 32 b refl
  unblank_all (y ∷ a) e = go (eqb y 32) refl (unblank_all a)
    where
      go : (t : Bool) → eqb y 32 ≡ t → (unblank a ≡ [] → unblank (a ++ 32 ∷ b) ≡ unblank b) → unblank (y ∷ a ++ 32 ∷ b) ≡ unblank b
      go true h ih = unblank_yes y (a ++ 32 ∷ b) h ∙ ih (sym (unblank_yes y a h) ∙ e)
      go false h ih = absurd (omega (arith, ap length (sym (unblank_no y a h) ∙ e)))

  unblank_cut : (a : List ℕ) (x : ℕ) (c : List ℕ) → unblank a ≡ x ∷ c → unblank (a ++ 32 ∷ b) ≡ x ∷ c ++ 32 ∷ b
  unblank_cut [] x c e = absurd (omega (arith, ap length e))
  unblank_cut (y ∷ a) x c e = go (eqb y 32) refl (unblank_cut a x c)
    where
      go : (t : Bool) → eqb y 32 ≡ t → (unblank a ≡ x ∷ c → unblank (a ++ 32 ∷ b) ≡ x ∷ c ++ 32 ∷ b) → unblank (y ∷ a ++ 32 ∷ b) ≡ x ∷ c ++ 32 ∷ b
      go true h ih = unblank_yes y (a ++ 32 ∷ b) h ∙ ih (sym (unblank_yes y a h) ∙ e)
      go false h ih = unblank_no y (a ++ 32 ∷ b) h ∙ ap (λ l. l ++ 32 ∷ b) (sym (unblank_no y a h) ∙ e)

  -- the parts of a line whose first byte is no blank
  abbrev stepped : List ℕ → List Tok
  stepped l = up_to (part l) (parts (drop (width l) l))

  cut_up : (t : Tok) (us vs : List Tok) → 1 ≤ least t → us ≡ vs ++ parts b → up_to t us ≡ up_to t vs ++ parts b
  cut_up (Tok.word w) us vs h e = ap (λ ts. Tok.word w ∷ ts) e
  cut_up (Tok.number x u) us vs h e = ap (λ ts. Tok.number x u ∷ ts) e
  cut_up Tok.malformed us vs h e = ap (λ ts. Tok.malformed ∷ ts) e
  cut_up (Tok.sign s) us vs h e = ap (λ ts. Tok.sign s ∷ ts) e
  cut_up Tok.other us vs h e = ap (λ ts. Tok.other ∷ ts) e
  cut_up Tok.ends us vs h e = absurd (omega arith)

  cut : (n : ℕ) (a : List ℕ) → length a < n → parts (a ++ 32 ∷ b) ≡ parts a ++ parts b
  cut zero a h = absurd (omega arith)
  cut (suc n) a h = go (unblank a) refl (cut n)
    where
      go : (l : List ℕ) → unblank a ≡ l → ((l : List ℕ) → length l < n → parts (l ++ 32 ∷ b) ≡ parts l ++ parts b) → parts (a ++ 32 ∷ b) ≡ parts a ++ parts b
      go [] e ih = parts_step (a ++ 32 ∷ b) ∙ ap stepped (unblank_all a e) ∙ sym (parts_step b) ∙ ap (λ ts. ts ++ parts b) (sym (parts_step a ∙ ap stepped e))
      go (x ∷ c) e ih =
          let rest = drop (width (x ∷ c)) (x ∷ c) in
          let shorter : length rest < n = omega (arith, h, some_part x c, width_least (x ∷ c), length-drop (width (x ∷ c)) (x ∷ c), ap length e, length-drop (prefix_len is_blank a) a) in
          parts_step (a ++ 32 ∷ b) ∙ ap stepped (unblank_cut a x c e) ∙ (λ i. up_to (part_cut x c i) (parts (after_cut x c i))) ∙ cut_up (part (x ∷ c)) (parts (rest ++ 32 ∷ b)) (parts rest) (some_part x c) (ih rest shorter) ∙ ap (λ ts. ts ++ parts b) (sym (parts_step a ∙ ap stepped e))

pub blank_cuts : (a b : List ℕ) → parts (a ++ 32 ∷ b) ≡ parts a ++ parts b
blank_cuts a b = cut b (suc (length a)) a (omega arith)
