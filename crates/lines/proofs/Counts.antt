-- The values of digits, and how large they are.
use Rattle.std.proofs.Common.{◌≡◌, ℕ, zero, suc, ◌+◌, ◌-◌, ◌*◌, ◌^◌, ◌<◌, ◌≤◌, Bool, true, false, cond, ◌&&◌, List, [], ◌∷◌, length, take, sym, refl, ap, ◌∙◌, subst, arith, one-add}
use Rattle.std.specs.Str.Parse.{AllDigits, digits_value}
use Rattle.std.specs.Char.{is_ascii_digit}
use Rattle.std.specs.List.{prefix_len}
use Rattle.std.proofs.lemmas.Int.Digits.{digits_value-lt, digits_value_more}
use Rattle.std.proofs.lemmas.List.{take_all}
use Rattle.std.proofs.lemmas.Str.Parse.{numerals_by_value, tells_digits, digits_value_short, tells_all_ascii_digits, digit_at, digits_value-take-le}
use Rattle.std.proofs.lemmas.Str.{digit_value_digit}

-- up to 6 digits write a number below a million
pub six_digits : (ds : List ℕ) → AllDigits 10 ds → length ds ≤ 6 → digits_value 10 ds < 1000000
six_digits ds = digits_value_short (numerals_by_value (AllDigits 10) tells_digits) ds 6

-- up to 3 decimals count less than a whole
pub decimals_small : (ds : List ℕ) → AllDigits 10 ds → length ds ≤ 3 → digits_value 10 ds * 10 ^ (3 - length ds) < 1000
decimals_small ds d h = go (length ds) (digits_value 10 ds) h (digits_value-lt 10 ds d)
  where
    go : (k v : ℕ) → k ≤ 3 → v < 10 ^ k → v * 10 ^ (3 - k) < 1000
    go zero v h l = omega arith
    go (suc zero) v h l = omega arith
    go (suc (suc zero)) v h l = omega arith
    go (suc (suc (suc zero))) v h l = omega arith
    go (suc (suc (suc (suc k)))) v h l = absurd (omega arith)

-- what a loop over digits needs, and a count of thousandths
pub ruleset digit_steps = (six_digits, decimals_small, digits_value-take-le, digits_value_more, digit_at, digit_value_digit, take_all)

-- the digits at the front
pub digits_run : (bs : List ℕ) → AllDigits 10 (take (prefix_len is_ascii_digit bs) bs)
digits_run [] = tt
digits_run (b ∷ bs) = go (is_ascii_digit b) refl (digits_run bs)
  where
    go : (t : Bool) → is_ascii_digit b ≡ t → AllDigits 10 (take (prefix_len is_ascii_digit bs) bs) → AllDigits 10 (take (cond t (1 + prefix_len is_ascii_digit bs) 0) (b ∷ bs))
    go true e rest =
        let digit = tells_all_ascii_digits.parts b [] (ap (λ t. t && true) e) in
        rw one-add (omega (arith, digit_value_digit b digit.0), rest)
    go false e rest = tt
