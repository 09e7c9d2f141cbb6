use Rattle.std.proofs.Common.{◌≡◌, ℕ, List, take, sym, ap, ◌∙◌, subst, rules}
use Rattle.std.specs.Char.{is_ascii_digit}
use Rattle.std.specs.List.{prefix_len}
use Rattle.std.specs.Str.Parse.{AllDigits}
use Rattle.lines.proofs.Counts.{digits_run}
use Rattle.lines.proofs.number.split_digits.Goals as goal

digits_front : (bs ds : List ℕ) (n : ℕ) → ds ≡ take n bs → n ≡ prefix_len is_ascii_digit bs → AllDigits 10 ds
digits_front bs ds n front len = subst (AllDigits 10) (sym (front ∙ ap (λ k. take k bs) len)) (digits_run bs)

pub returns-clause-digits : goal.returns-clause-digits
returns-clause-digits c = search (rules, digits_front)
