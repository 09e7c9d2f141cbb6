use Rattle.std.proofs.Common.{◌≡◌, Bool, false, ℤ, None, Some, Option, sym, ap, ◌∙◌, subst, to_z-of_z, SFits, FitsSigned, w8, arith, rules}
use Rattle.std.proofs.lemmas.Bool.{and_left, and_right}
use Rattle.std.proofs.lemmas.Int.{ints}
use Rattle.std.specs.Bool.{then_some}
use Rattle.books.specs.Units.{small, small_unit, each_exponent}
use Rattle.books.proofs.units.combined.Goals as goal

-- what an `i8` cannot hold is not small
not_small : (z : ℤ) → (FitsSigned w8 z → ⊥) → small z ≡ false
not_small z h = grind (arith, ints)

-- a unit that is tested and passed on
if_small : (u v : ℤ × ℤ) (t : Bool) (r : Option (ℤ × ℤ)) → u ≡ v → t ≡ small_unit u → r ≡ then_some t u → r ≡ then_some (small_unit v) v
if_small u v t r e f h = subst (λ w. r ≡ then_some (small_unit w) w) e (h ∙ ap (λ b. then_some b u) f)

pub returns-in_err-by : goal.returns-in_err-by
returns-in_err-by g c =
    let f : SFits w8 c.args.a.0 = search rules in
    let h : SFits w8 c.args.b.0 = search rules in
    let u = each_exponent g.exact c.args.a c.args.b in
    let e = and_left (small u.0) (small u.1) (not_small u.0 (c.requires.1.1.0 None (simp to_z-of_z at c.in_err-by.ensures))) in
    c.from_residual.ensures ∙ sym (ap (λ t. then_some t u) e)

pub returns-in_err-by-2 : goal.returns-in_err-by-2
returns-in_err-by-2 g c =
    let f : SFits w8 c.args.a.1 = search rules in
    let h : SFits w8 c.args.b.1 = search rules in
    let u = each_exponent g.exact c.args.a c.args.b in
    let e = and_right (small u.0) (small u.1) (not_small u.1 (c.requires.1.1.1 None (simp to_z-of_z at c.in_err-by-2.ensures))) in
    c.from_residual-in_err-by-2.ensures ∙ sym (ap (λ t. then_some t u) e)

pub returns : goal.returns
returns g c =
    let f : SFits w8 c.args.a.0 = search rules in
    let h : SFits w8 c.args.b.0 = search rules in
    let k : SFits w8 c.args.a.1 = search rules in
    let l : SFits w8 c.args.b.1 = search rules in
    let x : SFits w8 c.in_ok-by.field-0 = search rules in
    let y : SFits w8 c.in_ok-by-2.field-0 = search rules in
    let p = c.requires.1.1.0 (Some c.in_ok-by.field-0) (simp to_z-of_z at c.in_ok-by.ensures) in
    let q = c.requires.1.1.1 (Some c.in_ok-by-2.field-0) (simp to_z-of_z at c.in_ok-by-2.ensures) in
    if_small (c.in_ok-by.field-0, c.in_ok-by-2.field-0) (each_exponent g.exact c.args.a c.args.b) _ _ (λ i. (p.1 i, q.1 i)) (simp to_z-of_z at c.within_reach.ensures) (simp to_z-of_z at c.then_some.ensures)
