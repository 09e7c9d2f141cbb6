use Rattle.std.proofs.Common.{◌&&◌, ◌+ℤ◌, ap, ◌∙◌, to_z-of_z, SFits, w8, rules}
use Rattle.std.specs.Ordering.{int_eq}
use Rattle.books.proofs.units.squares.Goals as goal

pub returns-then-doubles : goal.returns-then-doubles
returns-then-doubles c =
    let f : SFits w8 c.args.a.0 = search rules in
    let g : SFits w8 c.args.b.0 = search rules in
    let h : SFits w8 c.args.a.1 = search rules in
    let k : SFits w8 c.args.b.1 = search rules in
    simp to_z-of_z at c.doubles-then-doubles.ensures ∙ ap (λ t. t && int_eq (c.args.a.1 +ℤ c.args.a.1) c.args.b.1) (simp to_z-of_z at c.if-doubles.ensures)
