use Rattle.std.proofs.Common.{◌≡◌, ◌<◌, ◌&&◌, Bool, true, false, eqb, length, ◌+◌, sym, refl, ap, ◌∙◌, subst, arith}
use Rattle.std.proofs.Math.Bool.{or-false}
use Rattle.std.proofs.lemmas.Bool.{lt-ltb}
use Rattle.std.proofs.lemmas.Fn.{says_at}
use Rattle.std.proofs.lemmas.Option.{slice_get_read, slice_get_within}
use Rattle.std.specs.Fn.{FnReturnsAt}
use Rattle.sets.specs.Members.{has}
use Rattle.books.proofs.Tested.{Tells, tells_more}
use Rattle.books.proofs.places.places.Goals as goal
use Rattle.books.proofs.places.places.Goals.{then-test, else-test}

pub loop-i-preserved : goal.loop-i-preserved
loop-i-preserved g c =
    let i = c.loop-i.i in
    let xs = c.args.items.now in
    let x = c.index-items-i.result in
    let found = has c.loop-i.found in
    let l : i < 64 = omega arith in
    let h : i < length xs = omega arith in
    let R = FnReturnsAt g.F.Fn c.args.test in
    let at = slice_get_read xs (length xs) i x refl h c.index-items-i.is in
    let tested = λ (b : Bool) (e : c.test.result ≡ b). says_at g.F.Fn c.test.ensures e in
    elim c.if-test.branch [
      | then-test w ↦ subst (λ s. Tells R xs (has s) (i + 1)) (sym w.found-is) (tells_more R xs found (has w.plus-found.result) (has w.single.result) i x true at (tested true w.if-test.true) w.plus-found.ensures (λ k. w.single.ensures k ∙ ap (λ t. t && eqb k i) (lt-ltb i 64 l)) c.loop-i.invariant)
      | else-test w ↦ subst (λ s. Tells R xs (has s) (i + 1)) (sym w.found-is) (tells_more R xs found found (λ k. false) i x false at (tested false w.if-test.false) (λ k. sym (or-false (found k))) (λ k. refl) c.loop-i.invariant)
    ]

pub returns-clause-inside : goal.returns-clause-inside
returns-clause-inside g c =
    λ k x e. let h = slice_get_within c.args.items.now k x e in c.loop-i.invariant.inside k x (omega arith) e
