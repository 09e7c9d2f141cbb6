use Rattle.std.proofs.Common.{◌≡◌, ◌-◌, ◌<◌, unsigned_abs, arith, w32, w64, SFits, to_z, of_z}
use Rattle.std.proofs.lemmas.Int.{ints}
use Rattle.std.proofs.lemmas.Int.{to_z-of_z}
use Rattle.numbers.specs.declared.sig.Sig.{Sig}
use Rattle.numbers.specs.Nearest.{ten_most, turn, near_rounded}
use Rattle.numbers.proofs.sig.working.SigCounted.nearest.Goals as goal
use Rattle.numbers.proofs.sig.working.SigCounted.nearest.Goals.{then-mantissa-ltminus999999, else-mantissa-ltminus999999+then-mantissa-gt999999}

pub invariant_of-rounded : goal.invariant_of-rounded
invariant_of-rounded c =
    let inv = rw c.loop-mantissa.mantissa-is at c.loop-mantissa.invariant in
    let p = ten_most (12 - c.loop-mantissa.exponent) (omega arith) in
    record { positive = omega arith; small = omega arith; turns = omega (arith, ints, inv.1) }

pub loop-mantissa-preserved : goal.loop-mantissa-preserved
loop-mantissa-preserved c =
    let inv = rw c.loop-mantissa.mantissa-is at c.loop-mantissa.invariant in
    let q = rw c.loop-mantissa.mantissa-is at c.rounded-mantissa.ensures in
    let large : 999999 < unsigned_abs c.loop-mantissa.mantissa = elim c.if-mantissa-ltminus999999.branch [
      | then-mantissa-ltminus999999 w ↦ omega (arith, ints)
      | else-mantissa-ltminus999999+then-mantissa-gt999999 w ↦ omega (arith, ints)
    ] in
    let step = turn c.args.rounding (to_z w64 (of_z w64 c.args.count)) c.loop-mantissa.mantissa c.rounded-mantissa.result c.loop-mantissa.exponent inv.0 inv.1 inv.2 large q in
    let back : to_z w64 (of_z w64 c.rounded-mantissa.result) ≡ c.rounded-mantissa.result = omega (arith, ints) in
    rw back step

pub returns : goal.returns
returns c =
    let whole : to_z w64 (of_z w64 c.args.count) ≡ c.args.count = omega (arith, ints) in
    let near = rw (c.loop-mantissa.mantissa-is, whole) at c.loop-mantissa.invariant in
    let fits : SFits w32 c.loop-mantissa.mantissa = omega (arith, ints) in
    near_rounded (λ (v : Sig). v.mantissa) (λ (v : Sig). v.exponent) (λ (v : Sig). v.six) c.args.rounding c.args.count _
    (rw (c.loop-mantissa.mantissa-is, to_z-of_z w32 c.loop-mantissa.mantissa fits) near.2)
