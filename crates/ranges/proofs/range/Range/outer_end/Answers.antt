use Rattle.ranges.specs.Ranges.{span}
use Rattle.ranges.proofs.Calls.{pairings_within, corner_refused, corner_answered}
use Rattle.ranges.proofs.range.Range.outer_end.Goals as goal

pub returns-in_err-ll : goal.returns-in_err-ll
returns-in_err-ll g c = λ exact steps. corner_refused g.F.Grid.gauge c.args.rounding _ _ (pairings_within exact _ _).0 (steps.0 _ c.in_err-ll.ensures) _ c.from_residual.ensures.1

pub returns-in_err-lh : goal.returns-in_err-lh
returns-in_err-lh g c = λ exact steps. corner_refused g.F.Grid.gauge c.args.rounding _ _ (pairings_within exact _ _).1 (steps.1 _ c.in_err-lh.ensures) _ c.from_residual-in_err-lh.ensures.1

pub returns-in_err-hl : goal.returns-in_err-hl
returns-in_err-hl g c = λ exact steps. corner_refused g.F.Grid.gauge c.args.rounding _ _ (pairings_within exact _ _).2 (steps.2 _ c.in_err-hl.ensures) _ c.from_residual-in_err-hl.ensures.1

pub returns-in_err-hh : goal.returns-in_err-hh
returns-in_err-hh g c = λ exact steps. corner_refused g.F.Grid.gauge c.args.rounding _ _ (pairings_within exact _ _).3 (steps.3 _ c.in_err-hh.ensures) _ c.from_residual-in_err-hh.ensures.1

pub returns : goal.returns
returns g c = λ exact steps.
    let G = g.F.Grid.gauge in
    rw c.extreme_of_four.ensures (corner_answered G exact (span G c.args.self) (span G c.args.other) c.args.rounding
    c.in_ok-ll.ll c.in_ok-lh.lh c.in_ok-hl.hl c.in_ok-hh.hh
    (steps.0 _ c.in_ok-ll.ensures) (steps.1 _ c.in_ok-lh.ensures) (steps.2 _ c.in_ok-hl.ensures) (steps.3 _ c.in_ok-hh.ensures))
