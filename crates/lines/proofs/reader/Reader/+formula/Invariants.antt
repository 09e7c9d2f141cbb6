use Rattle.std.proofs.Common.{ℕ, ◌+◌, ◌-◌, ◌*◌, length}
use Rattle.lines.specs.declared.reader.Rank.{Rank}
use Rattle.lines.specs.declared.reader.Rank.TheVariants as rank
use Rattle.lines.specs.declared.reader.Reader.{Reader}
use Rattle.lines.specs.Reading.{ahead, written, Keeps, Moves, Reads, Joined, tight}
use Rattle.lines.proofs.reader.Reader.+formula.Given as goal

-- each call has fewer bytes left, or as many and a lower level
abbrev left_at : Reader → ℕ → ℕ
left_at r level = 8 * (length r.line.now - r.at) + level

abbrev pub level : Rank → ℕ
level rank.Sum = 3
level rank.Product = 0

abbrev pub decreases-factor : goal.decreases-factor
decreases-factor l = left_at l.self.now 0

abbrev pub decreases-operand : goal.decreases-operand
decreases-operand l = left_at l.self.now (level l.rank + 1)

abbrev pub decreases-joined : goal.decreases-joined
decreases-joined l = left_at l.self.now (level l.rank + 2)

abbrev pub decreases-product : goal.decreases-product
decreases-product l = left_at l.self.now 3

abbrev pub decreases-sum : goal.decreases-sum
decreases-sum l = left_at l.self.now 6

abbrev pub decreases-after_sign : goal.decreases-after_sign
decreases-after_sign l = left_at l.self.now 6

abbrev pub decreases-group : goal.decreases-group
decreases-group l = left_at l.self.now 7

abbrev pub decreases-pair : goal.decreases-pair
decreases-pair l = left_at l.self.now 7

-- what was read so far is joined
abbrev pub invariant-joined-loop-op : goal.invariant-joined-loop-op
invariant-joined-loop-op l =
    Reads (Joined l.rank) (tight l.rank) l.left (ahead l.fn.self) (ahead l.self) (written l.fn.self) (written l.self) × Keeps l.fn.self l.self × Moves l.fn.self l.self

abbrev pub decreases-joined-loop-op : goal.decreases-joined-loop-op
decreases-joined-loop-op l = length l.self.line.now - l.self.at
