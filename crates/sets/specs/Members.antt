-- Sets of small numbers as words.
use Rattle.std.specs.Prelude.{ℕ, Bool, ◌==◌}
use Rattle.std.specs.Int.{bit_at}
use Rattle.sets.specs.declared.Set64.{Set64}

-- bit i of the word w is 1
unfoldable pub bit : ℕ → ℕ → Bool
bit w i = bit_at w i == 1

-- i is a member of the set s
abbrev pub has : Set64 → ℕ → Bool
has s i = bit s.0 i
