use Rattle.std.proofs.Common.{◌≡◌, ◌++◌, length, drop}
use Rattle.std.specs.Option.{option_map}
use Rattle.lines.specs.Reading.{items}
use Rattle.books.specs.Names.{resolved}
use Rattle.books.specs.Drafts.{lists_of, look_in}
use Rattle.books.proofs.desk.Desk.resolve.Given as goal

abbrev pub invariant-loop-x : goal.invariant-loop-x
invariant-loop-x l =
    let look = look_in (lists_of l.book) in
    (resolved look (items l.line l.x-items) ≡ option_map (λ more. l.row ++ more) (resolved look (items l.line (drop l.x-index l.x-items)))) × (length l.row ≡ l.x-index)
