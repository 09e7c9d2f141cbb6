use Rattle.books.specs.Drafts.{lists_of, Grows}
use Rattle.books.proofs.Standing.{within_of}
use Rattle.books.proofs.desk.Desk.add_line.Goals as goal

pub push_line-requires-clause-stands : goal.push_line-requires-clause-stands
push_line-requires-clause-stands c =
    let d = lists_of c.args.book.now in
    let st = c.requires in
    let k = c.in_ok-unit.ensures st.0 st.1 in
    (k.f, k.is_row, within_of d.entries d.lines d.rules st.0 k.f st.2 k.known, k.has_unit)

pub returns : goal.returns
returns c = λ t q.
    let k = c.in_ok-unit.ensures t q in
    let p = c.push_line.ensures in
    let short = rw c.text.ensures.text at c.text.ensures.short in
    (rw c.text.ensures.text at k.unrefused, rw (p.1, k.is_row) (Grows.line c.args.name p.0 short k.known k.has_unit (p.2 k.f k.is_row)))
