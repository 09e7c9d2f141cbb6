use Rattle.books.proofs.Growth.{words_of, line_needs, stands_line}
use Rattle.books.proofs.book.Book.push_line.Goals as goal

pub invariant_of-self : goal.invariant_of-self
invariant_of-self c =
    let s = c.args.self.now.stands in
    let needs = c.row_needs-needs in
    let more = c.as_slice-row.result.now in
    let room = rw (← c.as_slice-row.ensures.items) at c.requires.room in
    let st = rw (← c.as_slice-row.ensures.items) at c.requires.stands in
    record { stands = rw (c.push.ensures, c.extend_from_slice.ensures, c.as_slice-start.ensures.items) (stands_line _ s needs.result more st.0 st.1 st.2 (words_of _ s more st.0 needs.result c.as_slice.ensures.items st.2 st.1 needs.ensures.entries needs.ensures.lines) c.args.name c.args.unit st.3 room.0 room.1 c.as_slice-row.ensures.few) }

pub returns : goal.returns
returns c =
    let s = c.args.self.now.stands in
    let needs = c.row_needs-needs in
    let more = c.as_slice-row.result.now in
    let st = rw (← c.as_slice-row.ensures.items) at c.requires.stands in
    rw (← c.as_slice-row.ensures.items) (
      needs.result,
      rw (c.push.ensures, c.extend_from_slice.ensures, c.as_slice-start.ensures.items),
      line_needs _ s needs.result more st.0 st.1 st.2 (words_of _ s more st.0 needs.result c.as_slice.ensures.items st.2 st.1 needs.ensures.entries needs.ensures.lines),
    )
