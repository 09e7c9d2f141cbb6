use Rattle.std.proofs.Common.{append_assoc}
use Rattle.books.proofs.Growth.{words_of, both_words, rule_needs, stands_rule}
use Rattle.books.proofs.book.Book.push_rule.Goals as goal

pub invariant_of-self : goal.invariant_of-self
invariant_of-self c =
    let s = c.args.self.now.stands in
    let needs = c.plus-needs in
    let st = c.requires.stands in
    let left = words_of _ s c.args.left.now st.f c.row_needs.result c.as_slice-lines.ensures.items st.left_within st.is_left c.row_needs.ensures.entries c.row_needs.ensures.lines in
    let right = words_of _ s c.args.right.now st.g c.row_needs-2.result c.as_slice-lines.ensures.items st.right_within st.is_right c.row_needs-2.ensures.entries c.row_needs-2.ensures.lines in
    record { stands = rw (c.push.ensures, c.extend_from_slice-2.ensures, c.extend_from_slice.ensures, c.as_slice-start.ensures.items, append_assoc) (stands_rule _ s needs.result c.args.root c.args.unit c.args.left.now c.args.right.now st (both_words needs.result c.row_needs.result c.row_needs-2.result needs.ensures.entries needs.ensures.lines left right) c.args.name c.requires.room.0 c.requires.room.1.0 c.requires.room.1.1.0 c.requires.room.1.1.1) }

pub returns : goal.returns
returns c =
    let s = c.args.self.now.stands in
    let needs = c.plus-needs in
    let st = c.requires.stands in
    let left = words_of _ s c.args.left.now st.f c.row_needs.result c.as_slice-lines.ensures.items st.left_within st.is_left c.row_needs.ensures.entries c.row_needs.ensures.lines in
    let right = words_of _ s c.args.right.now st.g c.row_needs-2.result c.as_slice-lines.ensures.items st.right_within st.is_right c.row_needs-2.ensures.entries c.row_needs-2.ensures.lines in (
      needs.result,
      rw (c.push.ensures, c.extend_from_slice-2.ensures, c.extend_from_slice.ensures, c.as_slice-start.ensures.items, append_assoc),
      rule_needs _ s needs.result c.args.root c.args.unit c.args.left.now c.args.right.now st (both_words needs.result c.row_needs.result c.row_needs-2.result needs.ensures.entries needs.ensures.lines left right),
    )
