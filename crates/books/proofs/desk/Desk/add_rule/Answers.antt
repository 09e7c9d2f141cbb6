use Rattle.std.proofs.Common.{length, take, drop, ap, ◌∙◌, arith, length-take}
use Rattle.books.specs.Drafts.{lists_of, look_in, Grows}
use Rattle.books.proofs.Refusals.{steps_count}
use Rattle.books.proofs.Standing.{within_of}
use Rattle.books.proofs.desk.Desk.add_rule.Goals as goal

pub split_at-requires : goal.split_at-requires
split_at-requires c =
    let st = c.requires in
    let k = c.in_ok-unit.ensures st.0 st.1 st.2 st.3 in
    omega (arith, length-take c.args.split c.check_rule.new.self.row, ap length k.is_left, steps_count (look_in (lists_of c.args.book.now)) st.0 k.f k.known_left, st.3, ap length c.as_slice.ensures.items)

pub push_rule-requires-clause-stands : goal.push_rule-requires-clause-stands
push_rule-requires-clause-stands c =
    let d = lists_of c.args.book.now in
    let st = c.requires in
    let k = c.in_ok-unit.ensures st.0 st.1 st.2 st.3 in
    record {
      f = k.f;
      g = k.g;
      is_left = c.split_at.ensures.front ∙ ap (take c.args.split) c.as_slice.ensures.items ∙ k.is_left;
      is_right = c.split_at.ensures.back ∙ ap (drop c.args.split) c.as_slice.ensures.items ∙ k.is_right;
      left_within = within_of d.entries d.lines d.rules st.0 k.f st.4 k.known_left;
      right_within = within_of d.entries d.lines d.rules st.1 k.g st.5 k.known_right;
      left_unit = k.left_unit;
      other = k.b;
      right_unit = k.right_unit;
      agrees = k.agrees;
    }

pub returns : goal.returns
returns c = λ t u q at.
    let k = c.in_ok-unit.ensures t u q at in
    let is_left = c.split_at.ensures.front ∙ ap (take c.args.split) c.as_slice.ensures.items ∙ k.is_left in
    let is_right = c.split_at.ensures.back ∙ ap (drop c.args.split) c.as_slice.ensures.items ∙ k.is_right in
    let p = c.push_rule.ensures in
    let short = rw c.text.ensures.text at c.text.ensures.short in
    (rw c.text.ensures.text at k.unrefused, rw (p.1, is_left, is_right) (Grows.rule c.args.name p.0 short k.known_left k.known_right k.left_unit (p.2 k.f k.g is_left is_right)))
