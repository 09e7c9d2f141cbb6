use Rattle.std.proofs.Common.{rules}
use Rattle.sets.specs.Members.{has}
use Rattle.books.specs.declared.step.Line.{Line}
use Rattle.books.specs.declared.step.Rule.{Rule}
use Rattle.books.proofs.Tested.{tested_by}
use Rattle.books.proofs.Whole.{line_places, rule_places}
use Rattle.books.proofs.book.Book.needing.Goals as goal

pub returns : goal.returns
returns c =
    let n = c.args.number in
    let b = c.args.self.now.stands in
    record {
      lines = line_places _ b n (has c.places.result) c.as_slice-lines.ensures.items (tested_by (λ (l : Line). has l.needs.entries n) _ _ (λ k x e. let r = c.places.ensures.inside k x e in search rules) c.places.ensures.outside);
      rules = rule_places _ b n (has c.places-2.result) c.as_slice-rules.ensures.items (tested_by (λ (r : Rule). has r.needs.entries n) _ _ (λ k x e. let r = c.places-2.ensures.inside k x e in search rules) c.places-2.ensures.outside);
    }
