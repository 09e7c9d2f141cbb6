use Rattle.std.proofs.Common.{true, [], ◌∷◌, sym, ap, ◌∙◌, subst, arith}
use Rattle.std.proofs.lemmas.Result.{MatchResult-weaker}
use Rattle.lines.specs.declared.token.Sign.TheVariants as signs
use Rattle.lines.specs.Tokens.{Tok}
use Rattle.lines.specs.Grammar.{Sum, Right}
use Rattle.lines.specs.Reading.{ahead}
use Rattle.lines.specs.Expected.{Paren, Side}
use Rattle.lines.proofs.Joins.{relaid, unwritten}
use Rattle.lines.proofs.Lines.{not_over}
use Rattle.lines.proofs.reader.Reader.under_root.Goals as goal

pub returns-clause-reads : goal.returns-clause-reads
returns-clause-reads c =
    let r = relaid c.in_ok-sum.ensures.reads (unwritten c.expect.ensures.takes) (unwritten c.expect-2.ensures.takes) in
    let start = c.in_ok-expect.ensures.sign in
    let close = c.in_ok-expect-2.ensures.sign in
    MatchResult-weaker c.end.result c.end.ensures (
    λ _ e. (
      (r.tree, (λ w is. subst (λ x. Right (Tok.word w ∷ x) true r.tree) (sym start) (Right.rooted is (subst (λ x. Sum (ahead c.expect.new.self) x r.tree) (close ∙ ap (λ x. Tok.sign signs.Close ∷ x) e) r.reading))), r.steps),
      grind (arith, r.goes Side.right (Paren.root ∷ [])),
    )
    ) (λ e p. grind (arith, r.goes Side.right (Paren.root ∷ []), not_over))
