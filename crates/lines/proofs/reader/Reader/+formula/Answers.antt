use Rattle.std.proofs.Common.{[], ◌∷◌, ◌++◌, sym, refl, ap, ◌∙◌, subst, arith, rules}
use Rattle.std.proofs.lemmas.Result.{MatchResult-weaker}
use Rattle.lines.specs.declared.reader.Op.TheVariants as op
use Rattle.lines.specs.declared.token.Sign.TheVariants as signs
use Rattle.lines.specs.Tokens.{tok, least, Placed}
use Rattle.lines.specs.Grammar.{Function, Item}
use Rattle.lines.specs.Reading.{written, rank_signs, begins, text_at}
use Rattle.lines.proofs.Joins.{joined_first, joined_more, joined_refused, joined_all, after_word, relaid, unwritten, late_step, one_step, reads_number, reads_name, reads_group, group_unclosed, called, unended, reads_pair, broken, at_part}
use Rattle.lines.proofs.Lines.{no_opening}
use Rattle.lines.specs.Expected.{Paren}
use Rattle.lines.proofs.reader.Reader.+formula.Goals as goal

pub joined-loop-op-init : goal.joined-loop-op-init
joined-loop-op-init t c = (joined_first c.args.rank c.in_ok-operand.ensures.reads, search rules, search rules)

pub joined-returns-in_default-clause-reads : goal.joined-returns-in_default-clause-reads
joined-returns-in_default-clause-reads t c = joined_all c.args.rank c.loop-op.invariant.0 (ap (begins (rank_signs c.args.rank)) c.next_token-after.ensures.parts ∙ c.in_default.ensures _)

pub joined-returns-in_err-after_sign-clause-reads : goal.joined-returns-in_err-after_sign-clause-reads
joined-returns-in_err-after_sign-clause-reads t c =
    let a = c.in-Some.ensures in
    broken _ _ _ _ c.from_residual-in_err-after_sign.ensures.1 (joined_refused c.args.rank c.in-Some.op _ c.loop-op.invariant.0 (at_part _ c.next_token-after.ensures.parts a.1) a.2 c.in_err-after_sign.ensures.reads)

pub joined-loop-op-preserved : goal.joined-loop-op-preserved
joined-loop-op-preserved t c =
    let a = c.in-Some.ensures in
    let sign = c.next_token-after.ensures in
    let more = c.in_ok-after_sign.ensures in
    (joined_more c.args.rank c.in-Some.op c.loop-op.invariant.0 (at_part _ sign.parts a.1) a.2 more.reads (one_step _ _ _ _ c.push.ensures.items), search rules, (omega (arith, sign.moves, more.moves.1.0), omega (arith, sign.moves, ap least a.1, more.moves.1.1)))

pub factor-returns-in-Number-clause-reads : goal.factor-returns-in-Number-clause-reads
factor-returns-in-Number-clause-reads t c = reads_number (at_part _ c.next.ensures.part (ap tok c.in-Number.is)) (late_step _ c.next.ensures.takes c.push.ensures.items)

pub factor-returns-in-Name-clause-reads : goal.factor-returns-in-Name-clause-reads
factor-returns-in-Name-clause-reads t c =
    let line = c.next.new.self.line.now in
    let lies = subst (Placed line) c.in-Word.is c.next.ensures.lies in
    let text = lies ∙ sym (ap (text_at line) c.into.ensures) in
    reads_name (at_part _ c.next.ensures.part (ap tok c.in-Word.is)) (sym c.in-Name.ensures) (late_step _ c.next.ensures.takes c.push-in-Name.ensures.items ∙ ap (λ w. written c.args.self.now ++ Item.name w ∷ []) (sym text))

pub factor-returns-in-Min-clause-reads : goal.factor-returns-in-Min-clause-reads
factor-returns-in-Min-clause-reads t c =
    let called = subst (λ x. Function x op.Min) c.in-Min.ensures Function.least in
    after_word c.args.left c.pair.new.self c.pair.result (at_part _ c.next.ensures.part (ap tok c.in-Word.is)) c.next.ensures.takes (c.pair.ensures.reads c.in-Word.word.text.now called)

pub factor-returns-in-Max-clause-reads : goal.factor-returns-in-Max-clause-reads
factor-returns-in-Max-clause-reads t c =
    let called = subst (λ x. Function x op.Max) c.in-Max.ensures Function.greatest in
    after_word c.args.left c.pair-in-Max.new.self c.pair-in-Max.result (at_part _ c.next.ensures.part (ap tok c.in-Word.is)) c.next.ensures.takes (c.pair-in-Max.ensures.reads c.in-Word.word.text.now called)

pub group-returns-clause-reads : goal.group-returns-clause-reads
group-returns-clause-reads t c =
    MatchResult-weaker c.expect.result c.expect.ensures.sign (λ _ e. relaid (reads_group c.if-left-eq0.false c.in_ok-sum.ensures.reads e) refl (unwritten c.expect.ensures.takes)) (λ e p. group_unclosed e c.if-left-eq0.false c.in_ok-sum.ensures.reads p.0 p.1)

pub pair-returns-in_err-expect-clause-reads : goal.pair-returns-in_err-expect-clause-reads
pair-returns-in_err-expect-clause-reads t c = λ w f. broken _ _ _ _ c.from_residual.ensures.1 (λ side ps h. grind (arith, called w f, no_opening))

pub pair-returns-then-left-eq0-clause-reads : goal.pair-returns-then-left-eq0-clause-reads
pair-returns-then-left-eq0-clause-reads t c = λ w f side ps h. grind (arith, called w f)

pub pair-returns-in_err-sum-clause-reads : goal.pair-returns-in_err-sum-clause-reads
pair-returns-in_err-sum-clause-reads t c = λ w f. broken _ _ _ _ c.from_residual-in_err-sum.ensures.1 (λ side ps h. grind (arith, called w f, c.in_err-sum.ensures.reads side (Paren.first ∷ ps)))

pub pair-returns-in_err-expect-2-clause-reads : goal.pair-returns-in_err-expect-2-clause-reads
pair-returns-in_err-expect-2-clause-reads t c =
    let first = c.in_ok-sum.ensures.reads in
    λ w f. broken _ _ _ _ c.from_residual-in_err-expect-2.ensures.1 (λ side ps h. grind (arith, called w f, first.goes side (Paren.first ∷ ps), unended side (Paren.first ∷ ps) signs.Comma _ refl refl _ first.stops c.in_err-expect-2.ensures.sign.1))

pub pair-returns-in_err-sum-2-clause-reads : goal.pair-returns-in_err-sum-2-clause-reads
pair-returns-in_err-sum-2-clause-reads t c =
    let first = c.in_ok-sum.ensures.reads in
    λ w f. broken _ _ _ _ c.from_residual-in_err-sum-2.ensures.1 (λ side ps h. grind (arith, called w f, first.goes side (Paren.first ∷ ps), c.in_err-sum-2.ensures.reads side (Paren.second ∷ ps)))

pub pair-returns-in_err-expect-3-clause-reads : goal.pair-returns-in_err-expect-3-clause-reads
pair-returns-in_err-expect-3-clause-reads t c =
    let first = c.in_ok-sum.ensures.reads in
    let second = c.in_ok-sum-2.ensures.reads in
    λ w f. broken _ _ _ _ c.from_residual-in_err-expect-3.ensures.1 (λ side ps h. grind (arith, called w f, first.goes side (Paren.first ∷ ps), second.goes side (Paren.second ∷ ps), unended side (Paren.second ∷ ps) signs.Close _ refl refl _ second.stops c.in_err-expect-3.ensures.sign.1))

pub pair-returns-clause-reads : goal.pair-returns-clause-reads
pair-returns-clause-reads t c =
    let first = relaid c.in_ok-sum.ensures.reads (unwritten c.expect.ensures.takes) refl in
    let second = relaid c.in_ok-sum-2.ensures.reads (unwritten c.expect-2.ensures.takes) (unwritten c.expect-3.ensures.takes) in
    λ w f. reads_pair w f c.if-left-eq0.false c.in_ok-expect.ensures.sign first c.in_ok-expect-2.ensures.sign second c.in_ok-expect-3.ensures.sign (one_step _ _ _ _ c.push.ensures.items)
