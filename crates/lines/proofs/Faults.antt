-- The refusals of the table are the faults of the grammar.
use Rattle.std.proofs.Common.{◌≡◌, ℕ, suc, ◌+◌, ◌-◌, ◌<◌, ◌≤◌, Bool, true, false, cond, eqb, ◌⊎◌, List, [], ◌∷◌, ◌++◌, length, is_ok, Ok, Err, codes, Result, sym, refl, ap, ◌∙◌, subst, inl, inr, ⊎_elim, append_assoc, append-nil, arith, ltb-false, ltb-true, le-ltb, lt-ltb, ne_eqb, eqb-true, MatchResult}
use Rattle.std.proofs.lemmas.Bool.{false≢true}
use Rattle.lines.specs.declared.reader.Raw.{Raw}
use Rattle.lines.specs.declared.refusal.Refusal.{Refusal}
use Rattle.lines.specs.declared.refusal.Refusal.TheVariants as refusal
use Rattle.lines.specs.declared.statement.Statement.{Statement}
use Rattle.lines.specs.declared.statement.Statement.TheVariants as st
use Rattle.lines.specs.declared.token.Sign.TheVariants as signs
use Rattle.lines.specs.declared.word.Word.{Word}
use Rattle.lines.specs.declared.word.Word.TheVariants as words
use Rattle.lines.specs.Tokens.{Tok, parts}
use Rattle.lines.specs.Words.{word_of}
use Rattle.lines.specs.Grammar.{Item, Stated, Line}
use Rattle.lines.specs.Expected.{Kind, Paren, Side, State, Move, kind_of, word_kind, kind_number, same, among, operands, table, leave, at_end, move_on, few, outcome_in, outcome}
use Rattle.lines.specs.Reading.{items, code, plain, Adds, Read, Ends}
use Rattle.lines.specs.Faults.{Begins, now_open, open_after, ShallowFrom, Shallow, some_number, stands, Clean, Fault, Refused}
use Rattle.lines.proofs.Joins.{follow, sign_low}
use Rattle.lines.proofs.Grammar.{line_runs, lines_sound, is_sign}

-- any number of parentheses
abbrev always : ℕ → Bool
always n = true

-- parts that close the open parentheses and end the line
closing : List Paren → Side → List Tok
closing [] Side.whole = []
closing [] Side.right = []
closing [] Side.left = Tok.sign signs.AtMost ∷ some_number ∷ []
closing (Paren.group ∷ ps) side = Tok.sign signs.Close ∷ closing ps side
closing (Paren.first ∷ ps) side = Tok.sign signs.Comma ∷ some_number ∷ Tok.sign signs.Close ∷ closing ps side
closing (Paren.second ∷ ps) side = Tok.sign signs.Close ∷ closing ps side
closing (Paren.root ∷ ps) side = Tok.sign signs.Close ∷ []

closes : (ps : List Paren) (side : Side) → outcome_in always (State.operator side ps) (closing ps side) ≡ 0
unfolding closing
closes [] Side.whole = refl
closes [] Side.right = refl
closes [] Side.left = refl
closes (Paren.group ∷ ps) side = closes ps side
closes (Paren.first ∷ ps) side = closes ps side
closes (Paren.second ∷ ps) side = closes ps side
closes (Paren.root ∷ ps) side = refl

-- every state can be left for the end of a line
completion : (s : State) → (rest : List Tok) × (outcome_in always s rest ≡ 0)
unfolding closing
completion State.start = ([], refl)
completion State.entry_name = (Tok.word (codes "x") ∷ Tok.word (codes "in") ∷ [], refl)
completion State.entry_unit = (Tok.word (codes "in") ∷ [], refl)
completion State.line_name = (Tok.word (codes "x") ∷ Tok.sign signs.Equals ∷ some_number ∷ [], refl)
completion State.equals = (Tok.sign signs.Equals ∷ some_number ∷ [], refl)
completion State.rule_name = (Tok.word (codes "x") ∷ Tok.sign signs.Colon ∷ some_number ∷ Tok.sign signs.AtMost ∷ some_number ∷ [], refl)
completion State.colon = (Tok.sign signs.Colon ∷ some_number ∷ Tok.sign signs.AtMost ∷ some_number ∷ [], refl)
completion State.right_side = (some_number ∷ [], refl)
completion (State.operand side ps) = (some_number ∷ closing ps side, closes ps side)
completion (State.opening k side ps) = (Tok.sign signs.Open ∷ some_number ∷ closing (k ∷ ps) side, closes (k ∷ ps) side)
completion (State.operator side ps) = (closing ps side, closes ps side)
completion State.done = ([], refl)

-- how many parentheses are open in a state
abbrev height : State → ℕ
height State.start = 0
height State.entry_name = 0
height State.entry_unit = 0
height State.line_name = 0
height State.equals = 0
height State.rule_name = 0
height State.colon = 0
height State.right_side = 0
height (State.operand side ps) = length ps
height (State.opening k side ps) = length ps
height (State.operator side ps) = length ps
height State.done = 0

-- a root is the outermost parenthesis
Based : List Paren → Type 0
Based [] = Unit {0}
Based (Paren.group ∷ ps) = Based ps
Based (Paren.first ∷ ps) = Based ps
Based (Paren.second ∷ ps) = Based ps
Based (Paren.root ∷ ps) = length ps ≡ 0

Well : State → Type 0
Well State.start = Unit {0}
Well State.entry_name = Unit {0}
Well State.entry_unit = Unit {0}
Well State.line_name = Unit {0}
Well State.equals = Unit {0}
Well State.rule_name = Unit {0}
Well State.colon = Unit {0}
Well State.right_side = Unit {0}
Well (State.operand side ps) = Based ps
Well (State.opening k side ps) = Based (k ∷ ps)
Well (State.operator side ps) = Based ps
Well State.done = Unit {0}

-- what a move from s by a kind with the number r does to the open parentheses
Good : State → ℕ → Move → Type 0
Good s r (Move.to next) = (eqb r 4 ≡ false) × Well next × (height next ≡ cond (eqb r 5) (height s - 1) (height s))
Good s r (Move.enter k side ps) = (eqb r 4 ≡ true) × Based (k ∷ ps) × (length ps ≡ height s)
Good s r (Move.refuse x) = (x ≡ 2) ⊎ (eqb r 18 ≡ true)

Rows : (ℕ → Move → Type 0) → List (Kind × Move) → Type 0
Rows P [] = Unit {0}
Rows P (row ∷ rows) = P (kind_number row.0) row.1 × Rows P rows

-- what holds of each row, and of the refusal where there is none, holds of the move
each : (P : ℕ → Move → Type 0) (rows : List (Kind × Move)) (k : Kind) → Rows P rows → P (kind_number k) (Move.refuse 2) → P (kind_number k) (among rows k)
unfolding Rows
each P [] k r n = n
each P (row ∷ rows) k r n = go (each P rows k r.1 n) (same k row.0) refl
  where
    go : P (kind_number k) (among rows k) → (b : Bool) → same k row.0 ≡ b → P (kind_number k) (cond b row.1 (among rows k))
    go rest true e = subst (λ x. P x row.1) (sym (eqb-true (kind_number k) (kind_number row.0) e)) r.0
    go rest false e = rest

operands_good : (s : State) (side : Side) (ps : List Paren) → length ps ≡ height s → Based ps → Rows (Good s) (operands side ps)
unfolding Rows Good Well Based
operands_good s side ps h b = ((refl, b, h), ((refl, b, h), ((refl, b, h), ((refl, b, h), (inr refl, tt)))))

leave_good : (side : Side) (ps : List Paren) → Based ps → Rows (Good (State.operator side ps)) (leave ps side)
unfolding Rows Good Well Based
leave_good Side.whole [] b = tt
leave_good Side.left [] b = ((refl, tt, refl), tt)
leave_good Side.right [] b = tt
leave_good side (Paren.group ∷ ps) b = ((refl, b, omega arith), tt)
leave_good side (Paren.first ∷ ps) b = ((refl, b, refl), tt)
leave_good side (Paren.second ∷ ps) b = ((refl, b, omega arith), tt)
leave_good side (Paren.root ∷ ps) b = ((refl, tt, omega (arith, b)), tt)

table_good : (s : State) → Well s → Rows (Good s) (table s)
unfolding Rows Good Well Based
table_good State.start w = ((refl, tt, refl), ((refl, tt, refl), ((refl, tt, refl), tt)))
table_good State.entry_name w = ((refl, tt, refl), tt)
table_good State.entry_unit w = ((refl, tt, refl), tt)
table_good State.line_name w = ((refl, tt, refl), tt)
table_good State.equals w = ((refl, tt, refl), tt)
table_good State.rule_name w = ((refl, tt, refl), tt)
table_good State.colon w = ((refl, tt, refl), tt)
table_good State.right_side w = ((refl, refl, refl), operands_good State.right_side Side.right [] refl tt)
table_good (State.operand side ps) w = operands_good (State.operand side ps) side ps refl w
table_good (State.opening k side ps) w = ((refl, w, refl), tt)
table_good (State.operator side ps) w = ((refl, w, refl), ((refl, w, refl), ((refl, w, refl), ((refl, w, refl), leave_good side ps w))))
table_good State.done w = tt

good : (s : State) (k : Kind) → Well s → Good s (kind_number k) (move_on s k)
unfolding Good
good s k w = each (Good s) (table s) k (table_good s w) (inl refl)

-- a malformed number is refused with 4 where a number may come, and else with 2
numbers : (s : State) → ((move_on s Kind.malformed ≡ Move.refuse 4) × ((next : State) × (move_on s Kind.number ≡ Move.to next))) ⊎ ((move_on s Kind.malformed ≡ Move.refuse 2) × (move_on s Kind.number ≡ Move.refuse 2))
numbers State.start = inr (refl, refl)
numbers State.entry_name = inr (refl, refl)
numbers State.entry_unit = inr (refl, refl)
numbers State.line_name = inr (refl, refl)
numbers State.equals = inr (refl, refl)
numbers State.rule_name = inr (refl, refl)
numbers State.colon = inr (refl, refl)
numbers State.right_side = inl (refl, (_, refl))
numbers (State.operand side ps) = inl (refl, (_, refl))
numbers (State.opening k side ps) = inr (refl, refl)
numbers (State.operator Side.whole []) = inr (refl, refl)
numbers (State.operator Side.left []) = inr (refl, refl)
numbers (State.operator Side.right []) = inr (refl, refl)
numbers (State.operator side (Paren.group ∷ ps)) = inr (refl, refl)
numbers (State.operator side (Paren.first ∷ ps)) = inr (refl, refl)
numbers (State.operator side (Paren.second ∷ ps)) = inr (refl, refl)
numbers (State.operator side (Paren.root ∷ ps)) = inr (refl, refl)
numbers State.done = inr (refl, refl)

-- the line may end, or it is refused with 2
at_end_lem : (s : State) → (at_end s ≡ 0) ⊎ (at_end s ≡ 2)
at_end_lem State.start = inl refl
at_end_lem State.entry_name = inr refl
at_end_lem State.entry_unit = inr refl
at_end_lem State.line_name = inr refl
at_end_lem State.equals = inr refl
at_end_lem State.rule_name = inr refl
at_end_lem State.colon = inr refl
at_end_lem State.right_side = inr refl
at_end_lem (State.operand side ps) = inr refl
at_end_lem (State.opening k side ps) = inr refl
at_end_lem (State.operator Side.whole []) = inl refl
at_end_lem (State.operator Side.left []) = inr refl
at_end_lem (State.operator Side.right []) = inl refl
at_end_lem (State.operator side (p ∷ ps)) = inr refl
at_end_lem State.done = inl refl

-- only a malformed number has that kind
word_formed : (x : Word) → eqb (kind_number (word_kind x)) 18 ≡ false
word_formed words.Entry = refl
word_formed words.Line = refl
word_formed words.Rule = refl
word_formed words.Root = refl
word_formed words.Min = refl
word_formed words.Max = refl
word_formed (words.Unit u) = refl
word_formed words.Name = refl
word_formed words.Other = refl

-- what a part does in a state
data Turn (s : State) (t : Tok) : Type 0 where
  goes : (next : State) → move_on s (kind_of t) ≡ Move.to next → same (kind_of t) (Kind.sign signs.Open) ≡ false → stands t ≡ t → Well next → height next ≡ now_open (height s) t → height next ≤ height s → Turn s t
  opens : (k : Paren) (side : Side) (ps : List Paren) → move_on s (kind_of t) ≡ Move.enter k side ps → t ≡ Tok.sign signs.Open → Based (k ∷ ps) → length ps ≡ height s → Turn s t
  stops : move_on s (kind_of t) ≡ Move.refuse 2 → move_on s (kind_of (stands t)) ≡ Move.refuse 2 → Turn s t
  spoils : (next : State) → t ≡ Tok.malformed → move_on s Kind.malformed ≡ Move.refuse 4 → move_on s Kind.number ≡ Move.to next → Turn s t

lower : (b : Bool) (n : ℕ) → cond b (n - 1) n ≤ n
lower true n = omega arith
lower false n = omega arith

formed : (s : State) (t : Tok) → Well s → stands t ≡ t → eqb (kind_number (kind_of t)) 18 ≡ false → Turn s t
unfolding Good
formed s t w as_is right = go (move_on s (kind_of t)) refl (good s (kind_of t) w)
  where
    go : (m : Move) → move_on s (kind_of t) ≡ m → Good s (kind_number (kind_of t)) m → Turn s t
    go (Move.to next) e g = goes next e g.0 as_is g.1 (g.2 ∙ ap (λ b. cond b (height s + 1) (cond (eqb (kind_number (kind_of t)) 5) (height s - 1) (height s))) (sym g.0)) (subst (λ n. n ≤ height s) (sym g.2) (lower (eqb (kind_number (kind_of t)) 5) (height s)))
    go (Move.enter k side ps) e g = ⊎_elim (λ q. opens k side ps e q g.1 g.2) (λ q. absurd (false≢true (sym q ∙ g.0))) (is_sign signs.Open t)
    go (Move.refuse x) e (inl q) = stops (e ∙ ap Move.refuse q) (ap (λ y. move_on s (kind_of y)) as_is ∙ e ∙ ap Move.refuse q)
    go (Move.refuse x) e (inr q) = absurd (false≢true (sym right ∙ q))

turn : (s : State) (t : Tok) → Well s → Turn s t
turn s (Tok.word v) w = formed s (Tok.word v) w refl (word_formed (word_of v))
turn s (Tok.number n u) w = formed s (Tok.number n u) w refl refl
turn s Tok.malformed w = ⊎_elim (λ p. spoils p.1.0 refl p.0 p.1.1) (λ p. stops p.0 p.1) (numbers s)
turn s (Tok.sign x) w = formed s (Tok.sign x) w refl (ne_eqb _ _ (λ e. omega (arith, e, sign_low x)))
turn s Tok.other w = formed s Tok.other w refl refl
turn s Tok.ends w = formed s Tok.ends w refl refl

-- counting the open parentheses, one part more at the end

open_more : (n : ℕ) (ts : List Tok) (t : Tok) → open_after n (ts ++ t ∷ []) ≡ now_open (open_after n ts) t
open_more n [] t = refl
open_more n (x ∷ ts) t = open_more (now_open n x) ts t

shallow_more : (n : ℕ) (ts : List Tok) (t : Tok) → ShallowFrom n ts → now_open (open_after n ts) t ≤ 16 → ShallowFrom n (ts ++ t ∷ [])
shallow_more n [] t s h = (s, h)
shallow_more n (x ∷ ts) t s h = (s.0, shallow_more (now_open n x) ts t s.1 h)

shallow_first : (n : ℕ) (ts : List Tok) → ShallowFrom n ts → n ≤ 16
shallow_first n [] s = s
shallow_first n (t ∷ ts) s = s.0

shallow_last : (n : ℕ) (ts : List Tok) → ShallowFrom n ts → open_after n ts ≤ 16
shallow_last n [] s = s
shallow_last n (t ∷ ts) s = shallow_last (now_open n t) ts s.1

-- the parts lead from the start to a state, with at most 16 parentheses open
record Reached (ts : List Tok) (s : State) : Type 0 where
  wide : (rest : List Tok) → outcome_in always State.start (ts ++ rest) ≡ outcome_in always s rest
  narrow : (rest : List Tok) → outcome State.start (ts ++ rest) ≡ outcome s rest
  well : Well s
  high : open_after 0 ts ≡ height s
  shallow : Shallow ts

at_start : Reached [] State.start
unfolding Well
at_start = record { wide = λ rest. refl; narrow = λ rest. refl; well = tt; high = refl; shallow = omega arith }

low : {ts : List Tok} {s : State} → Reached ts s → height s ≤ 16
low {ts} r = subst (λ n. n ≤ 16) r.high (shallow_last 0 ts r.shallow)

further : {ts : List Tok} {s : State} (t : Tok) (next : State) → Reached ts s → ((rest : List Tok) → outcome_in always s (t ∷ rest) ≡ outcome_in always next rest) → ((rest : List Tok) → outcome s (t ∷ rest) ≡ outcome next rest) → Well next → height next ≡ now_open (height s) t → height next ≤ 16 → Reached (ts ++ t ∷ []) next
further {ts} {s} t next r a f w h l =
    let more : now_open (open_after 0 ts) t ≡ height next = ap (λ n. now_open n t) r.high ∙ sym h in
    record {
      wide = λ rest. ap (outcome_in always State.start) (append_assoc ts (t ∷ []) rest) ∙ r.wide (t ∷ rest) ∙ a rest;
      narrow = λ rest. ap (outcome State.start) (append_assoc ts (t ∷ []) rest) ∙ r.narrow (t ∷ rest) ∙ f rest;
      well = w;
      high = open_more 0 ts t ∙ more;
      shallow = shallow_more 0 ts t r.shallow (subst (λ n. n ≤ 16) (sym more) l);
    }

by_move : {ts : List Tok} {s : State} (t : Tok) (next : State) → Reached ts s → move_on s (kind_of t) ≡ Move.to next → Well next → height next ≡ now_open (height s) t → height next ≤ height s → Reached (ts ++ t ∷ []) next
by_move {s = s} t next r e w h l = further t next r (λ rest. follow always s t rest _ e) (λ rest. follow few s t rest _ e) w h (omega (arith, low r))

by_opening : {ts : List Tok} {s : State} (t : Tok) (k : Paren) (side : Side) (ps : List Paren) → Reached ts s → move_on s (kind_of t) ≡ Move.enter k side ps → t ≡ Tok.sign signs.Open → Based (k ∷ ps) → length ps ≡ height s → length ps < 16 → Reached (ts ++ t ∷ []) (State.operand side (k ∷ ps))
unfolding Well
by_opening {s = s} t k side ps r e q b h l =
    let deeper : suc (length ps) ≡ now_open (height s) (Tok.sign signs.Open) = omega arith in
    further t (State.operand side (k ∷ ps)) r (λ rest. follow always s t rest _ e) (λ rest. follow few s t rest _ e ∙ ap (λ x. cond x (outcome (State.operand side (k ∷ ps)) rest) 3) (lt-ltb (length ps) 16 l)) b (deeper ∙ ap (now_open (height s)) (sym q)) (omega arith)

-- parts that lead to a state begin a line, and so with one more that it takes
begun : {ts : List Tok} {s : State} → Reached ts s → Begins ts
begun {ts} {s} r =
    let c = completion s in
    let l = lines_sound always (ts ++ c.0) (r.wide c.0 ∙ c.1) in
    (c.0, l.0, l.1)

begun_more : {ts : List Tok} {s : State} (t : Tok) (next : State) → Reached ts s → ((rest : List Tok) → outcome_in always s (t ∷ rest) ≡ outcome_in always next rest) → Begins (ts ++ t ∷ [])
begun_more {ts} t next r a =
    let c = completion next in
    let l = lines_sound always (ts ++ t ∷ c.0) (r.wide (t ∷ c.0) ∙ a c.0 ∙ c.1) in
    (c.0, l.0, subst (λ z. Line z l.0) (sym (append_assoc ts (t ∷ []) c.0)) l.1)

clean : {ts : List Tok} {s : State} → Reached ts s → Clean ts
clean r = (begun r, r.shallow)

-- but not with one that it refuses
none_begins : {ts : List Tok} {s : State} (t : Tok) → Reached ts s → move_on s (kind_of t) ≡ Move.refuse 2 → Begins (ts ++ t ∷ []) → ⊥
none_begins {ts} {s} t r e b =
    let l = subst (λ z. Line z b.1) (append_assoc ts (t ∷ []) b.0) b.2 in
    let two = r.wide (t ∷ b.0) ∙ follow always s t b.0 _ e in
    ⊎_elim (λ h. omega (arith, h, two)) (λ h. omega (arith, h, two)) (line_runs always l)

wide_end : {ts : List Tok} {s : State} → Reached ts s → outcome_in always State.start ts ≡ at_end s
wide_end {ts} r = sym (ap (outcome_in always State.start) (append-nil ts)) ∙ r.wide []

narrow_end : {ts : List Tok} {s : State} → Reached ts s → outcome State.start ts ≡ at_end s
narrow_end {ts} r = sym (ap (outcome State.start) (append-nil ts)) ∙ r.narrow []

-- parts have no refusal and few open parentheses, or a fault with its refusal
abbrev Judged : List Tok → Type 0
Judged ts = ((outcome State.start ts ≡ 0) × Shallow ts) ⊎ ((e : Refusal) × Fault ts e × (outcome State.start ts ≡ code e))

judge_end : {ts : List Tok} {s : State} → Reached ts s → Judged ts
judge_end {ts} {s} r =
    ⊎_elim
    (λ e. inl (narrow_end r ∙ e, r.shallow))
    (λ e. inr (refusal.Grammar, Fault.ends (clean r) (λ x l. ⊎_elim (λ h. omega (arith, h, e, wide_end r)) (λ h. omega (arith, h, e, wide_end r)) (line_runs always l)), narrow_end r ∙ e))
    (at_end_lem s)

judge_part : {ts : List Tok} {s : State} (t : Tok) (us : List Tok) → Reached ts s → Turn s t → ((next : State) → Reached (ts ++ t ∷ []) next → Judged (ts ++ t ∷ us)) → Judged (ts ++ t ∷ us)
judge_part t us r (goes next e o a w h l) again = again next (by_move t next r e w h l)
judge_part {ts} {s} t us r (opens k side ps e q b h) again = go (few (length ps)) refl
  where
    go : (x : Bool) → few (length ps) ≡ x → Judged (ts ++ t ∷ us)
    go true f = again (State.operand side (k ∷ ps)) (by_opening t k side ps r e q b h (ltb-true (length ps) 16 f))
    go false f = inr (refusal.Nesting, Fault.nesting ts us (ap (λ x. ts ++ x ∷ us) q) (clean r) (subst (λ x. Begins (ts ++ x ∷ [])) q (begun_more t (State.operand side (k ∷ ps)) r (λ rest. follow always s t rest _ e))) (omega (arith, r.high, h, low r, ltb-false (length ps) 16 f)), r.narrow (t ∷ us) ∙ follow few s t us _ e ∙ ap (λ x. cond x (outcome (State.operand side (k ∷ ps)) us) 3) f)
judge_part {ts} {s} t us r (stops e f) again = inr (refusal.Grammar, Fault.part ts us t refl (clean r) (none_begins (stands t) r f), r.narrow (t ∷ us) ∙ follow few s t us _ e)
judge_part {ts} {s} t us r (spoils next q e f) again = inr (refusal.Digits, Fault.digits ts us (ap (λ x. ts ++ x ∷ us) q) (clean r) (begun_more some_number next r (λ rest. follow always s some_number rest _ f)), r.narrow (t ∷ us) ∙ follow few s t us _ (ap (λ x. move_on s (kind_of x)) q ∙ e))

judge : (us : List Tok) {ts : List Tok} {s : State} → Reached ts s → Judged (ts ++ us)
judge [] {ts} r = subst Judged (sym (append-nil ts)) (judge_end r)
judge (t ∷ us) {ts} {s} r = judge_part t us r (turn s t r.well) (λ next q. subst Judged (append_assoc ts (t ∷ []) us) (judge us q))

-- refusals differ in their numbers
decode : ℕ → Refusal
decode n = cond (eqb n 1) refusal.Text (cond (eqb n 2) refusal.Grammar (cond (eqb n 3) refusal.Nesting refusal.Digits))

decodes : (e : Refusal) → decode (code e) ≡ e
unfolding decode
decodes refusal.Text = refl
decodes refusal.Grammar = refl
decodes refusal.Nesting = refl
decodes refusal.Digits = refl

pub same_code : (d e : Refusal) → code d ≡ code e → d ≡ e
same_code d e h = sym (decodes d) ∙ ap decode h ∙ decodes e

pub some_code : (e : Refusal) → 0 < code e
some_code refusal.Text = omega arith
some_code refusal.Grammar = omega arith
some_code refusal.Nesting = omega arith
some_code refusal.Digits = omega arith

-- a refusal of the table is a fault
pub faulted : (ts : List Tok) (e : Refusal) → outcome State.start ts ≡ code e → Fault ts e
faulted ts e h =
    ⊎_elim
    (λ p. absurd (omega (arith, p.0, h, some_code e)))
    (λ p. subst (Fault ts) (same_code p.0 e (sym p.2 ∙ h)) p.1)
    (judge ts at_start)

-- parts that the table takes have few open parentheses
pub shallow_line : (ts : List Tok) → outcome State.start ts ≡ 0 → Shallow ts
shallow_line ts h = ⊎_elim (λ p. p.1) (λ p. absurd (omega (arith, p.2, h, some_code p.0))) (judge ts at_start)

-- parts with no fault lead to a state

walk_part : {ts : List Tok} {s : State} (t : Tok) (us rest : List Tok) → Reached ts s → Turn s t → (outcome_in always s (t ∷ rest) ≡ 0) ⊎ (outcome_in always s (t ∷ rest) ≡ 3) → ShallowFrom (now_open (height s) t) us → (next : State) × Reached (ts ++ t ∷ []) next × ((outcome_in always next rest ≡ 0) ⊎ (outcome_in always next rest ≡ 3)) × ShallowFrom (height next) us
walk_part {s = s} t us rest r (goes next e o a w h l) g k = (next, by_move t next r e w h l, subst (λ x. (x ≡ 0) ⊎ (x ≡ 3)) (follow always s t rest _ e) g, subst (λ n. ShallowFrom n us) (sym h) k)
walk_part {ts} {s} t us rest r (opens k side ps e q b h) g f =
    let n : now_open (height s) t ≡ suc (length ps) = ap (now_open (height s)) q ∙ omega arith in
    (State.operand side (k ∷ ps), by_opening t k side ps r e q b h (omega (arith, n, shallow_first (now_open (height s) t) us f)), subst (λ x. (x ≡ 0) ⊎ (x ≡ 3)) (follow always s t rest _ e) g, subst (λ n. ShallowFrom n us) n f)
walk_part {s = s} t us rest r (stops e f) g k = absurd (let two = follow always s t rest _ e in ⊎_elim (λ h. omega (arith, h, two)) (λ h. omega (arith, h, two)) g)
walk_part {s = s} t us rest r (spoils next q e f) g k = absurd (let four = follow always s t rest _ (ap (λ x. move_on s (kind_of x)) q ∙ e) in ⊎_elim (λ h. omega (arith, h, four)) (λ h. omega (arith, h, four)) g)

walk : (us rest : List Tok) {ts : List Tok} {s : State} → Reached ts s → (outcome_in always s (us ++ rest) ≡ 0) ⊎ (outcome_in always s (us ++ rest) ≡ 3) → ShallowFrom (height s) us → (next : State) × Reached (ts ++ us) next
walk [] rest {ts} {s} r g k = (s, subst (λ x. Reached x s) (sym (append-nil ts)) r)
walk (t ∷ us) rest {ts} {s} r g k =
    let p = walk_part t us (us ++ rest) r (turn s t r.well) g k.1 in
    let q = walk us rest p.1 p.2 p.3 in
    (q.0, subst (λ x. Reached x q.0) (append_assoc ts (t ∷ []) us) q.1)

reached : (ts : List Tok) → Clean ts → (s : State) × Reached ts s
reached ts c = walk ts c.0.0 at_start (line_runs always c.0.2) c.1

-- a line with few open parentheses is taken
pub line_shallow : (ts : List Tok) (s : Stated) → Line ts s → Shallow ts → outcome State.start ts ≡ 0
line_shallow ts s l k =
    let p = reached ts (([], s, subst (λ x. Line x s) (sym (append-nil ts)) l), k) in
    ⊎_elim (λ e. narrow_end p.1 ∙ e) (λ e. absurd (⊎_elim (λ h. omega (arith, h, e, wide_end p.1)) (λ h. omega (arith, h, e, wide_end p.1)) (line_runs always l))) (at_end_lem p.0)

-- the refusal of a part, after parts that lead to a state

part_only : {ts : List Tok} {s : State} (t : Tok) (us : List Tok) → Reached ts s → Turn s t → (Begins (ts ++ stands t ∷ []) → ⊥) → outcome State.start (ts ++ t ∷ us) ≡ 2
part_only {ts} {s} t us r (goes next e o a w h l) c = absurd (c (subst (λ x. Begins (ts ++ x ∷ [])) (sym a) (begun_more t next r (λ rest. follow always s t rest _ e))))
part_only {ts} {s} t us r (opens k side ps e q b h) c = absurd (c (subst (λ x. Begins (ts ++ x ∷ [])) (q ∙ ap stands (sym q)) (begun_more t (State.operand side (k ∷ ps)) r (λ rest. follow always s t rest _ e))))
part_only {s = s} t us r (stops e f) c = r.narrow (t ∷ us) ∙ follow few s t us _ e
part_only {ts} {s} t us r (spoils next q e f) c = absurd (c (subst (λ x. Begins (ts ++ stands x ∷ [])) (sym q) (begun_more some_number next r (λ rest. follow always s some_number rest _ f))))

nesting_only : {ts : List Tok} {s : State} (us : List Tok) → Reached ts s → Turn s (Tok.sign signs.Open) → Begins (ts ++ Tok.sign signs.Open ∷ []) → open_after 0 ts ≡ 16 → outcome State.start (ts ++ Tok.sign signs.Open ∷ us) ≡ 3
nesting_only us r (goes next e o a w h l) b n = cc
nesting_only {s = s} us r (opens k side ps e q x h) b n = r.narrow (Tok.sign signs.Open ∷ us) ∙ follow few s (Tok.sign signs.Open) us _ e ∙ ap (λ y. cond y (outcome (State.operand side (k ∷ ps)) us) 3) (le-ltb (length ps) 16 (omega (arith, r.high, h, n)))
nesting_only us r (stops e f) b n = absurd (none_begins (Tok.sign signs.Open) r e b)
nesting_only us r (spoils next q e f) b n = absurd (false≢true cc)

digits_only : {ts : List Tok} {s : State} (us : List Tok) → Reached ts s → Begins (ts ++ some_number ∷ []) → outcome State.start (ts ++ Tok.malformed ∷ us) ≡ 4
digits_only {s = s} us r b = ⊎_elim (λ p. r.narrow (Tok.malformed ∷ us) ∙ follow few s Tok.malformed us _ p.0) (λ p. absurd (none_begins some_number r p.1 b)) (numbers s)

-- a fault is refused by the table
pub fault_only : (ts : List Tok) (e : Refusal) → Fault ts e → outcome State.start ts ≡ code e
fault_only ts e (Fault.part before after t q c n) =
    let p = reached before c in
    ap (outcome State.start) q ∙ part_only t after p.1 (turn p.0 t p.1.well) n
fault_only ts e (Fault.ends c n) =
    let p = reached ts c in
    ⊎_elim (λ z. let l = lines_sound few ts (narrow_end p.1 ∙ z) in absurd (n l.0 l.1)) (λ z. narrow_end p.1 ∙ z) (at_end_lem p.0)
fault_only ts e (Fault.nesting before after q c b n) =
    let p = reached before c in
    ap (outcome State.start) q ∙ nesting_only after p.1 (turn p.0 (Tok.sign signs.Open) p.1.well) b n
fault_only ts e (Fault.digits before after q c b) = ap (outcome State.start) q ∙ digits_only after (reached before c).1 b

-- the refusals of a line

-- no fault is one of the text
formless : {ts : List Tok} {e : Refusal} → Fault ts e → e ≡ refusal.Text → ⊥
formless (Fault.part before after t q c n) h = false≢true cc
formless (Fault.ends c n) h = false≢true cc
formless (Fault.nesting before after q c b n) h = false≢true cc
formless (Fault.digits before after q c b) h = false≢true cc

refused_by : (line : List ℕ) (e : Refusal) → plain line ≡ true → Fault (parts line) e → Refused line e
refused_by line refusal.Text p f = absurd (formless f refl)
refused_by line refusal.Grammar p f = (p, f)
refused_by line refusal.Nesting p f = (p, f)
refused_by line refusal.Digits p f = (p, f)

refused_code : (line : List ℕ) (e : Refusal) → plain line ≡ true → Refused line e → outcome State.start (parts line) ≡ code e
refused_code line refusal.Text p r = cc
refused_code line refusal.Grammar p r = fault_only (parts line) refusal.Grammar r.1
refused_code line refusal.Nesting p r = fault_only (parts line) refusal.Nesting r.1
refused_code line refusal.Digits p r = fault_only (parts line) refusal.Digits r.1

-- a line that is not plain is refused for its text alone
text_only : (line : List ℕ) → plain line ≡ false → (e : Refusal) → Refused line e → refusal.Text ≡ e
text_only line p refusal.Text r = refl
text_only line p refusal.Grammar r = cc (sym p ∙ r.0)
text_only line p refusal.Nesting r = cc (sym p ∙ r.0)
text_only line p refusal.Digits r = cc (sym p ∙ r.0)

-- what the table says of a plain line
pub settled : (line now : List ℕ) (r : Result Statement Refusal) (before : List Item) (xs ys : List Raw) → plain line ≡ true → before ≡ [] → now ≡ line → ys ≡ xs → Ends State.start (parts line) r (λ s. Adds line before (items now xs) (parts line) s) → MatchResult r (λ s. Read line (items line ys) (parts line) s × (plain line ≡ true) × Shallow (parts line)) (λ e. Refused line e)
settled line now (Ok x) before xs ys p b q e h = (subst {A = List Item × List Item} (λ l. Adds line l.0 l.1 (parts line) x) (λ i. (b i, items (q i) (sym e i))) h.0, p, shallow_line (parts line) h.1)
settled line now (Err d) before xs ys p b q e h = refused_by line d p (faulted (parts line) d h)

-- a line with few open parentheses is not refused
unrefused : (line : List ℕ) (e : Refusal) → plain line ≡ true → Refused line e → (s : Stated) → Line (parts line) s → Shallow (parts line) → ⊥
unrefused line e p r s l w = omega (arith, refused_code line e p r, line_shallow (parts line) s l w, some_code e)

pub accepted : (line : List ℕ) (r : Result Statement Refusal) (P : Statement → Type 0) → MatchResult r P (λ e. Refused line e) → (s : Stated) → plain line ≡ true → Line (parts line) s → Shallow (parts line) → is_ok r ≡ true
accepted line (Ok x) P h s p l w = refl
accepted line (Err d) P h s p l w = absurd (unrefused line d p h s l w)

-- a line has one refusal
one_refusal : (line : List ℕ) (d e : Refusal) → Refused line d → Refused line e → d ≡ e
one_refusal line refusal.Text e r f = text_only line r e f
one_refusal line refusal.Grammar e r f = same_code refusal.Grammar e (sym (refused_code line refusal.Grammar r.0 r) ∙ refused_code line e r.0 f)
one_refusal line refusal.Nesting e r f = same_code refusal.Nesting e (sym (refused_code line refusal.Nesting r.0 r) ∙ refused_code line e r.0 f)
one_refusal line refusal.Digits e r f = same_code refusal.Digits e (sym (refused_code line refusal.Digits r.0 r) ∙ refused_code line e r.0 f)

-- what is read is a line
stated : (line : List ℕ) (steps : List Item) (ts : List Tok) (x : Statement) → Read line steps ts x → (s : Stated) × Line ts s
stated line steps ts st.Blank r = (_, r.0)
stated line steps ts (st.Entry n u) r = (_, r.0)
stated line steps ts (st.Line n) r = (_, r.1)
stated line steps ts (st.Rule n root split) r = (_, r.2)

pub refused_once : (line : List ℕ) (steps : List Item) (r : Result Statement Refusal) → MatchResult r (λ s. Read line steps (parts line) s × (plain line ≡ true) × Shallow (parts line)) (λ e. Refused line e) → (e : Refusal) → Refused line e → r ≡ Err e
refused_once line steps (Ok x) h e f =
    let l = stated line steps (parts line) x h.0 in
    absurd (unrefused line e h.1 f l.0 l.1 h.2)
refused_once line steps (Err d) h e f = ap Err (one_refusal line d e h f)
