-- How the readings of parts join to the reading of a whole, and how the refusal of a part is that of the whole.
use Rattle.std.proofs.Common.{◌≡◌, ℕ, ◌-◌, ◌<◌, ◌≤◌, Bool, true, false, cond, ◌||◌, eqb, List, [], ◌∷◌, ◌++◌, length, ℤ, IsErrAnd, Ok, Err, Result, sym, refl, ap, ◌∙◌, subst, append_assoc, arith, ne_eqb, vec_items, MatchResult}
use Rattle.std.proofs.lemmas.Bool.{false≢true}
use Rattle.std.proofs.lemmas.List.{map_push}
use Rattle.std.proofs.lemmas.Result.{MatchResult-weaker}
use Rattle.lines.specs.declared.reader.Op.{Op}
use Rattle.lines.specs.declared.reader.Rank.{Rank}
use Rattle.lines.specs.declared.reader.Rank.TheVariants as rank
use Rattle.lines.specs.declared.reader.Raw.{Raw}
use Rattle.lines.specs.declared.reader.Reader.{Reader}
use Rattle.lines.specs.declared.refusal.Refusal.{Refusal}
use Rattle.lines.specs.declared.refusal.Refusal.TheVariants as refusal
use Rattle.lines.specs.declared.token.Sign.{Sign}
use Rattle.lines.specs.declared.token.Sign.TheVariants as signs
use Rattle.lines.specs.declared.word.Word.{Word}
use Rattle.lines.specs.declared.word.Word.TheVariants as words
use Rattle.lines.specs.Tokens.{Tok, up_to}
use Rattle.lines.specs.Words.{word_of}
use Rattle.lines.specs.Grammar.{Tree, Additive, Multiplicative, Function, Sum, Product, Factor, Item, postfix}
use Rattle.lines.specs.Expected.{Kind, Paren, Side, State, Move, kind_of, word_kind, sign_number, kind_number, same, among, table, leave, side_end, at_end, move_on, outcome_in, few, outcome}
use Rattle.lines.specs.Reading.{item, items, is_one, joins, begins, Reads, Refuses, Operand, Joined, rank_signs, Binds, tight, ahead, written, Takes, Formula}

-- the rest of a line after a move
abbrev pub then : (ℕ → Bool) → List Tok → Move → ℕ
then room ts (Move.to next) = outcome_in room next ts
then room ts (Move.enter k side ps) = cond (room (length ps)) (outcome_in room (State.operand side (k ∷ ps)) ts) 3
then room ts (Move.refuse r) = r

pub follow : (room : ℕ → Bool) (s : State) (t : Tok) (ts : List Tok) (m : Move) → move_on s (kind_of t) ≡ m → outcome_in room s (t ∷ ts) ≡ then room ts m
follow room s t ts m e = go (move_on s (kind_of t)) ∙ ap (then room ts) e
  where
    go : (x : Move) → (elim x [ Move.to next ↦ outcome_in room next ts | Move.enter k side ps ↦ cond (room (length ps)) (outcome_in room (State.operand side (k ∷ ps)) ts) 3 | Move.refuse r ↦ r ]) ≡ then room ts x
    go (Move.to next) = refl
    go (Move.enter k side ps) = refl
    go (Move.refuse r) = refl

-- a word moves on by its kind
pub by_word : (room : ℕ → Bool) (s : State) (w : List ℕ) {x : Word} (ts : List Tok) → word_of w ≡ x → outcome_in room s (Tok.word w ∷ ts) ≡ then room ts (move_on s (word_kind x))
by_word room s w ts e = follow room s (Tok.word w) ts _ (ap (λ y. move_on s (word_kind y)) e)

none_begins : (ts : List Tok) → begins [] ts ≡ false
none_begins [] = refl
none_begins (Tok.word w ∷ ts) = refl
none_begins (Tok.number n u ∷ ts) = refl
none_begins (Tok.malformed ∷ ts) = refl
none_begins (Tok.sign s ∷ ts) = refl
none_begins (Tok.other ∷ ts) = refl
none_begins (Tok.ends ∷ ts) = refl

-- kinds and their numbers

pub sign_low : (s : Sign) → sign_number s < 10
sign_low signs.Plus = omega arith
sign_low signs.Minus = omega arith
sign_low signs.Times = omega arith
sign_low signs.Over = omega arith
sign_low signs.Open = omega arith
sign_low signs.Close = omega arith
sign_low signs.Comma = omega arith
sign_low signs.Equals = omega arith
sign_low signs.Colon = omega arith
sign_low signs.AtMost = omega arith

word_high : (x : Word) → 10 ≤ kind_number (word_kind x)
word_high words.Entry = omega arith
word_high words.Line = omega arith
word_high words.Rule = omega arith
word_high words.Root = omega arith
word_high words.Min = omega arith
word_high words.Max = omega arith
word_high (words.Unit u) = omega arith
word_high words.Name = omega arith
word_high words.Other = omega arith

-- the sign of a number
ranked : ℕ → Sign
ranked n =
    cond (eqb n 0) signs.Plus (cond (eqb n 1) signs.Minus (cond (eqb n 2) signs.Times (cond (eqb n 3) signs.Over (cond (eqb n 4) signs.Open (cond (eqb n 5) signs.Close (cond (eqb n 6) signs.Comma (cond (eqb n 7) signs.Equals (cond (eqb n 8) signs.Colon signs.AtMost))))))))

ranked_is : (s : Sign) → ranked (sign_number s) ≡ s
unfolding ranked
ranked_is signs.Plus = refl
ranked_is signs.Minus = refl
ranked_is signs.Times = refl
ranked_is signs.Over = refl
ranked_is signs.Open = refl
ranked_is signs.Close = refl
ranked_is signs.Comma = refl
ranked_is signs.Equals = refl
ranked_is signs.Colon = refl
ranked_is signs.AtMost = refl

pub rank_tells : (a b : Sign) → sign_number a ≡ sign_number b → a ≡ b
rank_tells a b e = sym (ranked_is a) ∙ ap ranked e ∙ ranked_is b

-- a part that is not the sign s
pub not_sign : (s : Sign) (t : Tok) → (t ≡ Tok.sign s → ⊥) → same (kind_of t) (Kind.sign s) ≡ false
not_sign s (Tok.word w) c = ne_eqb _ _ (λ e. omega (arith, e, sign_low s, word_high (word_of w)))
not_sign s (Tok.number n u) c = ne_eqb _ _ (λ e. omega (arith, e, sign_low s))
not_sign s Tok.malformed c = ne_eqb _ _ (λ e. omega (arith, e, sign_low s))
not_sign s (Tok.sign x) c = ne_eqb _ _ (λ e. c (ap Tok.sign (rank_tells x s e)))
not_sign s Tok.other c = ne_eqb _ _ (λ e. omega (arith, e, sign_low s))
not_sign s Tok.ends c = ne_eqb _ _ (λ e. omega (arith, e, sign_low s))

-- none of the rows is for the kind
unfoldable pub Off : List (Kind × Move) → Kind → Type 0
Off [] k = Unit {0}
Off (row ∷ rows) k = (same k row.0 ≡ false) × Off rows k

pub missed : (rows : List (Kind × Move)) (k : Kind) → Off rows k → among rows k ≡ Move.refuse 2
unfolding Off
missed [] k o = refl
missed (row ∷ rows) k o = ap (λ b. cond b row.1 (among rows k)) o.0 ∙ missed rows k o.1

or_left : (a b : Bool) → (a || b) ≡ false → a ≡ false
or_left true b e = e
or_left false b e = refl

or_right : (a b : Bool) → (a || b) ≡ false → b ≡ false
or_right true b e = cc
or_right false b e = e

-- where no sign of the list begins the parts, the first part is of no such kind
begins_off : (s : Sign) (ss : List Sign) (t : Tok) (ts : List Tok) → begins (s ∷ ss) (t ∷ ts) ≡ false → same (kind_of t) (Kind.sign s) ≡ false
begins_off s ss (Tok.word w) ts e = not_sign s (Tok.word w) (λ q. false≢true cc)
begins_off s ss (Tok.number n u) ts e = not_sign s (Tok.number n u) (λ q. false≢true cc)
begins_off s ss Tok.malformed ts e = not_sign s Tok.malformed (λ q. false≢true cc)
begins_off s ss (Tok.sign x) ts e = or_left (eqb (sign_number x) (sign_number s)) (is_one x ss) e
begins_off s ss Tok.other ts e = not_sign s Tok.other (λ q. false≢true cc)
begins_off s ss Tok.ends ts e = not_sign s Tok.ends (λ q. false≢true cc)

begins_rest : (s : Sign) (ss : List Sign) (ts : List Tok) → begins (s ∷ ss) ts ≡ false → begins ss ts ≡ false
begins_rest s ss [] e = refl
begins_rest s ss (Tok.word w ∷ ts) e = refl
begins_rest s ss (Tok.number n u ∷ ts) e = refl
begins_rest s ss (Tok.malformed ∷ ts) e = refl
begins_rest s ss (Tok.sign x ∷ ts) e = or_right (eqb (sign_number x) (sign_number s)) (is_one x ss) e
begins_rest s ss (Tok.other ∷ ts) e = refl
begins_rest s ss (Tok.ends ∷ ts) e = refl

-- refused with 2 at the first part, or at the end
pub refused : (s : State) (ts : List Tok) → at_end s ≡ 2 → ((t : Tok) (us : List Tok) → ts ≡ t ∷ us → Off (table s) (kind_of t)) → outcome s ts ≡ 2
refused s [] e o = e
refused s (t ∷ ts) e o = follow few s t ts _ (missed (table s) (kind_of t) (o t ts refl))

-- a state that only one sign can leave
pub lone_sign : (s : State) (x : Sign) (m : Move) → table s ≡ (Kind.sign x, m) ∷ [] → at_end s ≡ 2 → (ts : List Tok) → ((us : List Tok) → ts ≡ Tok.sign x ∷ us → ⊥) → outcome s ts ≡ 2
unfolding Off
lone_sign s x m e a ts c = refused s ts a (λ t us q. subst (λ rows. Off rows (kind_of t)) (sym e) (not_sign x t (λ r. c us (q ∙ ap (λ y. y ∷ us) r)), tt))

-- after a sum that no sign goes on with
joined_off : (side : Side) (ps : List Paren) (t : Tok) (us : List Tok) → begins joins (t ∷ us) ≡ false → Off (leave ps side) (kind_of t) → Off (table (State.operator side ps)) (kind_of t)
unfolding Off
joined_off side ps t us j₀ o =
    let j₁ = begins_rest signs.Plus (signs.Minus ∷ signs.Times ∷ signs.Over ∷ []) (t ∷ us) j₀ in
    let j₂ = begins_rest signs.Minus (signs.Times ∷ signs.Over ∷ []) (t ∷ us) j₁ in
    let j₃ = begins_rest signs.Times (signs.Over ∷ []) (t ∷ us) j₂ in
    (begins_off signs.Plus (signs.Minus ∷ signs.Times ∷ signs.Over ∷ []) t us j₀, (begins_off signs.Minus (signs.Times ∷ signs.Over ∷ []) t us j₁, (begins_off signs.Times (signs.Over ∷ []) t us j₂, (begins_off signs.Over [] t us j₃, o))))

-- nor the one that is wanted
pub unended : (side : Side) (ps : List Paren) (x : Sign) (m : Move) → leave ps side ≡ (Kind.sign x, m) ∷ [] → side_end ps side ≡ 2 → (ts : List Tok) → begins joins ts ≡ false → ((us : List Tok) → ts ≡ Tok.sign x ∷ us → ⊥) → outcome (State.operator side ps) ts ≡ 2
unfolding Off
unended side ps x m e a ts j c =
    refused (State.operator side ps) ts a (
    λ t us q.
    joined_off side ps t us (ap (begins joins) (sym q) ∙ j) (subst (λ rows. Off rows (kind_of t)) (sym e) (not_sign x t (λ r. c us (q ∙ ap (λ y. y ∷ us) r)), tt))
    )

-- signs of one rank

sum_sign : {s : Sign} {o : Op} → Additive s o → (side : Side) (ps : List Paren) (us : List Tok) → outcome (State.operator side ps) (Tok.sign s ∷ us) ≡ outcome (State.operand side ps) us
sum_sign Additive.plus side ps us = refl
sum_sign Additive.minus side ps us = refl

product_sign : {s : Sign} {o : Op} → Multiplicative s o → (side : Side) (ps : List Paren) (us : List Tok) → outcome (State.operator side ps) (Tok.sign s ∷ us) ≡ outcome (State.operand side ps) us
product_sign Multiplicative.times side ps us = refl
product_sign Multiplicative.over side ps us = refl

rank_sign : (k : Rank) (s : Sign) (o : Op) → Binds k s o → (side : Side) (ps : List Paren) (us : List Tok) → outcome (State.operator side ps) (Tok.sign s ∷ us) ≡ outcome (State.operand side ps) us
rank_sign rank.Sum s o a = sum_sign a
rank_sign rank.Product s o a = product_sign a

lone : (k : Rank) (ts us : List Tok) (t : Tree) → Operand k ts us t → Joined k ts us t
lone rank.Sum ts us t p = Sum.product p
lone rank.Product ts us t p = Product.factor p

link : (k : Rank) (ts us vs : List Tok) (t u : Tree) (s : Sign) (o : Op) → Joined k ts (Tok.sign s ∷ us) t → Binds k s o → Operand k us vs u → Joined k ts vs (Tree.join o t u)
link rank.Sum ts us vs t u s o r a p = Sum.add r a p
link rank.Product ts us vs t u s o r a p = Product.multiply r a p

join_steps : (b x y : List Item) (o : Op) (m n z : List Item) → m ≡ b ++ x → n ≡ m ++ y → z ≡ n ++ Item.join o ∷ [] → z ≡ b ++ (x ++ (y ++ (Item.join o ∷ [])))
join_steps b x y o m n z e₁ e₂ e₃ =
    e₃ ∙ ap (λ l. l ++ Item.join o ∷ []) (e₂ ∙ ap (λ l. l ++ y) e₁) ∙ append_assoc (b ++ x) y (Item.join o ∷ []) ∙ append_assoc b x (y ++ (Item.join o ∷ []))

pub joined_first : (k : Rank) {left : ℕ} {from rest : List Tok} {b n : List Item} → Reads (Operand k) (tight k) left from rest b n → Reads (Joined k) (tight k) left from rest b n
joined_first k {from = from} {rest = rest} r = record { tree = r.tree; reading = lone k from rest r.tree r.reading; stops = r.stops; steps = r.steps; goes = r.goes }

pub joined_more : (k : Rank) {left : ℕ} {from tail us rest : List Tok} {b m n z : List Item} {s : Sign} (o : Op) → Reads (Joined k) (tight k) left from tail b m → tail ≡ Tok.sign s ∷ us → Binds k s o → Reads (Operand k) (tight k) left us rest m n → z ≡ n ++ Item.join o ∷ [] → Reads (Joined k) (tight k) left from rest b z
joined_more k {from = from} {us = us} {rest = rest} {b = b} {m = m} {n = n} {z = z} {s = s} o r e a p f =
    record {
      tree = Tree.join o r.tree p.tree;
      reading = link k from us rest r.tree p.tree s o (subst (λ ts. Joined k from ts r.tree) e r.reading) a p.reading;
      stops = p.stops;
      steps = join_steps b (postfix r.tree) (postfix p.tree) o m n z r.steps p.steps f;
      goes = λ side ps h. r.goes side ps h ∙ ap (outcome (State.operator side ps)) e ∙ rank_sign k s o a side ps us ∙ p.goes side ps h;
    }

pub joined_refused : (k : Rank) {left : ℕ} {from tail us : List Tok} {b m : List Item} {s : Sign} (o : Op) (e : Refusal) → Reads (Joined k) (tight k) left from tail b m → tail ≡ Tok.sign s ∷ us → Binds k s o → Refuses left us e → Refuses left from e
joined_refused k {us = us} {s = s} o e r q a f side ps h = r.goes side ps h ∙ ap (outcome (State.operator side ps)) q ∙ rank_sign k s o a side ps us ∙ f side ps h

one_of_both : (s : Sign) (ss rs : List Sign) → is_one s ss ≡ false → is_one s rs ≡ false → is_one s (ss ++ rs) ≡ false
one_of_both s [] rs e f = f
one_of_both s (x ∷ ss) rs e f = ap (λ p. p || is_one s (ss ++ rs)) (or_left (eqb (sign_number s) (sign_number x)) (is_one s ss) e) ∙ one_of_both s ss rs (or_right (eqb (sign_number s) (sign_number x)) (is_one s ss) e) f

-- where neither of two lists of signs goes on, both together do not
neither : (ss rs : List Sign) (ts : List Tok) → begins ss ts ≡ false → begins rs ts ≡ false → begins (ss ++ rs) ts ≡ false
neither ss rs [] f a = refl
neither ss rs (Tok.word w ∷ ts) f a = refl
neither ss rs (Tok.number n u ∷ ts) f a = refl
neither ss rs (Tok.malformed ∷ ts) f a = refl
neither ss rs (Tok.sign s ∷ ts) f a = one_of_both s ss rs f a
neither ss rs (Tok.other ∷ ts) f a = refl
neither ss rs (Tok.ends ∷ ts) f a = refl

pub joined_all : (k : Rank) {left : ℕ} {from rest : List Tok} {b n : List Item} → Reads (Joined k) (tight k) left from rest b n → begins (rank_signs k) rest ≡ false → Reads (Joined k) (rank_signs k ++ tight k) left from rest b n
joined_all k {rest = rest} r e = record { tree = r.tree; reading = r.reading; stops = neither (rank_signs k) (tight k) rest e r.stops; steps = r.steps; goes = r.goes }

-- the steps of a reading, from the steps before parts that write none to the steps after such parts
pub relaid : {R : List Tok → List Tok → Tree → Type 0} {on : List Sign} {left : ℕ} {from rest : List Tok} {b m n z : List Item} → Reads R on left from rest m n → m ≡ b → z ≡ n → Reads R on left from rest b z
relaid r e f = record { tree = r.tree; reading = r.reading; stops = r.stops; steps = f ∙ r.steps ∙ ap (λ l. l ++ postfix r.tree) e; goes = r.goes }

pub unwritten : {before after : Reader} → Takes before after → written after ≡ written before
unwritten t = λ i. items (t.keeps.0 i) (vec_items (t.steps i).raw)

-- a factor that begins with a word
pub after_word : (left : ℕ) {before mid : Reader} (after : Reader) {X : Type 0} (r : Result X Refusal) {w : List ℕ} → ahead before ≡ Tok.word w ∷ ahead mid → Takes before mid → Formula Factor [] left (Tok.word w ∷ ahead mid) r mid after → Formula Factor [] left (ahead before) r before after
after_word left {before} after r e t h =
    subst (λ from. Formula Factor [] left from r before after) (sym e) (MatchResult-weaker r h (λ _ p. relaid p (unwritten t) refl) (λ _ p. p))

-- single parts

pub one_step : (line : List ℕ) (before after : List Raw) (r : Raw) → after ≡ before ++ r ∷ [] → items line after ≡ items line before ++ item line r ∷ []
one_step line before after r e = ap (items line) e ∙ map_push (item line) before r

-- the same after parts that write none
pub late_step : {before mid : Reader} {after : List Raw} (r : Raw) → Takes before mid → after ≡ vec_items mid.steps.now.raw ++ r ∷ [] → items mid.line.now after ≡ written before ++ item mid.line.now r ∷ []
late_step {mid = mid} {after = after} r t e = one_step mid.line.now _ after r e ∙ ap (λ l. l ++ item mid.line.now r ∷ []) (unwritten t)

pub reads_number : {left : ℕ} {from rest : List Tok} {b z : List Item} {x : ℕ} {u : ℤ × ℤ} → from ≡ Tok.number x u ∷ rest → z ≡ b ++ Item.number x u ∷ [] → Reads Factor [] left from rest b z
reads_number {left} {from} {rest} {b} {z} {x} {u} e f =
    record {
      tree = Tree.number x u;
      reading = subst (λ ts. Factor ts rest (Tree.number x u)) (sym e) Factor.numeral;
      stops = none_begins rest;
      steps = f;
      goes = λ side ps h. ap (outcome (State.operand side ps)) e;
    }

pub reads_name : {left : ℕ} {from rest : List Tok} {b z : List Item} {w : List ℕ} → from ≡ Tok.word w ∷ rest → word_of w ≡ words.Name → z ≡ b ++ Item.name w ∷ [] → Reads Factor [] left from rest b z
reads_name {left} {from} {rest} {b} {z} {w} e is f =
    record {
      tree = Tree.name w;
      reading = subst (λ ts. Factor ts rest (Tree.name w)) (sym e) (Factor.named is);
      stops = none_begins rest;
      steps = f;
      goes = λ side ps h. ap (outcome (State.operand side ps)) e ∙ by_word few (State.operand side ps) w rest is;
    }

-- parentheses, inside of which one less may open

pub reads_group : {left : ℕ} {ts tail rest : List Tok} {b n : List Item} → (left ≡ 0 → ⊥) → Reads Sum joins (left - 1) ts tail b n → tail ≡ Tok.sign signs.Close ∷ rest → Reads Factor [] left (Tok.sign signs.Open ∷ ts) rest b n
reads_group {ts = ts} {rest = rest} some r e =
    record {
      tree = r.tree;
      reading = Factor.group (subst (λ us. Sum ts us r.tree) e r.reading);
      stops = none_begins rest;
      steps = r.steps;
      goes = λ side ps h. grind (arith, r.goes side (Paren.group ∷ ps));
    }

pub group_unclosed : {left : ℕ} {ts tail : List Tok} {b n : List Item} (e : Refusal) → (left ≡ 0 → ⊥) → Reads Sum joins (left - 1) ts tail b n → e ≡ refusal.Grammar → ((us : List Tok) → tail ≡ Tok.sign signs.Close ∷ us → ⊥) → Refuses left (Tok.sign signs.Open ∷ ts) e
group_unclosed {tail = tail} e some r g c = λ side ps h. grind (arith, r.goes side (Paren.group ∷ ps), unended side (Paren.group ∷ ps) signs.Close _ refl refl tail r.stops c)

-- min and max

pub function_kind : {w : Word} {o : Op} → Function w o → word_kind w ≡ Kind.function
function_kind Function.least = refl
function_kind Function.greatest = refl

module _ (w : List ℕ) {o : Op} (f : Function (word_of w) o) where
  pub called : (ts : List Tok) (side : Side) (ps : List Paren) → outcome (State.operand side ps) (Tok.word w ∷ ts) ≡ outcome (State.opening Paren.first side ps) ts
  called ts side ps = follow few (State.operand side ps) (Tok.word w) ts _ (ap (move_on (State.operand side ps)) (function_kind f))

  pub reads_pair : {left : ℕ} {ts us tail vs tail₂ rest : List Tok} {b m n z : List Item} → (left ≡ 0 → ⊥) → ts ≡ Tok.sign signs.Open ∷ us → Reads Sum joins (left - 1) us tail b m → tail ≡ Tok.sign signs.Comma ∷ vs → Reads Sum joins (left - 1) vs tail₂ m n → tail₂ ≡ Tok.sign signs.Close ∷ rest → z ≡ n ++ Item.join o ∷ [] → Reads Factor [] left (Tok.word w ∷ ts) rest b z
  reads_pair {us = us} {vs = vs} {rest = rest} {b = b} {m = m} {n = n} {z = z} some opens first comma last close e =
      record {
        tree = Tree.join o first.tree last.tree;
        reading = subst (λ xs. Factor (Tok.word w ∷ xs) rest (Tree.join o first.tree last.tree)) (sym opens) (Factor.pair f (subst (λ xs. Sum us xs first.tree) comma first.reading) (subst (λ xs. Sum vs xs last.tree) close last.reading));
        stops = none_begins rest;
        steps = join_steps b (postfix first.tree) (postfix last.tree) o m n z first.steps last.steps e;
        goes = λ side ps h. grind (arith, called, first.goes side (Paren.first ∷ ps), last.goes side (Paren.second ∷ ps));
      }

-- the exit of a `?`
pub broken : {T : Type 0} (r : Result T Refusal) (e : Refusal) (P : T → Type 0) (Q : Refusal → Type 0) → IsErrAnd r (λ y. y ≡ e) → Q e → MatchResult r P Q
broken (Ok x) e P Q h q = absurd h
broken (Err y) e P Q h q = subst Q (sym h) q

-- the parts from a part that is known
pub at_part : {from : List Tok} (rest : List Tok) {x y : Tok} → from ≡ up_to x rest → x ≡ y → from ≡ up_to y rest
at_part rest e f = e ∙ ap (λ t. up_to t rest) f
