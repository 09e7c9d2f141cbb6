-- The table of what may come next accepts the lines of the grammar, and no other parts.
use Rattle.std.proofs.Common.{◌≡◌, ℕ, Bool, true, false, cond, eqb, ◌⊎◌, List, [], ◌∷◌, length, ℤ, sym, refl, ap, ◌∙◌, subst, inl, inr, ⊎_elim, arith, ne_eqb, eqb-true}
use Rattle.std.proofs.lemmas.Bool.{false≢true}
use Rattle.lines.specs.declared.reader.Op.{Op}
use Rattle.lines.specs.declared.reader.Op.TheVariants as op
use Rattle.lines.specs.declared.token.Sign.{Sign}
use Rattle.lines.specs.declared.token.Sign.TheVariants as signs
use Rattle.lines.specs.declared.word.Word.{Word}
use Rattle.lines.specs.declared.word.Word.TheVariants as words
use Rattle.lines.specs.Tokens.{Tok}
use Rattle.lines.specs.Words.{word_of}
use Rattle.lines.specs.Grammar.{Tree, Additive, Multiplicative, Function, Sum, Product, Factor, Stated, Right, Line}
use Rattle.lines.specs.Expected.{Kind, Paren, Side, State, Move, kind_of, word_kind, sign_number, same, among, table, leave, at_end, move_on, outcome_in}
use Rattle.lines.proofs.Joins.{then, follow, by_word, function_kind, sign_low, rank_tells, not_sign, Off, missed}

-- x goes on as y, or a 17th parenthesis opens
abbrev Goes : ℕ → ℕ → Type 0
Goes x y = (x ≡ y) ⊎ (x ≡ 3)

chain : {x y z w : ℕ} → Goes x y → y ≡ z → Goes z w → Goes x w
chain (inl p) q (inl r) = inl (p ∙ q ∙ r)
chain (inl p) q (inr r) = inr (p ∙ q ∙ r)
chain (inr p) q r = inr p

before : {x y z : ℕ} → x ≡ y → Goes y z → Goes x z
before p g = chain (inl p) refl g

-- a product was read up to ts, from `from` or after a sum from there and a sign
data Held (from ts : List Tok) : Type 0 where
  alone : (t : Tree) → Product from ts t → Held from ts
  added : (us : List Tok) (s : Sign) (o : Op) (t u : Tree) → Sum from (Tok.sign s ∷ us) t → Additive s o → Product us ts u → Held from ts

-- what was read from `from` before a factor at ts
data Before (from ts : List Tok) : Type 0 where
  starts : from ≡ ts → Before from ts
  adds : (s : Sign) (o : Op) (t : Tree) → Sum from (Tok.sign s ∷ ts) t → Additive s o → Before from ts
  multiplies : (s : Sign) (o : Op) → Held from (Tok.sign s ∷ ts) → Multiplicative s o → Before from ts

whole : {from ts : List Tok} → Held from ts → (t : Tree) × Sum from ts t
whole (alone t p) = (t, Sum.product p)
whole (added us s o t u a b p) = (Tree.join o t u, Sum.add a b p)

held : {from ts us : List Tok} {t : Tree} → Before from ts → Factor ts us t → Held from us
held {us = us} {t = t} (starts e) f = alone _ (Product.factor (subst (λ x. Factor x us t) (sym e) f))
held {ts = ts} (adds s o t x a) f = added ts s o t _ x a (Product.factor f)
held (multiplies s o (alone t p) m) f = alone _ (Product.multiply p m f)
held (multiplies s o (added us z q t u a b p) m) f = added us z q t _ a b (Product.multiply p m f)

-- what follows the formula of a line, or a side of a rule
Follows : Side → List Tok → Type 0
Follows Side.whole rest = rest ≡ []
Follows Side.right rest = rest ≡ []
Follows Side.left rest = (us : List Tok) × (rest ≡ Tok.sign signs.AtMost ∷ us) × ((b : Bool) × ((t : Tree) × Right us b t))

-- what follows a sum, so that the open parentheses close
Closes : List Paren → Side → List Tok → Type 0
Closes [] side rest = Follows side rest
Closes (Paren.group ∷ ps) side rest = (us : List Tok) × (rest ≡ Tok.sign signs.Close ∷ us) × ((from : List Tok) → Held from us → (r : List Tok) × ((u : Tree) × Sum from r u) × Closes ps side r)
Closes (Paren.second ∷ ps) side rest = (us : List Tok) × (rest ≡ Tok.sign signs.Close ∷ us) × ((from : List Tok) → Held from us → (r : List Tok) × ((u : Tree) × Sum from r u) × Closes ps side r)
Closes (Paren.first ∷ ps) side rest = (us : List Tok) × (rest ≡ Tok.sign signs.Comma ∷ us) × (vs : List Tok) × (t : Tree) × Sum us (Tok.sign signs.Close ∷ vs) t × ((from : List Tok) → Held from vs → (r : List Tok) × ((u : Tree) × Sum from r u) × Closes ps side r)
Closes (Paren.root ∷ ps) side rest = rest ≡ Tok.sign signs.Close ∷ []

-- what follows a factor, an operand's place, and a word that a parenthesis has to follow
abbrev After : Side → List Paren → List Tok → Type 0
After side ps ts = (from : List Tok) → Held from ts → (r : List Tok) × ((u : Tree) × Sum from r u) × Closes ps side r

abbrev Operand : Side → List Paren → List Tok → Type 0
Operand side ps ts = (from : List Tok) → Before from ts → (r : List Tok) × ((u : Tree) × Sum from r u) × Closes ps side r

abbrev Opened : Paren → Side → List Paren → List Tok → Type 0
Opened k side ps ts = (us : List Tok) × (ts ≡ Tok.sign signs.Open ∷ us) × Operand side (k ∷ ps) us

group_sound : (side : Side) (ps : List Paren) (ts : List Tok) → Operand side (Paren.group ∷ ps) ts → Operand side ps (Tok.sign signs.Open ∷ ts)
unfolding Closes
group_sound side ps ts inner from b =
    let r = inner ts (starts refl) in
    let c = r.2 in
    c.2 from (held b (Factor.group (subst (λ x. Sum ts x r.1.0) c.1 r.1.1)))

call_sound : (w : List ℕ) (o : Op) (side : Side) (ps : List Paren) (ts : List Tok) → Function (word_of w) o → Opened Paren.first side ps ts → Operand side ps (Tok.word w ∷ ts)
unfolding Closes
call_sound w o side ps ts f p from b =
    let us = p.0 in
    let r = p.2 us (starts refl) in
    let c = r.2 in
    let g = Factor.pair f (subst (λ x. Sum us x r.1.0) c.1 r.1.1) c.4 in
    c.5 from (held b (subst (λ x. Factor (Tok.word w ∷ x) c.2 (Tree.join o r.1.0 c.3)) (sym p.1) g))

root_sound : (w : List ℕ) (ts : List Tok) → word_of w ≡ words.Root → Opened Paren.root Side.right [] ts → (b : Bool) × ((t : Tree) × Right (Tok.word w ∷ ts) b t)
unfolding Closes
root_sound w ts q p =
    let us = p.0 in
    let r = p.2 us (starts refl) in
    (true, (r.1.0, subst (λ x. Right (Tok.word w ∷ x) true r.1.0) (sym p.1) (Right.rooted q (subst (λ x. Sum us x r.1.0) r.2 r.1.1))))

plain_sound : (ts : List Tok) → Operand Side.right [] ts → (b : Bool) × ((t : Tree) × Right ts b t)
unfolding Closes Follows
plain_sound ts p =
    let r = p ts (starts refl) in
    (false, (r.1.0, Right.plain (subst (λ x. Sum ts x r.1.0) r.2 r.1.1)))

-- a word is no sign
no_sign : (w : List ℕ) (s : Sign) → same (word_kind (word_of w)) (Kind.sign s) ≡ false
no_sign w s = not_sign s (Tok.word w) (λ q. false≢true cc)

pub is_sign : (s : Sign) (t : Tok) → (t ≡ Tok.sign s) ⊎ (same (kind_of t) (Kind.sign s) ≡ false)
is_sign s (Tok.word w) = inr (no_sign w s)
is_sign s (Tok.number n u) = inr (not_sign s (Tok.number n u) (λ q. false≢true cc))
is_sign s Tok.malformed = inr (not_sign s Tok.malformed (λ q. false≢true cc))
is_sign s (Tok.sign x) = go (eqb (sign_number x) (sign_number s)) refl
  where
    go : (b : Bool) → eqb (sign_number x) (sign_number s) ≡ b → (Tok.sign x ≡ Tok.sign s) ⊎ (eqb (sign_number x) (sign_number s) ≡ false)
    go true e = inl (ap Tok.sign (rank_tells x s (eqb-true (sign_number x) (sign_number s) e)))
    go false e = inr e
is_sign s Tok.other = inr (not_sign s Tok.other (λ q. false≢true cc))
is_sign s Tok.ends = inr (not_sign s Tok.ends (λ q. false≢true cc))

pub is_name : (t : Tok) → ((w : List ℕ) × (t ≡ Tok.word w) × (word_of w ≡ words.Name)) ⊎ (same (kind_of t) Kind.name ≡ false)
is_name (Tok.word w) = go (word_of w) refl
  where
    go : (x : Word) → word_of w ≡ x → ((v : List ℕ) × (Tok.word w ≡ Tok.word v) × (word_of v ≡ words.Name)) ⊎ (same (word_kind (word_of w)) Kind.name ≡ false)
    go words.Name q = inl (w, refl, q)
    go words.Entry q = inr (ap (λ y. same (word_kind y) Kind.name) q)
    go words.Line q = inr (ap (λ y. same (word_kind y) Kind.name) q)
    go words.Rule q = inr (ap (λ y. same (word_kind y) Kind.name) q)
    go words.Root q = inr (ap (λ y. same (word_kind y) Kind.name) q)
    go words.Min q = inr (ap (λ y. same (word_kind y) Kind.name) q)
    go words.Max q = inr (ap (λ y. same (word_kind y) Kind.name) q)
    go (words.Unit u) q = inr (ap (λ y. same (word_kind y) Kind.name) q)
    go words.Other q = inr (ap (λ y. same (word_kind y) Kind.name) q)
is_name (Tok.number n u) = inr refl
is_name Tok.malformed = inr refl
is_name (Tok.sign s) = inr (ne_eqb _ _ (λ h. omega (arith, h, sign_low s)))
is_name Tok.other = inr refl
is_name Tok.ends = inr refl

pub is_unit_lem : (t : Tok) → ((w : List ℕ) × (u : ℤ × ℤ) × (t ≡ Tok.word w) × (word_of w ≡ words.Unit u)) ⊎ (same (kind_of t) Kind.unit ≡ false)
is_unit_lem (Tok.word w) = go (word_of w) refl
  where
    go : (x : Word) → word_of w ≡ x → ((v : List ℕ) × (u : ℤ × ℤ) × (Tok.word w ≡ Tok.word v) × (word_of v ≡ words.Unit u)) ⊎ (same (word_kind (word_of w)) Kind.unit ≡ false)
    go (words.Unit u) q = inl (w, u, refl, q)
    go words.Name q = inr (ap (λ y. same (word_kind y) Kind.unit) q)
    go words.Entry q = inr (ap (λ y. same (word_kind y) Kind.unit) q)
    go words.Line q = inr (ap (λ y. same (word_kind y) Kind.unit) q)
    go words.Rule q = inr (ap (λ y. same (word_kind y) Kind.unit) q)
    go words.Root q = inr (ap (λ y. same (word_kind y) Kind.unit) q)
    go words.Min q = inr (ap (λ y. same (word_kind y) Kind.unit) q)
    go words.Max q = inr (ap (λ y. same (word_kind y) Kind.unit) q)
    go words.Other q = inr (ap (λ y. same (word_kind y) Kind.unit) q)
is_unit_lem (Tok.number n u) = inr refl
is_unit_lem Tok.malformed = inr refl
is_unit_lem (Tok.sign s) = inr (ne_eqb _ _ (λ h. omega (arith, h, sign_low s)))
is_unit_lem Tok.other = inr refl
is_unit_lem Tok.ends = inr refl

leave_off : (k : Kind) → same k (Kind.sign signs.AtMost) ≡ false → same k (Kind.sign signs.Close) ≡ false → same k (Kind.sign signs.Comma) ≡ false → (ps : List Paren) (side : Side) → Off (leave ps side) k
unfolding Off
leave_off k a b c [] Side.whole = tt
leave_off k a b c [] Side.left = (a, tt)
leave_off k a b c [] Side.right = tt
leave_off k a b c (Paren.group ∷ ps) side = (b, tt)
leave_off k a b c (Paren.first ∷ ps) side = (c, tt)
leave_off k a b c (Paren.second ∷ ps) side = (b, tt)
leave_off k a b c (Paren.root ∷ ps) side = (b, tt)

joins_off : (k : Kind) → same k (Kind.sign signs.Plus) ≡ false → same k (Kind.sign signs.Minus) ≡ false → same k (Kind.sign signs.Times) ≡ false → same k (Kind.sign signs.Over) ≡ false → (side : Side) (ps : List Paren) → Off (leave ps side) k → Off (table (State.operator side ps)) k
unfolding Off
joins_off k a b c d side ps o = (a, (b, (c, (d, o))))

word_off : (w : List ℕ) (side : Side) (ps : List Paren) → Off (table (State.operator side ps)) (kind_of (Tok.word w))
word_off w side ps = joins_off (kind_of (Tok.word w)) (no_sign w signs.Plus) (no_sign w signs.Minus) (no_sign w signs.Times) (no_sign w signs.Over) side ps (leave_off (kind_of (Tok.word w)) (no_sign w signs.AtMost) (no_sign w signs.Close) (no_sign w signs.Comma) ps side)

opening_off : (w : List ℕ) (k : Paren) (side : Side) (ps : List Paren) → Off (table (State.opening k side ps)) (kind_of (Tok.word w))
unfolding Off
opening_off w k side ps = (no_sign w signs.Open, tt)

module _ (room : ℕ → Bool) where
  opening : (k : Paren) (side : Side) (ps : List Paren) (ts : List Tok) → Goes (then room ts (Move.enter k side ps)) (outcome_in room (State.operand side (k ∷ ps)) ts)
  opening k side ps ts = go (room (length ps))
    where
      go : (b : Bool) → Goes (cond b (outcome_in room (State.operand side (k ∷ ps)) ts) 3) (outcome_in room (State.operand side (k ∷ ps)) ts)
      go true = inl refl
      go false = inr refl

  sum_sign : {s : Sign} {o : Op} → Additive s o → (side : Side) (ps : List Paren) (us : List Tok) → outcome_in room (State.operator side ps) (Tok.sign s ∷ us) ≡ outcome_in room (State.operand side ps) us
  sum_sign Additive.plus side ps us = refl
  sum_sign Additive.minus side ps us = refl

  product_sign : {s : Sign} {o : Op} → Multiplicative s o → (side : Side) (ps : List Paren) (us : List Tok) → outcome_in room (State.operator side ps) (Tok.sign s ∷ us) ≡ outcome_in room (State.operand side ps) us
  product_sign Multiplicative.times side ps us = refl
  product_sign Multiplicative.over side ps us = refl

  mutual
    sum_runs : {ts us : List Tok} {t : Tree} → Sum ts us t → (side : Side) (ps : List Paren) → Goes (outcome_in room (State.operand side ps) ts) (outcome_in room (State.operator side ps) us)
    sum_runs (Sum.product p) side ps = product_runs p side ps
    sum_runs (Sum.add {us = us} s a p) side ps = chain (sum_runs s side ps) (sum_sign a side ps us) (product_runs p side ps)

    product_runs : {ts us : List Tok} {t : Tree} → Product ts us t → (side : Side) (ps : List Paren) → Goes (outcome_in room (State.operand side ps) ts) (outcome_in room (State.operator side ps) us)
    product_runs (Product.factor f) side ps = factor_runs f side ps
    product_runs (Product.multiply {us = us} p a f) side ps = chain (product_runs p side ps) (product_sign a side ps us) (factor_runs f side ps)

    factor_runs : {ts us : List Tok} {t : Tree} → Factor ts us t → (side : Side) (ps : List Paren) → Goes (outcome_in room (State.operand side ps) ts) (outcome_in room (State.operator side ps) us)
    factor_runs Factor.numeral side ps = inl refl
    factor_runs (Factor.named {ts} {w} e) side ps = inl (by_word room (State.operand side ps) w ts e)
    factor_runs (Factor.group {ts} s) side ps =
        before (follow room (State.operand side ps) (Tok.sign signs.Open) ts _ refl) (chain (opening Paren.group side ps ts) refl (sum_runs s side (Paren.group ∷ ps)))
    factor_runs (Factor.pair {ts} {w = w} f s₁ s₂) side ps =
        before (follow room (State.operand side ps) (Tok.word w) (Tok.sign signs.Open ∷ ts) _ (ap (move_on (State.operand side ps)) (function_kind f)) ∙ follow room (State.opening Paren.first side ps) (Tok.sign signs.Open) ts _ refl)
        (chain (opening Paren.first side ps ts) refl (chain (sum_runs s₁ side (Paren.first ∷ ps)) refl (sum_runs s₂ side (Paren.second ∷ ps))))

  root_or_operand : (us : List Tok) → Goes (outcome_in room (State.operand Side.right []) us) 0 → Goes (outcome_in room State.right_side us) 0
  root_or_operand [] g = g
  root_or_operand (Tok.number n u ∷ us) g = g
  root_or_operand (Tok.malformed ∷ us) g = g
  root_or_operand (Tok.sign signs.Plus ∷ us) g = g
  root_or_operand (Tok.sign signs.Minus ∷ us) g = g
  root_or_operand (Tok.sign signs.Times ∷ us) g = g
  root_or_operand (Tok.sign signs.Over ∷ us) g = g
  root_or_operand (Tok.sign signs.Open ∷ us) g = g
  root_or_operand (Tok.sign signs.Close ∷ us) g = g
  root_or_operand (Tok.sign signs.Comma ∷ us) g = g
  root_or_operand (Tok.sign signs.Equals ∷ us) g = g
  root_or_operand (Tok.sign signs.Colon ∷ us) g = g
  root_or_operand (Tok.sign signs.AtMost ∷ us) g = g
  root_or_operand (Tok.other ∷ us) g = g
  root_or_operand (Tok.ends ∷ us) g = g
  root_or_operand (Tok.word w ∷ us) g =
      before (by_word room State.right_side w us refl) (go (word_of w) (before (sym (by_word room (State.operand Side.right []) w us refl)) g))
    where
      go : (x : Word) → Goes (then room us (move_on (State.operand Side.right []) (word_kind x))) 0 → Goes (then room us (move_on State.right_side (word_kind x))) 0
      go words.Root (inl e) = absurd (omega (arith, e))
      go words.Root (inr e) = absurd (omega (arith, e))
      go words.Min h = h
      go words.Max h = h
      go words.Name h = h
      go words.Entry h = h
      go words.Line h = h
      go words.Rule h = h
      go (words.Unit u) h = h
      go words.Other h = h

  right_runs : {us : List Tok} {b : Bool} {t : Tree} → Right us b t → Goes (outcome_in room State.right_side us) 0
  right_runs (Right.plain {ts} s) = root_or_operand ts (sum_runs s Side.right [])
  right_runs (Right.rooted {ts} {w = w} e s) =
      before (by_word room State.right_side w (Tok.sign signs.Open ∷ ts) e ∙ follow room (State.opening Paren.root Side.right []) (Tok.sign signs.Open) ts _ refl) (chain (opening Paren.root Side.right [] ts) refl (sum_runs s Side.right (Paren.root ∷ [])))

  named : (s next : State) → move_on s Kind.name ≡ Move.to next → (w : List ℕ) (us : List Tok) → word_of w ≡ words.Name → outcome_in room s (Tok.word w ∷ us) ≡ outcome_in room next us
  named s next m w us is = by_word room s w us is ∙ ap (then room us) m

  pub line_runs : {ts : List Tok} {s : Stated} → Line ts s → Goes (outcome_in room State.start ts) 0
  line_runs Line.blank = inl refl
  line_runs (Line.entry {k} {n} {w} e f g) =
      inl (by_word room State.start k (Tok.word n ∷ Tok.word w ∷ []) e ∙ named State.entry_name State.entry_unit refl n (Tok.word w ∷ []) f ∙ by_word room State.entry_unit w [] g)
  line_runs (Line.line {k} {n} {ts} e f s) =
      before (by_word room State.start k (Tok.word n ∷ Tok.sign signs.Equals ∷ ts) e ∙ named State.line_name State.equals refl n (Tok.sign signs.Equals ∷ ts) f) (sum_runs s Side.whole [])
  line_runs (Line.rule {k} {n} {ts} {us} e f s r) =
      before (by_word room State.start k (Tok.word n ∷ Tok.sign signs.Colon ∷ ts) e ∙ named State.rule_name State.colon refl n (Tok.sign signs.Colon ∷ ts) f) (chain (sum_runs s Side.left []) refl (right_runs r))

  entered : (k : Paren) (side : Side) (ps : List Paren) (ts : List Tok) → then room ts (Move.enter k side ps) ≡ 0 → outcome_in room (State.operand side (k ∷ ps)) ts ≡ 0
  entered k side ps ts = go (room (length ps))
    where
      go : (b : Bool) → cond b (outcome_in room (State.operand side (k ∷ ps)) ts) 3 ≡ 0 → outcome_in room (State.operand side (k ∷ ps)) ts ≡ 0
      go true e = e
      go false e = absurd (omega (arith, e))

  moved : (s : State) (t : Tok) (ts : List Tok) → outcome_in room s (t ∷ ts) ≡ 0 → then room ts (move_on s (kind_of t)) ≡ 0
  moved s t ts e = sym (follow room s t ts (move_on s (kind_of t)) refl) ∙ e

  word_sound : (w : List ℕ) (side : Side) (ps : List Paren) (ts : List Tok) (x : Word) → word_of w ≡ x → then room ts (move_on (State.operand side ps) (word_kind x)) ≡ 0 → (outcome_in room (State.operator side ps) ts ≡ 0 → After side ps ts) → (outcome_in room (State.opening Paren.first side ps) ts ≡ 0 → Opened Paren.first side ps ts) → Operand side ps (Tok.word w ∷ ts)
  word_sound w side ps ts words.Min q e f g = call_sound w op.Min side ps ts (subst (λ y. Function y op.Min) (sym q) Function.least) (g e)
  word_sound w side ps ts words.Max q e f g = call_sound w op.Max side ps ts (subst (λ y. Function y op.Max) (sym q) Function.greatest) (g e)
  word_sound w side ps ts words.Name q e f g = λ from b. f e from (held b (Factor.named q))
  word_sound w side ps ts words.Entry q e f g = absurd (omega (arith, e))
  word_sound w side ps ts words.Line q e f g = absurd (omega (arith, e))
  word_sound w side ps ts words.Rule q e f g = absurd (omega (arith, e))
  word_sound w side ps ts words.Root q e f g = absurd (omega (arith, e))
  word_sound w side ps ts (words.Unit u) q e f g = absurd (omega (arith, e))
  word_sound w side ps ts words.Other q e f g = absurd (omega (arith, e))

  -- a part for which the table has no row
  shut : (s : State) (t : Tok) (ts : List Tok) → Off (table s) (kind_of t) → outcome_in room s (t ∷ ts) ≡ 0 → ⊥
  shut s t ts o e = omega (arith, sym (follow room s t ts _ (missed (table s) (kind_of t) o)) ∙ e)

  -- the first word of a right side
  right_word : (w : List ℕ) (ts : List Tok) (x : Word) → word_of w ≡ x → then room ts (move_on State.right_side (word_kind x)) ≡ 0 → (outcome_in room (State.operator Side.right []) ts ≡ 0 → After Side.right [] ts) → ((k : Paren) → outcome_in room (State.opening k Side.right []) ts ≡ 0 → Opened k Side.right [] ts) → (b : Bool) × ((t : Tree) × Right (Tok.word w ∷ ts) b t)
  right_word w ts words.Root q e f g = root_sound w ts q (g Paren.root e)
  right_word w ts words.Min q e f g = plain_sound (Tok.word w ∷ ts) (word_sound w Side.right [] ts words.Min q e f (g Paren.first))
  right_word w ts words.Max q e f g = plain_sound (Tok.word w ∷ ts) (word_sound w Side.right [] ts words.Max q e f (g Paren.first))
  right_word w ts words.Name q e f g = plain_sound (Tok.word w ∷ ts) (word_sound w Side.right [] ts words.Name q e f (g Paren.first))
  right_word w ts words.Entry q e f g = absurd (omega (arith, e))
  right_word w ts words.Line q e f g = absurd (omega (arith, e))
  right_word w ts words.Rule q e f g = absurd (omega (arith, e))
  right_word w ts (words.Unit u) q e f g = absurd (omega (arith, e))
  right_word w ts words.Other q e f g = absurd (omega (arith, e))

  mutual
    unfolding Closes Follows

    operand_sound : (ts : List Tok) (side : Side) (ps : List Paren) → outcome_in room (State.operand side ps) ts ≡ 0 → Operand side ps ts
    operand_sound [] side ps e = absurd (omega (arith, e))
    operand_sound (Tok.word w ∷ ts) side ps e = word_sound w side ps ts (word_of w) refl (moved (State.operand side ps) (Tok.word w) ts e) (operator_sound ts side ps) (opening_sound ts Paren.first side ps)
    operand_sound (Tok.number n u ∷ ts) side ps e = λ from b. operator_sound ts side ps e from (held b Factor.numeral)
    operand_sound (Tok.sign signs.Open ∷ ts) side ps e = group_sound side ps ts (operand_sound ts side (Paren.group ∷ ps) (entered Paren.group side ps ts (moved (State.operand side ps) (Tok.sign signs.Open) ts e)))
    operand_sound (Tok.malformed ∷ ts) side ps e = absurd (omega (arith, e))
    operand_sound (Tok.other ∷ ts) side ps e = absurd (omega (arith, e))
    operand_sound (Tok.ends ∷ ts) side ps e = absurd (omega (arith, e))
    operand_sound (Tok.sign signs.Plus ∷ ts) side ps e = absurd (omega (arith, e))
    operand_sound (Tok.sign signs.Minus ∷ ts) side ps e = absurd (omega (arith, e))
    operand_sound (Tok.sign signs.Times ∷ ts) side ps e = absurd (omega (arith, e))
    operand_sound (Tok.sign signs.Over ∷ ts) side ps e = absurd (omega (arith, e))
    operand_sound (Tok.sign signs.Close ∷ ts) side ps e = absurd (omega (arith, e))
    operand_sound (Tok.sign signs.Comma ∷ ts) side ps e = absurd (omega (arith, e))
    operand_sound (Tok.sign signs.Equals ∷ ts) side ps e = absurd (omega (arith, e))
    operand_sound (Tok.sign signs.Colon ∷ ts) side ps e = absurd (omega (arith, e))
    operand_sound (Tok.sign signs.AtMost ∷ ts) side ps e = absurd (omega (arith, e))

    opening_sound : (ts : List Tok) (k : Paren) (side : Side) (ps : List Paren) → outcome_in room (State.opening k side ps) ts ≡ 0 → Opened k side ps ts
    opening_sound [] k side ps e = absurd (omega (arith, e))
    opening_sound (Tok.sign signs.Open ∷ ts) k side ps e = (ts, refl, operand_sound ts side (k ∷ ps) (entered k side ps ts (moved (State.opening k side ps) (Tok.sign signs.Open) ts e)))
    opening_sound (Tok.word w ∷ ts) k side ps e = absurd (shut (State.opening k side ps) (Tok.word w) ts (opening_off w k side ps) e)
    opening_sound (Tok.number n u ∷ ts) k side ps e = absurd (omega (arith, e))
    opening_sound (Tok.malformed ∷ ts) k side ps e = absurd (omega (arith, e))
    opening_sound (Tok.other ∷ ts) k side ps e = absurd (omega (arith, e))
    opening_sound (Tok.ends ∷ ts) k side ps e = absurd (omega (arith, e))
    opening_sound (Tok.sign signs.Plus ∷ ts) k side ps e = absurd (omega (arith, e))
    opening_sound (Tok.sign signs.Minus ∷ ts) k side ps e = absurd (omega (arith, e))
    opening_sound (Tok.sign signs.Times ∷ ts) k side ps e = absurd (omega (arith, e))
    opening_sound (Tok.sign signs.Over ∷ ts) k side ps e = absurd (omega (arith, e))
    opening_sound (Tok.sign signs.Close ∷ ts) k side ps e = absurd (omega (arith, e))
    opening_sound (Tok.sign signs.Comma ∷ ts) k side ps e = absurd (omega (arith, e))
    opening_sound (Tok.sign signs.Equals ∷ ts) k side ps e = absurd (omega (arith, e))
    opening_sound (Tok.sign signs.Colon ∷ ts) k side ps e = absurd (omega (arith, e))
    opening_sound (Tok.sign signs.AtMost ∷ ts) k side ps e = absurd (omega (arith, e))

    right_sound : (ts : List Tok) → outcome_in room State.right_side ts ≡ 0 → (b : Bool) × ((t : Tree) × Right ts b t)
    right_sound [] e = absurd (omega (arith, e))
    right_sound (Tok.word w ∷ ts) e = right_word w ts (word_of w) refl (moved State.right_side (Tok.word w) ts e) (operator_sound ts Side.right []) (λ k. opening_sound ts k Side.right [])
    right_sound (Tok.number n u ∷ ts) e = plain_sound (Tok.number n u ∷ ts) (λ from b. operator_sound ts Side.right [] e from (held b Factor.numeral))
    right_sound (Tok.sign signs.Open ∷ ts) e = plain_sound (Tok.sign signs.Open ∷ ts) (group_sound Side.right [] ts (operand_sound ts Side.right (Paren.group ∷ []) (entered Paren.group Side.right [] ts (moved State.right_side (Tok.sign signs.Open) ts e))))
    right_sound (Tok.malformed ∷ ts) e = absurd (omega (arith, e))
    right_sound (Tok.other ∷ ts) e = absurd (omega (arith, e))
    right_sound (Tok.ends ∷ ts) e = absurd (omega (arith, e))
    right_sound (Tok.sign signs.Plus ∷ ts) e = absurd (omega (arith, e))
    right_sound (Tok.sign signs.Minus ∷ ts) e = absurd (omega (arith, e))
    right_sound (Tok.sign signs.Times ∷ ts) e = absurd (omega (arith, e))
    right_sound (Tok.sign signs.Over ∷ ts) e = absurd (omega (arith, e))
    right_sound (Tok.sign signs.Close ∷ ts) e = absurd (omega (arith, e))
    right_sound (Tok.sign signs.Comma ∷ ts) e = absurd (omega (arith, e))
    right_sound (Tok.sign signs.Equals ∷ ts) e = absurd (omega (arith, e))
    right_sound (Tok.sign signs.Colon ∷ ts) e = absurd (omega (arith, e))
    right_sound (Tok.sign signs.AtMost ∷ ts) e = absurd (omega (arith, e))

    operator_sound : (ts : List Tok) (side : Side) (ps : List Paren) → outcome_in room (State.operator side ps) ts ≡ 0 → After side ps ts
    operator_sound [] Side.whole [] e = λ from h. ([], whole h, refl)
    operator_sound [] Side.right [] e = λ from h. ([], whole h, refl)
    operator_sound [] Side.left [] e = absurd (omega (arith, e))
    operator_sound [] side (p ∷ ps) e = absurd (omega (arith, e))
    operator_sound (Tok.sign signs.Plus ∷ ts) side ps e = λ from h. operand_sound ts side ps e from (adds _ _ (whole h).0 (whole h).1 Additive.plus)
    operator_sound (Tok.sign signs.Minus ∷ ts) side ps e = λ from h. operand_sound ts side ps e from (adds _ _ (whole h).0 (whole h).1 Additive.minus)
    operator_sound (Tok.sign signs.Times ∷ ts) side ps e = λ from h. operand_sound ts side ps e from (multiplies _ _ h Multiplicative.times)
    operator_sound (Tok.sign signs.Over ∷ ts) side ps e = λ from h. operand_sound ts side ps e from (multiplies _ _ h Multiplicative.over)
    operator_sound (Tok.word w ∷ ts) side ps e = absurd (shut (State.operator side ps) (Tok.word w) ts (word_off w side ps) e)
    operator_sound (Tok.sign signs.Close ∷ ts) side (Paren.group ∷ ps) e = λ from h. (Tok.sign signs.Close ∷ ts, whole h, (ts, refl, operator_sound ts side ps e))
    operator_sound (Tok.sign signs.Close ∷ ts) side (Paren.second ∷ ps) e = λ from h. (Tok.sign signs.Close ∷ ts, whole h, (ts, refl, operator_sound ts side ps e))
    operator_sound (Tok.sign signs.Close ∷ ts) side (Paren.first ∷ ps) e = absurd (omega (arith, e))
    operator_sound (Tok.sign signs.Close ∷ []) side (Paren.root ∷ ps) e = λ from h. (Tok.sign signs.Close ∷ [], whole h, refl)
    operator_sound (Tok.sign signs.Close ∷ t ∷ ts) side (Paren.root ∷ ps) e = absurd (omega (arith, e))
    operator_sound (Tok.sign signs.Comma ∷ ts) side (Paren.group ∷ ps) e = absurd (omega (arith, e))
    operator_sound (Tok.sign signs.Comma ∷ ts) side (Paren.second ∷ ps) e = absurd (omega (arith, e))
    operator_sound (Tok.sign signs.Comma ∷ ts) side (Paren.root ∷ ps) e = absurd (omega (arith, e))
    operator_sound (Tok.sign signs.Comma ∷ ts) side (Paren.first ∷ ps) e =
        λ from h.
        let r = operand_sound ts side (Paren.second ∷ ps) e ts (starts refl) in
        let c = r.2 in
        (Tok.sign signs.Comma ∷ ts, whole h, (ts, refl, c.0, r.1.0, subst (λ x. Sum ts x r.1.0) c.1 r.1.1, c.2))
    operator_sound (Tok.sign signs.AtMost ∷ ts) Side.left [] e = λ from h. (Tok.sign signs.AtMost ∷ ts, whole h, (ts, refl, right_sound ts e))
    operator_sound (Tok.sign signs.Close ∷ ts) Side.whole [] e = absurd (omega (arith, e))
    operator_sound (Tok.sign signs.Close ∷ ts) Side.left [] e = absurd (omega (arith, e))
    operator_sound (Tok.sign signs.Close ∷ ts) Side.right [] e = absurd (omega (arith, e))
    operator_sound (Tok.sign signs.Comma ∷ ts) Side.whole [] e = absurd (omega (arith, e))
    operator_sound (Tok.sign signs.Comma ∷ ts) Side.left [] e = absurd (omega (arith, e))
    operator_sound (Tok.sign signs.Comma ∷ ts) Side.right [] e = absurd (omega (arith, e))
    operator_sound (Tok.sign signs.AtMost ∷ ts) Side.whole [] e = absurd (omega (arith, e))
    operator_sound (Tok.sign signs.AtMost ∷ ts) Side.right [] e = absurd (omega (arith, e))
    operator_sound (Tok.sign signs.AtMost ∷ ts) side (Paren.group ∷ ps) e = absurd (omega (arith, e))
    operator_sound (Tok.sign signs.AtMost ∷ ts) side (Paren.first ∷ ps) e = absurd (omega (arith, e))
    operator_sound (Tok.sign signs.AtMost ∷ ts) side (Paren.second ∷ ps) e = absurd (omega (arith, e))
    operator_sound (Tok.sign signs.AtMost ∷ ts) side (Paren.root ∷ ps) e = absurd (omega (arith, e))
    operator_sound (Tok.number n u ∷ ts) side ps e = absurd (shut (State.operator side ps) (Tok.number n u) ts (joins_off Kind.number refl refl refl refl side ps (leave_off Kind.number refl refl refl ps side)) e)
    operator_sound (Tok.malformed ∷ ts) side ps e = absurd (shut (State.operator side ps) (Tok.malformed) ts (joins_off Kind.malformed refl refl refl refl side ps (leave_off Kind.malformed refl refl refl ps side)) e)
    operator_sound (Tok.other ∷ ts) side ps e = absurd (shut (State.operator side ps) (Tok.other) ts (joins_off Kind.other refl refl refl refl side ps (leave_off Kind.other refl refl refl ps side)) e)
    operator_sound (Tok.ends ∷ ts) side ps e = absurd (shut (State.operator side ps) (Tok.ends) ts (joins_off Kind.other refl refl refl refl side ps (leave_off Kind.other refl refl refl ps side)) e)
    operator_sound (Tok.sign signs.Open ∷ ts) side ps e = absurd (shut (State.operator side ps) (Tok.sign signs.Open) ts (joins_off (Kind.sign signs.Open) refl refl refl refl side ps (leave_off (Kind.sign signs.Open) refl refl refl ps side)) e)
    operator_sound (Tok.sign signs.Equals ∷ ts) side ps e = absurd (shut (State.operator side ps) (Tok.sign signs.Equals) ts (joins_off (Kind.sign signs.Equals) refl refl refl refl side ps (leave_off (Kind.sign signs.Equals) refl refl refl ps side)) e)
    operator_sound (Tok.sign signs.Colon ∷ ts) side ps e = absurd (shut (State.operator side ps) (Tok.sign signs.Colon) ts (joins_off (Kind.sign signs.Colon) refl refl refl refl side ps (leave_off (Kind.sign signs.Colon) refl refl refl ps side)) e)

  -- a state that only a name, or only one sign, can leave
  name_then : (ts : List Tok) (s next : State) → table s ≡ (Kind.name, Move.to next) ∷ [] → at_end s ≡ 2 → outcome_in room s ts ≡ 0 → (n : List ℕ) × (us : List Tok) × (ts ≡ Tok.word n ∷ us) × (word_of n ≡ words.Name) × (outcome_in room next us ≡ 0)
  unfolding Off
  name_then [] s next t a e = absurd (omega (arith, a, e))
  name_then (x ∷ ts) s next t a e =
      ⊎_elim
      (λ p. (p.0, ts, ap (λ y. y ∷ ts) p.1, p.2, sym (ap (λ y. outcome_in room s (y ∷ ts)) p.1 ∙ by_word room s p.0 ts p.2 ∙ ap (λ rows. then room ts (among rows Kind.name)) t) ∙ e))
      (λ o. absurd (shut s x ts (subst (λ rows. Off rows (kind_of x)) (sym t) (o, tt)) e))
      (is_name x)

  sign_then : (ts : List Tok) (s next : State) (z : Sign) → table s ≡ (Kind.sign z, Move.to next) ∷ [] → move_on s (Kind.sign z) ≡ Move.to next → at_end s ≡ 2 → outcome_in room s ts ≡ 0 → (us : List Tok) × (ts ≡ Tok.sign z ∷ us) × (outcome_in room next us ≡ 0)
  unfolding Off
  sign_then [] s next z t m a e = absurd (omega (arith, a, e))
  sign_then (x ∷ ts) s next z t m a e =
      ⊎_elim
      (λ p. (ts, ap (λ y. y ∷ ts) p, sym (ap (λ y. outcome_in room s (y ∷ ts)) p ∙ follow room s (Tok.sign z) ts _ m) ∙ e))
      (λ o. absurd (shut s x ts (subst (λ rows. Off rows (kind_of x)) (sym t) (o, tt)) e))
      (is_sign z x)

  over : (ts : List Tok) → outcome_in room State.done ts ≡ 0 → ts ≡ []
  over [] e = refl
  over (t ∷ ts) e = absurd (omega (arith, e))

  unit_then : (ts : List Tok) → outcome_in room State.entry_unit ts ≡ 0 → (w : List ℕ) × (u : ℤ × ℤ) × (ts ≡ Tok.word w ∷ []) × (word_of w ≡ words.Unit u)
  unfolding Off
  unit_then [] e = absurd (omega (arith, e))
  unit_then (x ∷ ts) e =
      ⊎_elim
      (λ p. (p.0, p.1, ap (λ y. y ∷ ts) p.2 ∙ ap (λ l. Tok.word p.0 ∷ l) (over ts (sym (ap (λ y. outcome_in room State.entry_unit (y ∷ ts)) p.2 ∙ by_word room State.entry_unit p.0 ts p.3) ∙ e)), p.3))
      (λ o. absurd (shut State.entry_unit x ts (o, tt) e))
      (is_unit_lem x)

  entry_sound : (k : List ℕ) (ts : List Tok) → word_of k ≡ words.Entry → outcome_in room State.entry_name ts ≡ 0 → (s : Stated) × Line (Tok.word k ∷ ts) s
  entry_sound k ts q e =
      let n = name_then ts State.entry_name State.entry_unit refl refl e in
      let u = unit_then n.1 n.4 in
      (Stated.entry n.0 u.1, subst (λ x. Line (Tok.word k ∷ x) (Stated.entry n.0 u.1)) (sym (n.2 ∙ ap (λ x. Tok.word n.0 ∷ x) u.2)) (Line.entry q n.3 u.3))

  line_sound : (k : List ℕ) (ts : List Tok) → word_of k ≡ words.Line → outcome_in room State.line_name ts ≡ 0 → (s : Stated) × Line (Tok.word k ∷ ts) s
  unfolding Closes Follows
  line_sound k ts q e =
      let n = name_then ts State.line_name State.equals refl refl e in
      let f = sign_then n.1 State.equals (State.operand Side.whole []) signs.Equals refl refl refl n.4 in
      let r = operand_sound f.0 Side.whole [] f.2 f.0 (starts refl) in
      (Stated.line n.0 r.1.0, subst (λ x. Line (Tok.word k ∷ x) (Stated.line n.0 r.1.0)) (sym (n.2 ∙ ap (λ x. Tok.word n.0 ∷ x) f.1)) (Line.line q n.3 (subst (λ x. Sum f.0 x r.1.0) r.2 r.1.1)))

  rule_sound : (k : List ℕ) (ts : List Tok) → word_of k ≡ words.Rule → outcome_in room State.rule_name ts ≡ 0 → (s : Stated) × Line (Tok.word k ∷ ts) s
  unfolding Closes Follows
  rule_sound k ts q e =
      let n = name_then ts State.rule_name State.colon refl refl e in
      let f = sign_then n.1 State.colon (State.operand Side.left []) signs.Colon refl refl refl n.4 in
      let r = operand_sound f.0 Side.left [] f.2 f.0 (starts refl) in
      let c = r.2 in
      let s = Stated.rule n.0 c.2.0 r.1.0 c.2.1.0 in
      (s, subst (λ x. Line (Tok.word k ∷ x) (Stated.rule n.0 c.2.0 r.1.0 c.2.1.0)) (sym (n.2 ∙ ap (λ x. Tok.word n.0 ∷ x) f.1)) (Line.rule q n.3 (subst (λ x. Sum f.0 x r.1.0) c.1 r.1.1) c.2.1.1))

  first_word : (k : List ℕ) (ts : List Tok) (x : Word) → word_of k ≡ x → then room ts (move_on State.start (word_kind x)) ≡ 0 → (s : Stated) × Line (Tok.word k ∷ ts) s
  first_word k ts words.Entry q e = entry_sound k ts q e
  first_word k ts words.Line q e = line_sound k ts q e
  first_word k ts words.Rule q e = rule_sound k ts q e
  first_word k ts words.Root q e = absurd (omega (arith, e))
  first_word k ts words.Min q e = absurd (omega (arith, e))
  first_word k ts words.Max q e = absurd (omega (arith, e))
  first_word k ts (words.Unit u) q e = absurd (omega (arith, e))
  first_word k ts words.Name q e = absurd (omega (arith, e))
  first_word k ts words.Other q e = absurd (omega (arith, e))

  pub lines_sound : (ts : List Tok) → outcome_in room State.start ts ≡ 0 → (s : Stated) × Line ts s
  lines_sound [] e = (Stated.blank, Line.blank)
  lines_sound (Tok.word k ∷ ts) e = first_word k ts (word_of k) refl (moved State.start (Tok.word k) ts e)
  lines_sound (Tok.number n u ∷ ts) e = absurd (omega (arith, e))
  lines_sound (Tok.malformed ∷ ts) e = absurd (omega (arith, e))
  lines_sound (Tok.other ∷ ts) e = absurd (omega (arith, e))
  lines_sound (Tok.ends ∷ ts) e = absurd (omega (arith, e))
  lines_sound (Tok.sign signs.Plus ∷ ts) e = absurd (omega (arith, e))
  lines_sound (Tok.sign signs.Minus ∷ ts) e = absurd (omega (arith, e))
  lines_sound (Tok.sign signs.Times ∷ ts) e = absurd (omega (arith, e))
  lines_sound (Tok.sign signs.Over ∷ ts) e = absurd (omega (arith, e))
  lines_sound (Tok.sign signs.Open ∷ ts) e = absurd (omega (arith, e))
  lines_sound (Tok.sign signs.Close ∷ ts) e = absurd (omega (arith, e))
  lines_sound (Tok.sign signs.Comma ∷ ts) e = absurd (omega (arith, e))
  lines_sound (Tok.sign signs.Equals ∷ ts) e = absurd (omega (arith, e))
  lines_sound (Tok.sign signs.Colon ∷ ts) e = absurd (omega (arith, e))
  lines_sound (Tok.sign signs.AtMost ∷ ts) e = absurd (omega (arith, e))
