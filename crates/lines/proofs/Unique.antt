-- A line has at most one reading: a machine that reads from the left, with what is pending of each sum and product, finds it.
use Rattle.std.proofs.Common.{◌≡◌, ℕ, Bool, true, false, cond, List, [], ◌∷◌, Some, None, Option, sym, refl, ap, ◌∙◌, subst, arith}
use Rattle.lines.specs.declared.reader.Op.{Op}
use Rattle.lines.specs.declared.reader.Op.TheVariants as op
use Rattle.lines.specs.declared.token.Sign.{Sign}
use Rattle.lines.specs.declared.token.Sign.TheVariants as signs
use Rattle.lines.specs.declared.word.Word.{Word}
use Rattle.lines.specs.declared.word.Word.TheVariants as words
use Rattle.lines.specs.Tokens.{Tok}
use Rattle.lines.specs.Words.{word_of}
use Rattle.lines.specs.Grammar.{Tree, Additive, Multiplicative, Function, Sum, Product, Factor, Stated, Right, Line}
use Rattle.lines.specs.Expected.{Kind, kind_of, same}

-- a left operand and its sign, if they wait for the right one
abbrev Pending : Type 0
Pending = Option (Tree × Op)

abbrev joined : Pending → Tree → Tree
joined None t = t
joined (Some x) t = Tree.join x.1 x.0 t

-- a sum's operand with the pending product and sum
abbrev total : Pending → Pending → Tree → Tree
total s p t = joined s (joined p t)

-- the open parentheses, with what is pending outside of each
data Outer : Type 0 where
  top : Outer
  group : Pending → Pending → Outer → Outer
  first : Op → Pending → Pending → Outer → Outer
  second : Op → Tree → Pending → Pending → Outer → Outer

-- a word where an operand comes: a name, min or max, or none of these
data Begin : Type 0 where
  named none : Begin
  calls : Op → Begin

abbrev begin_of : Word → Begin
begin_of words.Name = named
begin_of words.Min = calls op.Min
begin_of words.Max = calls op.Max
begin_of words.Entry = none
begin_of words.Line = none
begin_of words.Rule = none
begin_of words.Root = none
begin_of (words.Unit u) = none
begin_of words.Other = none

is : Tok → Sign → Bool
is t s = same (kind_of t) (Kind.sign s)

mutual
  unfolding is

  want : List Tok → Pending → Pending → Outer → Option (Tree × List Tok)
  want [] s p k = None
  want (Tok.number n u ∷ ts) s p k = have ts (Tree.number n u) s p k
  want (Tok.word w ∷ ts) s p k = elim (begin_of (word_of w)) [ named ↦ have ts (Tree.name w) s p k | none ↦ None | calls o ↦ call ts o s p k ]
  want (Tok.sign x ∷ ts) s p k = cond (is (Tok.sign x) signs.Open) (want ts None None (group s p k)) None
  want (Tok.malformed ∷ ts) s p k = None
  want (Tok.other ∷ ts) s p k = None
  want (Tok.ends ∷ ts) s p k = None

  call : List Tok → Op → Pending → Pending → Outer → Option (Tree × List Tok)
  call [] o s p k = None
  call (t ∷ ts) o s p k = cond (is t signs.Open) (want ts None None (first o s p k)) None

  have : List Tok → Tree → Pending → Pending → Outer → Option (Tree × List Tok)
  have [] v s p top = Some (total s p v, [])
  have [] v s p (group s₁ p₁ k) = None
  have [] v s p (first o s₁ p₁ k) = None
  have [] v s p (second o l s₁ p₁ k) = None
  have (t ∷ ts) v s p top =
      cond (is t signs.Plus) (want ts (Some (total s p v, op.Add)) None top) (cond (is t signs.Minus) (want ts (Some (total s p v, op.Sub)) None top) (cond (is t signs.Times) (want ts s (Some (joined p v, op.Mul)) top) (cond (is t signs.Over) (want ts s (Some (joined p v, op.Div)) top) (Some (total s p v, t ∷ ts)))))
  have (t ∷ ts) v s p (group s₁ p₁ k) =
      cond (is t signs.Plus) (want ts (Some (total s p v, op.Add)) None (group s₁ p₁ k)) (cond (is t signs.Minus) (want ts (Some (total s p v, op.Sub)) None (group s₁ p₁ k)) (cond (is t signs.Times) (want ts s (Some (joined p v, op.Mul)) (group s₁ p₁ k)) (cond (is t signs.Over) (want ts s (Some (joined p v, op.Div)) (group s₁ p₁ k)) (have ts (total s p v) s₁ p₁ k))))
  have (t ∷ ts) v s p (first o s₁ p₁ k) =
      cond (is t signs.Plus) (want ts (Some (total s p v, op.Add)) None (first o s₁ p₁ k)) (cond (is t signs.Minus) (want ts (Some (total s p v, op.Sub)) None (first o s₁ p₁ k)) (cond (is t signs.Times) (want ts s (Some (joined p v, op.Mul)) (first o s₁ p₁ k)) (cond (is t signs.Over) (want ts s (Some (joined p v, op.Div)) (first o s₁ p₁ k)) (want ts None None (second o (total s p v) s₁ p₁ k)))))
  have (t ∷ ts) v s p (second o l s₁ p₁ k) =
      cond (is t signs.Plus) (want ts (Some (total s p v, op.Add)) None (second o l s₁ p₁ k)) (cond (is t signs.Minus) (want ts (Some (total s p v, op.Sub)) None (second o l s₁ p₁ k)) (cond (is t signs.Times) (want ts s (Some (joined p v, op.Mul)) (second o l s₁ p₁ k)) (cond (is t signs.Over) (want ts s (Some (joined p v, op.Div)) (second o l s₁ p₁ k)) (have ts (Tree.join o l (total s p v)) s₁ p₁ k))))

add_step : {z : Sign} {o : Op} → Additive z o → (ts : List Tok) (v : Tree) (s p : Pending) (k : Outer) → have (Tok.sign z ∷ ts) v s p k ≡ want ts (Some (total s p v, o)) None k
unfolding have is
add_step Additive.plus ts v s p top = refl
add_step Additive.plus ts v s p (group s₁ p₁ k) = refl
add_step Additive.plus ts v s p (first o s₁ p₁ k) = refl
add_step Additive.plus ts v s p (second o l s₁ p₁ k) = refl
add_step Additive.minus ts v s p top = refl
add_step Additive.minus ts v s p (group s₁ p₁ k) = refl
add_step Additive.minus ts v s p (first o s₁ p₁ k) = refl
add_step Additive.minus ts v s p (second o l s₁ p₁ k) = refl

multiply_step : {z : Sign} {o : Op} → Multiplicative z o → (ts : List Tok) (v : Tree) (s p : Pending) (k : Outer) → have (Tok.sign z ∷ ts) v s p k ≡ want ts s (Some (joined p v, o)) k
unfolding have is
multiply_step Multiplicative.times ts v s p top = refl
multiply_step Multiplicative.times ts v s p (group s₁ p₁ k) = refl
multiply_step Multiplicative.times ts v s p (first o s₁ p₁ k) = refl
multiply_step Multiplicative.times ts v s p (second o l s₁ p₁ k) = refl
multiply_step Multiplicative.over ts v s p top = refl
multiply_step Multiplicative.over ts v s p (group s₁ p₁ k) = refl
multiply_step Multiplicative.over ts v s p (first o s₁ p₁ k) = refl
multiply_step Multiplicative.over ts v s p (second o l s₁ p₁ k) = refl

begin_word : (w : List ℕ) (b : Begin) (ts : List Tok) (s p : Pending) (k : Outer) → begin_of (word_of w) ≡ b → want (Tok.word w ∷ ts) s p k ≡ (elim b [ named ↦ have ts (Tree.name w) s p k | none ↦ None | calls o ↦ call ts o s p k ])
unfolding want is
begin_word w b ts s p k e = ap (λ (x : Begin). elim x as (λ _. Option (Tree × List Tok)) [ named ↦ have ts (Tree.name w) s p k | none ↦ None | calls o ↦ call ts o s p k ]) e

function_begin : {x : Word} {o : Op} → Function x o → begin_of x ≡ calls o
function_begin Function.least = refl
function_begin Function.greatest = refl

mutual
  unfolding want call have is

  sum_goes : {ts us : List Tok} {t : Tree} → Sum ts us t → (k : Outer) → (s : Pending) × (p : Pending) × (v : Tree) × (total s p v ≡ t) × (want ts None None k ≡ have us v s p k)
  sum_goes (Sum.product x) k = let r = product_goes x None k in (None, r.0, r.1, r.2, r.3)
  sum_goes (Sum.add {us = us} {o = o} x a y) k =
      let r = sum_goes x k in
      let q = product_goes y (Some (total r.0 r.1 r.2, o)) k in
      (Some (total r.0 r.1 r.2, o), q.0, q.1, (λ i. Tree.join o (r.3 i) (q.2 i)), r.4 ∙ add_step a us r.2 r.0 r.1 k ∙ q.3)

  product_goes : {ts us : List Tok} {t : Tree} → Product ts us t → (s : Pending) (k : Outer) → (p : Pending) × (v : Tree) × (joined p v ≡ t) × (want ts s None k ≡ have us v s p k)
  product_goes {t = t} (Product.factor x) s k = (None, t, refl, factor_goes x s None k)
  product_goes (Product.multiply {us = us} {u = u} {o = o} x m y) s k =
      let r = product_goes x s k in
      (Some (joined r.0 r.1, o), u, (λ i. Tree.join o (r.2 i) u), r.3 ∙ multiply_step m us r.1 s r.0 k ∙ factor_goes y s (Some (joined r.0 r.1, o)) k)

  factor_goes : {ts us : List Tok} {t : Tree} → Factor ts us t → (s p : Pending) (k : Outer) → want ts s p k ≡ have us t s p k
  factor_goes Factor.numeral s p k = refl
  factor_goes (Factor.named {ts} {w} e) s p k = begin_word w named ts s p k (ap begin_of e)
  factor_goes (Factor.group {ts} {us} x) s p k = let r = sum_goes x (group s p k) in r.4 ∙ ap (λ t. have us t s p k) r.3
  factor_goes (Factor.pair {ts} {us} {vs} {w = w} {o = o} f x y) s p k =
      let r = sum_goes x (first o s p k) in
      let q = sum_goes y (second o (total r.0 r.1 r.2) s p k) in
      begin_word w (calls o) (Tok.sign signs.Open ∷ ts) s p k (function_begin f) ∙ r.4 ∙ q.4 ∙ (λ i. have vs (Tree.join o (r.3 i) (q.3 i)) s p k)

-- what the machine finds of a sum up to the end, a comparison or a closing parenthesis
whole_sum : {ts : List Tok} {t : Tree} → Sum ts [] t → want ts None None top ≡ Some (t, [])
unfolding have
whole_sum x = let r = sum_goes x top in r.4 ∙ ap (λ t. Some (t, [])) r.3

left_sum : {ts us : List Tok} {t : Tree} → Sum ts (Tok.sign signs.AtMost ∷ us) t → want ts None None top ≡ Some (t, Tok.sign signs.AtMost ∷ us)
unfolding have is
left_sum {us = us} x = let r = sum_goes x top in r.4 ∙ ap (λ t. Some (t, Tok.sign signs.AtMost ∷ us)) r.3

root_sum : {ts : List Tok} {t : Tree} → Sum ts (Tok.sign signs.Close ∷ []) t → want ts None None top ≡ Some (t, Tok.sign signs.Close ∷ [])
unfolding have is
root_sum x = let r = sum_goes x top in r.4 ∙ ap (λ t. Some (t, Tok.sign signs.Close ∷ [])) r.3

rootless : {w : List ℕ} {ts : List Tok} {t : Tree} → word_of w ≡ words.Root → Sum (Tok.word w ∷ ts) [] t → ⊥
rootless {w} {ts} e x =
    let q = sym (begin_word w none ts None None top (ap begin_of e)) ∙ whole_sum x in
    let z : ◌≡◌ {A = ℕ} 0 1 = cc q in
    omega arith

-- what was found
abbrev tree : Option (Tree × List Tok) → Tree → Tree
tree None d = d
tree (Some x) d = x.0

abbrev rest : Option (Tree × List Tok) → List Tok
rest None = []
rest (Some x) = x.1

tail : List Tok → List Tok
tail [] = []
tail (t ∷ ts) = ts

right_unique : {us : List Tok} {b c : Bool} {t u : Tree} → Right us b t → Right us c u → (n : List ℕ) (l : Tree) → Stated.rule n b l t ≡ Stated.rule n c l u
right_unique {t = t} (Right.plain x) (Right.plain y) n l = ap (λ o. Stated.rule n false l (tree o t)) (sym (whole_sum x) ∙ whole_sum y)
right_unique (Right.plain x) (Right.rooted e y) n l = absurd (rootless e x)
right_unique (Right.rooted e x) (Right.plain y) n l = absurd (rootless e y)
right_unique {t = t} (Right.rooted e x) (Right.rooted f y) n l = ap (λ o. Stated.rule n true l (tree o t)) (sym (root_sum x) ∙ root_sum y)

pub unique : (ts : List Tok) (s₁ s₂ : Stated) → Line ts s₁ → Line ts s₂ → s₁ ≡ s₂
unfolding tail
unique ts s₁ s₂ Line.blank Line.blank = refl
unique ts s₁ s₂ (Line.entry a b c) (Line.entry d e f) = cc
unique ts s₁ s₂ (Line.line {n = n} {t = t} a b x) (Line.line c d y) = ap (λ o. Stated.line n (tree o t)) (sym (whole_sum x) ∙ whole_sum y)
unique ts s₁ s₂ (Line.rule {n = n} {us = us} {t = t} {u = u} {root = root} a b x r) (Line.rule {us = us₁} {t = t₁} {u = u₁} {root = root₁} c d y q) =
    let both = sym (left_sum x) ∙ left_sum y in
    let e : t ≡ t₁ = ap (λ o. tree o t) both in
    let f : us₁ ≡ us = sym (ap (λ o. tail (rest o)) both) in
    right_unique r (subst (λ z. Right z root₁ u₁) f q) n t ∙ ap (λ z. Stated.rule n root₁ z u₁) e
