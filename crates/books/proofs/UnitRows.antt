-- The row of a formula, run over a stack of units, gives the formula's unit.
use Rattle.std.proofs.Common.{◌≡◌, List, [], ◌∷◌, ◌++◌, ℤ, Ok, Err, Result, sym, refl, ap, ◌∙◌, subst, inl, inr, append_assoc}
use Rattle.std.proofs.lemmas.List.{same_from_push, append-nil}
use Rattle.lines.specs.declared.reader.Op.{Op}
use Rattle.books.specs.declared.refusal.Refusal.{Refusal}
use Rattle.books.specs.declared.step.Step.{Step}
use Rattle.books.specs.declared.step.Step.TheVariants as step
use Rattle.books.specs.Formulas.{Named, entry, line, Formula, steps}
use Rattle.books.specs.Units.{join_units, after, formula_unit, Pops, Steps}

-- a row over a stack
pub data Runs (unit : Named → ℤ × ℤ) : List Step → List (ℤ × ℤ) → Result (List (ℤ × ℤ)) Refusal → Type 0 where
  done : {st : List (ℤ × ℤ)} → Runs unit [] st (Ok st)
  goes : {s : Step} {ss : List Step} {st : List (ℤ × ℤ)} (rest : List (ℤ × ℤ)) (u : ℤ × ℤ) {r : Result (List (ℤ × ℤ)) Refusal} → Steps unit s st rest (Ok u) → Runs unit ss (rest ++ u ∷ []) r → Runs unit (s ∷ ss) st r
  stops : {s : Step} {ss : List Step} {st : List (ℤ × ℤ)} (rest : List (ℤ × ℤ)) {e : Refusal} → Steps unit s st rest (Err e) → Runs unit (s ∷ ss) st (Err e)

pops_push : (xs : List (ℤ × ℤ)) (x a : ℤ × ℤ) (rest : List (ℤ × ℤ)) → Pops (xs ++ x ∷ []) a rest → (xs ≡ rest) × (x ≡ a)
pops_push xs x a rest (inl e) = same_from_push xs rest x a e
pops_push [] x a rest (inr e) = absurd (cc e.0)
pops_push (y ∷ ys) x a rest (inr e) = absurd (cc e.0)

ended : {unit : Named → ℤ × ℤ} {st : List (ℤ × ℤ)} {r : Result (List (ℤ × ℤ)) Refusal} → Runs unit [] st r → r ≡ Ok st
ended Runs.done = refl

module _ (unit : Named → ℤ × ℤ) where
  -- the rest of a row after a part that gave x
  abbrev Then : Result (ℤ × ℤ) Refusal → List Step → List (ℤ × ℤ) → Result (List (ℤ × ℤ)) Refusal → Type 0
  Then (Ok u) rest st r = Runs unit rest (st ++ u ∷ []) r
  Then (Err e) rest st r = r ≡ Err e

  operand : (s : Step) (v : ℤ × ℤ) (rest : List Step) (st : List (ℤ × ℤ)) (r : Result (List (ℤ × ℤ)) Refusal) → ((left : List (ℤ × ℤ)) (q : Result (ℤ × ℤ) Refusal) → Steps unit s st left q → (left ≡ st) × (q ≡ Ok v)) → Runs unit (s ∷ rest) st r → Then (Ok v) rest st r
  operand s v rest st r is (Runs.goes left u x more) =
      let p = is left (Ok u) x in
      let q : u ≡ v = cc p.1 in
      subst (λ l. Runs unit rest l r) (λ i. p.0 i ++ q i ∷ []) more
  operand s v rest st r is (Runs.stops left {e = e} x) = absurd (cc (is left (Err e) x).1)

  module _ (o : Op) (rest : List Step) (st : List (ℤ × ℤ)) where
    -- the operands that a sign takes are those that were pushed
    taken : (a b : ℤ × ℤ) (left : List (ℤ × ℤ)) (q : Result (ℤ × ℤ) Refusal) → Steps unit (step.Op o) ((st ++ a ∷ []) ++ b ∷ []) left q → (left ≡ st) × (q ≡ join_units o a b)
    taken a b left q x =
        let p = pops_push (st ++ a ∷ []) b x.1 x.2 x.3 in
        let k = pops_push st a x.0 left (subst (λ l. Pops l x.0 left) (sym p.0) x.4) in
        (sym k.0, x.5 ∙ sym (λ i. join_units o (k.1 i) (p.1 i)))

    sign : (a b : ℤ × ℤ) (r : Result (List (ℤ × ℤ)) Refusal) → Runs unit (step.Op o ∷ rest) ((st ++ a ∷ []) ++ b ∷ []) r → Then (join_units o a b) rest st r
    sign a b r (Runs.goes left u x more) =
        let p = taken a b left (Ok u) x in
        subst (λ z. Then z rest st r) p.1 (subst (λ l. Runs unit rest (l ++ u ∷ []) r) p.0 more)
    sign a b r (Runs.stops left {e = e} x) = subst (λ z. Then z rest st (Err e)) (taken a b left (Err e) x).1 refl

    both : (r : Result (List (ℤ × ℤ)) Refusal) (row : List Step) (x y : Result (ℤ × ℤ) Refusal) → Then x row st r → ((a : ℤ × ℤ) → Runs unit row (st ++ a ∷ []) r → Then y (step.Op o ∷ rest) (st ++ a ∷ []) r) → Then (after x (λ a. after y (λ b. join_units o a b))) rest st r
    both r row (Err e) y h k = h
    both r row (Ok a) (Err e) h k = k a h
    both r row (Ok a) (Ok b) h k = sign a b r (k a h)

  formula_runs : (f : Formula) (rest : List Step) (st : List (ℤ × ℤ)) (r : Result (List (ℤ × ℤ)) Refusal) → Runs unit (steps f ++ rest) st r → Then (formula_unit unit f) rest st r
  formula_runs (Formula.number c u) rest st r x = operand (step.Number c u) u rest st r (λ left q s. s) x
  formula_runs (Formula.name (entry i)) rest st r x = operand (step.Entry i) (unit (entry i)) rest st r (λ left q s. s) x
  formula_runs (Formula.name (line k)) rest st r x = operand (step.Line k) (unit (line k)) rest st r (λ left q s. s) x
  formula_runs (Formula.join o f g) rest st r x =
      both o rest st r (steps g ++ (step.Op o ∷ rest)) (formula_unit unit f) (formula_unit unit g) (formula_runs f (steps g ++ (step.Op o ∷ rest)) st r (subst (λ l. Runs unit l st r) (append_assoc (steps f) (steps g ++ (step.Op o ∷ [])) rest ∙ ap (λ l. steps f ++ l) (append_assoc (steps g) (step.Op o ∷ []) rest)) x)) (λ a y. formula_runs g (step.Op o ∷ rest) (st ++ a ∷ []) r y)

  module _ (row : List Step) (f : Formula) (is : row ≡ steps f) where
    alone : (r : Result (List (ℤ × ℤ)) Refusal) → Runs unit row [] r → Then (formula_unit unit f) [] [] r
    alone r x = formula_runs f [] [] r (subst (λ l. Runs unit l [] r) (is ∙ sym (append-nil (steps f))) x)

    pub row_refused : (e : Refusal) → Runs unit row [] (Err e) → Err e ≡ formula_unit unit f
    row_refused e x = go (formula_unit unit f) (alone (Err e) x)
      where
        go : (z : Result (ℤ × ℤ) Refusal) → Then z [] [] (Err e) → Err e ≡ z
        go (Ok u) h = absurd (cc (ended h))
        go (Err y) h = let q : e ≡ y = cc h in ap Err q

    pub row_unit : (st rest : List (ℤ × ℤ)) (u : ℤ × ℤ) → Runs unit row [] (Ok st) → Pops st u rest → Ok u ≡ formula_unit unit f
    row_unit st rest u x p = go (formula_unit unit f) (alone (Ok st) x)
      where
        go : (z : Result (ℤ × ℤ) Refusal) → Then z [] [] (Ok st) → Ok u ≡ z
        go (Ok v) h =
            let s : st ≡ v ∷ [] = cc (ended h) in
            ap Ok (sym (pops_push [] v u rest (subst (λ l. Pops l u rest) s p)).1)
        go (Err y) h = cc
