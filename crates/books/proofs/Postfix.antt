-- The steps of a formula read as that formula, and no other row does.
use Rattle.std.proofs.Common.{◌≡◌, List, [], ◌∷◌, ◌++◌, length, take, Some, sym, refl, ap, ◌∙◌, append_assoc, append-nil, take_at, drop_at}
use Rattle.lines.specs.declared.reader.Op.{Op}
use Rattle.books.specs.declared.step.Step.{Step}
use Rattle.books.specs.declared.step.Step.TheVariants as step
use Rattle.books.specs.Formulas.{entry, line, Formula, steps, built, formula}
use Rattle.books.specs.Books.{part}

join_steps : (o : Op) (f g : Formula) (row : List Step) → steps (Formula.join o f g) ++ row ≡ steps f ++ (steps g ++ (step.Op o ∷ row))
join_steps o f g row = append_assoc (steps f) (steps g ++ (step.Op o ∷ [])) row ∙ ap (λ l. steps f ++ l) (append_assoc (steps g) (step.Op o ∷ []) row)

built_steps : (f : Formula) (row : List Step) (fs : List Formula) → built (steps f ++ row) fs ≡ built row (f ∷ fs)
built_steps (Formula.number c u) row fs = refl
built_steps (Formula.name (entry i)) row fs = refl
built_steps (Formula.name (line k)) row fs = refl
built_steps (Formula.join o f g) row fs = ap (λ r. built r fs) (join_steps o f g row) ∙ built_steps f (steps g ++ (step.Op o ∷ row)) fs ∙ built_steps g (step.Op o ∷ row) (f ∷ fs)

pub formula_steps : (f : Formula) → formula (steps f) ≡ Some f
formula_steps f = ap (λ r. built r []) (sym (append-nil (steps f))) ∙ built_steps f [] []

-- the steps of the waiting formulas, the oldest first, and then a row
waiting : List Formula → List Step → List Step
waiting [] row = row
waiting (f ∷ fs) row = waiting fs (steps f ++ row)

built_waiting : (row : List Step) (fs : List Formula) (f : Formula) → built row fs ≡ Some f → waiting fs row ≡ steps f
unfolding waiting
built_waiting [] [] f e = cc
built_waiting [] (g ∷ []) f e = let q : g ≡ f = cc e in append-nil (steps g) ∙ ap steps q
built_waiting [] (g ∷ (h ∷ fs)) f e = cc
built_waiting (step.Number c u ∷ row) fs f e = built_waiting row (Formula.number c u ∷ fs) f e
built_waiting (step.Entry i ∷ row) fs f e = built_waiting row (Formula.name (entry i) ∷ fs) f e
built_waiting (step.Line k ∷ row) fs f e = built_waiting row (Formula.name (line k) ∷ fs) f e
built_waiting (step.Op o ∷ row) [] f e = cc
built_waiting (step.Op o ∷ row) (g ∷ []) f e = cc
built_waiting (step.Op o ∷ row) (g ∷ (h ∷ fs)) f e = ap (waiting fs) (sym (join_steps o h g row)) ∙ built_waiting row (Formula.join o h g ∷ fs) f e

pub steps_formula : (row : List Step) (f : Formula) → formula row ≡ Some f → row ≡ steps f
unfolding waiting
steps_formula row f e = built_waiting row [] f e

-- what was put after a row is the part that begins at its end
pub part_new : (row more rest : List Step) → part (row ++ (more ++ rest)) (record { start = length row; len = length more }) ≡ more
part_new row more rest = ap (take (length more)) (drop_at row (more ++ rest) (length row) refl) ∙ take_at more rest (length more) refl
