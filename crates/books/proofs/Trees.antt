-- The steps of a tree, looked up, are the steps of its formula.
use Rattle.std.proofs.Common.{◌≡◌, ℕ, List, [], ◌∷◌, ◌++◌, Some, None, Option, refl, ap, ◌∙◌}
use Rattle.std.specs.Option.{option_map}
use Rattle.lines.specs.declared.reader.Op.{Op}
use Rattle.lines.specs.Grammar.{Tree, Item, postfix}
use Rattle.books.specs.declared.step.Declared.{Declared}
use Rattle.books.specs.declared.step.Declared.TheVariants as declared
use Rattle.books.specs.declared.step.Step.{Step}
use Rattle.books.specs.declared.step.Step.TheVariants as step
use Rattle.books.specs.Names.{known, step_of, join, resolved}
use Rattle.books.specs.Formulas.{Formula, steps, operand, join_both, formula_of}

-- two rows one after the other, if both are there
unfoldable pub chained : Option (List Step) → Option (List Step) → Option (List Step)
chained None y = None
chained (Some xs) y = option_map (λ ys. xs ++ ys) y

join_chained : (s : Option Step) (x y : Option (List Step)) → join s (chained x y) ≡ chained (join s x) y
unfolding chained
join_chained None x y = refl
join_chained (Some s) None y = refl
join_chained (Some s) (Some xs) None = refl
join_chained (Some s) (Some xs) (Some ys) = refl

pub resolved_append : (look : List ℕ → Option Declared) (xs ys : List Item) → resolved look (xs ++ ys) ≡ chained (resolved look xs) (resolved look ys)
unfolding chained
resolved_append look [] ys = go (resolved look ys)
  where
    go : (y : Option (List Step)) → y ≡ option_map (λ zs. zs) y
    go None = refl
    go (Some y) = refl
resolved_append look (x ∷ xs) ys = ap (join (step_of look x)) (resolved_append look xs ys) ∙ join_chained (step_of look x) (resolved look xs) (resolved look ys)

name_row : (o : Option Declared) → join (known o) (Some []) ≡ option_map steps (operand o)
name_row None = refl
name_row (Some (declared.Entry i)) = refl
name_row (Some (declared.Line i)) = refl
name_row (Some declared.Rule) = refl

join_row : (o : Op) (x y : Option Formula) → chained (option_map steps x) (chained (option_map steps y) (Some (step.Op o ∷ []))) ≡ option_map steps (join_both o x y)
unfolding chained
join_row o None y = refl
join_row o (Some f) None = refl
join_row o (Some f) (Some g) = refl

pub rows_of_trees : (look : List ℕ → Option Declared) (t : Tree) → resolved look (postfix t) ≡ option_map steps (formula_of look t)
rows_of_trees look (Tree.number n u) = refl
rows_of_trees look (Tree.name w) = name_row (look w)
rows_of_trees look (Tree.join o t u) =
    resolved_append look (postfix t) (postfix u ++ (Item.join o ∷ [])) ∙ ap (chained (resolved look (postfix t))) (resolved_append look (postfix u) (Item.join o ∷ [])) ∙ (λ i. chained (rows_of_trees look t i) (chained (rows_of_trees look u i) (Some (step.Op o ∷ [])))) ∙ join_row o (formula_of look t) (formula_of look u)
