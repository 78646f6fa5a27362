-- Finds the designator of a factor, term or simple expression that is only a designator. Converts
-- expressions to trees with labels.
-- Rule: none; used in contracts about designators and labelled trees.
use Rattle.std.specs.Prelude.{ℕ, List, map, Some, None, Option}
use Rattle.ob0_tree.specs.Tree.{Tree, designator, end, expression, factor, items, product, selector, simple, sum, term}
use Rattle.ob0_tree.specs.View.{expression_of}
use Rattle.ob0_tree.specs.declared.tree.Designator.{Designator, out-Designator}
use Rattle.ob0_tree.specs.declared.tree.Expression.{Expression}
use Rattle.ob0_language_names.specs.Names.{Label}
use Rattle.ob0_scope_table.specs.Resolution.{Resolution}
use Rattle.ob0_scope_table.specs.LabelledTrees.{tree_with_labels}
use Rattle.ob0_language_types.specs.DesignatorSelectors.{selectors_of_designator}

-- returns a designator's name and its selectors
abbrev pub designator_parts : Designator → ℕ × Tree ℕ (items selector)
designator_parts d = ((out-Designator d).name, selectors_of_designator d)

-- returns the name and the selectors of a factor that is a designator; None for any other factor
abbrev pub designator_of_factor : {N : Type 0}
    → Tree N factor
    → Option (N × Tree N (items selector))
designator_of_factor (designator x path) = Some (x, path)
designator_of_factor _ = None

-- returns the name and the selectors of a term that is only a designator; None for any other term
abbrev pub designator_of_term : {N : Type 0} → Tree N term → Option (N × Tree N (items selector))
designator_of_term (product f end) = designator_of_factor f
designator_of_term _ = None

-- returns the name and the selectors of a simple expression that is only a designator, without sign and operator; None
-- for any other simple expression
abbrev pub designator_of_simple_expression : {N : Type 0}
    → Tree N simple
    → Option (N × Tree N (items selector))
designator_of_simple_expression (sum None t end) = designator_of_term t
designator_of_simple_expression _ = None

-- returns the trees of the expressions in a list, in order; in these trees each name is replaced by its label: the
-- ordinal of its declaration, or the name itself if it isn't bound
abbrev pub labelled_expressions : Resolution → List Expression → List (Tree Label expression)
labelled_expressions r es = map (λ e. tree_with_labels r (expression_of e)) es
