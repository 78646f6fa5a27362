-- States that expressions, designators and arguments are lowered to correct code. A scene (`Scene`)
-- is the data that is needed to lower a body. The code is correct for all checked names and slots
-- that agree with the scene (`SceneAgreesWithChecker`).
-- Rule: none; used in contracts of lowering.
use Rattle.std.specs.Prelude.{◌≡◌, ℕ, true, Some}
use Rattle.ob0_tree.specs.Tree.{Tree, expression, items, selector}
use Rattle.ob0_language_names.specs.Names.{Label}
use Rattle.ob0_types_table.specs.DeclarationTables.{shapes_of}
use Rattle.ob0_types_table.specs.DeclarationTableView.{formal_parameter_view, type_shape}
use Rattle.ob0_types_table.specs.declared.declaration_table.FormalParameter.{FormalParameter}
use Rattle.ob0_scope_table.specs.LabelledTrees.{tree_with_labels, label_at_token}
use Rattle.ob0_language_types.specs.Typing.{lone_designator, type_of_expression}
use Rattle.ob0_language_types.specs.WellTyped.{TypeMeanings, argument_matches_parameter, assignable_type}
use Rattle.ob0_language_values.specs.Values.{Shape, Value, boolean_shape, integer_shape}
use Rattle.ob0_run_machine.specs.LoweredCodeViews.{argument_of, number_of, place_of, truth_of}
use Rattle.ob0_run_machine.specs.declared.code.Argument.{Argument}
use Rattle.ob0_run_machine.specs.declared.code.Number.{Number}
use Rattle.ob0_run_machine.specs.declared.code.Truth.{Truth}
use Rattle.ob0_run_cells.specs.LoweredStatements.{CodeMeansArgument, IsLoneDesignatorOfPlace, Target}
use Rattle.ob0_run_cells.specs.LoweredExpressions.{OutcomeByMoment, NumberHasOutcome, PlaceHasOutcome, Slot, TruthHasOutcome, place_of_designator, value_of_expression}
use Rattle.ob0_run_lowering.specs.OperationCodes.{CodeHasOutcome}
use Rattle.ob0_run_lowering.specs.Scenes.{SceneAgreesWithChecker}
use Rattle.ob0_run_lowering.specs.TreeCodes.{expression_code_of}
use Rattle.ob0_run_lowering.specs.declared.lowered_expression.TypedPlace.{TypedPlace}
use Rattle.ob0_run_lowering.specs.declared.lowered_expression.LoweredExpression.{LoweredExpression}
use Rattle.ob0_run_lowering.specs.declared.scene.Scene.{Scene}

-- States that the code `l` is correct for the evaluation `value`, whose values have the type `s`
-- (`CodeHasOutcome`).
abbrev pub LoweredExpressionMeans : TypeMeanings Label → (Label → Slot) → LoweredExpression → Shape → OutcomeByMoment Label Value → Type 0
LoweredExpressionMeans checked slots l s value = CodeHasOutcome checked slots (expression_code_of l) s value

-- States that `P` holds for all checked names and slots that agree with a scene
-- (`SceneAgreesWithChecker`).
abbrev pub HoldsForAgreeingNames : Scene → (TypeMeanings Label → (Label → Slot) → Type 0) → Type 0
HoldsForAgreeingNames scene P =
    (checked : TypeMeanings Label) (slots : Label → Slot) (targets : Label → Target)
    → SceneAgreesWithChecker scene checked slots targets
    → P checked slots

-- States that `l` is correct code for an expression, lowered with the data in `scene`. Claims
-- nothing if the expression has no type.
abbrev pub LowersExpression : Scene → Tree ℕ expression → LoweredExpression → Type 0
LowersExpression scene e l =
    HoldsForAgreeingNames scene (λ checked slots. (s : Shape)
    → type_of_expression checked (tree_with_labels scene.resolved.now e) ≡ Some s
    → LoweredExpressionMeans checked slots l s (value_of_expression (tree_with_labels scene.resolved.now e)))

-- States that the number `n` is correct code for an expression, lowered with the data in `scene`.
-- Claims nothing if the expression isn't of type INTEGER.
abbrev pub LowersNumber : Scene → Tree ℕ expression → Number → Type 0
LowersNumber scene e n =
    HoldsForAgreeingNames scene (λ checked slots. type_of_expression checked (tree_with_labels scene.resolved.now e)
    ≡ Some integer_shape
    → NumberHasOutcome checked slots (number_of n)
    (value_of_expression (tree_with_labels scene.resolved.now e)))

-- States that the truth `t` is correct code for an expression, lowered with the data in `scene`.
-- Claims nothing if the expression isn't of type BOOLEAN.
abbrev pub LowersTruth : Scene → Tree ℕ expression → Truth → Type 0
LowersTruth scene e t =
    HoldsForAgreeingNames scene (λ checked slots. type_of_expression checked (tree_with_labels scene.resolved.now e)
    ≡ Some boolean_shape
    → TruthHasOutcome checked slots (truth_of t)
    (value_of_expression (tree_with_labels scene.resolved.now e)))

-- States that `l` is the place and the type of a designator, lowered with the data in `scene`. The
-- designator is the variable at the token `x` with the selectors `path`. Claims nothing if it isn't
-- a variable with a type.
abbrev pub LocatesDesignator : Scene → ℕ → Tree ℕ (items selector) → TypedPlace → Type 0
LocatesDesignator scene x path l =
    HoldsForAgreeingNames scene (λ checked slots. (s : Shape)
    → assignable_type checked
    (Some (label_at_token scene.resolved.now x, tree_with_labels scene.resolved.now path)) ≡ Some s
    → (type_shape (shapes_of scene.types.now) l.type_id ≡ s)
    × PlaceHasOutcome checked slots (place_of l.place) s
    (place_of_designator (label_at_token scene.resolved.now x) (tree_with_labels scene.resolved.now path)))

-- States that `l` is the place and the type of an expression that is only a designator, lowered
-- with the data in `scene`. Claims nothing about other expressions.
abbrev pub LocatesLoneDesignator : Scene → Tree ℕ expression → TypedPlace → Type 0
LocatesLoneDesignator scene e l =
    HoldsForAgreeingNames scene (λ checked slots. (s : Shape)
    → assignable_type checked (lone_designator (tree_with_labels scene.resolved.now e)) ≡ Some s
    → (type_shape (shapes_of scene.types.now) l.type_id ≡ s)
    × IsLoneDesignatorOfPlace checked slots (place_of l.place) s (tree_with_labels scene.resolved.now e))

-- States that the lowered argument `a` is correct code for the argument `e`, lowered with the data
-- in `scene`. Claims nothing if `e` doesn't match its parameter `f`.
abbrev pub LowersArgument : Scene → FormalParameter → Tree ℕ expression → Argument → Type 0
LowersArgument scene f e a =
    HoldsForAgreeingNames scene (λ checked slots. argument_matches_parameter checked
    (formal_parameter_view (shapes_of scene.types.now) f) (tree_with_labels scene.resolved.now e) ≡ true
    → CodeMeansArgument checked slots (formal_parameter_view (shapes_of scene.types.now) f) (argument_of a)
    (tree_with_labels scene.resolved.now e))
