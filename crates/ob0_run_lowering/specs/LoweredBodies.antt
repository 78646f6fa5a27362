-- States that statements are lowered to correct code. A scene (`Scene`) is the data that is needed
-- to lower a body. A clause about statements covers all checked names, slots and targets that agree
-- with the scene (`SceneAgreesWithChecker`). It says that the code of a tree is correct, if the
-- tree is well-typed with these names (`HoldsIfWellTypedInScene`). If the tree isn't well-typed, nothing is
-- claimed about its code. The parts of a well-typed tree are well-typed, so each law of
-- `ob0_run_cells` is lifted to this form once (`proofs/HoldsIfWellTypedInScene`). Only the clause of
-- `lower_body` has another form (`LowersBody`): it is about each environment and each placement
-- that agree with the scene.
-- Rule: none; used in contracts of lowering.
use Rattle.std.specs.Prelude.{◌≡◌, ◌&&◌, Bool, List, [], IsTrue, Option, Some, None}
use Rattle.std.specs.declared.alloc.Global.{Global}
use Rattle.std.specs.declared.vec.Vec.{Vec}
use Rattle.ob0_tree.specs.Tree.{Tree, body, else_part, elsif_part, empty, expression, statement_after_semicolon, items, maybe, sequence, statement}
use Rattle.ob0_tree.specs.declared.tree.Expression.{Expression}
use Rattle.ob0_language_names.specs.Names.{Label, naming_by_label}
use Rattle.ob0_language_types.specs.Environments.{meanings}
use Rattle.ob0_language_types.specs.WellTyped.{Signature, TypeEnvironment, TypeMeanings, arguments_match_signature, body_is_well_typed, condition_is_boolean, else_is_well_typed, elsifs_are_well_typed, sequence_is_well_typed, statement_is_well_typed, further_statements_are_well_typed}
use Rattle.ob0_run_machine.specs.LoweredSyntax as lowered
use Rattle.ob0_run_cells.specs.Activations.{CodeMeansBody, Placement, slot_in_placement, target_in_placement}
use Rattle.ob0_run_cells.specs.LoweredStatements.{CodeMeansArguments, CodeMeansElse, CodeMeansElsifs, CodeMeansStatementsAfterFirst, CodeMeansSequence, CodeMeansStatement, Target}
use Rattle.ob0_run_cells.specs.LoweredExpressions.{Slot, TruthHasOutcome, value_of_expression}
use Rattle.ob0_run_lowering.specs.declared.scene.Scene.{Scene}
use Rattle.ob0_run_lowering.specs.Scenes.{SceneAgreesWithChecker}

-- States that `Means` holds for all checked names, slots and targets that agree with a scene
-- (`SceneAgreesWithChecker`) and for which `fits` is true. In each use, `fits` says that a tree is
-- well-typed with the checked names, and `Means` that its code is correct.
abbrev pub HoldsIfWellTypedInScene : Scene
    → (TypeMeanings Label → Bool)
    → (TypeMeanings Label → (Label → Slot) → (Label → Target) → Type 0)
    → Type 0
HoldsIfWellTypedInScene scene fits Means =
    (checked : TypeMeanings Label) (slots : Label → Slot) (targets : Label → Target)
    → SceneAgreesWithChecker scene checked slots targets
    → IsTrue (fits checked)
    → Means checked slots targets

-- States that a truth is correct code for a condition, lowered with the data in `scene`. Claims
-- nothing if the condition isn't BOOLEAN.
abbrev pub LowersCondition : Scene → lowered.Truth → Tree Label expression → Type 0
LowersCondition scene t e =
    HoldsIfWellTypedInScene scene (λ checked. condition_is_boolean checked e)
    (λ checked slots targets. TruthHasOutcome checked slots t (value_of_expression e))

-- States that the lowered arguments `cs` are correct code for the arguments `es` of a call, lowered
-- with the data in `scene`. Claims nothing if the arguments don't match the parameters.
abbrev pub LowersArguments : Scene
    → Signature
    → List lowered.LoweredArgument
    → List (Tree Label expression)
    → Type 0
LowersArguments scene signature cs es =
    HoldsIfWellTypedInScene scene (λ checked. arguments_match_signature checked signature es)
    (λ checked slots targets. CodeMeansArguments checked slots signature cs es)

-- States that an instruction is correct code for a statement, lowered with the data in `scene`.
-- Claims nothing if the statement isn't well-typed.
abbrev pub LowersStatement : Scene → lowered.Instruction → Tree Label statement → Type 0
LowersStatement scene c a =
    HoldsIfWellTypedInScene scene (λ checked. statement_is_well_typed checked a)
    (λ checked slots targets. CodeMeansStatement checked slots targets c a)

-- Returns the arguments of a call. Returns the empty list if the call has no argument list.
abbrev pub arguments_or_empty_list : Option (Vec Expression Global) → List Expression
arguments_or_empty_list None = []
arguments_or_empty_list (Some es) = es.items

-- States that an instruction is correct code for a statement, as `LowersStatement` does. For None
-- instead of an instruction, states that the statement is empty.
abbrev pub LowersOptionalStatement : Scene → Option lowered.Instruction → Tree Label statement → Type 0
LowersOptionalStatement scene None a = a ≡ empty
LowersOptionalStatement scene (Some c) a = LowersStatement scene c a

-- States that the instructions are correct code for a sequence of statements, lowered with the data
-- in `scene`. Claims nothing if the sequence isn't well-typed.
abbrev pub LowersSequence : Scene → lowered.InstructionList → Tree Label sequence → Type 0
LowersSequence scene cs a =
    HoldsIfWellTypedInScene scene (λ checked. sequence_is_well_typed checked a)
    (λ checked slots targets. CodeMeansSequence checked slots targets cs a)

-- States that the instructions are correct code for the statements after the first one of a
-- sequence, lowered with the data in `scene`. Claims nothing if these statements aren't well-typed.
abbrev pub LowersStatementsAfterFirst : Scene → lowered.InstructionList → Tree Label (items statement_after_semicolon)
    → Type 0
LowersStatementsAfterFirst scene cs rest =
    HoldsIfWellTypedInScene scene (λ checked. further_statements_are_well_typed checked rest)
    (λ checked slots targets. CodeMeansStatementsAfterFirst checked slots targets cs rest)

-- States that the instructions are correct code for an ELSE part, lowered with the data in `scene`.
-- If there is no ELSE part, states that the instructions have no effect. Claims nothing if the ELSE
-- part isn't well-typed.
abbrev pub LowersElse : Scene → lowered.InstructionList → Tree Label (maybe else_part) → Type 0
LowersElse scene cs last =
    HoldsIfWellTypedInScene scene (λ checked. else_is_well_typed checked last)
    (λ checked slots targets. CodeMeansElse checked slots targets cs last)

-- States that the branches `bs` are correct code for ELSIF parts, and the instructions `cs` for the
-- ELSE part after them. All are lowered with the data in `scene`. Claims nothing if one of these
-- parts isn't well-typed.
abbrev pub LowersElsifs : Scene
    → lowered.Branches
    → lowered.InstructionList
    → Tree Label (items elsif_part)
    → Tree Label (maybe else_part)
    → Type 0
LowersElsifs scene bs cs rest last =
    HoldsIfWellTypedInScene scene (λ checked. elsifs_are_well_typed checked rest && else_is_well_typed checked last)
    (λ checked slots targets. CodeMeansElsifs checked slots targets bs cs rest last)

-- States that the instructions are correct code for a body, in each environment and each placement
-- that agree with the scene (`SceneAgreesWithChecker`). Claims nothing if the body isn't well-typed
-- in the environment.
abbrev pub LowersBody : Scene → lowered.InstructionList → Tree Label (maybe body) → Type 0
LowersBody scene cs b =
    (env : TypeEnvironment Label) (placement : Placement Label)
    → SceneAgreesWithChecker scene (meanings naming_by_label env) (slot_in_placement naming_by_label placement)
    (target_in_placement naming_by_label placement)
    → IsTrue (body_is_well_typed naming_by_label env b)
    → CodeMeansBody naming_by_label env placement cs b
