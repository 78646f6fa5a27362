use Rattle.std.proofs.Common.{Some, map, sym, ap, ◌∙◌}
use Rattle.std.proofs.lemmas.Result.{MatchResult-weaker}
use Rattle.ob0_tree.specs.View.{arguments_of}
use Rattle.ob0_scope_table.specs.LabelledTrees.{tree_with_labels, label_at_token}
use Rattle.ob0_types_table.specs.DeclarationTables.{shapes_of}
use Rattle.ob0_types_table.specs.DeclarationTableView.{formal_parameter_view, object_view}
use Rattle.ob0_language_types.specs.Expressions.{a_procedure}
use Rattle.ob0_language_types.specs.WellTyped.{signature_of}
use Rattle.ob0_run_machine.specs.LoweredSyntax.{writes_line}
use Rattle.ob0_run_lowering.proofs.Called.{uncallable}
use Rattle.ob0_run_lowering.proofs.lowered_calls.lower_call_statement.Goals as goal

pub returns-in-None : goal.returns-in-None
returns-in-None c =
    let scene = c.args.scene.now in
    let lower_call_statement = c.args.c.now in
    uncallable scene (label_at_token scene.resolved.now lower_call_statement.procedure) (tree_with_labels scene.resolved.now (arguments_of lower_call_statement.arguments)) writes_line (sym (ap signature_of c.in-None.ensures))

pub returns-in-Procedure : goal.returns-in-Procedure
returns-in-Procedure c =
    let shapes = shapes_of c.args.scene.now.types.now in
    MatchResult-weaker c.lower_procedure_call.result c.lower_procedure_call.ensures (λ made h. h (sym c.in-Some.ensures ∙ ap (object_view shapes) c.in-Procedure.is ∙ sym (ap (λ fs. Some (a_procedure (map (formal_parameter_view shapes) fs))) c.as_slice.ensures.value))) (λ y h. h)

pub returns-in-StandardProcedure : goal.returns-in-StandardProcedure
returns-in-StandardProcedure c =
    let scene = c.args.scene.now in
    MatchResult-weaker c.lower_standard_call.result c.lower_standard_call.ensures (λ made h. h (label_at_token scene.resolved.now c.args.c.now.procedure) (sym c.in-Some.ensures ∙ ap (object_view (shapes_of scene.types.now)) c.in-StandardProcedure.is)) (λ y h. h)

pub returns-in-TypeName : goal.returns-in-TypeName
returns-in-TypeName c =
    let scene = c.args.scene.now in
    let lower_call_statement = c.args.c.now in
    uncallable scene (label_at_token scene.resolved.now lower_call_statement.procedure) (tree_with_labels scene.resolved.now (arguments_of lower_call_statement.arguments)) writes_line (sym (ap signature_of c.in-Some.ensures) ∙ ap (λ o. signature_of (object_view (shapes_of scene.types.now) o)) c.in-TypeName.is)

pub returns-in-Constant : goal.returns-in-Constant
returns-in-Constant c =
    let scene = c.args.scene.now in
    let lower_call_statement = c.args.c.now in
    uncallable scene (label_at_token scene.resolved.now lower_call_statement.procedure) (tree_with_labels scene.resolved.now (arguments_of lower_call_statement.arguments)) writes_line (sym (ap signature_of c.in-Some.ensures) ∙ ap (λ o. signature_of (object_view (shapes_of scene.types.now) o)) c.in-Constant.is)

pub returns-in-FaultyConstant : goal.returns-in-FaultyConstant
returns-in-FaultyConstant c =
    let scene = c.args.scene.now in
    let lower_call_statement = c.args.c.now in
    uncallable scene (label_at_token scene.resolved.now lower_call_statement.procedure) (tree_with_labels scene.resolved.now (arguments_of lower_call_statement.arguments)) writes_line (sym (ap signature_of c.in-Some.ensures) ∙ ap (λ o. signature_of (object_view (shapes_of scene.types.now) o)) c.in-FaultyConstant.is)

pub returns-in-Variable : goal.returns-in-Variable
returns-in-Variable c =
    let scene = c.args.scene.now in
    let lower_call_statement = c.args.c.now in
    uncallable scene (label_at_token scene.resolved.now lower_call_statement.procedure) (tree_with_labels scene.resolved.now (arguments_of lower_call_statement.arguments)) writes_line (sym (ap signature_of c.in-Some.ensures) ∙ ap (λ o. signature_of (object_view (shapes_of scene.types.now) o)) c.in-Variable.is)
