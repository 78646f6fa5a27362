use Rattle.std.proofs.Common.{List, map, sym, subst}
use Rattle.ob0_tree.specs.Tree.{Tree, expression}
use Rattle.ob0_tree.specs.View.{arguments_of}
use Rattle.ob0_language_names.specs.Names.{Label}
use Rattle.ob0_scope_table.specs.LabelledTrees.{tree_with_labels, label_at_token}
use Rattle.ob0_run_machine.specs.LoweredCodeViews.{argument_of}
use Rattle.ob0_run_lowering.specs.LoweredBodies.{LowersArguments}
use Rattle.ob0_run_lowering.proofs.Called.{called, given_listed, signature_in}
use Rattle.ob0_run_lowering.proofs.lowered_calls.lower_procedure_call.Goals as goal

pub returns : goal.returns
returns c =
    let scene = c.args.scene.now in
    let r = scene.resolved.now in
    let lower_call_statement = c.args.c.now in
    let cs = map argument_of c.in_ok-arguments.arguments.items in
    let P : List (Tree Label expression) → Type 0 = λ es. LowersArguments scene (signature_in scene c.args.formals.now) cs es in
    let args = subst P (sym (given_listed r lower_call_statement.arguments)) c.in_ok-arguments.ensures in
    λ declared. called scene (label_at_token r lower_call_statement.procedure) (tree_with_labels r (arguments_of lower_call_statement.arguments)) (signature_in scene c.args.formals.now) cs c.call_target_at_token-target.result.procedure c.call_target_at_token-target.result.up declared args c.call_target_at_token-target.ensures
