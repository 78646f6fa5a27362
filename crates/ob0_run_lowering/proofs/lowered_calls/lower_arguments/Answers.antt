use Rattle.std.proofs.Common.{List, None, Option, map, sym, subst}
use Rattle.std.proofs.lemmas.Result.{MatchResult-weaker}
use Rattle.std.specs.declared.alloc.Global.{Global}
use Rattle.std.specs.declared.vec.Vec.{Vec}
use Rattle.ob0_tree.specs.declared.tree.Expression.{Expression}
use Rattle.ob0_types_table.specs.Designators.{labelled_expressions}
use Rattle.ob0_run_machine.specs.declared.code.Argument.{Argument}
use Rattle.ob0_run_machine.specs.LoweredCodeViews.{argument_of}
use Rattle.ob0_run_lowering.specs.LoweredBodies.{LowersArguments, arguments_or_empty_list}
use Rattle.ob0_run_lowering.proofs.Called.{none_given, signature_in}
use Rattle.ob0_run_lowering.proofs.lowered_calls.lower_arguments.Goals as goal

pub returns-in-None : goal.returns-in-None
returns-in-None c =
    let scene = c.args.scene.now in
    let fs = c.args.formals.now in
    let P : Option (Vec Expression Global) → List Argument → Type 0 = λ given made. LowersArguments scene (signature_in scene fs) (map argument_of made) (labelled_expressions scene.resolved.now (arguments_or_empty_list given)) in
    let Q : List Argument → Type 0 = λ made. P None made in
    let R : Option (Vec Expression Global) → Type 0 = λ given. P given c.new.result.items in
    subst R (sym c.in-None.is) (subst Q (sym c.new.ensures.items) (none_given scene fs))

pub returns-in-Some : goal.returns-in-Some
returns-in-Some c =
    let scene = c.args.scene.now in
    let fs = c.args.formals.now in
    MatchResult-weaker c.lower_argument_list.result c.lower_argument_list.ensures (λ made h.
    let R : Option (Vec Expression Global) → Type 0 = λ given. LowersArguments scene (signature_in scene fs) (map argument_of made.items) (labelled_expressions scene.resolved.now (arguments_or_empty_list given)) in
    subst R (sym c.in-Some.is) h) (λ y h. h)
