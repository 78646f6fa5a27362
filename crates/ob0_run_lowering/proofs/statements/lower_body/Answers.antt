use Rattle.std.proofs.Common.{Option, sym, ap, subst}
use Rattle.std.proofs.lemmas.Result.{MatchResult-weaker}
use Rattle.std.specs.declared.alloc.Global.{Global}
use Rattle.std.specs.declared.vec.Vec.{Vec}
use Rattle.ob0_tree.specs.View.{body_of, sequence_of_list}
use Rattle.ob0_tree.specs.declared.tree.Statement.{Statement}
use Rattle.ob0_scope_table.specs.LabelledTrees.{tree_with_labels}
use Rattle.ob0_run_machine.specs.LoweredCodeViews.{sequence_of}
use Rattle.ob0_run_lowering.specs.LoweredBodies.{LowersBody}
use Rattle.ob0_run_lowering.proofs.HoldsIfWellTypedInScene.{no-body, some-body}
use Rattle.ob0_run_lowering.proofs.statements.lower_body.Goals as goal

pub returns-in-None : goal.returns-in-None
returns-in-None c =
    let scene = c.args.scene.now in
    let P : Option (Vec Statement Global) → Type 0 = λ b. LowersBody scene (sequence_of c.new.result.items) (tree_with_labels scene.resolved.now (body_of b)) in
    subst P (sym c.in-None.is) (no-body scene (sequence_of c.new.result.items) (ap sequence_of c.new.ensures.items))

pub returns-in-Some : goal.returns-in-Some
returns-in-Some c =
    let scene = c.args.scene.now in
    MatchResult-weaker c.lower_sequence.result c.lower_sequence.ensures (λ made h.
    let P : Option (Vec Statement Global) → Type 0 = λ b. LowersBody scene (sequence_of made.items) (tree_with_labels scene.resolved.now (body_of b)) in
    subst P (sym c.in-Some.is) (some-body scene (tree_with_labels scene.resolved.now (sequence_of_list c.in-Some.statements.items)) (sequence_of made.items) h)) (λ y h. h)
