use Rattle.std.proofs.Common.{option_map, sym, ap, ◌∙◌}
use Rattle.std.proofs.lemmas.Result.{IfOk-weaker}
use Rattle.ob0_tree.specs.View.{expression_of}
use Rattle.ob0_tree.specs.declared.tree.Designator.{out-Designator}
use Rattle.ob0_language_types.specs.DesignatorSelectors.{selectors_of_designator}
use Rattle.ob0_types_table.proofs.DesignatedAlone.{labelled_designator, parts_in}
use Rattle.ob0_run_lowering.specs.LoweredExpressionMeans.{LocatesDesignator, LocatesLoneDesignator}
use Rattle.ob0_run_lowering.proofs.Lowerings.{alone-by, alone-not}
use Rattle.ob0_run_lowering.proofs.scene.Scene.locate_var_argument.Goals as goal

pub returns-in-None : goal.returns-in-None
returns-in-None c =
    let scene = c.args.self.now in
    let e = expression_of c.args.e.now in
    alone-not scene e c.fallback_place.result (labelled_designator scene.resolved.now e ∙ sym (ap (option_map (parts_in scene.resolved.now)) c.in-None.ensures))

pub returns-in-Some : goal.returns-in-Some
returns-in-Some c =
    let scene = c.args.self.now in
    let e = expression_of c.args.e.now in
    let d = c.in-Some.d.now in
    IfOk-weaker c.lower_to_place.result (LocatesDesignator scene (out-Designator d).name (selectors_of_designator d)) (LocatesLoneDesignator scene e)
    (λ l h. alone-by scene e (out-Designator d).name (selectors_of_designator d) l (labelled_designator scene.resolved.now e ∙ sym (ap (option_map (parts_in scene.resolved.now)) c.in-Some.ensures)) h) c.lower_to_place.ensures
