use Rattle.ob0_language_types.specs.DesignatorSelectors.{selectors_of_designator}
use Rattle.ob0_run_lowering.proofs.Lowerings.{locates-by}
use Rattle.ob0_run_lowering.proofs.scene.Scene.lower_to_place.Goals as goal

pub returns : goal.returns
returns c = locates-by c.args.self.now c.args.d.now.name (selectors_of_designator c.args.d.now) c.in_ok-found.found c.found_or_fallback_place.result c.found_or_fallback_place.ensures c.in_ok-found.ensures
