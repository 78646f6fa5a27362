use Rattle.ob0_types_check.specs.CheckerViews.{CodeFieldsMatchKnownFields}
use Rattle.ob0_types_check.specs.WrittenTypeFaults.{KnownFields}
use Rattle.ob0_types_check.proofs.GatheredFields.{NamesGathered}
use Rattle.ob0_types_check.proofs.reporting.checker_state.CheckerState.add_known_fields.Given as goal

abbrev pub invariant-loop-name : goal.invariant-loop-name
invariant-loop-name l = (g : KnownFields) → CodeFieldsMatchKnownFields g l.self l.initial.gathered → NamesGathered l.of g l.self l.name-items l.name-index l.gathered
