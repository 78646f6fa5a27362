use Rattle.ob0_types_check.specs.CheckerViews.{declarations_in_state}
use Rattle.ob0_types_check.specs.WrittenTypeFaults.{no_known_fields}
use Rattle.ob0_types_check.proofs.GatheredFields.{GroupsGathered}
use Rattle.ob0_types_check.proofs.reporting.ReportingWalk.+types.Given as goal

abbrev pub invariant-check_field_groups-loop-group : goal.invariant-check_field_groups-loop-group
invariant-check_field_groups-loop-group l =
    GroupsGathered l.initial.around (no_known_fields (declarations_in_state l.initial.self.checker_state)) l.initial.self.faults.items l.groups l.group-index l.self.faults.items l.self.checker_state l.gathered
