use Rattle.std.proofs.Common.{◌≡◌, false, map, nat_lt, take}
use Rattle.ob0_rpc.specs.AppendedJson.{AppendsEachValue}
use Rattle.ob0_world_editor.specs.Shapes.{change_value}
use Rattle.ob0_world_editor.proofs.params.write_changes.Given as goal

abbrev pub invariant-loop-change : goal.invariant-loop-change
invariant-loop-change l = AppendsEachValue false (map change_value (take l.change-index l.changes)) l.initial.out.items l.out.items × (l.later ≡ nat_lt 0 l.change-index)
