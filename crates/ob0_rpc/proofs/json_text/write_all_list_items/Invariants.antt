use Rattle.std.proofs.Common.{◌≡◌, false, map, nat_lt, take}
use Rattle.ob0_rpc.specs.AppendedJson.{AppendsEachValue}
use Rattle.ob0_rpc.proofs.json_text.write_all_list_items.Given as goal

abbrev pub invariant-loop-value : goal.invariant-loop-value
invariant-loop-value g l = AppendsEachValue false (map g.W.WriteJson.value (take l.value-index l.values)) l.initial.out.items l.out.items × (l.needs_comma ≡ nat_lt 0 l.value-index)
