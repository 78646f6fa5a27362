use Rattle.std.proofs.Common.{◌≡◌, drop}
use Rattle.serde_json.specs.View.{items_view}
use Rattle.ob0_rpc.specs.Requests.{contains_text}
use Rattle.ob0_rpc.proofs.client_capabilities.contains_text.Given as goal

-- The loop's invariant: the list contains the text exactly if the remaining items do.
abbrev pub invariant-loop-item : goal.invariant-loop-item
invariant-loop-item l = contains_text l.text (items_view l.items) ≡ contains_text l.text (items_view (drop l.item-index l.items))
