use Rattle.std.proofs.Common.{◌≡◌, ◌++◌, drop, map, option_map, string_bytes}
use Rattle.serde_json.specs.View.{items_view}
use Rattle.ob0_rpc.specs.Requests.{texts_of_items}
use Rattle.ob0_rpc.proofs.requests.texts_of_items.Given as goal

-- The loop's invariant: all texts are the texts so far, followed by the texts of the remaining
-- items.
abbrev pub invariant-loop-item : goal.invariant-loop-item
invariant-loop-item l = texts_of_items (items_view l.items) ≡ option_map (λ later. map string_bytes l.texts.items ++ later) (texts_of_items (items_view (drop l.item-index l.items)))
