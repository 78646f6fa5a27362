use Rattle.std.proofs.Common.{◌≡◌, ◌++◌, length, map, option_map}
use Rattle.std.specs.Vec.Iter.{into_iter_items, into_iter_len}
use Rattle.serde_json.specs.View.{items_view}
use Rattle.ob0_text.specs.OpenDocuments.{text_change_of}
use Rattle.ob0_rpc.specs.Notifications.{content_changes_of_items}
use Rattle.ob0_rpc.proofs.changes.read_changes.Given as goal

-- The loop's invariant: all changes are the changes so far, followed by the changes of the
-- remaining entries.
abbrev pub invariant-loop-entry : goal.invariant-loop-entry
invariant-loop-entry l =
    (content_changes_of_items (items_view (into_iter_items l.initial.entry-iterator)) ≡ option_map (λ later. map text_change_of l.changes.items ++ later) (content_changes_of_items (items_view (into_iter_items l.entry-iterator))))
    × (into_iter_len l.entry-iterator ≡ length (into_iter_items l.entry-iterator))
