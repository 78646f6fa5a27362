use Rattle.std.proofs.Common.{◌≡◌, drop}
use Rattle.serde_json.specs.View.{items_view}
use Rattle.ob0_world_editor.specs.MessagesToEditor.{first_action_with_title}
use Rattle.ob0_world_editor.proofs.message_reader.action_with_title.Given as goal

-- the first action with the title is the first among the remaining actions
abbrev pub invariant-loop-action : goal.invariant-loop-action
invariant-loop-action l = first_action_with_title l.title (items_view l.actions) ≡ first_action_with_title l.title (items_view (drop l.action-index l.actions))
