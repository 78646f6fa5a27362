use Rattle.ob0_world_editor.proofs.ReadEdits.{HasRead}
use Rattle.ob0_world_editor.proofs.message_reader.read_edit_list.Given as goal

-- the edits of the list are the edits so far, then the edits of the remaining values
abbrev pub invariant-loop-value : goal.invariant-loop-value
invariant-loop-value l = HasRead l.values l.value-index l.edits.items
