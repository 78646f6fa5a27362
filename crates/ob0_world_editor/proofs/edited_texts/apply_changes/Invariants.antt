use Rattle.std.proofs.Common.{◌≡◌, fold, map, take, Some}
use Rattle.ob0_text.specs.OpenDocuments.{changed_text, text_change_of}
use Rattle.ob0_world_editor.proofs.edited_texts.apply_changes.Given as goal

-- the store has the text after the changes so far, and counts positions in `unit`
abbrev pub invariant-loop-change : goal.invariant-loop-change
invariant-loop-change g l = record {
  counted : g.T.TextStore.unit_of l.store ≡ l.unit;
  made : fold (changed_text l.unit) (Some (g.T.TextStore.content l.initial.store)) (map text_change_of (take l.change-index l.changes)) ≡ Some (g.T.TextStore.content l.store);
}
