use Rattle.std.proofs.Common.{◌≡◌, fold, map, take}
use Rattle.std.specs.Option.{option_map}
use Rattle.ob0_text.specs.OpenDocuments.{changed_text, text_change_of}
use Rattle.ob0_text.specs.DocumentViews.{StoredTextUsesUnit}
use Rattle.ob0_text.proofs.documents.apply_all_changes.Given as goal

abbrev pub invariant-loop-change : goal.invariant-loop-change
invariant-loop-change g l = record {
  counted : StoredTextUsesUnit g.T.TextStore.unit_of l.unit l.text;
  made : option_map g.T.TextStore.content l.text ≡ fold (changed_text l.unit) (option_map g.T.TextStore.content l.initial.text) (map text_change_of (take l.change-index l.changes));
}
