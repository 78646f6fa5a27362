use Rattle.std.proofs.Common.{◌∙◌, ap, option_map, Some}
use Rattle.ob0_world_editor.specs.MessagesToEditor.{has_no_items}
use Rattle.ob0_world_editor.proofs.Lists.{none_is_empty}
use Rattle.ob0_world_editor.proofs.message_reader.has_no_diagnostics.Goals as goal

pub returns : goal.returns
returns c = ap Some (c.is_empty.ensures ∙ none_is_empty c.in_ok-diagnostics.diagnostics.now c.in_ok-diagnostics.diagnostics.now.items c.in_ok-diagnostics.diagnostics.now.ok.0) ∙ ap (option_map has_no_items) c.in_ok-diagnostics.ensures
