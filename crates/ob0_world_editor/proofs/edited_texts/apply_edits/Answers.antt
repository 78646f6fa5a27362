use Rattle.std.proofs.Common.{◌∙◌, ap, sym, Err}
use Rattle.ob0_text.specs.Units.{width_of}
use Rattle.ob0_text.specs.Patches as patches
use Rattle.ob0_world_rules.proofs.EditedTexts.{edited_as_patched}
use Rattle.ob0_world_editor.proofs.edited_texts.apply_edits.Goals as goal

pub returns-in-Ok : goal.returns-in-Ok
returns-in-Ok g c =
    edited_as_patched c.args.unit _ c.args.edits.now
    ∙ sym (λ i. patches.patched_text (width_of (c.in_ok-store.ensures.unit i)) (c.in_ok-store.ensures.content i) c.args.edits.now) ∙ c.in-Ok.ensures.ok

pub returns-in-Overlap : goal.returns-in-Overlap
returns-in-Overlap g c =
    edited_as_patched c.args.unit _ c.args.edits.now
    ∙ sym (λ i. patches.patched_text (width_of (c.in_ok-store.ensures.unit i)) (c.in_ok-store.ensures.content i) c.args.edits.now) ∙ c.in-Err.ensures.overlap (ap Err c.in-Overlap.is)
