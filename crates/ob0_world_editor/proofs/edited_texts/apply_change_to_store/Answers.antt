use Rattle.std.proofs.Common.{sym, ap, ◌∙◌, Some}
use Rattle.std.specs.Str.{chars}
use Rattle.ob0_text.specs.declared.position_types.Unit.{Unit}
use Rattle.ob0_text.specs.Patches.{text_with_range_replaced}
use Rattle.ob0_text.specs.Units.{width_of}
use Rattle.ob0_text.specs.OpenDocuments.{changed_text}
use Rattle.ob0_world_editor.proofs.edited_texts.apply_change_to_store.Goals as goal

pub returns-in_ok-store-in-None-clause-ok : goal.returns-in_ok-store-in-None-clause-ok
unfolding changed_text
returns-in_ok-store-in-None-clause-ok g c = rw c.in-None.is (sym (ap Some (c.in_ok-store-in-None.ensures.content ∙ ap chars c.as_str.ensures.value)))

pub returns-in_ok-replace-in-Some-clause-ok : goal.returns-in_ok-replace-in-Some-clause-ok
unfolding changed_text
returns-in_ok-replace-in-Some-clause-ok g c =
    rw (c.in-Some.is, ← c.as_str-in-Some.ensures.value)
    (sym (ap (λ (u : Unit). text_with_range_replaced (width_of u) (g.T.TextStore.content c.args.store.now) c.in-Some.range (chars c.as_str-in-Some.result.now)) c.requires)
    ∙ c.in_ok-replace-in-Some.ensures.ok)
