use Rattle.std.proofs.Common.{◌≡◌, sym, ap, ◌∙◌, refl, Some}
use Rattle.std.specs.Str.{chars}
use Rattle.ob0_text.specs.declared.position_types.Unit.{Unit}
use Rattle.ob0_text.specs.Patches.{text_with_range_replaced}
use Rattle.ob0_text.specs.Units.{width_of}
use Rattle.ob0_text.specs.OpenDocuments.{changed_text}
use Rattle.ob0_text.proofs.documents.apply_change.Goals as goal

pub returns-in_ok-from_str_in-in-None-clause-ok : goal.returns-in_ok-from_str_in-in-None-clause-ok
unfolding changed_text
returns-in_ok-from_str_in-in-None-clause-ok g c = rw c.in-None.is (ap Some (c.in_ok-from_str_in-in-None.ensures.content ∙ ap chars c.as_str.ensures.value))

pub returns-in_ok-replace-in-Some-clause-ok : goal.returns-in_ok-replace-in-Some-clause-ok
unfolding changed_text
returns-in_ok-replace-in-Some-clause-ok g c =
    let same : g.T.TextStore.unit_of c.in-Some-text.text ≡ c.args.unit = c.requires _ c.in-Some-text.is in
    rw (c.in-Some.is, c.in-Some-text.is, ← c.as_str-in-Some-text.ensures.value)
    (sym (ap (λ (u : Unit). text_with_range_replaced (width_of u) (g.T.TextStore.content c.in-Some-text.text) c.in-Some.range (chars c.as_str-in-Some-text.result.now)) (sym same)
    ∙ c.in_ok-replace-in-Some.ensures.ok))

pub returns-in_default-clause-ok : goal.returns-in_default-clause-ok
unfolding changed_text
returns-in_default-clause-ok g c = rw (c.in_default.is, c.in-Some.is) refl
