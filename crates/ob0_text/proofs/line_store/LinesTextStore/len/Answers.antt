use Rattle.std.proofs.Common.{length, sym, ap, ◌∙◌}
use Rattle.std.proofs.lemmas.Str.{encodes-chars, IsUtf8-string_bytes}
use Rattle.ob0_text.specs.Texts.{byte_len}
use Rattle.ob0_text.specs.LineStarts.{TextWithUnit}
use Rattle.ob0_text.proofs.line_store.LinesTextStore.len.Goals as goal

pub returns : goal.returns
returns c =
    c.len.ensures ∙ c.self.inside.text.bytes.ok.0
    ∙ sym (ap length (encodes-chars _ (IsUtf8-string_bytes c.self.inside.text)))
    ∙ ap (λ (v : TextWithUnit). byte_len v.text) c.self.view_is
