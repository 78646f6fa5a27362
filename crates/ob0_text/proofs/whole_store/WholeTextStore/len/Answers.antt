use Rattle.std.proofs.Common.{length, sym, ap, ◌∙◌}
use Rattle.std.proofs.lemmas.Str.{encodes-chars, IsUtf8-string_bytes}
use Rattle.ob0_text.proofs.whole_store.WholeTextStore.len.Goals as goal

pub returns : goal.returns
returns c =
    c.len.ensures ∙ c.args.self.now.text.bytes.ok.0
    ∙ sym (ap length (encodes-chars _ (IsUtf8-string_bytes c.args.self.now.text)))
