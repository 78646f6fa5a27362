use Rattle.std.proofs.Common.{◌≡◌, ◌∙◌, ap, sym, subst}
use Rattle.std.specs.Str.{IsUtf8}
use Rattle.std.specs.Prelude.{string_bytes}
use Rattle.std.proofs.lemmas.Str.{IsUtf8-had}
use Rattle.serde_json.specs.Read.{read}
use Rattle.ob0_rpc.proofs.value_messages.message_text.Goals as goal

pub returns : goal.returns
returns c = λ plain small.
    let bytes : string_bytes c.in_ok-text.text ≡ c.into_bytes.result.items = sym (ap (λ v. v.items) c.into_bytes.ensures.value) in
    record {
      text = sym bytes ∙ c.in_ok-text.ensures.text plain;
      reads = (subst IsUtf8 bytes (IsUtf8-had _ c.in_ok-text.text.ok), ap read (sym bytes) ∙ c.in_ok-text.ensures.reads_back small);
    }
