use Rattle.std.proofs.Common.{◌∙◌, sym, rules, map}
use Rattle.serde_json.specs.View.{view}
use Rattle.ob0_world_editor.specs.ModelValues.{model_sent_ask_of}
use Rattle.ob0_world_editor.proofs.Hearing.{understood_as, not_understood, if_ok}
use Rattle.ob0_world_editor.proofs.message_reader.read_message.Goals as goal

pub returns-in-Ok : goal.returns-in-Ok
returns-in-Ok c =
    if_ok c.read_message_from_value.result
    (λ found is. is ∙ sym (understood_as (map model_sent_ask_of c.args.requested.now) c.args.content.now (view c.in-Ok.message) c.in-Ok.ensures.ok))
    c.read_message_from_value.ensures

pub returns-else-is_memory : goal.returns-else-is_memory
returns-else-is_memory c = sym (not_understood (map model_sent_ask_of c.args.requested.now) c.args.content.now (c.in-Err.ensures.err (λ memory. search rules)))
