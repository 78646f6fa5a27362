-- Converts asks, answers, messages and applied edits of the code to values of the model
-- (`ClientAndServer`). An ask is a request for edits: a rename, an inlining or a formatting.
-- Rule: none; used in contracts that relate the code's values to the model's.
use Rattle.std.specs.Prelude.{pos, string_bytes}
use Rattle.std.specs.Str.{chars}
use Rattle.ob0_world_editor.specs.declared.asks.Ask as ask
use Rattle.ob0_world_editor.specs.declared.editor.SentAsk as requested
use Rattle.ob0_world_editor.specs.declared.editor.ReceivedAnswer as answer
use Rattle.ob0_world_editor.specs.declared.message_reader.ServerMessage as message
use Rattle.ob0_world_editor.specs.declared.applied_edits.Applied as applied
use Rattle.ob0_world_rules.specs.TextEdits.{replacements_of_edits}
use Rattle.ob0_world_rules.specs.Asks.{Ask, rename, inline_here, inline_all, format}
use Rattle.ob0_world_rules.specs.ClientAndServer.{SentAsk, ReceivedAnswer, AppliedEdit, MessageToEditor, publishes, answers}

-- converts a request for edits from the code's type `Ask` to the model's type `Ask`
abbrev pub model_ask_of : ask.Ask → Ask
model_ask_of (ask.TheVariants.Rename position name) = rename position (string_bytes name)
model_ask_of (ask.TheVariants.InlineHere position) = inline_here position
model_ask_of (ask.TheVariants.InlineAll position) = inline_all position
model_ask_of (ask.TheVariants.Format indent) = format indent

-- converts a sent request from the code's type `SentAsk` to the model's type `SentAsk`
abbrev pub model_sent_ask_of : requested.SentAsk → SentAsk
model_sent_ask_of a =
    record {
      ask = model_ask_of a.ask;
      uri = string_bytes a.uri;
      text = chars (string_bytes a.text);
      opening = a.opening;
      version = pos a.version;
    }

-- converts an answer from the code's type `ReceivedAnswer` to the model's type `ReceivedAnswer`
abbrev pub model_answer_of : answer.ReceivedAnswer → ReceivedAnswer
model_answer_of a = record { number = a.number; edits = replacements_of_edits a.edits.items }

-- converts a message from the code's type `ServerMessage` to the model's type `MessageToEditor`
abbrev pub model_message_of : message.ServerMessage → MessageToEditor
model_message_of (message.TheVariants.Published uri version empty) =
    publishes (string_bytes uri) version empty
model_message_of (message.TheVariants.Answered number edits) = answers number (replacements_of_edits edits.items)

-- converts an applied edit from the code's type `Applied` to the model's type `AppliedEdit`
abbrev pub model_applied_edit_of : applied.Applied → AppliedEdit
model_applied_edit_of a =
    record {
      uri = string_bytes a.uri;
      before = chars (string_bytes a.before);
      after = chars (string_bytes a.after);
    }
