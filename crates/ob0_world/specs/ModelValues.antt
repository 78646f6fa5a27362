-- Converts events, publications and applied edits of the code to events, publications and applied
-- edits of the model (`ClientAndServer`).
-- Rule: none; used in contracts that relate the code's values to the model's.
use Rattle.std.specs.Prelude.{ℕ, List, map, string_bytes, Vec}
use Rattle.std.specs.Str.{chars}
use Rattle.std.specs.declared.alloc.Global.{Global}
use Rattle.ob0_text.specs.OpenDocuments.{text_change_of}
use Rattle.ob0_world_editor.specs.ModelValues.{model_ask_of, model_applied_edit_of}
use Rattle.ob0_world.specs.declared.events.Event as event
use Rattle.ob0_world.specs.declared.play_results.Made as made
use Rattle.ob0_world.specs.declared.play_results.Played as played
use Rattle.ob0_world_rules.specs.ClientAndServer.{AppliedEdit, PublicationWithText}
use Rattle.ob0_world_rules.specs.EditorActs.{open_document, change_document, close_document, request_edits, apply, discard}
use Rattle.ob0_world_rules.specs.Events.{Event, editor_acts, serve, take_message}

-- converts an event from the code's type `Event` to the model's type `Event`
abbrev pub model_event_of : event.Event → Event
model_event_of (event.TheVariants.OpenDoc uri text) =
    editor_acts (open_document (string_bytes uri) (chars (string_bytes text)))
model_event_of (event.TheVariants.ChangeDoc uri changes) =
    editor_acts (change_document (string_bytes uri) (map text_change_of changes.items))
model_event_of (event.TheVariants.CloseDoc uri) = editor_acts (close_document (string_bytes uri))
model_event_of (event.TheVariants.Ask uri ask) = editor_acts (request_edits (string_bytes uri) (model_ask_of ask))
model_event_of event.TheVariants.Serve = serve
model_event_of event.TheVariants.Take = take_message
model_event_of (event.TheVariants.Apply k) = editor_acts (apply k)
model_event_of (event.TheVariants.Discard k) = editor_acts (discard k)

-- converts a publication from the code's type `Made` to the model's type `PublicationWithText`
abbrev pub model_publication_of : made.Made → PublicationWithText
model_publication_of m =
    record {
      uri = string_bytes m.uri;
      version = m.version;
      text = chars (string_bytes m.text);
      no_diagnostics = m.empty;
    }

-- returns these contents as lists of bytes, in order; a content is the bytes of one message
abbrev pub bytes_of_contents : List (Vec ℕ Global) → List (List ℕ)
bytes_of_contents contents = map (λ v. v.items) contents

-- returns the applied edits in `p`, the result of `play`, as values of the model's type `AppliedEdit`
abbrev pub played_edits : played.Played → List AppliedEdit
played_edits p = map model_applied_edit_of p.applied.items

-- returns the publications in `p`, the result of `play`, as values of the model's type
-- `PublicationWithText`
abbrev pub played_publications : played.Played → List PublicationWithText
played_publications p = map model_publication_of p.made.items
