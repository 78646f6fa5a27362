-- Proves which message a content means if its JSON value is given.
use Rattle.std.proofs.Common.{◌≡◌, ◌∙◌, ℕ, Bool, true, false, List, refl, Option, Some, None, option_and_then, option_map, cond, ap}
use Rattle.std.specs.Prelude.{Result, Ok, Err, IfOk}
use Rattle.std.specs.Str.{is_utf8}
use Rattle.std.proofs.lemmas.Str.{is_utf8-from_IsUtf8, IsUtf8-from_is_utf8}
use Rattle.serde_json.specs.Data.{Data}
use Rattle.serde_json.specs.Read.{read}
use Rattle.ob0_text.specs.OpenDocuments.{DocumentEvent, Opened, Changed, Lost, Closed}
use Rattle.ob0_rpc.specs.Messages.{IsJsonOfContent, meaning_of_message}
use Rattle.ob0_world_rules.specs.ClientAndServer.{SentAsk, MessageToServer, notifies, requests}
use Rattle.ob0_world_editor.specs.MessagesToServer.{request_number_from_id, message_to_server_in_content, message_to_server_of_meaning, message_of_notification, notification_for_event, IsMessageToServer}
use Rattle.ob0_world_editor.specs.MessagesToEditor.{message_to_editor_in_content, message_to_editor_of_value, message_to_editor_given_numbering}

-- A content in UTF-8 with a known JSON value is read as that value.
pub said : {M : Type 0} (f : Data → Option M) (content : List ℕ) (d : Data) → IsJsonOfContent content (Some d) → cond (is_utf8 content) (option_and_then f (read content)) None ≡ f d
said f content d reads = ap (λ b. cond b (option_and_then f (read content)) None) (is_utf8-from_IsUtf8 content reads.0) ∙ ap (option_and_then f) reads.1

-- The editor reads a content with a known JSON value as that value.
pub read_as : (number_of : Data → Option ℕ) (requested : List SentAsk) (content : List ℕ) (d : Data) → IsJsonOfContent content (Some d) → message_to_editor_given_numbering number_of requested content ≡ message_to_editor_of_value number_of requested d
unfolding message_to_editor_given_numbering
read_as number_of requested content d reads = said (message_to_editor_of_value number_of requested) content d reads

pub understood_as : (requested : List SentAsk) (content : List ℕ) (d : Data) → IsJsonOfContent content (Some d) → message_to_editor_in_content requested content ≡ message_to_editor_of_value request_number_from_id requested d
understood_as requested content d reads = read_as request_number_from_id requested content d reads

pub not_understood : (requested : List SentAsk) (content : List ℕ) → IsJsonOfContent content None → message_to_editor_in_content requested content ≡ None
unfolding message_to_editor_given_numbering
not_understood requested content reads = go (is_utf8 content) refl
  where
    go : (b : Bool) → is_utf8 content ≡ b → cond b (option_and_then (message_to_editor_of_value request_number_from_id requested) (read content)) None ≡ None
    go true is = ap (option_and_then (message_to_editor_of_value request_number_from_id requested)) (reads (IsUtf8-from_is_utf8 content is))
    go false is = refl

-- The notification for an event is read as that event.
reported_heard : (note : DocumentEvent) → message_of_notification (notification_for_event note) ≡ Some (notifies note)
reported_heard (Opened uri version text) = refl
reported_heard (Changed uri version all) = refl
reported_heard (Lost uri) = refl
reported_heard (Closed uri) = refl

pub says_heard : (requested : List SentAsk) (m : MessageToServer) (content : List ℕ) → IsMessageToServer requested m content → message_to_server_in_content requested content ≡ Some m
unfolding message_to_server_in_content
says_heard requested (notifies note) content is =
    said (λ d. message_to_server_of_meaning requested (meaning_of_message d)) content is.json is.reads ∙ ap (message_to_server_of_meaning requested) is.means ∙ ap message_of_notification is.reported ∙ reported_heard note
says_heard requested (requests k uri ask) content (is, of) =
    said (λ d. message_to_server_of_meaning requested (meaning_of_message d)) content is.json is.reads ∙ ap (message_to_server_of_meaning requested) is.means
    ∙ ap (option_map (λ a. requests k a.uri a.ask)) of.is ∙ (λ i. Some (requests k (of.about i) (of.same_ask i)))

-- A property of a call's value can be weakened.
pub if_ok : {A X : Type 0} {P Q : A → Type 0} (r : Result A X) → ((x : A) → P x → Q x) → IfOk r P → IfOk r Q
if_ok (Ok x) f h = f x h
if_ok (Err e) f h = tt
