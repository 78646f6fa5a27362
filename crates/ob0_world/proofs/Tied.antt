-- Proves that the waiting contents are the messages that wait in the model.
use Rattle.std.proofs.Common.{◌≡◌, ◌∙◌, List, [], ◌∷◌, Some, refl, sym, ap, subst}
use Rattle.std.specs.Prelude.{All, map}
use Rattle.std.proofs.lemmas.List.Elements.{All-head, All-tail}
use Rattle.ob0_session_server.specs.Answers.{ServerState}
use Rattle.ob0_world_editor.specs.MessagesToServer.{message_to_server_in_content}
use Rattle.ob0_world_editor.specs.MessagesToEditor.{message_to_editor_in_content}
use Rattle.ob0_world_editor.specs.declared.applied_edits.Applied as applied
use Rattle.ob0_world_editor.proofs.Hearing.{says_heard}
use Rattle.ob0_world_rules.specs.ClientAndServer.{SentAsk, Editor}
use Rattle.ob0_world.specs.declared.play_results.Made as made
use Rattle.ob0_world.specs.Queues.{Contents, bytes_of_contents, messages_to_server_in_contents, messages_to_editor_in_contents, MeansMessageToServer, MeansMessageToEditor, ConnectionInvariant, connection_from_fields}
use Rattle.ob0_world.specs.Worlds.{AreMessagesToServer, QueuesMatch}
use Rattle.ob0_world.proofs.Waiting.{said_first}

all_say : (requested : List SentAsk) (q : Contents) → All (MeansMessageToServer requested) q → AreMessagesToServer requested (messages_to_server_in_contents requested q) (bytes_of_contents q)
all_say requested [] all = tt
all_say requested (c ∷ q) all =
    let h : MeansMessageToServer requested c = All-head (MeansMessageToServer requested) c q all in
    subst (λ ms. AreMessagesToServer requested ms (bytes_of_contents (c ∷ q))) (sym (said_first (message_to_server_in_content requested) c q h.0 (says_heard requested h.0 c.items h.1)))
    (h.1, all_say requested q (All-tail (MeansMessageToServer requested) c q all))

all_mean : (requested : List SentAsk) (r : Contents) → All (MeansMessageToEditor requested) r → map (message_to_editor_in_content requested) (bytes_of_contents r) ≡ map Some (messages_to_editor_in_contents requested r)
all_mean requested [] all = refl
all_mean requested (c ∷ r) all =
    let h : MeansMessageToEditor requested c = All-head (MeansMessageToEditor requested) c r all in
    (λ i. h.1 i ∷ all_mean requested r (All-tail (MeansMessageToEditor requested) c r all) i) ∙ ap (map Some) (sym (said_first (message_to_editor_in_content requested) c r h.0 h.1))

pub tied : (e : Editor) (q : Contents) (s : ServerState) (r : Contents) (ap_list : List applied.Applied) (md : List made.Made) (tk gt : Contents) → ConnectionInvariant e.requested q r s → QueuesMatch (connection_from_fields e q s r ap_list md tk gt)
tied e q s r ap_list md tk gt sound =
    record { says = all_say e.requested q sound.to_server_are_messages; means = all_mean e.requested r sound.to_editor_are_messages; documents = refl }
