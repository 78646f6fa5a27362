-- Defines which announced documents still wait for the server, and proves that the server will
-- publish their diagnostics in order.
-- Once the server has taken a message that announces a document, it has the document as it was in
-- the editor when the message was sent.
use Rattle.std.proofs.Common.{◌≡◌, ◌∙◌, ℕ, List, [], ◌∷◌, ◌++◌, map, append-nil, append_assoc, refl, sym, ap, subst}
use Rattle.std.specs.Prelude.{fold, Option, Some, None, option_map}
use Rattle.std.proofs.lemmas.List.{map-append}
use Rattle.ob0_text.specs.OpenDocuments.{OpenDocuments, Opened, Changed, Lost, Closed, documents_after_event, document_at}
use Rattle.ob0_world_rules.specs.ClientAndServer.{OpenDocument, MessageToServer, notifies, requests, MessageToEditor, PublicationWithText, ClientAndServer, documents_after_message}
use Rattle.ob0_world_rules.specs.ServerReplies.{ServerSendsDiagnostics, ServerRepliesToMessage}
use Rattle.ob0_world_rules.specs.Events.{ServerTakesFirstMessage}
use Rattle.ob0_world_rules.specs.MirroredDocuments.{in_step_document}
use Rattle.ob0_world_rules.specs.PublicationsAreInOrder.{AnnouncedDocument, announced_document_if_open, uri_and_version_announced_by_message, uris_and_versions_announced_in_queue, uri_and_version_of, AreMadeForDocumentsInOrder}

-- ---- the documents that wait for the server

abbrev pub AwaitedAt : OpenDocuments → List ℕ → List AnnouncedDocument → Type 0
AwaitedAt held uri now = (o : Option OpenDocument) × (document_at held uri ≡ option_map in_step_document o) × (now ≡ announced_document_if_open uri o)

-- holds if these are the documents for which the server publishes when it takes this message and has these documents
abbrev pub Awaits : OpenDocuments → MessageToServer → List AnnouncedDocument → Type 0
Awaits held (notifies (Opened uri version text)) now = AwaitedAt (documents_after_event held (Opened uri version text)) uri now
Awaits held (notifies (Changed uri version how)) now = AwaitedAt (documents_after_event held (Changed uri version how)) uri now
Awaits held (notifies (Lost uri)) now = now ≡ []
Awaits held (notifies (Closed uri)) now = now ≡ []
Awaits held (requests number uri ask) now = now ≡ []

-- holds if these are the documents for which the server will publish when it takes the messages of this queue, in order
abbrev pub Pending : OpenDocuments → List MessageToServer → List AnnouncedDocument → Type 0
Pending held [] waiting = waiting ≡ []
Pending held (m ∷ queue) waiting =
    (now : List AnnouncedDocument) × (later : List AnnouncedDocument) × (waiting ≡ now ++ later) × (Awaits held m now × (map uri_and_version_of now ≡ uri_and_version_announced_by_message m)) × Pending (documents_after_message held m) queue later

pub pending_push : (held : OpenDocuments) (queue : List MessageToServer) (m : MessageToServer) (waiting now : List AnnouncedDocument) → Pending held queue waiting → Awaits (fold documents_after_message held queue) m now × (map uri_and_version_of now ≡ uri_and_version_announced_by_message m) → Pending held (queue ++ m ∷ []) (waiting ++ now)
pending_push held [] m waiting now is awaits = (now, [], ap (λ ts. ts ++ now) is ∙ sym (append-nil now), awaits, refl)
pending_push held (x ∷ queue) m waiting now (first, later, is, so, rest) awaits =
    (first, later ++ now, ap (λ ts. ts ++ now) is ∙ append_assoc first later now, so, pending_push (documents_after_message held x) queue m later now rest awaits)

pub pending_named : (held : OpenDocuments) (queue : List MessageToServer) (waiting : List AnnouncedDocument) → Pending held queue waiting → map uri_and_version_of waiting ≡ uris_and_versions_announced_in_queue queue
pending_named held [] waiting is = ap (map uri_and_version_of) is
pending_named held (m ∷ queue) waiting (now, later, is, so, rest) =
    ap (map uri_and_version_of) is ∙ map-append uri_and_version_of now later ∙ ap (λ ns. ns ++ map uri_and_version_of later) so.1 ∙ ap (λ ns. uri_and_version_announced_by_message m ++ ns) (pending_named (documents_after_message held m) queue later rest)

-- ---- publications when the server takes a message

pub made_append : (made more : List PublicationWithText) (announced later : List AnnouncedDocument) → AreMadeForDocumentsInOrder made announced → AreMadeForDocumentsInOrder more later → AreMadeForDocumentsInOrder (made ++ more) (announced ++ later)
made_append [] more [] later h k = k
made_append (m ∷ made) more (t ∷ announced) later h k = (h.0, made_append made more announced later h.1 k)
made_append [] more (t ∷ announced) later h k = absurd h
made_append (m ∷ made) more [] later h k = absurd h

published : (uri : List ℕ) (o : Option OpenDocument) (said : List MessageToEditor) (made : List PublicationWithText) → ServerSendsDiagnostics uri (option_map in_step_document o) said made → AreMadeForDocumentsInOrder made (announced_document_if_open uri o)
published uri (Some d) said made (empty, right, is_said, is_made) = subst (λ ms. AreMadeForDocumentsInOrder ms (announced_document_if_open uri (Some d))) (sym is_made) ((refl, refl, refl), tt)
published uri None said made h = subst (λ ms. AreMadeForDocumentsInOrder ms []) (sym h.1) tt

awaited : (held : OpenDocuments) (uri : List ℕ) (said : List MessageToEditor) (made : List PublicationWithText) (now : List AnnouncedDocument) → ServerSendsDiagnostics uri (document_at held uri) said made → AwaitedAt held uri now → AreMadeForDocumentsInOrder made now
awaited held uri said made now may (o, at, is) = subst (AreMadeForDocumentsInOrder made) (sym is) (published uri o said made (subst (λ d. ServerSendsDiagnostics uri d said made) at may))

none_made : (made : List PublicationWithText) (now : List AnnouncedDocument) → made ≡ [] → now ≡ [] → AreMadeForDocumentsInOrder made now
none_made made now no_made none_announced = subst (AreMadeForDocumentsInOrder made) (sym none_announced) (subst (λ ms. AreMadeForDocumentsInOrder ms []) (sym no_made) tt)

pub message_made : (held : OpenDocuments) (m : MessageToServer) (said : List MessageToEditor) (made : List PublicationWithText) (now : List AnnouncedDocument) → ServerRepliesToMessage held m said made → Awaits held m now → AreMadeForDocumentsInOrder made now
message_made held (notifies (Opened uri version text)) said made now may awaits = awaited (documents_after_event held (Opened uri version text)) uri said made now may awaits
message_made held (notifies (Changed uri version how)) said made now may awaits = awaited (documents_after_event held (Changed uri version how)) uri said made now may awaits
message_made held (notifies (Lost uri)) said made now may awaits = none_made made now may.1 awaits
message_made held (notifies (Closed uri)) said made now may awaits = none_made made now may.1 awaits
message_made held (requests number uri ask) said made now (edits, answer, is_said, none) awaits = none_made made now none awaits

-- ---- the server's turn

-- States that after an event, which announces the documents `now`, all announced documents are the ones with
-- publications, then the waiting ones.
pub record Next (announced waiting now : List AnnouncedDocument) (new : ClientAndServer) : Type 0 where
  pub done : List AnnouncedDocument
  pub awaits : List AnnouncedDocument
  pub parts : (announced ++ waiting) ++ now ≡ done ++ awaits
  pub are_made_for_documents : AreMadeForDocumentsInOrder new.made done
  pub pending : Pending new.held new.to_server awaits

module _ (announced waiting : List AnnouncedDocument) where
  -- An event that announces nothing and changes neither queue nor publications leaves them so.
  pub unchanged : (w : ClientAndServer) → AreMadeForDocumentsInOrder w.made announced → Pending w.held w.to_server waiting → Next announced waiting [] w
  unchanged w are_made_for_documents pending = record { done = announced; awaits = waiting; parts = append-nil (announced ++ waiting); are_made_for_documents = are_made_for_documents; pending = pending }

  pub serve_next : (w : ClientAndServer) (queue : List MessageToServer) (new : ClientAndServer) → AreMadeForDocumentsInOrder w.made announced → Pending w.held queue waiting → w.to_server ≡ queue → ServerTakesFirstMessage w queue new → Next announced waiting [] new
  serve_next w [] new are_made_for_documents pending is h =
      subst (Next announced waiting []) (sym h) (unchanged w are_made_for_documents (subst (λ q. Pending w.held q waiting) (sym is) pending))
  serve_next w (m ∷ rest) new are_made_for_documents (now, later, parts, awaits, following) is (said, made, may, is_new) =
      subst (Next announced waiting []) (sym is_new)
      (record {
        done = announced ++ now;
        awaits = later;
        parts = append-nil (announced ++ waiting) ∙ ap (λ ts. announced ++ ts) parts ∙ sym (append_assoc announced now later);
        are_made_for_documents = made_append w.made made announced now are_made_for_documents (message_made w.held m said made now may awaits.0);
        pending = following;
      })
