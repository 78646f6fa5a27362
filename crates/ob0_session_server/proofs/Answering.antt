-- Proves that the server's reaction to a content meets the definition of its replies (`Answers`).
use Rattle.std.proofs.Common.{◌≡◌, ◌≢◌, ◌∙◌, ℕ, ℤ, List, [], ◌∷◌, Option, Some, None, Result, Err, Vec, Global, option_map, map, sym, subst, ap, refl}
use Rattle.std.specs.Option.{option_to_list}
use Rattle.serde_json.specs.Data.{Data, null}
use Rattle.ob0_session_server.specs.Answers.{ServerState, Reply, no_reply, diagnostics_reply, AreContentsOfReply, react_to_document_request, react_to_parsed_request, react_with_fault, react_to_message, publication_reply, react_with_publication, Answers, AnswersInActivePhase, AnswersInPhase}
use Rattle.ob0_text.specs.OpenDocuments.{Document, OpenDocuments, document_at}
use Rattle.ob0_text.specs.declared.position_types.Unit.{Unit}
use Rattle.ob0_rpc.specs.declared.client_capabilities.ClientFeatures.{ClientFeatures}
use Rattle.ob0_rpc.specs.declared.incoming_messages.RpcFault.{RpcFault}
use Rattle.ob0_rpc.specs.declared.incoming_messages.RpcFault.TheVariants.{NotJson, NotAMessage, UnknownMethod, BadParams, Memory}
use Rattle.ob0_rpc.specs.Messages.{IsJsonOfContent, MessageMeaning, not_json, not_a_message, meaning_of_content}
use Rattle.ob0_rpc.specs.Requests.{ClientRequest}
use Rattle.ob0_rpc.specs.MessageViews.{ReadsMessage, ReadsClientRequest}
use Rattle.ob0_session_answers.specs.Diagnostics.{PublishesDiagnostics}
use Rattle.ob0_session_documents.specs.DocumentRequests.{IsOutcomeOfRequest}
use Rattle.ob0_session_documents.specs.declared.document_requests.RequestOutcome.{RequestOutcome}
use Rattle.ob0_session_documents.specs.declared.document_requests.RequestOutcome.TheVariants.{Answered, OutOfStep, Unopened}
use Rattle.ob0_session_server.specs.ReplyViews.{MatchesReaction, RepliesToDocumentRequest, RepliesForOutcome, SendsReply, message_of_outcome}
use Rattle.ob0_session_server.specs.Steps.{next_in_phase, HasNotEnded, SessionSteps}
use Rattle.ob0_session_server.specs.declared.session.Phase.{Phase}
use Rattle.ob0_session_server.specs.declared.session.Phase.TheVariants.{Starting, Running, ShutDown, Ended, Failed}
use Rattle.ob0_session_server.specs.declared.session.Step.{Step}
use Rattle.ob0_session_server.specs.declared.session.Next.TheVariants.{End}

pub answered : (before : ServerState) (content : List ℕ) (json : Option Data) (m : MessageMeaning) (sent : Option (Vec ℕ Global)) (after : ServerState)
    → IsJsonOfContent content json → meaning_of_content json ≡ m → MatchesReaction (react_to_message before m) sent after
    → AnswersInActivePhase before content (option_to_list (option_map (λ v. v.items) sent)) after
answered before content json m sent after reads means h =
    let P : MessageMeaning → Type 0 = λ x. MatchesReaction (react_to_message before x) sent after in
    (json, reads, subst P (sym means) h)

-- If a content can't be read, the server's refusal is the right answer.
pub refused : (before : ServerState) (content : List ℕ) (fault : RpcFault) (sent : Option (Vec ℕ Global))
    → ReadsMessage content (Err fault) → fault ≢ Memory → MatchesReaction (react_with_fault before null fault) sent before
    → AnswersInActivePhase before content (option_to_list (option_map (λ v. v.items) sent)) before
refused before content NotJson sent reads apart h = answered before content None not_json sent before reads refl h
refused before content NotAMessage sent reads apart h = answered before content (Some reads.0) not_a_message sent before reads.1 reads.2 h
refused before content Memory sent reads apart h = absurd (apart refl)
refused before content UnknownMethod sent reads apart h = absurd reads.2
refused before content BadParams sent reads apart h = absurd reads.2

-- If a request's params can't be read or its method isn't known, the server's refusal is the right
-- reaction.
pub request_refused : (s : ServerState) (id : Data) (requested : Result ClientRequest RpcFault) (fault : RpcFault) (sent : Option (Vec ℕ Global))
    → ReadsClientRequest requested (Err fault) → fault ≢ Memory → MatchesReaction (react_with_fault s id fault) sent s
    → MatchesReaction (react_to_parsed_request s id requested) sent s
request_refused s id requested UnknownMethod sent is apart h = subst (λ r. MatchesReaction (react_to_parsed_request s id r) sent s) (sym is) h
request_refused s id requested BadParams sent is apart h = subst (λ r. MatchesReaction (react_to_parsed_request s id r) sent s) (sym is) h
request_refused s id requested Memory sent is apart h = absurd (apart refl)
request_refused s id requested NotJson sent is apart h = absurd is
request_refused s id requested NotAMessage sent is apart h = absurd is

pub going_on : (phase : Phase) (before : ServerState) (content : List ℕ) (sent : List (List ℕ)) (after : ServerState)
    → HasNotEnded phase → phase ≢ Failed → AnswersInActivePhase before content sent after → AnswersInPhase phase before content sent after
going_on Starting before content sent after h works answers = answers
going_on Running before content sent after h works answers = answers
going_on ShutDown before content sent after h works answers = answers
going_on (Ended status) before content sent after h works answers = cc
going_on Failed before content sent after h works answers = absurd (works refl)

pub ended : (phase : Phase) (status : ℕ) (before : ServerState) (content : List ℕ)
    → next_in_phase phase ≡ End status → AnswersInPhase phase before content [] before
ended Starting status before content h = cc
ended Running status before content h = cc
ended ShutDown status before content h = cc
ended (Ended other) status before content h = (refl, refl)
ended Failed status before content h = cc

pub ended_step : (s : ServerState) (content : List ℕ) (step : Step) (status : ℕ)
    → step.send.items ≡ [] → step.next ≡ End status → End status ≡ next_in_phase s.phase → SessionSteps s content step s
ended_step s content step status none next end =
    let P : List (List ℕ) → Type 0 = λ sent. Answers s content sent s in
    let empty : map (λ (v : Vec ℕ Global). v.items) step.send.items ≡ [] = ap (map (λ (v : Vec ℕ Global). v.items)) none in
    record { answers = subst P (sym empty) (ended s.phase status s content (sym end)); next = next ∙ end }

-- Replacing the documents and publishing the diagnostics of one is the defined reaction.
pub publishes : (before after : ServerState) (uri reported : List ℕ) (held : OpenDocuments) (sent : Option (Vec ℕ Global))
    → reported ≡ uri → after ≡ record before { held = held }
    → AreContentsOfReply (publication_reply after.held.unit reported (document_at after.held reported)) (option_to_list (option_map (λ v. v.items) sent))
    → MatchesReaction (react_with_publication uri held before) sent after
publishes before after uri reported held sent same is said =
    let P : List ℕ → Type 0 = λ u. AreContentsOfReply (publication_reply held.unit u (document_at held u)) (option_to_list (option_map (λ v. v.items) sent)) in
    let Q : OpenDocuments → Type 0 = λ h. AreContentsOfReply (publication_reply h.unit reported (document_at h reported)) (option_to_list (option_map (λ v. v.items) sent)) in
    (is, subst P same (subst Q (ap (λ (s : ServerState). s.held) is) said))

-- The outcome of asking the documents gives the defined reply, if the other fields of the server
-- are unchanged.
pub replies_about : (phase : Phase) (client : ClientFeatures) (old new : OpenDocuments) (s : ServerState) (id : Data) (uri : List ℕ) (answers : ℤ → Unit → List ℕ → List ℕ → Type 0)
    → (outcome : RequestOutcome) (sent : Option (Vec ℕ Global)) → record { phase = phase; client = client; held = old } ≡ s → new ≡ old → IsOutcomeOfRequest answers old uri outcome
    → RepliesForOutcome id outcome sent → RepliesToDocumentRequest answers s id uri sent (record { phase = phase; client = client; held = new })
replies_about phase client old new s id uri answers outcome sent is same comes replies =
    let P : ServerState → Type 0 = λ t. RepliesToDocumentRequest answers t id uri sent (record { phase = phase; client = client; held = new }) in
    subst P is (ap (λ held. record { phase = phase; client = client; held = held }) same, (outcome, comes, replies))

-- If each answer about the text is the reply for that text, the messages sent for a request are the
-- defined reaction.
pub reacts_about : (s new : ServerState) (id : Data) (uri : List ℕ) (say : ℤ → List ℕ → Reply) (answers : ℤ → Unit → List ℕ → List ℕ → Type 0) (sent : Option (Vec ℕ Global))
    → ((version : ℤ) (text message : List ℕ) → answers version s.held.unit text message → AreContentsOfReply (say version text) (message ∷ []))
    → RepliesToDocumentRequest answers s id uri sent new → MatchesReaction (react_to_document_request s id (document_at s.held uri) say) sent new
reacts_about s new id uri say answers sent says (same, (outcome, comes, replies)) =
    let P : ServerState → Type 0 = λ t. MatchesReaction (react_to_document_request s id (document_at s.held uri) say) sent t in
    subst P (sym same) (go outcome comes replies)
  where
    go : (outcome : RequestOutcome) → IsOutcomeOfRequest answers s.held uri outcome → RepliesForOutcome id outcome sent → MatchesReaction (react_to_document_request s id (document_at s.held uri) say) sent s
    go (Answered message) comes is =
        let P : Option Document → Type 0 = λ d. MatchesReaction (react_to_document_request s id d say) sent s in
        let Q : Option (Vec ℕ Global) → Type 0 = λ o. SendsReply (say comes.0 comes.1) o in
        subst P (sym comes.2) (refl, subst Q (sym is) (says comes.0 comes.1 message.items comes.3))
    go OutOfStep comes is =
        let P : Option Document → Type 0 = λ d. MatchesReaction (react_to_document_request s id d say) sent s in
        subst P (sym comes) (refl, is)
    go Unopened comes is =
        let P : Option Document → Type 0 = λ d. MatchesReaction (react_to_document_request s id d say) sent s in
        subst P (sym comes) (refl, is)

-- The message of a publication request's outcome is the publication of the document.
pub published_with : (held : OpenDocuments) (uri : List ℕ) (outcome : RequestOutcome) (sent : Option (Vec ℕ Global))
    → IsOutcomeOfRequest (λ version unit text message. PublishesDiagnostics unit uri version text message) held uri outcome → sent ≡ message_of_outcome outcome
    → SendsReply (publication_reply held.unit uri (document_at held uri)) sent
published_with held uri (Answered message) sent comes is =
    let P : Option Document → Type 0 = λ d. SendsReply (publication_reply held.unit uri d) sent in
    let Q : Option (Vec ℕ Global) → Type 0 = λ o. SendsReply (diagnostics_reply held.unit uri comes.0 comes.1) o in
    subst P (sym comes.2) (subst Q (sym is) (comes.3.0, comes.3.1, (message.items, refl, comes.3.2)))
published_with held uri OutOfStep sent comes is =
    let P : Option Document → Type 0 = λ d. SendsReply (publication_reply held.unit uri d) sent in
    let Q : Option (Vec ℕ Global) → Type 0 = λ o. SendsReply no_reply o in
    subst P (sym comes) (subst Q (sym is) refl)
published_with held uri Unopened sent comes is =
    let P : Option Document → Type 0 = λ d. SendsReply (publication_reply held.unit uri d) sent in
    let Q : Option (Vec ℕ Global) → Type 0 = λ o. SendsReply no_reply o in
    subst P (sym comes) (subst Q (sym is) refl)
