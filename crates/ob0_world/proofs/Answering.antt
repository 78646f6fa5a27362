-- Proves that the replies of a session, according to its contract, are the replies of the model's
-- server. The main lemma is `served`. `request_served` has a case for each kind of ask. Each case
-- uses `about_document` and a lemma for a document in step: `formatted`, `renamed` or `inlined`.
-- The model states answers by the session's definitions (`AreRequestedEdits` and `ServerRefusesAsk`, by
-- cases of the ask), so the proof uses them unchanged. Both asks to inline send the same request.
-- The editor reads the action with the title that it asked for (`actions_read_back`), if the
-- session offers that action.
use Rattle.std.proofs.Common.{◌≡◌, ◌∙◌, ℕ, Bool, true, false, cond, List, [], ◌∷◌, length, refl, sym, ap, subst, inl, inr, arith, ◌<◌}
use Rattle.std.specs.Prelude.{◌⊎◌, ◌&&◌, min, ℤ, Vec, All, Option, Some, None, is_some, map, fold, filter_map, option_map, option_and_then, unwrap_or, codes, Ok}
use Rattle.std.specs.List.{cons_option}
use Rattle.std.specs.Option.{option_to_list}
use Rattle.std.specs.FinMap as map_of
use Rattle.std.specs.Ordering.{match_ordering}
use Rattle.std.specs.Cmp.Lexicographic.{nat_list_cmp_total}
use Rattle.std.proofs.lemmas.Cmp.{tied_itself}
use Rattle.std.specs.declared.alloc.Global.{Global}
use Rattle.std.proofs.lemmas.List.Elements.{All-nil, All-push}
use Rattle.serde_json.specs.Data.{Data, number, array, object, unsigned, item, no_items, member, no_members}
use Rattle.serde_json.specs.Find.{get, as_array, as_i64, of_integer}
use Rattle.serde_json.specs.View.{items_of}
use Rattle.ob0_text.specs.declared.edits.Edit.{Edit}
use Rattle.ob0_text.specs.declared.edits.Indent.{Indent}
use Rattle.ob0_text.specs.declared.position_types.Position.{Position}
use Rattle.ob0_text.specs.declared.position_types.Range.{Range}
use Rattle.ob0_text.specs.declared.position_types.Unit.{Unit}
use Rattle.ob0_text.specs.OpenDocuments.{OpenDocuments, Document, InStep, OutOfStep, DocumentEvent, Opened, Changed, Lost, Closed, TextChange, changed_text, text_if_in_step, document_with_text, document_at, documents_after_open, documents_after_change, changed_document}
use Rattle.ob0_text.specs.RefusalTexts.{refusal_text}
use Rattle.ob0_text.specs.declared.refusals.EditRefusal.TheVariants.{TooLong}
use Rattle.ob0_text.proofs.EntryLaws.{updated-some, updated-none}
use Rattle.ob0_rpc.specs.Requests.{code_action, request_by_method}
use Rattle.ob0_rpc.specs.Faults.{negative_of}
use Rattle.ob0_rpc.specs.Messages.{IsJsonOfContent, meaning_of_content, meaning_of_message}
use Rattle.ob0_rpc.specs.JsonShapes.{result_message, error_response_message}
use Rattle.ob0_rpc.specs.declared.client_capabilities.ClientFeatures.{ClientFeatures}
use Rattle.ob0_edits.specs.InliningEdits.{IsInlineResultInText}
use Rattle.ob0_session_answers.specs.Actions.{VersionedActionsRequest, ListsActions, requested_kinds_include_inlining, wants_inlining, first_offset_in_range, actions_array}
use Rattle.ob0_session_server.specs.Answers as answers_of
use Rattle.ob0_session_server.specs.Answers.{ServerState, Reply, AreContentsOfReply, SendsMessage, Reaction, react_to_message, apply_notification, react_to_notification, react_to_allowed_request, react_to_request as requested_in, react_to_parsed_request, react_to_document_request, formatting_reply, rename_reply, actions_reply, publication_reply, Answers, AnswersInPhase, AnswersInActivePhase, fixed_reply}
use Rattle.ob0_analysis.specs.ReportedErrors.{ReportedDiagnosis, IsWellTypedModule, ReportsErrorsOf, ReportsErrorsOfInvalidText, reported_diagnosis_of_fault}
use Rattle.ob0_session_answers.specs.Diagnostics.{AreDiagnosticsOf, diagnostic_of}
use Rattle.ob0_analysis.specs.TextBytes.{utf8}
use Rattle.ob0_session_answers.specs.FormattingAnswers.{AnswersFormattingRequest}
use Rattle.ob0_session_answers.specs.RenamingAnswers.{VersionedRenameRequest, AnswersRenameRequest}
use Rattle.ob0_session_json.specs.JsonShapes.{Diagnostic, diagnostic_value, edit_value, edit_list_value, document_edit_value, workspace_edit_value, publication}
use Rattle.ob0_world_rules.specs.Answers.{InliningKind, OneUse, Everywhere}
use Rattle.ob0_session_server.specs.declared.session.Phase.TheVariants.{Running}
use Rattle.ob0_world_editor.specs.MessagesToServer as heard_as
use Rattle.ob0_world_editor.specs.MessagesToServer.{request_number_from_id, notification_for_event, HasVersionInRange, SentRequestAsksForEdits, client_request_for_ask}
use Rattle.ob0_world_editor.specs.Shapes.{method_of_ask, empty_range_at}
use Rattle.ob0_world_editor.specs.MessagesToEditor.{answer_to_ask, message_to_editor_of_value, message_to_editor_given_numbering, edits_of_items, text_edits_in_workspace_edit, edits_in_answer, has_no_items}
use Rattle.ob0_world_editor.proofs.Hearing.{read_as}
use Rattle.ob0_world_rules.specs.TextEdits.{Replacement, replacement_of_edit, replacements_of_edits}
use Rattle.ob0_world_rules.specs.Asks.{Ask, rename, inline_here, inline_all, format, clamped_indent}
use Rattle.ob0_world_rules.specs.Answers.{position_offset, IsAnswerForText, IsAnswerForDocument, NoDiagnosticsExactlyIfWellTyped}
use Rattle.ob0_world_rules.specs.ClientAndServer.{SentAsk, MessageToServer, notifies, requests, MessageToEditor, publishes, answers, documents_after_message}
use Rattle.ob0_world_rules.specs.ServerReplies.{ServerSendsDiagnostics, ServerRepliesToMessage}
use Rattle.ob0_world_rules.proofs.ModuleTexts.{well_typed_text, well_typed_module}
use Rattle.ob0_world_rules.proofs.UriLaws.{get_put, uri_itself}
use Rattle.ob0_world.specs.Queues.{RunsWithModelEditor, publication_with_text, publication_in_first_message}
use Rattle.ob0_world.specs.Exchanges.{IsCodeActionRequest, ClientAcceptsLiteralActions, ClientAcceptsEditsForAsk}
use Rattle.ob0_world.proofs.Places.{place_of_range}

-- ---- contents that are read

same_json : (content : List ℕ) (json : Option Data) (d : Data) → IsJsonOfContent content json → IsJsonOfContent content (Some d) → json ≡ Some d
same_json content (Some e) d one other = sym one.1 ∙ other.1
same_json content None d one other = sym (one other.0) ∙ other.1

-- A running session answers by its reaction.
pub going_on : (before after : ServerState) (content : List ℕ) (sent : List (List ℕ)) → before.phase ≡ Running → Answers before content sent after → AnswersInActivePhase before content sent after
going_on before after content sent running h = subst (λ phase. AnswersInPhase phase before content sent after) running h

-- A content with this meaning has the reaction to that meaning.
pub reacts_so : (before after : ServerState) (content : List ℕ) (sent : List (List ℕ)) (d : Data) → AnswersInActivePhase before content sent after → IsJsonOfContent content (Some d) → (after ≡ (react_to_message before (meaning_of_message d)).after) × AreContentsOfReply (react_to_message before (meaning_of_message d)).reply sent
reacts_so before after content sent d (json, reads, answer) known =
    subst (λ j. (after ≡ (react_to_message before (meaning_of_content j)).after) × AreContentsOfReply (react_to_message before (meaning_of_content j)).reply sent) (same_json content json d reads known) answer

-- ---- diagnostics

empty_none : (shown : ReportedDiagnosis → Diagnostic) (reported : List ReportedDiagnosis) → reported ≡ [] → has_no_items (items_of (map diagnostic_value (map shown reported))) ≡ true
empty_none shown [] none = refl
empty_none shown (c ∷ cs) none = absurd (cc)

none_empty : (shown : ReportedDiagnosis → Diagnostic) (reported : List ReportedDiagnosis) → has_no_items (items_of (map diagnostic_value (map shown reported))) ≡ true → reported ≡ []
none_empty shown [] h = refl
none_empty shown (c ∷ cs) h = absurd (cc)

some_reported : (text : List ℕ) (reported : List ReportedDiagnosis) → ReportsErrorsOfInvalidText text reported → reported ≡ [] → ⊥
some_reported text reported (inl lexemes) none = go lexemes.faults lexemes.of_text.some (sym lexemes.all ∙ none)
  where
    go : (faults : _) → 0 < length faults → map reported_diagnosis_of_fault faults ≡ [] → ⊥
    go [] some none = omega (arith, some)
    go (f ∷ fs) some none = cc
some_reported text reported (inr (inl parser)) none = let other : parser.parser_diagnosis ∷ [] ≡ [] = sym parser.only_diagnosis ∙ none in cc
some_reported text reported (inr (inr types)) none = go types.faults types.some (sym types.all ∙ none)
  where
    go : (faults : _) → 0 < length faults → map reported_diagnosis_of_fault faults ≡ [] → ⊥
    go [] some none = omega (arith, some)
    go (f ∷ fs) some none = cc

reports_right : (unit : Unit) (text : List ℕ) (ds : List Diagnostic) → AreDiagnosticsOf unit text ds → NoDiagnosticsExactlyIfWellTyped text (has_no_items (items_of (map diagnostic_value ds)))
reports_right unit text ds (reported, reporting, is) =
    subst (λ ds. NoDiagnosticsExactlyIfWellTyped text (has_no_items (items_of (map diagnostic_value ds)))) (sym is) (go reporting)
  where
    go : ReportsErrorsOf (utf8 text) reported → NoDiagnosticsExactlyIfWellTyped text (has_no_items (items_of (map diagnostic_value (map (diagnostic_of unit text) reported))))
    go (inl (found, none)) = (λ empty. well_typed_text text found, λ well_typed. empty_none (diagnostic_of unit text) reported none)
    go (inr (unfit, faults)) = (λ empty. absurd (some_reported (utf8 text) reported faults (none_empty (diagnostic_of unit text) reported empty)), λ well_typed. absurd (unfit (well_typed_module text well_typed)))

-- ---- documents

-- After a change the document with this uri is the changed one, if it was open.
changed_at : (held : OpenDocuments) (uri : List ℕ) (version : ℤ) (how : List TextChange) → document_at (documents_after_change held uri version how) uri ≡ option_map (changed_document held.unit version how) (document_at held uri)
changed_at held uri version how = go (document_at held uri) refl
  where
    f : Document → Document
    f = changed_document held.unit version how

    go : (o : Option Document) → document_at held uri ≡ o → document_at (documents_after_change held uri version how) uri ≡ option_map f o
    go None is = ap (λ m. map_of.get m uri) (updated-none held.by_uri uri f is) ∙ is
    go (Some d) is =
        ap (λ m. map_of.get m uri) (updated-some held.by_uri uri f d is) ∙ get_put held.by_uri uri (f d) uri
        ∙ ap (λ b. cond b (Some (f d)) (document_at held uri)) (uri_itself uri)

opened_at : (held : OpenDocuments) (uri : List ℕ) (version : ℤ) (text : List ℕ) → document_at (documents_after_open held uri version text) uri ≡ Some (InStep version text)
opened_at held uri version text =
    get_put held.by_uri uri (InStep version text) uri ∙ ap (λ b. cond b (Some (InStep version text)) (document_at held uri)) (uri_itself uri)

-- ---- edits

edits_read_back : (edits : List Edit) → edits_of_items (items_of (map edit_value edits)) ≡ Some (replacements_of_edits edits)
edits_read_back [] = refl
edits_read_back (e ∷ edits) = ap (option_map (λ es. replacement_of_edit e ∷ es)) (edits_read_back edits)

-- An ask about a text that isn't a well-typed module has no edits as its answer.
unfit_answer : (unit : Unit) (text : List ℕ) (ask : Ask) → ¬ IsWellTypedModule (utf8 text) → IsAnswerForText unit text ask []
unfit_answer unit text ask unfit = inr (inr (λ fits. unfit (well_typed_module text fits)), refl)

-- An object with one member has this member.
own_member : (key : List ℕ) (d : Data) → get key (object (member key d no_members)) ≡ Some d
own_member key d = ap (λ o. match_ordering o None (Some d) None) (tied_itself nat_list_cmp_total key)

-- The edits of a document are read back from the WorkspaceEdit that has them, with a version or without.
workspace_read_back : (client : ClientFeatures) (uri : List ℕ) (version : ℤ) (edits : List Edit) → option_and_then edits_of_items (text_edits_in_workspace_edit uri (workspace_edit_value client uri version edits)) ≡ Some (replacements_of_edits edits)
workspace_read_back client uri version edits = go client.accepts_document_changes
  where
    go : (b : Bool)
        → option_and_then edits_of_items (text_edits_in_workspace_edit uri (cond b (object (member (codes "documentChanges") (array (item (document_edit_value uri version edits) no_items)) no_members)) (object (member (codes "changes") (object (member uri (edit_list_value edits) no_members)) no_members))))
        ≡ Some (replacements_of_edits edits)
    go true = edits_read_back edits
    go false = ap (λ o. option_and_then edits_of_items (option_and_then as_array o)) (own_member uri (edit_list_value edits)) ∙ edits_read_back edits

renames_read_back : (id : Data) (position : Position) (name uri : List ℕ) (version : ℤ) (edits : List Edit) (client : ClientFeatures)
    → edits_in_answer uri (rename position name) (result_message id (workspace_edit_value client uri version edits)) ≡ replacements_of_edits edits
renames_read_back id position name uri version edits client = ap (λ o. unwrap_or o []) (workspace_read_back client uri version edits)

-- returns a rename request in the session's words
abbrev rename_requested : ClientFeatures → Data → List ℕ → Position → List ℕ → ℤ → VersionedRenameRequest
rename_requested client id uri position name version =
    record { id = id; client = client; at = record { uri = uri; position = position }; version = version; new = name }

-- ---- inlining

-- returns the ask to inline here or everywhere
abbrev pub inlining_at : InliningKind → Position → Ask
inlining_at OneUse position = inline_here position
inlining_at Everywhere position = inline_all position

-- returns the one of two values that belongs to this kind of inlining
abbrev pub requested_for : {A : Type 0} → InliningKind → A → A → A
requested_for OneUse here everywhere = here
requested_for Everywhere here everywhere = everywhere

abbrev edits_offered : Option (Vec Edit Global) → List Replacement
edits_offered (Some edits) = replacements_of_edits edits.items
edits_offered None = []

-- The editor reads the edits of the action that it asked for from the list of offered actions.
actions_read_back : (how : InliningKind) (position : Position) (requested : VersionedActionsRequest) (here everywhere : Option (Vec Edit Global))
    → edits_in_answer requested.uri (inlining_at how position) (result_message requested.id (actions_array requested here everywhere)) ≡ edits_offered (requested_for how here everywhere)
actions_read_back OneUse position requested (Some edits) everywhere = ap (λ o. unwrap_or o []) (workspace_read_back requested.client requested.uri requested.version edits.items)
actions_read_back OneUse position requested None (Some other) = refl
actions_read_back OneUse position requested None None = refl
actions_read_back Everywhere position requested (Some other) (Some edits) = ap (λ o. unwrap_or o []) (workspace_read_back requested.client requested.uri requested.version edits.items)
actions_read_back Everywhere position requested None (Some edits) = ap (λ o. unwrap_or o []) (workspace_read_back requested.client requested.uri requested.version edits.items)
actions_read_back Everywhere position requested (Some other) None = refl
actions_read_back Everywhere position requested None None = refl

pub none_read_back : (how : InliningKind) (position : Position) (uri : List ℕ) (id : Data) → edits_in_answer uri (inlining_at how position) (result_message id (array no_items)) ≡ []
none_read_back OneUse position uri id = refl
none_read_back Everywhere position uri id = refl

-- An inlining that is offered, or not offered for a reason, is the answer to the ask.
offered_here : (unit : Unit) (text : List ℕ) (position : Position) (o : Option (Vec Edit Global)) → IsInlineResultInText OneUse unit text (position_offset unit text position) o → IsAnswerForText unit text (inline_here position) (edits_offered o)
offered_here unit text position None refused = inr (inl refused, refl)
offered_here unit text position (Some found) inlines = inl (found.items, (found, inlines, refl), refl)

offered_everywhere : (unit : Unit) (text : List ℕ) (position : Position) (o : Option (Vec Edit Global)) → IsInlineResultInText Everywhere unit text (position_offset unit text position) o → IsAnswerForText unit text (inline_all position) (edits_offered o)
offered_everywhere unit text position None refused = inr (inl refused, refl)
offered_everywhere unit text position (Some found) inlines = inl (found.items, (found, inlines, refl), refl)

least : (n : ℕ) → min n n ≡ n
least n = omega arith

-- The offset of an empty range is the offset of its position.
place_is : (unit : Unit) (text : List ℕ) (position : Position) → first_offset_in_range unit text (empty_range_at position) ≡ position_offset unit text position
place_is unit text position = least (position_offset unit text position)

requested_offered : (how : InliningKind) (unit : Unit) (text : List ℕ) (position : Position) (offset : ℕ) (here everywhere : Option (Vec Edit Global)) → offset ≡ position_offset unit text position → IsInlineResultInText OneUse unit text offset here
    → IsInlineResultInText Everywhere unit text offset everywhere → IsAnswerForText unit text (inlining_at how position) (edits_offered (requested_for how here everywhere))
requested_offered OneUse unit text position offset here everywhere is one other = offered_here unit text position here (subst (λ place. IsInlineResultInText OneUse unit text place here) is one)
requested_offered Everywhere unit text position offset here everywhere is one other = offered_everywhere unit text position everywhere (subst (λ place. IsInlineResultInText Everywhere unit text place everywhere) is other)

-- returns the request for actions at a position, of all kinds, in the session's words
abbrev pub actions_requested_at : ClientFeatures → Data → List ℕ → Position → ℤ → VersionedActionsRequest
actions_requested_at client id uri position version =
    record { id = id; client = client; uri = uri; version = version; range = empty_range_at position; only = None }

-- returns the request for actions in a range, of some kinds, in the session's words
abbrev pub actions_requested_in : ClientFeatures → Data → List ℕ → Range → Option (List (List ℕ)) → ℤ → VersionedActionsRequest
actions_requested_in client id uri range only version =
    record { id = id; client = client; uri = uri; version = version; range = range; only = only }

-- A running session answers a request of this editor by its method.
begun : (ask : Ask) (s : ServerState) (params id : Data) → requested_in Running s id (method_of_ask ask) params ≡ react_to_allowed_request s id (method_of_ask ask) params
begun (rename position name) s params id = refl
begun (inline_here position) s params id = refl
begun (inline_all position) s params id = refl
begun (format indent) s params id = refl

pub request_reaction : (id : Data) (uri : List ℕ) (ask : Ask) (before after : ServerState) (content : List ℕ) (sent : List (List ℕ)) → before.phase ≡ Running → (is : heard_as.IsRequestWithId id uri ask content) → Answers before content sent after
    → (after ≡ (react_to_allowed_request before id (method_of_ask ask) is.params).after) × AreContentsOfReply (react_to_allowed_request before id (method_of_ask ask) is.params).reply sent
request_reaction id uri ask before after content sent running is h =
    let answer = reacts_so before after content sent is.json (going_on before after content sent running h) is.reads in
    let so : react_to_message before (meaning_of_message is.json) ≡ react_to_allowed_request before id (method_of_ask ask) is.params =
    ap (react_to_message before) is.means ∙ ap (λ phase. requested_in phase before id (method_of_ask ask) is.params) running ∙ begun ask before is.params id in
    (answer.0 ∙ ap (λ (x : Reaction). x.after) so, subst (λ (x : Reaction). AreContentsOfReply x.reply sent) so answer.1)

-- ---- what the editor reads

module _ (number_of : Data → Option ℕ) (requested : List SentAsk) where
  -- states that the editor understands all these contents, and that these are their messages
  pub record MessagesToServer (sent : List (List ℕ)) (said : List MessageToEditor) : Type 0 where
    pub each : All (λ content. (m : MessageToEditor) × (message_to_editor_given_numbering number_of requested content ≡ Some m)) sent
    pub all : filter_map (message_to_editor_given_numbering number_of requested) sent ≡ said
    pub count : length sent ≡ length said

  heard_none : (sent : List (List ℕ)) → sent ≡ [] → MessagesToServer sent []
  heard_none sent none =
      subst (λ s. MessagesToServer s []) (sym none) (record { each = All-nil (λ content. (m : MessageToEditor) × (message_to_editor_given_numbering number_of requested content ≡ Some m)); all = refl; count = refl })

  heard_one : (sent : List (List ℕ)) (message : Data) (m : MessageToEditor) → SendsMessage message sent → message_to_editor_of_value number_of requested message ≡ Some m → MessagesToServer sent (m ∷ [])
  heard_one sent message m (content, is, writes) means =
      let said : message_to_editor_given_numbering number_of requested content ≡ Some m = read_as number_of requested content message writes.reads ∙ means in
      subst (λ s. MessagesToServer s (m ∷ [])) (sym is)
      (record {
        each = All-push (λ c. (m : MessageToEditor) × (message_to_editor_given_numbering number_of requested c ≡ Some m)) [] content (All-nil (λ c. (m : MessageToEditor) × (message_to_editor_given_numbering number_of requested c ≡ Some m))) (m, said);
        all = ap (λ o. cons_option o []) said;
        count = refl;
      })

  -- ---- publications

  -- states that these contents say what a notification publishes
  pub record Noted (held : OpenDocuments) (uri : List ℕ) (o : Option Document) (sent : List (List ℕ)) : Type 0 where
    pub said : List MessageToEditor
    pub message_to_server_in_content : MessagesToServer sent said
    pub replies : ServerSendsDiagnostics uri o said (option_to_list (publication_in_first_message held said))

  publishes_step : (held : OpenDocuments) (uri : List ℕ) (version : ℤ) (text : List ℕ) (sent : List (List ℕ)) → document_at held uri ≡ Some (InStep version text) → as_i64 (of_integer version) ≡ Some version
      → AreContentsOfReply (publication_reply held.unit uri (Some (InStep version text))) sent → Noted held uri (Some (InStep version text)) sent
  publishes_step held uri version text sent at fits (ds, diagnoses, sends) =
      let empty : Bool = has_no_items (items_of (map diagnostic_value ds)) in
      record {
        said = publishes uri (Some version) empty ∷ [];
        message_to_server_in_content = heard_one sent (publication uri (Some version) ds) (publishes uri (Some version) empty) sends (ap (λ v. Some (publishes uri v empty)) fits);
        replies = (empty, reports_right held.unit text ds diagnoses, refl, ap (λ o. option_to_list (option_and_then (publication_with_text uri version empty) o)) at);
      }

  publishes_now : (held : OpenDocuments) (uri : List ℕ) (version : ℤ) (t : Option (List ℕ)) (sent : List (List ℕ)) → document_at held uri ≡ Some (document_with_text version t) → as_i64 (of_integer version) ≡ Some version
      → AreContentsOfReply (publication_reply held.unit uri (Some (document_with_text version t))) sent → Noted held uri (Some (document_with_text version t)) sent
  publishes_now held uri version (Some text) sent at fits saying = publishes_step held uri version text sent at fits saying
  publishes_now held uri version None sent at fits saying = record { said = []; message_to_server_in_content = heard_none sent saying; replies = (refl, refl) }

  -- The contents that are sent for a document publish the document that is now open under that uri.
  noted_at : (held : OpenDocuments) (uri : List ℕ) (o : Option Document) (sent : List (List ℕ)) → document_at held uri ≡ o → (AreContentsOfReply (publication_reply held.unit uri o) sent → Noted held uri o sent)
      → AreContentsOfReply (publication_reply held.unit uri (document_at held uri)) sent → Noted held uri (document_at held uri) sent
  noted_at held uri o sent at then_noted saying =
      subst (λ o. Noted held uri o sent) (sym at) (then_noted (subst (λ o. AreContentsOfReply (publication_reply held.unit uri o) sent) at saying))

  -- ---- what may be sent

  -- states that the server has taken a message and sent these contents, which are its replies
  pub record Served (m : MessageToServer) (before after : ServerState) (sent : List (List ℕ)) : Type 0 where
    pub phase : after.phase ≡ Running
    pub client : after.client ≡ before.client
    pub held : after.held ≡ documents_after_message before.held m
    pub said : List MessageToEditor
    pub message_to_server_in_content : MessagesToServer sent said
    pub replies : ServerRepliesToMessage before.held m said (option_to_list (publication_in_first_message after.held said))

  -- The reaction to a notification sends the replies of the model's server.
  note_served : (note : DocumentEvent) (before after : ServerState) (sent : List (List ℕ)) → before.phase ≡ Running → HasVersionInRange note → after ≡ (apply_notification before (notification_for_event note)).after → AreContentsOfReply (apply_notification before (notification_for_event note)).reply sent
      → Served (notifies note) before after sent
  note_served (Opened uri version text) before after sent running fits is saying =
      let held : OpenDocuments = documents_after_open before.held uri version text in
      let noted : Noted held uri (document_at held uri) sent =
      noted_at held uri (Some (InStep version text)) sent (opened_at before.held uri version text) (publishes_step held uri version text sent (opened_at before.held uri version text) fits) saying in
      subst (λ a. Served (notifies (Opened uri version text)) before a sent) (sym is)
      (record { phase = running; client = refl; held = refl; said = noted.said; message_to_server_in_content = noted.message_to_server_in_content; replies = noted.replies })
  note_served (Changed uri version how) before after sent running fits is saying =
      let held : OpenDocuments = documents_after_change before.held uri version how in
      let noted : Noted held uri (document_at held uri) sent = go held (document_at before.held uri) (changed_at before.held uri version how) saying in
      subst (λ a. Served (notifies (Changed uri version how)) before a sent) (sym is)
      (record { phase = running; client = refl; held = refl; said = noted.said; message_to_server_in_content = noted.message_to_server_in_content; replies = noted.replies })
    where
      go : (held : OpenDocuments) (o : Option Document) → document_at held uri ≡ option_map (changed_document before.held.unit version how) o → AreContentsOfReply (publication_reply held.unit uri (document_at held uri)) sent → Noted held uri (document_at held uri) sent
      go held None at saying = noted_at held uri None sent at (λ saying. record { said = []; message_to_server_in_content = heard_none sent saying; replies = (refl, refl) }) saying
      go held (Some d) at saying =
          let t : Option (List ℕ) = fold (changed_text before.held.unit) (text_if_in_step d) how in
          noted_at held uri (Some (document_with_text version t)) sent at (publishes_now held uri version t sent at fits) saying
  note_served (Lost uri) before after sent running fits is saying =
      subst (λ a. Served (notifies (Lost uri)) before a sent) (sym is)
      (record { phase = running; client = refl; held = refl; said = []; message_to_server_in_content = heard_none sent saying; replies = (refl, refl) })
  note_served (Closed uri) before after sent running fits is saying =
      subst (λ a. Served (notifies (Closed uri)) before a sent) (sym is) (go (is_some (document_at before.held uri)) refl saying)
    where
      go : (b : Bool) → is_some (document_at before.held uri) ≡ b → AreContentsOfReply (cond b (fixed_reply (publication uri None [])) answers_of.no_reply) sent → Served (notifies (Closed uri)) before (apply_notification before (notification_for_event (Closed uri))).after sent
      go true was saying = record {
        phase = running;
        client = refl;
        held = refl;
        said = publishes uri None true ∷ [];
        message_to_server_in_content = heard_one sent (publication uri None []) (publishes uri None true) saying refl;
        replies = (sym (ap (λ b. cond b (publishes uri None true ∷ []) []) was), refl);
      }
      go false was saying = record { phase = running; client = refl; held = refl; said = []; message_to_server_in_content = heard_none sent saying; replies = (sym (ap (λ b. cond b (publishes uri None true ∷ []) []) was), refl) }

  -- states that ask k is this one and has this id
  record Asks (id : Data) (k : ℕ) (uri : List ℕ) (ask : Ask) : Type 0 where
    numbered : number_of id ≡ Some k
    is : SentRequestAsksForEdits requested k uri ask

  -- The editor reads the answer with this id as the answer to ask k.
  answered : (id : Data) (k : ℕ) (uri : List ℕ) (ask : Ask) (answer : Data) → Asks id k uri ask → option_and_then (answer_to_ask requested answer) (number_of id) ≡ Some (answers k (edits_in_answer uri ask answer))
  answered id k uri ask answer of =
      ap (option_and_then (answer_to_ask requested answer)) of.numbered
      ∙ ap (option_map (λ (a : SentAsk). answers k (edits_in_answer a.uri a.ask answer))) of.is.is ∙ (λ i. Some (answers k (edits_in_answer (of.is.about i) (of.is.same_ask i) answer)))

  -- states that the contents are the answer to ask k about this document
  record Answered (k : ℕ) (ask : Ask) (unit : Unit) (o : Option Document) (sent : List (List ℕ)) : Type 0 where
    edits : List Replacement
    message_to_server_in_content : MessagesToServer sent (answers k edits ∷ [])
    replies : IsAnswerForDocument unit o ask edits

  -- A refusal is an answer without edits.
  refused : (id : Data) (k : ℕ) (uri : List ℕ) (ask : Ask) (unit : Unit) (o : Option Document) (code : ℤ) (why : List ℕ) (sent : List (List ℕ)) → Asks id k uri ask → SendsMessage (error_response_message id code why) sent
      → IsAnswerForDocument unit o ask [] → Answered k ask unit o sent
  refused id k uri ask unit o code why sent of sends none =
      record {
        edits = [];
        message_to_server_in_content = heard_one sent (error_response_message id code why) (answers k []) sends (answered id k uri ask (error_response_message id code why) of);
        replies = none;
      }

  formatted : (id : Data) (k : ℕ) (uri : List ℕ) (indent : Indent) (unit : Unit) (version : ℤ) (text : List ℕ) (sent : List (List ℕ)) → Asks id k uri (format indent)
      → AreContentsOfReply (formatting_reply unit id (clamped_indent indent) text) sent → Answered k (format indent) unit (Some (InStep version text)) sent
  formatted id k uri indent unit version text sent of (message, how, sends) = go how
    where
      go : AnswersFormattingRequest unit id (clamped_indent indent) text message → Answered k (format indent) unit (Some (InStep version text)) sent
      go (inl (edits, laid, is)) =
          let answer : Data = result_message id (edit_list_value edits) in
          let these : edits_in_answer uri (format indent) answer ≡ replacements_of_edits edits = ap (λ o. unwrap_or o []) (edits_read_back edits) in
          record {
            edits = replacements_of_edits edits;
            message_to_server_in_content = heard_one sent answer (answers k (replacements_of_edits edits)) (subst (λ m. SendsMessage m sent) is sends) (answered id k uri (format indent) answer of ∙ ap (λ es. Some (answers k es)) these);
            replies = inl (edits, laid, refl);
          }
      go (inr (inl (long, is))) = refused id k uri (format indent) unit (Some (InStep version text)) (negative_of 32803) (refusal_text TooLong) sent of (subst (λ m. SendsMessage m sent) is sends) (inr (inl long, refl))
      go (inr (inr (unfit, is))) = refused id k uri (format indent) unit (Some (InStep version text)) (negative_of 32803) (codes "ill-typed") sent of (subst (λ m. SendsMessage m sent) is sends) (unfit_answer unit text (format indent) unfit)

  renamed : (id : Data) (k : ℕ) (uri : List ℕ) (position : Position) (name : List ℕ) (client : ClientFeatures) (unit : Unit) (version : ℤ) (text : List ℕ) (sent : List (List ℕ)) → Asks id k uri (rename position name)
      → AreContentsOfReply (rename_reply unit (rename_requested client id uri position name version) text) sent → Answered k (rename position name) unit (Some (InStep version text)) sent
  renamed id k uri position name client unit version text sent of (message, how, sends) = go how
    where
      go : AnswersRenameRequest unit (rename_requested client id uri position name version) text message → Answered k (rename position name) unit (Some (InStep version text)) sent
      go (inl (edits, found, is)) =
          let answer : Data = result_message id (workspace_edit_value client uri version edits) in
          let these : edits_in_answer uri (rename position name) answer ≡ replacements_of_edits edits = renames_read_back id position name uri version edits client in
          record {
            edits = replacements_of_edits edits;
            message_to_server_in_content = heard_one sent answer (answers k (replacements_of_edits edits)) (subst (λ m. SendsMessage m sent) is sends) (answered id k uri (rename position name) answer of ∙ ap (λ es. Some (answers k es)) these);
            replies = inl (edits, found, refl);
          }
      go (inr (inl (refusal, why, is))) = refused id k uri (rename position name) unit (Some (InStep version text)) (negative_of 32803) (refusal_text refusal) sent of (subst (λ m. SendsMessage m sent) is sends) (inr (inl (refusal, why), refl))
      go (inr (inr (unfit, is))) = refused id k uri (rename position name) unit (Some (InStep version text)) (negative_of 32803) (codes "ill-typed") sent of (subst (λ m. SendsMessage m sent) is sends) (unfit_answer unit text (rename position name) unfit)

  inlined_in : (how : InliningKind) (id : Data) (k : ℕ) (uri : List ℕ) (position : Position) (range : Range) (only : Option (List (List ℕ))) (client : ClientFeatures) (unit : Unit) (version : ℤ) (text : List ℕ) (sent : List (List ℕ))
      → client.accepts_literal_actions ≡ true → requested_kinds_include_inlining only ≡ true → first_offset_in_range unit text range ≡ position_offset unit text position → Asks id k uri (inlining_at how position)
      → AreContentsOfReply (actions_reply unit (actions_requested_in client id uri range only version) text) sent → Answered k (inlining_at how position) unit (Some (InStep version text)) sent
  inlined_in how id k uri position range only client unit version text sent literal allowed place of (message, (value, how_listed, is), sends) = go how_listed
    where
      request : VersionedActionsRequest
      request = actions_requested_in client id uri range only version

      editing_result : (edits : List Replacement) → edits_in_answer uri (inlining_at how position) (result_message id value) ≡ edits → IsAnswerForText unit text (inlining_at how position) edits
          → Answered k (inlining_at how position) unit (Some (InStep version text)) sent
      editing_result edits these answer_is =
          let answer : Data = result_message id value in
          record {
            edits = edits;
            message_to_server_in_content = heard_one sent answer (answers k edits) (subst (λ m. SendsMessage m sent) is sends) (answered id k uri (inlining_at how position) answer of ∙ ap (λ es. Some (answers k es)) these);
            replies = answer_is;
          }

      -- The client of this editor asks for actions with edits, so it isn't one that asks for commands only.
      wants : (b c : Bool) → b ≡ true → c ≡ true → (b && c) ≡ false → ⊥
      wants true true is also not = let no : true ≡ false = not in cc
      wants true false is also not = cc
      wants false c is also not = cc

      unfit : (wants_inlining request ≡ false) ⊎ ¬ IsWellTypedModule (utf8 text) → ¬ IsWellTypedModule (utf8 text)
      unfit (inl unwanted) = absurd (wants client.accepts_literal_actions (requested_kinds_include_inlining only) literal allowed unwanted)
      unfit (inr ill_typed) = ill_typed

      go : ListsActions unit request text value → Answered k (inlining_at how position) unit (Some (InStep version text)) sent
      go (inl h) =
          editing_result (edits_offered (requested_for how h.here h.everywhere))
          (ap (λ v. edits_in_answer uri (inlining_at how position) (result_message id v)) h.listed ∙ actions_read_back how position request h.here h.everywhere)
          (requested_offered how unit text position (first_offset_in_range unit text range) h.here h.everywhere place h.offers_here h.offers_everywhere)
      go (inr (why, listed)) =
          editing_result [] (ap (λ v. edits_in_answer uri (inlining_at how position) (result_message id v)) listed ∙ none_read_back how position uri id) (unfit_answer unit text (inlining_at how position) (unfit why))

  inlined : (how : InliningKind) (id : Data) (k : ℕ) (uri : List ℕ) (position : Position) (client : ClientFeatures) (unit : Unit) (version : ℤ) (text : List ℕ) (sent : List (List ℕ)) → client.accepts_literal_actions ≡ true
      → Asks id k uri (inlining_at how position)
      → AreContentsOfReply (actions_reply unit (actions_requested_at client id uri position version) text) sent → Answered k (inlining_at how position) unit (Some (InStep version text)) sent
  inlined how id k uri position client unit version text sent literal of saying =
      inlined_in how id k uri position (empty_range_at position) None client unit version text sent literal refl (place_is unit text position) of saying

  -- ---- asks

  asks_served : (k : ℕ) (uri : List ℕ) (ask : Ask) (before after : ServerState) (sent : List (List ℕ)) → before.phase ≡ Running → after ≡ before → Answered k ask before.held.unit (document_at before.held uri) sent
      → Served (requests k uri ask) before after sent
  asks_served k uri ask before after sent running same answer =
      subst (λ a. Served (requests k uri ask) before a sent) (sym same)
      (record { phase = running; client = refl; held = refl; said = answers k answer.edits ∷ []; message_to_server_in_content = answer.message_to_server_in_content; replies = (answer.edits, answer.replies, refl, refl) })

  -- An ask about a document is answered if its answer is known for the text of a document in step.
  about_document : (id : Data) (k : ℕ) (uri : List ℕ) (ask : Ask) (say : ℤ → List ℕ → Reply) (before after : ServerState) (sent : List (List ℕ)) → before.phase ≡ Running → Asks id k uri ask
      → ((version : ℤ) (text : List ℕ) → AreContentsOfReply (say version text) sent → Answered k ask before.held.unit (Some (InStep version text)) sent)
      → (o : Option Document) → document_at before.held uri ≡ o → after ≡ (react_to_document_request before id o say).after → AreContentsOfReply (react_to_document_request before id o say).reply sent → Served (requests k uri ask) before after sent
  about_document id k uri ask say before after sent running of in_step None at same saying =
      asks_served k uri ask before after sent running same (refused id k uri ask before.held.unit (document_at before.held uri) (negative_of 32803) (codes "unopened") sent of saying (subst (λ o. IsAnswerForDocument before.held.unit o ask []) (sym at) refl))
  about_document id k uri ask say before after sent running of in_step (Some OutOfStep) at same saying =
      asks_served k uri ask before after sent running same (refused id k uri ask before.held.unit (document_at before.held uri) (negative_of 32803) (codes "out of step") sent of saying (subst (λ o. IsAnswerForDocument before.held.unit o ask []) (sym at) refl))
  about_document id k uri ask say before after sent running of in_step (Some (InStep version text)) at same saying =
      asks_served k uri ask before after sent running same (subst (λ o. Answered k ask before.held.unit o sent) (sym at) (in_step version text saying))

  -- A running session replies to a request of this editor as the model's server does.
  request_served : (id : Data) (k : ℕ) (uri : List ℕ) (ask : Ask) (params : Data) (before after : ServerState) (sent : List (List ℕ)) → before.phase ≡ Running → ClientAcceptsEditsForAsk before.client ask → Asks id k uri ask → request_by_method (method_of_ask ask) params ≡ Ok (client_request_for_ask uri ask)
      → after ≡ (react_to_allowed_request before id (method_of_ask ask) params).after → AreContentsOfReply (react_to_allowed_request before id (method_of_ask ask) params).reply sent → Served (requests k uri ask) before after sent
  request_served id k uri (rename position name) params before after sent running takes of call is saying =
      let say : ℤ → List ℕ → Reply = λ version. rename_reply before.held.unit (rename_requested before.client id uri position name version) in
      let so : react_to_allowed_request before id (method_of_ask (rename position name)) params ≡ react_to_document_request before id (document_at before.held uri) say = ap (react_to_parsed_request before id) call in
      about_document id k uri (rename position name) say before after sent running of
      (λ version text. renamed id k uri position name before.client before.held.unit version text sent of) (document_at before.held uri) refl
      (is ∙ ap (λ (x : Reaction). x.after) so) (subst (λ (x : Reaction). AreContentsOfReply x.reply sent) so saying)
  request_served id k uri (inline_here position) params before after sent running takes of call is saying =
      let say : ℤ → List ℕ → Reply = λ version. actions_reply before.held.unit (actions_requested_at before.client id uri position version) in
      let so : react_to_allowed_request before id (method_of_ask (inline_here position)) params ≡ react_to_document_request before id (document_at before.held uri) say = ap (react_to_parsed_request before id) call in
      about_document id k uri (inline_here position) say before after sent running of
      (λ version text. inlined OneUse id k uri position before.client before.held.unit version text sent takes of) (document_at before.held uri) refl
      (is ∙ ap (λ (x : Reaction). x.after) so) (subst (λ (x : Reaction). AreContentsOfReply x.reply sent) so saying)
  request_served id k uri (inline_all position) params before after sent running takes of call is saying =
      let say : ℤ → List ℕ → Reply = λ version. actions_reply before.held.unit (actions_requested_at before.client id uri position version) in
      let so : react_to_allowed_request before id (method_of_ask (inline_all position)) params ≡ react_to_document_request before id (document_at before.held uri) say = ap (react_to_parsed_request before id) call in
      about_document id k uri (inline_all position) say before after sent running of
      (λ version text. inlined Everywhere id k uri position before.client before.held.unit version text sent takes of) (document_at before.held uri) refl
      (is ∙ ap (λ (x : Reaction). x.after) so) (subst (λ (x : Reaction). AreContentsOfReply x.reply sent) so saying)
  request_served id k uri (format indent) params before after sent running takes of call is saying =
      let say : ℤ → List ℕ → Reply = λ version. formatting_reply before.held.unit id (clamped_indent indent) in
      let so : react_to_allowed_request before id (method_of_ask (format indent)) params ≡ react_to_document_request before id (document_at before.held uri) say = ap (react_to_parsed_request before id) call in
      about_document id k uri (format indent) say before after sent running of
      (λ version text. formatted id k uri indent before.held.unit version text sent of) (document_at before.held uri) refl
      (is ∙ ap (λ (x : Reaction). x.after) so) (subst (λ (x : Reaction). AreContentsOfReply x.reply sent) so saying)

  -- A request for the actions in a range is answered as an inlining if the range and the position have the same offset.
  inline_served : (how : InliningKind) (id : Data) (k : ℕ) (uri : List ℕ) (position : Position) (range : Range) (only : Option (List (List ℕ))) (params : Data) (before after : ServerState) (sent : List (List ℕ)) → before.phase ≡ Running → ClientAcceptsLiteralActions before.client
      → Asks id k uri (inlining_at how position) → requested_kinds_include_inlining only ≡ true → ((unit : Unit) (text : List ℕ) → first_offset_in_range unit text range ≡ position_offset unit text position) → request_by_method (codes "textDocument/codeAction") params ≡ Ok (code_action uri range only)
      → after ≡ (react_to_allowed_request before id (codes "textDocument/codeAction") params).after → AreContentsOfReply (react_to_allowed_request before id (codes "textDocument/codeAction") params).reply sent
      → Served (requests k uri (inlining_at how position)) before after sent
  inline_served how id k uri position range only params before after sent running takes of allowed place call is saying =
      let say : ℤ → List ℕ → Reply = λ version. actions_reply before.held.unit (actions_requested_in before.client id uri range only version) in
      let so : react_to_allowed_request before id (codes "textDocument/codeAction") params ≡ react_to_document_request before id (document_at before.held uri) say = ap (react_to_parsed_request before id) call in
      about_document id k uri (inlining_at how position) say before after sent running of
      (λ version text. inlined_in how id k uri position range only before.client before.held.unit version text sent takes allowed (place before.held.unit text) of) (document_at before.held uri) refl
      (is ∙ ap (λ (x : Reaction). x.after) so) (subst (λ (x : Reaction). AreContentsOfReply x.reply sent) so saying)

  -- ---- contents

  -- A running session replies to a notification as the model's server does.
  pub note_answered : (note : DocumentEvent) (before after : ServerState) (content : List ℕ) (sent : List (List ℕ)) → before.phase ≡ Running → heard_as.IsNotificationOfEvent note content → Answers before content sent after → Served (notifies note) before after sent
  note_answered note before after content sent running is h =
      let answer = reacts_so before after content sent is.json (going_on before after content sent running h) is.reads in
      let so : react_to_message before (meaning_of_message is.json) ≡ apply_notification before (notification_for_event note) =
      ap (react_to_message before) is.means ∙ ap (λ phase. react_to_notification phase before is.method is.params) running ∙ ap (apply_notification before) is.reported in
      note_served note before after sent running is.fits (answer.0 ∙ ap (λ (x : Reaction). x.after) so) (subst (λ (x : Reaction). AreContentsOfReply x.reply sent) so answer.1)

  -- A running session replies to an ask as the model's server does.
  pub ask_answered : (id : Data) (k : ℕ) (uri : List ℕ) (ask : Ask) (before after : ServerState) (content : List ℕ) (sent : List (List ℕ)) → before.phase ≡ Running → ClientAcceptsEditsForAsk before.client ask → number_of id ≡ Some k → SentRequestAsksForEdits requested k uri ask
      → heard_as.IsRequestWithId id uri ask content → Answers before content sent after → Served (requests k uri ask) before after sent
  ask_answered id k uri ask before after content sent running takes numbered of is h =
      let reaction = request_reaction id uri ask before after content sent running is h in
      request_served id k uri ask is.params before after sent running takes (record { numbered = numbered; is = of }) is.calls reaction.0 reaction.1

  -- A running session replies to a request for the actions in a range as the model's server does to an inlining.
  pub actions_answered : (how : InliningKind) (id : Data) (k : ℕ) (uri : List ℕ) (position : Position) (before after : ServerState) (content : List ℕ) (sent : List (List ℕ)) → before.phase ≡ Running → ClientAcceptsLiteralActions before.client → number_of id ≡ Some k
      → SentRequestAsksForEdits requested k uri (inlining_at how position) → IsCodeActionRequest id uri position content → Answers before content sent after → Served (requests k uri (inlining_at how position)) before after sent
  actions_answered how id k uri position before after content sent running takes numbered of is h =
      let answer = reacts_so before after content sent is.json (going_on before after content sent running h) is.reads in
      let so : react_to_message before (meaning_of_message is.json) ≡ react_to_allowed_request before id (codes "textDocument/codeAction") is.params =
      ap (react_to_message before) is.means ∙ ap (λ phase. requested_in phase before id (codes "textDocument/codeAction") is.params) running in
      inline_served how id k uri position is.range is.only is.params before after sent running takes (record { numbered = numbered; is = of }) is.allowed (place_of_range is.range position is.from) is.calls
      (answer.0 ∙ ap (λ (x : Reaction). x.after) so) (subst (λ (x : Reaction). AreContentsOfReply x.reply sent) so answer.1)

-- ---- the model's editor

-- A session that runs with this editor has a client that accepts the edits of each ask.
takes_all : (s : ServerState) (ask : Ask) → RunsWithModelEditor s → ClientAcceptsEditsForAsk s.client ask
takes_all s (rename position name) running = tt
takes_all s (inline_here position) running = running.2
takes_all s (inline_all position) running = running.2
takes_all s (format indent) running = tt

-- The session replies to a message of the model's editor as the model's server does. The ids of that editor's requests
-- are their numbers.
pub served : (requested : List SentAsk) (m : MessageToServer) (before after : ServerState) (content : List ℕ) (sent : List (List ℕ)) → RunsWithModelEditor before → heard_as.IsMessageToServer requested m content → Answers before content sent after → Served request_number_from_id requested m before after sent
served requested (notifies note) before after content sent running is h = note_answered request_number_from_id requested note before after content sent running.0 is h
served requested (requests k uri ask) before after content sent running (is, of) h =
    ask_answered request_number_from_id requested (number (unsigned k)) k uri ask before after content sent running.0 (takes_all before ask running) refl of is h

-- After a message the session still runs with the same client.
pub runs_on : (requested : List SentAsk) (m : MessageToServer) (before after : ServerState) (sent : List (List ℕ)) → RunsWithModelEditor before → Served request_number_from_id requested m before after sent → RunsWithModelEditor after
runs_on requested m before after sent running s =
    (s.phase, ap (λ (c : ClientFeatures). c.accepts_document_changes) s.client ∙ running.1, ap (λ (c : ClientFeatures). c.accepts_literal_actions) s.client ∙ running.2)
