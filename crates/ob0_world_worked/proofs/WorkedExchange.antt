-- Proves that the example exchange exists, turn by turn.
use Rattle.std.proofs.Common.{◌≡◌, ◌∙◌, ℕ, pos, true, List, [], ◌∷◌, Option, Some, None, inl, inr, refl, sym, ap, subst, arith, if◌then◌else◌}
use Rattle.std.specs.Prelude.{codes, nat_lt, option_and_then, option_map}
use Rattle.std.specs.FinMap as map_of
use Rattle.std.specs.Str.{chars}
use Rattle.std.proofs.lemmas.Str.{is_utf8-from_IsUtf8}
use Rattle.serde_json.specs.Data.{Data, null, number, unsigned, depth}
use Rattle.ob0_text.specs.declared.position_types.Unit.TheVariants.{Utf16}
use Rattle.ob0_text.specs.Texts.{text_before, line_body, ends_line, fitting_prefix, lines, offset_of, starts_with_lf}
use Rattle.ob0_text.specs.Texts as texts
use Rattle.ob0_text.specs.Patches.{are_all_disjoint, cut_of_range, cuts_in_text_order, text_patched_by_cuts, text_after_cuts_from_offset, char_count_before_position}
use Rattle.ob0_text.specs.OpenDocuments.{Document, InStep, changed_text, document_at, no_open_documents, documents_after_open}
use Rattle.ob0_rpc.specs.AppendedJson.{ReadsBack}
use Rattle.ob0_rpc.specs.Requests.{DocumentPlace}
use Rattle.ob0_rpc.specs.Notifications.{NotificationMeaning, notification_by_method, opens, changes}
use Rattle.ob0_language_runs.specs.EditLaws.{InliningEverywhereKeepsTypingAndRuns, InliningKeepsTypingAndRuns}
use Rattle.ob0_language_types.specs.EditLaws.{ConstantUsesAreFactors}
use Rattle.ob0_refs.specs.Questions.{hover_at_offset}
use Rattle.ob0_analysis.specs.ReportedErrors.{IsWellTypedModule}
use Rattle.ob0_analysis.specs.TextBytes.{utf8}
use Rattle.ob0_analysis.proofs.Scanning.{is_module}
use Rattle.ob0_edits.specs.declared.inline_question.InliningKind.TheVariants.{OneUse, Everywhere}
use Rattle.ob0_edits.specs.InliningEdits.{InlinesInText}
use Rattle.ob0_session_answers.specs.Actions.{first_offset_in_range, actions_array, ListsInlinings}
use Rattle.ob0_session_answers.specs.Questions.{hover_value_with_range, hover_question, offset_of_place, value_or_null}
use Rattle.ob0_session_server.specs.Answers as server
use Rattle.ob0_session_server.specs.Answers.{Answers, IsConversation, AreContentsOfReply, SendsMessage, ServerState, react_to_document_request, question_reply, apply_notification, state_after_initialize, actions_reply, publication_reply}
use Rattle.ob0_world_editor.specs.InitializeRequest.{client_features_for_unit, initialize_message}
use Rattle.ob0_world_editor.specs.Shapes.{change_value_of_range_and_text, did_change_params, did_open_params}
use Rattle.ob0_world_editor.specs.MessagesToEditor.{message_to_editor_given_numbering, message_to_editor_of_value}
use Rattle.ob0_world_rules.specs.Asks.{inline_all}
use Rattle.ob0_world_rules.specs.ClientAndServer.{AppliedEdit, Editor, OpenDocument, SentAsk, MessageToEditor, answers, new_editor, editor_document_with_uri, publishes}
use Rattle.ob0_world_rules.specs.TextEdits.{Replacement, text_after_changes, text_after_edits}
use Rattle.ob0_world_rules.specs.EditorActs.{result_of_sending_ask, editor_without_answer}
use Rattle.ob0_world_rules.specs.EditorMoves.{AppliesAnswer, result_of_opening_given_document, revised_document, editor_applies, editor_asks, editor_opens, notifications_of_revisions, editor_with_document}
use Rattle.ob0_world_rules.specs.EveryEditor.{editor_moves, editor_sends_unmodeled_message, editor_takes_message, server_takes_message}
use Rattle.ob0_world_rules.specs.PublicationsAreInOrder.{AnnouncedDocument}
use Rattle.ob0_world_rules.proofs.UriLaws.{get_put}
use Rattle.ob0_world.specs.Exchanges.{IsInitialExchange, Exchange, ExchangeTakesTurn, IsCodeActionRequest, SentRequestId, ask_number_of_json_id, number_id, message_to_editor_given_ids, editor_after_optional_message}
use Rattle.ob0_world_worked.specs.WorkedText.{position_on_line, example_text}
use Rattle.ob0_world_worked.specs.WorkedAnswers.{range_on_line, replacement_on_line}
use Rattle.ob0_world_worked.specs.WorkedExchange.{ExampleExchangeExists, example_code_action_params, example_code_action_request, example_hover_request, example_hover_params, inlined_text, example_inlining_context, inlining_revision, example_change_notification, initialized_notification, example_open_notification, example_turns, example_uri}
use Rattle.ob0_world_worked.specs.WorkedExchange as law
use Rattle.ob0_world_worked.proofs.WorkedTexts.{chars_so}
use Rattle.ob0_world_worked.proofs.WorkedModule.{worked_names}
use Rattle.ob0_world_worked.proofs.WorkedAnswers.{inlines_everywhere_in, inlines_here_in, worked_in_bytes}
use Rattle.ob0_world_worked.proofs.Json.{content_of, reads_so}
use Rattle.ob0_world_worked.proofs.WorkedMessages.{actions_read, capabilities_read, change_read, everywhere_edits, here_edits, hover_read, initialize_read, initialized_read, initialized_with, no_hover, no_hover_read, none_read, open_read, requested_actions, sends, shows_none, two_actions, two_actions_read}

-- The editor reads this in the content.
editor_reads : (of : Data → Option ℕ) (requested : List SentAsk) (d : Data) → ReadsBack d → nat_lt (depth d) 128 ≡ true → message_to_editor_given_numbering of requested (content_of d) ≡ message_to_editor_of_value of requested d
unfolding message_to_editor_given_numbering
editor_reads of requested d r shallow =
    let w = reads_so d r shallow in
    λ i. if is_utf8-from_IsUtf8 (content_of d) w.0 i then option_and_then (message_to_editor_of_value of requested) (w.1 i) else None

-- ---- the states

abbrev session₀ : ServerState
session₀ = state_after_initialize (client_features_for_unit Utf16)

abbrev session₁ : ServerState
session₁ = record { phase = session₀.phase; client = client_features_for_unit Utf16; held = documents_after_open (no_open_documents Utf16) example_uri (pos 0) example_text }

abbrev document₀ : OpenDocument
document₀ = record { version = pos 0; text = example_text; opening = 1 }

abbrev editor₀ : Editor
editor₀ = new_editor Utf16

abbrev editor₁ : Editor
editor₁ = record (editor_with_document (new_editor Utf16) example_uri document₀) { openings = 1 }

abbrev the_ask : SentAsk
the_ask = record { ask = inline_all (position_on_line 6 7); uri = example_uri; text = example_text; opening = 1; version = pos 0 }

abbrev editor₂ : Editor
editor₂ = record editor₁ { requested = the_ask ∷ [] }

abbrev the_edits : List Replacement
the_edits = replacement_on_line 2 2 8 [] ∷ replacement_on_line 6 7 8 (codes "2") ∷ []

abbrev editor₃ : Editor
editor₃ = record editor₂ { answers = record { number = 1; edits = the_edits } ∷ [] }

abbrev editor₄ : Editor
editor₄ = editor_with_document (editor_without_answer editor₃ 1) example_uri (revised_document document₀ inlining_revision)

abbrev hover_id : SentRequestId
hover_id = record { id = number_id 1; ask = None }

abbrev ask_id : SentRequestId
ask_id = record { id = number_id 2; ask = Some 1 }

abbrev announced₀ : AnnouncedDocument
announced₀ = record { uri = example_uri; document = document₀ }

abbrev announced₁ : AnnouncedDocument
announced₁ = record { uri = example_uri; document = revised_document document₀ inlining_revision }

abbrev exchange : Editor → List SentRequestId → ServerState → List (List ℕ) → List (List ℕ) → List (List ℕ) → List (List ℕ) → List AnnouncedDocument → List AppliedEdit → Exchange
exchange e ids session taken to_server got to_editor announced applied =
    record { editor = e; ids = ids; wire = record { session = session; taken = taken; to_server = to_server; got = got; to_editor = to_editor }; announced = announced; applied = applied }

abbrev begin : List (List ℕ)
begin = content_of (initialize_message Utf16) ∷ []

abbrev got₀ : List (List ℕ)
got₀ = content_of initialized_with ∷ []

abbrev taken₁ : List (List ℕ)
taken₁ = content_of (initialize_message Utf16) ∷ content_of initialized_notification ∷ []

abbrev taken₂ : List (List ℕ)
taken₂ = content_of (initialize_message Utf16) ∷ content_of initialized_notification ∷ content_of example_open_notification ∷ []

abbrev taken₃ : List (List ℕ)
taken₃ = content_of (initialize_message Utf16) ∷ content_of initialized_notification ∷ content_of example_open_notification ∷ content_of example_hover_request ∷ []

abbrev taken₄ : List (List ℕ)
taken₄ = content_of (initialize_message Utf16) ∷ content_of initialized_notification ∷ content_of example_open_notification ∷ content_of example_hover_request ∷ content_of example_code_action_request ∷ []

abbrev x₀ : Exchange
x₀ = exchange editor₀ [] session₀ begin [] got₀ [] [] []

abbrev x₁ : Exchange
x₁ = exchange editor₀ [] session₀ begin (content_of initialized_notification ∷ []) got₀ [] [] []

abbrev x₂ : Exchange
x₂ = exchange editor₀ [] session₀ taken₁ [] got₀ [] [] []

abbrev x₃ : Exchange
x₃ = exchange editor₁ [] session₀ taken₁ (content_of example_open_notification ∷ []) got₀ [] (announced₀ ∷ []) []

abbrev x₄ : Exchange
x₄ = exchange editor₁ [] session₁ taken₂ [] got₀ (content_of shows_none ∷ []) (announced₀ ∷ []) []

abbrev x₅ : Exchange
x₅ = exchange editor₁ (hover_id ∷ []) session₁ taken₂ (content_of example_hover_request ∷ []) got₀ (content_of shows_none ∷ []) (announced₀ ∷ []) []

abbrev x₆ : Exchange
x₆ = exchange editor₁ (hover_id ∷ []) session₁ taken₃ [] got₀ (content_of shows_none ∷ content_of no_hover ∷ []) (announced₀ ∷ []) []

abbrev x₇ : Exchange
x₇ = exchange editor₂ (hover_id ∷ ask_id ∷ []) session₁ taken₃ (content_of example_code_action_request ∷ []) got₀ (content_of shows_none ∷ content_of no_hover ∷ []) (announced₀ ∷ []) []

abbrev x₈ : Exchange
x₈ = exchange editor₂ (hover_id ∷ ask_id ∷ []) session₁ taken₄ [] got₀ (content_of shows_none ∷ content_of no_hover ∷ content_of two_actions ∷ []) (announced₀ ∷ []) []

abbrev x₉ : Exchange
x₉ = exchange editor₂ (hover_id ∷ ask_id ∷ []) session₁ taken₄ [] (content_of initialized_with ∷ content_of shows_none ∷ []) (content_of no_hover ∷ content_of two_actions ∷ []) (announced₀ ∷ []) []

abbrev x₁₀ : Exchange
x₁₀ = exchange editor₂ (hover_id ∷ ask_id ∷ []) session₁ taken₄ [] (content_of initialized_with ∷ content_of shows_none ∷ content_of no_hover ∷ []) (content_of two_actions ∷ []) (announced₀ ∷ []) []

abbrev x₁₁ : Exchange
x₁₁ = exchange editor₃ (hover_id ∷ ask_id ∷ []) session₁ taken₄ [] (content_of initialized_with ∷ content_of shows_none ∷ content_of no_hover ∷ content_of two_actions ∷ []) [] (announced₀ ∷ []) []

abbrev x₁₂ : Exchange
x₁₂ =
    exchange editor₄ (hover_id ∷ ask_id ∷ []) session₁ taken₄ (content_of example_change_notification ∷ []) (content_of initialized_with ∷ content_of shows_none ∷ content_of no_hover ∷ content_of two_actions ∷ []) []
    (announced₀ ∷ announced₁ ∷ []) (record { uri = example_uri; before = example_text; after = inlined_text } ∷ [])

-- ---- the beginning

initialized_so : Answers server.initial_server_state (content_of (initialize_message Utf16)) (content_of initialized_with ∷ []) (state_after_initialize (client_features_for_unit Utf16))
initialized_so = (Some (initialize_message Utf16), reads_so (initialize_message Utf16) initialize_read refl, (refl, sends initialized_with capabilities_read refl))

begins_so : IsInitialExchange Utf16 x₀
begins_so = record {
  client = client_features_for_unit Utf16;
  counts = refl;
  taken = begin;
  got = got₀;
  initialized = record { between = state_after_initialize (client_features_for_unit Utf16); first = got₀; later = []; answers = initialized_so; follows = (refl, refl); all = refl };
  is = refl;
}

turn₁ : ExchangeTakesTurn x₀ editor_sends_unmodeled_message x₁
turn₁ = (None, content_of initialized_notification, (initialized_notification, reads_so initialized_notification initialized_read refl, refl), refl)

turn₂ : ExchangeTakesTurn x₁ server_takes_message x₂
turn₂ = (x₂.wire, (session₀, [], (Some initialized_notification, reads_so initialized_notification initialized_read refl, (refl, refl)), refl), refl)

-- ---- the document is opened

opened_note : notification_by_method (codes "textDocument/didOpen") ((did_open_params example_uri 0 example_text)) ≡ opens example_uri (pos 0) example_text
opened_note = ap (λ t. opens example_uri (pos 0) t) (chars_so example_text refl)

turn₃ : ExchangeTakesTurn x₂ (editor_moves (editor_opens example_uri (pos 0) example_text)) x₃
turn₃ = (
  result_of_opening_given_document document₀ editor₀ example_uri,
  announced₀ ∷ [],
  [],
  content_of example_open_notification ∷ [],
  (refl, refl),
  refl,
  (record { json = example_open_notification; reads = reads_so example_open_notification open_read refl; method = codes "textDocument/didOpen"; params = (did_open_params example_uri 0 example_text); means = refl; reported = opened_note; fits = refl }, tt),
  refl,
)

held_is : document_at session₁.held example_uri ≡ Some (InStep (pos 0) example_text)
held_is = get_put map_of.empty example_uri (InStep (pos 0) example_text) example_uri

module_is : IsWellTypedModule (utf8 example_text)
module_is = is_module (utf8 example_text) worked_names worked_in_bytes

published_so : AreContentsOfReply (publication_reply Utf16 example_uri (document_at session₁.held example_uri)) (content_of shows_none ∷ [])
published_so =
    subst (λ (o : Option Document). AreContentsOfReply (publication_reply Utf16 example_uri o) (content_of shows_none ∷ [])) (sym held_is)
    ([], ([], inl (module_is, refl), refl), sends shows_none none_read refl)

opened_so : Answers session₀ (content_of example_open_notification) (content_of shows_none ∷ []) session₁
opened_so = (
  Some example_open_notification,
  reads_so example_open_notification open_read refl,
  subst (λ (n : NotificationMeaning). let r = apply_notification session₀ n in (session₁ ≡ r.after) × AreContentsOfReply r.reply (content_of shows_none ∷ [])) (sym opened_note) (refl, published_so),
)

turn₄ : ExchangeTakesTurn x₃ server_takes_message x₄
turn₄ = (x₄.wire, (session₁, content_of shows_none ∷ [], opened_so, refl), refl)

-- ---- a hover

turn₅ : ExchangeTakesTurn x₄ editor_sends_unmodeled_message x₅
turn₅ = (Some (number_id 1), content_of example_hover_request, (example_hover_request, reads_so example_hover_request hover_read refl, (refl, tt, refl)), refl)

abbrev hover_place : DocumentPlace
hover_place = record { uri = example_uri; position = position_on_line 0 0 }

no_name : null ≡ value_or_null (option_map (hover_value_with_range Utf16 example_text) (hover_at_offset worked_names (offset_of_place Utf16 example_text hover_place)))
unfolding text_before fitting_prefix lines line_body ends_line starts_with_lf texts.text_of_lines
no_name = refl

hovered_so : Answers session₁ (content_of example_hover_request) (content_of no_hover ∷ []) session₁
hovered_so = (
  Some example_hover_request,
  reads_so example_hover_request hover_read refl,
  subst (λ (o : Option Document). let r = react_to_document_request session₁ (number (unsigned 1)) o (λ version. question_reply Utf16 (number (unsigned 1)) hover_place hover_question) in (session₁ ≡ r.after) × AreContentsOfReply r.reply (content_of no_hover ∷ [])) (sym held_is)
      (refl, (null, inl (worked_names, worked_in_bytes, no_name), sends no_hover no_hover_read refl)),
)

turn₆ : ExchangeTakesTurn x₅ server_takes_message x₆
turn₆ = (x₆.wire, (session₁, content_of no_hover ∷ [], hovered_so, refl), refl)

-- ---- the actions

open_is : editor_document_with_uri editor₁ example_uri ≡ Some document₀
open_is = get_put map_of.empty example_uri document₀ example_uri

asks_so : IsCodeActionRequest (number (unsigned 2)) example_uri (position_on_line 6 7) (content_of example_code_action_request)
asks_so = record {
  json = example_code_action_request;
  reads = reads_so example_code_action_request actions_read refl;
  params = example_code_action_params;
  means = refl;
  range = record { start = position_on_line 6 7; end = position_on_line 6 8 };
  only = Some (codes "refactor.inline" ∷ []);
  calls = refl;
  from = refl;
  allowed = refl;
}

turn₇ : ExchangeTakesTurn x₆ (editor_moves (editor_asks example_uri (inline_all (position_on_line 6 7)))) x₇
turn₇ = (
  result_of_sending_ask editor₁ example_uri (inline_all (position_on_line 6 7)) document₀,
  [],
  hover_id ∷ ask_id ∷ [],
  content_of example_code_action_request ∷ [],
  (document₀, open_is, refl, refl),
  (number_id 2, refl, refl),
  ((number (unsigned 2), asks_so, record { numbered = refl; is = record { sent = the_ask; is = refl; about = refl; same_ask = refl } }, refl), tt),
  refl,
)

place_is : 56 ≡ first_offset_in_range Utf16 example_text (record { start = position_on_line 6 7; end = position_on_line 6 8 })
unfolding text_before fitting_prefix lines line_body ends_line starts_with_lf texts.text_of_lines lib.Utf8.encode
place_is = refl

module _ (alone : ConstantUsesAreFactors) (keeps : InliningKeepsTypingAndRuns) (keeps_all : InliningEverywhereKeepsTypingAndRuns) where
  lists_so : ListsInlinings Utf16 requested_actions example_text (actions_array requested_actions (Some here_edits) (Some everywhere_edits))
  lists_so = record {
    here = Some here_edits;
    everywhere = Some everywhere_edits;
    wanted = refl;
    offers_here = subst (λ n. InlinesInText OneUse Utf16 example_text n here_edits) place_is (inlines_here_in alone keeps);
    offers_everywhere = subst (λ n. InlinesInText Everywhere Utf16 example_text n everywhere_edits) place_is (inlines_everywhere_in alone keeps_all);
    listed = refl;
  }

  offered_so : Answers session₁ (content_of example_code_action_request) (content_of two_actions ∷ []) session₁
  offered_so = (
    Some example_code_action_request,
    reads_so example_code_action_request actions_read refl,
    subst (λ (o : Option Document). let r = react_to_document_request session₁ (number (unsigned 2)) o (λ version. actions_reply Utf16 (record requested_actions { version = version })) in (session₁ ≡ r.after) × AreContentsOfReply r.reply (content_of two_actions ∷ [])) (sym held_is)
        (refl, (two_actions, (actions_array requested_actions (Some here_edits) (Some everywhere_edits), inl lists_so, refl), sends two_actions two_actions_read refl)),
  )

  turn₈ : ExchangeTakesTurn x₇ server_takes_message x₈
  turn₈ = (x₈.wire, (session₁, content_of two_actions ∷ [], offered_so, refl), refl)

-- ---- the editor takes what was sent

abbrev ids₂ : List SentRequestId
ids₂ = hover_id ∷ ask_id ∷ []

reads_none : message_to_editor_given_ids ids₂ (the_ask ∷ []) (content_of shows_none) ≡ Some (publishes example_uri (Some (pos 0)) true)
reads_none = editor_reads (ask_number_of_json_id ids₂) (the_ask ∷ []) shows_none none_read refl ∙ refl

turn₉ : ExchangeTakesTurn x₈ editor_takes_message x₉
turn₉ = ap (λ (m : Option MessageToEditor). record x₉ { editor = editor_after_optional_message editor₂ m }) (sym reads_none)

reads_hover : message_to_editor_given_ids ids₂ (the_ask ∷ []) (content_of no_hover) ≡ None
reads_hover = editor_reads (ask_number_of_json_id ids₂) (the_ask ∷ []) no_hover no_hover_read refl ∙ refl

turn₁₀ : ExchangeTakesTurn x₉ editor_takes_message x₁₀
turn₁₀ = ap (λ (m : Option MessageToEditor). record x₁₀ { editor = editor_after_optional_message editor₂ m }) (sym reads_hover)

reads_actions : message_to_editor_given_ids ids₂ (the_ask ∷ []) (content_of two_actions) ≡ Some (answers 1 the_edits)
unfolding chars
reads_actions = editor_reads (ask_number_of_json_id ids₂) (the_ask ∷ []) two_actions two_actions_read refl ∙ refl

turn₁₁ : ExchangeTakesTurn x₁₀ editor_takes_message x₁₁
turn₁₁ = ap (λ (m : Option MessageToEditor). record x₁₁ { editor = editor_after_optional_message editor₂ m }) (sym reads_actions)

-- ---- the edits are made

edits_make : text_after_edits Utf16 example_text the_edits ≡ Some inlined_text
unfolding text_after_edits text_patched_by_cuts cut_of_range char_count_before_position are_all_disjoint cuts_in_text_order text_after_cuts_from_offset text_before fitting_prefix lines line_body ends_line starts_with_lf texts.text_of_lines
edits_make = refl

changes_make : text_after_changes Utf16 (Some example_text) law.example_changes ≡ Some inlined_text
unfolding changed_text text_patched_by_cuts cut_of_range char_count_before_position are_all_disjoint cuts_in_text_order text_after_cuts_from_offset text_before fitting_prefix lines line_body ends_line starts_with_lf texts.text_of_lines
changes_make = refl

abbrev the_change : Data
the_change = did_change_params example_uri 1 (change_value_of_range_and_text (Some (range_on_line 6 7 8)) (codes "2") ∷ change_value_of_range_and_text (Some (range_on_line 2 2 8)) [] ∷ [])

changed_note : notification_by_method (codes "textDocument/didChange") the_change ≡ changes example_uri (pos 1) law.example_changes
unfolding chars
changed_note = refl

applies_so : AppliesAnswer editor₃ 1 (inlining_revision ∷ []) (record { editor = editor₄; sent = notifications_of_revisions example_uri (inlining_revision ∷ []); applied = record { uri = example_uri; before = example_text; after = inlined_text } ∷ [] }) (announced₁ ∷ [])
applies_so = record {
  edits = the_edits;
  answered = refl;
  requested = the_ask;
  numbered = refl;
  document = document₀;
  is_open = open_is;
  same_text = refl;
  edited = inlined_text;
  makes = edits_make;
  text = inlined_text;
  same_tokens = inl refl;
  new = editor₄;
  revises = (document₀, [], open_is, changes_make, (refl, refl), refl);
  is = refl;
}

turn₁₂ : ExchangeTakesTurn x₁₁ (editor_moves (editor_applies 1 (inlining_revision ∷ []))) x₁₂
turn₁₂ = (
  record { editor = editor₄; sent = notifications_of_revisions example_uri (inlining_revision ∷ []); applied = record { uri = example_uri; before = example_text; after = inlined_text } ∷ [] },
  announced₁ ∷ [],
  ids₂,
  content_of example_change_notification ∷ [],
  applies_so,
  refl,
  (record { json = example_change_notification; reads = reads_so example_change_notification change_read refl; method = codes "textDocument/didChange"; params = the_change; means = refl; reported = changed_note; fits = refl }, tt),
  refl,
)

pub example_exchange_exists : ConstantUsesAreFactors → InliningKeepsTypingAndRuns → InliningEverywhereKeepsTypingAndRuns → ExampleExchangeExists
unfolding content_of
example_exchange_exists alone keeps keeps_all = record {
  first = x₀;
  last = x₁₂;
  begins = begins_so;
  leads = (x₁, turn₁, (x₂, turn₂, (x₃, turn₃, (x₄, turn₄, (x₅, turn₅, (x₆, turn₆, (x₇, turn₇, (x₈, turn₈ alone keeps keeps_all, (x₉, turn₉, (x₁₀, turn₁₀, (x₁₁, turn₁₁, (x₁₂, turn₁₂, refl))))))))))));
  taken = refl;
  waits = refl;
  applied = refl;
}
