-- States that an example exchange exists, in which an editor inlines a constant everywhere.
-- Rule: LSP 3.17; a worked example.
use Rattle.std.specs.Prelude.{◌≡◌, ℕ, pos, List, [], ◌∷◌, ◌++◌, map, Some, codes}
use Rattle.serde_json.specs.Data.{Data, array, object, string, item, no_items, member, no_members}
use Rattle.serde_json.specs.Written.{compact_text}
use Rattle.ob0_text.specs.declared.position_types.Unit.TheVariants.{Utf16}
use Rattle.ob0_text.specs.OpenDocuments.{TextChange}
use Rattle.ob0_rpc.specs.JsonShapes.{notification_message, position_value, range_value}
use Rattle.ob0_world_editor.specs.InitializeRequest.{initialize_message}
use Rattle.ob0_world_editor.specs.Shapes.{change_value_of_range_and_text, did_change_params, document_id_value, did_open_params, request_message}
use Rattle.ob0_world_rules.specs.Asks.{inline_all}
use Rattle.ob0_world_rules.specs.EditorMoves.{Revision, editor_applies, editor_asks, editor_opens}
use Rattle.ob0_world_rules.specs.EveryEditor.{ExchangeTurn, editor_moves, editor_sends_unmodeled_message, editor_takes_message, server_takes_message}
use Rattle.ob0_world.specs.Exchanges.{IsInitialExchange, Exchange, IsExchangeCourse}
use Rattle.ob0_world_worked.specs.WorkedText.{position_on_line, with_line_feed, example_text}
use Rattle.ob0_world_worked.specs.WorkedAnswers.{range_on_line}

abbrev pub example_uri : List ℕ
example_uri = codes "file:///m.mod"

-- the text that `example_text` becomes if the constant `n` is inlined everywhere
abbrev pub inlined_text : List ℕ
inlined_text =
    with_line_feed (codes "MODULE M;")
    ++ (with_line_feed (codes "CONST")
    ++ (with_line_feed (codes "  ")
    ++ (with_line_feed (codes "VAR")
    ++ (with_line_feed (codes "  x: INTEGER;")
    ++ (with_line_feed (codes "BEGIN")
    ++ (with_line_feed (codes "  x := 2;")
    ++ (with_line_feed (codes "  Write(x)")
    ++ with_line_feed (codes "END M."))))))))

-- The edits of the inlining, as changes of ranges. The change that is later in the text is made
-- first, so that it doesn't move the range of the other change.
abbrev pub example_changes : List TextChange
example_changes =
    record { range = Some (range_on_line 6 7 8); text = codes "2" }
    ∷ record { range = Some (range_on_line 2 2 8); text = [] }
    ∷ []

abbrev pub inlining_revision : Revision
inlining_revision = record { version = pos 1; text = inlined_text; sent_changes = example_changes }

abbrev pub example_turns : List ExchangeTurn
example_turns =
    -- the editor sends the notification `initialized`
    editor_sends_unmodeled_message
    ∷ server_takes_message
    -- the editor opens the document with version 0
    ∷ editor_moves (editor_opens example_uri (pos 0) example_text)
    ∷ server_takes_message
    -- the editor sends a hover request
    ∷ editor_sends_unmodeled_message
    ∷ server_takes_message
    -- the editor requests the code actions of one kind in a range
    ∷ editor_moves (editor_asks example_uri (inline_all (position_on_line 6 7)))
    ∷ server_takes_message
    -- the editor takes the diagnostics, and the answers to both requests
    ∷ editor_takes_message
    ∷ editor_takes_message
    ∷ editor_takes_message
    -- the editor applies the answer as two changes in one notification
    ∷ editor_moves (editor_applies 1 (inlining_revision ∷ []))
    ∷ []

-- ---- the editor's messages

abbrev pub initialized_notification : Data
initialized_notification = notification_message (codes "initialized") (object no_members)

abbrev pub example_open_notification : Data
example_open_notification = notification_message (codes "textDocument/didOpen") (did_open_params example_uri 0 example_text)

abbrev pub example_hover_params : Data
example_hover_params =
    object (member (codes "position") (position_value (position_on_line 0 0))
    (member (codes "textDocument") (document_id_value example_uri) no_members))

abbrev pub example_hover_request : Data
example_hover_request = request_message 1 (codes "textDocument/hover") example_hover_params

abbrev pub example_inlining_context : Data
example_inlining_context =
    object (member (codes "diagnostics") (array no_items)
    (member (codes "only") (array (item (string (codes "refactor.inline")) no_items)) no_members))

abbrev pub example_code_action_params : Data
example_code_action_params =
    object (member (codes "context") example_inlining_context (member (codes "range") (range_value (position_on_line 6 7) (position_on_line 6 8))
    (member (codes "textDocument") (document_id_value example_uri) no_members)))

abbrev pub example_code_action_request : Data
example_code_action_request = request_message 2 (codes "textDocument/codeAction") example_code_action_params

abbrev pub example_change_notification : Data
example_change_notification =
    notification_message (codes "textDocument/didChange") (did_change_params example_uri 1
    (change_value_of_range_and_text (Some (range_on_line 6 7 8)) (codes "2")
    ∷ change_value_of_range_and_text (Some (range_on_line 2 2 8)) []
    ∷ []))

-- ---- the law

-- States that `example_turns` lead from the initial exchange `first` to the exchange `last`. In
-- `last`, the session has taken five messages, the first of which is `initialize`. The notification
-- of the change still waits for the session. The editor has applied one answer, which replaced
-- `example_text` by `inlined_text`.
pub record ExampleExchangeExists : Type 0 where
  pub first : Exchange
  pub last : Exchange
  pub begins : IsInitialExchange Utf16 first
  pub leads : IsExchangeCourse first example_turns last
  pub taken : last.wire.taken
      ≡ map compact_text (initialize_message Utf16 ∷ initialized_notification ∷ example_open_notification ∷ example_hover_request ∷ example_code_action_request ∷ [])
  pub waits : last.wire.to_server ≡ compact_text example_change_notification ∷ []
  pub applied : last.applied ≡ record { uri = example_uri; before = example_text; after = inlined_text } ∷ []
