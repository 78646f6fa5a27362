-- Proves that the JSON values of the messages in the example exchange read back from their texts.
use Rattle.std.proofs.Common.{◌≡◌, ◌<◌, ◌^◌, ℕ, pos, true, List, [], ◌∷◌, Some, Vec, refl, ap, arith}
use Rattle.std.specs.Prelude.{codes, nat_lt}
use Rattle.std.specs.declared.alloc.Global.{Global}
use Rattle.std.proofs.lemmas.Bool.{ltb-true}
use Rattle.serde_json.specs.Data.{Data, array, null, number, object, string, unsigned, item, no_items, member, no_members, depth}
use Rattle.serde_json.specs.View.{items_of}
use Rattle.ob0_text.specs.declared.position_types.Unit.TheVariants.{Utf16}
use Rattle.ob0_text.specs.declared.edits.Edit.{Edit}
use Rattle.ob0_rpc.specs.AppendedJson.{ReadsBack}
use Rattle.ob0_rpc.specs.JsonShapes.{edit_value, position_value, range_value, result_message}
use Rattle.ob0_rpc.proofs.AppendedJson.{position_read, range_read}
use Rattle.ob0_session_json.specs.JsonShapes.{initialize_result, publication}
use Rattle.ob0_session_answers.specs.Actions.{VersionedActionsRequest, inlining_action_value, actions_array}
use Rattle.ob0_session_server.specs.Answers.{SendsMessage}
use Rattle.ob0_world_editor.specs.InitializeRequest.{text_document_capabilities, client_features_for_unit, initialize_message, workspace_capabilities}
use Rattle.ob0_world_worked.specs.WorkedText.{position_on_line}
use Rattle.ob0_world_editor.specs.Shapes.{change_value_of_range_and_text}
use Rattle.ob0_edits.specs.declared.inline_question.InliningKind.TheVariants.{OneUse, Everywhere}
use Rattle.ob0_world_worked.specs.WorkedAnswers.{range_on_line}
use Rattle.ob0_world_worked.specs.WorkedExchange.{example_code_action_request, example_hover_request, example_inlining_context, example_change_notification, initialized_notification, example_open_notification, example_uri}
use Rattle.ob0_world_worked.proofs.WorkedValues.{vec_of}
use Rattle.ob0_world_worked.proofs.WorkedTexts.{is_ascii_text}
use Rattle.ob0_world_worked.proofs.WorkedEdits.{puts_two, takes_out}
use Rattle.ob0_world_worked.proofs.Json.{array_read, content_of, count_read, empty_read, null_read, object_read, one_text, text_read, truth_read, two_text, zero_text, written_so}

-- ---- the contents

abbrev pub initialized_with : Data
initialized_with = result_message (string (codes "initialize")) (initialize_result (client_features_for_unit Utf16))

abbrev pub shows_none : Data
shows_none = publication example_uri (Some (pos 0)) []

abbrev pub no_hover : Data
no_hover = result_message (number (unsigned 1)) null

abbrev pub requested_actions : VersionedActionsRequest
requested_actions = record {
  id = number (unsigned 2);
  client = client_features_for_unit Utf16;
  uri = example_uri;
  version = pos 0;
  range = record { start = position_on_line 6 7; end = position_on_line 6 8 };
  only = Some (codes "refactor.inline" ∷ []);
}

abbrev pub here_edits : Vec Edit Global
here_edits = vec_of (puts_two ∷ []) (omega (arith))

abbrev pub everywhere_edits : Vec Edit Global
everywhere_edits = vec_of (takes_out ∷ puts_two ∷ []) (omega (arith))

abbrev pub two_actions : Data
two_actions = result_message (number (unsigned 2)) (actions_array requested_actions (Some here_edits) (Some everywhere_edits))

document_read : ReadsBack (object (member (codes "uri") (string example_uri) no_members))
document_read = object_read refl refl (text_read refl, tt)

versioned_read : (n : ℕ) → ReadsBack (number (unsigned n)) → ReadsBack (object (member (codes "uri") (string example_uri) (member (codes "version") (number (unsigned n)) no_members)))
versioned_read n r = object_read refl refl (text_read refl, (r, tt))

zero_read : ReadsBack (number (unsigned 0))
zero_read = count_read 0 refl (ap is_ascii_text zero_text)

one_read : ReadsBack (number (unsigned 1))
one_read = count_read 1 refl (ap is_ascii_text one_text)

two_read : ReadsBack (number (unsigned 2))
two_read = count_read 2 refl (ap is_ascii_text two_text)

place_read : (line character : ℕ) → nat_lt line 1000 ≡ true → nat_lt character 1000 ≡ true → ReadsBack (position_value (position_on_line line character))
place_read line character l c = position_read (position_on_line line character) (below character c) (below line l)
  where
    below : (n : ℕ) → nat_lt n 1000 ≡ true → n < 2 ^ 64
    below n h = let low = ltb-true n 1000 h in omega (arith, low)

part_read : (line from to : ℕ) → nat_lt line 1000 ≡ true → nat_lt from 1000 ≡ true → nat_lt to 1000 ≡ true → ReadsBack (range_value (position_on_line line from) (position_on_line line to))
part_read line from to l f t = range_read (position_on_line line from) (position_on_line line to) (place_read line from l f) (place_read line to l t)

capabilities_taken : ReadsBack (object (member (codes "textDocument") text_document_capabilities (member (codes "workspace") workspace_capabilities no_members)))
capabilities_taken =
    object_read refl refl (
      object_read refl refl (object_read refl refl (empty_read, tt), tt),
      (
        object_read refl refl (object_read refl refl (truth_read, tt), tt),
        tt,
      ),
    )

message_taken : ReadsBack (object (member (codes "id") (string (codes "initialize")) (member (codes "jsonrpc") (string (codes "2.0")) (member (codes "method") (string (codes "initialize")) (member (codes "params")
    (object (member (codes "capabilities") (object (member (codes "textDocument") text_document_capabilities (member (codes "workspace") workspace_capabilities no_members))) no_members)) no_members)))))
message_taken = object_read refl refl (text_read refl, (text_read refl, (text_read refl, (object_read refl refl (capabilities_taken, tt), tt))))

pub initialize_read : ReadsBack (initialize_message Utf16)
initialize_read = message_taken

pub initialized_read : ReadsBack initialized_notification
initialized_read = object_read refl refl (text_read refl, (text_read refl, (empty_read, tt)))

pub open_read : ReadsBack example_open_notification
open_read =
    object_read refl refl (
      text_read refl,
      (
        text_read refl,
        (
          object_read refl refl (object_read refl refl (text_read refl, (text_read refl, (text_read refl, (zero_read, tt)))), tt),
          tt,
        ),
      ),
    )

pub hover_read : ReadsBack example_hover_request
hover_read =
    object_read refl refl (one_read, (text_read refl, (text_read refl, (object_read refl refl (place_read 0 0 refl refl, (document_read, tt)), tt))))

only_read : ReadsBack example_inlining_context
only_read = object_read refl refl (array_read [] tt, (array_read (string (codes "refactor.inline") ∷ []) (text_read refl, tt), tt))

pub actions_read : ReadsBack example_code_action_request
actions_read =
    object_read refl refl (
      two_read,
      (
        text_read refl,
        (
          text_read refl,
          (
            object_read refl refl (only_read, (part_read 6 7 8 refl refl refl, (document_read, tt))),
            tt,
          ),
        ),
      ),
    )

pub change_read : ReadsBack example_change_notification
change_read =
    object_read refl refl (
      text_read refl,
      (
        text_read refl,
        (
          object_read refl refl (
            array_read (change_value_of_range_and_text (Some (range_on_line 6 7 8)) (codes "2") ∷ change_value_of_range_and_text (Some (range_on_line 2 2 8)) [] ∷ []) (object_read refl refl (part_read 6 7 8 refl refl refl, (text_read refl, tt)), (object_read refl refl (part_read 2 2 8 refl refl refl, (text_read refl, tt)), tt)),
            (
              versioned_read 1 one_read,
              tt,
            ),
          ),
          tt,
        ),
      ),
    )

pub capabilities_read : ReadsBack initialized_with
capabilities_read =
    object_read refl refl (
      text_read refl,
      (
        text_read refl,
        (
          object_read refl refl (
            object_read refl refl (
              object_read refl refl (array_read (string (codes "refactor.inline") ∷ []) (text_read refl, tt), tt),
              (
                truth_read,
                (
                  truth_read,
                  (
                    truth_read,
                    (
                      truth_read,
                      (
                        truth_read,
                        (
                          object_read refl refl (two_read, (truth_read, tt)),
                          tt,
                        ),
                      ),
                    ),
                  ),
                ),
              ),
            ),
            tt,
          ),
          tt,
        ),
      ),
    )

pub none_read : ReadsBack shows_none
none_read =
    object_read refl refl (
      text_read refl,
      (
        text_read refl,
        (
          object_read refl refl (array_read [] tt, (text_read refl, (zero_read, tt))),
          tt,
        ),
      ),
    )

pub no_hover_read : ReadsBack no_hover
no_hover_read = object_read refl refl (one_read, (text_read refl, (null_read, tt)))

two_put : ReadsBack (edit_value puts_two)
two_put = object_read refl refl (text_read refl, (part_read 6 7 8 refl refl refl, tt))

taken_out : ReadsBack (edit_value takes_out)
taken_out = object_read refl refl (text_read refl, (part_read 2 2 8 refl refl refl, tt))

action_read : (es : List Data) (title : List ℕ) → ReadsBack (array (items_of es)) → ReadsBack (string title)
    → ReadsBack (object (member (codes "edit") (object (member (codes "documentChanges")
    (array (item (object (member (codes "edits") (array (items_of es)) (member (codes "textDocument") (object (member (codes "uri") (string example_uri) (member (codes "version") (number (unsigned 0)) no_members))) no_members))) no_items)) no_members))
    (member (codes "kind") (string (codes "refactor.inline")) (member (codes "title") (string title) no_members))))
action_read es title r t =
    object_read refl refl (
      object_read refl refl (
        array_read (object (member (codes "edits") (array (items_of es)) (member (codes "textDocument") (object (member (codes "uri") (string example_uri) (member (codes "version") (number (unsigned 0)) no_members))) no_members)) ∷ [])
            (object_read refl refl (r, (versioned_read 0 zero_read, tt)), tt),
        tt,
      ),
      (text_read refl, (t, tt)),
    )

pub two_actions_read : ReadsBack two_actions
two_actions_read =
    object_read refl refl (
      two_read,
      (
        text_read refl,
        (
          array_read (inlining_action_value requested_actions OneUse (puts_two ∷ []) ∷ inlining_action_value requested_actions Everywhere (takes_out ∷ puts_two ∷ []) ∷ []) (
            action_read (edit_value puts_two ∷ []) (codes "Inline here") (array_read (edit_value puts_two ∷ []) (two_put, tt)) (text_read refl),
            (
              action_read (edit_value takes_out ∷ edit_value puts_two ∷ []) (codes "Inline everywhere") (array_read (edit_value takes_out ∷ edit_value puts_two ∷ []) (taken_out, (two_put, tt))) (text_read refl),
              tt,
            ),
          ),
          tt,
        ),
      ),
    )

pub sends : (d : Data) → ReadsBack d → nat_lt (depth d) 128 ≡ true → SendsMessage d (content_of d ∷ [])
sends d r shallow = (content_of d, refl, written_so d r shallow)
