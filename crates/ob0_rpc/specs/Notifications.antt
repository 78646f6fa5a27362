-- Defines the meaning of notifications, by method and params (LSP 3.17, text document
-- synchronization).
-- Rule: docs/PROTOCOL.md, Documents, JSON shapes 4; LSP 3.17, text document synchronization.
use Rattle.std.specs.Prelude.{ℕ, ℤ, List, [], ◌∷◌, Option, Some, None, if◌then◌else◌, option_map, option_and_then, codes}
use Rattle.std.specs.Str.{bytes_eq, chars}
use Rattle.serde_json.specs.Data.{Data, Items, no_items, item}
use Rattle.serde_json.specs.Find.{get, as_array}
use Rattle.ob0_text.specs.OpenDocuments.{TextChange}
use Rattle.ob0_text.specs.declared.position_types.Range.{Range}
use Rattle.ob0_rpc.specs.Members.{is_absent_or_null, text_member, document_uri, document_version, document_text, range_from_json}

-- The meaning of a notification that the client sends.
pub data NotificationMeaning : Type 0 where
  exits : NotificationMeaning
  -- An open: the uri, the version and the characters of the text.
  opens : List ℕ → ℤ → List ℕ → NotificationMeaning
  -- A change: the uri, the version and the changes in order.
  changes : List ℕ → ℤ → List TextChange → NotificationMeaning
  closes : List ℕ → NotificationMeaning
  -- An open, a change or a close whose params can't be read. The argument is the uri, or None if
  -- the uri can't be read either.
  unreadable : Option (List ℕ) → NotificationMeaning
  other : NotificationMeaning

-- Reads the member `range` of a change, which is optional. Returns Some None if the member is
-- absent or null: the change then replaces the whole text. Returns None if the range can't be read.
abbrev pub range_of_change : Option Data → Option (Option Range)
range_of_change found =
    if is_absent_or_null found then Some None else option_map Some (option_and_then range_from_json found)

-- Returns the change with this range and this text, or None if either is None.
abbrev pub text_change_from_parts : Option (Option Range) → Option (List ℕ) → Option TextChange
text_change_from_parts (Some range) (Some text) = Some (record { range = range; text = chars text })
text_change_from_parts (Some range) None = None
text_change_from_parts None text = None

-- Reads an item of the list `contentChanges` as a change of a range or of the whole text. Returns
-- None if the item can't be read.
abbrev pub content_change_from_json : Data → Option TextChange
content_change_from_json entry =
    text_change_from_parts (range_of_change (get (codes "range") entry)) (text_member (codes "text") entry)

-- Returns the changes that the items of the list `contentChanges` describe, in order. Returns None
-- if an item can't be read.
abbrev pub content_changes_of_items : Items → Option (List TextChange)
content_changes_of_items no_items = Some []
content_changes_of_items (item entry later) =
    option_and_then (λ change. option_map (λ changes. change ∷ changes) (content_changes_of_items later))
    (content_change_from_json entry)

-- Returns the changes in the list `contentChanges` of params, in order. Returns None if the list or
-- one of its items can't be read.
abbrev pub content_changes_of_params : Data → Option (List TextChange)
content_changes_of_params params =
    option_and_then content_changes_of_items (option_and_then as_array (get (codes "contentChanges") params))

-- Returns the meaning of `textDocument/didOpen` with this uri, version and text. If one of the
-- three is None, returns `unreadable` with the uri (or with None if the uri is None).
abbrev pub open_or_unreadable : Option (List ℕ) → Option ℤ → Option (List ℕ) → NotificationMeaning
open_or_unreadable None version text = unreadable None
open_or_unreadable (Some uri) (Some version) (Some text) = opens uri version text
open_or_unreadable (Some uri) (Some version) None = unreadable (Some uri)
open_or_unreadable (Some uri) None text = unreadable (Some uri)

-- Returns the meaning of `textDocument/didChange` with this uri, version and changes. If one of the
-- three is None, returns `unreadable` with the uri (or with None if the uri is None).
abbrev pub change_or_unreadable : Option (List ℕ) → Option ℤ → Option (List TextChange) → NotificationMeaning
change_or_unreadable None version all = unreadable None
change_or_unreadable (Some uri) (Some version) (Some all) = changes uri version all
change_or_unreadable (Some uri) (Some version) None = unreadable (Some uri)
change_or_unreadable (Some uri) None all = unreadable (Some uri)

-- Returns the meaning of `textDocument/didClose` with this uri, or `unreadable None` for None.
abbrev pub close_or_unreadable : Option (List ℕ) → NotificationMeaning
close_or_unreadable None = unreadable None
close_or_unreadable (Some uri) = closes uri

-- Returns the meaning of the notification with this method and these params. The meaning is `other`
-- if the server ignores the method, and `unreadable` if the params can't be read.
abbrev pub notification_by_method : List ℕ → Data → NotificationMeaning
notification_by_method method params =
    if bytes_eq method (codes "exit") then exits
    else if bytes_eq method (codes "textDocument/didOpen")
    then open_or_unreadable (document_uri params) (document_version params) (document_text params)
    else if bytes_eq method (codes "textDocument/didChange")
    then change_or_unreadable (document_uri params) (document_version params) (content_changes_of_params params)
    else if bytes_eq method (codes "textDocument/didClose") then close_or_unreadable (document_uri params)
    else other
