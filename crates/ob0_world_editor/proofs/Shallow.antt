-- Proves that the messages that an editor writes aren't nested deeply, and that the server reads the intended messages
-- from them.
use Rattle.std.proofs.Common.{◌≡◌, ◌≤◌, ◌<◌, ◌^◌, ℕ, pos, List, [], ◌∷◌, true, cond, Option, Some, None, map, arith, refl, ap}
use Rattle.std.specs.Prelude.{nat_lt, string_bytes, Ok, codes}
use Rattle.std.specs.Str.{chars}
use Rattle.serde_json.specs.Data.{Data, depth, items_depth}
use Rattle.serde_json.specs.View.{items_of}
use Rattle.ob0_text.specs.declared.edits.Change.{Change}
use Rattle.ob0_text.specs.declared.edits.Indent.TheVariants.{Tab, Spaces}
use Rattle.ob0_text.specs.declared.position_types.Range.{Range}
use Rattle.ob0_text.specs.OpenDocuments.{Opened, Changed, Closed, TextChange, text_change_of}
use Rattle.ob0_rpc.specs.Requests.{request_by_method}
use Rattle.ob0_rpc.specs.Messages.{IsJsonOfContent}
use Rattle.ob0_rpc.specs.Notifications.{content_change_from_json, content_changes_of_items, change_or_unreadable, open_or_unreadable}
use Rattle.ob0_rpc.specs.JsonShapes.{notification_message}
use Rattle.ob0_world_rules.specs.TextEdits.{whole_text_change}
use Rattle.ob0_world_rules.specs.Asks.{Ask, rename, inline_here, inline_all, format}
use Rattle.ob0_world_editor.specs.Shapes.{request_message, change_value_of_range_and_text, change_value, did_change_params, did_open_params, did_close_params, params_of_ask, method_of_ask}
use Rattle.ob0_world_editor.specs.MessagesToServer.{IsNotificationOfEvent, IsRequestWithNumber, client_request_for_ask}

-- ---- depths

shallow_change : (range : Option Range) (new : List ℕ) → depth (change_value_of_range_and_text range new) ≤ 3
shallow_change (Some range) new = omega arith
shallow_change None new = omega arith

shallow_changes : (cs : List Change) → items_depth (items_of (map change_value cs)) ≤ 3
shallow_changes [] = omega arith
shallow_changes (c ∷ cs) = omega (arith, shallow_change c.range (string_bytes c.text), shallow_changes cs)

pub shallow_change_params : (uri : List ℕ) (version : ℕ) (cs : List Change) → depth (did_change_params uri version (map change_value cs)) ≤ 126
shallow_change_params uri version cs = omega (arith, shallow_changes cs)

pub shallow_request : (k : ℕ) (uri : List ℕ) (ask : Ask) → depth (request_message k (method_of_ask ask) (params_of_ask uri ask)) ≤ 127
shallow_request k uri (rename position name) = omega arith
shallow_request k uri (inline_here position) = omega arith
shallow_request k uri (inline_all position) = omega arith
shallow_request k uri (format Tab) = omega arith
shallow_request k uri (format (Spaces n)) = omega arith

-- ---- changes are read back

read_back : (range : Option Range) (new : List ℕ) → content_change_from_json (change_value_of_range_and_text range new) ≡ Some (record { range = range; text = chars new })
read_back (Some range) new = refl
read_back None new = refl

changes_read_back : (cs : List Change) → content_changes_of_items (items_of (map change_value cs)) ≡ Some (map text_change_of cs)
changes_read_back [] = refl
changes_read_back (c ∷ cs) = rw (read_back c.range (string_bytes c.text), changes_read_back cs) refl

-- A version below 2^63 is read back.
version_read : (n : ℕ) → n < 2 ^ 63 → cond (nat_lt n (2 ^ 63)) (Some (pos n)) None ≡ Some (pos n)
version_read n h = rw (lt_true n (2 ^ 63) h) refl
  where
    lt_true : (a b : ℕ) → a < b → nat_lt a b ≡ true
    lt_true a b h = search (Rattle.std.proofs.Common.rules)

-- ---- notes

pub opening_reported : (content uri : List ℕ) (version : ℕ) (text : List ℕ) → version < 2 ^ 63 → IsJsonOfContent content (Some (notification_message (codes "textDocument/didOpen") (did_open_params uri version text)))
    → IsNotificationOfEvent (Opened uri (pos version) (chars text)) content
opening_reported content uri version text h reads =
    record {
      json = notification_message (codes "textDocument/didOpen") (did_open_params uri version text);
      reads = reads;
      method = codes "textDocument/didOpen";
      params = did_open_params uri version text;
      means = refl;
      reported = ap (λ v. open_or_unreadable (Some uri) v (Some (chars text))) (version_read version h);
      fits = version_read version h;
    }

changed_so : (content uri : List ℕ) (version : ℕ) (values : List Data) (all : List TextChange) → version < 2 ^ 63 → content_changes_of_items (items_of values) ≡ Some all
    → IsJsonOfContent content (Some (notification_message (codes "textDocument/didChange") (did_change_params uri version values))) → IsNotificationOfEvent (Changed uri (pos version) all) content
changed_so content uri version values all h are reads =
    record {
      json = notification_message (codes "textDocument/didChange") (did_change_params uri version values);
      reads = reads;
      method = codes "textDocument/didChange";
      params = did_change_params uri version values;
      means = refl;
      reported = (λ i. change_or_unreadable (Some uri) (version_read version h i) (are i));
      fits = version_read version h;
    }

pub changing_reported : (content uri : List ℕ) (version : ℕ) (cs : List Change) → version < 2 ^ 63 → IsJsonOfContent content (Some (notification_message (codes "textDocument/didChange") (did_change_params uri version (map change_value cs))))
    → IsNotificationOfEvent (Changed uri (pos version) (map text_change_of cs)) content
changing_reported content uri version cs h reads = changed_so content uri version (map change_value cs) (map text_change_of cs) h (changes_read_back cs) reads

pub rewriting_reported : (content uri : List ℕ) (version : ℕ) (text : List ℕ) → version < 2 ^ 63 → IsJsonOfContent content (Some (notification_message (codes "textDocument/didChange") (did_change_params uri version (change_value_of_range_and_text None text ∷ []))))
    → IsNotificationOfEvent (Changed uri (pos version) (whole_text_change (chars text) ∷ [])) content
rewriting_reported content uri version text h reads = changed_so content uri version (change_value_of_range_and_text None text ∷ []) (whole_text_change (chars text) ∷ []) h refl reads

pub closing_reported : (content uri : List ℕ) → IsJsonOfContent content (Some (notification_message (codes "textDocument/didClose") (did_close_params uri))) → IsNotificationOfEvent (Closed uri) content
closing_reported content uri reads =
    record {
      json = notification_message (codes "textDocument/didClose") (did_close_params uri);
      reads = reads;
      method = codes "textDocument/didClose";
      params = did_close_params uri;
      means = refl;
      reported = refl;
      fits = tt;
    }

-- ---- asks

pub ask_requested : (content : List ℕ) (k : ℕ) (uri : List ℕ) (ask : Ask) → IsJsonOfContent content (Some (request_message k (method_of_ask ask) (params_of_ask uri ask))) → IsRequestWithNumber k uri ask content
ask_requested content k uri ask reads =
    record { json = request_message k (method_of_ask ask) (params_of_ask uri ask); reads = reads; params = params_of_ask uri ask; means = refl; calls = called ask }
  where
    called : (ask : Ask) → request_by_method (method_of_ask ask) (params_of_ask uri ask) ≡ Ok (client_request_for_ask uri ask)
    called (rename position name) = refl
    called (inline_here position) = refl
    called (inline_all position) = refl
    called (format Tab) = refl
    called (format (Spaces n)) = refl
