use Rattle.std.proofs.Common.{◌≤◌, Some, ap, subst, sym}
use Rattle.std.specs.Prelude.{codes, string_bytes}
use Rattle.serde_json.specs.Data.{Data, depth, member, no_members, object}
use Rattle.ob0_rpc.specs.Messages.{IsJsonOfContent}
use Rattle.ob0_world_rules.specs.Asks.{rename, inline_here, inline_all, format}
use Rattle.ob0_world_editor.specs.Shapes.{document_id_value, request_message}
use Rattle.ob0_world_editor.proofs.Hearing.{if_ok}
use Rattle.ob0_world_editor.proofs.Shallow.{ask_requested, shallow_request}
use Rattle.ob0_world_editor.proofs.message_writer.request_for_edits.Goals as goal

pub returns-in-Rename : goal.returns-in-Rename
returns-in-Rename c =
    let this_ask = rename c.in-Rename.position (string_bytes c.in-Rename.name) in
    let sent = rw c.as_str-new_name.ensures.value at c.request_content.ensures in
    rw c.in-Rename.is
    (if_ok c.request_content.result (λ content writes. ask_requested content.items c.args.number c.args.uri.now this_ask (writes (shallow_request c.args.number c.args.uri.now this_ask)).reads) sent)

pub returns-in-InlineHere : goal.returns-in-InlineHere
returns-in-InlineHere c =
    let this_ask = inline_here c.in-InlineHere.position in
    rw c.in-InlineHere.is
    (if_ok c.request_content-in-InlineHere.result (λ content writes. ask_requested content.items c.args.number c.args.uri.now this_ask (writes (shallow_request c.args.number c.args.uri.now this_ask)).reads)
    c.request_content-in-InlineHere.ensures)

pub returns-in-InlineAll : goal.returns-in-InlineAll
returns-in-InlineAll c =
    let this_ask = inline_all c.in-InlineAll.position in
    rw c.in-InlineAll.is
    (if_ok c.request_content-in-InlineAll.result (λ content writes. ask_requested content.items c.args.number c.args.uri.now this_ask (writes (shallow_request c.args.number c.args.uri.now this_ask)).reads)
    c.request_content-in-InlineAll.ensures)

pub returns-in-Format : goal.returns-in-Format
returns-in-Format c =
    let this_ask = format c.in-Format.indent in
    let message : Data → Data = λ d. request_message c.args.number (codes "textDocument/formatting") (object (member (codes "options") d (member (codes "textDocument") (document_id_value c.args.uri.now) no_members))) in
    let is = ap message c.for_indent-options.ensures in
    rw c.in-Format.is
    (if_ok c.request_content-in-Format.result (λ content writes.
    ask_requested content.items c.args.number c.args.uri.now this_ask
    (subst (λ d. IsJsonOfContent content.items (Some d)) is (writes (subst (λ d. depth d ≤ 127) (sym is) (shallow_request c.args.number c.args.uri.now this_ask))).reads))
    c.request_content-in-Format.ensures)
