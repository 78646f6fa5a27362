use Rattle.std.proofs.Common.{◌∙◌, List, ap, map, subst, sym}
use Rattle.std.proofs.lemmas.Result.{IfOk-weaker}
use Rattle.ob0_rpc.specs.WrittenMessages.{Writes}
use Rattle.ob0_session_json.specs.JsonViews.{diagnostic_view}
use Rattle.ob0_session_json.specs.JsonShapes.{Diagnostic, publication as publication_message}
use Rattle.ob0_session_json.proofs.Plain.{publication_can_be_sent}
use Rattle.ob0_session_json.proofs.publication.publication.Goals as goal

pub returns : goal.returns
returns c = IfOk-weaker c.notification_text.result _ _ (λ bytes sent ds are.
    let uri = c.args.uri.now in
    let version = c.args.version in
    let shown = map diagnostic_view c.as_slice.result.now in
    let same = are ∙ ap (map diagnostic_view) (sym c.as_slice.ensures.value) in
    subst (λ (es : List Diagnostic). Writes (publication_message uri version es) bytes.items) (sym same) (sent (publication_can_be_sent uri version shown))) c.notification_text.ensures
