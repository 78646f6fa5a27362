use Rattle.std.proofs.Common.{◌∙◌, map, ap, subst, sym}
use Rattle.std.proofs.lemmas.Result.{IfOk-weaker}
use mathlib.Core.List.{map-map}
use Rattle.serde_json.specs.Data.{Data, array}
use Rattle.serde_json.specs.View.{items_of}
use Rattle.ob0_text.specs.Units.{width_of}
use Rattle.ob0_edits_tokens.specs.Ranges.{range_of}
use Rattle.ob0_rpc.specs.MessageViews.{json_of_id}
use Rattle.ob0_rpc.specs.JsonShapes.{result_message}
use Rattle.ob0_rpc.specs.WrittenMessages.{FitsInMessage, Writes}
use Rattle.ob0_session_json.specs.JsonShapes.{location_value_of_range}
use Rattle.ob0_session_answers.proofs.Naming.{locations_can_be_sent}
use Rattle.ob0_session_answers.proofs.questions.references_answer.Goals as goal

pub returns : goal.returns
returns g c =
    let unit = g.T.TextStore.unit_of c.args.store.now in
    let text = g.T.TextStore.content c.args.store.now in
    let shown = location_value_of_range c.args.uri.now in
    let placed = range_of (width_of unit) text in
    let found = c.as_slice-ranges.ensures.value ∙ c.in_ok-ranges.ensures in
    let same = ap (λ rs. array (items_of (map shown rs))) found ∙ ap (λ ds. array (items_of ds)) (map-map shown placed c.args.spans.now) in
    let can = locations_can_be_sent unit c.args.uri.now text c.args.spans.now in
    IfOk-weaker c.success_response_text.result _ _ (λ bytes sent. subst (λ (d : Data). Writes (result_message (json_of_id c.args.id.now) d) bytes.items) same (sent (subst FitsInMessage (sym same) can))) c.success_response_text.ensures
