use Rattle.std.proofs.Common.{◌≡◌, ◌∙◌, ap, sym, subst}
use Rattle.std.proofs.lemmas.Result.{IfOk-weaker}
use Rattle.serde_json.specs.View.{view}
use Rattle.ob0_session_server.specs.Answers.{ServerState, Reaction, react_to_request}
use Rattle.ob0_rpc.specs.MessageViews.{json_of_id}
use Rattle.ob0_session_server.specs.ReplyViews.{MatchesReaction}
use Rattle.ob0_session_server.specs.declared.session.Phase.{Phase}
use Rattle.ob0_session_server.specs.declared.session.Phase.TheVariants.{ShutDown}
use Rattle.ob0_session_server.proofs.session.Session.reply_to_request.Goals as goal

pub returns-in-ShutDown : goal.returns-in-ShutDown
returns-in-ShutDown g c =
    let s : ServerState = c.args.self.now in
    let phase : s.phase ≡ ShutDown = sym (ap (λ t. t.phase) c.self.view_is) ∙ c.in-ShutDown.is in
    let reaction = ap (λ (p : Phase). react_to_request p s (json_of_id c.args.id.now) c.args.method.now (view c.args.params.now)) phase in
    IfOk-weaker c.error_response-in-ShutDown.result _ _ (λ sent h.
    subst (λ (r : Reaction). MatchesReaction r sent s) (sym reaction) h) c.error_response-in-ShutDown.ensures
