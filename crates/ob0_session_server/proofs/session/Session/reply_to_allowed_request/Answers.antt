use Rattle.std.proofs.lemmas.Result.{IfOk-weaker}
use Rattle.serde_json.specs.View.{view}
use Rattle.ob0_rpc.specs.Requests.{request_by_method}
use Rattle.ob0_rpc.specs.MessageViews.{json_of_id}
use Rattle.ob0_session_server.proofs.Answering.{request_refused}
use Rattle.ob0_session_server.proofs.session.Session.reply_to_allowed_request.Goals as goal

pub returns-in-Err : goal.returns-in-Err
returns-in-Err g c =
    IfOk-weaker c.fault_response.result _ _ (λ sent h.
    request_refused c.args.self.now (json_of_id c.args.id.now) (request_by_method c.args.method.now (view c.args.params.now)) c.in-Err.fault sent c.in-Err.ensures h.0 h.1) c.fault_response.ensures
