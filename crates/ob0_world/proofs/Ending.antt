-- Proves that a session that takes `shutdown` and then `exit` answers `shutdown`, and then ends
-- with status 0.
use Rattle.std.proofs.Common.{◌≡◌, ◌∙◌, ℕ, List, [], ◌∷◌, ◌++◌, append-nil, sym, ap, subst}
use Rattle.std.specs.Prelude.{codes}
use Rattle.serde_json.specs.Data.{Data, null}
use Rattle.ob0_rpc.specs.Messages.{meaning_of_message}
use Rattle.ob0_rpc.specs.JsonShapes.{result_message}
use Rattle.ob0_session_server.specs.declared.session.Phase.TheVariants.{Running, ShutDown, Ended}
use Rattle.ob0_session_server.specs.Answers.{ServerState, AreContentsOfReply, SendsMessage, Reaction, react_to_message, react_to_request, react_to_notification, react_to_allowed_request, exit_status_in_phase, react_to_exit, Answers, AnswersInPhase, AnswersInActivePhase, IsConversation}
use Rattle.ob0_world.specs.Exchanges.{IsShutdownRequest, IsExitNotification, EndsAfterShutdown}
use Rattle.ob0_world.proofs.Answering.{going_on, reacts_so}

-- states that the session has answered `shutdown`, is shut down and has the same documents
record IsShut (id : Data) (before : ServerState) (sent : List (List ℕ)) (after : ServerState) : Type 0 where
  answer : SendsMessage (result_message id null) sent
  phase : after.phase ≡ ShutDown
  held : after.held ≡ before.held

shuts : (id : Data) (before after : ServerState) (content : List ℕ) (sent : List (List ℕ)) → before.phase ≡ Running → IsShutdownRequest id content → Answers before content sent after → IsShut id before sent after
shuts id before after content sent running is h =
    let answer = reacts_so before after content sent is.json (going_on before after content sent running h) is.reads in
    let so : react_to_message before (meaning_of_message is.json) ≡ react_to_allowed_request before id (codes "shutdown") is.params =
    ap (react_to_message before) is.means ∙ ap (λ phase. react_to_request phase before id (codes "shutdown") is.params) running in
    let now : after ≡ record before { phase = ShutDown } = answer.0 ∙ ap (λ (x : Reaction). x.after) so in
    record {
      answer = subst (λ (x : Reaction). AreContentsOfReply x.reply sent) so answer.1;
      phase = ap (λ (s : ServerState). s.phase) now;
      held = ap (λ (s : ServerState). s.held) now;
    }

exits : (before after : ServerState) (content : List ℕ) (sent : List (List ℕ)) → before.phase ≡ ShutDown → IsExitNotification content → Answers before content sent after → (sent ≡ []) × (after ≡ record before { phase = Ended 0 })
exits before after content sent shut is h =
    let going : AnswersInActivePhase before content sent after = subst (λ phase. AnswersInPhase phase before content sent after) shut h in
    let answer = reacts_so before after content sent is.json going is.reads in
    let so : react_to_message before (meaning_of_message is.json) ≡ react_to_exit before =
    ap (react_to_message before) is.means ∙ ap (λ phase. react_to_notification phase before (codes "exit") is.params) shut in
    let now : after ≡ (react_to_exit before).after = answer.0 ∙ ap (λ (x : Reaction). x.after) so in
    (subst (λ (x : Reaction). AreContentsOfReply x.reply sent) so answer.1, now ∙ ap (λ status. record before { phase = Ended status }) (ap exit_status_in_phase shut))

pub ends_well : (id : Data) (before : ServerState) (shutdown exit : List ℕ) (sent : List (List ℕ)) (end : ServerState) → before.phase ≡ Running → IsShutdownRequest id shutdown → IsExitNotification exit → IsConversation before (shutdown ∷ exit ∷ []) sent end → EndsAfterShutdown id before sent end
ends_well id before shutdown exit sent end running is_shutdown is_exit h =
    let first : IsShut id before h.first h.between = shuts id before h.between shutdown h.first running is_shutdown h.answers in
    let then_exits = exits h.between h.follows.between exit h.follows.first first.phase is_exit h.follows.answers in
    let now : end ≡ record h.between { phase = Ended 0 } = h.follows.follows.1 ∙ then_exits.1 in
    let none : h.later ≡ [] = h.follows.all ∙ (λ i. then_exits.0 i ++ h.follows.follows.0 i) in
    record {
      answer = subst (SendsMessage (result_message id null)) (sym (h.all ∙ ap (λ later. h.first ++ later) none ∙ append-nil h.first)) first.answer;
      ended = ap (λ (s : ServerState). s.phase) now;
      held = ap (λ (s : ServerState). s.held) now ∙ first.held;
    }
