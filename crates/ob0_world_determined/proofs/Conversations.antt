-- Proves that the contents that a session takes determine its replies and its state, if each reply
-- (`Reply`) determines the contents that are sent.
use Rattle.std.proofs.Common.{◌≡◌, ◌∙◌, ℕ, Option, Some, None, List, [], ◌∷◌, ◌++◌, refl, sym, subst}
use Rattle.serde_json.specs.Data.{Data}
use Rattle.ob0_rpc.specs.Messages.{IsJsonOfContent, meaning_of_content}
use Rattle.ob0_session_server.specs.Answers.{ServerState, AreContentsOfReply, react_to_message, AnswersInPhase, AnswersInActivePhase, IsConversation}
use Rattle.ob0_session_server.specs.declared.session.Phase.{Phase}
use Rattle.ob0_session_server.specs.declared.session.Phase.TheVariants.{Starting, Running, ShutDown, Ended, Failed}
use Rattle.ob0_world_determined.specs.DeterminedOutput.{AnswerIsDetermined, ConversationIsDetermined, ReplyContentsAreDetermined}

abbrev pub Contents : Type 0
Contents = List (List ℕ)

-- ---- one content

one_json : (content : List ℕ) (a b : Option Data) → IsJsonOfContent content a → IsJsonOfContent content b → a ≡ b
one_json content (Some x) (Some y) p q = sym p.1 ∙ q.1
one_json content (Some x) None p q = sym p.1 ∙ q p.0
one_json content None (Some y) p q = sym (p q.0) ∙ q.1
one_json content None None p q = refl

module _ (says : ReplyContentsAreDetermined) where
  going_on_one : (before : ServerState) (content : List ℕ) (sent more : Contents) (after other : ServerState) → AnswersInActivePhase before content sent after → AnswersInActivePhase before content more other → (sent ≡ more) × (after ≡ other)
  going_on_one before content sent more after other (json, reads, h) (another, reads_too, k) =
      let same : json ≡ another = one_json content json another reads reads_too in
      let there = subst (λ j. (other ≡ (react_to_message before (meaning_of_content j)).after) × AreContentsOfReply (react_to_message before (meaning_of_content j)).reply more) (sym same) k in
      (says (react_to_message before (meaning_of_content json)).reply sent more h.1 there.1, h.0 ∙ sym there.0)

  in_phase_one : (phase : Phase) (before : ServerState) (content : List ℕ) (sent more : Contents) (after other : ServerState) → AnswersInPhase phase before content sent after → AnswersInPhase phase before content more other → (sent ≡ more) × (after ≡ other)
  in_phase_one (Ended status) before content sent more after other h k = (h.0 ∙ sym k.0, h.1 ∙ sym k.1)
  in_phase_one Failed before content sent more after other h k = absurd h
  in_phase_one Starting before content sent more after other h k = going_on_one before content sent more after other h k
  in_phase_one Running before content sent more after other h k = going_on_one before content sent more after other h k
  in_phase_one ShutDown before content sent more after other h k = going_on_one before content sent more after other h k

  pub answer_is_determined : AnswerIsDetermined
  answer_is_determined before content sent more after other h k = in_phase_one before.phase before content sent more after other h k

-- ---- several contents

pub conversation_is_determined : AnswerIsDetermined → ConversationIsDetermined
conversation_is_determined one before [] sent more after other h k = (h.0 ∙ sym k.0, h.1 ∙ sym k.1)
conversation_is_determined one before (content ∷ contents) sent more after other h k =
    let here = one before content h.first k.first h.between k.between h.answers k.answers in
    let there = conversation_is_determined one k.between contents h.later k.later after other (subst (λ s. IsConversation s contents h.later after) here.1 h.follows) k.follows in
    (h.all ∙ (λ i. here.0 i ++ there.0 i) ∙ sym k.all, there.1)
