-- Relates the messages and the request outcomes of the code to the replies and reactions that
-- `Answers` defines.
use Rattle.std.specs.Prelude.{◌≡◌, ℕ, ℤ, List, Option, Some, None, Vec, option_map, codes}
use Rattle.std.specs.Option.{option_to_list}
use Rattle.std.specs.declared.alloc.Global.{Global}
use Rattle.serde_json.specs.Data.{Data}
use Rattle.ob0_text.specs.declared.position_types.Unit.{Unit}
use Rattle.ob0_session_documents.specs.DocumentRequests.{IsOutcomeOfRequest}
use Rattle.ob0_session_documents.specs.declared.document_requests.RequestOutcome.{RequestOutcome}
use Rattle.ob0_session_documents.specs.declared.document_requests.RequestOutcome.TheVariants.{Answered, OutOfStep, Unopened}
use Rattle.ob0_session_json.specs.JsonShapes.{edit_refusal_message}
use Rattle.ob0_session_server.specs.Answers.{ServerState, Reaction, Reply, AreContentsOfReply, fixed_reply}

-- States that the code sends this reply: `sent` is a message that the reply allows. If `sent` is
-- None, the reply is `no_reply`.
abbrev pub SendsReply : Reply → Option (Vec ℕ Global) → Type 0
SendsReply reply sent = AreContentsOfReply reply (option_to_list (option_map (λ v. v.items) sent))

-- States that the code's message `sent` is a reply that the reaction `r` allows, and that `new` is
-- the session's state after `r`. If there is no message (None), the reply of `r` is `no_reply`.
abbrev pub MatchesReaction : Reaction → Option (Vec ℕ Global) → ServerState → Type 0
MatchesReaction r sent new = (new ≡ r.after) × SendsReply r.reply sent

-- States that `sent` is the reply to a request with this id and this outcome: the outcome's
-- message, or a refusal if the document is out of step or isn't open.
abbrev pub RepliesForOutcome : Data → RequestOutcome → Option (Vec ℕ Global) → Type 0
RepliesForOutcome id (Answered message) sent = sent ≡ Some message
RepliesForOutcome id OutOfStep sent = SendsReply (fixed_reply (edit_refusal_message id (codes "out of step"))) sent
RepliesForOutcome id Unopened sent = SendsReply (fixed_reply (edit_refusal_message id (codes "unopened"))) sent

-- Returns the message in an outcome, or None if the document is out of step or isn't open.
abbrev pub message_of_outcome : RequestOutcome → Option (Vec ℕ Global)
message_of_outcome (Answered message) = Some message
message_of_outcome OutOfStep = None
message_of_outcome Unopened = None

-- States that the message `sent` answers or refuses the request about the document with this uri,
-- and that the state is unchanged. The parameter `answers` states which bytes answer the request.
abbrev pub RepliesToDocumentRequest : (ℤ → Unit → List ℕ → List ℕ → Type 0)
    → ServerState
    → Data
    → List ℕ
    → Option (Vec ℕ Global)
    → ServerState
    → Type 0
RepliesToDocumentRequest answers s id uri sent new =
    (new ≡ s)
    × ((outcome : RequestOutcome)
    × IsOutcomeOfRequest answers s.held uri outcome
    × RepliesForOutcome id outcome sent)
