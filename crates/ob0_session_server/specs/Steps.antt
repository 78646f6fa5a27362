-- Defines the result of one step of a session, which takes the content of one message. Also defines
-- when a step may fail.
-- Rule: docs/PROTOCOL.md, The program 8 (out of memory).
use Rattle.std.specs.Prelude.{◌≡◌, ◌≢◌, ℕ, List, map}
use Rattle.ob0_session_server.specs.Answers.{ServerState, Answers}
use Rattle.ob0_session_server.specs.declared.session.Phase.{Phase}
use Rattle.ob0_session_server.specs.declared.session.Phase.TheVariants as phases
use Rattle.ob0_session_server.specs.declared.session.Next.{Next}
use Rattle.ob0_session_server.specs.declared.session.Next.TheVariants.{Continue, End}
use Rattle.ob0_session_server.specs.declared.session.SessionFault.{SessionFault}
use Rattle.ob0_session_server.specs.declared.session.SessionFault.TheVariants.{Memory, Failed}
use Rattle.ob0_session_server.specs.declared.session.Step.{Step}

-- Returns `End` with the exit status if the session has ended in this phase, otherwise `Continue`.
abbrev pub next_in_phase : Phase → Next
next_in_phase (phases.Ended status) = End status
next_in_phase phase = Continue

-- States that a session in this phase hasn't ended. A session that has failed (`Failed`) counts as
-- not ended.
abbrev pub HasNotEnded : Phase → Type 0
HasNotEnded phase = next_in_phase phase ≡ Continue

-- States that `step` is the result of a successful step. The session replies to the content with
-- the messages `step.send`. `step.next` says whether the session continues.
pub record SessionSteps (before : ServerState) (content : List ℕ) (step : Step)
    (after : ServerState) : Type 0 where
  pub answers : Answers before content (map (λ v. v.items) step.send.items) after
  pub next : step.next ≡ next_in_phase after.phase

-- States that a step may fail with this fault. If the fault is `Memory`, the session had neither
-- ended nor failed before the step, and has failed after it. If the fault is `Failed`, the session
-- had already failed before the step, and nothing changes.
abbrev pub SessionFails : ServerState → SessionFault → ServerState → Type 0
SessionFails before Memory after =
    HasNotEnded before.phase × (before.phase ≢ phases.Failed) × (after.phase ≡ phases.Failed)
SessionFails before Failed after = (before.phase ≡ phases.Failed) × (after ≡ before)
