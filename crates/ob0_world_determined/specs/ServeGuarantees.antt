-- States what `serve` guarantees about the bytes that it writes, for every editor that keeps ob0's
-- rules.
-- Rule: docs/PROMISES.md, Client and server.
use Rattle.std.specs.Prelude.{◌≡◌, ◌≤◌, ◌++◌, ℕ, List, [], ◌∷◌, length, All, Result, Ok}
use Rattle.std.specs.List.{flat_map}
use Rattle.ob0_frame.specs.Frames.{frame}
use Rattle.ob0_frame.specs.Head.{max_content_length}
use Rattle.ob0_session.specs.OwedAnswers.{OwesNothing}
use Rattle.ob0_session.specs.ServeResults.{AnswersPrefixOfContents}
use Rattle.ob0_session.specs.StreamSteps.{StreamStep, bytes_given, bytes_written}
use Rattle.ob0_session.specs.declared.serve_loop.ServeFault.{ServeFault}
use Rattle.serde_json.specs.Data.{Data}
use Rattle.ob0_session_server.specs.Answers.{ServerState, IsConversation}
use Rattle.ob0_world.specs.Exchanges.{Exchange, IsShutdownRequest, IsExitNotification, GuaranteesHoldForExchange}
use Rattle.ob0_world_determined.specs.DeterminedOutput.{ServeMayReturn, AllOutputIsWritten}

-- States the guarantees for an exchange of a session and an editor that keeps ob0's rules. Also
-- states which bytes `serve` writes for this exchange. They hold for each: the law
-- `serve_guarantees_hold_for_every_exchange`.
pub record ServeGuaranteesHoldForExchange (begin now : Exchange) : Type 0 where
  pub holds : GuaranteesHoldForExchange begin now
  -- If the input of `serve` begins with the frames of the contents that the session took, `serve`
  -- first writes the frames of the contents that the session sent, and nothing else if the input
  -- ends there.
  pub written : All (λ content. length content ≤ max_content_length) now.wire.taken
      → (more put : List ℕ) (result : Result ℕ ServeFault) → AllOutputIsWritten result
      → ServeMayReturn result (flat_map frame now.wire.taken ++ more) put
      → (later : List ℕ) × (put ≡ flat_map frame (now.wire.got ++ now.wire.to_editor) ++ later)
      × (more ≡ [] → later ≡ [])
  -- If the session next takes `shutdown` and `exit`, `serve` also writes the frame of the answer to
  -- `shutdown`, and returns 0, whatever bytes follow.
  pub ended : (id : Data) (shutdown exit : List ℕ)
      → IsShutdownRequest id shutdown → IsExitNotification exit
      → (sent : List (List ℕ)) (end : ServerState)
      → IsConversation now.wire.session (shutdown ∷ exit ∷ []) sent end
      → All (λ content. length content ≤ max_content_length)
      (now.wire.taken ++ shutdown ∷ exit ∷ [])
      → (more put : List ℕ) (result : Result ℕ ServeFault) → AllOutputIsWritten result
      → ServeMayReturn result (flat_map frame (now.wire.taken ++ shutdown ∷ exit ∷ []) ++ more) put
      → (put ≡ flat_map frame ((now.wire.got ++ now.wire.to_editor) ++ sent)) × (result ≡ Ok 0)
  -- `serve` owes nothing when it reads its device (`NeverReadsOwing`). Then it has written and
  -- flushed these frames, if the bytes that it was given begin with the frames of the contents
  -- taken.
  pub answered_at_reads : All (λ content. length content ≤ max_content_length) now.wire.taken
      → (steps : List StreamStep) (more : List ℕ) → OwesNothing steps
      → bytes_given steps ≡ flat_map frame now.wire.taken ++ more
      → (later : List ℕ)
      × (bytes_written steps ≡ flat_map frame (now.wire.got ++ now.wire.to_editor) ++ later)
  -- If `serve` returns `Memory` after it has answered exactly the contents that the session took, it
  -- has written the frames of the contents that the session sent.
  pub written_after_memory_fault : (taken put : List ℕ) (part : AnswersPrefixOfContents taken put)
      → part.answered ≡ now.wire.taken → put ≡ flat_map frame (now.wire.got ++ now.wire.to_editor)
