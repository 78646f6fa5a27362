-- States that no answer is owed when a read begins, or for a piece (the bytes that one read returns).
-- Rule: docs/PROTOCOL.md, Framing 7.
use Rattle.std.specs.Prelude.{◌≡◌, ℕ, List, [], ◌∷◌, ◌++◌, true}
use Rattle.std.specs.List.{flat_map}
use Rattle.ob0_frame.specs.Frames.{frame}
use Rattle.ob0_frame.specs.FramerState.{FramerState, Open, PieceAdvancesStream}
use Rattle.ob0_session_server.specs.Answers.{ServerState, IsConversation}
use Rattle.ob0_session_server.specs.Steps.{HasNotEnded}
use Rattle.ob0_session.specs.ServeResults.{AnswersAllContents}
use Rattle.ob0_session.specs.ServeSteps.{WritesAndFlushes}
use Rattle.ob0_session.specs.StreamSteps.{StreamState, StreamStep, read_begins, bytes_given, bytes_written, is_all_flushed}

-- States that no answer is owed after these steps. Each complete message among the bytes given is
-- answered, no `exit` and no bad head is among them, and all answers are written and flushed. The
-- bytes `left` begin a message that isn't complete.
pub record OwesNothing (steps : List StreamStep) : Type 0 where
  pub left : List ℕ
  pub answered : AnswersAllContents (bytes_given steps) (Open left) (bytes_written steps)
  pub flushed : is_all_flushed steps ≡ true

-- States that no answer is owed at the beginning of any read.
abbrev pub NeverReadsOwing : List StreamStep → Type 0
NeverReadsOwing steps =
    (before after : List StreamStep) → steps ≡ before ++ read_begins ∷ after → OwesNothing before

-- States that no answer is owed for this piece. The piece completes the message contents
-- `contents`. Each is answered, and the conversation hasn't ended. The stream has only written and
-- flushed: the frames of the answers `sent` are written, and all are flushed. No content waits in
-- the framer, and the bytes `left` begin a message that isn't complete.
pub record OwesNothingForPiece (old : FramerState) (before : ServerState) (call : StreamState)
    (piece : List ℕ) (new : FramerState) (after : ServerState) (now : StreamState) : Type 0 where
  pub contents : List (List ℕ)
  pub sent : List (List ℕ)
  pub left : List ℕ
  pub completes : PieceAdvancesStream old.rest piece contents (Open left)
  pub conversation : IsConversation before contents sent after
  pub not_ended : HasNotEnded after.phase
  pub written : WritesAndFlushes call now (flat_map frame sent)
  pub framer : new ≡ record { waiting = []; rest = Open left }
