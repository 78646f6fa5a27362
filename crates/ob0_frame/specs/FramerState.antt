-- Defines the states of a framer, which reads messages from a stream that arrives in pieces. Also
-- defines how one piece of the stream changes the state.
-- Rule: docs/PROTOCOL.md, Framing 4, 5.
use Rattle.std.specs.Prelude.{◌≡◌, ℕ, List, [], ◌++◌}
use Rattle.ob0_frame.specs.Frames.{Frames, CannotBeginMessage}

-- The rest of a stream: the bytes after the last complete message (`Open`), or `Broken`. A bad head
-- breaks the stream. A broken stream isn't read further.
pub data StreamRest : Type 0 where
  Open : List ℕ → StreamRest
  Broken : StreamRest

-- The state of a framer: the contents of complete messages that wait to be returned, in order, and
-- the rest of the stream.
pub record FramerState : Type 0 where
  pub waiting : List (List ℕ)
  pub rest : StreamRest

-- States what reading a piece of the stream does. The arguments are the rest of the stream before
-- the piece, the piece, the contents of the messages that the piece completes, and the rest after
-- the piece. If no message can begin with the bytes after the last complete message, the rest after
-- the piece is `Broken`. A broken stream remains broken, and no later piece completes a message.
abbrev pub PieceAdvancesStream : StreamRest → List ℕ → List (List ℕ) → StreamRest → Type 0
PieceAdvancesStream (Open rest) piece contents (Open left) = Frames (rest ++ piece) contents left × ¬ (CannotBeginMessage left)
PieceAdvancesStream (Open rest) piece contents Broken =
    (left : List ℕ) × Frames (rest ++ piece) contents left × CannotBeginMessage left
PieceAdvancesStream Broken piece contents (Open left) = ⊥
PieceAdvancesStream Broken piece contents Broken = contents ≡ []

-- States that reading a piece changes the state of a framer from `old` to `new`. The contents of
-- the messages that the piece completes are added after the contents that already wait.
pub record PieceAdvancesFramer (old : FramerState) (piece : List ℕ) (new : FramerState) : Type 0 where
  pub contents : List (List ℕ)
  pub feeds : PieceAdvancesStream old.rest piece contents new.rest
  pub appended : new.waiting ≡ old.waiting ++ contents
