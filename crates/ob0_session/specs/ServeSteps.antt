-- States which bytes the parts of `serve_stream` write to the stream. The parts are: sending
-- messages, answering the message contents that wait in the framer, answering a piece (the bytes
-- that one read returns), and flushing after a fault. A frame is one message as bytes, a head
-- followed by its content.
-- Rule: none; used in the contracts of the private functions that `serve_stream` calls.
use Rattle.std.specs.Prelude.{◌≡◌, ℕ, List, [], ◌∷◌, ◌++◌, ◌⊎◌, Bool, true, false, Result, Ok, Err, ⊤}
use Rattle.std.specs.Io.KnownBytes.{Appends}
use Rattle.std.specs.List.{flat_map}
use Rattle.ob0_frame.specs.Frames.{frame}
use Rattle.ob0_frame.specs.FramerState.{FramerState}
use Rattle.ob0_session_server.specs.Answers.{ServerState, IsConversation}
use Rattle.ob0_session_server.specs.Steps.{HasNotEnded}
use Rattle.ob0_session_server.specs.declared.session.Phase.TheVariants.{Ended}
use Rattle.ob0_session.specs.declared.serve_loop.ServeFault.{ServeFault}
use Rattle.ob0_session.specs.declared.serve_loop.ServeFault.TheVariants.{Write, Memory}
use Rattle.ob0_session_server.specs.declared.session.Next.{Next}
use Rattle.ob0_session_server.specs.declared.session.Next.TheVariants.{Continue, End}
use Rattle.ob0_session.specs.ServeResults.{AnswersAllButWaiting, LeavesWriterFlushed, Serves}
use Rattle.ob0_session.specs.StreamSteps.{StreamState, StreamStep, read_begins, read_gives, read_fails, Records, bytes_written, is_all_flushed}

-- States that a step belongs to a write or a flush.
abbrev pub IsOutputStep : StreamStep → Type 0
IsOutputStep read_begins = ⊥
IsOutputStep (read_gives bytes) = ⊥
IsOutputStep read_fails = ⊥
IsOutputStep step = ⊤

-- States that all of the steps belong to writes or flushes.
abbrev pub AreOutputSteps : List StreamStep → Type 0
AreOutputSteps [] = ⊤
AreOutputSteps (step ∷ steps) = IsOutputStep step × AreOutputSteps steps

-- States that writes and flushes lead from the state `old` of a stream to the state `new`, and that
-- they write exactly these bytes. No read is among them, so the input is unchanged.
pub record WritesToStream (old new : StreamState) (bytes : List ℕ) : Type 0 where
  pub appends : Appends old.output.contents new.output.contents bytes
  pub input : new.input ≡ old.input
  pub references : new.references ≡ old.references
  pub steps : List StreamStep
  pub recorded : Records old.steps new.steps steps
  pub only_output : AreOutputSteps steps
  pub written : bytes_written steps ≡ bytes

-- States `WritesToStream`, and that everything written is flushed, according to the record of the
-- calls and to the device.
pub record WritesAndFlushes (old new : StreamState) (bytes : List ℕ) : Type 0 where
  pub writes : WritesToStream old new bytes
  pub flushed : is_all_flushed writes.steps ≡ true
  pub is_flushed : new.output.is_flushed ≡ true

-- States that writes and flushes lead from the state `old` of a stream to the state `new`, and that
-- they write a prefix of `bytes`.
abbrev pub WritesPrefixToStream : StreamState → StreamState → List ℕ → Type 0
WritesPrefixToStream old new bytes =
    (front : List ℕ) × (back : List ℕ) × (bytes ≡ front ++ back) × WritesToStream old new front

-- States that sending these messages may have this result. If it is Ok, the frames of all messages
-- were written. If it is `Memory`, nothing was written. If it is `Write`, a prefix of the frames
-- was written, and a write has failed (`failed` is true). For Ok and `Memory`, `failed` is
-- false. Other faults never occur.
abbrev pub SendsFrames : StreamState
    → StreamState
    → List (List ℕ)
    → Result ⊤ ServeFault
    → Bool
    → Type 0
SendsFrames old new messages (Ok done) failed =
    WritesToStream old new (flat_map frame messages) × (failed ≡ false)
SendsFrames old new messages (Err Memory) failed = WritesToStream old new [] × (failed ≡ false)
SendsFrames old new messages (Err Write) failed =
    WritesPrefixToStream old new (flat_map frame messages) × (failed ≡ true)
SendsFrames old new messages (Err fault) failed = ⊥

-- States that all waiting message contents are answered, except the contents `left` at the end of
-- the list. The answers take the session from the state `before` to the state `after`. The bytes
-- `frames` are the frames of the answers.
pub record AnswersAllButRemaining (waiting : List (List ℕ)) (before after : ServerState)
    (left : List (List ℕ)) (frames : List ℕ) : Type 0 where
  pub answered : List (List ℕ)
  pub sent : List (List ℕ)
  pub cut : waiting ≡ answered ++ left
  pub conversation : IsConversation before answered sent after
  pub framed : frames ≡ flat_map frame sent

-- States that all waiting message contents are answered, that the conversation hasn't ended, and
-- that the writer hasn't failed. The bytes `put` are the frames of the answers.
pub record AnswersAllWaiting (waiting : List (List ℕ)) (before : ServerState) (left : List (List ℕ))
    (after : ServerState) (put : List ℕ) (failed : Bool) : Type 0 where
  pub answered : AnswersAllButRemaining waiting before after left put
  pub none_left : left ≡ []
  pub not_ended : HasNotEnded after.phase
  pub not_failed : failed ≡ false

-- States that a prefix of the waiting message contents is answered, and that the conversation has
-- then ended with this status. The other contents, `left`, still wait. The bytes `put` are the
-- frames of the answers. The writer hasn't failed.
pub record AnswersUntilExit (status : ℕ) (waiting : List (List ℕ)) (before : ServerState)
    (left : List (List ℕ)) (after : ServerState) (put : List ℕ) (failed : Bool) : Type 0 where
  pub answered : AnswersAllButRemaining waiting before after left put
  pub ended : after.phase ≡ Ended status
  pub not_failed : failed ≡ false

-- States that a prefix of the waiting message contents is answered, and that the other contents,
-- `later`, aren't. The bytes `put` are the frames of the answers. The writer hasn't failed. This is
-- the outcome if an allocation fails (`Memory`).
pub record AnswersUntilOutOfMemory (waiting : List (List ℕ)) (before : ServerState) (put : List ℕ)
    (failed : Bool) : Type 0 where
  pub after : ServerState
  pub later : List (List ℕ)
  pub answered : AnswersAllButRemaining waiting before after later put
  pub not_failed : failed ≡ false

-- States that the writer has failed while the waiting message contents were answered. The bytes
-- `put` are a prefix of the frames of the answers to the contents before `later`. The contents
-- `later` aren't answered.
pub record AnswersUntilWriteFailure (waiting : List (List ℕ)) (before : ServerState) (put : List ℕ)
    (failed : Bool) : Type 0 where
  pub after : ServerState
  pub later : List (List ℕ)
  pub unwritten : List ℕ
  pub answered : AnswersAllButRemaining waiting before after later (put ++ unwritten)
  pub fails : failed ≡ true

-- States that answering the message contents `waiting` may have this result. If it is `Continue`,
-- all contents are answered. If it is `End`, the contents up to an `exit` are answered. If it is
-- `Memory` or `Write`, the contents before the failed allocation or write are answered. Other
-- faults never occur.
abbrev pub AnswersWaitingMessages : List (List ℕ)
    → ServerState
    → List (List ℕ)
    → ServerState
    → List ℕ
    → Result Next ServeFault
    → Bool
    → Type 0
AnswersWaitingMessages waiting before left after put (Ok Continue) failed =
    AnswersAllWaiting waiting before left after put failed
AnswersWaitingMessages waiting before left after put (Ok (End status)) failed =
    AnswersUntilExit status waiting before left after put failed
AnswersWaitingMessages waiting before left after put (Err Memory) failed =
    AnswersUntilOutOfMemory waiting before put failed
AnswersWaitingMessages waiting before left after put (Err Write) failed =
    AnswersUntilWriteFailure waiting before put failed
AnswersWaitingMessages waiting before left after put (Err fault) failed = ⊥

-- States that `result` is the fault to report after a flush. If the flush succeeded, `result` is
-- `fault`, everything is flushed, and the flush didn't change whether the writer has failed. If the
-- flush failed, `result` is `Write`, and the writer has failed.
abbrev pub IsFaultAfterFlush : ServeFault → Bool → ServeFault → Bool → Bool → Type 0
IsFaultAfterFlush fault failed_before result failed flushed =
    ((result ≡ fault) × (failed ≡ failed_before) × (flushed ≡ true))
    ⊎ ((result ≡ Write) × (failed ≡ true))

-- States the condition if the result is `Continue`. States nothing about other results.
abbrev pub IfContinues : Result Next ServeFault → Type 0 → Type 0
IfContinues (Ok Continue) condition = condition
IfContinues result condition = ⊤

-- States that `serve` may return this result after the bytes `taken` were read and the bytes `put`
-- written (`Serves`). A piece leads to no result that is about the end of the input, about the
-- number of reads, or about a failed read. If the result is `Continue`, only states that the writer
-- hasn't failed.
abbrev pub ServesAfterPiece : Result Next ServeFault
    → (taken put : List ℕ) (writer_failed : Bool) (flushed : Type 0)
    → Type 0
ServesAfterPiece (Ok Continue) taken put failed flushed = failed ≡ false
ServesAfterPiece (Ok (End status)) taken put failed flushed = Serves (Ok status) taken put ⊥ ⊥ false failed flushed
ServesAfterPiece (Err fault) taken put failed flushed = Serves (Err fault) taken put ⊥ ⊥ false failed flushed

-- States that a call for this piece, with this result, writes the bytes `more`. Suppose that the
-- bytes `put` answer all contents in the bytes `taken`, which were read before the piece. Then
-- `ServesAfterPiece` holds for all the bytes, including the piece and `more`. `framer` and `before`
-- are the states of the framer and the session before the piece.
pub record AnswersPiece (framer : FramerState) (before : ServerState) (piece : List ℕ)
    (result : Result Next ServeFault) (old new : StreamState) : Type 0 where
  pub more : List ℕ
  pub writes : WritesToStream old new more
  pub serves : (taken put : List ℕ) → AnswersAllButWaiting taken [] framer.rest before put
      → ServesAfterPiece result (taken ++ piece) (put ++ more) new.output.has_failed
      (LeavesWriterFlushed old.output.is_flushed new.output.is_flushed more)
