-- Defines which bytes the server has written when `serve` returns. For each result of `serve`,
-- `Serves` relates the written bytes to the bytes that were read. The bytes are frames: each frame
-- is one message, a head followed by its content.
use Rattle.std.specs.Prelude.{◌≡◌, ◌≢◌, ◌≤◌, ◌+◌, ◌-◌, ◌^◌, ◌*◌, ◌⊎◌, ℕ, min, max, List, [], ◌++◌, Bool, true, false, Result, Ok, Err, length}
use Rattle.std.specs.List.{flat_map}
use Rattle.ob0_frame.specs.Frames.{frame}
use Rattle.ob0_frame.specs.FramerState.{StreamRest, Open, Broken, PieceAdvancesStream}
use Rattle.ob0_session_server.specs.Answers.{ServerState, initial_server_state, IsConversation}
use Rattle.ob0_session_server.specs.Steps.{HasNotEnded}
use Rattle.ob0_session_server.specs.declared.session.Phase.TheVariants.{Ended}
use Rattle.ob0_session.specs.Devices.{ReadStatistics}
use Rattle.ob0_session.specs.declared.serve_loop.ServeFault.{ServeFault}
use Rattle.ob0_session.specs.declared.serve_loop.ServeFault.TheVariants.{BadHead, Truncated, Read, Write, Memory, TooManyReads}

-- States that the server has answered the message contents in the bytes `taken`, except the
-- contents `waiting`. The bytes `taken` are the frames of the contents `answered`, the frames of
-- the contents `waiting`, and the `rest`: unfinished bytes (`Open`) or a bad head (`Broken`). The
-- bytes `put` are the frames of valid answers to the contents `answered`. After these answers, the
-- session is in the state `after`.
pub record AnswersAllButWaiting (taken : List ℕ) (waiting : List (List ℕ)) (rest : StreamRest)
    (after : ServerState) (put : List ℕ) : Type 0 where
  pub answered : List (List ℕ)
  pub sent : List (List ℕ)
  pub feeds : PieceAdvancesStream (Open []) taken (answered ++ waiting) rest
  pub conversation : IsConversation initial_server_state answered sent after
  pub frames : put ≡ flat_map frame sent

-- States that the server has answered all message contents in the bytes `taken`, and that the
-- conversation hasn't ended. The bytes `put` are the frames of these answers. `rest` is the rest of
-- the stream after the last complete message: unfinished bytes (`Open`), or a bad head (`Broken`).
pub record AnswersAllContents (taken : List ℕ) (rest : StreamRest) (put : List ℕ) : Type 0 where
  pub after : ServerState
  pub served : AnswersAllButWaiting taken [] rest after put
  pub not_ended : HasNotEnded after.phase

-- States that the server has answered a prefix of the message contents in the bytes `taken`. The
-- prefix may have no contents, some contents or all contents. The bytes `put` are the frames of
-- these answers. The other contents (`waiting`) aren't answered yet.
pub record AnswersSomeContents (taken put : List ℕ) : Type 0 where
  pub after : ServerState
  pub waiting : List (List ℕ)
  pub rest : StreamRest
  pub served : AnswersAllButWaiting taken waiting rest after put

-- States that an `exit` among the message contents in the bytes `taken` has ended the conversation
-- with this status. The bytes `put` are the frames of the answers to the contents before the
-- `exit`. Contents after the `exit` get no answer.
abbrev pub EndsByExit : ℕ → (taken put : List ℕ) → Type 0
EndsByExit status taken put = (s : AnswersSomeContents taken put) × (s.after.phase ≡ Ended status)

-- States that the bytes `put` are the frames of valid answers to the message contents `answered`.
-- If the bytes `taken` can be split into message contents, `answered` is a prefix of the list of
-- these contents. After a failed allocation no more is stated, because the framer may not know the
-- contents in the last bytes that were read.
pub record AnswersPrefixOfContents (taken put : List ℕ) : Type 0 where
  pub after : ServerState
  pub answered : List (List ℕ)
  pub sent : List (List ℕ)
  pub front : (contents : List (List ℕ)) (rest : StreamRest) → PieceAdvancesStream (Open []) taken contents rest
      → (others : List (List ℕ)) × (contents ≡ answered ++ others)
  pub conversation : IsConversation initial_server_state answered sent after
  pub frames : put ≡ flat_map frame sent

-- States that neither the reader (`r`) nor the writer (`w`) has failed, and that the condition
-- `flushed` holds.
abbrev pub NoFailureAndOutputFlushed : (reader_failed writer_failed : Bool) (flushed : Type 0) → Type 0
NoFailureAndOutputFlushed r w flushed = (r ≡ false) × (w ≡ false) × flushed

-- States that the writer is flushed if it was flushed before, or if something was written. The list
-- `put` has the written bytes.
abbrev pub LeavesWriterFlushed : (was_flushed is_flushed : Bool) (put : List ℕ) → Type 0
LeavesWriterFlushed was_flushed is_flushed put =
    (was_flushed ≡ true) ⊎ (put ≢ []) → is_flushed ≡ true

-- The greatest number of pieces that one call of `serve` reads. A piece is the bytes that one read
-- returns.
abbrev pub max_reads : ℕ
max_reads = 2 ^ 40

-- The greatest length in bytes of a piece. Each read of `serve` returns at most this many bytes.
abbrev pub max_piece_length : ℕ
max_piece_length = 8192

-- States that the bytes `taken` were read by at most `max_reads` reads, each into a buffer of at
-- most `max_piece_length` bytes.
pub record IsReadInPieces (before after : ReadStatistics) (taken : List ℕ) : Type 0 where
  pub count : after.count ≤ before.count + max_reads
  pub longest_buffer : after.longest_buffer ≤ max before.longest_buffer max_piece_length
  pub bytes : length taken ≤ max_reads * max_piece_length

-- States that this call of `serve` made `max_reads` reads: the count has grown by that number, or
-- has stopped at 2^64 - 1.
abbrev pub UsesAllReads : (before after : ReadStatistics) → Type 0
UsesAllReads before after = after.count ≡ min (before.count + max_reads) (2 ^ 64 - 1)

-- States that `serve`, with this result, may have read the bytes `taken` and written the bytes
-- `put`. The reader has failed exactly if the result is `Read`, and the writer exactly if the
-- result is `Write`. Three parameters are facts, which are stated only for some results:
-- - `at_end` (the input is at its end): for `Truncated`, and for the status of a conversation
--   without an `exit`;
-- - `all_read` (`max_reads` reads were made): for `TooManyReads`;
-- - `flushed` (everything written is flushed): for each result except `Write`.
abbrev pub Serves : Result ℕ ServeFault
    → (taken put : List ℕ) (at_end all_read : Type 0) (reader_failed writer_failed : Bool) (flushed : Type 0)
    → Type 0
Serves (Ok status) taken put at_end all_read r w flushed =
    (EndsByExit status taken put ⊎ (AnswersAllContents taken (Open []) put × at_end × (status ≡ 1)))
    × NoFailureAndOutputFlushed r w flushed
-- BadHead: all complete messages are answered, and no message can begin with the bytes after them.
Serves (Err BadHead) taken put at_end all_read r w flushed =
    AnswersAllContents taken Broken put × NoFailureAndOutputFlushed r w flushed
Serves (Err Truncated) taken put at_end all_read r w flushed =
    ((left : List ℕ) × AnswersAllContents taken (Open left) put × (left ≢ []) × at_end)
    × NoFailureAndOutputFlushed r w flushed
Serves (Err Read) taken put at_end all_read r w flushed =
    ((left : List ℕ) × AnswersAllContents taken (Open left) put) × (r ≡ true) × (w ≡ false) × flushed
Serves (Err TooManyReads) taken put at_end all_read r w flushed =
    ((left : List ℕ) × AnswersAllContents taken (Open left) put × (max_reads ≤ length taken) × all_read)
    × NoFailureAndOutputFlushed r w flushed
-- Write: the bytes `put` are a prefix of the frames of valid answers.
Serves (Err Write) taken put at_end all_read r w flushed =
    ((unwritten : List ℕ) × AnswersSomeContents taken (put ++ unwritten)) × (r ≡ false) × (w ≡ true)
Serves (Err Memory) taken put at_end all_read r w flushed =
    AnswersPrefixOfContents taken put × NoFailureAndOutputFlushed r w flushed
