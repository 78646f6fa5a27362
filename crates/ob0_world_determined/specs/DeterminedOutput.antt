-- States that the server's input determines the server's output: the diagnostics of a text, the
-- replies to a message, and the written bytes.
-- Rule: none; laws of the session.
use Rattle.std.specs.Prelude.{◌≡◌, ◌≢◌, ◌≤◌, ◌<◌, ◌+◌, ◌++◌, ◌⊎◌, ℕ, List, [], length, All, Bool, Result, Ok, Err, ⊤}
use Rattle.std.specs.List.{flat_map}
use Rattle.ob0_frame.specs.Frames.{Frames, frame}
use Rattle.ob0_frame.specs.FramerState.{Open, PieceAdvancesStream}
use Rattle.ob0_frame.specs.Head.{max_content_length, max_head_length}
use Rattle.ob0_scope_table.specs.Resolution.{Resolution, IsResolution, ordinal_in}
use Rattle.ob0_tree.specs.ParsedModule.{ParsedModule, tree_of}
use Rattle.ob0_analysis.specs.ReportedErrors.{ReportedDiagnosis, ReportsErrorsOf}
use Rattle.ob0_session_server.specs.Answers.{ServerState, initial_server_state, Reply, AreContentsOfReply, Answers, IsConversation}
use Rattle.ob0_session_server.specs.declared.session.Phase.TheVariants.{Ended}
use Rattle.ob0_session.specs.OwedAnswers.{OwesNothing}
use Rattle.ob0_session.specs.ServeResults.{EndsByExit, Serves}
use Rattle.ob0_session.specs.StreamSteps.{StreamStep, bytes_given, bytes_written}
use Rattle.ob0_session.specs.declared.serve_loop.ServeFault.{ServeFault}
use Rattle.ob0_session.specs.declared.serve_loop.ServeFault.TheVariants.{BadHead, Truncated, Read, Write, Memory, TooManyReads}

-- ---- diagnostics

-- states that two parsed modules have the same tokens and the same tree
abbrev pub HaveSameTokensAndTree : ParsedModule → ParsedModule → Type 0
HaveSameTokensAndTree m n = (m.source ≡ n.source) × (tree_of m ≡ tree_of n)

-- States that a module's names are resolved in at most one way: two resolutions of the same module
-- agree at each token. Both bind the token to the same declaration, or both leave it unbound.
abbrev pub ResolutionIsDetermined : Type 0
ResolutionIsDetermined =
    (r q : Resolution) → IsResolution r → IsResolution q
    → HaveSameTokensAndTree r.module_read q.module_read
    → (token : ℕ) → ordinal_in r.ordinals token ≡ ordinal_in q.ordinals token

-- states that a text has at most one list of diagnostics
abbrev pub DiagnosesAreDetermined : Type 0
DiagnosesAreDetermined =
    (text : List ℕ) (found other : List ReportedDiagnosis)
    → ReportsErrorsOf text found → ReportsErrorsOf text other → found ≡ other

-- ---- replies

-- states that a reply (`Reply`) determines the contents that the session sends as this reply
abbrev pub ReplyContentsAreDetermined : Type 0
ReplyContentsAreDetermined =
    (reply : Reply) (sent other : List (List ℕ))
    → AreContentsOfReply reply sent → AreContentsOfReply reply other → sent ≡ other

-- states that a session's state and the content that it takes next determine the session's replies
-- and its next state
abbrev pub AnswerIsDetermined : Type 0
AnswerIsDetermined =
    (before : ServerState) (content : List ℕ) (sent other : List (List ℕ)) (after end : ServerState)
    → Answers before content sent after → Answers before content other end
    → (sent ≡ other) × (after ≡ end)

-- states that a session's state and the contents that it takes in a conversation determine the
-- session's replies and its state after the conversation
abbrev pub ConversationIsDetermined : Type 0
ConversationIsDetermined =
    (before : ServerState) (contents sent other : List (List ℕ)) (after end : ServerState)
    → IsConversation before contents sent after → IsConversation before contents other end
    → (sent ≡ other) × (after ≡ end)

-- ---- bytes

-- States that `serve` may return this result after it has read the bytes `taken` and written the
-- bytes `put`. The reader or the writer may have failed.
abbrev pub ServeMayReturn : Result ℕ ServeFault → List ℕ → List ℕ → Type 0
ServeMayReturn result taken put =
    (reader_failed : Bool) × (writer_failed : Bool)
    × Serves result taken put ⊤ ⊤ reader_failed writer_failed ⊤

-- states that the result is neither `Memory` nor `Write`, so that all output has been written
abbrev pub AllOutputIsWritten : Result ℕ ServeFault → Type 0
AllOutputIsWritten result = (result ≢ Err Memory) × (result ≢ Err Write)

-- states that the bytes that `serve` has read determine this result, because an `exit`, the end of
-- the input or a bad head ended the call
abbrev pub IsDeterminedByBytes : Result ℕ ServeFault → Type 0
IsDeterminedByBytes (Ok status) = ⊤
IsDeterminedByBytes (Err BadHead) = ⊤
IsDeterminedByBytes (Err Truncated) = ⊤
IsDeterminedByBytes (Err Read) = ⊥
IsDeterminedByBytes (Err TooManyReads) = ⊥
IsDeterminedByBytes (Err Write) = ⊥
IsDeterminedByBytes (Err Memory) = ⊥

-- states that an `exit` or a bad head ended the call of `serve` with this result, so that further
-- input would make no difference
abbrev pub IsFinalResult : Result ℕ ServeFault → List ℕ → List ℕ → Type 0
IsFinalResult (Ok status) taken put = EndsByExit status taken put
IsFinalResult (Err BadHead) taken put = ⊤
IsFinalResult (Err Truncated) taken put = ⊥
IsFinalResult (Err Read) taken put = ⊥
IsFinalResult (Err TooManyReads) taken put = ⊥
IsFinalResult (Err Write) taken put = ⊥
IsFinalResult (Err Memory) taken put = ⊥

-- States how the outputs of two calls of `serve` are related if the first call's input is a prefix
-- of the second call's input, and the second call returns neither `Memory` nor `Write`. The first
-- call's output is then a prefix of the second call's output. The outputs are equal if the first
-- call also returns neither `Memory` nor `Write`, and either the inputs are equal, or an `exit` or
-- a bad head ended the first call.
abbrev pub OutputIsDetermined : Type 0
OutputIsDetermined =
    (taken more put all : List ℕ) (result end : Result ℕ ServeFault) → AllOutputIsWritten end
    → ServeMayReturn result taken put → ServeMayReturn end (taken ++ more) all
    → (unwritten : List ℕ) × (all ≡ put ++ unwritten)
    × (AllOutputIsWritten result → IsFinalResult result taken put ⊎ (more ≡ []) → unwritten ≡ [])

-- States that two calls of `serve` with the same input return the same result. If an `exit` or a
-- bad head ended the first call, the second call's input may continue after the first call's. The
-- law excludes calls that return `Read`, `TooManyReads`, `Write` or `Memory`.
abbrev pub ResultIsDetermined : Type 0
ResultIsDetermined =
    (taken more put all : List ℕ) (result end : Result ℕ ServeFault)
    → IsDeterminedByBytes result → IsDeterminedByBytes end
    → ServeMayReturn result taken put → ServeMayReturn end (taken ++ more) all
    → IsFinalResult result taken put ⊎ (more ≡ []) → result ≡ end

-- States that each list of bytes can be split into complete messages and a rest that doesn't begin
-- with a complete message (`Frames`). The formula is a double negation: it is impossible that there
-- is no split.
abbrev pub FramingExists : Type 0
FramingExists =
    (bytes : List ℕ)
    → ¬ ((contents : List (List ℕ)) (rest : List ℕ) → ¬ (Frames bytes contents rest))

-- States that an unfinished message is short: it has fewer bytes than the longest head and the
-- longest content have together. An unfinished message is the bytes `left` after the last complete
-- message of an input, unless no message can begin with them. They are the bytes of the input that
-- `serve` keeps.
abbrev pub UnfinishedMessageIsBounded : Type 0
UnfinishedMessageIsBounded =
    (bytes left : List ℕ) (contents : List (List ℕ))
    → PieceAdvancesStream (Open []) bytes contents (Open left)
    → length left < max_head_length + max_content_length

-- ---- a conversation, as bytes

-- States that `serve` answers as the session does. Suppose that the input of `serve` consists of
-- the frames of the contents that a session took. Then the output consists of the frames of the
-- contents that the session sent. The law excludes calls that return `Memory` or `Write`, and
-- contents of more than `max_content_length` bytes.
abbrev pub ServeAnswersLikeSession : Type 0
ServeAnswersLikeSession =
    (taken sent : List (List ℕ)) (after : ServerState)
    → All (λ content. length content ≤ max_content_length) taken
    → IsConversation initial_server_state taken sent after
    → (put : List ℕ) (result : Result ℕ ServeFault) → AllOutputIsWritten result
    → ServeMayReturn result (flat_map frame taken) put
    → put ≡ flat_map frame sent

-- States that `serve` answers as the session does, even if the input continues. Suppose that the
-- input of `serve` begins with the frames of the contents that a session took. Then the output
-- begins with the frames of the contents that the session sent. The law excludes calls that return
-- `Memory` or `Write`, and contents of more than `max_content_length` bytes.
abbrev pub ServeAnswersPrefixLikeSession : Type 0
ServeAnswersPrefixLikeSession =
    (taken sent : List (List ℕ)) (after : ServerState)
    → All (λ content. length content ≤ max_content_length) taken
    → IsConversation initial_server_state taken sent after
    → (more put : List ℕ) (result : Result ℕ ServeFault) → AllOutputIsWritten result
    → ServeMayReturn result (flat_map frame taken ++ more) put
    → (later : List ℕ) × (put ≡ flat_map frame sent ++ later)

-- States that `serve` ends as the session does. Suppose that a session ended after it took some
-- contents. Suppose also that the input of `serve` consists of the frames of these contents,
-- followed by any bytes. Then `serve` writes the frames of the contents that the session sent, and
-- no more, and returns the session's status. The law excludes calls that return `Memory` or
-- `Write`, and contents of more than `max_content_length` bytes.
abbrev pub ServeEndsLikeSession : Type 0
ServeEndsLikeSession =
    (taken sent : List (List ℕ)) (after : ServerState) (status : ℕ)
    → All (λ content. length content ≤ max_content_length) taken
    → IsConversation initial_server_state taken sent after
    → after.phase ≡ Ended status
    → (more put : List ℕ) (result : Result ℕ ServeFault) → AllOutputIsWritten result
    → ServeMayReturn result (flat_map frame taken ++ more) put
    → (put ≡ flat_map frame sent) × (result ≡ Ok status)

-- States that `serve` has answered as the session does whenever no answer is owed, as at the
-- beginning of each read (`NeverReadsOwing`). Suppose that the bytes given so far begin with the
-- frames of the contents that a session took. Then the bytes written begin with the frames of the
-- contents that the session sent. (`OwesNothing` states that they are flushed.) The law excludes
-- contents of more than `max_content_length` bytes.
abbrev pub ServeHasAnsweredAtReads : Type 0
ServeHasAnsweredAtReads =
    (taken sent : List (List ℕ)) (after : ServerState)
    → All (λ content. length content ≤ max_content_length) taken
    → IsConversation initial_server_state taken sent after
    → (steps : List StreamStep) (more : List ℕ) → OwesNothing steps
    → bytes_given steps ≡ flat_map frame taken ++ more
    → (later : List ℕ) × (bytes_written steps ≡ flat_map frame sent ++ later)
