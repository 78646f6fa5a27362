-- Defines the stage of the message with which a list of bytes begins: how much of the message has
-- arrived.
-- Rule: none; used in private contracts about how much of a message has arrived.
use Rattle.std.specs.Prelude.{ℕ, ◌-◌, ◌<◌, ◌≤◌, List, ◌++◌, length, take, drop}
use Rattle.ob0_frame.specs.declared.head.MessageStage.{MessageStage}
use Rattle.ob0_frame.specs.declared.head.MessageStage.TheVariants.{Head, Content, Bad}
use Rattle.ob0_frame.specs.Head.{AnnouncesContentLength, HasNoEmptyLine, max_head_length}
use Rattle.ob0_frame.specs.Frames.{Frames, CannotBeginMessage}

-- States that the bytes begin with an accepted head that announces a content. The head ends, and
-- the content begins, at the byte offset `start`. The content ends at the byte offset `end`, but
-- its bytes may not all have arrived.
pub record AnnouncesContentBetween (bytes : List ℕ) (start end : ℕ) : Type 0 where
  pub within : start ≤ length bytes
  pub ordered : start ≤ end
  pub head_is_nonempty : 0 < start
  pub announces : AnnouncesContentLength (take start bytes) (end - start)

-- States that the message at the beginning of the bytes is at this stage. At the stage `Head`, its
-- head isn't complete. At the stage `Content`, its head announces the content from `start` to
-- `end`. At the stage `Bad`, its head is bad: no message can begin with the bytes.
abbrev pub IsMessageStage : List ℕ → MessageStage → Type 0
IsMessageStage bytes Head = (length bytes < max_head_length) × HasNoEmptyLine bytes
IsMessageStage bytes (Content start end) = AnnouncesContentBetween bytes start end
IsMessageStage bytes Bad = CannotBeginMessage bytes

-- States that the message at the beginning of the bytes, which has this stage, isn't complete. At
-- the stages `Head` and `Bad` this is always true.
abbrev pub IsMessageUnfinished : List ℕ → MessageStage → Type 0
IsMessageUnfinished bytes Head = Unit {0}
IsMessageUnfinished bytes (Content start end) = length bytes < end
IsMessageUnfinished bytes Bad = Unit {0}

-- States that the first `taken` bytes are complete messages with these contents, and that the
-- message that begins after these bytes is at this stage.
pub record SplitsMessages (bytes : List ℕ) (contents : List (List ℕ)) (taken : ℕ)
    (stage : MessageStage) : Type 0 where
  pub within : taken ≤ length bytes
  pub messages : (more : List (List ℕ)) (rest : List ℕ)
      → Frames (drop taken bytes) more rest
      → Frames bytes (contents ++ more) rest
  pub stage_is : IsMessageStage (drop taken bytes) stage
