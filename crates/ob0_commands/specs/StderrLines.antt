-- Defines the lines that the commands print on standard error, in bytes of UTF-8, and states when a
-- line is printed there (`PrintsOptionalLine`). `EndsByFault`, `PrintsStoppedRun` and `RefusesRenaming`
-- have a parameter `IsPrintedOnStderr`. The contracts pass `PrintsOptionalLine` for this parameter.
-- So each of the three can state that the line on standard error and the output are about the same
-- fault, run or refusal.
-- Rule: docs/PROTOCOL.md, The program 2, 3, 5, 6 and 7.
use Rattle.std.specs.Prelude.{◌≡◌, ◌++◌, ℕ, List, Option, Some, None, Bool, true, false, codes}
use Rattle.std.specs.Io.KnownBytes.{Appends}
use Rattle.ob0_text.specs.RefusalTexts.{refusal_text}
use Rattle.ob0_text.specs.declared.refusals.EditRefusal.{EditRefusal}

-- States that this line is appended to standard error and flushed, unless the writer for standard
-- error has failed. For None, states that the writer is unchanged.
abbrev pub PrintsOptionalLine : {E : Type 0}
    → (contents : E → Option (List ℕ))
    → (is_flushed has_failed : E → Bool)
    → (before after : E)
    → Option (List ℕ)
    → Type 0
PrintsOptionalLine contents is_flushed has_failed before after None = after ≡ before
PrintsOptionalLine contents is_flushed has_failed before after (Some line) =
    has_failed after ≡ false
    → Appends (contents before) (contents after) line × (is_flushed after ≡ true)

-- Returns the line that reports a refusal: `refused: TEXT` and a line feed.
abbrev pub refusal_line : EditRefusal → List ℕ
refusal_line refusal = codes "refused: " ++ (refusal_text refusal ++ codes "\n")
