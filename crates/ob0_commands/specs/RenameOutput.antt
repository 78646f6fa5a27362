-- Defines the output of `rename`.
-- Rule: docs/PROTOCOL.md, The program 3.
use Rattle.std.specs.Prelude.{◌≡◌, ◌⊎◌, ℕ, List, Option, Some, None, Result, Ok, Err, Vec, Bool, true}
use Rattle.std.specs.declared.alloc.Global.{Global}
use Rattle.std.specs.Io.KnownBytes.{Appends}
use Rattle.std.specs.Str.{IsUtf8, chars}
use Rattle.ob0_text.specs.Patches.{patched_text}
use Rattle.ob0_text.specs.Units.{width_of}
use Rattle.ob0_text.specs.declared.edits.Edit.{Edit}
use Rattle.ob0_text.specs.declared.position_types.Position.{Position}
use Rattle.ob0_text.specs.declared.position_types.Unit.{Unit}
use Rattle.ob0_text.specs.declared.position_types.Unit.TheVariants.{Utf16}
use Rattle.ob0_text.specs.declared.refusals.EditRefusal.{EditRefusal}
use Rattle.ob0_edits.specs.Renamings.{IsRenameRefusedInText, RenamesInText}
use Rattle.ob0_commands.specs.CommandEndings.{EndsWithoutFault}
use Rattle.ob0_commands.specs.OutputWriters.{IsFlushedOrUnchanged}
use Rattle.ob0_commands.specs.PrintedTexts.{PrintsDiagnostics}
use Rattle.ob0_commands.specs.StderrLines.{refusal_line}
use Rattle.ob0_commands.specs.Statuses.{IsTextFile}

-- States that the edits can be applied to the text `content`, and that the edited text is printed
-- in UTF-8. The positions of the edits are counted in `unit`. If the output's bytes aren't known,
-- nothing is stated about them.
pub record PrintsPatchedText (unit : Unit) (content : List ℕ) (edits : List Edit)
    (before after : Option (List ℕ)) : Type 0 where
  pub text : List ℕ
  pub utf8 : IsUtf8 text
  pub made : patched_text (width_of unit) content edits ≡ Some (chars text)
  pub printed : Appends before after text

-- States that the third argument is a list of edits (`Ok`), not a refusal (`Err`). The edits can be
-- applied to the text `content`, and the edited text is printed (`PrintsPatchedText`).
abbrev pub IsOkAndPrintsPatchedText : Unit
    → List ℕ
    → Result (Vec Edit Global) EditRefusal
    → Option (List ℕ)
    → Option (List ℕ)
    → Type 0
IsOkAndPrintsPatchedText unit content (Ok edits) before after =
    PrintsPatchedText unit content edits.items before after
IsOkAndPrintsPatchedText unit content (Err refusal) before after = ⊥

-- States that the first argument is a refusal (`Err`), not a list of edits (`Ok`), and that the
-- refusal's line is printed on standard error.
abbrev pub IsErrAndPrintsRefusal : Result (Vec Edit Global) EditRefusal
    → (Option (List ℕ) → Type 0)
    → Type 0
IsErrAndPrintsRefusal (Ok edits) IsPrintedOnStderr = ⊥
IsErrAndPrintsRefusal (Err refusal) IsPrintedOnStderr = IsPrintedOnStderr (Some (refusal_line refusal))

-- States that the file's bytes are a text (`IsTextFile`), and that this text is printed with the
-- declaration or field at `position` renamed to `new`. `edits` are the edits of this renaming.
-- Positions are counted in UTF-16 units.
pub record PrintsRenamedText (file : List ℕ) (position : Position) (new : List ℕ)
    (before after : Option (List ℕ)) : Type 0 where
  pub has_text : IsTextFile file
  pub edits : List Edit
  pub rename : RenamesInText Utf16 (chars file) position new edits
  pub prints : PrintsPatchedText Utf16 (chars file) edits before after

-- States that the file's bytes are a text (`IsTextFile`), but that renaming the declaration or
-- field at `position` to `new` is refused. The refusal is printed on standard error, and the output
-- is unchanged.
pub record RefusesRenaming (file : List ℕ) (position : Position) (new : List ℕ)
    (before after : Option (List ℕ)) (IsPrintedOnStderr : Option (List ℕ) → Type 0) : Type 0 where
  pub has_text : IsTextFile file
  pub refusal : EditRefusal
  pub refused : IsRenameRefusedInText Utf16 (chars file) position new refusal
  pub nothing : after ≡ before
  pub said : IsPrintedOnStderr (Some (refusal_line refusal))

-- States that one of two cases applies. Either the file's errors are printed on the output, and
-- nothing is printed on standard error. Or the renaming is refused (`RefusesRenaming`).
abbrev pub PrintsErrorsOrRefusal : List ℕ
    → Position
    → List ℕ
    → Option (List ℕ)
    → Option (List ℕ)
    → (Option (List ℕ) → Type 0)
    → Type 0
PrintsErrorsOrRefusal file position new before after IsPrintedOnStderr =
    (PrintsDiagnostics file before after × IsPrintedOnStderr None)
    ⊎ RefusesRenaming file position new before after IsPrintedOnStderr

-- States that `rename` ends with this status and that no fault stops it. With status 0, the renamed
-- text is printed and flushed, and nothing is printed on standard error. With status 1, the file's
-- errors are printed or the renaming is refused, and the output is flushed or unchanged. With
-- either status the fact `Both` holds: the caller passes what is true of both endings.
abbrev pub RenameEndsWithoutFault : {O : Type 0}
    → (contents : O → Option (List ℕ))
    → (is_flushed : O → Bool)
    → (before after : O)
    → (IsPrintedOnStderr : Option (List ℕ) → Type 0)
    → (file : List ℕ)
    → Position
    → (new : List ℕ)
    → (Both : Type 0)
    → ℕ
    → Type 0
RenameEndsWithoutFault contents is_flushed before after IsPrintedOnStderr file position new =
    EndsWithoutFault
    (PrintsRenamedText file position new (contents before) (contents after)
    × (is_flushed after ≡ true)
    × IsPrintedOnStderr None)
    (PrintsErrorsOrRefusal file position new (contents before) (contents after) IsPrintedOnStderr
    × IsFlushedOrUnchanged (is_flushed after) before after)
