-- Defines the texts that the commands print, in bytes of UTF-8.
-- Rule: docs/PROTOCOL.md, The program 1 to 4.
use Rattle.std.specs.Prelude.{◌≡◌, ◌⊎◌, ◌<◌, ℕ, List, [], ◌∷◌, ◌++◌, Option, Some, None, length, codes, decimal}
use Rattle.std.specs.Fmt.{signed_decimal}
use Rattle.std.specs.Io.KnownBytes.{Appends}
use Rattle.std.specs.Str.{chars}
use Rattle.ob0_language_runs.specs.Runs.{PrintedItem, printed_line_end, printed_number}
use Rattle.ob0_run_machine.specs.declared.program_runs.End.{End}
use Rattle.ob0_run_machine.specs.declared.program_runs.End.TheVariants as end
use Rattle.ob0_scan.specs.TextWithTokens.{max_text_length}
use Rattle.ob0_scan.specs.declared.fault.FaultCode.TheVariants.{TooLong}
use Rattle.ob0_analysis.specs.ReportedErrors.{ReportedDiagnosis, IsWellTypedModule, ReportsErrorsOfInvalidText, reported_diagnosis_of_fault}
use Rattle.ob0_text.specs.Texts.{position_of}
use Rattle.ob0_text.specs.Units.{width_of}
use Rattle.ob0_text.specs.declared.position_types.Position.{Position}
use Rattle.ob0_text.specs.declared.position_types.Unit.TheVariants.{Utf16}
use Rattle.ob0_commands.specs.declared.faults.FileCommandFault.{FileCommandFault}
use Rattle.ob0_commands.specs.declared.faults.FileCommandFault.TheVariants as fault

-- ---- the lines that report faults

-- Returns the line on standard error that reports a fault.
abbrev pub fault_line : FileCommandFault → List ℕ
fault_line fault.File = codes "fault: File\n"
fault_line fault.Utf8 = codes "fault: Utf8\n"
fault_line fault.Input = codes "fault: Input\n"
fault_line fault.Write = codes "fault: Write\n"
fault_line fault.Memory = codes "fault: Memory\n"

-- ---- the errors of a file: one line for each diagnostic (a `ReportedDiagnosis`)

-- Returns the line `L:C: FaultCode: message` that reports a diagnostic. `L` and `C` are the line
-- and the character of this position.
abbrev pub diagnosis_line_at : Position → ReportedDiagnosis → List ℕ
diagnosis_line_at p c =
    decimal p.line
    ++ (codes ":"
    ++ (decimal p.character ++ (codes ": " ++ (c.code ++ (codes ": " ++ (c.message ++ codes "\n"))))))

-- Returns the lines that report these diagnostics, in order. The n-th diagnostic starts at the n-th
-- position.
abbrev pub diagnosis_lines_at_positions : List Position → List ReportedDiagnosis → List ℕ
diagnosis_lines_at_positions [] cs = []
diagnosis_lines_at_positions (p ∷ ps) [] = []
diagnosis_lines_at_positions (p ∷ ps) (c ∷ cs) = diagnosis_line_at p c ++ diagnosis_lines_at_positions ps cs

-- Returns the output line that reports a diagnostic of the text. It contains the position at which
-- the diagnostic starts: a line and a UTF-16 unit, both counted from 0.
abbrev pub diagnosis_line : List ℕ → ReportedDiagnosis → List ℕ
diagnosis_line text c = diagnosis_line_at (position_of (width_of Utf16) (chars text) c.span.start) c

-- Returns the lines that report these diagnostics of the text, in order.
abbrev pub all_diagnosis_lines : List ℕ → List ReportedDiagnosis → List ℕ
all_diagnosis_lines text [] = []
all_diagnosis_lines text (c ∷ cs) = diagnosis_line text c ++ all_diagnosis_lines text cs

-- The diagnostic `TooLong` of a text that is too long. Its span is empty and lies at the start of
-- the text.
abbrev pub too_long_diagnosis : ReportedDiagnosis
too_long_diagnosis = reported_diagnosis_of_fault (record { code = TooLong; span = record { start = 0; end = 0 } })

-- The line that reports that a text is too long: `0:0: TooLong: text too long` and a line feed.
abbrev pub too_long_line : List ℕ
too_long_line = diagnosis_line_at (record { line = 0; character = 0 }) too_long_diagnosis

-- States that the file has errors, and that their lines are appended to the output. If the file has
-- more bytes than a text may have, only `too_long_line` is appended. Otherwise the text isn't a
-- well-typed module, and each diagnostic has a line. If the output's bytes aren't known, nothing is
-- stated about them.
abbrev pub PrintsDiagnostics : List ℕ → Option (List ℕ) → Option (List ℕ) → Type 0
PrintsDiagnostics file before after =
    ((max_text_length < length file) × Appends before after too_long_line)
    ⊎ ((reported : List ReportedDiagnosis)
    × (¬ IsWellTypedModule file)
    × ReportsErrorsOfInvalidText file reported
    × Appends before after (all_diagnosis_lines file reported))

-- ---- the output of a run, and the line that reports its end

-- Returns the text of an output item. A number becomes a space and the number in decimal, and a
-- line end becomes a line feed.
abbrev pub output_item_text : PrintedItem → List ℕ
output_item_text (printed_number n) = codes " " ++ signed_decimal n
output_item_text printed_line_end = codes "\n"

-- Returns the text of a run's output: the texts of the items, one after another.
abbrev pub output_text : List PrintedItem → List ℕ
output_text [] = []
output_text (w ∷ ws) = output_item_text w ++ output_text ws

-- States that `text`, except its last part `left`, is appended to the output. If the output's bytes
-- aren't known, nothing is stated about them.
pub record IsWrittenExceptLastPart (before after : Option (List ℕ)) (text left : List ℕ) : Type 0 where
  pub written : List ℕ
  pub appends_written : Appends before after written
  pub split : text ≡ written ++ left

-- Returns the line that reports the end of a run. Returns None for `Done`, the normal end.
abbrev pub run_end_line : End → Option (List ℕ)
run_end_line end.Done = None
run_end_line end.Overflow = Some (codes "fault: Overflow\n")
run_end_line end.Divisor = Some (codes "fault: Divisor\n")
run_end_line end.Index = Some (codes "fault: Index\n")
run_end_line end.InputEnd = Some (codes "fault: InputEnd\n")
run_end_line end.CallBound = Some (codes "fault: CallBound\n")
run_end_line end.TurnBound = Some (codes "fault: TurnBound\n")
