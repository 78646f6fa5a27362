-- Defines which command is requested by the words of a command line.
-- Rule: docs/PROTOCOL.md, The program; clap's definition of a command line.
use Rattle.std.specs.Prelude.{◌≡◌, ◌⊎◌, ◌≤◌, ℕ, List, [], Option, Some, codes, if◌then◌else◌, pos}
use Rattle.std.specs.Str.{bytes_eq}
use Rattle.std.specs.Str.Parse.{digits_value, without_leading_plus}
use Rattle.clap.specs.Kinds.{IsAmong}
use Rattle.clap.specs.declared.error.kind.ErrorKind.TheVariants.{OutOfMemory}
use Rattle.clap.specs.Lexer.{without_minus}
use Rattle.clap.specs.Values.{IsSignedIn, IsUnsignedIn}
use Rattle.clap.specs.Words.{Row, Text, fault_of, first_of, kind_of, one_of, subcommand_of}
use Rattle.ob0_cli.specs.ClapCommands.{max_calls, max_turns, ob0_app}
use Rattle.ob0_cli.specs.declared.line.CommandLine.{CommandLine}
use Rattle.ob0_cli.specs.declared.line.CommandLine.TheVariants.{Serve, Check, Run, Rename}
use Rattle.ob0_cli.specs.declared.line.CommandFault.{CommandFault}
use Rattle.ob0_cli.specs.declared.line.CommandFault.TheVariants.{Refused, Memory}

-- The subcommand that clap found in a command line: its name and the values of its arguments. None
-- means that there is no subcommand.
abbrev pub FoundSubcommand : Type 0
FoundSubcommand = Option (Text × List Row)

-- States that the value of the argument `id` is the number `n`. `rows` has the arguments' values
-- that clap found on the command line, or the default values.
abbrev pub HasNumberValue : Text → List Row → ℕ → Type 0
HasNumberValue id rows n =
    (digits : Text)
    × (one_of id rows ≡ Some digits)
    × (n ≡ digits_value 10 (without_leading_plus digits))

-- States that the command belongs to the subcommand with this name, and has the values that clap
-- found for the subcommand's arguments (`rows`). The numbers `calls` and `turns` are within their
-- limits.
abbrev pub IsCommandWithFoundValues : Text → List Row → CommandLine → Type 0
IsCommandWithFoundValues name rows Serve = name ≡ codes "serve"
IsCommandWithFoundValues name rows (Check file) =
    (name ≡ codes "check") × (first_of (codes "file") rows ≡ Some file.now)
IsCommandWithFoundValues name rows (Run file calls turns) =
    (name ≡ codes "run") × (first_of (codes "file") rows ≡ Some file.now)
    × HasNumberValue (codes "calls") rows calls
    × (calls ≤ max_calls)
    × HasNumberValue (codes "turns") rows turns
    × (turns ≤ max_turns)
IsCommandWithFoundValues name rows (Rename file position new) =
    (name ≡ codes "rename") × (first_of (codes "file") rows ≡ Some file.now)
    × HasNumberValue (codes "line") rows position.line
    × HasNumberValue (codes "column") rows position.character
    × (first_of (codes "name") rows ≡ Some new.now)

-- States that the command reads a file and that this is the file's path.
abbrev pub HasFilePath : CommandLine → Text → Type 0
HasFilePath Serve path = ⊥
HasFilePath (Check file) path = file.now ≡ path
HasFilePath (Run file calls turns) path = file.now ≡ path
HasFilePath (Rename file position new) path = file.now ≡ path

-- States that a subcommand was found, and that the command is that subcommand with the values found
-- for its arguments.
abbrev pub YieldsCommandLine : FoundSubcommand → CommandLine → Type 0
YieldsCommandLine found line =
    (name : Text) × (rows : List Row) × (found ≡ Some (name, rows)) × IsCommandWithFoundValues name rows line

-- States that the words have no fault according to clap's definition of `ob0` (`ob0_app`), and that
-- they request this command.
pub record SpellsCommand (words : List Text) (line : CommandLine) : Type 0 where
  pub has_no_fault : fault_of ob0_app words ≡ []
  pub read : YieldsCommandLine (subcommand_of ob0_app words) line

-- States that the words may be refused with this fault. If the fault is a clap error (`Refused`),
-- clap's specs must allow its kind for the first fault of the words. The kind must not be
-- `OutOfMemory`. For `help` and for an unknown subcommand, clap's specs allow two kinds. The fault
-- `Memory` is allowed for any words.
abbrev pub MayBeRefusedWithFault : List Text → CommandFault → Type 0
MayBeRefusedWithFault words (Refused error) =
    IsAmong (kind_of error) (fault_of ob0_app words) × ¬ (kind_of error ≡ OutOfMemory)
MayBeRefusedWithFault words Memory = Unit {0}

-- ---- the values that clap finds for the arguments of a subcommand, and their kinds

-- States that clap found a value for the argument `id`, and that the value is a text.
abbrev pub HasTextValue : Text → List Row → Type 0
HasTextValue id rows = (text : Text) × (first_of id rows ≡ Some text)

-- Returns the greatest number that the option with this name accepts: `max_calls` for `calls`, and
-- `max_turns` for `turns` and every other name.
abbrev pub max_option_value : Text → ℕ
max_option_value id = if bytes_eq id (codes "calls") then max_calls else max_turns

-- States that the value of the option `id` is a number from 0 to the greatest number that the
-- option accepts (`max_option_value`).
abbrev pub HasBoundedValue : Text → List Row → Type 0
HasBoundedValue id rows =
    (text : Text)
    × (one_of id rows ≡ Some (without_minus text))
    × IsSignedIn (pos 0) (pos (max_option_value id)) text

-- States that the value of the argument `id` (a line or a column) is an unsigned number of 64 bits.
abbrev pub HasCoordinateValue : Text → List Row → Type 0
HasCoordinateValue id rows =
    (text : Text) × (one_of id rows ≡ Some text) × IsUnsignedIn 0 18446744073709551615 text

-- States that the subcommand with this name has a value of the right kind for each argument that it
-- needs.
abbrev pub HasNeededValues : Text → List Row → Type 0
HasNeededValues name rows = (name ≡ codes "serve") ⊎ ((name ≡ codes "check") × HasTextValue (codes "file") rows)
    ⊎ ((name ≡ codes "run")
    × HasTextValue (codes "file") rows
    × HasBoundedValue (codes "calls") rows
    × HasBoundedValue (codes "turns") rows)
    ⊎ ((name ≡ codes "rename")
    × HasTextValue (codes "file") rows
    × HasCoordinateValue (codes "line") rows
    × HasCoordinateValue (codes "column") rows
    × HasTextValue (codes "name") rows)

-- States that a subcommand was found, and that it has a value of the right kind for each argument
-- that it needs.
abbrev pub IsCompleteSubcommand : FoundSubcommand → Type 0
IsCompleteSubcommand found =
    (name : Text) × (rows : List Row) × (found ≡ Some (name, rows)) × HasNeededValues name rows
