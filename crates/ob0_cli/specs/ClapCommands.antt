-- Defines the program `ob0` and its subcommands (each is an `App` of clap's specs) and their
-- arguments (each is a `Rule`).
-- Rule: docs/PROTOCOL.md, The program; clap's definition of a command line.
use Rattle.std.specs.Prelude.{[], ◌∷◌, ℕ, pos, true, Some, codes}
use Rattle.clap.specs.Words.{App, Rule, Text, new_app, new_rule, with_rule, with_subcommand}
use Rattle.clap.specs.declared.builder.ArgAction.TheVariants.{Set, SetTrue}
use Rattle.clap.specs.declared.builder.value_parser.ValueParser.TheVariants.{Signed, Unsigned}

-- Returns clap's rule for the required argument `id`. Any word is accepted as the argument's value.
-- The help shows one placeholder for the value, such as FILE.
abbrev pub required_word_rule : Text → Rule
required_word_rule id = record (new_rule id) { action = Some Set; value_names = 1; required = true }

-- Returns clap's rule for a required argument whose value is an unsigned number of 64 bits.
abbrev pub required_number_rule : Text → Rule
required_number_rule id = record (required_word_rule id) { parser = Some (Unsigned 0 18446744073709551615) }

-- The greatest value of the option `--calls`. The option limits how many calls may be open at a
-- time in a run.
abbrev pub max_calls : ℕ
max_calls = 64

-- The greatest value of the option `--turns`. The option limits the iterations of each execution of
-- a loop in a run.
abbrev pub max_turns : ℕ
max_turns = 100000

-- clap's rule for the option `--calls`: a number from 0 to 64, by default 64.
abbrev pub calls_rule : Rule
calls_rule = record (new_rule (codes "calls")) {
  long = Some (codes "calls");
  parser = Some (Signed (pos 0) (pos max_calls));
  value_names = 1;
  defaults = codes "64" ∷ [];
}

-- clap's rule for the option `--turns`: a number from 0 to 100,000, by default 100,000.
abbrev pub turns_rule : Rule
turns_rule = record (new_rule (codes "turns")) {
  long = Some (codes "turns");
  parser = Some (Signed (pos 0) (pos max_turns));
  value_names = 1;
  defaults = codes "100000" ∷ [];
}

-- clap's rule for the option `--stdio`, which selects standard input and output (LSP 3.17,
-- implementation considerations). `serve` uses them even without the option.
abbrev pub stdio_rule : Rule
stdio_rule =
    record (new_rule (codes "stdio")) { long = Some (codes "stdio"); action = Some SetTrue }

-- clap's rule for the option `--clientProcessId`, whose value is the client's process id (LSP 3.17,
-- implementation considerations). Any word is accepted as the value and ignored.
abbrev pub client_process_rule : Rule
client_process_rule =
    record (new_rule (codes "client")) { long = Some (codes "clientProcessId"); value_names = 1 }

-- The subcommand `serve` without its options. On a command line, each option may occur several
-- times, because a client may add an option that the user has also written.
abbrev pub serve_without_options : App
serve_without_options =
    record (new_app (codes "serve"))
    { top = record (new_app (codes "serve")).top { args_override_self = true } }

-- The subcommand `serve`, which accepts no arguments except its two options.
abbrev pub serve_app : App
serve_app = with_rule (with_rule serve_without_options stdio_rule) client_process_rule

-- The subcommand `ob0 check FILE`.
abbrev pub check_app : App
check_app = with_rule (new_app (codes "check")) (required_word_rule (codes "file"))

-- The subcommand `ob0 run FILE [--calls N] [--turns N]`.
abbrev pub run_app : App
run_app =
    with_rule (with_rule (with_rule (new_app (codes "run")) (required_word_rule (codes "file"))) calls_rule)
    turns_rule

-- The subcommand `ob0 rename FILE LINE COLUMN NAME`.
abbrev pub rename_app : App
rename_app =
    with_rule (with_rule (with_rule (with_rule (new_app (codes "rename"))
    (required_word_rule (codes "file")))
    (required_number_rule (codes "line")))
    (required_number_rule (codes "column")))
    (required_word_rule (codes "name"))

-- The program `ob0` without its subcommands. It has a version, and requires one subcommand.
abbrev pub ob0_without_subcommands : App
ob0_without_subcommands =
    record (new_app (codes "ob0"))
    { top = record (new_app (codes "ob0")).top { subcommand_required = true; has_version = true } }

-- The program `ob0` with its four subcommands. clap also adds the subcommand `help`.
abbrev pub ob0_app : App
ob0_app =
    with_subcommand
    (with_subcommand (with_subcommand (with_subcommand ob0_without_subcommands serve_app.top) check_app.top) run_app.top)
    rename_app.top
