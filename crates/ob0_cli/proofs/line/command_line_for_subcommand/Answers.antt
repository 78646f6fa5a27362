use Rattle.std.proofs.Common.{codes, sym}
use Rattle.std.proofs.lemmas.Slice.Eq.{bytes_eq-Decides}
use Rattle.clap.specs.Words.{found_of, rows_of}
use Rattle.ob0_cli.proofs.Needed.{check_needs, rename_needs, run_needs}
use Rattle.ob0_cli.proofs.line.command_line_for_subcommand.Goals as goal

pub text_value_of-requires : goal.text_value_of-requires
text_value_of-requires c = check_needs c.args.name.now (rows_of (found_of c.args.given.now)) c.requires ((bytes_eq-Decides c.args.name.now (codes "check")).0 (sym c.if-eq-2.ensures))

pub text_value_of-requires-then-eq-3 : goal.text_value_of-requires-then-eq-3
text_value_of-requires-then-eq-3 c = (run_needs c.args.name.now (rows_of (found_of c.args.given.now)) c.requires ((bytes_eq-Decides c.args.name.now (codes "run")).0 (sym c.if-eq-3.ensures))).file

pub bounded_value_of-requires : goal.bounded_value_of-requires
bounded_value_of-requires c = (run_needs c.args.name.now (rows_of (found_of c.args.given.now)) c.requires ((bytes_eq-Decides c.args.name.now (codes "run")).0 (sym c.if-eq-3.ensures))).calls

pub bounded_value_of-requires-then-eq-3 : goal.bounded_value_of-requires-then-eq-3
bounded_value_of-requires-then-eq-3 c = (run_needs c.args.name.now (rows_of (found_of c.args.given.now)) c.requires ((bytes_eq-Decides c.args.name.now (codes "run")).0 (sym c.if-eq-3.ensures))).turns

pub text_value_of-requires-else-eq-3 : goal.text_value_of-requires-else-eq-3
text_value_of-requires-else-eq-3 c = (rename_needs c.args.name.now (rows_of (found_of c.args.given.now)) c.requires (sym c.if-eq.ensures) (sym c.if-eq-2.ensures) (sym c.if-eq-3.ensures)).file

pub coordinate_value_of-requires : goal.coordinate_value_of-requires
coordinate_value_of-requires c = (rename_needs c.args.name.now (rows_of (found_of c.args.given.now)) c.requires (sym c.if-eq.ensures) (sym c.if-eq-2.ensures) (sym c.if-eq-3.ensures)).line

pub coordinate_value_of-requires-else-eq-3 : goal.coordinate_value_of-requires-else-eq-3
coordinate_value_of-requires-else-eq-3 c = (rename_needs c.args.name.now (rows_of (found_of c.args.given.now)) c.requires (sym c.if-eq.ensures) (sym c.if-eq-2.ensures) (sym c.if-eq-3.ensures)).column

pub text_value_of-requires-else-eq-3-2 : goal.text_value_of-requires-else-eq-3-2
text_value_of-requires-else-eq-3-2 c = (rename_needs c.args.name.now (rows_of (found_of c.args.given.now)) c.requires (sym c.if-eq.ensures) (sym c.if-eq-2.ensures) (sym c.if-eq-3.ensures)).new

pub returns-then-eq : goal.returns-then-eq
returns-then-eq c = (bytes_eq-Decides c.args.name.now (codes "serve")).0 (sym c.if-eq.ensures)

pub returns-then-eq-2 : goal.returns-then-eq-2
returns-then-eq-2 c = ((bytes_eq-Decides c.args.name.now (codes "check")).0 (sym c.if-eq-2.ensures), c.text_value_of.ensures)

pub returns-then-eq-3 : goal.returns-then-eq-3
returns-then-eq-3 c = ((bytes_eq-Decides c.args.name.now (codes "run")).0 (sym c.if-eq-3.ensures), c.text_value_of-then-eq-3.ensures, c.bounded_value_of.ensures.number, c.bounded_value_of.ensures.bound, c.bounded_value_of-then-eq-3.ensures.number, c.bounded_value_of-then-eq-3.ensures.bound)

pub returns-else-eq-3 : goal.returns-else-eq-3
returns-else-eq-3 c = ((rename_needs c.args.name.now (rows_of (found_of c.args.given.now)) c.requires (sym c.if-eq.ensures) (sym c.if-eq-2.ensures) (sym c.if-eq-3.ensures)).named, c.text_value_of-else-eq-3.ensures, c.coordinate_value_of.ensures, c.coordinate_value_of-else-eq-3.ensures, c.text_value_of-else-eq-3-2.ensures)
