use Rattle.clap.specs.Words.{found_of, rows_of}
use Rattle.ob0_cli.proofs.Named.{entered_is}
use Rattle.ob0_cli.proofs.line.command_line_of.Goals as goal

pub command_line_for_subcommand-requires : goal.command_line_for_subcommand-requires
command_line_for_subcommand-requires c = (entered_is c.args.matches.now c.in-Some.given.now c.in-Some.name.now c.requires c.in-Some.ensures.name c.in-Some.ensures.rows).1

pub returns : goal.returns
returns c =
    let is = (entered_is c.args.matches.now c.in-Some.given.now c.in-Some.name.now c.requires c.in-Some.ensures.name c.in-Some.ensures.rows).0 in
    (c.in-Some.name.now, rows_of (found_of c.in-Some.given.now), is, c.command_line_for_subcommand.ensures)
