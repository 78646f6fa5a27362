use Rattle.std.proofs.Common.{refl}
use Rattle.ob0_cli.specs.ClapCommands as lines
use Rattle.ob0_cli.proofs.line.ob0_command.Goals as goal

pub returns : goal.returns
returns c =
    let one_is = c.add_subcommand-with_serve.ensures lines.ob0_without_subcommands lines.serve_app refl c.program_without_subcommands.ensures c.serve_subcommand.ensures in
    let two_is = c.add_subcommand-with_check.ensures _ lines.check_app refl one_is c.check_subcommand.ensures in
    let three_is = c.add_subcommand-with_run.ensures _ lines.run_app refl two_is c.run_subcommand.ensures in
    c.add_subcommand.ensures _ lines.rename_app refl three_is c.rename_subcommand.ensures
