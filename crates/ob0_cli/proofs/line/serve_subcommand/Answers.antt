use Rattle.ob0_cli.proofs.line.serve_subcommand.Goals as goal

pub returns : goal.returns
returns c =
    let one_is = c.add_argument-with_stdio.ensures _ _ c.stdio_argument.ensures.own c.stdio_argument.ensures.rule c.serve_without_options.ensures in
    c.add_argument.ensures _ _ c.client_process_argument.ensures.own c.client_process_argument.ensures.rule one_is
