use Rattle.ob0_cli.proofs.line.run_subcommand.Goals as goal

pub returns : goal.returns
returns c =
    let one_is = c.add_argument-with_file.ensures _ _ c.word_argument-file.ensures.own c.word_argument-file.ensures.rule c.command_with_help-alone.ensures in
    let two_is = c.add_argument-with_calls.ensures _ _ c.calls_argument.ensures.own c.calls_argument.ensures.rule one_is in
    c.add_argument.ensures _ _ c.turns_argument.ensures.own c.turns_argument.ensures.rule two_is
