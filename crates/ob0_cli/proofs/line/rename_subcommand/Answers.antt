use Rattle.ob0_cli.proofs.line.rename_subcommand.Goals as goal

pub returns : goal.returns
returns c =
    let one_is = c.add_argument-with_file.ensures _ _ c.word_argument-file.ensures.own c.word_argument-file.ensures.rule c.command_with_help-alone.ensures in
    let two_is = c.add_argument-with_line.ensures _ _ c.number_argument-line.ensures.own c.number_argument-line.ensures.rule one_is in
    let three_is = c.add_argument-with_column.ensures _ _ c.number_argument-column.ensures.own c.number_argument-column.ensures.rule two_is in
    c.add_argument.ensures _ _ c.word_argument.ensures.own c.word_argument.ensures.rule three_is
