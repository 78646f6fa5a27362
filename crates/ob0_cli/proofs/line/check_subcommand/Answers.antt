use Rattle.std.proofs.Common.{◌∙◌, ap₂}
use Rattle.std.proofs.lemmas.Result.{IfOk-weaker}
use Rattle.clap.specs.Words.{with_rule}
use Rattle.ob0_cli.proofs.line.check_subcommand.Goals as goal

pub returns : goal.returns
returns c =
    IfOk-weaker c.arg.result _ _ (λ r h. h.shape c.word_argument-file.ensures.own ∙ ap₂ with_rule c.command_with_help.ensures c.word_argument-file.ensures.rule) c.arg.ensures
