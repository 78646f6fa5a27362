use Rattle.std.proofs.Common.{◌≡◌, ◌∙◌, ap₂}
use Rattle.std.proofs.lemmas.Result.{IfOk-weaker}
use Rattle.clap.specs.Words.{app_of, with_rule}
use Rattle.ob0_cli.proofs.line.add_argument.Goals as goal

pub returns : goal.returns
returns c app rule own is before_is =
    let before : app_of c.in_ok-command.field-0 ≡ app = rw c.in_ok-command.was at before_is in
    IfOk-weaker c.arg.result _ _ (λ r h. h.shape own ∙ ap₂ with_rule before is) c.arg.ensures
