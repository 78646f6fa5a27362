use Rattle.std.proofs.Common.{◌≡◌, ◌∙◌, Ok, ap, ap₂}
use Rattle.std.proofs.lemmas.Result.{IfOk-weaker}
use Rattle.clap.specs.Words.{App, app_of, with_subcommand}
use Rattle.ob0_cli.proofs.Named.{no_globals}
use Rattle.ob0_cli.proofs.line.add_subcommand.Goals as goal

pub returns : goal.returns
returns c app sub plain above_is below_is =
    let above_was : c.args.above ≡ Ok c.in_ok-above.above = c.in_ok-above.was in
    let below_was : c.args.below ≡ Ok c.in_ok-below.below = c.in_ok-below.was in
    let above : app_of c.in_ok-above.above ≡ app = rw above_was at above_is in
    let below : app_of c.in_ok-below.below ≡ sub = rw below_was at below_is in
    let free = no_globals _ _ _ _ (ap (λ (a : App). a.top.is_plain) below ∙ plain) in
    IfOk-weaker c.subcommand.result _ _ (λ r h. h.shape free ∙ ap₂ with_subcommand above (ap (λ (a : App). a.top) below)) c.subcommand.ensures
