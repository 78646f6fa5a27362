use Rattle.std.proofs.Common.{refl, ◌∙◌}
use Rattle.ob0_run_machine.proofs.Executing.{entered_as, enters_as, level_made}
use Rattle.ob0_run_machine.proofs.statements.enter_procedure.Goals as goal

pub returns : goal.returns
returns g c = λ ls e. enters_as c.args.c.now.procedure c.args.c.now.up c.args.base c.args.addresses.now ls _ (level_made _ ∙ entered_as refl refl e)
    (λ enters performs. performs _ _ _ _ _ c.enter.ensures)
