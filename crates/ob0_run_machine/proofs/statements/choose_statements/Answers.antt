use Rattle.std.proofs.Common.{length, arith, ap, ◌∙◌}
use Rattle.ob0_run_machine.specs.Levels.{levels_of}
use Rattle.ob0_run_machine.specs.LoweredCodeViews.{statement_of}
use Rattle.ob0_run_machine.proofs.Executing.{only_if_fails, only_if_passed, only_if_taken, only_item, settled}
use Rattle.ob0_run_machine.proofs.Viewed.{if_made}
use Rattle.ob0_run_machine.proofs.statements.choose_statements.Goals as goal

pub returns-in-Ok-true : goal.returns-in-Ok-true
returns-in-Ok-true c = only_if_taken c.args.machine.now (levels_of c.args.level.now) c.in-If.i c.first-item.result c.deref.result.now
    (only_item c.args.statements.now c.first-item.result c.in-len1.len_below c.in-len1.len_at_least c.first-item.is)
    (ap statement_of c.in-If.is ∙ if_made c.in-If.i) (settled c.in-Ok-true.ensures c.in-Ok-true.field-0-test) c.deref.ensures.value

pub returns-in-Ok-false : goal.returns-in-Ok-false
returns-in-Ok-false c = only_if_passed c.args.machine.now (levels_of c.args.level.now) c.in-If.i c.first-item.result c.deref-in-Ok-false.result.now
    (only_item c.args.statements.now c.first-item.result c.in-len1.len_below c.in-len1.len_at_least c.first-item.is)
    (ap statement_of c.in-If.is ∙ if_made c.in-If.i) (settled c.in-Ok-false.ensures c.in-Ok-false.field-0-test)
    (omega (arith, ap length c.as_slice-others.ensures.value, c.if-count-gt0.false)) c.deref-in-Ok-false.ensures.value

pub returns-in-Err : goal.returns-in-Err
returns-in-Err c = only_if_fails c.args.machine.now (levels_of c.args.level.now) c.in-If.i c.first-item.result c.in-Err.fault
    (only_item c.args.statements.now c.first-item.result c.in-len1.len_below c.in-len1.len_at_least c.first-item.is)
    (ap statement_of c.in-If.is ∙ if_made c.in-If.i) c.in-Err.ensures
