use Rattle.ob0_types.proofs.OneBody.{were_faulty}
use Rattle.ob0_types.proofs.checked_modules.check_result_after_body_change.Goals as goal

pub check_result_walking_bodies-requires : goal.check_result_walking_bodies-requires
check_result_walking_bodies-requires c = were_faulty c.args.resolved.now c.args.before c.args.closing c.requires c.module-module.ensures.resolved
