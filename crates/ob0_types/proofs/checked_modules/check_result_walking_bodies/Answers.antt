use Rattle.std.proofs.Common.{sym, ◌∙◌, subst}
use Rattle.ob0_types_check.specs.WalksOverSomeBodies.{IncludesChangedAndFaultyBodies, is_body_in_list}
use Rattle.ob0_types.proofs.checked_modules.check_result_walking_bodies.Goals as goal

pub module_report_walking_some_bodies-requires : goal.module_report_walking_some_bodies-requires
module_report_walking_some_bodies-requires c =
    subst (λ found. IncludesChangedAndFaultyBodies (is_body_in_list found) c.args.resolved.now) (sym (c.as_slice.ensures.value ∙ c.in_ok-push.ensures.items)) c.requires
