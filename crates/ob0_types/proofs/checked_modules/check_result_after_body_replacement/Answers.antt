use Rattle.std.proofs.Common.{map, ap, ◌∙◌}
use Rattle.ob0_scope_table.specs.BodyReplacement.{shifted_token_index}
use Rattle.ob0_types.proofs.OneBody.{were_faulty_elsewhere}
use Rattle.ob0_types.proofs.checked_modules.check_result_after_body_replacement.Goals as goal

pub check_result_walking_bodies-requires : goal.check_result_walking_bodies-requires
check_result_walking_bodies-requires c =
    let found = rw c.in-Some.is at c.in_ok-bodies.ensures in
    were_faulty_elsewhere c.args.resolved.now c.args.before c.args.same c.args.closing c.requires c.module-module.ensures.resolved c.in-Some.bodies.items
    (found ∙ ap (map (shifted_token_index c.args.same)) c.as_slice.ensures.value)
