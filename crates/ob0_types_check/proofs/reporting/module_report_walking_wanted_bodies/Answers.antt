use Rattle.std.proofs.Common.{sym, ap, ◌∙◌}
use Rattle.ob0_tree.specs.View.{block_of}
use Rattle.ob0_types_check.specs.DeclarationFaults.{report_on_block}
use Rattle.ob0_types_check.specs.WalksOverSomeBodies.{includes_body}
use Rattle.ob0_types_check.specs.CheckerViews.{declarations_in_state}
use Rattle.ob0_types_check.proofs.ResultWithFaults.{walked}
use Rattle.ob0_types_check.proofs.reporting.module_report_walking_wanted_bodies.Goals as goal

pub into_report-requires : goal.into_report-requires
into_report-requires c =
    let r = c.args.resolved.now in
    let start = c.in_ok-reporter.reporter in
    let t = c.report_block.new.self in
    let bodies_with_faults = c.report_block.new.bodies_with_faults.items in
    let same = c.block.ensures ∙ ap (λ m. m.block) c.module-read.ensures.value in
    let own = c.closing_name.ensures ∙ ap (λ m. m.closing) c.module-read.ensures.value in
    let none = c.new-bodies_with_faults.ensures.items in
    let begins = c.in_ok-reporter.ensures.checker_state in
    walked r start.faults.items t.faults.items t.checker_state bodies_with_faults (report_on_block (includes_body c.args.wanted.now) c.closing_name.result (record { so_far = declarations_in_state start.checker_state; bodies_with_faults = c.new-bodies_with_faults.result.items }) (block_of c.block.result.now)) c.in_ok-reporter.ensures.faults
    (sym c.requires ∙ (λ i. report_on_block (includes_body c.args.wanted.now) (sym own i) (record { so_far = sym begins i; bodies_with_faults = sym none i }) (block_of (sym same i)))) c.in_ok-report_block.ensures
