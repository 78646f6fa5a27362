use Rattle.std.proofs.Common.{get_or, refl, subst}
use Rattle.ob0_types_check.specs.CheckerViews.{CodeFieldsMatchKnownFields}
use Rattle.ob0_types_check.specs.WrittenTypeFaults.{append_known_field, append_known_fields}
use Rattle.ob0_types_check.proofs.GatheredFields.{names_begin, names_end, names_go_on}
use Rattle.ob0_types_check.proofs.reporting.checker_state.CheckerState.add_known_fields.Goals as goal

pub loop-name-init : goal.loop-name-init
loop-name-init c = λ g h. names_begin h

pub loop-name-preserved : goal.loop-name-preserved
loop-name-preserved c = λ g h. names_go_on (get_or c.deref-name-items.result.now c.loop-name.name-index 0) (c.loop-name.invariant g h) c.loop-name-test.true refl c.in_ok-add_known_field-2.ensures

pub returns : goal.returns
returns c = λ g h.
    let first = c.args.names.now.first in
    subst (λ xs. CodeFieldsMatchKnownFields (append_known_fields c.args.of (append_known_field c.args.of g first) xs) c.args.self.now c.loop-name.gathered) c.deref-name-items.ensures.value
    (names_end (c.loop-name.invariant (append_known_field c.args.of g first) (c.in_ok-add_known_field.ensures g h)) c.loop-name-test.false)
