use Rattle.std.proofs.Common.{string_bytes}
use Rattle.ob0_types_table.proofs.FirstFields.{filled_on}
use Rattle.ob0_types_table.proofs.field_table.first_fields_by_name.Goals as goal

pub loop-left-preserved : goal.loop-left-preserved
loop-left-preserved c =
    let field = c.index-fields-left.result in
    filled_on c.loop-left.first c.insert.new.self c.args.fields.now c.loop-left.left (string_bytes c.in_ok-clone.field-0) field field c.loop-left.invariant c.loop-left-test.true c.index-fields-left.is c.in_ok-clone.ensures.cases c.in_ok-insert.ensures.updates
