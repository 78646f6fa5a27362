use Rattle.std.proofs.Common.{◌∙◌, ap, option_map, sym}
use Rattle.ob0_world_rules.specs.TextEdits.{replacement_of_edit}
use Rattle.ob0_world_editor.proofs.ReadEdits.{nothing_read, read_one, none_read, all_read}
use Rattle.ob0_world_editor.proofs.message_reader.read_edit_list.Goals as goal

pub loop-value-preserved : goal.loop-value-preserved
loop-value-preserved c =
    read_one c.args.values.now c.loop-value.value-index c.value-item.result c.loop-value.edits.items c.push.new.self.items c.in-Some.edit c.loop-value-test.true c.value-item.is
    (sym (ap (option_map replacement_of_edit) c.in-Some.is) ∙ c.in_ok-edit.ensures) c.in_ok-push-in-Some.ensures.items c.loop-value.invariant

pub loop-value-init : goal.loop-value-init
loop-value-init c = nothing_read c.args.values.now c.new-edits.result.items c.new-edits.ensures.items

pub returns-in-None : goal.returns-in-None
returns-in-None c =
    none_read c.args.values.now c.loop-value.value-index c.value-item.result c.loop-value.edits.items c.loop-value-test.true c.value-item.is
    (sym (ap (option_map replacement_of_edit) c.in-None.is) ∙ c.in_ok-edit.ensures) c.loop-value.invariant

pub returns : goal.returns
returns c = all_read c.args.values.now c.loop-value.value-index c.loop-value.edits.items c.loop-value-test.false c.loop-value.invariant
