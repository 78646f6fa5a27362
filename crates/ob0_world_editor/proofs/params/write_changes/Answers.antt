use Rattle.std.proofs.Common.{◌∙◌, false, arith, refl, sym, ap, subst}
use Rattle.std.proofs.lemmas.Bool.{lt-ltb}
use Rattle.ob0_rpc.specs.AppendedJson.{AppendsListItem}
use Rattle.ob0_rpc.proofs.AppendedJson.{each_done, each_next, each_none}
use Rattle.ob0_world_editor.specs.Shapes.{change_value_of_range_and_text, change_value}
use Rattle.ob0_world_editor.proofs.params.write_changes.Goals as goal

pub loop-change-init : goal.loop-change-init
loop-change-init c = (each_none false _, refl)

pub loop-change-preserved : goal.loop-change-preserved
loop-change-preserved c =
    let is = ap (change_value_of_range_and_text c.change-item.result.range) c.as_str-text.ensures.value ∙ ap change_value c.change-item.is in (
      each_next change_value c.args.changes.now c.loop-change.change-index _ _ _ _ _ (omega arith) c.loop-change.invariant.0 c.loop-change.invariant.1
          (subst (λ e. AppendsListItem c.loop-change.later e c.loop-change.out.items c.write_list_item.new.out.items) is c.in_ok-write_list_item.ensures),
      sym (lt-ltb 0 _ (omega arith)),
    )

pub returns : goal.returns
returns c = each_done change_value c.args.changes.now c.loop-change.change-index _ _ (omega arith) c.loop-change.invariant.0
