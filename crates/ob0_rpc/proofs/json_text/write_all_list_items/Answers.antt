use Rattle.std.proofs.Common.{false, arith, refl, sym, subst}
use Rattle.std.proofs.lemmas.Bool.{lt-ltb}
use Rattle.ob0_rpc.specs.AppendedJson.{AppendsListItem}
use Rattle.ob0_rpc.proofs.AppendedJson.{each_done, each_next, each_none}
use Rattle.ob0_rpc.proofs.json_text.write_all_list_items.Goals as goal

pub loop-value-init : goal.loop-value-init
loop-value-init g c = (each_none false _, refl)

pub loop-value-preserved : goal.loop-value-preserved
loop-value-preserved g c = (
  each_next g.W.WriteJson.value c.args.values.now c.loop-value.value-index _ _ _ _ _ (omega arith) c.loop-value.invariant.0 c.loop-value.invariant.1
      (subst (λ e. AppendsListItem c.loop-value.needs_comma (g.W.WriteJson.value e) c.loop-value.out.items c.write_list_item_and_reserve.new.out.items) c.value-item.is c.in_ok-write_list_item_and_reserve.ensures),
  sym (lt-ltb 0 _ (omega arith)),
)

pub returns : goal.returns
returns g c = each_done g.W.WriteJson.value c.args.values.now c.loop-value.value-index _ _ (omega arith) c.loop-value.invariant.0
