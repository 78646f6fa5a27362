use Rattle.std.proofs.Common.{map}
use Rattle.std.proofs.lemmas.Result.{on_ok_weaker}
use Rattle.ob0_rpc.proofs.AppendedJson.{array_of}
use Rattle.ob0_rpc.proofs.json_text.RefSliceWriteJson.write.Goals as goal

pub returns : goal.returns
returns g c = on_ok_weaker c.end_list.result (λ is. array_of (map g.W.WriteJson.value c.args.self.now.now) _ _ _ _ c.in_ok-begin_list.ensures c.in_ok-write_all_list_items.ensures is) c.end_list.ensures
