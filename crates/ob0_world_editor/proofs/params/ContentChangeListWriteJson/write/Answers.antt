use Rattle.std.proofs.Common.{map}
use Rattle.std.proofs.lemmas.Result.{on_ok_weaker}
use Rattle.ob0_rpc.proofs.AppendedJson.{array_of}
use Rattle.ob0_world_editor.specs.Shapes.{change_value}
use Rattle.ob0_world_editor.proofs.params.ContentChangeListWriteJson.write.Goals as goal

pub returns : goal.returns
returns c = on_ok_weaker c.end_list.result (λ is. array_of (map change_value c.args.self.now.changes.now) _ _ _ _ c.in_ok-begin_list.ensures c.in_ok-write_changes.ensures is) c.end_list.ensures
