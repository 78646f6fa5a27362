use Rattle.std.proofs.Common.{refl}
use Rattle.std.proofs.lemmas.Result.{on_ok_weaker}
use Rattle.ob0_rpc.proofs.AppendedJson.{object_of}
use Rattle.ob0_world_editor.proofs.params.CodeActionParamsWriteJson.write.Goals as goal

pub returns : goal.returns
returns c =
    let members = rw c.as_slice.ensures at c.write_three_members.ensures in
    on_ok_weaker c.write_three_members.result (object_of _ _ _ _ _ refl refl) members
