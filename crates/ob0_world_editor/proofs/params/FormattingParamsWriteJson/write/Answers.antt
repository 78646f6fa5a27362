use Rattle.std.proofs.Common.{refl}
use Rattle.std.proofs.lemmas.Result.{on_ok_weaker}
use Rattle.ob0_rpc.proofs.AppendedJson.{object_of}
use Rattle.ob0_world_editor.proofs.params.FormattingParamsWriteJson.write.Goals as goal

pub returns : goal.returns
returns c = on_ok_weaker c.write_two_members.result (object_of _ _ _ _ _ refl refl) c.write_two_members.ensures
