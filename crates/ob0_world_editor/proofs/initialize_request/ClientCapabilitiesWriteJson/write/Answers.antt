use Rattle.std.proofs.Common.{refl}
use Rattle.std.proofs.lemmas.Result.{on_ok_weaker}
use Rattle.ob0_rpc.proofs.AppendedJson.{object_of}
use Rattle.ob0_world_editor.proofs.initialize_request.ClientCapabilitiesWriteJson.write.Goals as goal

pub returns-in-Utf16 : goal.returns-in-Utf16
returns-in-Utf16 c = rw c.in-Utf16.is (on_ok_weaker c.write_two_members.result (object_of _ _ _ _ _ refl refl) c.write_two_members.ensures)

pub returns-in-Utf8 : goal.returns-in-Utf8
returns-in-Utf8 c =
    let members = rw c.as_slice.ensures at c.write_three_members.ensures in
    rw c.in-Utf8.is (on_ok_weaker c.write_three_members.result (object_of _ _ _ _ _ refl refl) members)
