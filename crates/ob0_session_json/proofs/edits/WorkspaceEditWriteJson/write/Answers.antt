use Rattle.std.proofs.Common.{◌≡◌, refl, rules, w64, to_z, of_z}
use Rattle.std.proofs.lemmas.Result.{on_ok_weaker}
use Rattle.ob0_rpc.proofs.AppendedJson.{object_of}
use Rattle.ob0_session_json.proofs.edits.WorkspaceEditWriteJson.write.Goals as goal

pub returns-in_ok-write_first_member : goal.returns-in_ok-write_first_member
returns-in_ok-write_first_member c =
    let version : to_z w64 (of_z w64 c.args.self.now.version) ≡ c.args.self.now.version = search rules in
    let first = rw (c.as_slice.ensures, version) at c.in_ok-write_first_member.ensures in
    rw c.if-self.true (on_ok_weaker c.end_object.result (λ is. object_of _ _ _ _ _ refl refl (_, first, is)) c.end_object.ensures)

pub returns-in_ok-write_first_member-2 : goal.returns-in_ok-write_first_member-2
returns-in_ok-write_first_member-2 c =
    rw c.if-self.false (on_ok_weaker c.end_object-else-self.result (λ is. object_of _ _ _ _ _ refl refl (_, c.in_ok-write_first_member-2.ensures, is)) c.end_object-else-self.ensures)
