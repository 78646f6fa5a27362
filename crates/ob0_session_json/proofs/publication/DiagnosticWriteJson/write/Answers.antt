use Rattle.std.proofs.Common.{codes, refl, subst}
use Rattle.std.proofs.lemmas.Result.{on_ok_weaker}
use Rattle.ob0_rpc.specs.AppendedJson.{AppendsMember}
use Rattle.ob0_rpc.specs.JsonShapes.{text_value}
use Rattle.ob0_rpc.proofs.AppendedJson.{object_of}
use Rattle.ob0_session_json.proofs.publication.DiagnosticWriteJson.write.Goals as goal

pub returns : goal.returns
returns c =
    let message = subst (λ t. AppendsMember 44 (codes "message") (text_value t) c.write_first_member.new.out.items c.write_next_member.new.out.items) c.as_str.ensures.value c.in_ok-write_next_member.ensures in
    on_ok_weaker c.end_object.result (λ is. object_of _ _ _ _ _ refl refl (_, c.in_ok-write_first_member.ensures, (_, message, (_, c.in_ok-write_next_member-2.ensures, (_, c.in_ok-write_next_member-3.ensures, is))))) c.end_object.ensures
