use Rattle.std.proofs.Common.{refl}
use Rattle.std.proofs.lemmas.Result.{on_ok_weaker}
use Rattle.ob0_rpc.proofs.AppendedJson.{object_of}
use Rattle.ob0_rpc.proofs.outgoing_messages.SuccessResponseWriteJson.write.Goals as goal

pub returns : goal.returns
returns g c = on_ok_weaker c.end_object.result (λ is. object_of _ _ _ _ _ refl refl (_, c.in_ok-write_first_member.ensures, (_, c.in_ok-write_next_member.ensures, (_, c.in_ok-write_next_member-2.ensures, is)))) c.end_object.ensures
