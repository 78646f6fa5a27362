use Rattle.std.proofs.lemmas.Result.{on_ok_weaker}
use Rattle.ob0_rpc.proofs.AppendedJson.{object_named}
use Rattle.ob0_rpc.proofs.objects.OneMemberObjectWriteJson.write.Goals as goal

pub returns : goal.returns
returns g c =
    on_ok_weaker c.write_verbatim-3.result (λ is. object_named _ _ _ _ _ _ _ _ c.in_ok-write_verbatim.ensures c.in_ok-write.ensures c.in_ok-write_verbatim-2.ensures c.in_ok-write-2.ensures is) c.write_verbatim-3.ensures
