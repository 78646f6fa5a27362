use Rattle.std.proofs.Common.{refl}
use Rattle.std.proofs.lemmas.Result.{on_ok_weaker}
use Rattle.std.proofs.lemmas.Str.{IsUtf8-from_ascii}
use Rattle.ob0_world_editor.proofs.initialize_request.EmptyObjectWriteJson.write.Goals as goal

pub returns : goal.returns
returns c = on_ok_weaker c.write_empty_object.result (λ is. record { text = is; reads = record { reads = refl; numbers = tt; utf8 = IsUtf8-from_ascii _ (search Rattle.std.proofs.Common.rules) } }) c.write_empty_object.ensures
