use Rattle.ob0_rpc.proofs.AppendedJson.{written}
use Rattle.ob0_rpc.proofs.outgoing_messages.content_of_message.Goals as goal

pub returns : goal.returns
returns g c shallow = written _ _ _ c.new-out.ensures.items c.in_ok-write.ensures shallow
