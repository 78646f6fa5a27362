use Rattle.std.proofs.lemmas.Result.{on_ok_weaker}
use Rattle.ob0_session_json.proofs.capabilities.ServerCapabilities.write_members_after_position_encoding.Goals as goal

pub returns : goal.returns
returns c = on_ok_weaker c.end_object.result (λ is. (_, c.in_ok-write_next_member.ensures, (_, c.in_ok-write_next_member-2.ensures, (_, c.in_ok-write_next_member-3.ensures, is)))) c.end_object.ensures
