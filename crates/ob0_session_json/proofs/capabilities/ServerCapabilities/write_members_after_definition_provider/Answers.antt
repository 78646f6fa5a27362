use Rattle.std.proofs.lemmas.Result.{on_ok_weaker}
use Rattle.ob0_session_json.proofs.capabilities.ServerCapabilities.write_members_after_definition_provider.Goals as goal

pub returns-in_ok-write_next_member-3 : goal.returns-in_ok-write_next_member-3
returns-in_ok-write_next_member-3 c =
    rw c.if-self.true (on_ok_weaker c.write_members_after_position_encoding.result (λ rest. (_, c.in_ok-write_next_member.ensures, (_, c.in_ok-write_next_member-2.ensures, (_, c.in_ok-write_next_member-3.ensures, rest)))) c.write_members_after_position_encoding.ensures)

pub returns-else-self : goal.returns-else-self
returns-else-self c = rw c.if-self.false (on_ok_weaker c.write_members_after_position_encoding-else-self.result (λ rest. (_, c.in_ok-write_next_member.ensures, (_, c.in_ok-write_next_member-2.ensures, rest))) c.write_members_after_position_encoding-else-self.ensures)
