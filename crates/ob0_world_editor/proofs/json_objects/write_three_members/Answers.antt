use Rattle.std.proofs.lemmas.Result.{on_ok_weaker}
use Rattle.ob0_world_editor.proofs.json_objects.write_three_members.Goals as goal

pub returns : goal.returns
returns g c = on_ok_weaker c.end_object.result (λ is. (_, c.in_ok-write_first_member.ensures, (_, c.in_ok-write_next_member.ensures, (_, c.in_ok-write_next_member-2.ensures, is)))) c.end_object.ensures
