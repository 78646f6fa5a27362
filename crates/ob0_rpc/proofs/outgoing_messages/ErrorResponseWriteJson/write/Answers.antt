use Rattle.std.proofs.Common.{◌≡◌, Option, Some, None, option_map, codes, refl, subst}
use Rattle.std.proofs.lemmas.Result.{on_ok_weaker}
use Rattle.serde_json.specs.Data.{Data}
use Rattle.ob0_rpc.specs.AppendedJson.{AppendsMember, json_or_null}
use Rattle.ob0_rpc.specs.MessageViews.{json_of_id, id_or_null}
use Rattle.ob0_rpc.specs.declared.incoming_messages.Id.{Id}
use Rattle.ob0_rpc.proofs.AppendedJson.{object_of}
use Rattle.ob0_rpc.proofs.outgoing_messages.ErrorResponseWriteJson.write.Goals as goal

same_id : {A : Type 0} (of : A → Id) (o : Option A) → json_or_null (λ a. json_of_id (of a)) o ≡ id_or_null (option_map of o)
same_id of (Some a) = refl
same_id of None = refl

pub returns : goal.returns
returns c =
    let id = subst (λ (d : Data). AppendsMember 44 (codes "id") d c.write_first_member.new.out.items c.write_next_member.new.out.items) (same_id (λ i. i.now) c.args.self.now.id) c.in_ok-write_next_member.ensures in
    on_ok_weaker c.end_object.result (λ is. object_of _ _ _ _ _ refl refl (_, c.in_ok-write_first_member.ensures, (_, id, (_, c.in_ok-write_next_member-2.ensures, is)))) c.end_object.ensures
