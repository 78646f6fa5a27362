use Rattle.std.proofs.Common.{◌≡◌, Bool, true, false, codes, refl}
use Rattle.std.proofs.lemmas.Result.{on_ok_weaker}
use Rattle.serde_json.specs.Data.{Members, boolean, member, no_members}
use Rattle.ob0_rpc.specs.declared.client_capabilities.ClientFeatures.{ClientFeatures}
use Rattle.ob0_rpc.proofs.AppendedJson.{are_names, object_of, rebuilt}
use Rattle.ob0_session_json.specs.JsonShapes.{code_action_options, members_after_definition_provider}
use Rattle.ob0_session_json.proofs.capabilities.ServerCapabilitiesWriteJson.write.Goals as goal

abbrev from_definition : ClientFeatures → Members
from_definition client = member (codes "definitionProvider") (boolean true) (members_after_definition_provider client)

abbrev from_actions : ClientFeatures → Members
from_actions client = member (codes "codeActionProvider") code_action_options (from_definition client)

names_by : (offers : Bool) (client : ClientFeatures) → client.offers_utf8 ≡ offers → are_names (from_definition client) ≡ true
names_by true client is = rw is refl
names_by false client is = rw is refl

action_names : (offers : Bool) (client : ClientFeatures) → client.offers_utf8 ≡ offers → are_names (from_actions client) ≡ true
action_names true client is = rw is refl
action_names false client is = rw is refl

order_by : (offers : Bool) (client : ClientFeatures) → client.offers_utf8 ≡ offers → rebuilt (from_definition client) no_members ≡ from_definition client
order_by true client is = rw is refl
order_by false client is = rw is refl

action_order : (offers : Bool) (client : ClientFeatures) → client.offers_utf8 ≡ offers → rebuilt (from_actions client) no_members ≡ from_actions client
action_order true client is = rw is refl
action_order false client is = rw is refl

pub returns-in_ok-write_next_member : goal.returns-in_ok-write_next_member
returns-in_ok-write_next_member c =
    let client = c.args.self.now.client in
    rw c.if-self.true
    (on_ok_weaker c.write_members_after_definition_provider.result (λ rest.
    object_of _ _ (from_definition client) _ _ (action_names client.offers_utf8 client refl) (action_order client.offers_utf8 client refl) (_, c.in_ok-write_first_member.ensures, (_, c.in_ok-write_next_member.ensures, rest))) c.write_members_after_definition_provider.ensures)

pub returns-in_ok-write_first_member-2 : goal.returns-in_ok-write_first_member-2
returns-in_ok-write_first_member-2 c =
    let client = c.args.self.now.client in
    rw c.if-self.false
    (on_ok_weaker c.write_members_after_definition_provider-else-self.result (λ rest.
    object_of _ _ (members_after_definition_provider client) _ _ (names_by client.offers_utf8 client refl) (order_by client.offers_utf8 client refl) (_, c.in_ok-write_first_member-2.ensures, rest)) c.write_members_after_definition_provider-else-self.ensures)
