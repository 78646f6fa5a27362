use Rattle.std.proofs.Common.{◌∙◌, option_map, sym, ap}
use Rattle.serde_json.specs.Find.{get}
use Rattle.serde_json.specs.View.{view}
use Rattle.serde_json.proofs.Views.{view-Object, view-lookup}
use Rattle.ob0_rpc.proofs.members.into_member.Goals as goal

pub returns : goal.returns
returns c =
    let members = c.in-Object.members in
    let name = c.args.name.now in
    ap (option_map view) c.remove.ensures.value ∙ (view-lookup name members.entries ∙ sym (ap (get name) (ap view c.in-Object.is ∙ view-Object members)))
