use Rattle.std.proofs.Common.{◌≡◌, List, ap, map, refl, rules, sym, w64, to_z, of_z}
use Rattle.std.proofs.lemmas.Result.{on_ok_weaker}
use mathlib.Core.List.{map-map}
use Rattle.serde_json.specs.Data.{Data, array}
use Rattle.serde_json.specs.View.{items_of}
use Rattle.ob0_rpc.proofs.AppendedJson.{object_of}
use Rattle.ob0_session_json.specs.JsonViews.{diagnostic_view}
use Rattle.ob0_session_json.specs.JsonShapes.{diagnostic_value, diagnostic_list_value}
use Rattle.ob0_session_json.specs.declared.publication.Diagnostic.{Diagnostic}
use Rattle.ob0_session_json.proofs.publication.PublishDiagnosticsParamsWriteJson.write.Goals as goal

-- The JSON values of a list of the code's diagnostics are the JSON values of their meanings.
same_list : (ds : List Diagnostic) → array (items_of (map (λ d. diagnostic_value (diagnostic_view d)) ds)) ≡ diagnostic_list_value (map diagnostic_view ds)
same_list ds = sym (ap (λ (es : List Data). array (items_of es)) (map-map diagnostic_value diagnostic_view ds))

pub returns-in_ok-write_next_member-in-Some-2 : goal.returns-in_ok-write_next_member-in-Some-2
returns-in_ok-write_next_member-in-Some-2 c =
    let first = rw (same_list c.args.self.now.diagnostics.now) at c.in_ok-write_first_member-in-Some.ensures in
    let same : to_z w64 (of_z w64 c.in-Some.version) ≡ c.in-Some.version = search rules in
    let version = rw same at c.in_ok-write_next_member-in-Some-2.ensures in
    rw c.in-Some.is (on_ok_weaker c.end_object.result (λ is. object_of _ _ _ _ _ refl refl (_, first, (_, c.in_ok-write_next_member-in-Some.ensures, (_, version, is)))) c.end_object.ensures)

pub returns-in_ok-write_next_member-in-None : goal.returns-in_ok-write_next_member-in-None
returns-in_ok-write_next_member-in-None c =
    let first = rw (same_list c.args.self.now.diagnostics.now) at c.in_ok-write_first_member-in-None.ensures in
    rw c.in-None.is (on_ok_weaker c.end_object-in-None.result (λ is. object_of _ _ _ _ _ refl refl (_, first, (_, c.in_ok-write_next_member-in-None.ensures, is))) c.end_object-in-None.ensures)
