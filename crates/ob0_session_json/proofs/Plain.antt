-- Proves that publications, edits and actions are nested only a few levels deep.
use Rattle.std.proofs.Common.{◌≡◌, ◌≤◌, ℕ, ℤ, pos, negsuc, List, [], ◌∷◌, Bool, true, false, Option, Some, None, map, arith, refl}
use Rattle.serde_json.specs.Data.{Data, array, depth, items_depth}
use Rattle.serde_json.specs.View.{items_of}
use Rattle.ob0_rpc.specs.WrittenMessages.{FitsInMessage}
use Rattle.ob0_rpc.specs.JsonShapes.{whole_number_value}
use Rattle.ob0_text.specs.declared.edits.Edit.{Edit}
use Rattle.ob0_rpc.specs.declared.client_capabilities.ClientFeatures.{ClientFeatures}
use Rattle.ob0_session_json.specs.JsonShapes.{Diagnostic, code_action_value, diagnostic_value, edit_value, edit_list_value, publication_params, workspace_edit_value}

flat_whole : (z : ℤ) → depth (whole_number_value z) ≡ 0
flat_whole (pos n) = refl
flat_whole (negsuc n) = refl

shallow_list : (ds : List Diagnostic) → items_depth (items_of (map diagnostic_value ds)) ≤ 3
shallow_list [] = omega arith
shallow_list (d ∷ ds) = omega (arith, shallow_list ds)

pub publication_can_be_sent : (uri : List ℕ) (version : Option ℤ) (ds : List Diagnostic) → FitsInMessage (publication_params uri version ds)
publication_can_be_sent uri (Some version) ds = record { shallow = rw (flat_whole version) (omega (arith, shallow_list ds)) }
publication_can_be_sent uri None ds = record { shallow = omega (arith, shallow_list ds) }

shallow_edits : (es : List Edit) → items_depth (items_of (map edit_value es)) ≤ 3
shallow_edits [] = omega arith
shallow_edits (e ∷ es) = omega (arith, shallow_edits es)

pub edits_can_be_sent : (es : List Edit) → FitsInMessage (edit_list_value es)
edits_can_be_sent es = record { shallow = omega (arith, shallow_edits es) }

edits_of_can : (document_changes : Bool) (client : ClientFeatures) (uri : List ℕ) (version : ℤ) (es : List Edit) → client.accepts_document_changes ≡ document_changes → FitsInMessage (workspace_edit_value client uri version es)
edits_of_can true client uri version es is = rw is (record { shallow = rw (flat_whole version) (omega (arith, shallow_edits es)) })
edits_of_can false client uri version es is = rw is (record { shallow = omega (arith, shallow_edits es) })

pub workspace_edit_can_be_sent : (client : ClientFeatures) (uri : List ℕ) (version : ℤ) (es : List Edit) → FitsInMessage (workspace_edit_value client uri version es)
workspace_edit_can_be_sent client uri version es = edits_of_can client.accepts_document_changes client uri version es refl

-- ---- actions

pub one_can : (d : Data) → depth d ≤ 8 → FitsInMessage (array (items_of (d ∷ [])))
one_can d f = record { shallow = omega (arith, f) }

pub two_can : (d e : Data) → depth d ≤ 8 → depth e ≤ 8 → FitsInMessage (array (items_of (d ∷ e ∷ [])))
two_can d e f g = record { shallow = omega (arith, f, g) }

shallow_edit : (document_changes : Bool) (client : ClientFeatures) (uri : List ℕ) (version : ℤ) (es : List Edit) → client.accepts_document_changes ≡ document_changes → depth (workspace_edit_value client uri version es) ≤ 7
shallow_edit true client uri version es is = rw (is, flat_whole version) (omega (arith, shallow_edits es))
shallow_edit false client uri version es is = rw is (omega (arith, shallow_edits es))

pub shallow_action : (client : ClientFeatures) (uri : List ℕ) (version : ℤ) (es : List Edit) (said : List ℕ) → depth (code_action_value (workspace_edit_value client uri version es) said) ≤ 8
shallow_action client uri version es said = omega (arith, shallow_edit client.accepts_document_changes client uri version es refl)
