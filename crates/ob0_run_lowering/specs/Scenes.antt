-- Defines the object, the slot and the target that a scene has for a name. A scene (`Scene`) is the
-- data that is needed to lower a body. A slot is the site of a variable as seen from the body, and
-- a target is the procedure that a call enters. Also states that a scene is right for the checked
-- names of a body (`SceneAgreesWithChecker`).
-- Rule: none; used in contracts of lowering.
use Rattle.std.specs.Prelude.{◌≡◌, ℕ, ◌-◌, List, slice_index_or, Some, None, Option}
use Rattle.ob0_language_names.specs.Names.{Label, as_written, declared, label_text}
use Rattle.ob0_types_table.specs.DeclarationTables.{DeclarationTableView, declared_object_in}
use Rattle.ob0_language_types.specs.Expressions.{Object, a_procedure, a_variable}
use Rattle.ob0_language_types.specs.WellTyped.{Signature, TypeMeanings}
use Rattle.ob0_language_values.specs.Values.{Shape}
use Rattle.ob0_run_cells.specs.Activations.{BindingPlace, at_target, in_slot, nowhere, slot_of_binding_place, target_of_binding_place}
use Rattle.ob0_run_cells.specs.LoweredStatements.{Target}
use Rattle.ob0_run_cells.specs.LoweredExpressions.{Slot, in_activation, by_reference, in_module_activation}
use Rattle.ob0_run_lowering.specs.declared.scene.Scene.{Scene}
use Rattle.ob0_run_lowering.specs.declared.scene.LoweredSite.{LoweredSite}
use Rattle.ob0_run_lowering.specs.declared.scene.LoweredSite.TheVariants as site

-- returns the place of a declaration with this site, as seen from an activation of this depth
abbrev pub place_seen_from_depth : ℕ → LoweredSite → BindingPlace
place_seen_from_depth depth site.Nowhere = nowhere
place_seen_from_depth depth (site.InModule offset) = in_slot (in_module_activation offset)
place_seen_from_depth depth (site.InActivation at offset) = in_slot (in_activation (depth - at) offset)
place_seen_from_depth depth (site.ByReference at index) = in_slot (by_reference (depth - at) index)
place_seen_from_depth depth (site.Procedure at index) =
    at_target (record { procedure = index; up = depth - at })

-- returns the site of an ordinal in a table of sites, or `Nowhere` if the table has no entry for
-- the ordinal
abbrev pub site_in_table : List LoweredSite → ℕ → LoweredSite
site_in_table sites k = slice_index_or sites k site.Nowhere

-- Returns the place of the declaration that a label refers to, as seen from the scene's body.
-- Returns `nowhere` if the label isn't bound.
abbrev pub place_of_label : Scene → Label → BindingPlace
place_of_label scene (declared k) = place_seen_from_depth scene.depth (site_in_table scene.sites.now k)
place_of_label scene (as_written x) = nowhere

-- Returns the slot of the variable that a label refers to, as seen from the scene's body. If the
-- label refers to no variable, this is the module's first cell.
abbrev pub slot_of_label : Scene → Label → Slot
slot_of_label scene x = slot_of_binding_place (place_of_label scene x)

-- Returns the target of the procedure that a label refers to, as seen from the scene's body. If the
-- label refers to no procedure, returns the target with index 0 that is 0 levels out.
abbrev pub target_of_label : Scene → Label → Target
target_of_label scene x = target_of_binding_place (place_of_label scene x)

-- Returns the object of the declaration that a label refers to. Returns None if the label isn't
-- bound.
abbrev pub object_of_label : DeclarationTableView → Label → Option (Object Shape Signature)
object_of_label t (declared k) = declared_object_in t k
object_of_label t (as_written x) = None

-- States that a scene agrees with the checker about the names of a body. The scene has the object
-- that the checker found for each bound name (`checked`). It also has the slot of each variable
-- (`slots`) and the target of each procedure (`targets`).
pub record SceneAgreesWithChecker (scene : Scene) (checked : TypeMeanings Label) (slots : Label → Slot)
    (targets : Label → Target) : Type 0 where
  pub bound : (x : Label) (o : Object Shape Signature)
      → checked.object_for x ≡ Some o
      → object_of_label scene.types.now x ≡ Some o
  pub written : checked.written ≡ label_text
  pub variables : (x : Label) (s : Shape)
      → checked.object_for x ≡ Some (a_variable s)
      → slots x ≡ slot_of_label scene x
  pub procedures : (x : Label) (p : Signature)
      → checked.object_for x ≡ Some (a_procedure p)
      → targets x ≡ target_of_label scene x
