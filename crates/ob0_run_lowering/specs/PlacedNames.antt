-- States where lowered code finds the names of a block or a heading. The names get their places one
-- by one: a variable gets cells, a VAR parameter gets an index. The site of a name (`LoweredSite`)
-- has the depth of the activation to which the name belongs. The place of a name has the number of
-- levels out instead, as seen from one activation. Constants and types need no code, so their place
-- is `nowhere`, and `SitesMatchPlacement` claims nothing about them. `place_variable_declarations`
-- and `place_parameter_sections` depend only on names and their sizes, so loops over names need no
-- types or environments. The lemmas `sizes_declared` and `sections_placed` show that these sizes
-- are the sizes of the declared types, if the declarations are well-typed. A frame (`Frame`: depth,
-- cells, VAR parameters) has the counts of a placement so far, without its names
-- (`FrameMatchesPlacement`).
-- Rule: none; used in contracts of lowering.
use Rattle.std.specs.Prelude.{◌≡◌, ℕ, zero, suc, ◌≤◌, List, [], ◌∷◌, ◌++◌, length, Some, None, Option}
use Rattle.ob0_tree.specs.Tree.{Tree, end, section_after_semicolon, items, more, semicolon_then_section}
use Rattle.ob0_language_names.specs.Names.{Label, naming_by_label, declared}
use Rattle.ob0_language_names.specs.BlockParts.{parameter_section_names}
use Rattle.ob0_types_table.specs.DeclarationTables.{DeclarationTableView}
use Rattle.ob0_language_types.specs.Expressions.{Object, a_procedure, a_variable}
use Rattle.ob0_language_types.specs.Typing.{type_of_object}
use Rattle.ob0_language_types.specs.WellTyped.{Signature, TypeEnvironment, parameter_section_mode}
use Rattle.ob0_language_values.specs.Values.{Shape}
use Rattle.ob0_run_cells.specs.Activations.{PlacementState, Placement, BindingPlace, at_target, suffix_from_latest_binding, in_slot, nowhere}
pub use Rattle.ob0_run_cells.specs.Activations.{add_declared_names_to_placement, place_variable_declarations}
use Rattle.ob0_run_cells.specs.Cells.{shape_cell_count}
use Rattle.ob0_run_cells.specs.LoweredStatements.{Target}
use Rattle.ob0_run_cells.specs.LoweredExpressions.{Slot, in_activation, in_module_activation}
use Rattle.ob0_run_lowering.specs.DeclaredBindings.{OrdinalsDescend}
use Rattle.ob0_run_lowering.specs.Scenes.{object_of_label, place_seen_from_depth, site_in_table}
use Rattle.ob0_run_lowering.specs.declared.scene.LoweredSite.{LoweredSite}
use Rattle.ob0_run_lowering.specs.declared.scene.LoweredSite.TheVariants as site
use Rattle.ob0_run_lowering.specs.declared.declaration_sites.Frame.{Frame}

-- returns the place of the first name in a placement, or `nowhere` if the placement is empty
abbrev pub place_of_first_binding : Placement Label → BindingPlace
place_of_first_binding [] = nowhere
place_of_first_binding (b ∷ placement) = b.1

-- returns the place of a name in a placement, or `nowhere` if the placement doesn't have the name
abbrev pub place_in_placement : Placement Label → Label → BindingPlace
place_in_placement placement x = place_of_first_binding (suffix_from_latest_binding naming_by_label placement x)

-- returns the depth of the activation to which a site belongs, or 0 for `Nowhere`
abbrev pub depth_of_site : LoweredSite → ℕ
depth_of_site site.Nowhere = 0
depth_of_site (site.InModule offset) = 0
depth_of_site (site.InActivation at offset) = at
depth_of_site (site.ByReference at index) = at
depth_of_site (site.Procedure at index) = at

-- States that a site, seen from an activation of this depth, is the given place of a name. Also
-- states that the site isn't deeper than this activation. Claims nothing if the place is `nowhere`.
abbrev pub SiteMatchesPlace : ℕ → LoweredSite → BindingPlace → Type 0
SiteMatchesPlace depth s nowhere = Unit {0}
SiteMatchesPlace depth s (in_slot slot) = (depth_of_site s ≤ depth) × (place_seen_from_depth depth s ≡ in_slot slot)
SiteMatchesPlace depth s (at_target t) = (depth_of_site s ≤ depth) × (place_seen_from_depth depth s ≡ at_target t)

-- States that a table of sites has the place of each name in a placement. The site at the name's
-- ordinal is this place, as seen from an activation of this depth.
abbrev pub SitesMatchPlacement : List LoweredSite → ℕ → Placement Label → Type 0
SitesMatchPlacement sites depth placement =
    (k : ℕ) → SiteMatchesPlace depth (site_in_table sites k) (place_in_placement placement (declared k))

-- States that a place has the right kind for an object: a slot for a variable, a target for a
-- procedure. Claims nothing about other objects.
abbrev pub PlaceMatchesObject : Object Shape Signature → BindingPlace → Type 0
PlaceMatchesObject (a_variable s) w = (slot : Slot) × (w ≡ in_slot slot)
PlaceMatchesObject (a_procedure p) w = (t : Target) × (w ≡ at_target t)
PlaceMatchesObject _ w = Unit {0}

-- States that an environment and a placement bind the same names in the same order. Also states
-- that each place has the right kind for its name's object (`PlaceMatchesObject`).
abbrev pub PlacementMatchesEnvironment : TypeEnvironment Label → Placement Label → Type 0
PlacementMatchesEnvironment [] [] = Unit {0}
PlacementMatchesEnvironment (b ∷ env) (w ∷ placement) = (b.0 ≡ w.0) × PlaceMatchesObject b.1 w.1 × PlacementMatchesEnvironment env placement
PlacementMatchesEnvironment _ _ = ⊥

-- returns the number of cells of a variable with this type, or 0 for None
abbrev pub optional_shape_size : Option Shape → ℕ
optional_shape_size None = 0
optional_shape_size (Some s) = shape_cell_count s

-- returns the number of cells of the variable that a name declares, or 0 if the name has no type
abbrev pub declared_size : DeclarationTableView → Label → ℕ
declared_size t x = optional_shape_size (type_of_object (object_of_label t x))

-- Returns the slot of a variable at an offset. The slot is in the cells of the module if the depth
-- is 0, otherwise in the cells of the running activation.
abbrev pub variable_slot_at_depth : ℕ → ℕ → Slot
variable_slot_at_depth zero = in_module_activation
variable_slot_at_depth (suc depth) = in_activation 0

-- states that a site is the slot of the next variable of the frame `f`, directly after the frame's
-- cells so far
abbrev pub IsSiteOfNextVariable : Frame → LoweredSite → Type 0
IsSiteOfNextVariable f s =
    (depth_of_site s ≤ f.depth) × (place_seen_from_depth f.depth s ≡ in_slot (variable_slot_at_depth f.depth f.cells))

-- adds the parameters of a heading to a placement, one by one
abbrev pub place_parameter_sections : (ℕ → Slot)
    → (Label → ℕ)
    → Tree Label (items section_after_semicolon)
    → PlacementState Label
    → PlacementState Label
place_parameter_sections at size_of end p = p
place_parameter_sections at size_of (more (semicolon_then_section f) fs) p =
    place_parameter_sections at size_of fs (add_declared_names_to_placement at size_of (parameter_section_mode f) (parameter_section_names f) p)

-- states that a list begins with an earlier list, because items were only added at its end
abbrev pub GrowsTo : {A : Type 0} → List A → List A → Type 0
GrowsTo {A} before now = (more : List A) × (now ≡ before ++ more)

-- States that the site `s` of the declaration with an ordinal is added at the end of the table
-- `before`. If `before` has no entry for this ordinal, `now` has the site there, as its last entry.
pub record AddsSite (ordinal : Option ℕ) (s : LoweredSite) (before now : List LoweredSite) : Type 0 where
  pub grows : GrowsTo before now
  pub added : (k : ℕ) → ordinal ≡ Some k → length before ≤ k → (length now ≡ suc k) × (site_in_table now k ≡ s)

-- states that a table of sites has no entry after the ordinal of a placement's newest name
abbrev pub SitesEndAtNewestName : List LoweredSite → Placement Label → Type 0
SitesEndAtNewestName sites [] = sites ≡ []
SitesEndAtNewestName sites (b ∷ placement) = (k : ℕ) × (b.0 ≡ declared k) × (length sites ≤ suc k)

-- States that a frame has the counts of a placement: the numbers of its cells and of its VAR
-- parameters. Also states that the table of sites has the places of all names of the placement, and
-- nothing after them.
pub record FrameMatchesPlacement (sites : List LoweredSite) (f : Frame) (p : PlacementState Label) : Type 0 where
  pub holds : SitesMatchPlacement sites f.depth p.placement
  pub ends : SitesEndAtNewestName sites p.placement
  pub cells : f.cells ≡ p.cells
  pub var_parameters_so_far : f.var_parameter_count ≡ p.var_parameters_so_far

-- States that names are added to a table of sites and to a frame. `w` and `f` are the table and the
-- frame before, `v` and `g` are the table and the frame after. If `w` and `f` match a placement,
-- `v` and `g` match the result of `step` on this placement.
pub record AddsNames (w v : List LoweredSite) (f : Frame) (step : PlacementState Label → PlacementState Label) (g : Frame)
    : Type 0 where
  pub placed : (p : PlacementState Label)
      → OrdinalsDescend (step p).placement
      → FrameMatchesPlacement w f p
      → FrameMatchesPlacement v g (step p)
  pub sites : GrowsTo w v
  pub depth : g.depth ≡ f.depth
  pub has_no_fewer_cells : f.cells ≤ g.cells
