-- Defines the cells of a store, as one list. Each cell is a number. A number or a truth value has
-- one cell, with 0 for FALSE and 1 for TRUE. The cells of elements and members follow one another.
-- Rule: none; used in contracts of lowering.
use Rattle.std.specs.Prelude.{ℕ, ◌+◌, ◌*◌, Bool, true, false, List, [], ◌∷◌, ◌++◌, length, take, drop, ℤ, pos, if◌then◌else◌, slice_get, option_map, unwrap_or}
use Rattle.ob0_language_names.specs.Names.{Name, same_name}
use Rattle.ob0_language_values.specs.Values.{FieldShapes, Members, Place, Shape, PathStep, Store, Value, Values, array_shape, at_field, at_index, boolean_shape, elements, integer_shape, members, next_field_shape, next_member, next_value, no_field_shape, no_member, no_value, number, record_shape, truth}
use Rattle.ob0_language_runs.specs.TypeAgreement.{StoreTyping, shape_at_step}

-- returns the cell of a truth value: 0 for FALSE, 1 for TRUE
abbrev pub truth_cell : Bool → ℤ
truth_cell false = pos 0
truth_cell true = pos 1

-- returns the cells of a value, of an array's elements, or of a record's members
abbrev mutual
  -- returns the cells of a value: one for a number or a truth value, the cells of all parts for an
  -- array or a record
  pub cells_of : Value → List ℤ
  cells_of (number n) = n ∷ []
  cells_of (truth b) = truth_cell b ∷ []
  cells_of (elements vs) = element_cells vs
  cells_of (members k ms) = member_cells ms

  -- returns the cells of an array's elements, beginning with the element at index 0
  pub element_cells : Values → List ℤ
  element_cells no_value = []
  element_cells (next_value v rest) = cells_of v ++ element_cells rest

  -- returns the cells of a record's members, in the order of its fields
  pub member_cells : Members → List ℤ
  member_cells no_member = []
  member_cells (next_member x v rest) = cells_of v ++ member_cells rest

-- returns the cells of all variables, the oldest variable first
abbrev pub cells_of_store : Store → List ℤ
cells_of_store [] = []
cells_of_store (v ∷ store) = cells_of v ++ cells_of_store store

-- returns the number of cells of a type, or of the fields of a record
abbrev mutual
  -- returns the number of cells of a type: 1 for a scalar, the sum over all parts for an array or a
  -- record
  pub shape_cell_count : Shape → ℕ
  shape_cell_count integer_shape = 1
  shape_cell_count boolean_shape = 1
  shape_cell_count (array_shape k n s) = n * shape_cell_count s
  shape_cell_count (record_shape k fs) = fields_cell_count fs

  -- returns the number of cells of the fields of a record
  pub fields_cell_count : FieldShapes → ℕ
  fields_cell_count no_field_shape = 0
  fields_cell_count (next_field_shape x s rest) = shape_cell_count s + fields_cell_count rest

-- returns the number of cells of all variables in a store with these types
abbrev pub store_cell_count : StoreTyping → ℕ
store_cell_count [] = 0
store_cell_count (s ∷ typing) = shape_cell_count s + store_cell_count typing

-- Returns the offset of a field in its record: the number of cells of the fields before it. If
-- there is no such field, this is the size of the record.
abbrev pub field_offset : FieldShapes → Name → ℕ
field_offset no_field_shape x = 0
field_offset (next_field_shape y s rest) x =
    if same_name x y then 0 else shape_cell_count s + field_offset rest x

-- Returns the offset of the element or field that a step selects: the number of cells of the
-- elements or fields before it. Returns 0 if the step doesn't fit the type.
abbrev pub step_offset : Shape → PathStep → ℕ
step_offset (array_shape k n s) (at_index i) = i * shape_cell_count s
step_offset (record_shape k fs) (at_field x) = field_offset fs x
step_offset _ _ = 0

-- Returns the offset of the part at the end of a path, in cells from the start of a value with the
-- type `s`. If a step selects no part, the steps after it are ignored.
abbrev pub path_offset : List PathStep → Shape → ℕ
path_offset [] s = 0
path_offset (step ∷ path) s =
    step_offset s step + unwrap_or (option_map (path_offset path) (shape_at_step s step)) 0

-- returns the address of a place: the number of cells before the place's first cell, in a store
-- whose variables have these types
abbrev pub address_of_place : StoreTyping → Place → ℕ
address_of_place typing p =
    store_cell_count (take p.variable typing)
    + unwrap_or (option_map (path_offset p.path) (slice_get typing p.variable)) 0

-- returns the `n` cells that begin at an address, or fewer if the list ends earlier
abbrev pub cells_at_address : ℕ → ℕ → List ℤ → List ℤ
cells_at_address address n cells = take n (drop address cells)

-- returns the list `cells` after its cells were overwritten by the cells `new`, one by one,
-- beginning at the index `address_of_place`
abbrev pub cells_after_overwrite : ℕ → List ℤ → List ℤ → List ℤ
cells_after_overwrite address new cells = take address cells ++ (new ++ drop (address + length new) cells)
