-- States that a computed layout (`CellLayout`) is right for a type. The layout has the type's
-- number of cells, and a record's layout also has the offset of each field.
-- Rule: none; used in contracts of lowering.
use Rattle.std.specs.Prelude.{◌≡◌, ℕ, ◌+◌, List, [], ◌∷◌, Some, None, Option}
use Rattle.std.specs.Borrow.{Bor}
use Rattle.ob0_types_table.specs.DeclarationTableView.{faulty_shape}
use Rattle.ob0_language_values.specs.Values.{FieldShapes, Shape, array_shape, next_field_shape, no_field_shape, record_shape}
use Rattle.ob0_run_cells.specs.Cells.{fields_cell_count, shape_cell_count}
use Rattle.ob0_run_lowering.specs.declared.type_layouts.CellLayout.{CellLayout}
use Rattle.ob0_run_lowering.specs.declared.type_layouts.CellLayout.TheVariants as layout
use Rattle.ob0_run_lowering.specs.declared.type_layouts.RecordLayout.{RecordLayout}

-- returns the offsets of fields that are stored one after the other, if the first field has the
-- offset `n`
abbrev pub consecutive_field_offsets : ℕ → FieldShapes → List ℕ
consecutive_field_offsets n no_field_shape = []
consecutive_field_offsets n (next_field_shape x s rest) = n ∷ consecutive_field_offsets (n + shape_cell_count s) rest

-- states that the layout of a record has the number of cells of these fields, and the offset of
-- each field
pub record IsLayoutOfFields (fs : FieldShapes) (r : RecordLayout) : Type 0 where
  pub cells : r.cells ≡ fields_cell_count fs
  pub offsets : r.offsets.items ≡ consecutive_field_offsets 0 fs

-- States that a layout is right for a type. This is never true for a type that is neither an array
-- nor a record.
abbrev pub IsLayoutOfType : Shape → CellLayout → Type 0
IsLayoutOfType (array_shape k n s) (layout.Array cells) = cells ≡ shape_cell_count (array_shape k n s)
IsLayoutOfType (record_shape k fs) (layout.Record r) = IsLayoutOfFields fs r
IsLayoutOfType _ _ = ⊥

-- states that a list of layouts has the right layout for each type of a table, in the table's order
abbrev pub AreLayoutsOfTypes : List Shape → List CellLayout → Type 0
AreLayoutsOfTypes [] [] = Unit {0}
AreLayoutsOfTypes (s ∷ shapes) (l ∷ layouts) = IsLayoutOfType s l × AreLayoutsOfTypes shapes layouts
AreLayoutsOfTypes _ _ = ⊥

-- States that a layout is right for a record type. For None, states that the type is
-- `faulty_shape`, the shape of a faulty type.
abbrev pub IsLayoutOfRecord : Option (Bor RecordLayout) → Shape → Type 0
IsLayoutOfRecord None s = s ≡ faulty_shape
IsLayoutOfRecord (Some r) s = (k : ℕ) × (fs : FieldShapes) × (s ≡ record_shape k fs) × IsLayoutOfFields fs r.now
