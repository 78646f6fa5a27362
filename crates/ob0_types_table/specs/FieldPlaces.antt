-- Finds the field that a name selects in a type: its record and its position.
-- Rule: none; used in contracts of functions that find a field by its name.
use Rattle.std.specs.Prelude.{ℕ, suc, Some, None, Option, option_map, if◌then◌else◌}
use Rattle.ob0_language_names.specs.Names.{Name, same_name}
use Rattle.ob0_types_table.specs.declared.declaration_table.FieldId.{FieldId}
use Rattle.ob0_language_values.specs.Values.{FieldShapes, Shape, array_shape, boolean_shape, integer_shape, next_field_shape, no_field_shape, record_shape}

-- returns the position of the first field with the name `x`, counted from 0; None if there is none
abbrev pub position_of_field : FieldShapes → Name → Option ℕ
position_of_field no_field_shape x = None
position_of_field (next_field_shape y s rest) x =
    if same_name x y then Some 0 else option_map suc (position_of_field rest x)

-- returns the field that the name `x` selects in a type: the record's ordinal, and the field's
-- position in the record; None if the type isn't a record with such a field
abbrev pub selected_field : Shape → Name → Option FieldId
selected_field (record_shape k fs) x =
    option_map (λ i. record { ordinal = k; index = i }) (position_of_field fs x)
selected_field (array_shape k n s) x = None
selected_field integer_shape x = None
selected_field boolean_shape x = None
