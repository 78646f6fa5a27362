-- Proves that a record in the table of types has as many fields as its shape.
use Rattle.std.proofs.Common.{◌≡◌, List, [], ◌∷◌, length, refl, arith}
use Rattle.ob0_refs.specs.Hovers.{field_count}
use Rattle.ob0_types_table.specs.DeclarationTableView.{field_shapes}
use Rattle.ob0_types_table.specs.declared.declaration_table.Field.{Field}
use Rattle.ob0_language_values.specs.Values.{Shape}

pub fields_counted : (shapes : List Shape) (fs : List Field) → length fs ≡ field_count (field_shapes shapes fs)
fields_counted shapes [] = refl
fields_counted shapes (f ∷ fs) =
    let rest = fields_counted shapes fs in omega (arith, rest)
