-- Converts an object in the program's table of declarations to the specification's `Object`, and a
-- procedure's parameters to the specification's `Signature`.
-- Rule: none; used in contracts about the program's table of declarations.
use Rattle.std.specs.Prelude.{List, map, Option}
use Rattle.ob0_types_table.specs.declared.declaration_table.FormalParameter as formal
use Rattle.ob0_types_table.specs.declared.declaration_table.Object as declaration
use Rattle.ob0_types_table.specs.DeclarationTables.{DeclarationTableView, shapes_of}
use Rattle.ob0_types_table.specs.DeclarationTableView.{formal_parameter_view, object_view}
use Rattle.ob0_language_types.specs.Expressions.{Object}
use Rattle.ob0_language_types.specs.WellTyped.{Signature}
use Rattle.ob0_language_values.specs.Values.{Shape}

-- returns the specification's `Object` for an object in the program's table of declarations, or
-- None for a constant with a fault
abbrev pub declared_object_view : DeclarationTableView → declaration.Object → Option (Object Shape Signature)
declared_object_view t o = object_view (shapes_of t) o

-- returns the specification's `Signature` for a procedure's parameters in the program's table
abbrev pub signature_view : DeclarationTableView → List formal.FormalParameter → Signature
signature_view t fs = map (formal_parameter_view (shapes_of t)) fs
