use Rattle.std.proofs.Common.{◌+◌, ◌*◌}
use Rattle.ob0_types_table.specs.DeclarationTables.{shapes_of}
use Rattle.ob0_types_table.specs.DeclarationTableView.{type_shape}
use Rattle.ob0_language_types.specs.Typing.{depth}
use Rattle.ob0_refs.proofs.type_texts.+types.Given as goal

abbrev pub decreases-array_type_text : goal.decreases-array_type_text
decreases-array_type_text l = 2 * depth (type_shape (shapes_of l.known.now) l.array.element) + 1

abbrev pub decreases-type_text : goal.decreases-type_text
decreases-type_text l = 2 * depth (type_shape (shapes_of l.known.now) l.of)
