use Rattle.std.proofs.Common.{map, length}
use Rattle.ob0_refs.proofs.HoverParameters.{Gathered}
use Rattle.ob0_refs.specs.HoverParameters.{parameter_view}
use Rattle.ob0_tree.specs.TokenIndexLeaves.{token_text_at}
use Rattle.ob0_types_table.specs.DeclarationTables.{shapes_of}
use Rattle.ob0_types_table.specs.DeclarationTableView.{formal_parameter_view}
use Rattle.ob0_refs.proofs.declaration_texts.hover_parameters_of_signature.Given as goal

abbrev pub invariant-loop-token : goal.invariant-loop-token
invariant-loop-token l =
    Gathered (token_text_at l.tokens) (formal_parameter_view (shapes_of l.known)) l.following l.formals (length l.yielded) (map parameter_view l.found.items)
