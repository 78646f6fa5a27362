use Rattle.std.proofs.Common.{◌≡◌, drop}
use Rattle.std.specs.List.{position_from}
use Rattle.ob0_inline.specs.Declarations.{is_semicolon}
use Rattle.ob0_inline.proofs.declared_constants.end_of_declaration.Given as goal

abbrev pub invariant-loop-index : goal.invariant-loop-index
invariant-loop-index l = position_from (λ t. is_semicolon t.kind) l.index (drop l.index l.tokens) ≡ position_from (λ t. is_semicolon t.kind) l.first (drop l.first l.tokens)
