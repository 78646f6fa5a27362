-- Defines the first identifier in a part of a module.
-- Rule: none; used in contracts about the first identifier of a block's statements.
use Rattle.std.specs.Prelude.{ℕ, List, [], ◌∷◌, Option, Some, None}
use Rattle.ob0_tree.specs.declared.tree.Role.{Role}
use Rattle.ob0_tree.specs.declared.tree.Role.TheVariants as role
use Rattle.ob0_tree.specs.Tree.{Sort, Tree, identifiers}

-- Returns the token index of the first identifier in the list, or None if the list is empty.
abbrev pub token_of_first_identifier : List (Role × ℕ) → Option ℕ
token_of_first_identifier [] = None
token_of_first_identifier (x ∷ xs) = Some x.1

-- Returns the token index of the first identifier in a part of a module, or None if the part has no
-- identifier.
abbrev pub first_identifier : {s : Sort} → Tree ℕ s → Option ℕ
first_identifier t = token_of_first_identifier (identifiers role.DeclaringName t)
