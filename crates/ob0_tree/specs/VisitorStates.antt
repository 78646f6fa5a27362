-- Defines the state of a visitor after a walk over a part of a module, which visits the part's
-- identifiers in text order.
-- Rule: none; used in contracts of walks over identifiers.
use Rattle.std.specs.Prelude.{ℕ, List, [], ◌∷◌}
use Rattle.ob0_tree.specs.declared.tree.Role.{Role}
use Rattle.ob0_tree.specs.declared.tree.Role.TheVariants as role
use Rattle.ob0_tree.specs.Tree.{Sort, Tree, identifiers}

-- Returns the state after visiting the identifiers of a list one after another, starting in the
-- state `known`. `step` returns the state after one identifier, given the identifier's role, its
-- token index and the state before.
abbrev pub state_after_identifiers : {A : Type 0} → (Role → ℕ → A → A) → List (Role × ℕ) → A → A
state_after_identifiers step [] known = known
state_after_identifiers step (x ∷ xs) known = state_after_identifiers step xs (step x.0 x.1 known)

-- Returns the state after visiting the identifiers of a part of a module in text order, starting in
-- the state `known`. `step` returns the state after one identifier, given the identifier's role,
-- its token index and the state before that identifier. If the part is only a list of names, these
-- names have the role `DeclaringName`.
abbrev pub state_after_visit : {A : Type 0} {s : Sort} → (Role → ℕ → A → A) → Tree ℕ s → A → A
state_after_visit step t known = state_after_identifiers step (identifiers role.DeclaringName t) known
