-- Defines the tokens of a body after its first identifier.
-- Rule: none; used in private contracts about the results that an analysis reuses.
use Rattle.std.specs.Prelude.{◌≡◌, ℕ, ◌+◌, Some}
use Rattle.ob0_tree.specs.Tree.{Tree, module_text}
use Rattle.ob0_scope_table.specs.BoundsOfBodies.{body_bounds_of_range}
use Rattle.ob0_scope_table.specs.declared.one_body.BodyBounds.{BodyBounds}

-- States that the tokens from `low` up to, but not including, `high` are all tokens of one body
-- after its first identifier. `bounds` are the bounds of this body. So `high` is the END of its
-- block.
pub record IsBodyAfterFirstIdentifier (t : Tree ℕ module_text) (low high : ℕ) (bounds : BodyBounds) : Type 0 where
  pub found : body_bounds_of_range low high t ≡ Some bounds
  pub first : bounds.first + 1 ≡ low
  pub closing : bounds.closing ≡ high + 1
