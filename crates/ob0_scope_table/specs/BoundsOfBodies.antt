-- Defines the bounds of a body: its first identifier, and the closing name of its block.
-- Rule: none; used in contracts about the body in which a range of tokens lies.
use Rattle.std.specs.Prelude.{ℕ, Bool, Option, None, if◌then◌else◌, option_map}
use Rattle.ob0_tree.specs.FirstIdentifier.{first_identifier}
use Rattle.ob0_tree.specs.Tree.{Tree, block, body, forms_module, item, maybe, module_text, procedure}
use Rattle.ob0_tree.specs.View.{block_of}
use Rattle.ob0_tree.specs.declared.tree.ModuleTree.{ModuleTree}
use Rattle.ob0_scope_table.specs.BodyReplacement.{body_at_path, body_at_path_in_block, body_at_path_in_procedure, closing_name_at_path, closing_name_at_path_in_block, closing_name_at_path_in_procedure, path_to_body_in_block, path_to_body_in_procedure, path_to_body_in_module}
use Rattle.ob0_scope_table.specs.SpellingChangesInOneBody.{is_range_in_body_of_block, is_range_in_one_body, is_range_in_body_of_procedure}
use Rattle.ob0_scope_table.specs.declared.one_body.BodyBounds.{BodyBounds}

-- Returns the specification's `Tree` for the code's `ModuleTree`. It has token indexes in place of
-- names and numbers.
abbrev pub module_tree_of : ModuleTree → Tree ℕ module_text
module_tree_of t = forms_module t.name (block_of t.block) t.closing

-- Returns the bounds of the body with these statements. `closing` is the token of its block's
-- closing name. Returns None if `condition` is false, or if the statements have no identifier.
abbrev pub body_bounds_of_statements_if : Bool → Tree ℕ (maybe body) → ℕ → Option BodyBounds
body_bounds_of_statements_if condition statements closing =
    if condition
    then option_map (λ first. record { first = first; closing = closing })
    (first_identifier statements)
    else None

-- Returns the bounds of the body that contains the tokens from `low` up to, but not including,
-- `high`: the body of this block or of a procedure inside it. `closing` is the token of the block's
-- closing name. The caller checks that `high` is at or before `closing`. Returns None if no body
-- contains the tokens.
abbrev pub body_bounds_in_block : ℕ → ℕ → ℕ → Tree ℕ block → Option BodyBounds
body_bounds_in_block low high closing b =
    body_bounds_of_statements_if (is_range_in_body_of_block low high b) (body_at_path_in_block (path_to_body_in_block low b) b)
    (closing_name_at_path_in_block (path_to_body_in_block low b) closing b)

-- Returns the bounds of the body that contains the tokens from `low` up to, but not including,
-- `high`: the body of this procedure or of one inside it. The caller checks that `high` is at or
-- before the procedure's closing name. Returns None if no body contains the tokens.
abbrev pub body_bounds_in_procedure : ℕ → ℕ → Tree ℕ (item procedure) → Option BodyBounds
body_bounds_in_procedure low high p =
    body_bounds_of_statements_if (is_range_in_body_of_procedure low high p) (body_at_path_in_procedure (path_to_body_in_procedure low p) p)
    (closing_name_at_path_in_procedure (path_to_body_in_procedure low p) p)

-- Returns the bounds of the body that contains the tokens from `low` up to, but not including,
-- `high` in this module. Returns None if no body contains them.
abbrev pub body_bounds_of_range : ℕ → ℕ → Tree ℕ module_text → Option BodyBounds
body_bounds_of_range low high t =
    body_bounds_of_statements_if (is_range_in_one_body low high t) (body_at_path (path_to_body_in_module low t) t) (closing_name_at_path (path_to_body_in_module low t) t)
