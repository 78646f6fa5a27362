-- States the law on which a procedure's hover text relies: the names declared after a procedure's
-- name begin with the names of its parameters.
-- Rule: none; used in the contract of `parameters_follow_procedure_name`.
use Rattle.std.specs.Prelude.{◌≡◌, ℕ, List, [], ◌++◌, ◌∷◌, Some, length, map, take}
use Rattle.std.specs.List.{All}
use Rattle.ob0_tree.specs.declared.tree.Role.TheVariants as role
use Rattle.ob0_tree.specs.ParsedModule.{ParsedModule, tree_of}
use Rattle.ob0_tree.specs.TokenIndexLeaves.{token_text_at}
use Rattle.ob0_tree.specs.Tree.{Tree, block, declares, declares_procedure, end, forms_block, identifiers, item, items, more, procedure}
use Rattle.ob0_language_names.specs.BlockParts.{formal_parameter_names, formal_parameter_sections, module_block}
use Rattle.ob0_scope_table.specs.Resolution.{declaring_names, declaration_token}
use Rattle.ob0_refs.specs.DeclarationTexts.{names_declared_after_declaration}

-- Returns the heading of each procedure, in text order. Here a heading is a pair: the token index
-- of the procedure's name, and the list of the token indexes of its parameters' names.
abbrev mutual
  -- returns the heading of each procedure in a block, at any depth
  pub block_headings : Tree ℕ block → List (ℕ × List ℕ)
  block_headings (forms_block (declares cs ts vs ps) statements) = procedure_list_headings ps

  -- returns the headings of the procedures in a list, each followed by the headings of the
  -- procedures in its block
  pub procedure_list_headings : Tree ℕ (items procedure) → List (ℕ × List ℕ)
  procedure_list_headings end = []
  procedure_list_headings (more p rest) = procedure_headings p ++ procedure_list_headings rest

  -- returns the heading of this procedure, followed by the headings of the procedures in its block
  pub procedure_headings : Tree ℕ (item procedure) → List (ℕ × List ℕ)
  procedure_headings (declares_procedure x fs b closing) =
      (x, formal_parameter_names (formal_parameter_sections fs)) ∷ block_headings b

-- States that the first names declared after a procedure's name are the names of its parameters, in
-- order. `heading` is the procedure's heading: the token index of its name, and the token indexes
-- of its parameters' names.
pub record DeclaresParametersAfterName (m : ParsedModule) (heading : ℕ × List ℕ) : Type 0 where
  pub ordinal : ℕ
  pub declares : declaration_token (declaring_names (identifiers role.DeclaringName (tree_of m))) ordinal
      ≡ Some heading.0
  pub following : take (length heading.1) (names_declared_after_declaration m ordinal) ≡ map (token_text_at m.source) heading.1

-- States that the first names declared after each procedure's name are the names of the procedure's
-- parameters, in order.
abbrev pub ParametersFollowProcedureName : Type 0
ParametersFollowProcedureName =
    (m : ParsedModule) → All (DeclaresParametersAfterName m) (block_headings (module_block (tree_of m)))
