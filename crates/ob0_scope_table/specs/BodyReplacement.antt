-- Defines a module in which the statements of one body were replaced, so that the module may have
-- more or fewer tokens than before. Also defines the path to that body in the tree, the module
-- without the body, and the body's closing name.
-- Rule: none; used in contracts about a replacement of the tokens of one body.
use Rattle.std.specs.Prelude.{◌≡◌, ◌<◌, ◌≤◌, ◌+◌, ◌-◌, ℕ, zero, suc, true, nat_lt, List, [], ◌∷◌, Option, Some, None, if◌then◌else◌, slice_get}
use Rattle.ob0_scan.specs.ReusedLexemes.{words_of_tokens}
use Rattle.ob0_scan.specs.TextWithTokens.{IsScan}
use Rattle.ob0_scan.specs.declared.tokens.CommonPrefixAndSuffix.{CommonPrefixAndSuffix}
use Rattle.ob0_tree.specs.FirstIdentifier.{first_identifier}
use Rattle.ob0_tree.specs.ParsedModule.{TreeMatchesText, ParsedModule, tree_of}
use Rattle.ob0_tree.specs.Tree.{Tree, block, body, declares, declares_procedure, end, forms_block, forms_module, item, items, mapped_tree, maybe, module_text, more, none, procedure}
use Rattle.ob0_scope_table.specs.SpellingChangesInOneBody.{closing_name, is_range_in_one_body, is_outside_range}

-- A path to a body in the tree. It is a list of numbers: for each block, from the outermost
-- inwards, the number of the procedure to enter, counted from 0. The path leads to the body of the
-- procedure that is entered last. An empty path leads to the body of the block in which the path
-- starts.
abbrev pub PathToBody : Type 0
PathToBody = List ℕ

-- Returns the path to the same body after a procedure is inserted before all procedures of the
-- block in which the path starts. This increases the path's first number, if there is one, by 1.
abbrev pub path_after_inserting_first_procedure : PathToBody → PathToBody
path_after_inserting_first_procedure [] = []
path_after_inserting_first_procedure (k ∷ path) = suc k ∷ path

-- Returns the path to the body that contains the token `low`. If no body contains `low`, the path
-- may lead to any body.
abbrev mutual
  -- returns the path from a block to the body that contains the token `low`, if a body contains it
  pub path_to_body_in_block : ℕ → Tree ℕ block → PathToBody
  path_to_body_in_block low (forms_block (declares cs ts vs ps) statements) = path_to_body_in_procedure_list low ps

  -- Returns the path into the first procedure whose closing name is at or after the token `low`. If
  -- there is no such procedure, the path is empty and leads to the statements of the block that has
  -- these procedures.
  pub path_to_body_in_procedure_list : ℕ → Tree ℕ (items procedure) → PathToBody
  path_to_body_in_procedure_list low end = []
  path_to_body_in_procedure_list low (more p ps) =
      if nat_lt (closing_name p) low then path_after_inserting_first_procedure (path_to_body_in_procedure_list low ps)
      else zero ∷ path_to_body_in_procedure low p

  -- returns the path from a procedure to the body that contains the token `low`, if a body contains
  -- it
  pub path_to_body_in_procedure : ℕ → Tree ℕ (item procedure) → PathToBody
  path_to_body_in_procedure low (declares_procedure x fs b closing) = path_to_body_in_block low b

-- returns the path from a module to the body that contains the token `low`, if a body contains it
abbrev pub path_to_body_in_module : ℕ → Tree ℕ module_text → PathToBody
path_to_body_in_module low (forms_module x b closing) = path_to_body_in_block low b

-- Returns a tree without the statements to which a path leads.
abbrev mutual
  -- returns a block without the statements to which a path leads from this block
  pub block_without_body : {N : Type 0} → PathToBody → Tree N block → Tree N block
  block_without_body [] (forms_block ds statements) = forms_block ds none
  block_without_body (k ∷ path) (forms_block (declares cs ts vs ps) statements) =
      forms_block (declares cs ts vs (procedure_list_without_body k path ps)) statements

  -- Returns a list of procedures without the statements to which a path leads from procedure `k`,
  -- counted from 0. Returns the list unchanged if there is no procedure `k`.
  pub procedure_list_without_body : {N : Type 0}
      → ℕ
      → PathToBody
      → Tree N (items procedure)
      → Tree N (items procedure)
  procedure_list_without_body k path end = end
  procedure_list_without_body zero path (more p ps) = more (procedure_without_body path p) ps
  procedure_list_without_body (suc k) path (more p ps) = more p (procedure_list_without_body k path ps)

  -- returns a procedure without the statements to which a path leads from this procedure
  pub procedure_without_body : {N : Type 0} → PathToBody → Tree N (item procedure) → Tree N (item procedure)
  procedure_without_body path (declares_procedure x fs b closing) =
      declares_procedure x fs (block_without_body path b) closing

-- returns a module without the statements to which a path leads
abbrev pub module_without_body : {N : Type 0} → PathToBody → Tree N module_text → Tree N module_text
module_without_body path (forms_module x b closing) = forms_module x (block_without_body path b) closing

-- Returns the statements to which a path leads, or `none` if the path leads to no body.
abbrev mutual
  -- returns the statements to which a path leads from a block
  pub body_at_path_in_block : {N : Type 0} → PathToBody → Tree N block → Tree N (maybe body)
  body_at_path_in_block [] (forms_block ds statements) = statements
  body_at_path_in_block (k ∷ path) (forms_block (declares cs ts vs ps) statements) = body_at_path_in_procedure_list k path ps

  -- Returns the statements to which a path leads from procedure `k` of a list, counted from 0.
  -- Returns `none` if there is no such procedure.
  pub body_at_path_in_procedure_list : {N : Type 0} → ℕ → PathToBody → Tree N (items procedure) → Tree N (maybe body)
  body_at_path_in_procedure_list k path end = none
  body_at_path_in_procedure_list zero path (more p ps) = body_at_path_in_procedure path p
  body_at_path_in_procedure_list (suc k) path (more p ps) = body_at_path_in_procedure_list k path ps

  -- returns the statements to which a path leads from a procedure
  pub body_at_path_in_procedure : {N : Type 0} → PathToBody → Tree N (item procedure) → Tree N (maybe body)
  body_at_path_in_procedure path (declares_procedure x fs b closing) = body_at_path_in_block path b

-- returns the statements to which a path leads from a module
abbrev pub body_at_path : {N : Type 0} → PathToBody → Tree N module_text → Tree N (maybe body)
body_at_path path (forms_module x b closing) = body_at_path_in_block path b

-- Returns the closing name of the block to which a path leads.
abbrev mutual
  -- Returns the closing name of the block to which a path leads from the block `b`. `own` is the
  -- closing name of `b` itself.
  pub closing_name_at_path_in_block : {N : Type 0} → PathToBody → N → Tree N block → N
  closing_name_at_path_in_block [] own b = own
  closing_name_at_path_in_block (k ∷ path) own (forms_block (declares cs ts vs ps) statements) =
      closing_name_at_path_in_procedure_list k path own ps

  -- Returns the closing name of the block to which a path leads from procedure `k` of a list,
  -- counted from 0. Returns `own` if there is no such procedure.
  pub closing_name_at_path_in_procedure_list : {N : Type 0} → ℕ → PathToBody → N → Tree N (items procedure) → N
  closing_name_at_path_in_procedure_list k path own end = own
  closing_name_at_path_in_procedure_list zero path own (more p ps) = closing_name_at_path_in_procedure path p
  closing_name_at_path_in_procedure_list (suc k) path own (more p ps) = closing_name_at_path_in_procedure_list k path own ps

  -- returns the closing name of the block to which a path leads from a procedure
  pub closing_name_at_path_in_procedure : {N : Type 0} → PathToBody → Tree N (item procedure) → N
  closing_name_at_path_in_procedure path (declares_procedure x fs b closing) = closing_name_at_path_in_block path closing b

-- returns the closing name of the block to which a path leads from a module
abbrev pub closing_name_at_path : {N : Type 0} → PathToBody → Tree N module_text → N
closing_name_at_path path (forms_module x b closing) = closing_name_at_path_in_block path closing b

-- Returns the index in the new text of the token that has the index `i` in the old text. The token
-- must be outside the replaced tokens, which are `s.prefix..s.old_suffix` in the old text.
abbrev pub shifted_token_index : CommonPrefixAndSuffix → ℕ → ℕ
shifted_token_index s i = if nat_lt i s.prefix then i else s.new_suffix + (i - s.old_suffix)

-- States that two modules are the same except for the statements of one body, to which `path`
-- leads. In these statements, the tokens `s.prefix..s.new_suffix` of the module `new` replace the
-- tokens `s.prefix..s.old_suffix` of the module `old`. All other tokens have the same spellings in
-- both modules. The tokens after the replaced ones may have different indexes. In both modules, the
-- body's first identifier is before the replaced tokens, and the closing name of its block is after
-- them.
pub record ReplacesStatementsOfOneBody (old new : ParsedModule) (path : PathToBody) (s : CommonPrefixAndSuffix) : Type 0 where
  pub old_range : s.prefix ≤ s.old_suffix
  pub new_range : s.prefix ≤ s.new_suffix
  pub old_scan : IsScan old.source
  pub new_scan : IsScan new.source
  pub old_parsed : TreeMatchesText old
  pub new_parsed : TreeMatchesText new
  pub outside : module_without_body path (tree_of new) ≡ mapped_tree (shifted_token_index s) (shifted_token_index s) (module_without_body path (tree_of old))
  pub words : (i : ℕ) → is_outside_range s.prefix s.old_suffix i ≡ true
      → slice_get (words_of_tokens new.source.text new.source.tokens) (shifted_token_index s i)
      ≡ slice_get (words_of_tokens old.source.text old.source.tokens) i
  pub old_path : path_to_body_in_module s.prefix (tree_of old) ≡ path
  pub new_path : path_to_body_in_module s.prefix (tree_of new) ≡ path
  pub old_in_body : is_range_in_one_body s.prefix s.old_suffix (tree_of old) ≡ true
  pub new_in_body : is_range_in_one_body s.prefix s.new_suffix (tree_of new) ≡ true
  pub first : ℕ
  pub first_identifier_of_old_body : first_identifier (body_at_path path (tree_of old)) ≡ Some first
  pub first_identifier_of_new_body : first_identifier (body_at_path path (tree_of new)) ≡ Some first
  pub front : first < s.prefix
  pub back : s.old_suffix < closing_name_at_path path (tree_of old)
  pub closing : closing_name_at_path path (tree_of new) ≡ shifted_token_index s (closing_name_at_path path (tree_of old))
