-- Searches the block of a declaration for another declaration with a given name. The names of a
-- block are given by the indexes of their tokens.
-- Rule: none; used in private contracts of the search for another declaration (`name_conflicts.rt`).
use Rattle.std.specs.Prelude.{ℕ, Bool, not, ◌&&◌, if◌then◌else◌, List, [], ◌∷◌, ◌++◌, Option, None}
use Rattle.std.specs.List.{list_any}
use Rattle.std.specs.Option.{option_or}
use Rattle.ob0_scan.specs.TextWithTokens.{TextWithTokens}
use Rattle.ob0_tree.specs.TokenIndexLeaves.{token_text_at}
use Rattle.ob0_tree.specs.Tree.{Tree, block, declares, declares_procedure, end, forms_block, item, items, more, procedure}
use Rattle.ob0_language_names.specs.ConsistentNames.{names_declared_in_block}
use Rattle.ob0_language_names.specs.Names.{Name, same_name}
use Rattle.ob0_language_names.specs.BlockParts.{formal_parameter_names, formal_parameter_sections}
use Rattle.ob0_scope_table.specs.Resolution.{ordinal_in}
use Rattle.ob0_language_names.specs.Scopes.{same_ordinal}

-- A search for another declaration with the name `new`, in the block of the declaration with the
-- ordinal `declaration`. `ordinals` has the ordinal to which each token is bound.
pub record NamesakeSearchView : Type 0 where
  pub source : TextWithTokens
  pub ordinals : List (Option ℕ)
  pub declaration : ℕ
  pub new : Name

-- returns the ordinal to which the token `i` is bound; None if it is unbound or there is no such
-- token
abbrev pub ordinal_in_search : NamesakeSearchView → ℕ → Option ℕ
ordinal_in_search s i = ordinal_in s.ordinals i

-- returns whether a token is bound to the declaration whose block is searched
abbrev pub is_bound_to_declaration : NamesakeSearchView → ℕ → Bool
is_bound_to_declaration s i = same_ordinal (ordinal_in_search s i) s.declaration

-- returns whether a token has the sought name and isn't bound to the declaration whose block is
-- searched
abbrev pub is_namesake_token : NamesakeSearchView → ℕ → Bool
is_namesake_token s i = same_name (token_text_at s.source i) s.new && not (is_bound_to_declaration s i)

-- Finds the last token in the list that is spelled like the sought name and isn't bound to the
-- search's declaration (`s.declaration`). Returns the ordinal to which that token is bound, or
-- `found` if there is no such token.
abbrev pub last_namesake : NamesakeSearchView → Option ℕ → List ℕ → Option ℕ
last_namesake s found [] = found
last_namesake s found (i ∷ is) = last_namesake s (if is_namesake_token s i then ordinal_in_search s i else found) is

-- Finds the last token in the list that is spelled like the sought name and isn't bound to the
-- search's declaration (`s.declaration`). Returns the ordinal to which this token is bound. Returns
-- None if there is no such token, or if no token in the list is bound to that declaration.
abbrev pub namesake_among : NamesakeSearchView → List ℕ → Option ℕ
namesake_among s is = if list_any (is_bound_to_declaration s) is then last_namesake s None is else None

-- Searches a block and then the blocks inside it. Returns the ordinal of another declaration with
-- the sought name in the block that declares `s.declaration`. Returns None if there is no such
-- declaration.
abbrev mutual
  -- returns the ordinal found among the parameters `own` and the names that a block declares
  -- (`namesake_among`), otherwise the ordinal found in the blocks inside it; None if neither is
  -- found
  pub namesake_in_block : NamesakeSearchView → List ℕ → Tree ℕ block → Option ℕ
  namesake_in_block s own (forms_block (declares cs ts vs ps) statements) =
      option_or (namesake_among s (own ++ names_declared_in_block (forms_block (declares cs ts vs ps) statements)))
      (namesake_in_procedure_list s ps)

  -- searches procedures in order until an ordinal is found in one, and returns this ordinal; None
  -- if no ordinal is found
  pub namesake_in_procedure_list : NamesakeSearchView → Tree ℕ (items procedure) → Option ℕ
  namesake_in_procedure_list s end = None
  namesake_in_procedure_list s (more p rest) =
      option_or (namesake_in_procedure s p) (namesake_in_procedure_list s rest)

  -- returns the ordinal found in a procedure's block, to which the parameters belong; None if no
  -- ordinal is found
  pub namesake_in_procedure : NamesakeSearchView → Tree ℕ (item procedure) → Option ℕ
  namesake_in_procedure s (declares_procedure x fs b closing) =
      namesake_in_block s (formal_parameter_names (formal_parameter_sections fs)) b
