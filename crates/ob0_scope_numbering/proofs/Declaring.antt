-- Proves the loops over declarations: names after the first, sections of parameters, declarations
-- that are still to be shown, and names that are declared from a table.
use Rattle.std.proofs.Common.{◌≡◌, ℕ, Option, List, [], ◌∷◌, map, refl, ap}
use Rattle.ob0_scan.specs.TextWithTokens.{TextWithTokens}
use Rattle.ob0_tree.specs.Tree.{one, comma_then_name}
use Rattle.ob0_tree.specs.declared.tree.ParameterSection.{ParameterSection}
use Rattle.ob0_tree.specs.View.{items_of, formals_of_list, parameter_section_after_semicolon_of}
use Rattle.ob0_language_names.specs.BlockParts.{names_after_first}
use Rattle.ob0_scope_table.specs.Resolution.{ordinal_and_spelling_at_token}
use Rattle.ob0_scope_numbering.specs.BodyScope.{declare_names_with_ordinals}
use Rattle.ob0_scope_numbering.specs.StoredScopes.{VisibleNames, with_scope}
use Rattle.ob0_scope_numbering.specs.TableWalk.{WalkState}
use Rattle.ob0_scope_numbering.specs.IdentifierWalk.{with_names_visible_from_index, visit_formals, visit_parameter_sections}

pub names_further : (xs : List ℕ) → names_after_first (items_of comma_then_name xs) ≡ xs
names_further [] = refl
names_further (x ∷ xs) = ap (λ l. x ∷ l) (names_further xs)

-- states that the declarations from an index onwards are still to be shown
pub record Showing (first : ℕ) (start : WalkState) (index : ℕ) (now : WalkState) : Type 0 where
  pub so_far : with_names_visible_from_index index now ≡ with_names_visible_from_index first start
  pub kept : now.declaration_tokens ≡ start.declaration_tokens

pub sections_first : (ss : List ParameterSection) (v : WalkState) → visit_parameter_sections (items_of parameter_section_after_semicolon_of ss) v ≡ visit_formals (one (formals_of_list ss)) v
sections_first [] v = refl
sections_first (s ∷ ss) v = refl

-- returns the visible names after the names at these tokens are declared, with their ordinals in a
-- table
abbrev pub declaring : TextWithTokens → List (Option ℕ) → List ℕ → VisibleNames → VisibleNames
declaring source ordinals is v = with_scope v (declare_names_with_ordinals (map (ordinal_and_spelling_at_token source ordinals) is) v.scope)
