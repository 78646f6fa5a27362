-- Defines the spellings of identifiers, as they are in the text or as they are after a renaming of
-- one declaration.
-- Rule: none; used in contracts about the spellings of identifiers.
use Rattle.std.specs.Prelude.{ℕ, Bool, false, if◌then◌else◌, List, [], Option, Some, None}
use Rattle.ob0_scan.specs.TextWithTokens.{TextWithTokens}
use Rattle.ob0_tree.specs.Tree.{Sort, Tree, mapped_tree}
use Rattle.ob0_tree.specs.TokenIndexLeaves.{token_text_at, token_value_at}
use Rattle.ob0_language_names.specs.Names.{Name}
use Rattle.ob0_scope_table.specs.Resolution.{ordinal_in}
use Rattle.ob0_language_names.specs.Scopes.{same_ordinal}

-- The spellings of a text's identifiers after one declaration is renamed. `ordinals` has the
-- ordinals of the text's identifiers by token index. `declaration` is the ordinal of the renamed
-- declaration, or None if nothing is renamed. `new` is the name that the renaming introduces.
pub record Spellings : Type 0 where
  pub source : TextWithTokens
  pub ordinals : List (Option ℕ)
  pub declaration : Option ℕ
  pub new : Name

-- Returns whether an identifier's ordinal (the second argument) is the ordinal of the renamed
-- declaration (the first argument). Returns false if no declaration is renamed (None).
abbrev pub is_bound_to_renamed_declaration : Option ℕ → Option ℕ → Bool
is_bound_to_renamed_declaration None ordinal = false
is_bound_to_renamed_declaration (Some d) ordinal = same_ordinal ordinal d

-- returns the spelling of the identifier at a token: `w.new` if the identifier is bound to the
-- renamed declaration, otherwise its spelling in the text
abbrev pub spelling_at_token : Spellings → ℕ → Name
spelling_at_token w i =
    if is_bound_to_renamed_declaration w.declaration (ordinal_in w.ordinals i) then w.new else token_text_at w.source i

-- returns the spellings that the identifiers have in the text, without a renaming
abbrev pub original_spellings : TextWithTokens → Spellings
original_spellings source = record { source = source; ordinals = []; declaration = None; new = [] }

-- converts a tree of token indexes: each identifier's index is replaced by the identifier's
-- spelling, and each integer's index by the integer's value
abbrev pub tree_with_spellings : {s : Sort} → Spellings → Tree ℕ s → Tree Name s
tree_with_spellings w t = mapped_tree (spelling_at_token w) (token_value_at w.source) t
