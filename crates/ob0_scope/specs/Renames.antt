-- The bindings of occurrences after a declaration is renamed, and conflicts with other
-- declarations.
-- Rule: docs/PROTOCOL.md, Refusals of edits (Duplicate, Captures).
use Rattle.std.specs.Prelude.{◌≡◌, ℕ, Bool, true, false, not, ◌&&◌, if◌then◌else◌, ◌==◌, List, [], ◌∷◌, Option, Some, None}
use Rattle.std.specs.Option.{option_or}
use Rattle.ob0_tree.specs.Tree.{Tree, mapped_tree, module_text}
use Rattle.ob0_tree.specs.ParsedModule.{named_tree_of, tree_of}
use Rattle.ob0_scan.specs.TextWithTokens.{TextWithTokens}
use Rattle.ob0_tree.specs.TokenIndexLeaves.{token_text_at, token_value_at}
use Rattle.ob0_scope.specs.declared.name_conflicts.FirstConflict as reported
use Rattle.ob0_scope.specs.declared.name_conflicts.FirstConflict.TheVariants as reports
use Rattle.ob0_language_names.specs.Names.{Name, naming_by_spelling, same_name}
use Rattle.ob0_language_names.specs.Occurrences.{NameConflict, at_declaration, at_occurrence, scopes_in_block, declares_ordinal}
use Rattle.ob0_language_names.specs.BlockParts.{module_block}
use Rattle.ob0_scope_table.specs.Resolution.{Resolution, ordinal_in}
use Rattle.ob0_language_names.specs.Scopes.{Scope, label_from_ordinal, numbered, predeclared_count, renamed}
use Rattle.ob0_scope_numbering.specs.IdentifierSpellings.{Spellings, spelling_at_token}

-- returns the ordinal of the first declaration in a scope that has the name `new` and an ordinal
-- other than `d`; None if there is no such declaration
abbrev pub other_declaration_with_name : Scope Name → ℕ → Name → Option ℕ
other_declaration_with_name [] d new = None
other_declaration_with_name (b ∷ own) d new =
    if same_name b.0 new && not (b.1 == d) then Some b.1 else other_declaration_with_name own d new

-- Finds the first scope in a list that has both the declaration with ordinal `d` and another
-- declaration with the name `new`. Each scope has the declarations of one block. Returns the
-- ordinal of this other declaration, or None if there is no such scope.
abbrev pub namesake_in_scopes : List (Scope Name) → ℕ → Name → Option ℕ
namesake_in_scopes [] d new = None
namesake_in_scopes (own ∷ others) d new =
    option_or (if declares_ordinal own d then other_declaration_with_name own d new else None)
    (namesake_in_scopes others d new)

-- Finds the last other declaration with the name `new` in the block of the declaration with ordinal
-- `d`. Returns the ordinal of this other declaration, or None if there is no such declaration.
abbrev pub namesake_ordinal : Tree Name module_text → ℕ → Name → Option ℕ
namesake_ordinal m d new = namesake_in_scopes (scopes_in_block predeclared_count [] (module_block m)) d new

-- converts a conflict of the code to a conflict of the definitions; this drops the ordinal of the
-- other declaration
abbrev pub conflict_of : reported.FirstConflict → NameConflict
conflict_of (reports.Duplicate other) = at_declaration
conflict_of (reports.Occurrence k) = at_occurrence k

-- returns the ordinal of the other declaration if the conflict is with another declaration of the
-- same block; None for any other conflict, and if there is no conflict
abbrev pub other_declaration_in_conflict : Option reported.FirstConflict → Option ℕ
other_declaration_in_conflict None = None
other_declaration_in_conflict (Some (reports.Duplicate other)) = Some other
other_declaration_in_conflict (Some (reports.Occurrence k)) = None

-- returns whether two names are bound to the same declaration, or both are unbound (None)
abbrev pub have_same_binding : Option ℕ → Option ℕ → Bool
have_same_binding None None = true
have_same_binding None (Some k) = false
have_same_binding (Some j) None = false
have_same_binding (Some j) (Some k) = j == k

-- returns the spellings of a module's identifiers after the declaration with ordinal `d` is renamed
-- to `new`
abbrev pub spellings_after_rename : Resolution → ℕ → Name → Spellings
spellings_after_rename r d new =
    record { source = r.module_read.source; ordinals = r.ordinals; declaration = Some d; new = new }

-- states that no token of a text has this spelling
abbrev pub OccursNowhere : TextWithTokens → Name → Type 0
OccursNowhere source x = (i : ℕ) → same_name (token_text_at source i) x ≡ false

-- States that `ordinals` is the table of ordinals after the declaration with ordinal `d` is renamed
-- to `new`: for each identifier its ordinal under the new bindings, or None if it would be unbound.
abbrev pub AreOrdinalsAfterRename : Resolution → ℕ → Name → List (Option ℕ) → Type 0
AreOrdinalsAfterRename r d new ordinals =
    numbered (renamed (named_tree_of r.module_read) d new)
    ≡ mapped_tree (λ i. label_from_ordinal naming_by_spelling (ordinal_in ordinals i) (spelling_at_token (spellings_after_rename r d new) i))
    (token_value_at r.module_read.source) (tree_of r.module_read)
