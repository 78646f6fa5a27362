-- Laws by which two texts with the same tree have the same bindings. Both laws require that the
-- tokens of the texts have the same kinds. One law also requires that the identifiers have the same
-- spellings, the other that all tokens do.
-- Rule: docs/LANGUAGE.md, Scopes 2 to 4.
use Rattle.std.specs.Prelude.{◌≡◌, []}
use Rattle.ob0_scan.specs.ReusedLexemes.{token_kinds_without_values, spellings_of_identifiers_in, words_of_tokens}
use Rattle.ob0_scan.specs.TextWithTokens.{TextWithTokens}
use Rattle.ob0_tree.specs.ParsedModule.{TreeMatchesText, parsed_module}
use Rattle.ob0_tree.specs.declared.tree.ModuleTree.{ModuleTree}
use Rattle.ob0_scope_table.specs.Bindings.{resolution_with_bindings}
use Rattle.ob0_scope_table.specs.Resolution.{IsResolution}
use Rattle.ob0_scope_table.specs.declared.resolved.Bindings.{Bindings}

-- states that the tokens of two texts have the same kinds, in order, and that the identifiers of
-- both texts have the same spellings
pub record HaveSameKindsAndNames (old new : TextWithTokens) : Type 0 where
  pub same_kinds : token_kinds_without_values new.tokens ≡ token_kinds_without_values old.tokens
  pub same_names : spellings_of_identifiers_in new.text new.tokens ≡ spellings_of_identifiers_in old.text old.tokens

-- States that two texts with the same tree have the same bindings, if the first text has no scope
-- faults. The tree has token indexes in place of names. The tokens of both texts must have the same
-- kinds, and their identifiers the same spellings.
abbrev pub BindingsDependOnlyOnNames : Type 0
BindingsDependOnlyOnNames =
    (old new : TextWithTokens) (tree : ModuleTree) (b : Bindings)
    → HaveSameKindsAndNames old new
    → TreeMatchesText (parsed_module new tree)
    → IsResolution (resolution_with_bindings (parsed_module old tree) b)
    → b.faults.items ≡ []
    → IsResolution (resolution_with_bindings (parsed_module new tree) b)

-- States that two texts with the same tree have the same bindings. The tree has token indexes in
-- place of names. The tokens of both texts must have the same kinds and spellings.
abbrev pub BindingsDependOnlyOnSpellings : Type 0
BindingsDependOnlyOnSpellings =
    (old new : TextWithTokens) (tree : ModuleTree) (b : Bindings)
    → words_of_tokens new.text new.tokens ≡ words_of_tokens old.text old.tokens
    → TreeMatchesText (parsed_module new tree)
    → IsResolution (resolution_with_bindings (parsed_module old tree) b)
    → IsResolution (resolution_with_bindings (parsed_module new tree) b)
