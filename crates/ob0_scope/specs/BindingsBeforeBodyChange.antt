-- The bindings of a module before the spellings of tokens in one body changed.
-- Rule: none; used in contracts of `rebind_changed_body`.
use Rattle.ob0_scan.specs.TextWithTokens.{TextWithTokens}
use Rattle.ob0_tree.specs.ParsedModule.{TreeMatchesText, ParsedModule}
use Rattle.ob0_scope_table.specs.Bindings.{resolution_with_bindings}
use Rattle.ob0_scope_table.specs.SpellingChangesInOneBody.{ChangesSpellingsInOneBody}
use Rattle.ob0_scope_table.specs.Resolution.{IsResolution}
use Rattle.ob0_scope_table.specs.declared.resolved.Bindings.{Bindings}
use Rattle.std.specs.Prelude.{ℕ}

-- States that `b` has the bindings of the module `m` before a change. Only the spellings of tokens
-- in one body of `m` changed: the tokens from `low` up to, but not including, `high`. After the
-- change, the tree of `m` matches its text.
pub record AreBindingsBeforeBodyChange (m : ParsedModule) (b : Bindings) (low high : ℕ) : Type 0 where
  pub old : TextWithTokens
  pub change : ChangesSpellingsInOneBody old m low high
  pub parsed : TreeMatchesText m
  pub resolved : IsResolution (resolution_with_bindings (record m { source = old }) b)
