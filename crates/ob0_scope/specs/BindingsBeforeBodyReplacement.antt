-- The bindings of a module before the statements of one body were replaced.
-- Rule: none; used in contracts of `rebind_replaced_body`.
use Rattle.ob0_scan.specs.declared.tokens.CommonPrefixAndSuffix.{CommonPrefixAndSuffix}
use Rattle.ob0_tree.specs.ParsedModule.{ParsedModule}
use Rattle.ob0_scope_table.specs.Bindings.{resolution_with_bindings}
use Rattle.ob0_scope_table.specs.BodyReplacement.{ReplacesStatementsOfOneBody, PathToBody}
use Rattle.ob0_scope_table.specs.Resolution.{IsResolution}
use Rattle.ob0_scope_table.specs.declared.resolved.Bindings.{Bindings}

-- States that `b` has the bindings of an older module, and that `m` is that module with the
-- statements of one body replaced. `s` says which tokens at the start and at the end of the text
-- are unchanged.
pub record AreBindingsBeforeBodyReplacement (m : ParsedModule) (b : Bindings) (s : CommonPrefixAndSuffix) : Type 0 where
  pub old : ParsedModule
  pub path : PathToBody
  pub replaced : ReplacesStatementsOfOneBody old m path s
  pub resolved : IsResolution (resolution_with_bindings old b)
