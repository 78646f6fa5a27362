-- Defines how a parsed module and the bindings of its names are joined into a resolved module.
-- Rule: docs/LANGUAGE.md, Scopes 2 to 4.
use Rattle.ob0_tree.specs.ParsedModule.{ParsedModule}
use Rattle.ob0_scope_table.specs.Resolution.{Resolution}
use Rattle.ob0_scope_table.specs.declared.resolved.Bindings.{Bindings}

-- returns the resolved module that joins a parsed module and these bindings
abbrev pub resolution_with_bindings : ParsedModule → Bindings → Resolution
resolution_with_bindings m b =
    record {
      module_read = m;
      ordinals = b.ordinals.items;
      declaration_tokens = b.declaration_tokens.items;
      uses = b.occurrences.items;
      faults = b.faults.items;
    }
