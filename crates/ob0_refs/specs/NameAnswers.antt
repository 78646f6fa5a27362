-- Defines the answer of `at`, the lookup at a byte offset, about a name: the name's span, and the
-- declaration to which the name refers.
-- Rule: docs/PROTOCOL.md, Requests on documents 3, 4.
use Rattle.std.specs.Prelude.{ℕ, nat_lt, if◌then◌else◌}
use Rattle.ob0_tree.specs.ParsedModule.{ParsedModule}
use Rattle.ob0_language_names.specs.Scopes.{predeclared_count}
use Rattle.ob0_scope_table.specs.Resolution.{token_span}
use Rattle.ob0_scope.specs.declared.bound_names.BoundName as named
use Rattle.ob0_refs.specs.declared.answer_types.At as answer
use Rattle.ob0_refs.specs.declared.answer_types.Of as of
use Rattle.ob0_refs.specs.declared.answer_types.Of.TheVariants as answer_of

-- Returns the declaration of the text that has this ordinal. The ordinals 0 to 6 are predeclared
-- names, and the result for them is Predeclared.
abbrev pub referent_of_ordinal : ℕ → of.Of
referent_of_ordinal ordinal = if nat_lt ordinal predeclared_count then answer_of.Predeclared else answer_of.Declared ordinal

-- Returns the answer of `at` about a name: the name's span, and the declaration to which the name
-- refers. If the name is predeclared, the result has Predeclared instead of a declaration.
abbrev pub answer_about_name : ParsedModule → named.BoundName → answer.At
answer_about_name m n = record { span = token_span m.source n.token; of = referent_of_ordinal n.ordinal }
