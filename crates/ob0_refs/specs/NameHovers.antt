-- Defines the hover text of a name, together with the name's span.
-- Rule: docs/PROTOCOL.md, Requests on documents 4, JSON shapes 3.
use Rattle.std.specs.Prelude.{ℕ, List, Option, option_map}
use Rattle.ob0_scan.specs.declared.lexeme.Span.{Span}
use Rattle.ob0_tree.specs.ParsedModule.{ParsedModule, named_tree_of}
use Rattle.ob0_scope_table.specs.Resolution.{token_span}
use Rattle.ob0_scope.specs.declared.bound_names.BoundName as named
use Rattle.ob0_language_types.specs.Bindings.{declared_object}
use Rattle.ob0_refs.specs.DeclarationTexts.{hover_text_of_name}

-- the hover text of an identifier, and the identifier's span in bytes
pub record HoverTextWithSpan : Type 0 where
  pub span : Span
  pub text : List ℕ

-- returns the hover text of a name with the name's span, or None if the name has no hover text
abbrev pub hover_of_name : ParsedModule → named.BoundName → Option HoverTextWithSpan
hover_of_name m n =
    option_map (λ text. record { span = token_span m.source n.token; text = text })
    (hover_text_of_name m n (declared_object (named_tree_of m) n.ordinal))
