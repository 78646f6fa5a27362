-- Proves that a text is read as at most one module: two readings have the same tokens, and the same
-- tree over these tokens. So a statement about a module's tokens and tree is the same for both.
-- As values of the type `ParsedModule` the two readings needn't be equal, because the code's tree
-- keeps tokens of statements that no definition reads. So each definition over a `ParsedModule` is
-- written a second time over its tokens and its tree (`name_in`, `refused_at`, `uses_in`,
-- `tokens_in`).
use Rattle.std.proofs.Common.{◌≡◌, ◌∙◌, ℕ, Option, List, [], ◌∷◌, map, sym, ap, arith}
use Rattle.std.specs.Prelude.{option_and_then}
use Rattle.std.specs.List.{find, zip}
use Rattle.std.specs.Str.{chars}
use mathlib.Core.List.{map-map}
use Rattle.ob0_scan.specs.TextWithTokens.{TextWithTokens, IsScanOf}
use Rattle.ob0_scan.proofs.Spans.{scan_is_unique}
use Rattle.ob0_text.specs.declared.edits.Edit.{Edit}
use Rattle.ob0_text.specs.declared.position_types.Range.{Range}
use Rattle.ob0_tree.specs.declared.tree.Role.TheVariants as role
use Rattle.ob0_tree.specs.Terminals.{EndOfText}
use Rattle.ob0_tree.specs.IdentifierIndexes.{identifier_names}
use Rattle.ob0_tree.specs.ParsedModule.{ParsedModule, TreeMatchesText, tree_of, named_tree_of}
use Rattle.ob0_tree.specs.TokenIndexLeaves.{indexed_terminals, tree_with_names}
use Rattle.ob0_tree.specs.Tree.{Tree, module_text, identifiers}
use Rattle.ob0_scope_table.specs.Resolution.{token_span}
use Rattle.ob0_language_names.specs.Scopes.{numbered}
use Rattle.ob0_parse_descent.proofs.Unique.{same}
use Rattle.ob0_edits_tokens.specs.Replacements.{range_and_text}
use Rattle.ob0_scope_table.specs.Spans.{is_in_span_or_at_end}
use Rattle.ob0_scope.specs.NamesAtPlaces.{LabelledIdentifier, name_at_offset, bound_name_of}
use Rattle.ob0_scope.specs.declared.bound_names.BoundName.{BoundName}
use Rattle.ob0_world_rules.specs.TextEdits.{Replacement, replacements_of_edits}

pub record Same (m n : ParsedModule) : Type 0 where
  pub source : m.source ≡ n.source
  pub tree : tree_of m ≡ tree_of n

pub same_module : (text : List ℕ) (m n : ParsedModule) → IsScanOf text m.source → TreeMatchesText m → IsScanOf text n.source → TreeMatchesText n → Same m n
same_module text m n scan parsed other too =
    let source : m.source ≡ n.source = scan_is_unique m.source n.source scan.scan other.scan (scan.of ∙ sym other.of) in
    let both = same (tree_of m) (tree_of n) (EndOfText ∷ []) (EndOfText ∷ []) (omega arith) (omega arith) (parsed.places ∙ (ap (λ (s : TextWithTokens). indexed_terminals s.tokens) source ∙ sym too.places)) in
    record { source = source; tree = both.0 }

abbrev pub identifiers_of : TextWithTokens → Tree ℕ module_text → List LabelledIdentifier
identifiers_of s t = zip (identifiers role.DeclaringName t) (identifier_names (numbered (tree_with_names s t)))

abbrev name_in : TextWithTokens → Tree ℕ module_text → ℕ → Option BoundName
name_in s t offset = option_and_then bound_name_of (find (λ x. is_in_span_or_at_end offset (token_span s x.0.1)) (identifiers_of s t))

module _ {m n : ParsedModule} (e : Same m n) where
  pub one_named_tree : named_tree_of m ≡ named_tree_of n
  one_named_tree = λ i. tree_with_names (e.source i) (e.tree i)

  pub one_name : (offset : ℕ) → name_at_offset m offset ≡ name_at_offset n offset
  one_name offset = λ i. name_in (e.source i) (e.tree i) offset

-- Returns the replacement with this range and these bytes as its text.
abbrev of_parts : Range × List ℕ → Replacement
of_parts p = record { range = p.0; text = chars p.1 }

pub same_parts : (xs ys : List Edit) → map range_and_text xs ≡ map range_and_text ys → replacements_of_edits xs ≡ replacements_of_edits ys
same_parts xs ys e = sym (map-map of_parts range_and_text xs) ∙ (ap (map of_parts) e ∙ map-map of_parts range_and_text ys)
