-- Proves which ordinals the occurrences have in a table.
use Rattle.std.proofs.Common.{◌≡◌, ℕ, Option, Some, None, List, map, refl, sym, ap, ◌∙◌, option_map, option_and_then, slice_get}
use Rattle.std.proofs.lemmas.Option.{slice_get-map}
use Rattle.ob0_scan.specs.TextWithTokens.{TextWithTokens}
use Rattle.ob0_tree.specs.Tree.{occurrences}
use Rattle.ob0_tree.specs.ParsedModule.{ParsedModule, tree_of, named_tree_of}
use Rattle.ob0_tree.specs.TokenIndexLeaves.{token_text_at, token_value_at}
use Rattle.ob0_language_names.specs.Names.{Name, naming_by_spelling}
use Rattle.ob0_language_names.specs.Occurrences.{labels_of_occurrences, ordinal_bound_at_occurrence, label_ordinal}
use Rattle.ob0_scope_table.specs.Resolution.{IsNumberingTable, IsResolution, Resolution, label_from_table, ordinal_in}
use Rattle.ob0_language_names.specs.Scopes.{label_from_ordinal}
use Rattle.ob0_language_names.proofs.OccurrencesMapped.{occurrences-mapped}

pub bindings_by_table : (m : ParsedModule) (ordinals : List (Option ℕ)) → IsNumberingTable m ordinals → labels_of_occurrences (named_tree_of m) ≡ map (label_from_table m.source ordinals) (occurrences (tree_of m))
bindings_by_table m ordinals numbering = ap occurrences numbering ∙ occurrences-mapped (label_from_table m.source ordinals) (label_from_table m.source ordinals) (token_value_at m.source) (tree_of m)

pub label_back : (ordinal : Option ℕ) (x : Name) → label_ordinal (label_from_ordinal naming_by_spelling ordinal x) ≡ ordinal
label_back None x = refl
label_back (Some k) x = refl

bound_back : (source : TextWithTokens) (ordinals : List (Option ℕ)) (found : Option ℕ) → option_and_then label_ordinal (option_map (label_from_table source ordinals) found) ≡ option_and_then (ordinal_in ordinals) found
bound_back source ordinals None = refl
bound_back source ordinals (Some i) = label_back (ordinal_in ordinals i) (token_text_at source i)

binds_by_table : (m : ParsedModule) (ordinals : List (Option ℕ)) → IsNumberingTable m ordinals → (k : ℕ) → ordinal_bound_at_occurrence (named_tree_of m) k ≡ option_and_then (ordinal_in ordinals) (slice_get (occurrences (tree_of m)) k)
binds_by_table m ordinals numbering k =
    ap (λ ls. option_and_then label_ordinal (slice_get ls k)) (bindings_by_table m ordinals numbering)
    ∙ (ap (option_and_then label_ordinal) (slice_get-map (label_from_table m.source ordinals) (occurrences (tree_of m)) k) ∙ bound_back m.source ordinals (slice_get (occurrences (tree_of m)) k))

pub bound_at : (r : Resolution) → IsResolution r → (k : ℕ) (found : Option ℕ) → found ≡ slice_get r.uses k → option_and_then (ordinal_in r.ordinals) found ≡ ordinal_bound_at_occurrence (named_tree_of r.module_read) k
bound_at r is k found e =
    ap (option_and_then (ordinal_in r.ordinals)) (e ∙ ap (λ us. slice_get us k) is.occurring) ∙ sym (binds_by_table r.module_read r.ordinals is.numbering k)
