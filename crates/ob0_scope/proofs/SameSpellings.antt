-- Proves that bindings don't change if the tokens of a text are named as before. The numbers of a
-- tree are in no scope, so the facts about each part hold for any numbers. The table of the old
-- text has all marks of its module, so it numbers the new one. If all tokens have the same
-- spellings, the faults of names are also the same.
use Rattle.std.proofs.Common.{◌≡◌, ◌<◌, ℕ, zero, suc, not, List, [], ◌∷◌, ◌++◌, length, drop, get_or, slice_get, refl, sym, ap, ◌∙◌, subst, arith}
use Rattle.std.specs.List.{HoldsAt, filter, list_any}
use Rattle.ob0_scan.specs.declared.lexeme.Token.{Token}
use Rattle.ob0_scan.specs.declared.lexeme.TokenKind.{TokenKind}
use Rattle.ob0_scan.specs.declared.lexeme.TokenKind.TheVariants as kind
use Rattle.ob0_scan.specs.ReusedLexemes.{token_kinds_without_values, spelling_if_identifier, spellings_of_identifiers_in, kind_without_value}
use Rattle.ob0_scan.specs.TextWithTokens.{TextWithTokens, text_in_span}
use Rattle.ob0_tree.specs.declared.tree.ModuleTree.{ModuleTree}
use Rattle.ob0_tree.specs.declared.tree.Role.{Role}
use Rattle.ob0_tree.specs.declared.tree.Role.TheVariants as role
use Rattle.ob0_tree.specs.IdentifierIndexes.{AreIdentifierTokens, names_without_roles}
use Rattle.ob0_tree.specs.ParsedModule.{named_tree_of, parsed_module, tree_of}
use Rattle.ob0_tree.specs.TokenIndexLeaves.{token_text_at, token_text_or_empty, token_value_at}
use Rattle.ob0_tree.specs.Tree.{Tree, identifiers, mapped_tree, module_text, occurrences}
use Rattle.ob0_tree.proofs.Leaves.{leaves_are_identifiers}
use Rattle.ob0_scope_table.specs.Bindings.{resolution_with_bindings}
use Rattle.ob0_scope_table.proofs.SameWords.{same_named_tree, same_texts, same_values}
use Rattle.ob0_language_names.specs.ConsistentNames.{has_consistent_names}
use Rattle.ob0_scope_table.specs.DuplicatesAndEndNames.{declaration_faults, tree_declaration_faults}
use Rattle.ob0_language_names.specs.Names.{Name, naming_by_spelling}
use Rattle.ob0_language_names.specs.Occurrences.{labels_of_occurrences}
use Rattle.ob0_scope_table.specs.Resolution.{AreNameFaultsOf, IsNumberingTable, IsResolution, is_duplicate_or_end_name_fault, is_undeclared_fault, ordinal_in, undeclared_faults_from_labels, undeclared_faults_from_table, ordinal_and_spelling}
use Rattle.ob0_language_names.specs.Scopes.{Labelling, label_from_ordinal, numbered, relabel_module}
use Rattle.ob0_scope_table.specs.declared.resolved.Bindings.{Bindings}
use Rattle.ob0_scope_numbering.specs.MarkWalk.{initial_walk_state}
use Rattle.ob0_scope.specs.SameSpellings.{HaveSameKindsAndNames, BindingsDependOnlyOnNames, BindingsDependOnlyOnSpellings}
use Rattle.ob0_scope_numbering.specs.IdentifierSpellings.{original_spellings}
use Rattle.ob0_scope.proofs.Alike.{AllAlike, alike}
use Rattle.ob0_scope.proofs.Made.{faults_reported, undeclared_unbound}
use Rattle.ob0_scope.proofs.StillOnce.{nothing_twice}
use Rattle.ob0_scope_numbering.proofs.Passing.{at_start, module_passed_with}
use Rattle.ob0_scope.proofs.TokensWith.{marks_resolved}
use Rattle.ob0_scope.proofs.TwiceOnce.{once_with}

-- ---- identifiers have the same spellings

is_identifier : (k : TokenKind) → kind_without_value k ≡ kind.Identifier → k ≡ kind.Identifier
is_identifier kind.Identifier e = refl
is_identifier (kind.Integer value) e = absurd (cc)
is_identifier (kind.ReservedWord word) e = absurd (cc)
is_identifier (kind.Symbol symbol) e = absurd (cc)

same_text : (u t : Token) (x y : List ℕ) → kind_without_value u.kind ≡ kind_without_value t.kind → t.kind ≡ kind.Identifier → spelling_if_identifier u.kind x ≡ spelling_if_identifier t.kind y → x ≡ y
same_text u t x y k e n =
    let other : u.kind ≡ kind.Identifier = is_identifier u.kind (k ∙ ap kind_without_value e) in
    sym (ap (λ z. spelling_if_identifier z x) other) ∙ (n ∙ ap (λ z. spelling_if_identifier z y) e)

texts : (a b : List ℕ) (ts us : List Token) (i : ℕ) → token_kinds_without_values us ≡ token_kinds_without_values ts → spellings_of_identifiers_in b us ≡ spellings_of_identifiers_in a ts → i < length ts → HoldsAt (λ (t : Token). t.kind ≡ kind.Identifier) ts i → token_text_or_empty b (slice_get us i) ≡ token_text_or_empty a (slice_get ts i)
texts a b [] us i k n less h = absurd (omega (arith, less))
texts a b (t ∷ ts) [] i k n less h = absurd (omega (arith, ap length k))
texts a b (t ∷ ts) (u ∷ us) zero k n less h = same_text u t (text_in_span b u.span) (text_in_span a t.span) (ap (λ l. get_or l 0 kind.Identifier) k) (h t) (ap (λ l. get_or l 0 []) n)
texts a b (t ∷ ts) (u ∷ us) (suc i) k n less h = texts a b ts us i (ap (drop 1) k) (ap (drop 1) n) (omega (arith, less)) h

all_texts : (old new : TextWithTokens) → HaveSameKindsAndNames old new → (g : ℕ → ℕ) (xs : List (Role × ℕ)) → AreIdentifierTokens old.tokens (names_without_roles xs) → AllAlike (token_text_at new) (token_text_at old) g xs
all_texts old new w g [] h = tt
all_texts old new w g (x ∷ xs) h = (texts old.text new.text old.tokens new.tokens x.1 w.same_kinds w.same_names h.0.0 h.0.1, all_texts old new w g xs h.1)

-- Values made from each identifier and its spelling are also the same.
all_through : {M : Type 0} (f : ℕ → Name → M) (n m : ℕ → Name) (g : ℕ → ℕ) (xs : List (Role × ℕ)) → AllAlike n m g xs → AllAlike (λ i. f i (m i)) (λ i. f i (n i)) g xs
all_through f n m g [] h = tt
all_through f n m g (x ∷ xs) h = (sym (ap (f x.1) h.0), all_through f n m g xs h.1)

-- ---- the bindings are unchanged

module _ (old new : TextWithTokens) (tree : ModuleTree) (b : Bindings) (w : HaveSameKindsAndNames old new) (r : IsResolution (resolution_with_bindings (parsed_module old tree) b)) where
  abbrev read : Tree ℕ module_text
  read = tree_of (parsed_module old tree)

  written_alike : AllAlike (token_text_at new) (token_text_at old) (token_value_at new) (identifiers role.DeclaringName read)
  written_alike = all_texts old new w (token_value_at new) (identifiers role.DeclaringName read) (leaves_are_identifiers (parsed_module old tree) r.parsed)

  same_names : named_tree_of (parsed_module new tree) ≡ mapped_tree (token_text_at old) (token_value_at new) read
  same_names = (alike (token_text_at new) (token_text_at old) (token_value_at new) role.DeclaringName read).reads written_alike

  labelled : {M : Type 0} (label : Labelling Name M) → relabel_module naming_by_spelling label (named_tree_of (parsed_module new tree)) ≡ mapped_tree (λ i. label (ordinal_in b.ordinals.items i) (token_text_at new i)) (token_value_at new) read
  labelled {M} label =
      let by : ℕ → Name → M = λ i x. label (ordinal_in b.ordinals.items i) x in
      let passed = module_passed_with (ordinal_in b.ordinals.items) label (original_spellings old) (token_value_at new) read (initial_walk_state (original_spellings old)) (at_start (original_spellings old)) in
      ap (relabel_module naming_by_spelling label) same_names
      ∙ ((passed.agree (marks_resolved (resolution_with_bindings (parsed_module old tree) b) r)).1
      ∙ (alike (λ i. by i (token_text_at old i)) (λ i. by i (token_text_at new i)) (token_value_at new) role.DeclaringName read).reads (all_through by (token_text_at new) (token_text_at old) (token_value_at new) (identifiers role.DeclaringName read) written_alike))

  numbering : IsNumberingTable (parsed_module new tree) b.ordinals.items
  numbering = labelled (label_from_ordinal naming_by_spelling)

  module _ (none : b.faults.items ≡ []) where
    none_twice : declaration_faults (parsed_module new tree) ≡ []
    none_twice =
        let once : has_consistent_names (named_tree_of (parsed_module new tree)) ≡ has_consistent_names (named_tree_of (parsed_module old tree)) =
        ap has_consistent_names same_names ∙ once_with (token_text_at old) (token_value_at new) (token_value_at old) read in
        nothing_twice (parsed_module new tree) b.faults.items (r.reported.declared_twice ∙ ap not (sym once)) (ap (list_any is_duplicate_or_end_name_fault) none)

    nothing_unbound : undeclared_faults_from_table b.ordinals.items (occurrences read) ≡ []
    nothing_unbound = undeclared_unbound (parsed_module old tree) b.ordinals.items r.numbering ∙ (sym r.reported.undeclared ∙ ap (filter is_undeclared_fault) none)

    nothing_at_fault : AreNameFaultsOf (parsed_module new tree) b.faults.items
    nothing_at_fault =
        subst (AreNameFaultsOf (parsed_module new tree)) ((λ i. none_twice i ++ nothing_unbound i) ∙ sym none) (faults_reported (parsed_module new tree) b.ordinals.items numbering)

pub bindings_depend_only_on_names : BindingsDependOnlyOnNames
bindings_depend_only_on_names old new tree b w parsed r none = record {
  parsed = parsed;
  numbering = numbering old new tree b w r;
  binding = labelled old new tree b w r ordinal_and_spelling;
  ordinals_only_at_names = r.ordinals_only_at_names;
  declaring = r.declaring;
  occurring = r.occurring;
  reported = nothing_at_fault old new tree b w r none;
}

-- ---- all tokens have the same spellings

pub bindings_depend_only_on_spellings : BindingsDependOnlyOnSpellings
bindings_depend_only_on_spellings old new tree b same parsed r =
    let read : Tree ℕ module_text = tree_of (parsed_module old tree) in
    let texts : token_text_at old ≡ token_text_at new = sym (same_texts old new same) in
    let values : token_value_at old ≡ token_value_at new = sym (same_values old new same) in
    let named : named_tree_of (parsed_module old tree) ≡ named_tree_of (parsed_module new tree) = sym (same_named_tree old new same tree) in
    record {
      parsed = parsed;
      numbering = sym (ap numbered named) ∙ (r.numbering ∙ (λ i. mapped_tree (λ token. label_from_ordinal naming_by_spelling (ordinal_in b.ordinals.items token) (texts i token)) (values i) read));
      binding = sym (ap (relabel_module naming_by_spelling ordinal_and_spelling) named) ∙ (r.binding ∙ (λ i. mapped_tree (λ token. (ordinal_in b.ordinals.items token, texts i token)) (values i) read));
      ordinals_only_at_names = r.ordinals_only_at_names;
      declaring = r.declaring;
      occurring = r.occurring;
      reported = record {
        by_kind = r.reported.by_kind ∙ (λ i. tree_declaration_faults (texts i) read ++ undeclared_faults_from_labels (occurrences read) (labels_of_occurrences (named i)));
        declared_twice = r.reported.declared_twice ∙ ap (λ t. not (has_consistent_names t)) named;
        undeclared = r.reported.undeclared ∙ ap (λ t. undeclared_faults_from_labels (occurrences read) (labels_of_occurrences t)) named;
      };
    }
