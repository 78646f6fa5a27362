-- Proves that visiting a module with a new name for a declaration gives the numbered tree of the
-- renamed module.
use Rattle.std.proofs.Common.{◌≡◌, ℕ, suc, ◌+◌, Bool, true, false, not, cond, if◌then◌else◌, Option, Some, None, List, [], ◌∷◌, map, length, replicate, refl, sym, ap, ◌∙◌, option_map, arith}
use Rattle.std.specs.List.{position_from}
use Rattle.ob0_tree.specs.ParsedModule.{named_tree_of, tree_of}
use Rattle.ob0_tree.specs.TokenIndexLeaves.{token_text_at, token_value_at}
use Rattle.ob0_tree.specs.Tree.{mapped_tree, occurrences}
use Rattle.ob0_language_names.specs.Names.{Label, Name, naming_by_spelling, as_written}
use Rattle.ob0_language_names.specs.Occurrences.{labels_of_occurrences, first_binding_difference, label_ordinal, same_binding}
use Rattle.ob0_scope.specs.Renames.{AreOrdinalsAfterRename, have_same_binding, spellings_after_rename}
use Rattle.ob0_scope_table.specs.Resolution.{IsResolution, Resolution, ordinal_and_spelling_at_token, label_from_table, ordinal_in, ordinal_and_spelling}
use Rattle.ob0_language_names.specs.Scopes.{label_from_ordinal, numbered, renamed, same_ordinal}
use Rattle.ob0_scope_numbering.specs.OrdinalMarks.{table_with_marks}
use Rattle.ob0_scope_numbering.specs.MarkWalk.{WalkState, initial_walk_state}
use Rattle.ob0_scope_numbering.specs.IdentifierWalk.{visit_module}
use Rattle.ob0_scope_numbering.specs.IdentifierSpellings.{spelling_at_token, tree_with_spellings}
use Rattle.ob0_scope_table.proofs.Bound.{bindings_by_table}
use Rattle.ob0_scope.proofs.FirstCaptures.{same_binding-refl}
use Rattle.ob0_scope.proofs.Fused.{relabel_module-mapped_tree}
use Rattle.ob0_tree.proofs.Mapped.{mapped_twice}
use Rattle.ob0_language_names.proofs.OccurrencesMapped.{occurrences-mapped}
use Rattle.ob0_scope_numbering.proofs.Passing.{at_start, module_passed}
use Rattle.ob0_scope_numbering.proofs.Tables.{marks_in_table}

abbrev new_or : ℕ → Name → Option ℕ × Name → Name
new_or d new p = if same_ordinal p.0 d then new else p.1

-- The renamed module is the tree with its names as they are spelled.
pub renamed_spelled : (r : Resolution) (d : ℕ) (new : Name) → IsResolution r → renamed (named_tree_of r.module_read) d new ≡ tree_with_spellings (spellings_after_rename r d new) (tree_of r.module_read)
renamed_spelled r d new is =
    let m = r.module_read in
    relabel_module-mapped_tree naming_by_spelling (new_or d new) ordinal_and_spelling (named_tree_of m)
    ∙ (ap (mapped_tree (new_or d new) (λ n. n)) is.binding ∙ mapped_twice (new_or d new) (new_or d new) (λ n. n) (ordinal_and_spelling_at_token m.source r.ordinals) (ordinal_and_spelling_at_token m.source r.ordinals) (token_value_at m.source) (tree_of m))

pub renumbered : (r : Resolution) (d : ℕ) (new : Name) (v : WalkState) (ordinals : List (Option ℕ)) → IsResolution r → v ≡ visit_module (tree_of r.module_read) (initial_walk_state (spellings_after_rename r d new))
    → ordinals ≡ table_with_marks (replicate (length r.module_read.source.tokens) None) v.marks → AreOrdinalsAfterRename r d new ordinals
renumbered r d new v ordinals is gone tabled =
    let m = r.module_read in
    let w = spellings_after_rename r d new in
    let passed = module_passed (ordinal_in ordinals) (label_from_ordinal naming_by_spelling) w (tree_of m) (initial_walk_state w) (at_start w) in
    ap numbered (renamed_spelled r d new is) ∙ (passed.agree (marks_in_table m w v ordinals is.parsed gone tabled)).1

-- The bindings of the renamed module are the table's labels at the occurrences.
renamed_bindings : (r : Resolution) (d : ℕ) (new : Name) (ordinals : List (Option ℕ)) → IsResolution r → AreOrdinalsAfterRename r d new ordinals
    → labels_of_occurrences (renamed (named_tree_of r.module_read) d new) ≡ map (λ i. label_from_ordinal naming_by_spelling (ordinal_in ordinals i) (spelling_at_token (spellings_after_rename r d new) i)) r.uses
renamed_bindings r d new ordinals is numbering =
    let m = r.module_read in
    let label : ℕ → Label = λ i. label_from_ordinal naming_by_spelling (ordinal_in ordinals i) (spelling_at_token (spellings_after_rename r d new) i) in
    ap occurrences numbering ∙ (occurrences-mapped label label (token_value_at m.source) (tree_of m) ∙ ap (map label) (sym is.occurring))

pub ordinals_back : (written : ℕ → Name) (ordinals : List (Option ℕ)) (is : List ℕ) → map label_ordinal (map (λ i. label_from_ordinal naming_by_spelling (ordinal_in ordinals i) (written i)) is) ≡ map (ordinal_in ordinals) is
ordinals_back written ordinals [] = refl
ordinals_back written ordinals (i ∷ is) = λ j. back (ordinal_in ordinals i) (written i) j ∷ ordinals_back written ordinals is j
  where
    back : (o : Option ℕ) (x : Name) → label_ordinal (label_from_ordinal naming_by_spelling o x) ≡ o
    back None x = refl
    back (Some k) x = refl

-- The table has the ordinals to which the occurrences are bound in the renamed module.
pub ordinals_renamed : (r : Resolution) (d : ℕ) (new : Name) (ordinals : List (Option ℕ)) → IsResolution r → AreOrdinalsAfterRename r d new ordinals
    → map (ordinal_in ordinals) r.uses ≡ map label_ordinal (labels_of_occurrences (renamed (named_tree_of r.module_read) d new))
ordinals_renamed r d new ordinals is numbering =
    sym (ap (map label_ordinal) (renamed_bindings r d new ordinals is numbering) ∙ ordinals_back (spelling_at_token (spellings_after_rename r d new)) ordinals r.uses)

alike : (d : ℕ) (new x : Name) (o old : Option ℕ) → same_binding (label_from_ordinal naming_by_spelling o (if same_ordinal old d then new else x)) (label_from_ordinal naming_by_spelling old x) ≡ have_same_binding o old
alike d new x None None = same_binding-refl (as_written x)
alike d new x None (Some k) = refl
alike d new x (Some j) None = refl
alike d new x (Some j) (Some k) = refl

-- returns k plus the result of a search that starts at k
abbrev onward : ℕ → Option ℕ → Option ℕ
onward k found = option_map (λ n. k + n) found

onward-suc : (k : ℕ) (found : Option ℕ) → onward (k + 1) found ≡ onward k (option_map suc found)
onward-suc k None = refl
onward-suc k (Some n) = ap Some (omega arith)

onward-zero : (found : Option ℕ) → onward 0 found ≡ found
onward-zero None = refl
onward-zero (Some n) = ap Some (omega arith)

first_by_index : (d : ℕ) (new : Name) (text : ℕ → Name) (ordinals old : List (Option ℕ)) (k : ℕ) (is : List ℕ)
    → position_from (λ i. not (have_same_binding (ordinal_in ordinals i) (ordinal_in old i))) k is
    ≡ onward k (first_binding_difference (map (λ i. label_from_ordinal naming_by_spelling (ordinal_in ordinals i) (if same_ordinal (ordinal_in old i) d then new else text i)) is) (map (λ i. label_from_ordinal naming_by_spelling (ordinal_in old i) (text i)) is))
first_by_index d new text ordinals old k [] = refl
first_by_index d new text ordinals old k (i ∷ is) =
    let rest = first_binding_difference (map (λ i. label_from_ordinal naming_by_spelling (ordinal_in ordinals i) (if same_ordinal (ordinal_in old i) d then new else text i)) is) (map (λ i. label_from_ordinal naming_by_spelling (ordinal_in old i) (text i)) is) in
    one (have_same_binding (ordinal_in ordinals i) (ordinal_in old i)) rest (first_by_index d new text ordinals old (k + 1) is)
    ∙ ap (λ b. onward k (if b then option_map suc rest else Some 0)) (sym (alike d new (text i) (ordinal_in ordinals i) (ordinal_in old i)))
  where
    one : (b : Bool) (rest : Option ℕ) {found : Option ℕ} → found ≡ onward (k + 1) rest → cond (not b) (Some k) found ≡ onward k (if b then option_map suc rest else Some 0)
    one true rest e = e ∙ onward-suc k rest
    one false rest e = ap Some (omega arith)

pub first_changed_is : (r : Resolution) (d : ℕ) (new : Name) (ordinals : List (Option ℕ)) → IsResolution r → AreOrdinalsAfterRename r d new ordinals
    → position_from (λ i. not (have_same_binding (ordinal_in ordinals i) (ordinal_in r.ordinals i))) 0 r.uses ≡ first_binding_difference (labels_of_occurrences (renamed (named_tree_of r.module_read) d new)) (labels_of_occurrences (named_tree_of r.module_read))
first_changed_is r d new ordinals is numbering =
    let m = r.module_read in
    let here = bindings_by_table m r.ordinals is.numbering ∙ ap (map (label_from_table m.source r.ordinals)) (sym is.occurring) in
    first_by_index d new (token_text_at m.source) ordinals r.ordinals 0 r.uses
    ∙ (onward-zero _ ∙ (λ i. first_binding_difference (sym (renamed_bindings r d new ordinals is numbering) i) (sym here i)))
