-- If the tokens of a text have the same kinds and spellings as before, the result of checking its module is the same.
-- The module's tree has the same names and numbers, and its faults are at the same tokens.
use Rattle.std.proofs.Common.{◌≡◌, ℕ, List, ◌++◌, IfSome, length, sym, ap, subst}
use Rattle.std.specs.List.{filter}
use Rattle.ob0_scan.specs.ReusedLexemes.{words_of_tokens}
use Rattle.ob0_scan.specs.TextWithTokens.{TextWithTokens}
use Rattle.ob0_tree.specs.ParsedModule.{named_tree_of, parsed_module, tree_of}
use Rattle.ob0_tree.specs.Tree.{mapped_tree}
use Rattle.ob0_tree.specs.declared.tree.ModuleTree.{ModuleTree}
use Rattle.ob0_language_types.specs.WellTyped.{WellTyped}
use Rattle.ob0_scope_table.specs.Bindings.{resolution_with_bindings}
use Rattle.ob0_scope_table.specs.Resolution.{IsResolution, Resolution, is_duplicate_or_end_name_fault, ordinal_in}
use Rattle.ob0_scope_table.specs.declared.faults.FaultAtTokens.{FaultAtTokens}
use Rattle.ob0_scope_table.specs.declared.resolved.Bindings.{Bindings}
use Rattle.ob0_scope_table.proofs.SameWords.{same_count, same_named_tree, same_texts, same_values}
use Rattle.ob0_types_check.specs.EqualExceptBodies.{module_without_bodies}
use Rattle.ob0_types_check.specs.ModuleLaws.{TableHasDeclaredObjects}
use Rattle.ob0_types_check.specs.WalksOverSomeBodies.{AllClosingNamesPass, faulty_bodies, is_body_in_list}
use Rattle.ob0_types_check.proofs.SameModules.{module_same}
use Rattle.ob0_types_check.proofs.WalksOverSomeBodies.{faulty_stay}
use Rattle.ob0_types.specs.FaultOrder.{AreFirstFaultsByTokens, AreFirstFaultsWhenSorted, all_faults_of, compare_faults_by_tokens}
use Rattle.ob0_types.specs.SameSpellings.{CheckResultDependsOnlyOnSpellings}

module _ (old new : TextWithTokens) (tree : ModuleTree) (b : Bindings) (same : words_of_tokens new.text new.tokens ≡ words_of_tokens old.text old.tokens) where
  abbrev before : Resolution
  before = resolution_with_bindings (parsed_module old tree) b

  abbrev after : Resolution
  after = resolution_with_bindings (parsed_module new tree) b

  named : named_tree_of after.module_read ≡ named_tree_of before.module_read
  named = same_named_tree old new same tree

  first_stay : (faults : List FaultAtTokens) → AreFirstFaultsByTokens before faults → AreFirstFaultsByTokens after faults
  first_stay faults first =
      subst (λ count. AreFirstFaultsWhenSorted (compare_faults_by_tokens count) (all_faults_of after) faults) (sym (same_count old new same))
      (subst (λ found. AreFirstFaultsWhenSorted (compare_faults_by_tokens (length old.tokens)) found faults) (ap (λ found. found ++ filter is_duplicate_or_end_name_fault b.faults.items) (module_same old new same tree b)) first)

  bodies_stay : IsResolution before → IsResolution after → (bodies : List ℕ) → AllClosingNamesPass (is_body_in_list bodies) (faulty_bodies before) → AllClosingNamesPass (is_body_in_list bodies) (faulty_bodies after)
  bodies_stay r s bodies were =
      faulty_stay (is_body_in_list bodies) after s (record {
        old = before;
        left_out = is_body_in_list bodies;
        resolved = r;
        bodies_with_faults = were;
        equal = λ i. mapped_tree (λ k. (ordinal_in b.ordinals.items k, same_texts old new same i k)) (same_values old new same i) (module_without_bodies (is_body_in_list bodies) (tree_of before.module_read));
      })

pub check_result_depends_only_on_spellings : CheckResultDependsOnlyOnSpellings
check_result_depends_only_on_spellings old new tree b types same s t =
    let names = named old new tree b same in
    record {
      resolved = s;
      reported = ((λ e. subst WellTyped (sym names) (t.reported.0 e)), (λ typed. t.reported.1 (subst WellTyped names typed)));
      first = first_stay old new tree b same types.faults.items t.first;
      table = record {
        holds = subst (λ n. IfSome types.known (TableHasDeclaredObjects n)) (sym names) t.table.holds;
        kept = λ typed. t.table.kept (subst WellTyped names typed);
      };
      bodies_with_faults = bodies_stay old new tree b same t.resolved s types.bodies_with_faults.items t.bodies_with_faults;
    }
