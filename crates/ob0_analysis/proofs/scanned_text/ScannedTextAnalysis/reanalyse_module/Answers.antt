use Rattle.std.proofs.Common.{◌≡◌, refl}
use Rattle.ob0_scan.specs.ReusedLexemes.{token_kinds_without_values}
use Rattle.ob0_scan.specs.declared.tokens.RescanWithComparison.{RescanWithComparison}
use Rattle.ob0_tree.specs.ParsedModule.{TreeMatchesText, parsed_module}
use Rattle.ob0_tree.specs.declared.tree.ModuleTree.{ModuleTree}
use Rattle.ob0_scope_table.specs.declared.resolved.Bindings.{Bindings}
use Rattle.ob0_types.specs.declared.checked_modules.CheckResult.{CheckResult}
use Rattle.ob0_parse.proofs.Stays.{tree_stays}
use Rattle.ob0_analysis.specs.LastModule.{IsEarlierModule}
use Rattle.ob0_analysis.proofs.scanned_text.ScannedTextAnalysis.reanalyse_module.Goals as goal

-- The old tree is the tree of the changed text if all tokens have the same kinds.
still_parsed : (r : RescanWithComparison) (tree : ModuleTree) (b : Bindings) (types : CheckResult) (earlier : IsEarlierModule r.rescan.tokens tree b types r.same) → token_kinds_without_values r.rescan.tokens.tokens ≡ token_kinds_without_values earlier.old.tokens
    → TreeMatchesText (parsed_module r.rescan.tokens tree)
still_parsed r tree b types earlier alike = tree_stays (parsed_module earlier.old tree) (parsed_module r.rescan.tokens tree) earlier.parsed refl earlier.new_scan.short alike

pub reanalyse_with_changed_kinds-requires : goal.reanalyse_with_changed_kinds-requires
reanalyse_with_changed_kinds-requires c = c.requires.earlier_module

pub from_parts-parts-requires-clause-parsed : goal.from_parts-parts-requires-clause-parsed
from_parts-parts-requires-clause-parsed c = still_parsed c.args.changed c.args.tree c.args.bindings c.args.types c.requires.earlier_module (c.requires.same_kinds c.if-not-same_kinds.false)

pub from_parts-parts-requires-clause-resolved : goal.from_parts-parts-requires-clause-resolved
from_parts-parts-requires-clause-resolved c =
    let before = c.requires.earlier_module in
    let parsed = still_parsed c.args.changed c.args.tree c.args.bindings c.args.types before (c.requires.same_kinds c.if-not-same_kinds.false) in
    c.bindings_depend_only_on_spellings.ensures before.old c.args.changed.rescan.tokens c.args.tree c.args.bindings (c.requires.same_words c.if-same_words.true) parsed before.resolved

pub from_parts-parts-requires-clause-types : goal.from_parts-parts-requires-clause-types
from_parts-parts-requires-clause-types c =
    let before = c.requires.earlier_module in
    let same = c.requires.same_words c.if-same_words.true in
    let parsed = still_parsed c.args.changed c.args.tree c.args.bindings c.args.types before (c.requires.same_kinds c.if-not-same_kinds.false) in
    let resolved = c.bindings_depend_only_on_spellings.ensures before.old c.args.changed.rescan.tokens c.args.tree c.args.bindings same parsed before.resolved in
    c.check_result_depends_only_on_spellings.ensures before.old c.args.changed.rescan.tokens c.args.tree c.args.bindings c.args.types same resolved before.types_are

pub reanalyse_with_same_tree-requires-clause-parsed : goal.reanalyse_with_same_tree-requires-clause-parsed
reanalyse_with_same_tree-requires-clause-parsed c = still_parsed c.args.changed c.args.tree c.args.bindings c.args.types c.requires.earlier_module (c.requires.same_kinds c.if-not-same_kinds.false)

pub reanalyse_with_same_tree-requires-clause-resolved : goal.reanalyse_with_same_tree-requires-clause-resolved
reanalyse_with_same_tree-requires-clause-resolved c =
    let before = c.requires.earlier_module in
    let alike = c.requires.same_kinds c.if-not-same_kinds.false in
    let parsed = still_parsed c.args.changed c.args.tree c.args.bindings c.args.types before alike in
    λ same none. c.bindings_depend_only_on_names.ensures before.old c.args.changed.rescan.tokens c.args.tree c.args.bindings (record { same_kinds = alike; same_names = c.requires.same_names same }) parsed before.resolved none

pub reanalyse_with_same_tree-requires-clause-before : goal.reanalyse_with_same_tree-requires-clause-before
reanalyse_with_same_tree-requires-clause-before c = record { earlier_module = c.requires.earlier_module; same_kinds = c.requires.same_kinds c.if-not-same_kinds.false }
