-- Proves that a text has at most one tree.
use Rattle.std.proofs.Common.{◌≡◌, ◌∙◌, ℕ, List, [], sym, subst, append-nil}
use Rattle.ob0_scan.specs.TextWithTokens.{TextWithTokens}
use Rattle.ob0_scan.proofs.Spans.{scan_is_unique}
use Rattle.ob0_tree.specs.Module.{IsModuleWithTree}
use Rattle.ob0_tree.specs.Tree.{Tree, module_text, spell}
use Rattle.ob0_language_names.specs.Names.{Name}
use Rattle.ob0_language_runs.specs.EditLaws.{HaveSameRuns}
use Rattle.ob0_parse_descent.proofs.Unique.{same}
use Rattle.ob0_edits.specs.ReportedErrors.{IsTextOfTree}
use Rattle.ob0_edits.specs.SameRuns.{RunsAsBefore}
use Rattle.ob0_edits.specs.TextBytes.{utf8}
use Rattle.ob0_world_rules.specs.WellTypedTexts.{SameRun}
use Rattle.ob0_world_rules.proofs.ModuleTexts.{text_of_module}

pub tree_is_unique : (s : TextWithTokens) (a b : Tree Name module_text) → IsModuleWithTree s a → IsModuleWithTree s b → a ≡ b
tree_is_unique s a b p q = (same a b [] [] tt tt (append-nil (spell a) ∙ (sym p.spelled ∙ (q.spelled ∙ sym (append-nil (spell b)))))).0

pub same_tree : (text : List ℕ) (a b : Tree Name module_text) → IsTextOfTree a text → IsTextOfTree b text → a ≡ b
same_tree text a b p q =
    let scans : p.scanned ≡ q.scanned = scan_is_unique p.scanned q.scanned p.scan.scan q.scan.scan (p.scan.of ∙ sym q.scan.of) in
    tree_is_unique q.scanned a b (subst (λ s. IsModuleWithTree s a) scans p.module_of) q.module_of

pub same_run : (text after : List ℕ) → RunsAsBefore (utf8 text) (utf8 after) → SameRun text after
same_run text after runs s t is also =
    subst (λ x. HaveSameRuns x t) (same_tree (utf8 text) runs.old.tree s runs.old.text_of (text_of_module s (utf8 text) is))
    (subst (λ x. HaveSameRuns runs.old.tree x) (same_tree (utf8 after) runs.new.tree t runs.new.text_of (text_of_module t (utf8 after) also)) (λ input c n. sym (runs.same input c n)))
