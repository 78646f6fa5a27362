-- Proves that a formatted text is a text of the same module.
use Rattle.std.proofs.Common.{◌≡◌, ℕ, List, map, refl, ap, ◌∙◌, subst}
use Rattle.ob0_scan.specs.TextLexemes.{text_of_lexemes, LexesInto}
use Rattle.ob0_scan.specs.TextWithTokens.{TextWithTokens, IsScan, words_of_lexemes}
use Rattle.ob0_scan.proofs.Borders.{cut_into_lexemes_depends_only_on_next_bytes}
use Rattle.ob0_scan.proofs.Cuts.{cut_into_lexemes_is_unique}
use Rattle.ob0_text.specs.declared.edits.Indent.{Indent}
use Rattle.ob0_tree.specs.Tree.{Tree, module_text}
use Rattle.ob0_tree.specs.Module.{IsModuleWithTree}
use Rattle.ob0_layout.specs.Layout.{formatted_lexemes, formatted_text}
use Rattle.ob0_layout.proofs.Again.{laid_out_again}
use Rattle.ob0_layout.proofs.Kept.{words_kept}
use Rattle.ob0_layout.proofs.Apart.{laid_out_apart}
use Rattle.ob0_layout.proofs.Named.{named_lexeme, spelled_words, text_words}

module _ (indent : Indent) (s : TextWithTokens) (scan : IsScan s) (tree : Tree (List ℕ) module_text) (m : IsModuleWithTree s tree) where
  pub laid_out_lexed : LexesInto (formatted_text indent tree scan.lexemes) (formatted_lexemes indent tree scan.lexemes)
  laid_out_lexed =
      let apart = (cut_into_lexemes_depends_only_on_next_bytes s.text scan.lexemes).0 scan.lexed in
      (cut_into_lexemes_depends_only_on_next_bytes (formatted_text indent tree scan.lexemes) (formatted_lexemes indent tree scan.lexemes)).1 (refl, laid_out_apart indent tree scan.lexemes (spelled_words s scan tree m) apart.1)

  -- The lexemes of a formatted text are the formatted lexemes.
  pub same_lexemes : (t : TextWithTokens) (again : IsScan t) → t.text ≡ formatted_text indent tree scan.lexemes → again.lexemes ≡ formatted_lexemes indent tree scan.lexemes
  same_lexemes t again e = cut_into_lexemes_is_unique (formatted_text indent tree scan.lexemes) again.lexemes (formatted_lexemes indent tree scan.lexemes) (subst (λ x. LexesInto x again.lexemes) e again.lexed) laid_out_lexed

  pub layout_module : (t : TextWithTokens) → IsScan t → t.text ≡ formatted_text indent tree scan.lexemes → IsModuleWithTree t tree
  layout_module t again e = record {
    spelled = text_words t again ∙ ap (λ ls. map named_lexeme (words_of_lexemes ls)) (same_lexemes t again e) ∙ ap (map named_lexeme) (words_kept indent tree scan.lexemes) ∙ spelled_words s scan tree m;
    short = again.short;
    shallow = m.shallow;
  }

  pub layout_again : (t : TextWithTokens) (again : IsScan t) → t.text ≡ formatted_text indent tree scan.lexemes → formatted_text indent tree again.lexemes ≡ formatted_text indent tree scan.lexemes
  layout_again t again e = ap (formatted_text indent tree) (same_lexemes t again e) ∙ ap text_of_lexemes (laid_out_again indent tree scan.lexemes)
