-- Proves that a text is formatted in at most one way: two lists of edits are equal, and there are
-- no edits if the formatted text is too long.
use Rattle.std.proofs.Common.{◌≡◌, ◌∙◌, ℕ, ◌≤◌, List, map, length, sym, arith, subst}
use Rattle.ob0_scan.specs.TextLexemes.{LexesInto}
use Rattle.ob0_scan.specs.TextWithTokens.{max_text_length}
use Rattle.ob0_scan.proofs.Cuts.{cut_into_lexemes_is_unique}
use Rattle.ob0_scan.proofs.Spans.{scan_is_unique}
use Rattle.ob0_text.specs.declared.edits.Edit.{Edit}
use Rattle.ob0_text.specs.declared.edits.Indent.{Indent}
use Rattle.ob0_text.specs.declared.position_types.Unit.{Unit}
use Rattle.ob0_text.specs.Units.{width_of}
use Rattle.ob0_tree.specs.Tree.{Tree, module_text}
use Rattle.ob0_language_names.specs.Names.{Name}
use Rattle.ob0_edits_tokens.specs.ByteCuts.{edit_of_cut}
use Rattle.ob0_edits_tokens.specs.Replacements.{range_and_text}
use Rattle.ob0_layout.specs.Layout.{formatted_text}
use Rattle.ob0_layout.specs.Gaps.{changed_gaps, all_gaps}
use Rattle.ob0_layout.specs.LineRoles.{line_roles}
use Rattle.ob0_edits.specs.ReportedErrors.{IsTextOfTree, IsWellTypedModule}
use Rattle.ob0_edits.specs.TextBytes.{utf8}
use Rattle.ob0_edits.specs.FormattingEdits.{FormatsText, FormattedTextIsTooLong, edits_of_changed_gaps, formatted_text_of_module}
use Rattle.ob0_world_rules.specs.TextEdits.{replacements_of_edits}
use Rattle.ob0_world_rules.proofs.OneModule.{same_parts}
use Rattle.ob0_world_rules.proofs.Trees.{same_tree}

module _ (text : List ℕ) (m n : IsWellTypedModule (utf8 text)) where
  one_source : m.text_of.scanned ≡ n.text_of.scanned
  one_source = scan_is_unique m.text_of.scanned n.text_of.scanned m.text_of.scan.scan n.text_of.scan.scan (m.text_of.scan.of ∙ sym n.text_of.scan.of)

  one_module : m.tree ≡ n.tree
  one_module = same_tree (utf8 text) m.tree n.tree m.text_of n.text_of

  one_lexing : m.text_of.scan.scan.lexemes ≡ n.text_of.scan.scan.lexemes
  one_lexing =
      cut_into_lexemes_is_unique (utf8 text) m.text_of.scan.scan.lexemes n.text_of.scan.scan.lexemes
      (subst (λ t. LexesInto t m.text_of.scan.scan.lexemes) m.text_of.scan.of m.text_of.scan.scan.lexed)
      (subst (λ t. LexesInto t n.text_of.scan.scan.lexemes) n.text_of.scan.of n.text_of.scan.scan.lexed)

  one_layout : (indent : Indent) → formatted_text_of_module indent m ≡ formatted_text_of_module indent n
  one_layout indent = λ i. formatted_text indent (one_module i) (one_lexing i)

  one_change : (unit : Unit) (indent : Indent) → edits_of_changed_gaps unit indent text m ≡ edits_of_changed_gaps unit indent text n
  one_change unit indent = λ i. map (edit_of_cut unit text) (changed_gaps (one_source i).text (all_gaps indent (one_source i).text (line_roles 0 (one_module i)) (one_lexing i)))

-- Two formattings of a text have equal edits, by the bytes of their texts.
pub lays_out_said : (unit : Unit) (indent : Indent) (text : List ℕ) (xs ys : List Edit) → FormatsText unit indent text xs → FormatsText unit indent text ys → map range_and_text xs ≡ map range_and_text ys
lays_out_said unit indent text xs ys h k = h.changes ∙ (one_change text h.before k.before unit indent ∙ sym k.changes)

pub lays_out_one : (unit : Unit) (indent : Indent) (text : List ℕ) (xs ys : List Edit) → FormatsText unit indent text xs → FormatsText unit indent text ys → replacements_of_edits xs ≡ replacements_of_edits ys
lays_out_one unit indent text xs ys h k = same_parts xs ys (lays_out_said unit indent text xs ys h k)

-- A text that has a module is no longer than `max_text_length`.
short_enough : (text : List ℕ) (tree : Tree Name module_text) → IsTextOfTree tree text → length text ≤ max_text_length
short_enough text tree is = subst (λ t. length t ≤ max_text_length) is.scan.of is.module_of.short

pub lays_out_or_long : (unit : Unit) (indent : Indent) (text : List ℕ) (xs : List Edit) → FormatsText unit indent text xs → FormattedTextIsTooLong indent text → ⊥
lays_out_or_long unit indent text xs h long =
    let short : length (utf8 h.after) ≤ max_text_length = short_enough (utf8 h.after) h.before.tree h.same_module in
    let here : length (formatted_text_of_module indent h.before) ≤ max_text_length = subst (λ t. length t ≤ max_text_length) h.is_formatted_text short in
    let there : length (formatted_text_of_module indent long.before) ≤ max_text_length = subst (λ t. length t ≤ max_text_length) (one_layout text h.before long.before indent) here in
    omega (arith, there, long.long)
