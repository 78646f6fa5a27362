-- Proves that each gap that formatting changes has an edit, if the formatted text isn't too long.
-- Also proves which text results from these edits.
use Rattle.std.proofs.Common.{◌≡◌, ◌∙◌, ◌<◌, ◌≤◌, ℕ, zero, suc, true, List, [], ◌∷◌, Some, map, length, refl, ap, arith}
use Rattle.std.specs.Str.{chars}
use Rattle.ob0_scan.specs.TextWithTokens.{IsScan, TextWithTokens}
use Rattle.ob0_text.specs.declared.edits.Edit.{Edit}
use Rattle.ob0_text.specs.declared.edits.Indent.{Indent}
use Rattle.ob0_text.specs.declared.position_types.Unit.{Unit}
use Rattle.ob0_text.specs.Patches.{Cut, patched_text}
use Rattle.ob0_text.specs.Units.{width_of}
use Rattle.ob0_tree.specs.Tree.{Tree, module_text}
use Rattle.ob0_edits_tokens.specs.ByteCuts.{edit_of_cut, length_after_cuts_from_offset}
use Rattle.ob0_edits_tokens.specs.Replacements.{range_and_text}
use Rattle.ob0_edits_tokens.proofs.TextCuts.{AreCuts}
use Rattle.ob0_layout.specs.Layout.{formatted_lexemes, formatted_text}
use Rattle.ob0_layout.specs.LineRoles.{line_roles}
use Rattle.ob0_layout.specs.Gaps.{all_gaps, changed_gaps}
use Rattle.ob0_layout.proofs.Gaps.{all_changed_are, changed_length, gaps_patched}
use Rattle.ob0_world_worked.proofs.WorkedValues.{string_of}

-- each gap has an edit, if the text that they leave isn't too long
pub gap_edits : (unit : Unit) (content text : List ℕ) (len at : ℕ) (cs : List Cut) → AreCuts text at cs → length_after_cuts_from_offset len at cs ≤ 1048576 → (edits : List Edit) × (map range_and_text edits ≡ map (edit_of_cut unit content) cs)
gap_edits unit content text len at [] are short = ([], refl)
gap_edits unit content text len at (c ∷ cs) are short =
    let more = gap_edits unit content text len c.to cs are.1 (omega (arith, short)) in
    let here : Edit = record { range = (edit_of_cut unit content c).0; text = string_of c.new are.0.utf8 (omega (arith, short)) } in
    (here ∷ more.0, ap (λ xs. edit_of_cut unit content c ∷ xs) more.1)

-- the changes that formatting makes to a text
module _ (unit : Unit) (indent : Indent) (text : List ℕ) (s : TextWithTokens) (scan : IsScan s) (tree : Tree (List ℕ) module_text) where
  the_length : length_after_cuts_from_offset (length s.text) 0 (changed_gaps s.text (all_gaps indent s.text (line_roles 0 tree) scan.lexemes)) ≡ length (formatted_text indent tree scan.lexemes)
  unfolding formatted_lexemes
  the_length = changed_length indent s scan (line_roles 0 tree)

  pub layout_edits : length (formatted_text indent tree scan.lexemes) ≤ 1048576 → (edits : List Edit) × (map range_and_text edits ≡ map (edit_of_cut unit text) (changed_gaps s.text (all_gaps indent s.text (line_roles 0 tree) scan.lexemes)))
  layout_edits short =
      gap_edits unit text s.text (length s.text) 0 (changed_gaps s.text (all_gaps indent s.text (line_roles 0 tree) scan.lexemes)) (all_changed_are indent s scan (line_roles 0 tree)) (omega (arith, the_length, short))

  pub layout_patches : text ≡ chars s.text → (edits : List Edit) → map range_and_text edits ≡ map (edit_of_cut unit text) (changed_gaps s.text (all_gaps indent s.text (line_roles 0 tree) scan.lexemes)) → patched_text (width_of unit) text edits ≡ Some (chars (formatted_text indent tree scan.lexemes))
  unfolding formatted_lexemes
  layout_patches held edits e =
      ap (λ (t : List ℕ). patched_text (width_of unit) t edits) held
      ∙ gaps_patched indent s scan (line_roles 0 tree) unit edits (e ∙ ap (λ (t : List ℕ). map (edit_of_cut unit t) (changed_gaps s.text (all_gaps indent s.text (line_roles 0 tree) scan.lexemes))) held)
