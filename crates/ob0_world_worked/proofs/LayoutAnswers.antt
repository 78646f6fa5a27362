-- Proves that a request to format a well-typed module has an answer: the edits, or the refusal that
-- the formatted text is too long.
use Rattle.std.proofs.Common.{◌≡◌, ◌≤◌, ℕ, Bool, true, false, List, [], length, inl, inr, refl, sym}
use Rattle.std.specs.Prelude.{nat_lt}
use Rattle.std.specs.Str.{IsUtf8, chars}
use Rattle.std.proofs.lemmas.Bool.{ltb-false, ltb-true}
use Rattle.std.proofs.lemmas.Str.{chars_from_encodes, encodes-chars}
use Rattle.ob0_scan.specs.TextLexemes.{LexesInto, Lexeme}
use Rattle.ob0_scan.specs.TextWithTokens.{IsScan, TextWithTokens, comments_of_lexemes_from, max_text_length, tokens_of_lexemes_from}
use Rattle.ob0_text.specs.declared.edits.Edit.{Edit}
use Rattle.ob0_text.specs.declared.edits.Indent.{Indent}
use Rattle.ob0_text.specs.declared.position_types.Unit.{Unit}
use Rattle.ob0_tree.specs.Module.{IsModuleWithTree}
use Rattle.ob0_tree.specs.Tree.{Tree, module_text}
use Rattle.ob0_layout.specs.Layout.{formatted_lexemes, formatted_text}
use Rattle.ob0_edits.specs.ReportedErrors.{IsTextOfTree, IsWellTypedModule}
use Rattle.ob0_edits.specs.TextBytes.{utf8}
use Rattle.ob0_edits.specs.FormattingEdits.{FormatsText, formatted_text_of_module}
use Rattle.ob0_world_rules.specs.Asks.{format, clamped_indent}
use Rattle.ob0_world_rules.specs.TextEdits.{replacements_of_edits}
use Rattle.ob0_world_rules.specs.WellTypedTexts.{WellTypedText}
use Rattle.ob0_world_rules.specs.Laws.{AlwaysHasAnswer}
use Rattle.ob0_world_rules.proofs.ModuleTexts.{well_typed_module}
use Rattle.ob0_world_worked.proofs.LayoutEdits.{layout_edits, layout_patches}

abbrev pub ModuleStays : Type 0
ModuleStays =
    (indent : Indent) (s : TextWithTokens) (scan : IsScan s) (tree : Tree (List ℕ) module_text) → IsModuleWithTree s tree
    → (t : TextWithTokens) → IsScan t → t.text ≡ formatted_text indent tree scan.lexemes → IsModuleWithTree t tree

abbrev pub LexemesStay : Type 0
LexemesStay = (indent : Indent) (s : TextWithTokens) (scan : IsScan s) (tree : Tree (List ℕ) module_text) → IsModuleWithTree s tree → LexesInto (formatted_text indent tree scan.lexemes) (formatted_lexemes indent tree scan.lexemes)

abbrev pub LayoutIsUtf8 : Type 0
LayoutIsUtf8 = (indent : Indent) (s : TextWithTokens) (scan : IsScan s) (tree : Tree (List ℕ) module_text) → IsUtf8 (formatted_text indent tree scan.lexemes)

module _ (stays : ModuleStays) (lexed : LexemesStay) (good : LayoutIsUtf8) (unit : Unit) (indent : Indent) (text : List ℕ) (m : IsWellTypedModule (utf8 text)) where
  held : text ≡ chars m.text_of.scanned.text
  held = chars_from_encodes text m.text_of.scanned.text m.text_of.scan.scan.utf8 (sym m.text_of.scan.of)

  stays_module : length (formatted_text_of_module indent m) ≤ 1048576 → IsTextOfTree m.tree (utf8 (chars (formatted_text_of_module indent m)))
  stays_module short =
      let laid : List ℕ = formatted_text_of_module indent m in
      let s = m.text_of.scanned in
      let scan = m.text_of.scan.scan in
      let lexemes : List Lexeme = formatted_lexemes indent m.tree scan.lexemes in
      let t : TextWithTokens = record { text = laid; tokens = tokens_of_lexemes_from 0 lexemes; comments = comments_of_lexemes_from 0 lexemes } in
      let u = good indent s scan m.tree in
      let read : IsScan t = record { utf8 = u; short = short; lexemes = lexemes; lexed = lexed indent s scan m.tree m.text_of.module_of; tokens = refl; comments = refl } in
      record { scanned = t; scan = record { of = sym (encodes-chars laid u); scan = read }; module_of = stays indent s scan m.tree m.text_of.module_of t read refl }

  pub lays_out : length (formatted_text_of_module indent m) ≤ 1048576 → (edits : List Edit) × FormatsText unit indent text edits
  lays_out short =
      let s = m.text_of.scanned in
      let scan = m.text_of.scan.scan in
      let made = layout_edits unit indent text s scan m.tree short in (
        made.0,
        record {
          before = m;
          changes = made.1;
          after = chars (formatted_text_of_module indent m);
          made = layout_patches unit indent text s scan m.tree held made.0 made.1;
          is_formatted_text = encodes-chars (formatted_text_of_module indent m) (good indent s scan m.tree);
          same_module = stays_module short;
          runs = record { old = m; new = record { tree = m.tree; text_of = stays_module short; well_typed = m.well_typed }; same = λ input c t. refl };
        },
      )

pub formatting_always_has_answer : ModuleStays → LexemesStay → LayoutIsUtf8 → (indent : Indent) → AlwaysHasAnswer (format indent)
formatting_always_has_answer stays lexed good indent unit text none = none [] (inr (inr unfit, refl))
  where
    go : (m : IsWellTypedModule (utf8 text)) (b : Bool) → nat_lt max_text_length (length (formatted_text_of_module (clamped_indent indent) m)) ≡ b → ⊥
    go m true long = none [] (inr (inl (record { before = m; long = ltb-true max_text_length (length (formatted_text_of_module (clamped_indent indent) m)) long }), refl))
    go m false fits =
        let low = ltb-false max_text_length (length (formatted_text_of_module (clamped_indent indent) m)) fits in
        let made = lays_out stays lexed good unit (clamped_indent indent) text m low in
        none (replacements_of_edits made.0) (inl (made.0, made.1, refl))

    unfit : WellTypedText text → ⊥
    unfit h = let m = well_typed_module text h in go m (nat_lt max_text_length (length (formatted_text_of_module (clamped_indent indent) m))) refl
