-- Proves that the edits that format a text leave the same module.
use Rattle.std.proofs.Common.{◌≡◌, ◌≤◌, ◌<◌, ◌⊎◌, ◌∙◌, ℕ, List, Option, Some, None, Result, Ok, Err, IfOk, IfErr, IsErrOf, Vec, Global, map, length, inl, inr, refl, sym, ap, subst}
use Rattle.std.specs.Str.{chars, IsUtf8}
use Rattle.std.proofs.lemmas.Str.{encodes-chars}
use Rattle.ob0_scan.specs.TextLexemes.{Lexeme, LexesInto}
use Rattle.ob0_scan.specs.TextWithTokens.{TextWithTokens, IsScan, max_text_length, tokens_of_lexemes_from, comments_of_lexemes_from}
use Rattle.ob0_scope_table.specs.Resolution.{Resolution}
use Rattle.ob0_text.specs.Patches.{patched_text}
use Rattle.ob0_text.specs.Units.{width_of}
use Rattle.ob0_text.specs.declared.edits.Edit.{Edit}
use Rattle.ob0_text.specs.declared.edits.Indent.{Indent}
use Rattle.ob0_text.specs.declared.position_types.Unit.{Unit}
use Rattle.ob0_tree.specs.Module.{IsModuleWithTree}
use Rattle.ob0_tree.specs.ParsedModule.{ParsedModule, named_tree_of}
use Rattle.ob0_tree.specs.Tree.{Tree, module_text}
use Rattle.ob0_edits_tokens.specs.ByteCuts.{edit_of_cut}
use Rattle.ob0_edits_tokens.specs.Replacements.{range_and_text}
use Rattle.ob0_layout.specs.Layout.{formatted_lexemes, formatted_text}
use Rattle.ob0_layout.specs.Gaps.{changed_gaps, all_gaps}
use Rattle.ob0_layout.specs.LineRoles.{line_roles}
use Rattle.ob0_text.specs.declared.refusals.EditRefusal.{EditRefusal}
use Rattle.ob0_text.specs.declared.refusals.EditRefusal.TheVariants.{TooLong, Memory}
use Rattle.ob0_analysis.specs.AnalysisAnswers.{AnswersExactlyIfWellTyped, IsResolvedWellTypedModule}
use Rattle.ob0_analysis.specs.ReportedErrors.{IsTextOfTree, IsWellTypedModule}
use Rattle.ob0_analysis.specs.TextBytes.{utf8}
use Rattle.ob0_edits.specs.FormattingEdits.{IsOptionalFormatResult, IsFormatResult, FormattedTextIsTooLong, FormatsText, edits_of_changed_gaps, formatted_text_of_module}
use Rattle.ob0_analysis.proofs.Scanning.{is_module, utf8_of}

abbrev pub ModuleStays : Type 0
ModuleStays =
    (indent : Indent) (s : TextWithTokens) (scan : IsScan s) (tree : Tree (List ℕ) module_text) → IsModuleWithTree s tree
    → (t : TextWithTokens) → IsScan t → t.text ≡ formatted_text indent tree scan.lexemes → IsModuleWithTree t tree

-- If the formatted text isn't too long, it is a text of the same module.
stays_module : (indent : Indent) (text : List ℕ) (m : IsWellTypedModule text) → IsUtf8 (formatted_text_of_module indent m) → LexesInto (formatted_text_of_module indent m) (formatted_lexemes indent m.tree m.text_of.scan.scan.lexemes)
    → length (formatted_text_of_module indent m) ≤ max_text_length → ModuleStays → IsTextOfTree m.tree (utf8 (chars (formatted_text_of_module indent m)))
stays_module indent text m u lexed short law =
    let laid : List ℕ = formatted_text_of_module indent m in
    let lexemes : List Lexeme = formatted_lexemes indent m.tree m.text_of.scan.scan.lexemes in
    let t : TextWithTokens = record { text = laid; tokens = tokens_of_lexemes_from 0 lexemes; comments = comments_of_lexemes_from 0 lexemes } in
    let scan : IsScan t = record { utf8 = u; short = short; lexemes = lexemes; lexed = lexed; tokens = refl; comments = refl } in
    record { scanned = t; scan = record { of = sym (encodes-chars laid u); scan = scan }; module_of = law indent m.text_of.scanned m.text_of.scan.scan m.tree m.text_of.module_of t scan refl }

pub lays_out : (unit : Unit) (indent : Indent) (text : List ℕ) (edits : List Edit) (m : IsWellTypedModule (utf8 text)) → map range_and_text edits ≡ edits_of_changed_gaps unit indent text m
    → patched_text (width_of unit) text edits ≡ Some (chars (formatted_text_of_module indent m)) → length (formatted_text_of_module indent m) ≤ max_text_length
    → IsUtf8 (formatted_text_of_module indent m) → LexesInto (formatted_text_of_module indent m) (formatted_lexemes indent m.tree m.text_of.scan.scan.lexemes) → ModuleStays
    → FormatsText unit indent text edits
lays_out unit indent text edits m changes made short u lexed law =
    let stays : IsTextOfTree m.tree (utf8 (chars (formatted_text_of_module indent m))) = stays_module indent (utf8 text) m u lexed short law in
    record {
      before = m;
      changes = changes;
      after = chars (formatted_text_of_module indent m);
      made = made;
      is_formatted_text = encodes-chars (formatted_text_of_module indent m) u;
      same_module = stays;
      runs = record { old = m; new = record { tree = m.tree; text_of = stays; well_typed = m.well_typed }; same = λ input c t. refl };
    }

-- holds if the contract of `format` holds of these edits, for a module that was read
abbrev pub Made : Unit → Indent → List ℕ → List Edit → ParsedModule → Type 0
Made unit indent text edits m =
    ((scan : IsScan m.source) → map range_and_text edits ≡ map (edit_of_cut unit text) (changed_gaps m.source.text (all_gaps indent m.source.text (line_roles 0 (named_tree_of m)) scan.lexemes)))
    × ((scan : IsScan m.source) → length (formatted_text indent (named_tree_of m) scan.lexemes) ≤ max_text_length)
    × ((scan : IsScan m.source) → text ≡ chars m.source.text → patched_text (width_of unit) text edits ≡ Some (chars (formatted_text indent (named_tree_of m) scan.lexemes)))

pub formats : (unit : Unit) (indent : Indent) (text : List ℕ) (edits : List Edit) (names : Resolution) (m : ParsedModule) → m ≡ names.module_read
    → IsResolvedWellTypedModule (utf8 text) names → text ≡ chars names.module_read.source.text → Made unit indent text edits m
    → ((indent : Indent) (s : TextWithTokens) (scan : IsScan s) (tree : Tree (List ℕ) module_text) → IsUtf8 (formatted_text indent tree scan.lexemes))
    → ((indent : Indent) (s : TextWithTokens) (scan : IsScan s) (tree : Tree (List ℕ) module_text) → IsModuleWithTree s tree → LexesInto (formatted_text indent tree scan.lexemes) (formatted_lexemes indent tree scan.lexemes))
    → ModuleStays → FormatsText unit indent text edits
formats unit indent text edits names m is h same made u lexed law =
    let w = is_module (utf8 text) names h in
    let is_made = subst (Made unit indent text edits) is made in
    let scan = h.scan.scan in
    let source = names.module_read.source in
    lays_out unit indent text edits w (is_made.0 scan) (is_made.2 scan same) (is_made.1 scan) (u indent source scan w.tree) (lexed indent source scan w.tree w.text_of.module_of) law

-- If no allocation failed, the only refusal is that the formatted text is too long.
pub too_long : (indent : Indent) (text : List ℕ) (names : Resolution) (m : ParsedModule) (refusal : EditRefusal) → m ≡ names.module_read → IsResolvedWellTypedModule (utf8 text) names
    → ((scan : IsScan m.source) → refusal ≡ TooLong → max_text_length < length (formatted_text indent (named_tree_of m) scan.lexemes))
    → (refusal ≡ TooLong) ⊎ (refusal ≡ Memory) → (refusal ≡ Memory → ⊥) → (refusal ≡ TooLong) × FormattedTextIsTooLong indent text
too_long indent text names m refusal is h long (inr wants) other = absurd (other wants)
too_long indent text names m refusal is h long (inl longer) other =
    let P : ParsedModule → Type 0 = λ p. (scan : IsScan p.source) → refusal ≡ TooLong → max_text_length < length (formatted_text indent (named_tree_of p) scan.lexemes) in
    (longer, record { before = is_module (utf8 text) names h; long = subst P is long h.scan.scan longer })

-- If no allocation failed, the result is edits or the refusal, by the contract of `format`.
pub formats_or_not : (unit : Unit) (indent : Indent) (text : List ℕ) (names : Resolution) (m : ParsedModule) (r : Result (Vec Edit Global) EditRefusal) → m ≡ names.module_read
    → IsResolvedWellTypedModule (utf8 text) names → text ≡ chars names.module_read.source.text
    → ((scan : IsScan m.source) → IfOk r (λ edits. map range_and_text edits.items ≡ map (edit_of_cut unit text) (changed_gaps m.source.text (all_gaps indent m.source.text (line_roles 0 (named_tree_of m)) scan.lexemes))))
    → ((scan : IsScan m.source) → IfOk r (λ edits. length (formatted_text indent (named_tree_of m) scan.lexemes) ≤ max_text_length))
    → ((scan : IsScan m.source) → text ≡ chars m.source.text → IfOk r (λ edits. patched_text (width_of unit) text edits.items ≡ Some (chars (formatted_text indent (named_tree_of m) scan.lexemes))))
    → ((scan : IsScan m.source) → IsErrOf r TooLong → max_text_length < length (formatted_text indent (named_tree_of m) scan.lexemes))
    → IfErr r (λ refusal. (refusal ≡ TooLong) ⊎ (refusal ≡ Memory)) → IfErr r (λ refusal. refusal ≡ Memory → ⊥)
    → ((indent : Indent) (s : TextWithTokens) (scan : IsScan s) (tree : Tree (List ℕ) module_text) → IsUtf8 (formatted_text indent tree scan.lexemes))
    → ((indent : Indent) (s : TextWithTokens) (scan : IsScan s) (tree : Tree (List ℕ) module_text) → IsModuleWithTree s tree → LexesInto (formatted_text indent tree scan.lexemes) (formatted_lexemes indent tree scan.lexemes))
    → ModuleStays → IsFormatResult unit indent text r
formats_or_not unit indent text names m (Ok edits) is h same changes short made long refusals other u lexed law =
    formats unit indent text edits.items names m is h same (changes, short, made) u lexed law
formats_or_not unit indent text names m (Err refusal) is h same changes short made long refusals other u lexed law =
    too_long indent text names m refusal is h (λ scan e. long scan (ap Err e)) refusals other

-- The result of asking for the formatting is the result of formatting the text.
pub layout_found : (unit : Unit) (indent : Indent) (bytes text : List ℕ) (found : Option (Result (Vec Edit Global) EditRefusal)) → IsUtf8 bytes → chars bytes ≡ text
    → AnswersExactlyIfWellTyped bytes (λ names outcome. IsResolvedWellTypedModule (utf8 text) names → text ≡ chars names.module_read.source.text → IsFormatResult unit indent text outcome) found
    → IsOptionalFormatResult unit indent text found
layout_found unit indent bytes text (Some outcome) u is h =
    h.2 (subst (λ (t : List ℕ). IsResolvedWellTypedModule t h.0) (utf8_of bytes text u is) h.1) (sym is ∙ ap chars (sym h.1.scan.of))
layout_found unit indent bytes text None u is h = subst (λ (t : List ℕ). IsWellTypedModule t → ⊥) (utf8_of bytes text u is) h
