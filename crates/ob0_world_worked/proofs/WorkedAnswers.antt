-- Proves which answers the four requests about the example text get.
use Rattle.std.proofs.Common.{◌≡◌, ◌∙◌, ◌≤◌, ℕ, pos, List, [], ◌∷◌, Some, Ok, Err, Vec, map, length, inl, inr, refl, sym, ap, subst, arith}
use Rattle.std.specs.Prelude.{codes}
use Rattle.std.specs.declared.alloc.Global.{Global}
use Rattle.std.specs.Str.{chars}
use Rattle.ob0_scan.specs.TextWithTokens.{IsScanOf}
use Rattle.ob0_text.specs.declared.edits.Edit.{Edit}
use Rattle.ob0_text.specs.declared.position_types.Unit.TheVariants.{Utf16}
use Rattle.ob0_text.specs.declared.refusals.EditRefusal.TheVariants.{Captures}
use Rattle.ob0_text.specs.Units.{width_of}
use Rattle.ob0_tree.specs.Tree.{Tree, module_text, nesting}
use Rattle.ob0_tree.specs.ParsedModule.{named_tree_of}
use Rattle.ob0_language_names.specs.Names.{Name}
use Rattle.ob0_language_names.specs.Scopes.{renamed}
use Rattle.ob0_language_types.specs.WellTyped.{WellTyped}
use Rattle.ob0_language_types.specs.ConstantValues.{constant_value_in_module}
use Rattle.ob0_language_types.specs.EditLaws.{ConstantUsesAreFactors, Is32BitScalar}
use Rattle.ob0_language_runs.specs.EditLaws.{RenamingToFreeNameKeepsTypingAndRuns, InliningEverywhereKeepsTypingAndRuns, InliningKeepsTypingAndRuns, HaveSameRuns}
use Rattle.ob0_language_values.specs.declared.scalar.Scalar.{Scalar}
use Rattle.ob0_language_values.specs.declared.scalar.Scalar.TheVariants as scalar
use Rattle.ob0_language_values.specs.Scalars.{scalar_value}
use Rattle.ob0_types.specs.CheckedModules.{IsWellTyped}
use Rattle.ob0_analysis.specs.AnalysisAnswers.{IsResolvedWellTypedModule}
use Rattle.ob0_analysis.specs.ReportedErrors.{IsTextOfTree}
use Rattle.ob0_analysis.specs.TextBytes.{utf8}
use Rattle.ob0_analysis.proofs.Scanning.{is_module, utf8_of}
use Rattle.ob0_edits_tokens.specs.Ranges.{range_of}
use Rattle.ob0_edits_tokens.specs.Removals.{span_of_tokens, text_after_removal_and_replacement}
use Rattle.ob0_edits_tokens.specs.Replacements.{replacement_at_token, range_and_text, text_after_replacement}
use Rattle.ob0_rename.specs.Answers.{IsRenameRefusal, RenamesDeclaration}
use Rattle.ob0_rename.specs.Renaming.{TargetsDeclaration, Renaming, rename_target_at, renaming_at_place}
use Rattle.ob0_inline.specs.declared.constant_uses.ConstantUse.{ConstantUse}
use Rattle.ob0_inline.specs.declared.declared_constants.DeclaredConstant.{DeclaredConstant}
use Rattle.ob0_inline.specs.Everywhere.{IsDeclaredConstant, IsConstantAtOffset, tree_inlined_everywhere}
use Rattle.ob0_inline.specs.EditedModuleTexts.{EditedTextHasTree}
use Rattle.ob0_inline.specs.Uses.{IsConstantUse, IsConstantUseAtOffset, tree_with_inlined_use}
use Rattle.ob0_inline.specs.Values.{value_text}
use Rattle.ob0_inline.proofs.AtUses as at_uses
use Rattle.ob0_inline.proofs.AtConstants as at_constants
use Rattle.ob0_edits.specs.declared.inline_question.InliningKind.{InliningKind}
use Rattle.ob0_edits.specs.declared.inline_question.InliningKind.TheVariants.{OneUse, Everywhere}
use Rattle.ob0_edits.specs.InliningEdits.{IsInlineResult, InlinesInText}
use Rattle.ob0_edits.specs.Renamings.{IsRenameRefusedInText, RenamesInText}
use Rattle.ob0_edits.proofs.Renamings.{new_name_found}
use Rattle.ob0_world_rules.specs.Asks.{Ask, rename, inline_here, inline_all}
use Rattle.ob0_world_rules.specs.Answers.{IsAnswerForText}
use Rattle.ob0_world_rules.specs.TextEdits.{Replacement}
use Rattle.ob0_world_rules.specs.Laws.{AnswersAreUnique}
use Rattle.ob0_world_worked.specs.WorkedText.{position_on_line, example_text}
use Rattle.ob0_world_worked.specs.WorkedAnswers.{CapturingRenameIsRefused, RenameAnswerHasThreeEdits, InlineHereAnswerHasOneEdit, InlineAllAnswerHasTwoEdits, IsAnsweredOnlyBy, range_on_line, replacement_on_line}
use Rattle.ob0_world_worked.proofs.WorkedValues.{vec_of}
use Rattle.ob0_world_worked.proofs.LexemeTests.{identifier_of}
use Rattle.ob0_world_worked.proofs.WorkedTexts.{bytes_so, chars_so, inlined_lexemes, inlined_scan, renamed_lexemes, renamed_scan, scanned_of, utf8_so, without_lexemes, without_scan, worked_lexemes, worked_scan}
use Rattle.ob0_world_worked.proofs.WorkedModule.{worked_fits, worked_module, worked_names, worked_resolved}
use Rattle.ob0_world_worked.proofs.WorkedEdits.{declaration_parts, everywhere_leave, inlined_length, inlines_leave, inlines_parts, n_is_at, puts_two, renamed_length, renames, renames_leave, renames_parts, takes_out, two_text, without_length, write_is_at, x_is_at}

-- ---- the module

pub worked_well : IsWellTyped worked_names
worked_well = record { resolved = worked_resolved; well_typed = worked_fits }

worked_scan_of : IsScanOf example_text (scanned_of worked_lexemes)
worked_scan_of = record { of = refl; scan = worked_scan }

pub worked_in : IsResolvedWellTypedModule example_text worked_names
worked_in = record { scan = worked_scan_of; well_typed = worked_well }

worked_bytes : example_text ≡ utf8 example_text
worked_bytes = sym (bytes_so example_text refl)

pub worked_in_bytes : IsResolvedWellTypedModule (utf8 example_text) worked_names
worked_in_bytes = subst (λ (t : List ℕ). IsResolvedWellTypedModule t worked_names) worked_bytes worked_in

answered_by : AnswersAreUnique → (ask : Ask) (edits : List Replacement) → IsAnswerForText Utf16 example_text ask edits → IsAnsweredOnlyBy ask edits
answered_by one ask edits exists given = (λ h. one Utf16 example_text ask given edits h exists, λ e. subst (IsAnswerForText Utf16 example_text ask) (sym e) exists)

y_is : codes "y" ≡ chars (codes "y")
y_is = sym (chars_so (codes "y") refl)

two_is : codes "2" ≡ chars (codes "2")
two_is = sym (chars_so (codes "2") refl)

nothing_is : [] ≡ chars []
nothing_is = sym (chars_so [] refl)

-- ---- the rename

renaming : List ℕ → Renaming
renaming new = renaming_at_place Utf16 example_text worked_names (position_on_line 4 2) new

names_x : (new : List ℕ) → TargetsDeclaration (renaming_at_place Utf16 example_text worked_names (position_on_line 4 2) new) 8
names_x new = ap (rename_target_at worked_names) x_is_at ∙ refl

renames_x : RenamingToFreeNameKeepsTypingAndRuns → RenamesDeclaration (renaming_at_place Utf16 example_text worked_names (position_on_line 4 2) (codes "y")) 8 renames
renames_x keeps =
    let kept = keeps (named_tree_of worked_module) 8 (codes "y") (refl, refl) worked_fits in
    record {
      identifier = identifier_of (codes "y") refl;
      free = (refl, refl);
      writes = record {
        short = omega (arith, renamed_length);
        changes = renames_parts;
        after = scanned_of renamed_lexemes;
        scan = renamed_scan;
        made = renames_leave;
        of_module = record { spelled = refl; short = renamed_scan.short; shallow = let n : nesting (renamed (named_tree_of worked_module) 8 (codes "y")) ≡ 0 = refl in omega (arith, n) };
        well_typed = kept.0;
        same_runs = kept.1;
      };
    }

pub renames_in : RenamingToFreeNameKeepsTypingAndRuns → RenamesInText Utf16 example_text (position_on_line 4 2) (codes "y") renames
renames_in keeps =
    new_name_found Utf16 example_text example_text (position_on_line 4 2) (codes "y") (Some (Ok (vec_of renames (omega (arith))))) (utf8_so example_text refl) (chars_so example_text refl)
    (worked_names, worked_in, inl (8, names_x (codes "y"), renames_x keeps))

pub rename_answer_has_three_edits : RenamingToFreeNameKeepsTypingAndRuns → AnswersAreUnique → RenameAnswerHasThreeEdits
rename_answer_has_three_edits keeps one =
    answered_by one (rename (position_on_line 4 2) (codes "y")) (replacement_on_line 4 2 3 (codes "y") ∷ replacement_on_line 6 2 3 (codes "y") ∷ replacement_on_line 7 8 9 (codes "y") ∷ [])
    (inl (renames, renames_in keeps, ap (λ t. replacement_on_line 4 2 3 t ∷ replacement_on_line 6 2 3 t ∷ replacement_on_line 7 8 9 t ∷ []) y_is))

refused : IsRenameRefusal (renaming_at_place Utf16 example_text worked_names (position_on_line 4 2) (codes "Write")) (Captures (range_on_line 7 2 7))
refused = inl (8, names_x (codes "Write"), (identifier_of (codes "Write") refl, (3, refl, ap Some write_is_at)))

pub refused_in : IsRenameRefusedInText Utf16 example_text (position_on_line 4 2) (codes "Write") (Captures (range_on_line 7 2 7))
refused_in =
    new_name_found Utf16 example_text example_text (position_on_line 4 2) (codes "Write") (Some (Err (Captures (range_on_line 7 2 7)))) (utf8_so example_text refl) (chars_so example_text refl)
    (worked_names, worked_in, refused)

pub capturing_rename_is_refused : AnswersAreUnique → CapturingRenameIsRefused
capturing_rename_is_refused one = record {
  refused = refused_in;
  no_edits = answered_by one (rename (position_on_line 4 2) (codes "Write")) [] (inr (inl (Captures (range_on_line 7 2 7), refused_in), refl));
}

-- ---- inlining

two_value : Scalar
two_value = scalar.Number (pos 2)

text_of_two : codes "2" ≡ value_text (scalar.Number (pos 2))
text_of_two = sym two_text

has_two : constant_value_in_module (named_tree_of worked_module) 7 ≡ Some (scalar_value (scalar.Number (pos 2)))
unfolding constant_value_in_module
has_two = refl

two_fits : Is32BitScalar (scalar_value (scalar.Number (pos 2)))
two_fits = refl

abbrev the_use : ConstantUse
the_use = record { token = 16; occurrence = 2; constant = 7; value = scalar.Number (pos 2) }

use_at : IsConstantUseAtOffset worked_module 56 the_use
use_at = record { named = refl; occurs = refl; has_value = has_two }

use_so : IsConstantUse worked_module the_use
use_so = record { occurs = refl; bound = refl; has_value = has_two }

-- edits that leave the text of a module with the same runs
inlines_in : (how : InliningKind) (offset : ℕ) (edits : Vec Edit Global) (t : Tree Name module_text) → EditedTextHasTree Utf16 example_text edits.items t → WellTyped t → HaveSameRuns t (named_tree_of worked_module)
    → IsInlineResult how Utf16 example_text worked_module offset (Some edits) → InlinesInText how Utf16 example_text offset edits
inlines_in how offset edits t leaves well same inlines =
    let after : List ℕ = chars leaves.after.text in
    let text_of : IsTextOfTree t (utf8 after) =
    subst (λ (w : List ℕ). IsTextOfTree t w) (utf8_of leaves.after.text after leaves.scan.utf8 refl) (record { scanned = leaves.after; scan = record { of = refl; scan = leaves.scan }; module_of = leaves.module_of })
    in
    record {
      module_read = worked_module;
      read = record { scan = worked_in_bytes.scan; parsed = worked_resolved.parsed; well_typed = worked_fits };
      inlines = inlines;
      after = after;
      made = leaves.made;
      runs = record { old = is_module (utf8 example_text) worked_names worked_in_bytes; new = record { tree = t; text_of = text_of; well_typed = well }; same = same };
    }

here_made : at_uses.Made worked_names the_use Utf16 example_text (puts_two ∷ [])
here_made = record {
  edits_are = subst (λ (t : List ℕ). map range_and_text (puts_two ∷ []) ≡ replacement_at_token Utf16 example_text (scanned_of worked_lexemes).tokens t 16 ∷ []) text_of_two (ap (λ p. p ∷ []) inlines_parts);
  make_text = record {
    leaves = λ alone. record {
      after = scanned_of inlined_lexemes;
      scan = inlined_scan;
      made = inlines_leave;
      module_of = record { spelled = refl; short = inlined_scan.short; shallow = let n : nesting (tree_with_inlined_use worked_module the_use) ≡ 0 = refl in omega (arith, n) };
    };
    short = subst (λ (t : List ℕ). length (text_after_replacement (scanned_of worked_lexemes) (16 ∷ []) t) ≤ 1048576) text_of_two (omega (arith, inlined_length));
  };
}

one_edit : Vec Edit Global
one_edit = vec_of (puts_two ∷ []) (omega (arith))

pub inlines_here_in : ConstantUsesAreFactors → InliningKeepsTypingAndRuns → InlinesInText OneUse Utf16 example_text 56 (vec_of (puts_two ∷ []) (omega (arith)))
inlines_here_in alone keeps =
    let answer = at_uses.answer_ok worked_names worked_well the_use use_so alone two_fits keeps Utf16 example_text (puts_two ∷ []) here_made refl in
    inlines_in OneUse 56 (vec_of (puts_two ∷ []) (omega (arith))) (tree_with_inlined_use worked_module the_use) answer.1.leaves answer.1.well_typed answer.1.same_runs (inl (the_use, use_at, answer))

pub inline_here_answer_has_one_edit : ConstantUsesAreFactors → InliningKeepsTypingAndRuns → AnswersAreUnique → InlineHereAnswerHasOneEdit
inline_here_answer_has_one_edit alone keeps one =
    answered_by one (inline_here (position_on_line 6 7)) (replacement_on_line 6 7 8 (codes "2") ∷ [])
    (inl (
      puts_two ∷ [],
      (vec_of (puts_two ∷ []) (omega (arith)), subst (λ n. InlinesInText OneUse Utf16 example_text n (vec_of (puts_two ∷ []) (omega (arith)))) (sym n_is_at) (inlines_here_in alone keeps), refl),
      ap (λ t. replacement_on_line 6 7 8 t ∷ []) two_is,
    ))

abbrev the_constant : DeclaredConstant
the_constant = record { ordinal = 7; value = scalar.Number (pos 2); first = 4; last = 7 }

constant_so : IsDeclaredConstant worked_module the_constant
constant_so = record { has_value = has_two; begins = refl; ends = refl }

constant_at : IsConstantAtOffset worked_module 56 the_constant
constant_at = record { token = 16; named = refl; is_constant = constant_so }

everywhere_made : at_constants.Made worked_names the_constant Utf16 example_text (takes_out ∷ puts_two ∷ [])
everywhere_made = record {
  edits_are =
      subst (λ (t : List ℕ). map range_and_text (takes_out ∷ puts_two ∷ []) ≡ (range_of (width_of Utf16) example_text (span_of_tokens (scanned_of worked_lexemes).tokens 4 7), []) ∷ replacement_at_token Utf16 example_text (scanned_of worked_lexemes).tokens t 16 ∷ []) text_of_two
      (λ i. declaration_parts i ∷ inlines_parts i ∷ []);
  make_text = record {
    leaves = λ alone. record {
      after = scanned_of without_lexemes;
      scan = without_scan;
      made = everywhere_leave;
      module_of = record { spelled = refl; short = without_scan.short; shallow = let n : nesting (tree_inlined_everywhere worked_module the_constant) ≡ 0 = refl in omega (arith, n) };
    };
    short = subst (λ (t : List ℕ). length (text_after_removal_and_replacement (scanned_of worked_lexemes) 4 7 (16 ∷ []) t) ≤ 1048576) text_of_two (omega (arith, without_length));
  };
}

pub inlines_everywhere_in : ConstantUsesAreFactors → InliningEverywhereKeepsTypingAndRuns → InlinesInText Everywhere Utf16 example_text 56 (vec_of (takes_out ∷ puts_two ∷ []) (omega (arith)))
inlines_everywhere_in alone keeps =
    let answer = at_constants.answer_made worked_names worked_well the_constant constant_so alone two_fits keeps Utf16 example_text (takes_out ∷ puts_two ∷ []) everywhere_made refl refl in
    inlines_in Everywhere 56 (vec_of (takes_out ∷ puts_two ∷ []) (omega (arith))) (tree_inlined_everywhere worked_module the_constant) answer.1.leaves answer.1.well_typed answer.1.same_runs
    (inl (the_constant, constant_at, answer))

pub inline_all_answer_has_two_edits : ConstantUsesAreFactors → InliningEverywhereKeepsTypingAndRuns → AnswersAreUnique → InlineAllAnswerHasTwoEdits
inline_all_answer_has_two_edits alone keeps one =
    answered_by one (inline_all (position_on_line 6 7)) (replacement_on_line 2 2 8 [] ∷ replacement_on_line 6 7 8 (codes "2") ∷ [])
    (inl (
      takes_out ∷ puts_two ∷ [],
      (vec_of (takes_out ∷ puts_two ∷ []) (omega (arith)), subst (λ n. InlinesInText Everywhere Utf16 example_text n (vec_of (takes_out ∷ puts_two ∷ []) (omega (arith)))) (sym n_is_at) (inlines_everywhere_in alone keeps), refl),
      λ i. replacement_on_line 2 2 8 (nothing_is i) ∷ replacement_on_line 6 7 8 (two_is i) ∷ [],
    ))
