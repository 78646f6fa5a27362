-- Proves that a request to inline a constant at a place has an answer for each well-typed module: the edit at the use
-- there, or a refusal.
use Rattle.std.proofs.Common.{◌≡◌, ◌∙◌, ◌≤◌, ◌==◌, ℕ, Bool, true, false, if◌then◌else◌, nat_lt, Option, Some, None, Err, List, [], ◌∷◌, Vec, map, length, inl, inr, refl, sym, ap, subst, arith}
use Rattle.std.specs.List.{position_from}
use Rattle.std.specs.Str.{chars}
use Rattle.std.specs.declared.alloc.Global.{Global}
use Rattle.std.proofs.lemmas.Bool.{ltb-false}
use Rattle.std.proofs.lemmas.Str.{chars_from_encodes}
use Rattle.ob0_scan.specs.TextWithTokens.{TextWithTokens, Word, max_text_length}
use Rattle.ob0_text.specs.declared.edits.Edit.{Edit}
use Rattle.ob0_text.specs.declared.position_types.Unit.{Unit}
use Rattle.ob0_text.specs.declared.refusals.EditRefusal.{EditRefusal}
use Rattle.ob0_text.specs.declared.refusals.EditRefusal.TheVariants.{Memory, NoName, Shadowed, TooDeep, TooLong}
use Rattle.ob0_tree.specs.ParsedModule.{named_tree_of, tree_of}
use Rattle.ob0_tree.specs.Tree.{Tree, module_text, nesting}
use Rattle.ob0_tree_values.proofs.TreeValues.{vec_of}
use Rattle.ob0_edits_tokens.specs.WordReplacements.{changes_at_indexes, changed_words, words_of_text}
use Rattle.ob0_edits_tokens.specs.Replacements.{EditedTextHasWords, replacement_at_token, range_and_text, text_after_replacement}
use Rattle.ob0_edits_tokens.proofs.Made.{leaves_words}
use Rattle.ob0_language_names.specs.Names.{Name}
use Rattle.ob0_scope_table.specs.Resolution.{Resolution}
use Rattle.ob0_scope.specs.declared.bound_names.BoundName as named
use Rattle.ob0_scope.specs.NamesAtPlaces.{name_at_offset}
use Rattle.ob0_language_types.specs.ConstantValues.{constant_value_in_module}
use Rattle.ob0_language_types.specs.EditLaws.{ConstantUsesAreFactors, Is32BitScalar}
use Rattle.ob0_language_types.specs.WellTyped.{WellTyped}
use Rattle.ob0_language_runs.specs.EditLaws.{InliningKeepsTypingAndRuns, HaveSameRuns}
use Rattle.ob0_language_values.specs.declared.scalar.Scalar.{Scalar}
use Rattle.ob0_language_values.specs.Scalars.{scalar_value}
use Rattle.ob0_language_values.specs.Values.{Value}
use Rattle.ob0_analysis.specs.AnalysisAnswers.{IsResolvedWellTypedModule}
use Rattle.ob0_analysis.specs.ReportedErrors.{IsTextOfTree}
use Rattle.ob0_analysis.specs.TextBytes.{utf8}
use Rattle.ob0_analysis.proofs.Scanning.{is_module, utf8_of}
use Rattle.ob0_inline.specs.declared.constant_uses.ConstantUse.{ConstantUse}
use Rattle.ob0_inline.specs.EditedModuleTexts.{EditedTextHasTree}
use Rattle.ob0_inline.specs.Uses.{AnswersInliningHere, IsConstantUse, IsConstantUseAtOffset, tree_with_inlined_use, value_text_keeps_meaning, refusal_of_inlining_use}
use Rattle.ob0_inline.specs.Values.{value_text, value_words}
use Rattle.ob0_inline.proofs.AtUses.{Made, answer_ok, are_names, here_spelled, no_use, use_found, use_is}
use Rattle.ob0_inline.proofs.ModuleTexts.{leaves_module}
use Rattle.ob0_edits.specs.declared.inline_question.InliningKind.{InliningKind}
use Rattle.ob0_edits.specs.declared.inline_question.InliningKind.TheVariants.{OneUse}
use Rattle.ob0_edits.specs.InliningEdits.{IsInlineResult, InlinesInText, IsInliningRefusedInText}
use Rattle.ob0_world_rules.specs.Answers.{position_offset}
use Rattle.ob0_world_rules.specs.TextEdits.{replacements_of_edits}
use Rattle.ob0_world_rules.specs.WellTypedTexts.{WellTypedText}
use Rattle.ob0_inline_answers.specs.InlineAnswers.{InliningHereAlwaysHasAnswer}
use Rattle.ob0_inline_answers.proofs.ModuleNames.{named_module}
use Rattle.ob0_inline_answers.proofs.ScalarConstants.{constant_scalar, scalar_of}
use Rattle.ob0_inline_answers.proofs.WrittenValues.{IsWritable, writable}
use Rattle.ob0_inline_answers.proofs.EditValues.{edit_value, values_are}

-- ---- a text and its module

module _ (unit : Unit) (text : List ℕ) (r : Resolution) (module_in : IsResolvedWellTypedModule (utf8 text) r) where
  pub held : text ≡ chars r.module_read.source.text
  held = chars_from_encodes text r.module_read.source.text module_in.scan.scan.utf8 (sym module_in.scan.of)

  -- Edits that leave the text of a module with the same runs inline the constant.
  pub inlines_in : (how : InliningKind) (offset : ℕ) (edits : Vec Edit Global) (t : Tree Name module_text) → EditedTextHasTree unit text edits.items t → WellTyped t → HaveSameRuns t (named_tree_of r.module_read)
      → IsInlineResult how unit text r.module_read offset (Some edits) → InlinesInText how unit text offset edits
  inlines_in how offset edits t leaves well same inlines =
      let after : List ℕ = chars leaves.after.text in
      let text_of : IsTextOfTree t (utf8 after) =
      subst (λ (w : List ℕ). IsTextOfTree t w) (utf8_of leaves.after.text after leaves.scan.utf8 refl) (record { scanned = leaves.after; scan = record { of = refl; scan = leaves.scan }; module_of = leaves.module_of })
      in
      record {
        module_read = r.module_read;
        read = record { scan = module_in.scan; parsed = module_in.well_typed.resolved.parsed; well_typed = module_in.well_typed.well_typed };
        inlines = inlines;
        after = after;
        made = leaves.made;
        runs = record { old = is_module (utf8 text) r module_in; new = record { tree = t; text_of = text_of; well_typed = well }; same = same };
      }

  pub not_inlined : (how : InliningKind) (offset : ℕ) → IsInlineResult how unit text r.module_read offset None → IsInliningRefusedInText how unit text offset
  not_inlined how offset refused = record {
    module_read = r.module_read;
    read = record { scan = module_in.scan; parsed = module_in.well_typed.resolved.parsed; well_typed = module_in.well_typed.well_typed };
    refused = refused;
  }

pub none_some : {A : Type 0} (a : A) → None ≡ Some a → ⊥
none_some a e = cc

pub same_ordinal_named : (found : named.BoundName) (token ordinal : ℕ) → Some found ≡ Some (record { token = token; ordinal = ordinal }) → found.ordinal ≡ ordinal
same_ordinal_named found token ordinal e = ap (λ (o : Option named.BoundName). (elim o as (λ _. named.BoundName) [ Some n ↦ n | None ↦ found ]).ordinal) e

-- ---- the edit at a use

module _ (unit : Unit) (text : List ℕ) (r : Resolution) (module_in : IsResolvedWellTypedModule (utf8 text) r) (u : ConstantUse) (use_so : IsConstantUse r.module_read u) (w : IsWritable u.value) where
  abbrev s : TextWithTokens
  s = r.module_read.source

  abbrev pub here_edits : List Edit
  here_edits = map (edit_value unit text s.tokens (value_text u.value) w.utf8 w.short) (u.token ∷ [])

  abbrev here_words : List Word
  here_words = changed_words (changes_at_indexes (u.token ∷ []) (value_words u.value)) 0 (words_of_text s)

  here_are : map range_and_text here_edits ≡ map (replacement_at_token unit text s.tokens (value_text u.value)) (u.token ∷ [])
  here_are = values_are unit text s.tokens (value_text u.value) w.utf8 w.short (u.token ∷ [])

  here_leave : length (text_after_replacement s (u.token ∷ []) (value_text u.value)) ≤ max_text_length → EditedTextHasWords unit text here_edits here_words
  here_leave short =
      let held_so = held unit text r module_in in
      subst (λ t. EditedTextHasWords unit t here_edits here_words) (sym held_so)
      (leaves_words s module_in.scan.scan (value_text u.value) w.utf8 unit (value_words u.value) w.replaces (u.token ∷ []) (are_names r module_in.well_typed.resolved u use_so) here_edits
      (subst (λ t. map range_and_text here_edits ≡ map (replacement_at_token unit t s.tokens (value_text u.value)) (u.token ∷ [])) held_so here_are) short)

  pub here_made : length (text_after_replacement s (u.token ∷ []) (value_text u.value)) ≤ max_text_length → nesting (tree_with_inlined_use r.module_read u) ≤ 100 → Made r u unit text here_edits
  here_made short low = record {
    edits_are = here_are;
    make_text = record {
      leaves = λ alone. leaves_module unit text here_edits here_words (tree_with_inlined_use r.module_read u) (here_leave short) (here_spelled r module_in.well_typed.resolved u use_so alone) low;
      short = short;
    };
  }

-- ---- the cases

module _ (alone : ConstantUsesAreFactors) (keeps : InliningKeepsTypingAndRuns) (unit : Unit) (text : List ℕ) (r : Resolution) (module_in : IsResolvedWellTypedModule (utf8 text) r) (offset : ℕ)
    (refused : IsInliningRefusedInText OneUse unit text offset → ⊥) (given : (edits : Vec Edit Global) → InlinesInText OneUse unit text offset edits → ⊥) where
  refuse : (refusal : EditRefusal) → (refusal ≡ Memory → ⊥) → AnswersInliningHere unit text r.module_read offset (Err refusal) → ⊥
  refuse refusal other h = refused (not_inlined unit text r module_in OneUse offset (refusal, other, h))

  no_name : ((u : ConstantUse) → IsConstantUseAtOffset r.module_read offset u → ⊥) → ⊥
  no_name nowhere = refuse NoName (λ e. cc) (inr (refl, nowhere))

  module _ (u : ConstantUse) (at : IsConstantUseAtOffset r.module_read offset u) (scalar_so : Is32BitScalar (scalar_value u.value)) where
    abbrev long : ℕ
    long = length (text_after_replacement r.module_read.source (u.token ∷ []) (value_text u.value))

    abbrev deep : ℕ
    deep = nesting (tree_with_inlined_use r.module_read u)

    abbrev shown : Bool
    shown = value_text_keeps_meaning (named_tree_of r.module_read) u.occurrence u.value

    abbrev first_of : Bool → Bool → Bool → Option EditRefusal
    first_of a b c = if a then Some TooLong else if b then Some TooDeep else if c then None else Some Shadowed

    refusal_is : (a b c : Bool) → nat_lt max_text_length long ≡ a → nat_lt 100 deep ≡ b → shown ≡ c → refusal_of_inlining_use r.module_read u ≡ first_of a b c
    refusal_is a b c e f g = λ i. first_of (e i) (f i) (g i)

    refuse_use : (refusal : EditRefusal) → (refusal ≡ Memory → ⊥) → refusal_of_inlining_use r.module_read u ≡ Some refusal → ⊥
    refuse_use refusal other e = refuse refusal other (inl (u, at, inl e))

    cases : (a b c : Bool) → nat_lt max_text_length long ≡ a → nat_lt 100 deep ≡ b → shown ≡ c → ⊥
    cases true b c e f g = refuse_use TooLong (λ q. cc) (refusal_is true b c e f g)
    cases false true c e f g = refuse_use TooDeep (λ q. cc) (refusal_is false true c e f g)
    cases false false false e f g = refuse_use Shadowed (λ q. cc) (refusal_is false false false e f g)
    cases false false true e f g =
        let well = module_in.well_typed in
        let use_so = use_is r well.resolved offset u at in
        let w = writable u.value scalar_so in
        let made = here_made unit text r module_in u use_so w (ltb-false max_text_length long e) (ltb-false 100 deep f) in
        let edits : Vec Edit Global = vec_of (here_edits unit text r module_in u use_so w) (omega arith) in
        let answer = answer_ok r well u use_so alone scalar_so keeps unit text (here_edits unit text r module_in u use_so w) made g in
        given edits (inlines_in unit text r module_in OneUse offset edits (tree_with_inlined_use r.module_read u) answer.1.leaves answer.1.well_typed answer.1.same_runs (inl (u, at, answer)))

  at_scalar : (found : named.BoundName) → name_at_offset r.module_read offset ≡ Some found → (v : Scalar) → Is32BitScalar (scalar_value v) → constant_value_in_module (named_tree_of r.module_read) found.ordinal ≡ Some (scalar_value v)
      → (o : Option ℕ) → position_from (λ i. i == found.token) 0 r.uses ≡ o → ⊥
  at_scalar found e v scalar_so has None q = no_name (no_use r module_in.well_typed offset found (sym e) q)
  at_scalar found e v scalar_so has (Some k) q =
      let u : ConstantUse = record { token = found.token; occurrence = k; constant = found.ordinal; value = v } in
      cases u (use_found r module_in.well_typed offset found k v (sym e) q (sym has)) scalar_so _ _ _ refl refl refl

  at_value : (found : named.BoundName) → name_at_offset r.module_read offset ≡ Some found → (o : Option Value) → constant_value_in_module (named_tree_of r.module_read) found.ordinal ≡ o → ⊥
  at_value found e None q =
      no_name (λ u at. none_some (scalar_value u.value) (sym q ∙ (ap (constant_value_in_module (named_tree_of r.module_read)) (same_ordinal_named found u.token u.constant (sym e ∙ at.named)) ∙ at.has_value)))
  at_value found e (Some w) q =
      let scalar_w = constant_scalar r.module_read.source module_in.scan.scan (tree_of r.module_read) found.ordinal w q in
      let v = scalar_of w scalar_w in
      at_scalar found e v.0 (subst Is32BitScalar (sym v.1) scalar_w) (q ∙ ap Some (sym v.1)) (position_from (λ i. i == found.token) 0 r.uses) refl

  at_name : (o : Option named.BoundName) → name_at_offset r.module_read offset ≡ o → ⊥
  at_name None e = no_name (λ u at. none_some (let n : named.BoundName = record { token = u.token; ordinal = u.constant } in n) (sym e ∙ at.named))
  at_name (Some found) e = at_value found e (constant_value_in_module (named_tree_of r.module_read) found.ordinal) refl

pub inlining_here_always_has_answer : ConstantUsesAreFactors → InliningKeepsTypingAndRuns → InliningHereAlwaysHasAnswer
inlining_here_always_has_answer alone keeps each position unit text none = none [] (inr (inr unfit, refl))
  where
    unfit : WellTypedText text → ⊥
    unfit h =
        let read = each text h in
        let found = named_module (utf8 text) read.0 read.1 in
        let offset = position_offset unit text position in
        at_name alone keeps unit text found.0 found.1 offset (λ refused. none [] (inr (inl refused, refl)))
        (λ edits inlines. none (replacements_of_edits edits.items) (inl (edits.items, (edits, inlines, refl), refl)))
        (name_at_offset found.0.module_read offset) refl
