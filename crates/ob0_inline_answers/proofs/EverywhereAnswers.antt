-- Proves that a request to inline a constant everywhere has an answer for each well-typed module: the removal of its
-- declaration and the edits at all its uses, or a refusal.
use Rattle.std.proofs.Common.{◌≡◌, ◌∙◌, ◌≤◌, ℕ, suc, Bool, true, false, if◌then◌else◌, nat_lt, Option, Some, None, Err, List, [], ◌∷◌, Vec, map, length, inl, inr, refl, sym, ap, subst, arith}
use Rattle.std.specs.declared.alloc.Global.{Global}
use Rattle.std.proofs.lemmas.Bool.{ltb-false}
use Rattle.ob0_scan.specs.TextWithTokens.{TextWithTokens, Word, max_text_length}
use Rattle.ob0_scope_table.proofs.FewTokens.{few_tokens}
use Rattle.ob0_text.specs.declared.edits.Edit.{Edit}
use Rattle.ob0_text.specs.declared.position_types.Unit.{Unit}
use Rattle.ob0_text.specs.declared.refusals.EditRefusal.{EditRefusal}
use Rattle.ob0_text.specs.declared.refusals.EditRefusal.TheVariants.{CommentInside, Memory, NoName, Shadowed, TooDeep, TooLong}
use Rattle.ob0_text.specs.Units.{width_of}
use Rattle.ob0_tree.specs.ParsedModule.{named_tree_of, tree_of}
use Rattle.ob0_tree.specs.Tree.{nesting}
use Rattle.ob0_tree_values.proofs.TreeValues.{vec_of}
use Rattle.ob0_edits_tokens.specs.WordReplacements.{changes_at_indexes, changed_words, words_of_text}
use Rattle.ob0_edits_tokens.specs.Ranges.{range_of}
use Rattle.ob0_edits_tokens.specs.Removals.{MayBeConstantDeclaration, span_of_tokens, changes_with_removal}
use Rattle.ob0_edits_tokens.specs.Replacements.{AreIdentifierIndexes, EditedTextHasWords, replacement_at_token, range_and_text}
use Rattle.ob0_edits_tokens.proofs.Made.{leaves_words_without}
use Rattle.ob0_scope_table.specs.Resolution.{Resolution}
use Rattle.ob0_scope.specs.declared.bound_names.BoundName as named
use Rattle.ob0_scope.specs.NamesAtPlaces.{name_at_offset}
use Rattle.ob0_language_types.specs.ConstantValues.{constant_value_in_module}
use Rattle.ob0_language_types.specs.EditLaws.{ConstantUsesAreFactors, Is32BitScalar}
use Rattle.ob0_language_runs.specs.EditLaws.{InliningEverywhereKeepsTypingAndRuns}
use Rattle.ob0_language_values.specs.Scalars.{scalar_value}
use Rattle.ob0_language_values.specs.Values.{Value}
use Rattle.ob0_analysis.specs.AnalysisAnswers.{IsResolvedWellTypedModule}
use Rattle.ob0_analysis.specs.TextBytes.{utf8}
use Rattle.ob0_inline.specs.declared.declared_constants.DeclaredConstant.{DeclaredConstant}
use Rattle.ob0_inline.specs.Everywhere.{AnswersInliningEverywhere, IsDeclaredConstant, IsConstantAtOffset, HasNoConstantAtOffset, has_shadowed_use, declaration_has_comment, tree_inlined_everywhere, refusal_of_inlining_everywhere, text_inlined_everywhere, tokens_of_uses}
use Rattle.ob0_inline.specs.Values.{value_text, value_words}
use Rattle.ob0_inline.proofs.AtConstants.{Made, answer_made}
use Rattle.ob0_inline.proofs.Ended.{are_uses, begins_at, end_token, ends_at, is_taken, left_spelled, name_token}
use Rattle.ob0_inline.proofs.ModuleTexts.{leaves_module}
use Rattle.ob0_edits.specs.declared.inline_question.InliningKind.TheVariants.{Everywhere}
use Rattle.ob0_edits.specs.InliningEdits.{InlinesInText, IsInliningRefusedInText}
use Rattle.ob0_world_rules.specs.Answers.{position_offset}
use Rattle.ob0_world_rules.specs.TextEdits.{replacements_of_edits}
use Rattle.ob0_world_rules.specs.WellTypedTexts.{WellTypedText}
use Rattle.ob0_inline_answers.specs.InlineAnswers.{InliningEverywhereAlwaysHasAnswer}
use Rattle.ob0_inline_answers.proofs.ModuleNames.{named_module}
use Rattle.ob0_inline_answers.proofs.ScalarConstants.{constant_scalar, scalar_of}
use Rattle.ob0_inline_answers.proofs.WrittenValues.{IsWritable, writable}
use Rattle.ob0_inline_answers.proofs.EditValues.{as_many_values, edit_value, few_names, removal_value, values_are}
use Rattle.ob0_inline_answers.proofs.HereAnswers.{held, inlines_in, none_some, not_inlined, same_ordinal_named}

-- ---- the edits at the declaration and at the uses

module _ (unit : Unit) (text : List ℕ) (r : Resolution) (module_in : IsResolvedWellTypedModule (utf8 text) r) (c : DeclaredConstant) (constant : IsDeclaredConstant r.module_read c) (w : IsWritable c.value) where
  abbrev s : TextWithTokens
  s = r.module_read.source

  abbrev places : List ℕ
  places = tokens_of_uses r.module_read c.ordinal

  declaration : MayBeConstantDeclaration s.tokens c.first c.last
  declaration = is_taken r module_in.well_typed.resolved c constant

  are_names : AreIdentifierIndexes s.tokens (suc c.last) places
  are_names = are_uses r module_in.well_typed.resolved c constant

  abbrev pub all_edits : List Edit
  all_edits = removal_value unit text s.tokens c.first c.last ∷ map (edit_value unit text s.tokens (value_text c.value) w.utf8 w.short) places

  abbrev all_words : List Word
  all_words = changed_words (changes_with_removal c.first c.last (changes_at_indexes places (value_words c.value))) 0 (words_of_text s)

  all_are : map range_and_text all_edits ≡ (range_of (width_of unit) text (span_of_tokens s.tokens c.first c.last), []) ∷ map (replacement_at_token unit text s.tokens (value_text c.value)) places
  all_are = ap (λ es. (range_of (width_of unit) text (span_of_tokens s.tokens c.first c.last), []) ∷ es) (values_are unit text s.tokens (value_text c.value) w.utf8 w.short places)

  pub few_edits : length all_edits ≤ 1048577
  few_edits =
      let inside = declaration.inside in
      let few = few_names s.tokens (suc c.last) places (omega (arith, inside)) are_names in
      let tokens = few_tokens s module_in.scan.scan in
      let many = as_many_values unit text s.tokens (value_text c.value) w.utf8 w.short places in
      omega (arith, few, tokens, many)

  all_leave : length (text_inlined_everywhere r.module_read c) ≤ max_text_length → EditedTextHasWords unit text all_edits all_words
  all_leave short =
      let held_so = held unit text r module_in in
      subst (λ t. EditedTextHasWords unit t all_edits all_words) (sym held_so)
      (leaves_words_without s module_in.scan.scan (value_text c.value) w.utf8 unit (value_words c.value) w.replaces c.first c.last places declaration are_names all_edits
      (subst (λ t. map range_and_text all_edits ≡ (range_of (width_of unit) t (span_of_tokens s.tokens c.first c.last), []) ∷ map (replacement_at_token unit t s.tokens (value_text c.value)) places) held_so all_are) short)

  pub all_made : length (text_inlined_everywhere r.module_read c) ≤ max_text_length → nesting (tree_inlined_everywhere r.module_read c) ≤ 100 → Made r c unit text all_edits
  all_made short low = record {
    edits_are = all_are;
    make_text = record {
      leaves = λ alone. leaves_module unit text all_edits all_words (tree_inlined_everywhere r.module_read c) (all_leave short) (left_spelled r module_in.well_typed.resolved c constant alone) low;
      short = short;
    };
  }

-- ---- the cases

module _ (alone : ConstantUsesAreFactors) (keeps : InliningEverywhereKeepsTypingAndRuns) (unit : Unit) (text : List ℕ) (r : Resolution) (module_in : IsResolvedWellTypedModule (utf8 text) r) (offset : ℕ)
    (refused : IsInliningRefusedInText Everywhere unit text offset → ⊥) (given : (edits : Vec Edit Global) → InlinesInText Everywhere unit text offset edits → ⊥) where
  refuse : (refusal : EditRefusal) → (refusal ≡ Memory → ⊥) → AnswersInliningEverywhere unit text r.module_read offset (Err refusal) → ⊥
  refuse refusal other h = refused (not_inlined unit text r module_in Everywhere offset (refusal, other, h))

  no_name : HasNoConstantAtOffset r.module_read offset → ⊥
  no_name nowhere = refuse NoName (λ e. cc) (inr (refl, nowhere))

  module _ (c : DeclaredConstant) (at : IsConstantAtOffset r.module_read offset c) (scalar_so : Is32BitScalar (scalar_value c.value)) where
    abbrev long : ℕ
    long = length (text_inlined_everywhere r.module_read c)

    abbrev deep : ℕ
    deep = nesting (tree_inlined_everywhere r.module_read c)

    abbrev first_of : Bool → Bool → Bool → Bool → Option EditRefusal
    first_of a b h k = if a then Some TooLong else if b then Some TooDeep else if h then Some Shadowed else if k then Some CommentInside else None

    refusal_is : (a b h k : Bool) → nat_lt max_text_length long ≡ a → nat_lt 100 deep ≡ b → has_shadowed_use (named_tree_of r.module_read) c ≡ h → declaration_has_comment r.module_read c ≡ k → refusal_of_inlining_everywhere r.module_read c ≡ first_of a b h k
    refusal_is a b h k e f g q = λ i. first_of (e i) (f i) (g i) (q i)

    refuse_constant : (refusal : EditRefusal) → (refusal ≡ Memory → ⊥) → refusal_of_inlining_everywhere r.module_read c ≡ Some refusal → ⊥
    refuse_constant refusal other e = refuse refusal other (inl (c, at, inl e))

    cases : (a b h k : Bool) → nat_lt max_text_length long ≡ a → nat_lt 100 deep ≡ b → has_shadowed_use (named_tree_of r.module_read) c ≡ h → declaration_has_comment r.module_read c ≡ k → ⊥
    cases true b h k e f g q = refuse_constant TooLong (λ z. cc) (refusal_is true b h k e f g q)
    cases false true h k e f g q = refuse_constant TooDeep (λ z. cc) (refusal_is false true h k e f g q)
    cases false false true k e f g q = refuse_constant Shadowed (λ z. cc) (refusal_is false false true k e f g q)
    cases false false false true e f g q = refuse_constant CommentInside (λ z. cc) (refusal_is false false false true e f g q)
    cases false false false false e f g q =
        let well = module_in.well_typed in
        let w = writable c.value scalar_so in
        let made = all_made unit text r module_in c at.is_constant w (ltb-false max_text_length long e) (ltb-false 100 deep f) in
        let edits : Vec Edit Global = vec_of (all_edits unit text r module_in c at.is_constant w) (few_edits unit text r module_in c at.is_constant w) in
        let answer = answer_made r well c at.is_constant alone scalar_so keeps unit text (all_edits unit text r module_in c at.is_constant w) made g q in
        given edits (inlines_in unit text r module_in Everywhere offset edits (tree_inlined_everywhere r.module_read c) answer.1.leaves answer.1.well_typed answer.1.same_runs (inl (c, at, answer)))

  at_value : (found : named.BoundName) → name_at_offset r.module_read offset ≡ Some found → (o : Option Value) → constant_value_in_module (named_tree_of r.module_read) found.ordinal ≡ o → ⊥
  at_value found e None q =
      no_name (λ n h. ap (constant_value_in_module (named_tree_of r.module_read)) (sym (same_ordinal_named found n.token n.ordinal (sym e ∙ h))) ∙ q)
  at_value found e (Some w) q =
      let is = module_in.well_typed.resolved in
      let scalar_w = constant_scalar r.module_read.source module_in.scan.scan (tree_of r.module_read) found.ordinal w q in
      let v = scalar_of w scalar_w in
      let has : constant_value_in_module (named_tree_of r.module_read) found.ordinal ≡ Some (scalar_value v.0) = q ∙ ap Some (sym v.1) in
      let c : DeclaredConstant = record { ordinal = found.ordinal; value = v.0; first = name_token r is found.ordinal (scalar_value v.0) has; last = end_token r is found.ordinal (scalar_value v.0) has } in
      let constant : IsDeclaredConstant r.module_read c = record { has_value = has; begins = begins_at r is found.ordinal (scalar_value v.0) has; ends = ends_at r is found.ordinal (scalar_value v.0) has } in
      cases c (record { token = found.token; named = e; is_constant = constant }) (subst Is32BitScalar (sym v.1) scalar_w) _ _ _ _ refl refl refl refl

  at_name : (o : Option named.BoundName) → name_at_offset r.module_read offset ≡ o → ⊥
  at_name None e = no_name (λ n h. absurd (none_some n (sym e ∙ h)))
  at_name (Some found) e = at_value found e (constant_value_in_module (named_tree_of r.module_read) found.ordinal) refl

pub inlining_everywhere_always_has_answer : ConstantUsesAreFactors → InliningEverywhereKeepsTypingAndRuns → InliningEverywhereAlwaysHasAnswer
inlining_everywhere_always_has_answer alone keeps each position unit text none = none [] (inr (inr unfit, refl))
  where
    unfit : WellTypedText text → ⊥
    unfit h =
        let read = each text h in
        let found = named_module (utf8 text) read.0 read.1 in
        let offset = position_offset unit text position in
        at_name alone keeps unit text found.0 found.1 offset (λ refused. none [] (inr (inl refused, refl)))
        (λ edits inlines. none (replacements_of_edits edits.items) (inl (edits.items, (edits, inlines, refl), refl)))
        (name_at_offset found.0.module_read offset) refl
