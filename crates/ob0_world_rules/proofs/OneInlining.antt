-- Proves that a constant is inlined in at most one way at a place: two lists of edits are equal,
-- and there are no edits if the inlining is refused.
-- The place determines the token, the constant and its value. It also determines the occurrence,
-- because the tokens of the occurrences are in ascending order (`one_place`). So the first refusal
-- and the parts of the edits are equal.
use Rattle.std.proofs.Common.{◌≡◌, ◌∙◌, ℕ, nat_lt, Option, Some, None, List, [], ◌∷◌, map, length, drop, slice_get, sym, ap, inl, inr, eq-eqb, eqb-true}
use Rattle.std.specs.Prelude.{Ok, Err, Vec, if◌then◌else◌}
use Rattle.std.specs.List.{filter, list_any, position_from, zip}
use Rattle.std.specs.declared.alloc.Global.{Global}
use Rattle.ob0_scan.specs.TextWithTokens.{TextWithTokens, max_text_length}
use Rattle.ob0_text.specs.declared.edits.Edit.{Edit}
use Rattle.ob0_text.specs.declared.position_types.Unit.{Unit}
use Rattle.ob0_text.specs.declared.refusals.EditRefusal.{EditRefusal}
use Rattle.ob0_text.specs.declared.refusals.EditRefusal.TheVariants.{CommentInside, Memory, Shadowed, TooDeep, TooLong}
use Rattle.ob0_text.specs.Units.{width_of}
use Rattle.ob0_tree.specs.declared.tree.Role.TheVariants as role
use Rattle.ob0_tree.specs.ParsedModule.{ParsedModule, TreeMatchesText, tree_of, named_tree_of}
use Rattle.ob0_tree.specs.TokenIndexLeaves.{tree_with_names}
use Rattle.ob0_tree.specs.Tree.{Tree, identifiers, module_text, nesting, occurrences}
use Rattle.ob0_tree.proofs.Leaves.{leaves_ascend, occurrences_ascend}
use Rattle.ob0_edits_tokens.specs.Ranges.{range_of}
use Rattle.ob0_edits_tokens.specs.Removals.{span_of_tokens, text_after_removal_and_replacement}
use Rattle.ob0_edits_tokens.specs.Replacements.{replacement_at_token, range_and_text, text_after_replacement}
use Rattle.ob0_language_names.specs.Inlining.{inlined, module_with_constant_inlined_everywhere, set_of_one_occurrence}
use Rattle.ob0_language_names.specs.Names.{declared, same_ordinal_label}
use Rattle.ob0_language_names.specs.Occurrences.{labels_of_occurrences}
use Rattle.ob0_scope_table.specs.Resolution.{declaring_names, declaration_token}
use Rattle.ob0_language_values.specs.declared.scalar.Scalar.{Scalar}
use Rattle.ob0_language_values.specs.declared.scalar.Scalar.TheVariants as scalar
use Rattle.ob0_language_values.specs.Scalars.{scalar_value}
use Rattle.ob0_scope.specs.declared.bound_names.BoundName.{BoundName}
use Rattle.ob0_language_types.specs.ConstantValues.{constant_value_in_module}
use Rattle.ob0_inline.specs.declared.declared_constants.DeclaredConstant.{DeclaredConstant}
use Rattle.ob0_inline.specs.declared.constant_uses.ConstantUse.{ConstantUse}
use Rattle.ob0_inline.specs.Declarations.{contains_span, is_semicolon}
use Rattle.ob0_inline.specs.Everywhere.{AnswersInliningEverywhere, IsConstantAtOffset, has_shadowed_use, refusal_of_inlining_everywhere}
use Rattle.ob0_inline.specs.Uses.{AnswersInliningHere, IsConstantUseAtOffset, value_text_keeps_meaning, refusal_of_inlining_use}
use Rattle.ob0_inline.specs.Values.{value_factor, value_text}
use Rattle.ob0_inline.proofs.UsesAreIdentifiers.{one_place}
use Rattle.ob0_edits.specs.InliningEdits.{InlinesInText, IsInliningRefusedInText}
use Rattle.ob0_edits.specs.declared.inline_question.InliningKind.{InliningKind}
use Rattle.ob0_edits.specs.declared.inline_question.InliningKind.TheVariants.{OneUse, Everywhere}
use Rattle.ob0_edits.specs.TextBytes.{utf8}
use Rattle.ob0_world_rules.specs.TextEdits.{replacements_of_edits}
use Rattle.ob0_world_rules.proofs.OneModule.{Same, same_module, one_named_tree, one_name, same_parts}

one_scalar : (a b : Scalar) → Some (scalar_value a) ≡ Some (scalar_value b) → a ≡ b
one_scalar (scalar.Number n) (scalar.Number m) e = cc
one_scalar (scalar.Number n) (scalar.Truth b) e = absurd (cc)
one_scalar (scalar.Truth a) (scalar.Number m) e = absurd (cc)
one_scalar (scalar.Truth a) (scalar.Truth b) e = cc

some_one : {x y : ℕ} → Some x ≡ Some y → x ≡ y
some_one h = cc

abbrev named_with : ℕ → ℕ → BoundName
named_with token ordinal = record { token = token; ordinal = ordinal }

-- ---- at one use

abbrev refused_at : TextWithTokens → Tree ℕ module_text → ℕ → ℕ → Scalar → Option EditRefusal
refused_at s t token occurrence value =
    if nat_lt max_text_length (length (text_after_replacement s (token ∷ []) (value_text value))) then Some TooLong
    else if nat_lt 100 (nesting (inlined (tree_with_names s t) (set_of_one_occurrence occurrence) (value_factor value))) then Some TooDeep
    else if value_text_keeps_meaning (tree_with_names s t) occurrence value then None
    else Some Shadowed

module _ {m n : ParsedModule} (e : Same m n) (parsed : TreeMatchesText n) (offset : ℕ) (u v : ConstantUse) (at : IsConstantUseAtOffset m offset u) (also : IsConstantUseAtOffset n offset v) where
  same_named : Some (named_with u.token u.constant) ≡ Some (named_with v.token v.constant)
  same_named = sym at.named ∙ (one_name e offset ∙ also.named)

  use_token : u.token ≡ v.token
  use_token = ap (λ (o : Option BoundName). elim o [ Some x ↦ x.token | None ↦ u.token ]) same_named

  use_constant : u.constant ≡ v.constant
  use_constant = ap (λ (o : Option BoundName). elim o [ Some x ↦ x.ordinal | None ↦ u.constant ]) same_named

  use_value : u.value ≡ v.value
  use_value = one_scalar u.value v.value (sym at.has_value ∙ ((λ i. constant_value_in_module (one_named_tree e i) (use_constant i)) ∙ also.has_value))

  use_occurrence : u.occurrence ≡ v.occurrence
  use_occurrence =
      let there : slice_get (occurrences (tree_of n)) u.occurrence ≡ Some u.token = ap (λ t. slice_get (occurrences t) u.occurrence) (sym e.tree) ∙ at.occurs in
      let ascend = occurrences_ascend (tree_of n) 0 (length n.source.tokens) (leaves_ascend n parsed) in
      let so = one_place 0 (length n.source.tokens) (occurrences (tree_of n)) u.occurrence v.occurrence u.token v.token ascend there also.occurs in
      eqb-true u.occurrence v.occurrence (sym so ∙ eq-eqb u.token v.token use_token)

  same_refusal_here : refusal_of_inlining_use m u ≡ refusal_of_inlining_use n v
  same_refusal_here = λ i. refused_at (e.source i) (e.tree i) (use_token i) (use_occurrence i) (use_value i)

  same_edit_here : (unit : Unit) (text : List ℕ) → replacement_at_token unit text m.source.tokens (value_text u.value) u.token ≡ replacement_at_token unit text n.source.tokens (value_text v.value) v.token
  same_edit_here unit text = λ i. replacement_at_token unit text ((e.source i).tokens) (value_text (use_value i)) (use_token i)

use_there : {m n : ParsedModule} → Same m n → (offset : ℕ) (u : ConstantUse) → IsConstantUseAtOffset m offset u → IsConstantUseAtOffset n offset u
use_there e offset u at = record {
  named = sym (one_name e offset) ∙ at.named;
  occurs = ap (λ t. slice_get (occurrences t) u.occurrence) (sym e.tree) ∙ at.occurs;
  has_value = ap (λ t. constant_value_in_module t u.constant) (sym (one_named_tree e)) ∙ at.has_value;
}

module _ {m n : ParsedModule} (e : Same m n) (parsed : TreeMatchesText n) (unit : Unit) (text : List ℕ) (offset : ℕ) (xs : Vec Edit Global) where
  here_one : (ys : Vec Edit Global) → AnswersInliningHere unit text m offset (Ok xs) → AnswersInliningHere unit text n offset (Ok ys) → map range_and_text xs.items ≡ map range_and_text ys.items
  here_one ys (inl (u, at, (free, h))) (inl (v, also, (free_too, k))) =
      h.here ∙ (ap (λ z. z ∷ []) (same_edit_here e parsed offset u v at also unit text) ∙ sym k.here)
  here_one ys (inr (bad, none)) k = absurd (cc)
  here_one ys (inl h) (inr (bad, none)) = absurd (cc)

  here_or_refused : (refusal : EditRefusal) → (refusal ≡ Memory → ⊥) → AnswersInliningHere unit text m offset (Ok xs) → AnswersInliningHere unit text n offset (Err refusal) → ⊥
  here_or_refused refusal why (inl (u, at, (free, h))) (inl (v, also, inl refused)) =
      let both : None ≡ Some refusal = sym free ∙ (same_refusal_here e parsed offset u v at also ∙ refused) in cc
  here_or_refused refusal why (inl (u, at, (free, h))) (inl (v, also, inr memory)) = why memory
  here_or_refused refusal why (inl (u, at, (free, h))) (inr (is, nowhere)) = nowhere u (use_there e offset u at)
  here_or_refused refusal why (inr (bad, none)) k = absurd (cc)

-- ---- everywhere

abbrev uses_in : TextWithTokens → Tree ℕ module_text → ℕ → List ℕ
uses_in s t d = map (λ u. u.0) (filter (λ u. same_ordinal_label u.1 (declared d)) (zip (occurrences t) (labels_of_occurrences (tree_with_names s t))))

abbrev refused_everywhere : TextWithTokens → Tree ℕ module_text → ℕ → Scalar → ℕ → ℕ → Option EditRefusal
refused_everywhere s t ordinal value first last =
    if nat_lt max_text_length (length (text_after_removal_and_replacement s first last (uses_in s t ordinal) (value_text value))) then Some TooLong
    else if nat_lt 100 (nesting (module_with_constant_inlined_everywhere (tree_with_names s t) ordinal (value_factor value))) then Some TooDeep
    else if has_shadowed_use (tree_with_names s t) (record { ordinal = ordinal; value = value; first = first; last = last }) then Some Shadowed
    else if list_any (contains_span (span_of_tokens s.tokens first last)) s.comments then Some CommentInside
    else None

module _ {m n : ParsedModule} (e : Same m n) (offset : ℕ) (c d : DeclaredConstant) (at : IsConstantAtOffset m offset c) (also : IsConstantAtOffset n offset d) where
  same_constant : Some (named_with at.token c.ordinal) ≡ Some (named_with also.token d.ordinal)
  same_constant = sym at.named ∙ (one_name e offset ∙ also.named)

  constant_ordinal : c.ordinal ≡ d.ordinal
  constant_ordinal = ap (λ (o : Option BoundName). elim o [ Some x ↦ x.ordinal | None ↦ c.ordinal ]) same_constant

  constant_value : c.value ≡ d.value
  constant_value = one_scalar c.value d.value (sym at.is_constant.has_value ∙ ((λ i. constant_value_in_module (one_named_tree e i) (constant_ordinal i)) ∙ also.is_constant.has_value))

  constant_first : c.first ≡ d.first
  constant_first = some_one (sym at.is_constant.begins ∙ ((λ i. declaration_token (declaring_names (identifiers role.DeclaringName (e.tree i))) (constant_ordinal i)) ∙ also.is_constant.begins))

  constant_last : c.last ≡ d.last
  constant_last = some_one (sym at.is_constant.ends ∙ ((λ i. position_from (λ t. is_semicolon t.kind) (constant_first i) (drop (constant_first i) ((e.source i).tokens))) ∙ also.is_constant.ends))

  same_refusal_everywhere : refusal_of_inlining_everywhere m c ≡ refusal_of_inlining_everywhere n d
  same_refusal_everywhere = λ i. refused_everywhere (e.source i) (e.tree i) (constant_ordinal i) (constant_value i) (constant_first i) (constant_last i)

  same_edits_everywhere : (unit : Unit) (text : List ℕ)
      → (range_of (width_of unit) text (span_of_tokens m.source.tokens c.first c.last), []) ∷ map (replacement_at_token unit text m.source.tokens (value_text c.value)) (uses_in m.source (tree_of m) c.ordinal)
      ≡ (range_of (width_of unit) text (span_of_tokens n.source.tokens d.first d.last), []) ∷ map (replacement_at_token unit text n.source.tokens (value_text d.value)) (uses_in n.source (tree_of n) d.ordinal)
  same_edits_everywhere unit text = λ i.
      (range_of (width_of unit) text (span_of_tokens ((e.source i).tokens) (constant_first i) (constant_last i)), [])
      ∷ map (replacement_at_token unit text ((e.source i).tokens) (value_text (constant_value i))) (uses_in (e.source i) (e.tree i) (constant_ordinal i))

module _ {m n : ParsedModule} (e : Same m n) (unit : Unit) (text : List ℕ) (offset : ℕ) (xs : Vec Edit Global) where
  everywhere_one : (ys : Vec Edit Global) → AnswersInliningEverywhere unit text m offset (Ok xs) → AnswersInliningEverywhere unit text n offset (Ok ys) → map range_and_text xs.items ≡ map range_and_text ys.items
  everywhere_one ys (inl (c, at, (free, h))) (inl (d, also, (free_too, k))) =
      h.everywhere ∙ (same_edits_everywhere e offset c d at also unit text ∙ sym k.everywhere)
  everywhere_one ys (inr (bad, none)) k = absurd (cc)
  everywhere_one ys (inl h) (inr (bad, none)) = absurd (cc)

  everywhere_or_refused : (refusal : EditRefusal) → (refusal ≡ Memory → ⊥) → AnswersInliningEverywhere unit text m offset (Ok xs) → AnswersInliningEverywhere unit text n offset (Err refusal) → ⊥
  everywhere_or_refused refusal why (inl (c, at, (free, h))) (inl (d, also, inl refused)) =
      let both : None ≡ Some refusal = sym free ∙ (same_refusal_everywhere e offset c d at also ∙ refused) in cc
  everywhere_or_refused refusal why (inl (c, at, (free, h))) (inl (d, also, inr memory)) = why memory
  everywhere_or_refused refusal why (inl (c, at, (free, h))) (inr (is, none)) =
      let nothing : constant_value_in_module (named_tree_of n) c.ordinal ≡ None = none (record { token = at.token; ordinal = c.ordinal }) (sym (one_name e offset) ∙ at.named) in
      let some : None ≡ Some (scalar_value c.value) = sym nothing ∙ (ap (λ t. constant_value_in_module t c.ordinal) (sym (one_named_tree e)) ∙ at.is_constant.has_value) in
      cc
  everywhere_or_refused refusal why (inr (bad, none)) k = absurd (cc)

-- ---- in a text

module _ (unit : Unit) (text : List ℕ) (offset : ℕ) (xs : Vec Edit Global) where
  -- Two inlinings at one place in a text have equal parts: ranges, and bytes of the new texts.
  pub inlines_parts : (how : InliningKind) (ys : Vec Edit Global) → InlinesInText how unit text offset xs → InlinesInText how unit text offset ys → map range_and_text xs.items ≡ map range_and_text ys.items
  inlines_parts OneUse ys h k =
      here_one (same_module (utf8 text) h.module_read k.module_read h.read.scan h.read.parsed k.read.scan k.read.parsed) k.read.parsed unit text offset xs ys h.inlines k.inlines
  inlines_parts Everywhere ys h k =
      everywhere_one (same_module (utf8 text) h.module_read k.module_read h.read.scan h.read.parsed k.read.scan k.read.parsed) unit text offset xs ys h.inlines k.inlines

  pub inlines_one : (how : InliningKind) (ys : Vec Edit Global) → InlinesInText how unit text offset xs → InlinesInText how unit text offset ys → replacements_of_edits xs.items ≡ replacements_of_edits ys.items
  inlines_one how ys h k = same_parts xs.items ys.items (inlines_parts how ys h k)

  pub inlines_or_refused : (how : InliningKind) → InlinesInText how unit text offset xs → IsInliningRefusedInText how unit text offset → ⊥
  inlines_or_refused OneUse h k =
      here_or_refused (same_module (utf8 text) h.module_read k.module_read h.read.scan h.read.parsed k.read.scan k.read.parsed) k.read.parsed unit text offset xs k.refused.0 k.refused.1 h.inlines k.refused.2
  inlines_or_refused Everywhere h k =
      everywhere_or_refused (same_module (utf8 text) h.module_read k.module_read h.read.scan h.read.parsed k.read.scan k.read.parsed) unit text offset xs k.refused.0 k.refused.1 h.inlines k.refused.2
