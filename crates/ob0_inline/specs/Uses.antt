-- Defines the use of a constant at a byte offset. Also defines the module after the constant is
-- inlined at that use, and the refusals of this edit.
-- Rule: docs/PROTOCOL.md, Requests on documents 9, Refusals of edits.
use Rattle.std.specs.Prelude.{◌≡◌, ◌⊎◌, ℕ, Bool, true, false, if◌then◌else◌, List, [], ◌∷◌, Option, Some, None, Result, Ok, Err, Vec, map, slice_get}
use Rattle.std.specs.declared.alloc.Global.{Global}
use Rattle.ob0_text.specs.declared.edits.Edit.{Edit}
use Rattle.ob0_text.specs.declared.position_types.Unit as counting
use Rattle.ob0_text.specs.declared.refusals.EditRefusal.{EditRefusal}
use Rattle.ob0_text.specs.declared.refusals.EditRefusal.TheVariants.{Memory, NoName, Shadowed}
use Rattle.ob0_tree.specs.ParsedModule.{ParsedModule, named_tree_of, tree_of}
use Rattle.ob0_tree.specs.Tree.{Tree, module_text, occurrences}
use Rattle.ob0_edits_tokens.specs.Replacements.{replacement_at_token, range_and_text, text_after_replacement}
use Rattle.ob0_edits_tokens.specs.Written.{truth_text}
use Rattle.ob0_language_names.specs.Inlining.{inlined, set_of_one_occurrence}
use Rattle.ob0_language_names.specs.Names.{Name}
use Rattle.ob0_language_names.specs.Occurrences.{ordinal_bound_at_occurrence}
use Rattle.ob0_language_names.specs.Scopes.{same_ordinal}
use Rattle.ob0_language_names.specs.OccurrenceLookup.{resolve_name_at_occurrence}
use Rattle.ob0_language_values.specs.declared.scalar.Scalar.{Scalar}
use Rattle.ob0_language_values.specs.declared.scalar.Scalar.TheVariants as scalar
use Rattle.ob0_language_values.specs.Scalars.{scalar_value}
use Rattle.ob0_scope.specs.NamesAtPlaces.{name_at_offset}
use Rattle.ob0_language_types.specs.ConstantValues.{constant_value_in_module}
use Rattle.ob0_language_types.specs.WellTyped.{WellTyped}
use Rattle.ob0_language_runs.specs.EditLaws.{HaveSameRuns}
use Rattle.ob0_inline.specs.declared.constant_uses.ConstantUse.{ConstantUse}
use Rattle.ob0_inline.specs.EditedModuleTexts.{EditedTextHasTree, size_refusal_or_other}
use Rattle.ob0_inline.specs.Values.{value_factor, value_text}

-- States that the byte offset is on a use of a constant of a CONST section, and that `u` is this
-- use. `u` has the token index of the use, and its number among the occurrences. `u` also has the
-- constant's ordinal and value.
pub record IsConstantUseAtOffset (m : ParsedModule) (offset : ℕ) (u : ConstantUse) : Type 0 where
  pub named : name_at_offset m offset ≡ Some (record { token = u.token; ordinal = u.constant })
  pub occurs : slice_get (occurrences (tree_of m)) u.occurrence ≡ Some u.token
  pub has_value : constant_value_in_module (named_tree_of m) u.constant ≡ Some (scalar_value u.value)

-- States that `u` is a use of a constant of a CONST section. The occurrence with the number
-- `u.occurrence` has the token `u.token`. It is bound to the constant with the ordinal
-- `u.constant`, whose value is `u.value`.
pub record IsConstantUse (m : ParsedModule) (u : ConstantUse) : Type 0 where
  pub occurs : slice_get (occurrences (tree_of m)) u.occurrence ≡ Some u.token
  pub bound : ordinal_bound_at_occurrence (named_tree_of m) u.occurrence ≡ Some u.constant
  pub has_value : constant_value_in_module (named_tree_of m) u.constant ≡ Some (scalar_value u.value)

-- Returns the ordinal of the predeclared name TRUE or FALSE.
abbrev pub truth_name_ordinal : Bool → ℕ
truth_name_ordinal true = 2
truth_name_ordinal false = 3

-- Returns whether the word for a truth value, TRUE or FALSE, would refer to the predeclared name if
-- it replaced an occurrence. `occurrence` is the number of this occurrence. If the value is a
-- number, the result is true.
abbrev pub value_text_keeps_meaning : Tree Name module_text → ℕ → Scalar → Bool
value_text_keeps_meaning m occurrence (scalar.Number n) = true
value_text_keeps_meaning m occurrence (scalar.Truth b) =
    same_ordinal (resolve_name_at_occurrence m occurrence (truth_text b)) (truth_name_ordinal b)

-- Returns the tree of the module after the constant is inlined at the use `u`: the constant's value
-- replaces that use.
abbrev pub tree_with_inlined_use : ParsedModule → ConstantUse → Tree Name module_text
tree_with_inlined_use m u = inlined (named_tree_of m) (set_of_one_occurrence u.occurrence) (value_factor u.value)

-- Returns the first refusal that applies to inlining the constant at the use `u`, or None if no
-- refusal applies.
abbrev pub refusal_of_inlining_use : ParsedModule → ConstantUse → Option EditRefusal
refusal_of_inlining_use m u =
    size_refusal_or_other (text_after_replacement m.source (u.token ∷ []) (value_text u.value)) (tree_with_inlined_use m u)
    (if value_text_keeps_meaning (named_tree_of m) u.occurrence u.value then None else Some Shadowed)

-- States that the edits write the constant's value in place of the use `u` and change no other
-- character. The edited text is the inlined module, which is well-typed and has the same runs as
-- the module before.
pub record InlinesUse (unit : counting.Unit) (text : List ℕ) (m : ParsedModule) (u : ConstantUse)
    (edits : List Edit) : Type 0 where
  pub here : map range_and_text edits ≡ replacement_at_token unit text m.source.tokens (value_text u.value) u.token ∷ []
  pub leaves : EditedTextHasTree unit text edits (tree_with_inlined_use m u)
  pub well_typed : WellTyped (tree_with_inlined_use m u)
  pub same_runs : HaveSameRuns (tree_with_inlined_use m u) (named_tree_of m)

-- States that the answer to inlining the constant at the use `u` is right. If the answer is edits,
-- they inline the constant at that use, and no refusal applies. Otherwise the answer is the first
-- refusal that applies, or `Memory` (a failed allocation).
abbrev pub AnswersInliningOfUse : counting.Unit
    → List ℕ
    → ParsedModule
    → ConstantUse
    → Result (Vec Edit Global) EditRefusal
    → Type 0
AnswersInliningOfUse unit text m u (Ok edits) =
    (refusal_of_inlining_use m u ≡ None) × InlinesUse unit text m u edits.items
AnswersInliningOfUse unit text m u (Err refusal) = (refusal_of_inlining_use m u ≡ Some refusal) ⊎ (refusal ≡ Memory)

-- States that the answer to inlining at one use is right for the use at the byte offset
-- (`AnswersInliningOfUse`). If the offset isn't on a use of a constant, the answer is the refusal
-- `NoName`.
abbrev pub AnswersInliningHere : counting.Unit
    → List ℕ
    → ParsedModule
    → ℕ
    → Result (Vec Edit Global) EditRefusal
    → Type 0
AnswersInliningHere unit text m offset answer =
    ((u : ConstantUse) × IsConstantUseAtOffset m offset u × AnswersInliningOfUse unit text m u answer)
    ⊎ ((answer ≡ Err NoName) × ((u : ConstantUse) → IsConstantUseAtOffset m offset u → ⊥))
