-- Defines the constant whose name is at a byte offset, the module after the constant is inlined
-- everywhere, and the refusals of this edit.
-- Rule: docs/PROTOCOL.md, Requests on documents 9, Refusals of edits.
use Rattle.std.specs.Prelude.{◌≡◌, ◌≢◌, ◌⊎◌, ℕ, Bool, not, ◌&&◌, if◌then◌else◌, List, [], ◌∷◌, Option, Some, None, Result, Ok, Err, Vec, drop, length, map}
use Rattle.std.specs.List.{All, filter, list_any, position_from, range_with_len, zip}
use Rattle.std.specs.declared.alloc.Global.{Global}
use Rattle.ob0_text.specs.declared.edits.Edit.{Edit}
use Rattle.ob0_text.specs.declared.position_types.Unit as counting
use Rattle.ob0_text.specs.declared.refusals.EditRefusal.{EditRefusal}
use Rattle.ob0_text.specs.declared.refusals.EditRefusal.TheVariants.{CommentInside, Memory, NoName, Shadowed}
use Rattle.ob0_text.specs.Units.{width_of}
use Rattle.ob0_tree.specs.declared.tree.Role.TheVariants as role
use Rattle.ob0_tree.specs.ParsedModule.{ParsedModule, named_tree_of, tree_of}
use Rattle.ob0_tree.specs.Tree.{Tree, identifiers, module_text, occurrences}
use Rattle.ob0_edits_tokens.specs.Ranges.{range_of}
use Rattle.ob0_edits_tokens.specs.Removals.{span_of_tokens, text_after_removal_and_replacement}
use Rattle.ob0_edits_tokens.specs.Replacements.{replacement_at_token, range_and_text}
use Rattle.ob0_language_names.specs.NonFactorNames.{non_factor_occurrences}
use Rattle.ob0_language_names.specs.Inlining.{module_with_constant_inlined_everywhere}
use Rattle.ob0_language_names.specs.Names.{Name, declared, same_ordinal_label}
use Rattle.ob0_language_names.specs.Occurrences.{labels_of_occurrences, ordinal_bound_at_occurrence}
use Rattle.ob0_scope_table.specs.Resolution.{declaring_names, declaration_token}
use Rattle.ob0_language_names.specs.Scopes.{numbered, same_ordinal}
use Rattle.ob0_language_values.specs.Scalars.{scalar_value}
use Rattle.ob0_scope.specs.declared.bound_names.BoundName as named
use Rattle.ob0_scope.specs.NamesAtPlaces.{name_at_offset}
use Rattle.ob0_language_types.specs.ConstantValues.{constant_value_in_module}
use Rattle.ob0_language_types.specs.WellTyped.{WellTyped}
use Rattle.ob0_language_runs.specs.EditLaws.{HaveSameRuns}
use Rattle.ob0_inline.specs.declared.declared_constants.DeclaredConstant.{DeclaredConstant}
use Rattle.ob0_inline.specs.Declarations.{contains_span, is_semicolon}
use Rattle.ob0_inline.specs.EditedModuleTexts.{EditedTextHasTree, size_refusal_or_other}
use Rattle.ob0_inline.specs.Uses.{value_text_keeps_meaning}
use Rattle.ob0_inline.specs.Values.{value_factor, value_text}

-- States that `c` is a constant of a CONST section, with its ordinal and value. The token with the
-- index `c.first` declares the constant, and `c.last` is the index of the first `;` at or after
-- that token.
pub record IsDeclaredConstant (m : ParsedModule) (c : DeclaredConstant) : Type 0 where
  pub has_value : constant_value_in_module (named_tree_of m) c.ordinal ≡ Some (scalar_value c.value)
  pub begins : declaration_token (declaring_names (identifiers role.DeclaringName (tree_of m))) c.ordinal
      ≡ Some c.first
  pub ends : position_from (λ t. is_semicolon t.kind) c.first (drop c.first m.source.tokens)
      ≡ Some c.last

-- States that the byte offset is on a name of the constant `c`: in its declaration or at a use.
pub record IsConstantAtOffset (m : ParsedModule) (offset : ℕ) (c : DeclaredConstant) : Type 0 where
  pub token : ℕ
  pub named : name_at_offset m offset ≡ Some (record { token = token; ordinal = c.ordinal })
  pub is_constant : IsDeclaredConstant m c

-- States that the byte offset isn't on a name of a constant. If a name is at the offset, its
-- declaration isn't a constant with a value.
abbrev pub HasNoConstantAtOffset : ParsedModule → ℕ → Type 0
HasNoConstantAtOffset m offset =
    (n : named.BoundName)
    → name_at_offset m offset ≡ Some n
    → constant_value_in_module (named_tree_of m) n.ordinal ≡ None

-- Returns the token indexes of the occurrences that are bound to the declaration with the ordinal
-- `d`, in text order.
abbrev pub tokens_of_uses : ParsedModule → ℕ → List ℕ
tokens_of_uses m d =
    map (λ u. u.0) (filter (λ u. same_ordinal_label u.1 (declared d))
    (zip (occurrences (tree_of m)) (labels_of_occurrences (named_tree_of m))))

-- States that each use of the declaration with the ordinal `d` is a whole factor of an expression:
-- a name without selectors.
abbrev pub UsesAreFactors : ParsedModule → ℕ → Type 0
UsesAreFactors m d = All (λ l. l ≢ declared d) (non_factor_occurrences (numbered (named_tree_of m)))

-- Returns the module's tree after the constant `c` is inlined everywhere. The value of `c` replaces
-- all its uses, and the declaration of `c` is removed.
abbrev pub tree_inlined_everywhere : ParsedModule → DeclaredConstant → Tree Name module_text
tree_inlined_everywhere m c = module_with_constant_inlined_everywhere (named_tree_of m) c.ordinal (value_factor c.value)

-- Returns the module's text, in bytes, after the constant `c` is inlined everywhere.
abbrev pub text_inlined_everywhere : ParsedModule → DeclaredConstant → List ℕ
text_inlined_everywhere m c = text_after_removal_and_replacement m.source c.first c.last (tokens_of_uses m c.ordinal) (value_text c.value)

-- Returns whether the occurrence with the number `k` is a shadowed use of the constant `c`. A use
-- of `c` is shadowed if TRUE or FALSE, the value of `c`, wouldn't refer to the predeclared name
-- there. If the value of `c` is a number, the result is false.
abbrev pub is_shadowed_use : Tree Name module_text → DeclaredConstant → ℕ → Bool
is_shadowed_use m c k = same_ordinal (ordinal_bound_at_occurrence m k) c.ordinal && not (value_text_keeps_meaning m k c.value)

-- Returns whether the constant `c` has a shadowed use (`is_shadowed_use`).
abbrev pub has_shadowed_use : Tree Name module_text → DeclaredConstant → Bool
has_shadowed_use m c = list_any (is_shadowed_use m c) (range_with_len 0 (length (labels_of_occurrences m)))

-- Returns whether the constant's declaration has a comment between the constant's name and the
-- declaration's `;`.
abbrev pub declaration_has_comment : ParsedModule → DeclaredConstant → Bool
declaration_has_comment m c = list_any (contains_span (span_of_tokens m.source.tokens c.first c.last)) m.source.comments

-- Returns the first refusal that applies to inlining the constant `c` everywhere, or None if no
-- refusal applies.
abbrev pub refusal_of_inlining_everywhere : ParsedModule → DeclaredConstant → Option EditRefusal
refusal_of_inlining_everywhere m c =
    size_refusal_or_other (text_inlined_everywhere m c) (tree_inlined_everywhere m c)
    (if has_shadowed_use (named_tree_of m) c then Some Shadowed
    else if declaration_has_comment m c then Some CommentInside else None)

-- States that the edits inline the constant `c` everywhere. They remove the declaration of `c`,
-- from its name to its `;`, and write the value of `c` in place of each use. They change no other
-- character. The edited text is the inlined module, which is well-typed and has the same runs as
-- the module before.
pub record InlinesEverywhere (unit : counting.Unit) (text : List ℕ) (m : ParsedModule)
    (c : DeclaredConstant) (edits : List Edit) : Type 0 where
  pub everywhere : map range_and_text edits
      ≡ (range_of (width_of unit) text (span_of_tokens m.source.tokens c.first c.last), [])
      ∷ map (replacement_at_token unit text m.source.tokens (value_text c.value)) (tokens_of_uses m c.ordinal)
  pub leaves : EditedTextHasTree unit text edits (tree_inlined_everywhere m c)
  pub well_typed : WellTyped (tree_inlined_everywhere m c)
  pub same_runs : HaveSameRuns (tree_inlined_everywhere m c) (named_tree_of m)

-- States that the answer to inlining the constant `c` everywhere is right. If the answer is edits,
-- they inline the constant everywhere, and no refusal applies. Otherwise the answer is the first
-- refusal that applies, or `Memory` (a failed allocation).
abbrev pub AnswersInliningOfConstant : counting.Unit
    → List ℕ
    → ParsedModule
    → DeclaredConstant
    → Result (Vec Edit Global) EditRefusal
    → Type 0
AnswersInliningOfConstant unit text m c (Ok edits) =
    (refusal_of_inlining_everywhere m c ≡ None) × InlinesEverywhere unit text m c edits.items
AnswersInliningOfConstant unit text m c (Err refusal) =
    (refusal_of_inlining_everywhere m c ≡ Some refusal) ⊎ (refusal ≡ Memory)

-- States that the answer to inlining everywhere is right for the constant whose name is at the byte
-- offset (`AnswersInliningOfConstant`). If the offset isn't on the name of a constant, the answer
-- is the refusal `NoName`.
abbrev pub AnswersInliningEverywhere : counting.Unit
    → List ℕ
    → ParsedModule
    → ℕ
    → Result (Vec Edit Global) EditRefusal
    → Type 0
AnswersInliningEverywhere unit text m offset answer =
    ((c : DeclaredConstant) × IsConstantAtOffset m offset c × AnswersInliningOfConstant unit text m c answer)
    ⊎ ((answer ≡ Err NoName) × HasNoConstantAtOffset m offset)
