-- Proves that a question about the name at a place of a text has at most one answer.
use Rattle.std.proofs.Common.{◌≡◌, ◌∙◌, ℕ, ◌+◌, ◌-◌, nat_lt, Bool, true, false, Option, Some, None, List, map, drop, get_or, if◌then◌else◌, refl, sym, ap, inl, inr}
use Rattle.std.specs.Prelude.{option_and_then, option_map}
use Rattle.std.specs.List.{filter}
use Rattle.serde_json.specs.Data.{Data, array}
use Rattle.serde_json.specs.View.{items_of}
use Rattle.ob0_scan.specs.TextWithTokens.{TextWithTokens}
use Rattle.ob0_text.specs.declared.position_types.Unit.{Unit}
use Rattle.ob0_tree.specs.TokenIndexLeaves.{tree_with_names, token_text_at}
use Rattle.ob0_tree.specs.Tree.{Tree, identifiers, module_text}
use Rattle.ob0_tree.specs.declared.tree.Role.TheVariants as role
use Rattle.ob0_scope_table.specs.Resolution.{Resolution, declaring_names, ordinal_in, token_span, declaration_token}
use Rattle.ob0_scope.specs.NamesAtPlaces.{identifier_is_bound_to_declaration}
use Rattle.ob0_scope.specs.declared.bound_names.BoundName.{BoundName}
use Rattle.ob0_language_types.specs.Bindings.{declared_object}
use Rattle.ob0_language_values.specs.Values.{Shape}
use Rattle.ob0_types.specs.IdentifierMeanings.{identifier_meaning_at_offset, meaning_of_name_or_field}
use Rattle.ob0_types.specs.declared.identifier_meanings.IdentifierWithMeaning.{IdentifierWithMeaning}
use Rattle.ob0_types.specs.declared.identifier_meanings.IdentifierMeaning.{IdentifierMeaning}
use Rattle.ob0_types.specs.declared.identifier_meanings.IdentifierMeaning.TheVariants.{Name, Field}
use Rattle.ob0_types_fields.specs.FieldTypes.{constructed_types, typed_field_with_name}
use Rattle.ob0_types_fields.specs.declared.field_identifier.FieldIdentifier.{FieldIdentifier}
use Rattle.ob0_types_fields.specs.IdentifierOwners.{fields_with_owners}
use Rattle.ob0_types_fields.specs.FieldIdentifiers.{identifiers_declared_in_module, field_identifiers, field_at_offset, first_token, tokens_of_field}
use Rattle.ob0_refs.specs.DeclarationTexts.{hover_text_of_object}
use Rattle.ob0_refs.specs.Hovers.{field_text, predeclared_name_text, type_text}
use Rattle.ob0_refs.specs.Questions.{definition_of_identifier, definition_at_offset, field_reference_tokens, hover_at_offset, hover_of_identifier, references_of_optional_identifier, references_of_identifier, list_without_optional_token, references_at_offset, renamable_span_at_offset, renamable_span_of_identifier}
use Rattle.ob0_refs.specs.NameHovers.{HoverTextWithSpan}
use Rattle.ob0_rpc.specs.Requests.{DocumentPlace}
use Rattle.ob0_analysis.specs.AnalysisAnswers.{IsResolvedWellTypedModule}
use Rattle.ob0_analysis.specs.ReportedErrors.{IsWellTypedModule}
use Rattle.ob0_analysis.specs.TextBytes.{utf8}
use Rattle.ob0_session_answers.specs.Questions.{AnswersQuestionInModule, AnswersQuestion, NameQuestion, definition_question, hover_question, hover_value_with_range, location_value_of_span, value_or_null, offset_of_place, range_value_of_span, references_question, prepare_rename_question}
use Rattle.ob0_world_rules.proofs.OneFields.{one_list_of_fields}
use Rattle.ob0_world_rules.proofs.OneModule.{Same, same_module, one_name, identifiers_of}
use Rattle.ob0_world_determined.specs.DeterminedOutput.{ResolutionIsDetermined}

-- returns the hover of a name, by the tokens and the tree over them
abbrev hover_in_tree : TextWithTokens → Tree ℕ module_text → BoundName → Option HoverTextWithSpan
hover_in_tree s t n =
    option_map (λ text. record { span = token_span s n.token; text = text })
    (if nat_lt n.ordinal 7 then Some (predeclared_name_text (token_text_at s n.token))
    else option_and_then (hover_text_of_object (token_text_at s n.token) (map (token_text_at s) (drop (n.ordinal + 1 - 7) (declaring_names (identifiers role.DeclaringName t))))) (declared_object (tree_with_names s t) n.ordinal))

-- returns the hover of a field's identifier, whose type is this one
abbrev hover_of_shape : TextWithTokens → ℕ → Shape → HoverTextWithSpan
hover_of_shape s token of = record { span = token_span s token; text = field_text (token_text_at s token) (type_text of) }

module _ (r q : Resolution) (e : Same r.module_read q.module_read) (fields : field_identifiers r ≡ field_identifiers q) (tables : (token : ℕ) → ordinal_in r.ordinals token ≡ ordinal_in q.ordinals token) (offset : ℕ) where
  same_meant : identifier_meaning_at_offset r offset ≡ identifier_meaning_at_offset q offset
  same_meant = λ i. meaning_of_name_or_field (one_name e offset i) (field_at_offset (e.source i) offset (fields i))

  -- ---- its hover text

  one_hover : (token : ℕ) (x : IdentifierMeaning) → hover_of_identifier r token x ≡ hover_of_identifier q token x
  one_hover token (Name ordinal) = λ i. hover_in_tree (e.source i) (e.tree i) (record { token = token; ordinal = ordinal })
  one_hover token (Field k) = λ i.
      option_map (λ f. hover_of_shape (e.source i) token f.shape)
      (option_and_then (λ s. typed_field_with_name s (token_text_at (e.source i) token))
      (get_or (constructed_types (record { object_for = λ t. option_and_then (declared_object (tree_with_names (e.source i) (e.tree i))) (tables t i); written = λ t. token_text_at (e.source i) t }) None (e.tree i)) k None))

  same_hover : hover_at_offset r offset ≡ hover_at_offset q offset
  same_hover = λ i. option_and_then (λ (x : IdentifierWithMeaning). one_hover x.token x.means i) (same_meant i)

  -- ---- the place of its declaration

  one_declaration : (token : ℕ) (x : IdentifierMeaning) → definition_of_identifier r.module_read token x ≡ definition_of_identifier q.module_read token x
  one_declaration token (Name ordinal) = λ i. option_map (token_span (e.source i)) (declaration_token (declaring_names (identifiers role.DeclaringName (e.tree i))) ordinal)
  one_declaration token (Field k) = λ i. option_map (token_span (e.source i)) (first_token (tokens_of_field (e.source i) k (token_text_at (e.source i) token) (fields_with_owners (identifiers_declared_in_module (e.tree i)))))

  same_definition : definition_at_offset r offset ≡ definition_at_offset q offset
  same_definition = λ i. option_and_then (λ (x : IdentifierWithMeaning). one_declaration x.token x.means i) (same_meant i)

  -- ---- the places of its uses

  field_referred : (x : FieldIdentifier) (include : Bool) → field_reference_tokens r x include ≡ field_reference_tokens q x include
  field_referred x true = λ i. tokens_of_field (e.source i) x.owner (token_text_at (e.source i) x.token) (fields i)
  field_referred x false = λ i.
      list_without_optional_token (first_token (tokens_of_field (e.source i) x.owner (token_text_at (e.source i) x.token) (fields_with_owners (identifiers_declared_in_module (e.tree i))))) (tokens_of_field (e.source i) x.owner (token_text_at (e.source i) x.token) (fields i))

  named_one : (include : Bool) (token : ℕ) (x : IdentifierMeaning) → references_of_identifier r include token x ≡ references_of_identifier q include token x
  named_one include token (Name ordinal) = λ i. map (token_span (e.source i)) (map (λ s. s.0.1) (filter (identifier_is_bound_to_declaration include ordinal) (identifiers_of (e.source i) (e.tree i))))
  named_one include token (Field k) = λ i. map (token_span (e.source i)) (field_referred (record { token = token; owner = k }) include i)

  named_in_one : (include : Bool) (found : Option IdentifierWithMeaning) → references_of_optional_identifier r include found ≡ references_of_optional_identifier q include found
  named_in_one include None = refl
  named_in_one include (Some x) = named_one include x.token x.means

  same_references : (include : Bool) → references_at_offset r offset include ≡ references_at_offset q offset include
  same_references include = named_in_one include (identifier_meaning_at_offset r offset) ∙ ap (references_of_optional_identifier q include) same_meant

  -- ---- the range to rename

  one_renamable : (token : ℕ) (x : IdentifierMeaning) → renamable_span_of_identifier r.module_read token x ≡ renamable_span_of_identifier q.module_read token x
  one_renamable token (Name ordinal) = λ i. if nat_lt ordinal 7 then None else Some (token_span (e.source i) token)
  one_renamable token (Field k) = λ i. Some (token_span (e.source i) token)

  same_renamable : renamable_span_at_offset r offset ≡ renamable_span_at_offset q offset
  same_renamable = λ i. option_and_then (λ (x : IdentifierWithMeaning). one_renamable x.token x.means i) (same_meant i)

-- ---- values

module _ (tables : ResolutionIsDetermined) (unit : Unit) (text : List ℕ) (at : DocumentPlace) where
  in_one : (question : NameQuestion) (r q : Resolution) (value other : Data) → IsResolvedWellTypedModule (utf8 text) r → IsResolvedWellTypedModule (utf8 text) q → AnswersQuestionInModule unit text at question r value → AnswersQuestionInModule unit text at question q other → value ≡ other
  in_one question r q value other read again = go question
    where
      e : Same r.module_read q.module_read
      e = same_module (utf8 text) r.module_read q.module_read read.scan read.well_typed.resolved.parsed again.scan again.well_typed.resolved.parsed

      fields : field_identifiers r ≡ field_identifiers q
      fields = one_list_of_fields r q read.well_typed again.well_typed e

      table : (token : ℕ) → ordinal_in r.ordinals token ≡ ordinal_in q.ordinals token
      table = tables r q read.well_typed.resolved again.well_typed.resolved (e.source, e.tree)

      go : (question : NameQuestion) → AnswersQuestionInModule unit text at question r value → AnswersQuestionInModule unit text at question q other → value ≡ other
      go hover_question h k = h ∙ ap (λ o. value_or_null (option_map (hover_value_with_range unit text) o)) (same_hover r q e fields table (offset_of_place unit text at)) ∙ sym k
      go definition_question h k = h ∙ ap (λ o. value_or_null (option_map (location_value_of_span unit at.uri text) o)) (same_definition r q e fields table (offset_of_place unit text at)) ∙ sym k
      go (references_question include) (spans, are, is) (others, are_too, is_too) =
          let same : spans ≡ others = are ∙ same_references r q e fields table (offset_of_place unit text at) include ∙ sym are_too in
          is ∙ ap (λ xs. array (items_of (map (location_value_of_span unit at.uri text) xs))) same ∙ sym is_too
      go prepare_rename_question h k = h ∙ ap (λ o. value_or_null (option_map (range_value_of_span unit text) o)) (same_renamable r q e fields table (offset_of_place unit text at)) ∙ sym k

  -- A text that has a module is the text of a well-typed module.
  is_module : (r : Resolution) → IsResolvedWellTypedModule (utf8 text) r → IsWellTypedModule (utf8 text)
  is_module r h =
      record { tree = _; text_of = record { scanned = r.module_read.source; scan = h.scan; module_of = h.well_typed.resolved.parsed.module_of }; well_typed = h.well_typed.well_typed }

  pub name_one : (question : NameQuestion) (value other : Data) → AnswersQuestion unit text at question value → AnswersQuestion unit text at question other → value ≡ other
  name_one question value other (inl (r, read, h)) (inl (q, again, k)) = in_one question r q value other read again h k
  name_one question value other (inl (r, read, h)) (inr (unfit, k)) = absurd (unfit (is_module r read))
  name_one question value other (inr (unfit, h)) (inl (q, again, k)) = absurd (unfit (is_module q again))
  name_one question value other (inr (unfit, h)) (inr (nor, k)) = h ∙ sym k
