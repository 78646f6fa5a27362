-- Proves that at a place on a field, the answers of definition, references and hover are about that
-- field.
use Rattle.std.proofs.Common.{◌≡◌, ℕ, suc, ◌&&◌, Bool, true, false, if◌then◌else◌, List, [], ◌∷◌, map, is_some, Some, None, Option, option_map, option_and_then, refl, sym, ap, ◌∙◌, subst, arith, true≢false, eq-eqb, nat_lt, All, Contains}
use Rattle.std.proofs.lemmas.List.Elements.{All-head, All-tail}
use Rattle.std.proofs.lemmas.Slice.Eq.{bytes_eq-Decides}
use Rattle.ob0_scan.specs.TextWithTokens.{TextWithTokens}
use Rattle.ob0_scan.specs.declared.lexeme.Span.{Span}
use Rattle.ob0_tree.specs.ParsedModule.{ParsedModule}
use Rattle.ob0_tree.specs.TokenIndexLeaves.{token_text_at}
use Rattle.ob0_scope_table.specs.Resolution.{Resolution, token_span}
use Rattle.ob0_scope_table.specs.Spans.{is_in_span_or_at_end}
use Rattle.ob0_scope.specs.NamesAtPlaces.{name_at_offset}
use Rattle.ob0_scope.specs.declared.bound_names.BoundName as named
use Rattle.ob0_types.specs.IdentifierMeanings.{meaning_of_name_or_field}
use Rattle.ob0_types.specs.declared.identifier_meanings.IdentifierWithMeaning.{IdentifierWithMeaning}
use Rattle.ob0_language_types.proofs.Literals.{some_inverse}
use Rattle.ob0_types_fields.specs.FieldTypes.{TypedField, typed_field}
use Rattle.ob0_types_fields.specs.declared.field_identifier.FieldIdentifier.{FieldIdentifier}
use Rattle.ob0_types_fields.specs.FieldIdentifiers.{field_declaring_token, module_field_at_offset, field_identifiers, field_at_offset, field_tokens_in_module, belongs_to_field, tokens_of_field}
use Rattle.ob0_types_fields.proofs.FieldsAreDeclared.{fields_are_declared-holds}
use Rattle.ob0_types_fields.proofs.TypedFields.{fields_have_types-holds}
use Rattle.ob0_refs.specs.Laws.{FieldsHaveDefinitions, FieldRenamingChangesReferences, FieldsHaveHovers, IdentifierRefersToField}
use Rattle.ob0_refs.specs.Questions.{answer_about_field, answer_about_identifier, definition_of_identifier, hover_of_identifier, references_of_optional_identifier, references_at_offset, hover_of_field_with_type}
use Rattle.ob0_refs.specs.declared.answer_types.At as answer
use Rattle.ob0_refs.specs.declared.answer_types.Of as of
use Rattle.ob0_refs.specs.declared.answer_types.Of.TheVariants as answer_of

abbrev answers_field : of.Of → Bool
answers_field answer_of.Predeclared = false
answers_field (answer_of.Declared ordinal) = false
answers_field (answer_of.Field k index) = true

abbrev owner_answered : of.Of → ℕ
owner_answered answer_of.Predeclared = 0
owner_answered (answer_of.Declared ordinal) = 0
owner_answered (answer_of.Field k index) = k

no_field : (b : Bool) (ordinal : ℕ) → answers_field (if b then answer_of.Predeclared else answer_of.Declared ordinal) ≡ false
no_field true ordinal = refl
no_field false ordinal = refl

-- holds if a place is on a field and not on a name
record OnField (r : Resolution) (offset : ℕ) (span : Span) (k : ℕ) : Type 0 where
  pub token : ℕ
  pub no_name : name_at_offset r.module_read offset ≡ None
  pub field : module_field_at_offset r offset ≡ Some record { token = token; owner = k }
  pub place : token_span r.module_read.source token ≡ span

on_field : (r : Resolution) (offset k index : ℕ) (span : Span) → IdentifierRefersToField r offset span k index → OnField r offset span k
on_field r offset k index span h = go (name_at_offset r.module_read offset) refl (module_field_at_offset r offset) refl h
  where
    go : (n : Option named.BoundName) → name_at_offset r.module_read offset ≡ n → (f : Option FieldIdentifier) → module_field_at_offset r offset ≡ f → option_map (λ (x : IdentifierWithMeaning). answer_about_identifier r.module_read x.token x.means) (meaning_of_name_or_field n f) ≡ Some (record { span = span; of = answer_of.Field k index }) → OnField r offset span k
    go (Some n) e f g same = absurd (true≢false (sym (ap (λ (a : answer.At). answers_field a.of) (some_inverse same)) ∙ no_field (nat_lt n.ordinal 7) n.ordinal))
    go None e None g same = absurd (cc)
    go None e (Some x) g same =
        let here : answer_about_field r.module_read x ≡ record { span = span; of = answer_of.Field k index } = some_inverse same in
        record {
          token = x.token;
          no_name = e;
          field = g ∙ ap (λ o. Some (record { token = x.token; owner = o })) (ap (λ (a : answer.At). owner_answered a.of) here);
          place = ap (λ (a : answer.At). a.span) here;
        }

-- ---- definition

module _ (source : TextWithTokens) (offset : ℕ) (x : FieldIdentifier) where
  found_holds : (P : FieldIdentifier → Type 0) (xs : List FieldIdentifier) → All P xs → field_at_offset source offset xs ≡ Some x → P x
  found_holds P [] all h = absurd (cc)
  found_holds P (y ∷ ys) all h = one (is_in_span_or_at_end offset (token_span source y.token)) h (found_holds P ys (All-tail P y ys all))
    where
      one : (b : Bool) → (if b then Some y else field_at_offset source offset ys) ≡ Some x → (field_at_offset source offset ys ≡ Some x → P x) → P x
      one true e later = subst P (some_inverse e) (All-head P y ys all)
      one false e later = later e

  -- The span of the identifier at a place is among the spans of its field's tokens.
  found_named : (xs : List FieldIdentifier) → field_at_offset source offset xs ≡ Some x → Contains (map (token_span source) (tokens_of_field source x.owner (token_text_at source x.token) xs)) (token_span source x.token)
  found_named [] h = absurd (cc)
  found_named (y ∷ ys) h = one (is_in_span_or_at_end offset (token_span source y.token)) h (found_named ys)
    where
      following : (b : Bool) → Contains (map (token_span source) (tokens_of_field source x.owner (token_text_at source x.token) ys)) (token_span source x.token)
          → Contains (map (token_span source) (if b then y.token ∷ tokens_of_field source x.owner (token_text_at source x.token) ys else tokens_of_field source x.owner (token_text_at source x.token) ys)) (token_span source x.token)
      following true (i, less, is) = (suc i, omega (arith, less), is)
      following false at = at

      here : y ≡ x → belongs_to_field source x.owner (token_text_at source x.token) y ≡ true
      here same = λ i. eq-eqb y.owner x.owner (ap (λ (z : FieldIdentifier). z.owner) same) i && (bytes_eq-Decides (token_text_at source y.token) (token_text_at source x.token)).1 (ap (λ (z : FieldIdentifier). token_text_at source z.token) same) i

      one : (b : Bool) → (if b then Some y else field_at_offset source offset ys) ≡ Some x
          → (field_at_offset source offset ys ≡ Some x → Contains (map (token_span source) (tokens_of_field source x.owner (token_text_at source x.token) ys)) (token_span source x.token))
          → Contains (map (token_span source) (if belongs_to_field source x.owner (token_text_at source x.token) y then y.token ∷ tokens_of_field source x.owner (token_text_at source x.token) ys else tokens_of_field source x.owner (token_text_at source x.token) ys)) (token_span source x.token)
      one true e later =
          let same : y ≡ x = some_inverse e in
          subst (λ b. Contains (map (token_span source) (if b then y.token ∷ tokens_of_field source x.owner (token_text_at source x.token) ys else tokens_of_field source x.owner (token_text_at source x.token) ys)) (token_span source x.token)) (sym (here same))
          (0, omega arith, ap (λ (z : FieldIdentifier). token_span source z.token) same)
      one false e later = following (belongs_to_field source x.owner (token_text_at source x.token) y) (later e)

some_mapped : {A B : Type 0} (f : A → B) (o : Option A) → is_some (option_map f o) ≡ is_some o
some_mapped f None = refl
some_mapped f (Some a) = refl

pub fields_have_definitions-holds : FieldsHaveDefinitions
fields_have_definitions-holds r offset k index span well h =
    let m : ParsedModule = r.module_read in
    let at = on_field r offset k index span h in
    let name : List ℕ = token_text_at m.source at.token in
    (λ i. is_some (option_and_then (λ (x : IdentifierWithMeaning). definition_of_identifier m x.token x.means) (meaning_of_name_or_field (at.no_name i) (at.field i))))
    ∙ (some_mapped (token_span m.source) (field_declaring_token m k name)
    ∙ found_holds m.source offset (record { token = at.token; owner = k }) (λ x. is_some (field_declaring_token m x.owner (token_text_at m.source x.token)) ≡ true) (field_identifiers r) (fields_are_declared-holds r well.resolved well.well_typed) at.field)

-- ---- references

pub field_renaming_changes_references-holds : FieldRenamingChangesReferences
field_renaming_changes_references-holds r offset k index span h =
    let m : ParsedModule = r.module_read in
    let at = on_field r offset k index span h in
    let uses : references_at_offset r offset true ≡ map (token_span m.source) (field_tokens_in_module r k (token_text_at m.source at.token)) = λ i. references_of_optional_identifier r true (meaning_of_name_or_field (at.no_name i) (at.field i)) in
    record {
      token = at.token;
      no_name = at.no_name;
      field = at.field;
      place = at.place;
      uses = uses;
      itself = subst (λ spans. Contains spans span) (sym uses) (subst (Contains (map (token_span m.source) (field_tokens_in_module r k (token_text_at m.source at.token)))) at.place (found_named m.source offset (record { token = at.token; owner = k }) (field_identifiers r) at.field));
    }

-- ---- hover

pub fields_have_hovers-holds : FieldsHaveHovers
fields_have_hovers-holds r offset k index span well h =
    let m : ParsedModule = r.module_read in
    let at = on_field r offset k index span h in
    let x : FieldIdentifier = record { token = at.token; owner = k } in
    let typed : is_some (typed_field r x) ≡ true = found_holds m.source offset x (λ y. is_some (typed_field r y) ≡ true) (field_identifiers r) (fields_have_types-holds r well.resolved well.well_typed) at.field in
    (λ i. is_some (option_and_then (λ (y : IdentifierWithMeaning). hover_of_identifier r y.token y.means) (meaning_of_name_or_field (at.no_name i) (at.field i))))
    ∙ (some_mapped (λ (f : TypedField). hover_of_field_with_type r at.token f.shape) (typed_field r x) ∙ typed)
