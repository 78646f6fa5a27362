-- Statements are well-typed after fields are renamed exactly if they were before. The renaming must
-- keep the fields of a record distinct.
use Rattle.std.proofs.Common.{◌≡◌, ◌&&◌, List, [], ◌∷◌, map, Some, None, Option, option_map, refl, ap, ◌∙◌}
use Rattle.ob0_tree.specs.Tree.{Tree, arguments, assigns, branches, calls, compares, designator, else_branch, else_part, elsif_branch, elsif_part, empty, end, expression, argument_after_comma, statement_after_semicolon, items, maybe, more, none, one, product, repeat_loop, runs, selector, sequence, some_arguments, statement, sum, comma_then_argument, semicolon_then_statement, while_loop}
use Rattle.ob0_language_names.specs.Names.{Name}
use Rattle.ob0_language_types.specs.Arguments.{call_arguments, further_arguments}
use Rattle.ob0_language_types.specs.Expressions.{Object, a_constant, a_procedure, a_standard_procedure, a_type, a_variable}
use Rattle.ob0_language_types.specs.Typing.{lone_designator, type_of_variable_or_constant, type_after_selectors, type_of_expression}
use Rattle.ob0_language_types.specs.WellTyped.{FormalParameter, ParameterMode, Signature, TypeMeanings, same_known_shape, argument_matches_parameter, arguments_match_signature, by_place, by_value, call_is_well_typed, condition_is_boolean, else_is_well_typed, elsifs_are_well_typed, sequence_is_well_typed, signature_of, statement_is_well_typed, further_statements_are_well_typed, assignable_type}
use Rattle.ob0_language_values.specs.Values.{Shape, boolean_shape}
use Rattle.ob0_language_fields.proofs.MeaningsByName.{named}
use Rattle.ob0_language_field_laws.specs.FieldLaws.{KeepsFieldsDistinct}
use Rattle.ob0_language_field_laws.proofs.Apart.{same_known_shape-by, formal_by, named_by, object_by, shape_by, signature_of-by}
use Rattle.ob0_language_field_laws.proofs.FieldRenamedTypes.{type_after_selectors-rename_selected_fields, type_of_expression-rename_selected_fields}
use Rattle.ob0_language_fields.specs.RenamedFields.{FieldRenaming, rename_selected_fields}

abbrev pub refield_designator : FieldRenaming → TypeMeanings Name → Name × Tree Name (items selector) → Name × Tree Name (items selector)
refield_designator l meaning d = (d.0, rename_selected_fields l meaning (type_of_variable_or_constant (meaning.object_for d.0)) d.1)

pub lone_designator-rename_selected_fields : (l : FieldRenaming) (meaning : TypeMeanings Name) (e : Tree Name expression) → lone_designator (rename_selected_fields l meaning None e) ≡ option_map (refield_designator l meaning) (lone_designator e)
lone_designator-rename_selected_fields l meaning (compares (sum None (product (designator x path) end) end) none) = refl
lone_designator-rename_selected_fields l meaning _ = refl

pub further_arguments-rename_selected_fields : (l : FieldRenaming) (meaning : TypeMeanings Name) (es : Tree Name (items argument_after_comma)) → further_arguments (rename_selected_fields l meaning None es) ≡ map (rename_selected_fields l meaning None) (further_arguments es)
further_arguments-rename_selected_fields l meaning end = refl
further_arguments-rename_selected_fields l meaning (more (comma_then_argument e) es) = λ i. rename_selected_fields l meaning None e ∷ further_arguments-rename_selected_fields l meaning es i

pub arguments-rename_selected_fields : (l : FieldRenaming) (meaning : TypeMeanings Name) (es : Tree Name (maybe arguments)) → call_arguments (rename_selected_fields l meaning None es) ≡ map (rename_selected_fields l meaning None) (call_arguments es)
arguments-rename_selected_fields l meaning (one (some_arguments e es)) = λ i. rename_selected_fields l meaning None e ∷ further_arguments-rename_selected_fields l meaning es i
arguments-rename_selected_fields l meaning _ = refl

pub assignable_type-rename_selected_fields : (l : FieldRenaming) → KeepsFieldsDistinct l → (objects : Name → Option (Object Shape Signature)) (d : Option (Name × Tree Name (items selector)))
    → assignable_type (named_by l objects) (option_map (refield_designator l (named objects)) d) ≡ option_map (shape_by l) (assignable_type (named objects) d)
unfolding assignable_type
assignable_type-rename_selected_fields l apart objects None = refl
assignable_type-rename_selected_fields l apart objects (Some (x, path)) = go (objects x)
  where
    go : (o : Option (Object Shape Signature)) → (elim (option_map (object_by l) o) [ Some (a_variable s) ↦ type_after_selectors (named_by l objects) s (rename_selected_fields l (named objects) (type_of_variable_or_constant o) path) | _ ↦ None ])
        ≡ option_map (shape_by l) (elim o [ Some (a_variable s) ↦ type_after_selectors (named objects) s path | _ ↦ None ])
    go None = refl
    go (Some (a_type s)) = refl
    go (Some (a_constant v)) = refl
    go (Some (a_variable s)) = type_after_selectors-rename_selected_fields l apart objects s path
    go (Some (a_procedure p)) = refl
    go (Some (a_standard_procedure p)) = refl

pub argument_matches_parameter-rename_selected_fields : (l : FieldRenaming) → KeepsFieldsDistinct l → (objects : Name → Option (Object Shape Signature)) (f : FormalParameter) (e : Tree Name expression)
    → argument_matches_parameter (named_by l objects) (formal_by l f) (rename_selected_fields l (named objects) None e) ≡ argument_matches_parameter (named objects) f e
unfolding argument_matches_parameter
argument_matches_parameter-rename_selected_fields l apart objects f e = go f.mode
  where
    go : (m : ParameterMode) → same_known_shape (Some (shape_by l f.shape)) (elim m [ by_value ↦ type_of_expression (named_by l objects) (rename_selected_fields l (named objects) None e) | by_place ↦ assignable_type (named_by l objects) (lone_designator (rename_selected_fields l (named objects) None e)) ])
        ≡ same_known_shape (Some f.shape) (elim m [ by_value ↦ type_of_expression (named objects) e | by_place ↦ assignable_type (named objects) (lone_designator e) ])
    go by_value = ap (same_known_shape (Some (shape_by l f.shape))) (type_of_expression-rename_selected_fields l apart objects e) ∙ same_known_shape-by l apart (Some f.shape) (type_of_expression (named objects) e)
    go by_place =
        ap (same_known_shape (Some (shape_by l f.shape))) (ap (assignable_type (named_by l objects)) (lone_designator-rename_selected_fields l (named objects) e) ∙ assignable_type-rename_selected_fields l apart objects (lone_designator e))
        ∙ same_known_shape-by l apart (Some f.shape) (assignable_type (named objects) (lone_designator e))

pub arguments_match_signature-rename_selected_fields : (l : FieldRenaming) → KeepsFieldsDistinct l → (objects : Name → Option (Object Shape Signature)) (fs : Signature) (es : List (Tree Name expression))
    → arguments_match_signature (named_by l objects) (map (formal_by l) fs) (map (rename_selected_fields l (named objects) None) es) ≡ arguments_match_signature (named objects) fs es
unfolding arguments_match_signature
arguments_match_signature-rename_selected_fields l apart objects [] [] = refl
arguments_match_signature-rename_selected_fields l apart objects (f ∷ fs) (e ∷ es) = λ i. argument_matches_parameter-rename_selected_fields l apart objects f e i && arguments_match_signature-rename_selected_fields l apart objects fs es i
arguments_match_signature-rename_selected_fields l apart objects _ _ = refl

pub call_is_well_typed-rename_selected_fields : (l : FieldRenaming) → KeepsFieldsDistinct l → (objects : Name → Option (Object Shape Signature)) (signature : Option Signature) (es : Tree Name (maybe arguments))
    → call_is_well_typed (named_by l objects) (option_map (map (formal_by l)) signature) (call_arguments (rename_selected_fields l (named objects) None es)) ≡ call_is_well_typed (named objects) signature (call_arguments es)
unfolding call_is_well_typed
call_is_well_typed-rename_selected_fields l apart objects None es = refl
call_is_well_typed-rename_selected_fields l apart objects (Some fs) es = ap (arguments_match_signature (named_by l objects) (map (formal_by l) fs)) (arguments-rename_selected_fields l (named objects) es) ∙ arguments_match_signature-rename_selected_fields l apart objects fs (call_arguments es)

pub condition_is_boolean-rename_selected_fields : (l : FieldRenaming) → KeepsFieldsDistinct l → (objects : Name → Option (Object Shape Signature)) (e : Tree Name expression) → condition_is_boolean (named_by l objects) (rename_selected_fields l (named objects) None e) ≡ condition_is_boolean (named objects) e
unfolding condition_is_boolean
condition_is_boolean-rename_selected_fields l apart objects e = ap (same_known_shape (Some boolean_shape)) (type_of_expression-rename_selected_fields l apart objects e) ∙ same_known_shape-by l apart (Some boolean_shape) (type_of_expression (named objects) e)

mutual
  unfolding statement_is_well_typed

  pub statement_is_well_typed-rename_selected_fields : (l : FieldRenaming) → KeepsFieldsDistinct l → (objects : Name → Option (Object Shape Signature)) (a : Tree Name statement) → statement_is_well_typed (named_by l objects) (rename_selected_fields l (named objects) None a) ≡ statement_is_well_typed (named objects) a
  statement_is_well_typed-rename_selected_fields l apart objects empty = refl
  statement_is_well_typed-rename_selected_fields l apart objects (assigns x path e) =
      (λ i. same_known_shape (assignable_type-rename_selected_fields l apart objects (Some (x, path)) i) (type_of_expression-rename_selected_fields l apart objects e i)) ∙ same_known_shape-by l apart (assignable_type (named objects) (Some (x, path))) (type_of_expression (named objects) e)
  statement_is_well_typed-rename_selected_fields l apart objects (calls x es) =
      ap (λ o. call_is_well_typed (named_by l objects) o (call_arguments (rename_selected_fields l (named objects) None es))) (signature_of-by l (objects x)) ∙ call_is_well_typed-rename_selected_fields l apart objects (signature_of (objects x)) es
  statement_is_well_typed-rename_selected_fields l apart objects (branches e statements rest last) = λ i.
      condition_is_boolean-rename_selected_fields l apart objects e i && (sequence_is_well_typed-rename_selected_fields l apart objects statements i && (elsifs_are_well_typed-rename_selected_fields l apart objects rest i && else_is_well_typed-rename_selected_fields l apart objects last i))
  statement_is_well_typed-rename_selected_fields l apart objects (while_loop e statements) = λ i. condition_is_boolean-rename_selected_fields l apart objects e i && sequence_is_well_typed-rename_selected_fields l apart objects statements i
  statement_is_well_typed-rename_selected_fields l apart objects (repeat_loop statements e) = λ i. sequence_is_well_typed-rename_selected_fields l apart objects statements i && condition_is_boolean-rename_selected_fields l apart objects e i

  pub sequence_is_well_typed-rename_selected_fields : (l : FieldRenaming) → KeepsFieldsDistinct l → (objects : Name → Option (Object Shape Signature)) (a : Tree Name sequence) → sequence_is_well_typed (named_by l objects) (rename_selected_fields l (named objects) None a) ≡ sequence_is_well_typed (named objects) a
  sequence_is_well_typed-rename_selected_fields l apart objects (runs a rest) = λ i. statement_is_well_typed-rename_selected_fields l apart objects a i && further_statements_are_well_typed-rename_selected_fields l apart objects rest i

  pub further_statements_are_well_typed-rename_selected_fields : (l : FieldRenaming) → KeepsFieldsDistinct l → (objects : Name → Option (Object Shape Signature)) (a : Tree Name (items statement_after_semicolon)) → further_statements_are_well_typed (named_by l objects) (rename_selected_fields l (named objects) None a) ≡ further_statements_are_well_typed (named objects) a
  further_statements_are_well_typed-rename_selected_fields l apart objects end = refl
  further_statements_are_well_typed-rename_selected_fields l apart objects (more (semicolon_then_statement a) rest) = λ i. statement_is_well_typed-rename_selected_fields l apart objects a i && further_statements_are_well_typed-rename_selected_fields l apart objects rest i

  pub elsifs_are_well_typed-rename_selected_fields : (l : FieldRenaming) → KeepsFieldsDistinct l → (objects : Name → Option (Object Shape Signature)) (a : Tree Name (items elsif_part)) → elsifs_are_well_typed (named_by l objects) (rename_selected_fields l (named objects) None a) ≡ elsifs_are_well_typed (named objects) a
  elsifs_are_well_typed-rename_selected_fields l apart objects end = refl
  elsifs_are_well_typed-rename_selected_fields l apart objects (more (elsif_branch e statements) rest) = λ i.
      condition_is_boolean-rename_selected_fields l apart objects e i && (sequence_is_well_typed-rename_selected_fields l apart objects statements i && elsifs_are_well_typed-rename_selected_fields l apart objects rest i)

  pub else_is_well_typed-rename_selected_fields : (l : FieldRenaming) → KeepsFieldsDistinct l → (objects : Name → Option (Object Shape Signature)) (a : Tree Name (maybe else_part)) → else_is_well_typed (named_by l objects) (rename_selected_fields l (named objects) None a) ≡ else_is_well_typed (named objects) a
  else_is_well_typed-rename_selected_fields l apart objects none = refl
  else_is_well_typed-rename_selected_fields l apart objects (one (else_branch statements)) = sequence_is_well_typed-rename_selected_fields l apart objects statements
