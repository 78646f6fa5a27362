-- A statement in which names are mapped is well-typed, with the meanings of the new names, exactly
-- if the original statement is.
use Rattle.std.proofs.Common.{◌≡◌, ◌&&◌, List, [], ◌∷◌, map, Some, None, Option, option_map, refl, ap, ◌∙◌}
use Rattle.ob0_tree.specs.Tree.{Tree, arguments, assigns, branches, calls, else_branch, else_part, elsif_branch, elsif_part, empty, end, expression, statement_after_semicolon, items, maybe, more, none, one, repeat_loop, runs, selector, sequence, statement, semicolon_then_statement, while_loop}
use Rattle.ob0_language_names.specs.MappedNames.{map_names}
use Rattle.ob0_language_types.specs.Arguments.{call_arguments}
use Rattle.ob0_language_types.specs.Expressions.{Meanings, a_variable}
use Rattle.ob0_language_types.specs.Typing.{lone_designator}
use Rattle.ob0_language_values.specs.Values.{Shape, boolean_shape}
use Rattle.ob0_language_types.specs.WellTyped.{FormalParameter, Signature, TypeMeanings, same_known_shape, argument_matches_parameter, arguments_match_signature, by_place, by_value, call_is_well_typed, condition_is_boolean, else_is_well_typed, elsifs_are_well_typed, sequence_is_well_typed, signature_of, statement_is_well_typed, further_statements_are_well_typed, assignable_type}
use Rattle.ob0_language_types.proofs.Naturality.{arguments-map, lone_designator-map, map_designator, through}
use Rattle.ob0_language_types.proofs.TypeNaturality.{type_after_selectors-map, type_of_expression-map}

pub assignable_type-map : {N M P : Type 0} (f h : N → M) (meaning : Meanings M Shape P) (d : Option (N × Tree N (items selector))) → assignable_type meaning (option_map (map_designator f h) d) ≡ assignable_type (through f h meaning) d
unfolding assignable_type
assignable_type-map f h meaning None = refl
assignable_type-map f h meaning (Some (x, path)) = λ i. elim (meaning.object_for (f x)) [ Some (a_variable s) ↦ type_after_selectors-map f h meaning s path i | _ ↦ None ]

pub argument_matches_parameter-map : {N M P : Type 0} (f h : N → M) (meaning : Meanings M Shape P) (g : FormalParameter) (e : Tree N expression) → argument_matches_parameter meaning g (map_names f h e) ≡ argument_matches_parameter (through f h meaning) g e
unfolding argument_matches_parameter
argument_matches_parameter-map f h meaning g e = λ i.
    same_known_shape (Some g.shape) (elim g.mode [ by_value ↦ type_of_expression-map f h meaning e i | by_place ↦ (ap (assignable_type meaning) (lone_designator-map f h e) ∙ assignable_type-map f h meaning (lone_designator e)) i ])

pub arguments_match_signature-map : {N M P : Type 0} (f h : N → M) (meaning : Meanings M Shape P) (gs : Signature) (es : List (Tree N expression)) → arguments_match_signature meaning gs (map (map_names f h) es) ≡ arguments_match_signature (through f h meaning) gs es
unfolding arguments_match_signature
arguments_match_signature-map f h meaning [] [] = refl
arguments_match_signature-map f h meaning [] (e ∷ es) = refl
arguments_match_signature-map f h meaning (g ∷ gs) [] = refl
arguments_match_signature-map f h meaning (g ∷ gs) (e ∷ es) = λ i. argument_matches_parameter-map f h meaning g e i && arguments_match_signature-map f h meaning gs es i

pub call_is_well_typed-map : {N M P : Type 0} (f h : N → M) (meaning : Meanings M Shape P) (signature : Option Signature) (es : Tree N (maybe arguments)) → call_is_well_typed meaning signature (call_arguments (map_names f h es)) ≡ call_is_well_typed (through f h meaning) signature (call_arguments es)
unfolding call_is_well_typed
call_is_well_typed-map f h meaning None es = refl
call_is_well_typed-map f h meaning (Some gs) es = ap (arguments_match_signature meaning gs) (arguments-map f h es) ∙ arguments_match_signature-map f h meaning gs (call_arguments es)

pub condition_is_boolean-map : {N M P : Type 0} (f h : N → M) (meaning : Meanings M Shape P) (e : Tree N expression) → condition_is_boolean meaning (map_names f h e) ≡ condition_is_boolean (through f h meaning) e
unfolding condition_is_boolean
condition_is_boolean-map f h meaning e = λ i. same_known_shape (Some boolean_shape) (type_of_expression-map f h meaning e i)

mutual
  unfolding statement_is_well_typed

  pub statement_is_well_typed-map : {N M : Type 0} (f h : N → M) (meaning : TypeMeanings M) (a : Tree N statement) → statement_is_well_typed meaning (map_names f h a) ≡ statement_is_well_typed (through f h meaning) a
  statement_is_well_typed-map f h meaning empty = refl
  statement_is_well_typed-map f h meaning (assigns x path e) = λ i.
      same_known_shape (assignable_type-map f h meaning (Some (x, path)) i) (type_of_expression-map f h meaning e i)
  statement_is_well_typed-map f h meaning (calls x es) = call_is_well_typed-map f h meaning (signature_of (meaning.object_for (f x))) es
  statement_is_well_typed-map f h meaning (branches e statements rest last) = λ i.
      condition_is_boolean-map f h meaning e i && (sequence_is_well_typed-map f h meaning statements i && (elsifs_are_well_typed-map f h meaning rest i && else_is_well_typed-map f h meaning last i))
  statement_is_well_typed-map f h meaning (while_loop e statements) = λ i. condition_is_boolean-map f h meaning e i && sequence_is_well_typed-map f h meaning statements i
  statement_is_well_typed-map f h meaning (repeat_loop statements e) = λ i. sequence_is_well_typed-map f h meaning statements i && condition_is_boolean-map f h meaning e i

  pub sequence_is_well_typed-map : {N M : Type 0} (f h : N → M) (meaning : TypeMeanings M) (a : Tree N sequence) → sequence_is_well_typed meaning (map_names f h a) ≡ sequence_is_well_typed (through f h meaning) a
  sequence_is_well_typed-map f h meaning (runs a rest) = λ i. statement_is_well_typed-map f h meaning a i && further_statements_are_well_typed-map f h meaning rest i

  pub further_statements_are_well_typed-map : {N M : Type 0} (f h : N → M) (meaning : TypeMeanings M) (a : Tree N (items statement_after_semicolon)) → further_statements_are_well_typed meaning (map_names f h a) ≡ further_statements_are_well_typed (through f h meaning) a
  further_statements_are_well_typed-map f h meaning end = refl
  further_statements_are_well_typed-map f h meaning (more (semicolon_then_statement a) rest) = λ i. statement_is_well_typed-map f h meaning a i && further_statements_are_well_typed-map f h meaning rest i

  pub elsifs_are_well_typed-map : {N M : Type 0} (f h : N → M) (meaning : TypeMeanings M) (a : Tree N (items elsif_part)) → elsifs_are_well_typed meaning (map_names f h a) ≡ elsifs_are_well_typed (through f h meaning) a
  elsifs_are_well_typed-map f h meaning end = refl
  elsifs_are_well_typed-map f h meaning (more (elsif_branch e statements) rest) = λ i.
      condition_is_boolean-map f h meaning e i && (sequence_is_well_typed-map f h meaning statements i && elsifs_are_well_typed-map f h meaning rest i)

  pub else_is_well_typed-map : {N M : Type 0} (f h : N → M) (meaning : TypeMeanings M) (a : Tree N (maybe else_part)) → else_is_well_typed meaning (map_names f h a) ≡ else_is_well_typed (through f h meaning) a
  else_is_well_typed-map f h meaning none = refl
  else_is_well_typed-map f h meaning (one (else_branch statements)) = sequence_is_well_typed-map f h meaning statements
