-- No fault is reported for written types that denote a type. If two optional steps together have
-- the result `r` and the first step has the value `a`, the second step has the result `r` for `a`
-- (`given-again`).
use Rattle.std.proofs.Common.{◌≡◌, ℕ, suc, ◌+◌, Bool, true, false, ◌&&◌, List, [], map, Option, Some, None, option_and_then, if◌then◌else◌, is_some, nat_le, refl, sym, ap, ◌∙◌, le_refl, length, arith}
use Rattle.ob0_tree.specs.TokenIndexLeaves.{tree_with_names, token_text_at, token_value_at}
use Rattle.ob0_tree.specs.Tree.{Tree, array_type, end, fields, fields_after_semicolon, items, mapped_tree, more, named_type, no_fields, occurrences, record_type, some_fields, semicolon_then_fields, written_type}
use Rattle.ob0_language_names.specs.Names.{Name, naming_by_spelling}
use Rattle.ob0_language_names.specs.BlockParts.{names_in_list}
use Rattle.ob0_language_names.specs.Scopes.{Scope}
use Rattle.ob0_types_table.specs.declared.types.TypeId.{TypeId}
use Rattle.ob0_language_types.specs.Environments.{meanings}
use Rattle.ob0_language_types.specs.Expressions as meant
use Rattle.ob0_language_types.specs.Typing.{array_length_from_value, constant_expression_value, denoted_type, denoted_group_fields, denoted_further_fields, depth, group_constructor_count, later_groups_constructor_count, scalar_count, type_of_type_object, prepend_fields, type_if_within_limits}
use Rattle.ob0_language_types.specs.WellTyped.{Signature, TypeEnvironment, TypeMeanings, signature_of}
use Rattle.ob0_language_values.specs.Values.{FieldShapes, Shape, Value, array_shape, no_field_shape, record_shape}
use Rattle.ob0_types_check.specs.ExpressionFaults.{report_on_expression}
use Rattle.ob0_types_check.specs.TypesAndMeanings.{Meaning, Operand, ResultWithFaults, a_constant, a_procedure, a_type, a_variable}
use Rattle.ob0_types_check.specs.OperandFaults.{without_fault}
use Rattle.ob0_types_check.specs.KnownDeclarations.{CompositeParts, TypeSize, KnownDeclarations, facts_from_declarations, is_within_limits, append_composite, make_composite_type, of_elements, size_of_known_type, report_on_too_large_type}
use Rattle.ob0_types_check.specs.KnownDeclarations as so_far
use Rattle.ob0_types_check.specs.TypeFaults.{length_from_operand, type_from_meaning}
use Rattle.ob0_types_check.specs.WrittenTypeFaults.{KnownFields, make_array_type, array_size, no_known_fields, make_record_type, record_size, record_keyword_token, report_on_field_group, report_on_further_field_groups, next_type_ordinal, report_on_written_type, token_before_group}
use Rattle.ob0_types_check.specs.Agreement.{IsKnownAndAgreesWithObject, shape_of_type_in}
use Rattle.ob0_types_check.specs.WellTypedLaws.{ConstantsWithValuesHaveNoFault, ValidLengthsHaveNoFault, WellTypedStatementsHaveNoFault}
use Rattle.ob0_types_check.proofs.DeclaredNames.{AreSeen, IsSeen, Numbering, each_part}
use Rattle.ob0_types_check.proofs.DeclaredShapes.{GatheredAgrees, SizeAgrees, array_sized, followed, record_sized, size_agrees}
use Rattle.ob0_types_check.proofs.DeclaredKnown.{IsKnownAt, agrees_where_seen, seen_holds, holds_later}
use Rattle.ob0_types_check.proofs.DeclaredTypes.{array_given, both_gather, group_gathers, grouped, groups_gather, nothing_agrees, of_limits, type_denotes}
use Rattle.ob0_types_check.proofs.PartsFitting.{PartsFit}
use Rattle.ob0_types_check.proofs.TypedConstants.{constants_with_values_have_no_fault-holds, valid_lengths_have_no_fault-holds}
use Rattle.ob0_types_check.proofs.TypedOperands.{and-then, none-of-both}
use Rattle.ob0_types_check.proofs.TypedStatements.{well_typed_statements_have_no_fault-holds}
use Rattle.ob0_types_check.proofs.Unreported.{some-none, none-reported}

-- The laws about expressions and statements that the proofs about declarations use: no fault is reported for them if
-- they are well-typed.
pub record PartsRight : Type 0 where
  pub constants : ConstantsWithValuesHaveNoFault Name
  pub lengths : ValidLengthsHaveNoFault Name
  pub statements : WellTypedStatementsHaveNoFault Name

pub parts_right : PartsRight
parts_right = record { constants = constants_with_values_have_no_fault-holds; lengths = valid_lengths_have_no_fault-holds; statements = well_typed_statements_have_no_fault-holds }

-- The result of two steps is the result of the second step, applied to the first step's value.
pub given-again : {A B : Type 0} (next : A → Option B) (o : Option A) (a : A) (r : Option B) → o ≡ Some a → option_and_then next o ≡ r → next a ≡ r
given-again next o a r e h = sym (ap (option_and_then next) e) ∙ h

pub some-there : {A : Type 0} (o : Option A) (a : A) → o ≡ Some a → is_some o ≡ true
some-there o a e = ap is_some e

-- A type within the limits isn't reported as too large.
within : (b : Bool) (s t : Shape) → (if b then Some s else None) ≡ Some t → b ≡ true
within true s t h = refl
within false s t h = absurd (some-none t (sym h))

is-within : (z : TypeSize) (s t : Shape) → SizeAgrees z s → type_if_within_limits s ≡ Some t → is_within_limits z ≡ true
is-within z s t h e =
    (λ i. nat_le (h.scalars_are i) 65536 && nat_le (h.depth_is i) 100) ∙ within (nat_le (scalar_count s) 65536 && nat_le (depth s) 100) s t e

make_composite_type-right : (p : KnownDeclarations) (word ordinal : ℕ) (parts : CompositeParts) (size : TypeSize) → is_within_limits size ≡ true → (make_composite_type p word ordinal parts size).faults ≡ []
make_composite_type-right p word ordinal parts size e = ap (λ b. (if b then without_fault (append_composite p ordinal parts size) else report_on_too_large_type p word).faults) e

no-type : {A : Type 0} (o : Option (meant.Object Shape Signature)) (signature : Signature) (s : Shape) → signature_of o ≡ Some signature → type_of_type_object o ≡ Some s → A
no-type None signature s e h = absurd (some-none s (sym h))
no-type (Some (meant.a_type t)) signature s e h = absurd (some-none signature (sym e))
no-type (Some (meant.a_constant v)) signature s e h = absurd (some-none s (sym h))
no-type (Some (meant.a_variable t)) signature s e h = absurd (some-none s (sym h))
no-type (Some (meant.a_procedure p)) signature s e h = absurd (some-none s (sym h))
no-type (Some (meant.a_standard_procedure p)) signature s e h = absurd (some-none s (sym h))

-- No fault is reported for a name that denotes a type.
meant-right : (p : KnownDeclarations) (before : List Shape) (x : ℕ) (m : Option (Meaning TypeId)) (o : Option (meant.Object Shape Signature)) → IsKnownAndAgreesWithObject (shape_of_type_in before) m o → (s : Shape) → type_of_type_object o ≡ Some s → (type_from_meaning (facts_from_declarations p false) x m).faults ≡ []
meant-right p before x None o a s h = refl
meant-right p before x (Some (a_type t)) o a s h = refl
meant-right p before x (Some (a_constant c)) o (v, reported, holds, scalar) s h = absurd (some-none s (sym h ∙ ap type_of_type_object holds))
meant-right p before x (Some (a_variable t)) o (u, reported, holds) s h = absurd (some-none s (sym h ∙ ap type_of_type_object holds))
meant-right p before x (Some (a_procedure fs)) o (signature, holds, formals) s h = no-type o signature s holds h

-- No fault is reported for an array with a known length that isn't too large.
array-right : (ordinal : ℕ) (o : Operand TypeId) (reported : Option ℕ) (count : ℕ) (u : so_far.TypeWithFollowingDeclarations) → reported ≡ Some count → is_within_limits (array_size count (size_of_known_type u.following.made u.of)) ≡ true → (make_array_type ordinal o reported u).faults ≡ []
array-right ordinal o reported count u e h = ap (λ c. (make_array_type ordinal o c u).faults) e ∙ make_composite_type-right u.following _ ordinal (of_elements count u.of) (array_size count (size_of_known_type u.following.made u.of)) h

module _ (w : Numbering) (fit : PartsFit) (fine : PartsRight) (n : ℕ) (scope : Scope Name) (env : TypeEnvironment Name) where
  abbrev here : TypeMeanings Name
  here = meanings naming_by_spelling env

  mutual
    unfolding report_on_written_type denoted_type

    pub type_right : (around k : ℕ) (t : Tree ℕ written_type) (p : KnownDeclarations) (before : List Shape) → length before + around ≡ k → IsKnownAt w p before n scope env → AreSeen w scope t → (s : Shape) → denoted_type (meanings naming_by_spelling env) k (tree_with_names w.source t) ≡ Some s → (report_on_written_type around p t).faults ≡ []
    type_right around k (named_type x) p before at st seen s h =
        none-of-both (type_from_meaning (facts_from_declarations p false) x ((facts_from_declarations p false).object_for x)).faults []
        (meant-right p before x ((facts_from_declarations p false).object_for x) ((meanings naming_by_spelling env).object_for (token_text_at w.source x)) (seen_holds w p false before n scope env st x seen.0) s h) refl
    type_right around k (array_type e u) p before at st seen s h =
        let parts = each_part (IsSeen w scope) (occurrences e) (occurrences u) seen in
        let given : Option Shape = denoted_type here (suc k) (tree_with_names w.source u) in
        let value : Option Value = constant_expression_value here (tree_with_names w.source e) in
        let (v, hv, later) = and-then (λ v. option_and_then (λ c. of_limits k c given) (array_length_from_value v)) value s h in
        let (c, hc, last) = and-then (λ c. of_limits k c given) (array_length_from_value v) s later in
        let o : Operand TypeId = (report_on_expression (facts_from_declarations p true) e).known in
        let l : ResultWithFaults (Option ℕ) = length_from_operand (facts_from_declarations p false) o in
        let el : ResultWithFaults so_far.TypeWithFollowingDeclarations = report_on_written_type (suc around) p u in
        let agrees = agrees_where_seen w p true before n scope env st fit e parts.0 in
        let there : is_some (option_and_then array_length_from_value (constant_expression_value here (mapped_tree (token_text_at w.source) (token_value_at p.source) e))) ≡ true =
        some-there (option_and_then array_length_from_value (constant_expression_value here (mapped_tree (token_text_at w.source) (token_value_at p.source) e))) c
        (ap (λ z. option_and_then array_length_from_value (constant_expression_value here (mapped_tree (token_text_at w.source) (token_value_at z) e))) st.source ∙ (ap (option_and_then array_length_from_value) hv ∙ hc)) in
        let none = fine.lengths p before (token_text_at w.source) here e agrees there in
        let a = none-reported (report_on_expression (facts_from_declarations p true) e).faults l.faults none in
        let long = fit.lengths p before (token_text_at w.source) here e agrees none in
        let known : value ≡ Some long.value = ap (λ z. constant_expression_value here (mapped_tree (token_text_at w.source) (token_value_at z) e)) (sym st.source) ∙ long.given in
        let limited : of_limits k long.length given ≡ Some s = sym (array_given k value long.value long.length given known long.counted) ∙ h in
        let (r, hr, limits) = and-then (λ s. type_if_within_limits (array_shape k long.length s)) given s limited in
        let inner = type_right (suc around) (suc k) u p before (omega (arith, at)) st parts.1 r hr in
        let d = type_denotes w fit n scope env (suc around) (suc k) u p before (omega (arith, at)) st parts.1 inner in
        let size = array_sized (size_of_known_type el.known.following.made el.known.of) k long.length d.shape (size_agrees el.known.following.made d.after el.known.of d.shape d.later.table d.known) in
        let small = is-within (array_size long.length (size_of_known_type el.known.following.made el.known.of)) (array_shape k long.length d.shape) s size (given-again (λ s. type_if_within_limits (array_shape k long.length s)) given d.shape (Some s) d.given_is limited) in
        none-of-both (report_on_expression (facts_from_declarations p true) e).faults _ a.0
        (none-of-both l.faults _ a.1 (none-of-both el.faults (make_array_type (next_type_ordinal around p) o l.known el.known).faults inner (array-right (next_type_ordinal around p) o l.known long.length el.known long.known small)))
    type_right around k (record_type g rest) p before at st seen s h =
        let parts = each_part (IsSeen w scope) (occurrences g) (occurrences rest) seen in
        let c : ℕ = group_constructor_count (tree_with_names w.source g) in
        let d : ℕ = later_groups_constructor_count (tree_with_names w.source rest) in
        let own : FieldShapes → Option FieldShapes = λ ys. denoted_group_fields here (suc k) ys (tree_with_names w.source g) in
        let others : Option FieldShapes = denoted_further_fields here (suc k + c) (tree_with_names w.source rest) in
        let (ys, hy, later) = and-then (λ ys. option_and_then (λ fs. type_if_within_limits (record_shape k fs)) (own ys)) others s h in
        let (fs, hf, last) = and-then (λ fs. type_if_within_limits (record_shape k fs)) (own ys) s later in
        let word : ℕ = token_before_group g (record_keyword_token rest) in
        let first : ResultWithFaults KnownFields = report_on_field_group (suc around) (no_known_fields p) g in
        let all : ResultWithFaults KnownFields = report_on_further_field_groups (suc around) first.known rest in
        let none = group_right (suc around) (suc k) g (no_known_fields p) before (omega (arith, at)) st parts.0 ys fs hf in
        let one = group_gathers w fit n scope env (suc around) (suc k) g (no_known_fields p) before no_field_shape (omega (arith, at)) st parts.0 (nothing_agrees before p) none in
        let following = holds_later w n n n p first.known.following before one.gathers.after scope env (le_refl n) (le_refl n) st one.gathers.later in
        let rests = groups_right (suc around) (suc k + c) rest first.known one.gathers.after one.own (omega (arith, at, one.gathers.apart.counted)) following parts.1 one.gathers.agrees ys hy in
        let other = groups_gather w fit n scope env (suc around) (suc k + c) rest first.known one.gathers.after one.own (omega (arith, at, one.gathers.apart.counted)) following parts.1 one.gathers.agrees rests in
        let whole = both_gather n p before (suc k) (suc k + c) (suc k + c + d) no_field_shape own first.known all.known others one other in
        let limited : type_if_within_limits (record_shape k whole.own) ≡ Some s = given-again (λ fs. type_if_within_limits (record_shape k fs)) (option_and_then own others) whole.own (Some s) whole.given_is (grouped others own (λ fs. type_if_within_limits (record_shape k fs)) ∙ h) in
        let small = is-within (record_size all.known.size) (record_shape k whole.own) s (record_sized whole.gathers.after all.known k whole.own whole.gathers.agrees) limited in
        none-of-both first.faults _ none (none-of-both all.faults (make_record_type word (next_type_ordinal around p) all.known).faults rests (make_composite_type-right all.known.following word (next_type_ordinal around p) (so_far.of_fields all.known.fields) (record_size all.known.size) small))

    group_right : (around k : ℕ) (t : Tree ℕ fields) (g : KnownFields) (before : List Shape) → length before + around ≡ k → IsKnownAt w g.following before n scope env → AreSeen w scope t → (later fs : FieldShapes) → denoted_group_fields (meanings naming_by_spelling env) k later (tree_with_names w.source t) ≡ Some fs → (report_on_field_group around g t).faults ≡ []
    group_right around k no_fields g before at st seen later fs h = refl
    group_right around k (some_fields ns t) g before at st seen later fs h =
        let (s, hs, last) = and-then (λ s. Some (prepend_fields (map (λ x. x) (names_in_list (tree_with_names w.source ns))) s later)) (denoted_type here k (tree_with_names w.source t)) fs h in
        none-of-both (report_on_written_type around g.following t).faults [] (type_right around k t g.following before at st seen s hs) refl

    groups_right : (around k : ℕ) (t : Tree ℕ (items fields_after_semicolon)) (g : KnownFields) (before : List Shape) (first : FieldShapes) → length before + around ≡ k → IsKnownAt w g.following before n scope env → AreSeen w scope t → GatheredAgrees before g first
        → (fs : FieldShapes) → denoted_further_fields (meanings naming_by_spelling env) k (tree_with_names w.source t) ≡ Some fs → (report_on_further_field_groups around g t).faults ≡ []
    groups_right around k end g before first at st seen agrees fs h = refl
    groups_right around k (more (semicolon_then_fields f) rest) g before first at st seen agrees fs h =
        let parts = each_part (IsSeen w scope) (occurrences f) (occurrences rest) seen in
        let c : ℕ = group_constructor_count (tree_with_names w.source f) in
        let next : ResultWithFaults KnownFields = report_on_field_group around g f in
        let (ys, hy, hf) = and-then (λ ys. denoted_group_fields here k ys (tree_with_names w.source f)) (denoted_further_fields here (k + c) (tree_with_names w.source rest)) fs h in
        let none = group_right around k f g before at st parts.0 ys fs hf in
        let one = group_gathers w fit n scope env around k f g before first at st parts.0 agrees none in
        let following = holds_later w n n n g.following next.known.following before one.gathers.after scope env (le_refl n) (le_refl n) st one.gathers.later in
        none-of-both next.faults (report_on_further_field_groups around next.known rest).faults none (groups_right around (k + c) rest next.known one.gathers.after (followed first one.own) (omega (arith, at, one.gathers.apart.counted)) following parts.1 one.gathers.agrees ys hy)
