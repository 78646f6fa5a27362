-- Proves that two tables of ordinals give a module the same faults if they have the same ordinals
-- at the module's tokens.
use Rattle.std.proofs.Common.{◌≡◌, ℕ, suc, ◌+◌, Bool, true, false, cond, Option, Some, None, List, [], ◌∷◌, ◌++◌, map, length, refl, ap, subst}
use Rattle.std.specs.Prelude.{option_and_then, slice_index_or, slice_set}
use Rattle.ob0_language_values.specs.Values.{Value}
use Rattle.ob0_language_names.specs.BlockParts.{formal_parameter_sections, names_in_list, section_constants, section_types, section_variables}
use Rattle.ob0_scope_table.specs.Resolution.{ordinal_in}
use Rattle.ob0_scope_table.specs.declared.faults.FaultAtTokens.{FaultAtTokens}
use Rattle.ob0_types_table.specs.declared.types.TypeId.{TypeId}
use Rattle.ob0_tree.specs.TokenIndexLeaves.{token_text_at}
use Rattle.ob0_tree.specs.Tree.{Tree, array_type, begins, block, body, constant, declares, declares_constant, declares_procedure, declares_type, declares_variable, end, fields, fields_after_semicolon, section_after_semicolon, forms_block, item, items, maybe, more, named_type, names, no_fields, none, one, procedure, record_type, some_fields, semicolon_then_fields, semicolon_then_section, type_definition, value_section, variable, variable_section, written_type}
use Rattle.ob0_types_check.specs.DeclarationFaults.{KnownHeading, WalkProgress, body_faults, includes_every_body, report_body_if_wanted, report_on_block, report_on_constant_declaration, report_on_constant_declarations, report_on_parameters_of_one_type, report_on_procedure, report_on_procedures, report_on_parameter_section, report_on_parameter_sections, report_on_type_declaration, report_on_type_declarations, report_on_variable_group, report_on_variable_declarations, declarations_after_heading, walk_with_declarations, heading_with_parameters}
use Rattle.ob0_types_check.specs.ExpressionFaults.{report_on_expression}
use Rattle.ob0_types_check.specs.TypesAndMeanings.{Facts, Meaning, Operand, ResultWithFaults, a_constant, a_procedure, a_type, a_variable}
use Rattle.ob0_types_check.specs.OperandFaults.{without_fault, previous_token_index}
use Rattle.ob0_types_check.specs.KnownDeclarations.{CompositeParts, TypeSize, KnownDeclarations, TypeWithFollowingDeclarations, define_name_at_token, define_listed_names, facts_from_declarations, is_within_limits, append_composite, make_composite_type, of_elements, of_fields, size_of_known_type, report_on_too_large_type, type_id_of_parts, known_types_representation, declarations_with_meaning}
use Rattle.ob0_types_check.specs.StatementFaults.{sequence_faults}
use Rattle.ob0_types_check.specs.TypeFaults.{length_from_operand, report_on_constant_expression, check_type_name}
use Rattle.ob0_types_check.specs.WrittenTypeFaults.{KnownFields, make_array_type, array_size, combined_size, append_field_group, no_known_fields, next_type_ordinal, make_record_type, record_size, record_keyword_token, report_on_field_group, report_on_further_field_groups, report_on_written_type, append_known_field, append_known_fields, token_before_group}

-- ---- states that differ only in tables with the same ordinals

abbrev pub Agree : List (Option ℕ) → List (Option ℕ) → Type 0
Agree a b = (token : ℕ) → ordinal_in a token ≡ ordinal_in b token

pub record Like (p q : KnownDeclarations) : Type 0 where
  pub source : p.source ≡ q.source
  pub ordinals : Agree p.ordinals q.ordinals
  pub declared : p.declared ≡ q.declared
  pub made : p.made ≡ q.made

record TypedLike (t u : TypeWithFollowingDeclarations) : Type 0 where
  pub of : t.of ≡ u.of
  pub following : Like t.following u.following

record GatheredLike (g h : KnownFields) : Type 0 where
  pub fields : g.fields ≡ h.fields
  pub size : g.size ≡ h.size
  pub following : Like g.following h.following

record HeadingLike (g h : KnownHeading) : Type 0 where
  pub formals : g.formals ≡ h.formals
  pub following : Like g.following h.following

-- states that the known facts correspond, and that the faults are the same
pub record Both {A : Type 0} (R : A → A → Type 0) (x y : ResultWithFaults A) : Type 0 where
  pub known : R x.known y.known
  pub faults : x.faults ≡ y.faults

right_both : {A : Type 0} (R : A → A → Type 0) (x y : A) → R x y → Both R (without_fault x) (without_fault y)
right_both R x y h = record { known = h; faults = refl }

-- Two reports after equal faults correspond if the reports do.
after : {B : Type 0} {S : B → B → Type 0} {before following : List FaultAtTokens} {u v : ResultWithFaults B} → before ≡ following → Both S u v
    → Both S (record { known = u.known; faults = before ++ u.faults }) (record { known = v.known; faults = following ++ v.faults })
after first next = record { known = next.known; faults = λ i. first i ++ next.faults i }

-- ---- known facts

same_facts : (p q : KnownDeclarations) (only : Bool) → Like p q → facts_from_declarations p only ≡ facts_from_declarations q only
same_facts p q only like = λ i. record {
  source = like.source i;
  types = known_types_representation (like.made i);
  object_for = λ token. option_and_then (λ k. slice_index_or (like.declared i) k None) (like.ordinals token i);
  only_constants = only;
}

declared_like : (p q : KnownDeclarations) (m : Meaning TypeId) (o : Option ℕ) → Like p q → Like (declarations_with_meaning p m o) (declarations_with_meaning q m o)
declared_like p q m None like = like
declared_like p q m (Some k) like = record { source = like.source; ordinals = like.ordinals; declared = ap (λ d. slice_set d k (Some m)) like.declared; made = like.made }

define_like : (p q : KnownDeclarations) (m : Meaning TypeId) (token : ℕ) → Like p q → Like (define_name_at_token p m token) (define_name_at_token q m token)
define_like p q m token like =
    subst (λ o. Like (define_name_at_token p m token) (declarations_with_meaning q m o)) (like.ordinals token) (declared_like p q m (ordinal_in p.ordinals token) like)

define_all_like : (p q : KnownDeclarations) (m : Meaning TypeId) (tokens : List ℕ) → Like p q → Like (define_listed_names p m tokens) (define_listed_names q m tokens)
define_all_like p q m [] like = like
define_all_like p q m (x ∷ xs) like = define_all_like (define_name_at_token p m x) (define_name_at_token q m x) m xs (define_like p q m x like)

-- ---- types

made_like : (p q : KnownDeclarations) (k l : ℕ) (parts : CompositeParts) (size : TypeSize) → k ≡ l → Like p q → TypedLike (append_composite p k parts size) (append_composite q l parts size)
made_like p q k l parts size same like = record {
  of = ap (λ ms. type_id_of_parts parts (length ms)) like.made;
  following = record { source = like.source; ordinals = like.ordinals; declared = like.declared; made = λ i. like.made i ++ record { ordinal = same i; parts = parts; size = size } ∷ [] };
}

make_like : (p q : KnownDeclarations) (word k l : ℕ) (parts : CompositeParts) (size : TypeSize) → k ≡ l → Like p q → Both TypedLike (make_composite_type p word k parts size) (make_composite_type q word l parts size)
make_like p q word k l parts size same like = go (is_within_limits size)
  where
    go : (b : Bool) → Both TypedLike (cond b (without_fault (append_composite p k parts size)) (report_on_too_large_type p word)) (cond b (without_fault (append_composite q l parts size)) (report_on_too_large_type q word))
    go true = right_both TypedLike (append_composite p k parts size) (append_composite q l parts size) (made_like p q k l parts size same like)
    go false = record { known = record { of = refl; following = like }; faults = refl }

array_like : (k l : ℕ) (o : Operand TypeId) (n : Option ℕ) (t u : TypeWithFollowingDeclarations) → k ≡ l → TypedLike t u → Both TypedLike (make_array_type k o n t) (make_array_type l o n u)
array_like k l o None t u same like = right_both TypedLike _ _ (record { of = refl; following = like.following })
array_like k l o (Some n) t u same like =
    let parts : of_elements n t.of ≡ of_elements n u.of = ap (of_elements n) like.of in
    let size : array_size n (size_of_known_type t.following.made t.of) ≡ array_size n (size_of_known_type u.following.made u.of) = λ i. array_size n (size_of_known_type (like.following.made i) (like.of i)) in
    subst (λ x. Both TypedLike (make_array_type k o (Some n) t) (make_composite_type u.following (previous_token_index o.first) l x (array_size n (size_of_known_type u.following.made u.of)))) parts
    (subst (λ z. Both TypedLike (make_array_type k o (Some n) t) (make_composite_type u.following (previous_token_index o.first) l (of_elements n t.of) z)) size
    (make_like t.following u.following (previous_token_index o.first) k l (of_elements n t.of) (array_size n (size_of_known_type t.following.made t.of)) same like.following))

arrays_like : (k l : ℕ) (o p : Operand TypeId) (n m : Option ℕ) (t u : TypeWithFollowingDeclarations) → k ≡ l → o ≡ p → n ≡ m → TypedLike t u → Both TypedLike (make_array_type k o n t) (make_array_type l p m u)
arrays_like k l o p n m t u here same sized like =
    subst (λ x. Both TypedLike (make_array_type k o n t) (make_array_type l x m u)) same (subst (λ x. Both TypedLike (make_array_type k o n t) (make_array_type l o x u)) sized (array_like k l o n t u here like))

name_like : (t u : TypeId) (g h : KnownFields) (token : ℕ) → t ≡ u → GatheredLike g h → GatheredLike (append_known_field t g token) (append_known_field u h token)
name_like t u g h token same like = record {
  fields = λ i. like.fields i ++ record { name = token_text_at (like.following.source i) token; of = same i } ∷ [];
  size = λ i. combined_size (like.size i) (size_of_known_type (like.following.made i) (same i));
  following = like.following;
}

names_like : (t u : TypeId) (g h : KnownFields) (tokens : List ℕ) → t ≡ u → GatheredLike g h → GatheredLike (append_known_fields t g tokens) (append_known_fields u h tokens)
names_like t u g h [] same like = like
names_like t u g h (x ∷ xs) same like = names_like t u (append_known_field t g x) (append_known_field u h x) xs same (name_like t u g h x same like)

gathered_like : (g h : KnownFields) (tokens : List ℕ) (t u : TypeWithFollowingDeclarations) → GatheredLike g h → TypedLike t u → GatheredLike (append_field_group g tokens t) (append_field_group h tokens u)
gathered_like g h tokens t u like typed = names_like t.of u.of _ _ tokens typed.of (record { fields = like.fields; size = like.size; following = typed.following })

record_like : (word k l : ℕ) (g h : KnownFields) → k ≡ l → GatheredLike g h → Both TypedLike (make_record_type word k g) (make_record_type word l h)
record_like word k l g h same like =
    subst (λ x. Both TypedLike (make_record_type word k g) (make_composite_type h.following word l x (record_size h.size))) (ap of_fields like.fields)
    (subst (λ z. Both TypedLike (make_record_type word k g) (make_composite_type h.following word l (of_fields g.fields) (record_size z))) like.size
    (make_like g.following h.following word k l (of_fields g.fields) (record_size g.size) same like.following))

here_like : (around : ℕ) (p q : KnownDeclarations) → Like p q → next_type_ordinal around p ≡ next_type_ordinal around q
here_like around p q like = λ i. length (like.made i) + around

mutual
  unfolding report_on_written_type

  type_like : (around : ℕ) (p q : KnownDeclarations) (t : Tree ℕ written_type) → Like p q → Both TypedLike (report_on_written_type around p t) (report_on_written_type around q t)
  type_like around p q (named_type x) like =
      let same : check_type_name (facts_from_declarations p false) x ≡ check_type_name (facts_from_declarations q false) x = ap (λ (f : Facts TypeId). check_type_name f x) (same_facts p q false like) in
      after (ap (λ (r : ResultWithFaults TypeId). r.faults) same) (right_both TypedLike _ _ (record { of = ap (λ (r : ResultWithFaults TypeId). r.known) same; following = like }))
  type_like around p q (array_type e u) like =
      let same : report_on_expression (facts_from_declarations p true) e ≡ report_on_expression (facts_from_declarations q true) e = ap (λ (f : Facts TypeId). report_on_expression f e) (same_facts p q true like) in
      let operand : (report_on_expression (facts_from_declarations p true) e).known ≡ (report_on_expression (facts_from_declarations q true) e).known = ap (λ (r : ResultWithFaults (Operand TypeId)). r.known) same in
      let sized : length_from_operand (facts_from_declarations p false) (report_on_expression (facts_from_declarations p true) e).known ≡ length_from_operand (facts_from_declarations q false) (report_on_expression (facts_from_declarations q true) e).known =
      λ i. length_from_operand (same_facts p q false like i) (operand i) in
      let element : Both TypedLike (report_on_written_type (suc around) p u) (report_on_written_type (suc around) q u) = type_like (suc around) p q u like in
      after (ap (λ (r : ResultWithFaults (Operand TypeId)). r.faults) same)
      (after (ap (λ (r : ResultWithFaults (Option ℕ)). r.faults) sized)
      (after element.faults (arrays_like (next_type_ordinal around p) (next_type_ordinal around q) _ _ _ _ _ _ (here_like around p q like) operand (ap (λ (r : ResultWithFaults (Option ℕ)). r.known) sized) element.known)))
  type_like around p q (record_type g rest) like =
      let first : Both GatheredLike (report_on_field_group (suc around) (no_known_fields p) g) (report_on_field_group (suc around) (no_known_fields q) g) =
      fields_like (suc around) (no_known_fields p) (no_known_fields q) g (record { fields = refl; size = refl; following = like }) in
      let all : Both GatheredLike (report_on_further_field_groups (suc around) (report_on_field_group (suc around) (no_known_fields p) g).known rest) (report_on_further_field_groups (suc around) (report_on_field_group (suc around) (no_known_fields q) g).known rest) =
      groups_like (suc around) (report_on_field_group (suc around) (no_known_fields p) g).known (report_on_field_group (suc around) (no_known_fields q) g).known rest first.known in
      after first.faults (after all.faults (record_like (token_before_group g (record_keyword_token rest)) (next_type_ordinal around p) (next_type_ordinal around q) _ _ (here_like around p q like) all.known))

  fields_like : (around : ℕ) (g h : KnownFields) (t : Tree ℕ fields) → GatheredLike g h → Both GatheredLike (report_on_field_group around g t) (report_on_field_group around h t)
  fields_like around g h no_fields like = right_both GatheredLike g h like
  fields_like around g h (some_fields ns t) like =
      let typed : Both TypedLike (report_on_written_type around g.following t) (report_on_written_type around h.following t) = type_like around g.following h.following t like.following in
      after typed.faults (right_both GatheredLike _ _ (gathered_like g h (names_in_list ns) _ _ like typed.known))

  groups_like : (around : ℕ) (g h : KnownFields) (t : Tree ℕ (items fields_after_semicolon)) → GatheredLike g h → Both GatheredLike (report_on_further_field_groups around g t) (report_on_further_field_groups around h t)
  groups_like around g h end like = right_both GatheredLike g h like
  groups_like around g h (more (semicolon_then_fields t) rest) like =
      let next : Both GatheredLike (report_on_field_group around g t) (report_on_field_group around h t) = fields_like around g h t like in
      after next.faults (groups_like around (report_on_field_group around g t).known (report_on_field_group around h t).known rest next.known)

-- ---- declarations

constant_defined : (p q : KnownDeclarations) (x : ℕ) (v w : Option Value) → v ≡ w → Like p q → Like (define_name_at_token p (a_constant v) x) (define_name_at_token q (a_constant w) x)
constant_defined p q x v w same like = subst (λ z. Like (define_name_at_token p (a_constant v) x) (define_name_at_token q (a_constant z) x)) same (define_like p q (a_constant v) x like)

type_defined : (x : ℕ) (t u : TypeWithFollowingDeclarations) → TypedLike t u → Like (define_name_at_token t.following (a_type t.of) x) (define_name_at_token u.following (a_type u.of) x)
type_defined x t u typed = subst (λ z. Like (define_name_at_token t.following (a_type t.of) x) (define_name_at_token u.following (a_type z) x)) typed.of (define_like t.following u.following (a_type t.of) x typed.following)

variables_defined : (xs : List ℕ) (t u : TypeWithFollowingDeclarations) → TypedLike t u → Like (define_listed_names t.following (a_variable t.of) xs) (define_listed_names u.following (a_variable u.of) xs)
variables_defined xs t u typed =
    subst (λ z. Like (define_listed_names t.following (a_variable t.of) xs) (define_listed_names u.following (a_variable z) xs)) typed.of (define_all_like t.following u.following (a_variable t.of) xs typed.following)

constant_like : (p q : KnownDeclarations) (d : Tree ℕ (item constant)) → Like p q → Both Like (report_on_constant_declaration p d) (report_on_constant_declaration q d)
unfolding report_on_constant_declaration
constant_like p q (declares_constant x e) like =
    let same : report_on_constant_expression (facts_from_declarations p true) e ≡ report_on_constant_expression (facts_from_declarations q true) e = ap (λ (f : Facts TypeId). report_on_constant_expression f e) (same_facts p q true like) in
    after (ap (λ (r : ResultWithFaults (Option Value)). r.faults) same) (right_both Like _ _ (constant_defined p q x _ _ (ap (λ (r : ResultWithFaults (Option Value)). r.known) same) like))

constants_like : (p q : KnownDeclarations) (ds : Tree ℕ (items constant)) → Like p q → Both Like (report_on_constant_declarations p ds) (report_on_constant_declarations q ds)
unfolding report_on_constant_declarations
constants_like p q end like = right_both Like p q like
constants_like p q (more d rest) like =
    let next : Both Like (report_on_constant_declaration p d) (report_on_constant_declaration q d) = constant_like p q d like in
    after next.faults (constants_like (report_on_constant_declaration p d).known (report_on_constant_declaration q d).known rest next.known)

type_declared_like : (p q : KnownDeclarations) (d : Tree ℕ (item type_definition)) → Like p q → Both Like (report_on_type_declaration p d) (report_on_type_declaration q d)
unfolding report_on_type_declaration
type_declared_like p q (declares_type x t) like =
    let typed : Both TypedLike (report_on_written_type 0 p t) (report_on_written_type 0 q t) = type_like 0 p q t like in
    after typed.faults (right_both Like _ _ (type_defined x _ _ typed.known))

types_like : (p q : KnownDeclarations) (ds : Tree ℕ (items type_definition)) → Like p q → Both Like (report_on_type_declarations p ds) (report_on_type_declarations q ds)
unfolding report_on_type_declarations
types_like p q end like = right_both Like p q like
types_like p q (more d rest) like =
    let next : Both Like (report_on_type_declaration p d) (report_on_type_declaration q d) = type_declared_like p q d like in
    after next.faults (types_like (report_on_type_declaration p d).known (report_on_type_declaration q d).known rest next.known)

variables_declared_like : (p q : KnownDeclarations) (d : Tree ℕ (item variable)) → Like p q → Both Like (report_on_variable_group p d) (report_on_variable_group q d)
unfolding report_on_variable_group
variables_declared_like p q (declares_variable ns t) like =
    let typed : Both TypedLike (report_on_written_type 0 p t) (report_on_written_type 0 q t) = type_like 0 p q t like in
    after typed.faults (right_both Like _ _ (variables_defined (names_in_list ns) _ _ typed.known))

variables_like : (p q : KnownDeclarations) (ds : Tree ℕ (items variable)) → Like p q → Both Like (report_on_variable_declarations p ds) (report_on_variable_declarations q ds)
unfolding report_on_variable_declarations
variables_like p q end like = right_both Like p q like
variables_like p q (more d rest) like =
    let next : Both Like (report_on_variable_group p d) (report_on_variable_group q d) = variables_declared_like p q d like in
    after next.faults (variables_like (report_on_variable_group p d).known (report_on_variable_group q d).known rest next.known)

parameters_with : (g h : KnownHeading) (by_place : Bool) (xs : List ℕ) (t u : TypeWithFollowingDeclarations) → HeadingLike g h → TypedLike t u → HeadingLike (heading_with_parameters g by_place xs t) (heading_with_parameters h by_place xs u)
parameters_with g h by_place xs t u like typed = record {
  formals = λ i. like.formals i ++ map (λ x. record { by_place = by_place; of = typed.of i }) xs;
  following = variables_defined xs t u typed;
}

parameters_like : (g h : KnownHeading) (by_place : Bool) (ns : Tree ℕ names) (t : Tree ℕ written_type) → HeadingLike g h → Both HeadingLike (report_on_parameters_of_one_type g by_place ns t) (report_on_parameters_of_one_type h by_place ns t)
unfolding report_on_parameters_of_one_type
parameters_like g h by_place ns t like =
    let typed : Both TypedLike (report_on_written_type 0 g.following t) (report_on_written_type 0 h.following t) = type_like 0 g.following h.following t like.following in
    after typed.faults (right_both HeadingLike _ _ (parameters_with g h by_place (names_in_list ns) _ _ like typed.known))

section_like : (g h : KnownHeading) (s : Tree ℕ (item section_after_semicolon)) → HeadingLike g h → Both HeadingLike (report_on_parameter_section g s) (report_on_parameter_section h s)
unfolding report_on_parameter_section
section_like g h (semicolon_then_section (value_section ns t)) like = parameters_like g h false ns t like
section_like g h (semicolon_then_section (variable_section ns t)) like = parameters_like g h true ns t like

sections_like : (g h : KnownHeading) (ss : Tree ℕ (items section_after_semicolon)) → HeadingLike g h → Both HeadingLike (report_on_parameter_sections g ss) (report_on_parameter_sections h ss)
unfolding report_on_parameter_sections
sections_like g h end like = right_both HeadingLike g h like
sections_like g h (more s rest) like =
    let next : Both HeadingLike (report_on_parameter_section g s) (report_on_parameter_section h s) = section_like g h s like in
    after next.faults (sections_like (report_on_parameter_section g s).known (report_on_parameter_section h s).known rest next.known)

heading_like : (x : ℕ) (g h : KnownHeading) → HeadingLike g h → Like (declarations_after_heading x g) (declarations_after_heading x h)
heading_like x g h like = subst (λ fs. Like (declarations_after_heading x g) (define_name_at_token h.following (a_procedure fs) x)) like.formals (define_like g.following h.following (a_procedure g.formals) x like.following)

abbrev pub LikeSoFar : WalkProgress → WalkProgress → Type 0
LikeSoFar u v = Like u.so_far v.so_far

body_like : (own : ℕ) (u v : WalkProgress) (b : Tree ℕ (maybe body)) → LikeSoFar u v → Both LikeSoFar (report_body_if_wanted true own u b) (report_body_if_wanted true own v b)
unfolding body_faults
body_like own u v none like = record { known = like; faults = refl }
body_like own u v (one (begins statements)) like = record { known = like; faults = ap (λ (f : Facts TypeId). sequence_faults f statements) (same_facts u.so_far v.so_far false like) }

mutual
  unfolding report_on_block

  pub block_like : (own : ℕ) (u v : WalkProgress) (b : Tree ℕ block) → LikeSoFar u v → Both LikeSoFar (report_on_block includes_every_body own u b) (report_on_block includes_every_body own v b)
  block_like own u v (forms_block (declares cs ts vs ps) statements) like =
      let constants : Both Like (report_on_constant_declarations u.so_far (section_constants cs)) (report_on_constant_declarations v.so_far (section_constants cs)) = constants_like u.so_far v.so_far (section_constants cs) like in
      let types = types_like _ _ (section_types ts) constants.known in
      let variables = variables_like _ _ (section_variables vs) types.known in
      let procedures = procedures_like (walk_with_declarations u _) (walk_with_declarations v _) ps variables.known in
      after constants.faults (after types.faults (after variables.faults (after procedures.faults (body_like own _ _ statements procedures.known))))

  procedures_like : (u v : WalkProgress) (ds : Tree ℕ (items procedure)) → LikeSoFar u v → Both LikeSoFar (report_on_procedures includes_every_body u ds) (report_on_procedures includes_every_body v ds)
  procedures_like u v end like = right_both LikeSoFar u v like
  procedures_like u v (more d rest) like =
      let next : Both LikeSoFar (report_on_procedure includes_every_body u d) (report_on_procedure includes_every_body v d) = procedure_like u v d like in
      after next.faults (procedures_like (report_on_procedure includes_every_body u d).known (report_on_procedure includes_every_body v d).known rest next.known)

  procedure_like : (u v : WalkProgress) (d : Tree ℕ (item procedure)) → LikeSoFar u v → Both LikeSoFar (report_on_procedure includes_every_body u d) (report_on_procedure includes_every_body v d)
  procedure_like u v (declares_procedure x fs b closing) like =
      let sections = sections_like (record { formals = []; following = u.so_far }) (record { formals = []; following = v.so_far }) (formal_parameter_sections fs) (record { formals = refl; following = like }) in
      after sections.faults (block_like closing (walk_with_declarations u _) (walk_with_declarations v _) b (heading_like x _ _ sections.known))
