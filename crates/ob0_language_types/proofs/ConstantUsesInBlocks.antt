-- In a well-typed block, each use of a constant is a whole factor.
use Rattle.std.proofs.Common.{Bool, List, None, Option, Some, ap, arith, eq-eqb, if◌then◌else◌, le_of_lt, le_refl, length, map, ne_eqb, option_and_then, option_map, subst, suc, sym, true, ℕ, ◌&&◌, ◌++◌, ◌+◌, ◌<◌, ◌==◌, ◌∙◌, ◌∷◌, ◌≡◌, ◌≤◌}
use Rattle.ob0_tree.specs.Tree.{Tree, begins, block, body, constant, declares, declares_constant, declares_procedure, declares_type, declares_variable, end, section_after_semicolon, forms_block, item, items, maybe, more, none, occurrences, one, procedure, semicolon_then_section, type_definition, variable, written_type}
use Rattle.ob0_language_names.specs.NonFactorNames.{non_factor_occurrences}
use Rattle.ob0_language_names.specs.Names.{Name, naming_by_spelling}
use Rattle.ob0_language_names.specs.BlockParts.{block_constants, block_types, block_variables, constant_names, formal_parameter_names, formal_parameter_sections, declared_type_names, names_in_list, section_constants, parameter_section_names, parameter_section_type, section_types, section_variables, variable_names}
use Rattle.ob0_language_names.specs.Scopes.{Scope, ordinal_after_block, ordinal_after_names, ordinal_after_procedure, ordinal_after_procedure_list, declare_names, declare_procedure_names, first_procedure_ordinal, first_type_ordinal, first_variable_ordinal, ordinal_in_scope, scope_before_procedures, scope_before_types, scope_before_variables}
use Rattle.ob0_language_names.proofs.EditedTrees.{Edit, edited_block, edited_constants, leaf}
use Rattle.ob0_language_names.proofs.InliningLeavesNoUse.{NoneOf}
use Rattle.ob0_language_names.proofs.Ordinals.{ordinal_after_names-append, le-ordinal_after_names, le-ordinal_after_procedure}
use Rattle.ob0_language_names.proofs.Places.{EachBlock, EachConstant, EachProcedure, EachSection, EachType, EachVariable, Placed}
use Rattle.ob0_language_values.specs.Values.{Shape, Value, fits_in_32_bits}
use Rattle.ob0_language_types.specs.ConstantValues.{non_constant_placeholder, constant_value_in_section, constant_value_in_block, constant_value_in_procedure, constant_value_in_procedure_list}
use Rattle.ob0_language_types.specs.Declarations.{constructor_count_before_variables, constructor_count_before_procedures, declare_constants, declare_constants_and_types, declare_types, formals_constructor_count, procedure_constructor_count}
use Rattle.ob0_language_types.specs.Environments.{Environment, meanings}
use Rattle.ob0_language_types.specs.Expressions.{a_constant, a_procedure, a_type, a_variable}
use Rattle.ob0_language_types.specs.Typing.{constant_expression_value, constructor_count, denoted_type}
use Rattle.ob0_language_types.specs.WellTyped.{Signature, TypeEnvironment, TypedParameter, bind_names, bind_typed_parameters, block_is_well_typed, body_is_well_typed, declare_typed_variables, bind_procedure, procedure_is_well_typed, procedures_and_body_are_well_typed, parameter_section_mode, typed_parameters}
use Rattle.ob0_language_types.proofs.Agreeing.{Agree, HoldsOf}
use Rattle.ob0_language_types.proofs.EditedDeclarations.{Outside, HasValueBetween, constants-edited, outside-right}
use Rattle.ob0_language_types.proofs.EditedParts.{all-left, body-has_value, constants-has_value, first-edited, bind_procedure-outside, mark_all, names_of, own-has_value, procedures-has_value, read-all, rest-has_value, types-outside, with_value}
use Rattle.ob0_language_types.proofs.EditedTypes.{Checked, LeftTyped, anything, as_signed, bind_typed_parameters-all, declarations-edited, parameter_pairs, parameter_pairs-names, parameters-edited, typed-names}
use Rattle.ob0_language_types.proofs.Leaves.{Here, Literal, known-value, read-object_for, read_meanings}
use Rattle.ob0_language_types.proofs.Literals.{some_inverse}
use Rattle.ob0_language_types.proofs.Marks.{Marks, Sound, Sound-weaken, found, found-right, knowns, ordinal-found, read, read_edited, scope_marked, has_value-found}
use Rattle.ob0_language_types.proofs.TypedElsewhere.{AreConstant, constant_expression_value-elsewhere, denoted_type-elsewhere, sequence-elsewhere, then_some}
use Rattle.ob0_language_types.proofs.TypesByOrdinal.{typed_names}
use Rattle.ob0_language_types.proofs.Conditions.{hold-true}
use Rattle.std.proofs.lemmas.Bool.{and_parts}

-- holds if a name is bound to the constant with ordinal `d`
abbrev pub IsOf : ℕ → Scope Name → Name → Type 0
IsOf d scope x = ordinal_in_scope naming_by_spelling scope x ≡ Some d

abbrev pub UsesAreFactors : ℕ → Placed
UsesAreFactors d s j scope t = NoneOf (IsOf d scope) (non_factor_occurrences t)

pub holds-constant : {V P Q : Type 0} (edit : Edit) (w : Value) (X : Marks V P → Name → ℕ → P → Type 0) (p : ℕ → P → Q) (n : ℕ) (marks : Marks V P) → Sound edit w X n marks → AreConstant (IsOf edit.constant (scope_marked marks)) (read_meanings p marks) w
holds-constant edit w X p n marks s x k = read-object_for p marks x ∙ has_value-found edit w p (found marks x) (found-right edit w X n marks x s) (sym (ordinal-found marks x) ∙ k)

pub agree-some : {X Y Z : Type 0} (p : X → Y) (q : X → Z) (P : X → Type 0) (r : Option Y) (s : Option Z) → Agree p q P r s → (y : Y) → r ≡ Some y → (x : X) × P x × (p x ≡ y)
agree-some {X} {Y} p q P r s (a, e, e', holds) y h = go a holds (sym e ∙ h)
  where
    go : (a : Option X) → HoldsOf P a → option_map p a ≡ Some y → (x : X) × P x × (p x ≡ y)
    go None holds h = absurd (cc)
    go (Some x) holds h = (x, holds, some_inverse h)

pub alone-constants : {V P Q : Type 0} (edit : Edit) (w : Value) (X : Marks V P → Name → ℕ → P → Type 0) (p : ℕ → P → Q) (j k : ℕ) (marks : Marks V P) → Sound edit w X k marks → 7 ≤ k → (cs : Tree Name (items constant))
    → HasValueBetween edit w k (ordinal_after_names k (constant_names cs)) (constant_value_in_section (knowns marks) edit.constant k cs) → (env : Environment Name V Q) → declare_constants naming_by_spelling (read p marks) cs ≡ Some env
    → EachConstant (UsesAreFactors edit.constant) j (scope_marked marks) k cs
unfolding declare_constants constant_value_in_section
alone-constants edit w X p j k marks s seven end has_value env h = tt
alone-constants {V} {P} edit w X p j k marks s seven (more (declares_constant x e) cs) has_value env h =
    let (v, ev, h₁) = then_some (constant_expression_value (read_meanings p marks) e) (λ v. declare_constants naming_by_spelling ((x, a_constant v) ∷ read p marks) cs) env h in
    let n : ℕ = ordinal_after_names (suc k) (constant_names cs) in
    let below : suc k ≤ n = le-ordinal_after_names (suc k) (constant_names cs) in
    let known : constant_expression_value (meanings naming_by_spelling (knowns marks)) e ≡ Some v = known-value p marks e ∙ ev in
    let choice : Bool → Option Value = λ t. if t then Some v else constant_value_in_section ((x, a_constant v) ∷ knowns marks) edit.constant (suc k) cs in
    let value : k ≤ edit.constant → edit.constant < n → choice (k == edit.constant) ≡ Some w = λ l m.
    sym (ap (option_and_then (λ v. if k == edit.constant then Some v else constant_value_in_section ((x, a_constant v) ∷ knowns marks) edit.constant (suc k) cs)) known) ∙ has_value l m in (
      constant_expression_value-elsewhere (IsOf edit.constant (scope_marked marks)) (read_meanings p marks) w (holds-constant edit w X p k marks s) e v ev,
      alone-constants edit w X p (j + length (occurrences e)) (suc k) (record { name = x; ordinal = k; object = a_constant v } ∷ marks) (
        le_refl (suc k),
        record {
          has_value = λ t. ap a_constant (some_inverse (sym (ap choice (eq-eqb k edit.constant t)) ∙ value (omega (arith, t)) (omega (arith, t, below))));
          yes_is = λ t. absurd (omega (arith, t, seven));
          no_is = λ t. absurd (omega (arith, t, seven));
        },
        tt,
        s,
      ) (omega (arith, seven)) cs (λ l m. sym (ap choice (ne_eqb k edit.constant (λ t. omega (arith, t, l)))) ∙ value (omega (arith, l)) m) env h₁,
    )

pub alone-types : {V P Q : Type 0} (edit : Edit) (w : Value) (X : Marks V P → Name → ℕ → P → Type 0) (p : ℕ → P → Q) (i j k : ℕ) (marks : Marks V P) → Sound edit w X k marks → 7 ≤ k → (ds : Tree Name (items type_definition))
    → Outside edit k (ordinal_after_names k (declared_type_names ds)) → (env : Environment Name V Q) → declare_types naming_by_spelling (read p marks) i ds ≡ Some env → EachType (UsesAreFactors edit.constant) j (scope_marked marks) k ds
unfolding declare_types
alone-types edit w X p i j k marks s seven end outside env h = tt
alone-types edit w X p i j k marks s seven (more (declares_type x t) ds) outside env h =
    let (shape, es, h₁) = then_some (denoted_type (read_meanings p marks) i t) (λ s. declare_types naming_by_spelling ((x, a_type s) ∷ read p marks) (i + constructor_count t) ds) env h in
    let below : suc k ≤ ordinal_after_names (suc k) (declared_type_names ds) = le-ordinal_after_names (suc k) (declared_type_names ds) in (
      denoted_type-elsewhere (IsOf edit.constant (scope_marked marks)) (read_meanings p marks) w (holds-constant edit w X p k marks s) i t shape es,
      alone-types edit w X p (i + constructor_count t) (j + length (occurrences t)) (suc k) (record { name = x; ordinal = k; object = a_type shape } ∷ marks)
          (le_refl (suc k), outside-right edit w x k (a_type shape) seven (λ a b. outside a (omega (arith, a, b, below))), tt, s) (omega (arith, seven)) ds (λ a b. outside (omega (arith, a)) b) env h₁,
    )

pub alone-variables : (edit : Edit) (w : Value) (i j k : ℕ) (marks : Marks Shape Signature) → Checked edit w k marks → 7 ≤ k → (gs : Tree Name (items variable))
    → Outside edit k (ordinal_after_names k (variable_names gs)) → (env : TypeEnvironment Name) → declare_typed_variables naming_by_spelling i gs (read as_signed marks) ≡ Some env → EachVariable (UsesAreFactors edit.constant) j (scope_marked marks) k gs
unfolding declare_typed_variables
alone-variables edit w i j k marks s seven end outside env h = tt
alone-variables edit w i j k marks s seven (more (declares_variable ns t) gs) outside env h =
    let xs : List Name = names_in_list ns in
    let ys : List Name = variable_names gs in
    let n : ℕ = ordinal_after_names k xs in
    let (shape, es, h₁) = then_some (denoted_type (read_meanings as_signed marks) i t) (λ s. declare_typed_variables naming_by_spelling (i + constructor_count t) gs (bind_names xs (a_variable s) (read as_signed marks))) env h in
    let above : k ≤ n = le-ordinal_after_names k xs in
    let whole : ordinal_after_names k (xs ++ ys) ≡ ordinal_after_names n ys = ordinal_after_names-append k xs ys in
    let last : n ≤ ordinal_after_names n ys = le-ordinal_after_names n ys in
    let inner : Marks Shape Signature = mark_all k (with_value shape xs) marks in
    let bound = typed-names edit w k xs shape marks s seven (λ l m. outside l (omega (arith, m, whole, last))) in (
      denoted_type-elsewhere (IsOf edit.constant (scope_marked marks)) (read_meanings as_signed marks) w (holds-constant edit w anything as_signed k marks s) i t shape es,
      subst (λ scope. EachVariable (UsesAreFactors edit.constant) (j + length (occurrences t)) scope n gs) bound.0.scoped
          (alone-variables edit w (i + constructor_count t) (j + length (occurrences t)) n inner bound.0.sound (omega (arith, seven, above)) gs (λ l m. outside (omega (arith, l, above)) (omega (arith, m, whole))) env
          (ap (declare_typed_variables naming_by_spelling (i + constructor_count t) gs) (sym bound.1) ∙ h₁)),
    )

pub alone-sections : (edit : Edit) (w : Value) (i j k : ℕ) (marks : Marks Shape Signature) → Checked edit w k marks → 7 ≤ k → (fs : Tree Name (items section_after_semicolon))
    → Outside edit k (ordinal_after_names k (formal_parameter_names fs)) → (ps : List (TypedParameter Name)) → typed_parameters naming_by_spelling (read as_signed marks) i fs ≡ Some ps → EachSection (UsesAreFactors edit.constant) j (scope_marked marks) k fs
unfolding typed_parameters
alone-sections edit w i j k marks s seven end outside ps h = tt
alone-sections edit w i j k marks s seven (more (semicolon_then_section f) fs) outside ps h =
    let xs : List Name = parameter_section_names f in
    let ys : List Name = formal_parameter_names fs in
    let t : Tree Name written_type = parameter_section_type f in
    let n : ℕ = ordinal_after_names k xs in
    let (shape, es, h₁) = then_some (denoted_type (read_meanings as_signed marks) i t)
    (λ s. option_and_then (λ rest. Some (map (λ x. record { name = x; formal = record { mode = parameter_section_mode f; shape = s } }) xs ++ rest)) (typed_parameters naming_by_spelling (bind_names xs (a_variable s) (read as_signed marks)) (i + constructor_count t) fs)) ps h in
    let (rest, er, h₂) = then_some (typed_parameters naming_by_spelling (bind_names xs (a_variable shape) (read as_signed marks)) (i + constructor_count t) fs)
    (λ rest. Some (map (λ x. record { name = x; formal = record { mode = parameter_section_mode f; shape = shape } }) xs ++ rest)) ps h₁ in
    let above : k ≤ n = le-ordinal_after_names k xs in
    let whole : ordinal_after_names k (xs ++ ys) ≡ ordinal_after_names n ys = ordinal_after_names-append k xs ys in
    let last : n ≤ ordinal_after_names n ys = le-ordinal_after_names n ys in
    let inner : Marks Shape Signature = mark_all k (with_value shape xs) marks in
    let bound = typed-names edit w k xs shape marks s seven (λ l m. outside l (omega (arith, m, whole, last))) in (
      denoted_type-elsewhere (IsOf edit.constant (scope_marked marks)) (read_meanings as_signed marks) w (holds-constant edit w anything as_signed k marks s) i t shape es,
      subst (λ scope. EachSection (UsesAreFactors edit.constant) (j + length (occurrences f)) scope n fs) bound.0.scoped
          (alone-sections edit w (i + constructor_count t) (j + length (occurrences f)) n inner bound.0.sound (omega (arith, seven, above)) fs (λ l m. outside (omega (arith, l, above)) (omega (arith, m, whole))) rest
          (ap (λ env. typed_parameters naming_by_spelling env (i + constructor_count t) fs) (sym bound.1) ∙ er)),
    )

pub alone-body : (edit : Edit) (w : Value) (n : ℕ) (marks : Marks Shape Signature) → Checked edit w n marks → (statements : Tree Name (maybe body)) → body_is_well_typed naming_by_spelling (read as_signed marks) statements ≡ true → NoneOf (IsOf edit.constant (scope_marked marks)) (non_factor_occurrences statements)
unfolding body_is_well_typed
alone-body edit w n marks s none h = tt
alone-body edit w n marks s (one (begins a)) h = sequence-elsewhere (IsOf edit.constant (scope_marked marks)) (read_meanings as_signed marks) w (holds-constant edit w anything as_signed n marks s) a h

constants_first : (env : TypeEnvironment Name) (i : ℕ) (b : Tree Name block) (env₁ : TypeEnvironment Name) → declare_constants_and_types naming_by_spelling env i b ≡ Some env₁
    → (env₀ : TypeEnvironment Name) × (declare_constants naming_by_spelling env (block_constants b) ≡ Some env₀) × (declare_types naming_by_spelling env₀ i (block_types b) ≡ Some env₁)
unfolding declare_constants_and_types
constants_first env i b env₁ h = then_some (declare_constants naming_by_spelling env (block_constants b)) (λ env. declare_types naming_by_spelling env i (block_types b)) env₁ h

mutual
  unfolding block_is_well_typed

  pub alone-block : (edit : Edit) (w : Value) → Literal edit w → (i j k : ℕ) (marks : Marks Shape Signature) → Checked edit w k marks → 7 ≤ k → (b : Tree Name block)
      → EachBlock (Here edit w) j (scope_marked marks) k b → HasValueBetween edit w k (ordinal_after_block k b) (constant_value_in_block (knowns marks) edit.constant k b)
      → block_is_well_typed naming_by_spelling (read as_signed marks) i b ≡ true → EachBlock (UsesAreFactors edit.constant) j (scope_marked marks) k b
  alone-block edit w lit i j k marks s seven (forms_block (declares cs ts vs ps) statements) here has_value h =
      let b : Tree Name block = forms_block (declares cs ts vs ps) statements in
      let d : ℕ = edit.constant in
      let jt : ℕ = j + length (occurrences cs) in
      let jv : ℕ = j + length (occurrences cs) + length (occurrences ts) in
      let jp : ℕ = j + length (occurrences cs) + length (occurrences ts) + length (occurrences vs) in
      let js : ℕ = j + length (occurrences (declares cs ts vs ps)) in
      let types : first_type_ordinal k b ≤ first_variable_ordinal k b = le-ordinal_after_names (first_type_ordinal k b) (declared_type_names (section_types ts)) in
      let variables : first_variable_ordinal k b ≤ first_procedure_ordinal k b = le-ordinal_after_names (first_variable_ordinal k b) (variable_names (section_variables vs)) in
      let above : k ≤ first_type_ordinal k b = le-ordinal_after_names k (constant_names (section_constants cs)) in
      let (env₂, e₂, fits) = hold-true (option_and_then (declare_typed_variables naming_by_spelling (constructor_count_before_variables i b) (section_variables vs)) (declare_constants_and_types naming_by_spelling (read as_signed marks) i b)) (λ inner. procedures_and_body_are_well_typed naming_by_spelling inner (constructor_count_before_procedures i b) statements ps) h in
      let (env₁, e₁, f₁) = then_some (declare_constants_and_types naming_by_spelling (read as_signed marks) i b) (declare_typed_variables naming_by_spelling (constructor_count_before_variables i b) (section_variables vs)) env₂ e₂ in
      let (env₀, e₀, f₀) = constants_first (read as_signed marks) i b env₁ e₁ in
      let (inner₀, left₀, r₀) = agree-some (read as_signed) (read_edited edit as_signed) (LeftTyped edit w (first_type_ordinal k b) (scope_before_types k b (scope_marked marks)) (declare_constants naming_by_spelling (knowns marks) (section_constants cs)))
      (declare_constants naming_by_spelling (read as_signed marks) (section_constants cs)) (declare_constants naming_by_spelling (read_edited edit as_signed marks) (edited_constants edit j k (section_constants cs)))
      (constants-edited edit w lit anything as_signed as_signed j k marks s seven (section_constants cs) here.0 (constants-has_value edit w (knowns marks) k b has_value)) env₀ e₀ in
      let (inner₁, left₁, r₁) = agree-some (read as_signed) (read_edited edit as_signed) (LeftTyped edit w (first_variable_ordinal k b) (scope_before_variables k b (scope_marked marks)) (option_map (bind_names (declared_type_names (section_types ts)) non_constant_placeholder) (declare_constants naming_by_spelling (knowns marks) (section_constants cs))))
      (declare_constants_and_types naming_by_spelling (read as_signed marks) i b) (declare_constants_and_types naming_by_spelling (read_edited edit as_signed marks) i (edited_block edit j k b))
      (first-edited edit w lit anything as_signed as_signed i j k marks s seven b here has_value) env₁ e₁ in
      let (inner₂, left₂, r₂) = agree-some (read as_signed) (read_edited edit as_signed)
      (LeftTyped edit w (first_procedure_ordinal k b) (scope_before_procedures k b (scope_marked marks)) (option_map (bind_names (variable_names (section_variables vs)) non_constant_placeholder) (option_map (bind_names (declared_type_names (section_types ts)) non_constant_placeholder) (declare_constants naming_by_spelling (knowns marks) (section_constants cs)))))
      (option_and_then (declare_typed_variables naming_by_spelling (constructor_count_before_variables i b) (section_variables vs)) (declare_constants_and_types naming_by_spelling (read as_signed marks) i b))
      (option_and_then (declare_typed_variables naming_by_spelling (constructor_count_before_variables i (edited_block edit j k b)) (block_variables (edited_block edit j k b))) (declare_constants_and_types naming_by_spelling (read_edited edit as_signed marks) i (edited_block edit j k b)))
      (declarations-edited edit w lit i j k marks s seven b here has_value) env₂ e₂ in
      let later = alone-procedures edit w lit (constructor_count_before_procedures i b) jp js (first_procedure_ordinal k b) inner₂ left₂.sound (omega (arith, seven, above, types, variables)) statements ps
      (subst (λ scope. EachProcedure (Here edit w) jp scope (first_procedure_ordinal k b) ps) (sym left₂.scoped) here.3) (procedures-has_value edit w (knowns marks) (knowns inner₂) k b has_value left₂.value)
      (ap (λ env. procedures_and_body_are_well_typed naming_by_spelling env (constructor_count_before_procedures i b) statements ps) r₂ ∙ fits) in (
        alone-constants edit w anything as_signed j k marks s seven (section_constants cs) (constants-has_value edit w (knowns marks) k b has_value) env₀ e₀,
        subst (λ scope. EachType (UsesAreFactors d) jt scope (first_type_ordinal k b) (section_types ts)) left₀.scoped
            (alone-types edit w anything as_signed i jt (first_type_ordinal k b) inner₀ left₀.sound (omega (arith, seven, above)) (section_types ts) (λ l m. types-outside edit w (knowns marks) k b has_value l (omega (arith, m, variables))) env₁
            (ap (λ env. declare_types naming_by_spelling env i (section_types ts)) r₀ ∙ f₀)),
        subst (λ scope. EachVariable (UsesAreFactors d) jv scope (first_variable_ordinal k b) (section_variables vs)) left₁.scoped
            (alone-variables edit w (constructor_count_before_variables i b) jv (first_variable_ordinal k b) inner₁ left₁.sound (omega (arith, seven, above, types)) (section_variables vs) (λ l m. types-outside edit w (knowns marks) k b has_value (omega (arith, l, types)) m) env₂
            (ap (declare_typed_variables naming_by_spelling (constructor_count_before_variables i b) (section_variables vs)) r₁ ∙ f₁)),
        subst (λ scope. EachProcedure (UsesAreFactors d) jp scope (first_procedure_ordinal k b) ps) left₂.scoped later.0,
        subst (λ scope. NoneOf (IsOf d (declare_procedure_names (first_procedure_ordinal k b) ps scope)) (non_factor_occurrences statements)) left₂.scoped later.1,
      )

  pub alone-procedures : (edit : Edit) (w : Value) → Literal edit w → (i j js k : ℕ) (marks : Marks Shape Signature) → Checked edit w k marks → 7 ≤ k → (statements : Tree Name (maybe body)) (ps : Tree Name (items procedure))
      → EachProcedure (Here edit w) j (scope_marked marks) k ps → HasValueBetween edit w k (ordinal_after_procedure_list k ps) (constant_value_in_procedure_list (knowns marks) edit.constant k ps)
      → procedures_and_body_are_well_typed naming_by_spelling (read as_signed marks) i statements ps ≡ true
      → EachProcedure (UsesAreFactors edit.constant) j (scope_marked marks) k ps × NoneOf (IsOf edit.constant (declare_procedure_names k ps (scope_marked marks))) (non_factor_occurrences statements)
  alone-procedures edit w lit i j js k marks s seven statements end here has_value h = (tt, alone-body edit w k marks s statements h)
  alone-procedures edit w lit i j js k marks s seven statements (more (declares_procedure x fs b closing) rest) here has_value h =
      let p : Tree Name (item procedure) = declares_procedure x fs b closing in
      let d : ℕ = edit.constant in
      let jb : ℕ = j + length (occurrences fs) in
      let xs : List Name = formal_parameter_names (formal_parameter_sections fs) in
      let n : ℕ = ordinal_after_names (suc k) xs in
      let jr : ℕ = j + length (occurrences p) in
      let mine : HasValueBetween edit w k (ordinal_after_procedure (suc k) p) (constant_value_in_procedure ((x, non_constant_placeholder) ∷ knowns marks) edit.constant (suc k) p) = own-has_value edit w (knowns marks) k p rest has_value in
      let outside : Outside edit k n = bind_procedure-outside edit w ((x, non_constant_placeholder) ∷ knowns marks) k x closing fs b mine in
      let above : suc k ≤ n = le-ordinal_after_names (suc k) xs in
      let following : suc k ≤ ordinal_after_procedure (suc k) p = le-ordinal_after_procedure (suc k) p in
      let own : Outside edit k (suc k) = λ l m. outside l (omega (arith, m, above)) in
      let later : Checked edit w (suc k) marks = Sound-weaken edit w anything k (suc k) marks (le_of_lt (le_refl (suc k))) s in
      let outside' : Outside edit (suc k) n = λ l m. outside (omega (arith, l)) m in
      let (ps, e, fits) = hold-true (typed_parameters naming_by_spelling (read as_signed marks) i (formal_parameter_sections fs)) (λ ps. procedure_is_well_typed naming_by_spelling (bind_typed_parameters ps (bind_procedure x ps (read as_signed marks))) i p && procedures_and_body_are_well_typed naming_by_spelling (bind_procedure x ps (read as_signed marks)) (i + procedure_constructor_count p) statements rest) h in
      let both = and_parts (procedure_is_well_typed naming_by_spelling (bind_typed_parameters ps (bind_procedure x ps (read as_signed marks))) i p) (procedures_and_body_are_well_typed naming_by_spelling (bind_procedure x ps (read as_signed marks)) (i + procedure_constructor_count p) statements rest) fits in
      let (qs, spelled, r) = agree-some (λ ps. ps) (λ ps. ps) (λ ps. typed_names ps ≡ formal_parameter_names (formal_parameter_sections fs)) (typed_parameters naming_by_spelling (read as_signed marks) i (formal_parameter_sections fs)) (typed_parameters naming_by_spelling (read_edited edit as_signed marks) i (leaf edit j (formal_parameter_sections fs)))
      (parameters-edited edit w lit i j (suc k) marks later (omega (arith, seven)) (formal_parameter_sections fs) here.0.0 outside') ps e in
      let inner : Marks Shape Signature = record { name = x; ordinal = k; object = a_procedure (map (λ p. p.formal) ps) } ∷ marks in
      let sound : Checked edit w (suc k) inner = (le_refl (suc k), outside-right edit w x k (a_procedure (map (λ p. p.formal) ps)) seven own, tt, s) in
      let pairs : List (Name × Shape) = parameter_pairs ps in
      let listed_names : names_of pairs ≡ xs = parameter_pairs-names ps ∙ (sym (ap typed_names r) ∙ spelled) in
      let left : LeftTyped edit w n (declare_names (suc k) xs (scope_marked inner)) (Some (bind_names xs non_constant_placeholder (knowns inner))) (mark_all (suc k) pairs inner) =
      subst (λ ys. LeftTyped edit w (ordinal_after_names (suc k) ys) (declare_names (suc k) ys (scope_marked inner)) (Some (bind_names ys non_constant_placeholder (knowns inner))) (mark_all (suc k) pairs inner)) listed_names
      (all-left edit w anything (suc k) pairs inner sound (omega (arith, seven)) (λ l m. outside' l (subst (λ ys. edit.constant < ordinal_after_names (suc k) ys) listed_names m))) in
      let last = alone-procedures edit w lit (i + procedure_constructor_count p) jr js (ordinal_after_procedure (suc k) p) inner (Sound-weaken edit w anything (suc k) (ordinal_after_procedure (suc k) p) inner following sound) (omega (arith, seven, following)) statements rest
      here.1 (rest-has_value edit w (knowns marks) k p rest has_value) both.1 in (
        (
          (
            alone-sections edit w i j (suc k) marks later (omega (arith, seven)) (formal_parameter_sections fs) outside' ps e,
            subst (λ scope. EachBlock (UsesAreFactors d) jb scope n b) left.scoped
                (alone-block edit w lit (i + formals_constructor_count (formal_parameter_sections fs)) jb n (mark_all (suc k) pairs inner) left.sound (omega (arith, seven, above)) b
                (subst (λ scope. EachBlock (Here edit w) jb scope n b) (sym left.scoped) here.0.1)
                (subst (λ known. HasValueBetween edit w n (ordinal_after_block n b) (constant_value_in_block known edit.constant n b)) (some_inverse left.value) (body-has_value edit w ((x, non_constant_placeholder) ∷ knowns marks) k x closing fs b mine))
                (sym (ap (λ env. block_is_well_typed naming_by_spelling env (i + formals_constructor_count (formal_parameter_sections fs)) b) (bind_typed_parameters-all ps (bind_procedure x ps (read as_signed marks)) ∙ read-all as_signed (suc k) pairs inner)) ∙ both.0)),
          ),
          last.0,
        ),
        last.1,
      )
