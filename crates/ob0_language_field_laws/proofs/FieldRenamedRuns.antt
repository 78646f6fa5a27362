-- A module that passes the type check has the same run with renamed fields as with tagged fields.
-- The renaming must keep the fields of a record distinct.
use Rattle.std.proofs.Common.{◌≡◌, ℕ, zero, suc, ◌+◌, ◌≢◌, true, false, List, [], ◌∷◌, map, ℤ, ◌⊎◌, inl, inr, Some, None, Option, option_map, option_and_then, sym, refl, ap, ◌∙◌, subst, subst₂}
use Rattle.ob0_tree.specs.Tree.{Tree, begins, block, body, declares, declares_procedure, formals, forms_block, forms_module, item, maybe, module_text, none, one, procedure}
use Rattle.ob0_language_names.specs.Names.{Name, naming_by_spelling}
use Rattle.ob0_language_names.specs.BlockParts.{block_procedures, block_statements, formal_parameter_sections}
use Rattle.ob0_language_types.specs.Declarations.{constructor_count_before_procedures, formals_constructor_count}
use Rattle.ob0_language_types.specs.Environments.{meanings, outermost_environment}
use Rattle.ob0_language_types.specs.Expressions.{read_procedure, write_procedure, write_line_procedure}
use Rattle.ob0_language_types.specs.WellTyped.{TypeEnvironment, TypeMeanings, passes_type_check}
use Rattle.ob0_language_values.specs.Values.{Stuck, boolean_shape, integer_shape}
use Rattle.ob0_language_runs.specs.Runs.{RunEnvironment, CallFunction, Frame, Progress, State, execute_newest_procedure, bind_parameters, call_keeping_variables, declare_block_in_frame, execute_sequence, execute_body, run_result, continue_in_frame, formal_parameters_in_sections, run_with_naming, running, stopped}
use Rattle.ob0_language_runs.proofs.SoundCalls.{fitting-run}
use Rattle.ob0_language_field_laws.specs.FieldLaws.{KeepsFieldsDistinct}
use Rattle.ob0_language_field_laws.proofs.FieldRenamedActivations.{FramesBoth, Scene, Stage, bind_parameters-both, both-then, declare_block_in_frame-both, env_as, frame_by, suffix_from_newest_binding-as, meanings-as, parameters-rename_selected_fields, scene_from, things_in}
use Rattle.ob0_language_field_laws.proofs.FieldRenamedExecution.{Alike, CallsAlike, Given, Goes, argument_by, execute_sequence-alike, state_by}
use Rattle.ob0_language_field_laws.proofs.FieldRenamedExpressions.{constant_thing, logical, procedure_thing, standard_thing, type_thing}
use Rattle.ob0_language_field_laws.proofs.FieldRenamedModules.{formal_parameter_sections-rename_selected_fields, formals_count-rename_selected_fields, field_renaming_keeps_type_check-holds}
use Rattle.ob0_language_field_laws.proofs.Values.{store_by, tagged, tagged-apart}
use Rattle.ob0_language_fields.specs.MarkedFields.{environment_after_procedures, environment_after_variables}
use Rattle.ob0_language_fields.specs.RenamedFields.{FieldRenaming, rename_fields_in_block, rename_fields_in_module, rename_selected_fields}

-- returns the checked meanings of names for a block's statements
abbrev pub body_meaning : TypeEnvironment Name → ℕ → Tree Name block → TypeMeanings Name
body_meaning checked k b = meanings naming_by_spelling (environment_after_procedures (environment_after_variables checked k b) (constructor_count_before_procedures k b) (block_procedures b))

statements-rename_selected_fields : (l : FieldRenaming) (checked : TypeEnvironment Name) (k : ℕ) (b : Tree Name block) → block_statements (rename_fields_in_block l checked k b) ≡ rename_selected_fields l (body_meaning checked k b) None (block_statements b)
statements-rename_selected_fields l checked k (forms_block (declares cs ts vs ps) statements) = refl

execute_body-alike : (l : FieldRenaming) → KeepsFieldsDistinct l → (scene : Scene) (checked : TypeMeanings Name) (e₁ e₂ : CallFunction Name) → CallsAlike l e₁ e₂ → (t : ℕ) (statements : Tree Name (maybe body))
    → Alike l (execute_body naming_by_spelling (env_as tagged scene) e₁ t (rename_selected_fields tagged checked None statements)) (execute_body naming_by_spelling (env_as l scene) e₂ t (rename_selected_fields l checked None statements))
unfolding execute_body
execute_body-alike l apart scene checked e₁ e₂ calls t none s = (s, refl, refl)
execute_body-alike l apart scene checked e₁ e₂ calls t (one (begins a)) s =
    subst₂ (λ m n. Goes l (execute_sequence m e₁ t (rename_selected_fields tagged checked None a) (state_by tagged s)) (execute_sequence n e₂ t (rename_selected_fields l checked None a) (state_by l s))) (sym (meanings-as tagged scene)) (sym (meanings-as l scene))
    (execute_sequence-alike l apart (things_in scene) checked e₁ e₂ calls t a s)

continue_in_frame-goes : (l : FieldRenaming) (s : State) (o₁ o₂ : Option (Frame Name)) (n₁ n₂ : Frame Name → State → Progress) → FramesBoth l o₁ o₂ → ((f : Stage) → Alike l (n₁ (frame_by tagged f)) (n₂ (frame_by l f)))
    → Goes l (continue_in_frame (state_by tagged s) o₁ n₁) (continue_in_frame (state_by l s) o₂ n₂)
continue_in_frame-goes l s o₁ o₂ n₁ n₂ h each = subst₂ (λ p q. Goes l (continue_in_frame (state_by tagged s) p n₁) (continue_in_frame (state_by l s) q n₂)) (sym h.1) (sym h.2) (go h.0)
  where
    go : (o : Option Stage) → Goes l (continue_in_frame (state_by tagged s) (option_map (frame_by tagged) o) n₁) (continue_in_frame (state_by l s) (option_map (frame_by l) o) n₂)
    go None = inl refl
    go (Some f) = each f record { store = f.store; input = s.input; output = s.output }

-- declares a block in a frame and executes its statements
abbrev entered : FieldRenaming → ℕ → TypeEnvironment Name → Tree Name block → (RunEnvironment Name → CallFunction Name) → ℕ → Option (Frame Name) → State → Progress
entered l k checked b enter t o s =
    continue_in_frame s (option_and_then (declare_block_in_frame naming_by_spelling k (rename_fields_in_block l checked k b)) o) (λ f. execute_body naming_by_spelling f.env (enter f.env) t (block_statements (rename_fields_in_block l checked k b)))

-- holds if calls do the same in both runs, in every scene
abbrev pub AllCallsAlike : FieldRenaming → (RunEnvironment Name → CallFunction Name) → (RunEnvironment Name → CallFunction Name) → Type 0
AllCallsAlike l e₁ e₂ = (scene : Scene) → CallsAlike l (e₁ (env_as tagged scene)) (e₂ (env_as l scene))

entered-goes : (l : FieldRenaming) → KeepsFieldsDistinct l → (k : ℕ) (checked : TypeEnvironment Name) (b : Tree Name block) (e₁ e₂ : RunEnvironment Name → CallFunction Name) → AllCallsAlike l e₁ e₂ → (t : ℕ) (o₁ o₂ : Option (Frame Name)) → FramesBoth l o₁ o₂ → (s : State)
    → Goes l (entered tagged k checked b e₁ t o₁ (state_by tagged s)) (entered l k checked b e₂ t o₂ (state_by l s))
entered-goes l apart k checked b e₁ e₂ calls t o₁ o₂ h s =
    continue_in_frame-goes l s (option_and_then (declare_block_in_frame naming_by_spelling k (rename_fields_in_block tagged checked k b)) o₁) (option_and_then (declare_block_in_frame naming_by_spelling k (rename_fields_in_block l checked k b)) o₂)
    (λ f. execute_body naming_by_spelling f.env (e₁ f.env) t (block_statements (rename_fields_in_block tagged checked k b))) (λ f. execute_body naming_by_spelling f.env (e₂ f.env) t (block_statements (rename_fields_in_block l checked k b)))
    (both-then (frame_by tagged) (frame_by l) (frame_by tagged) (frame_by l) (declare_block_in_frame naming_by_spelling k (rename_fields_in_block tagged checked k b)) (declare_block_in_frame naming_by_spelling k (rename_fields_in_block l checked k b)) o₁ o₂ h (declare_block_in_frame-both l checked k b))
    (λ f s'. subst₂ (λ x y. Goes l (execute_body naming_by_spelling (env_as tagged f.scene) (e₁ (env_as tagged f.scene)) t x (state_by tagged s')) (execute_body naming_by_spelling (env_as l f.scene) (e₂ (env_as l f.scene)) t y (state_by l s')))
    (sym (statements-rename_selected_fields tagged checked k b)) (sym (statements-rename_selected_fields l checked k b))
    (execute_body-alike l apart f.scene (body_meaning checked k b) (e₁ (env_as tagged f.scene)) (e₂ (env_as l f.scene)) (calls f.scene) t (block_statements b) s'))

-- binds the arguments of a call, declares the procedure's block and executes its statements
abbrev activated : FieldRenaming → ℕ → TypeEnvironment Name → Tree Name (maybe formals) → Tree Name block → (RunEnvironment Name → CallFunction Name) → ℕ → List Given → Stage → State → Progress
activated l j checked fs b enter t args f s =
    entered l (j + formals_constructor_count (formal_parameter_sections fs)) checked b enter t (bind_parameters (formal_parameters_in_sections (formal_parameter_sections fs)) (map (argument_by l) args) (frame_by l f)) s

activated-goes : (l : FieldRenaming) → KeepsFieldsDistinct l → (j : ℕ) (checked : TypeEnvironment Name) (fs : Tree Name (maybe formals)) (b : Tree Name block) (e₁ e₂ : RunEnvironment Name → CallFunction Name) → AllCallsAlike l e₁ e₂ → (t : ℕ) (args : List Given) (f : Stage) (s : State)
    → Goes l (activated tagged j checked fs b e₁ t args f (state_by tagged s)) (activated l j checked fs b e₂ t args f (state_by l s))
activated-goes l apart j checked fs b e₁ e₂ calls t args f s =
    let k : ℕ = j + formals_constructor_count (formal_parameter_sections fs) in
    let ps = formal_parameters_in_sections (formal_parameter_sections fs) in
    entered-goes l apart k checked b e₁ e₂ calls t (bind_parameters ps (map (argument_by tagged) args) (frame_by tagged f)) (bind_parameters ps (map (argument_by l) args) (frame_by l f)) (bind_parameters-both l ps args f) s

-- Activating a procedure is binding its arguments, declaring its block and executing its statements.
execute_newest_procedure-parts : (l : FieldRenaming) (j : ℕ) (checked : TypeEnvironment Name) (x y closing : Name) (fs : Tree Name (maybe formals)) (b : Tree Name block) (enter : RunEnvironment Name → CallFunction Name) (t : ℕ) (args : List Given) (scene : Scene) (s : State)
    → execute_newest_procedure naming_by_spelling enter t (env_as l ((y, procedure_thing record { first = j; checked = checked; text = declares_procedure x fs b closing }) ∷ scene)) (map (argument_by l) args) (state_by l s)
    ≡ activated l j checked fs b enter t args record { scene = (y, procedure_thing record { first = j; checked = checked; text = declares_procedure x fs b closing }) ∷ scene; store = s.store } (state_by l s)
unfolding execute_newest_procedure
execute_newest_procedure-parts l j checked x y closing fs b enter t args scene s = λ i.
    let k : ℕ = j + formals_constructor_count (formal_parameter_sections fs) in
    continue_in_frame (state_by l s) (option_and_then (declare_block_in_frame naming_by_spelling (j + formals_count-rename_selected_fields l j fs i) (rename_fields_in_block l checked k b))
    (bind_parameters ((ap formal_parameters_in_sections (formal_parameter_sections-rename_selected_fields l j fs) ∙ parameters-rename_selected_fields l j (formal_parameter_sections fs)) i) (map (argument_by l) args) record { env = env_as l ((y, procedure_thing record { first = j; checked = checked; text = declares_procedure x fs b closing }) ∷ scene); store = store_by l s.store }))
    (λ f. execute_body naming_by_spelling f.env (enter f.env) t (block_statements (rename_fields_in_block l checked k b)))

execute_newest_procedure-goes : (l : FieldRenaming) → KeepsFieldsDistinct l → (e₁ e₂ : RunEnvironment Name → CallFunction Name) → AllCallsAlike l e₁ e₂ → (t : ℕ) (scene : Scene) (args : List Given) (s : State)
    → Goes l (execute_newest_procedure naming_by_spelling e₁ t (env_as tagged scene) (map (argument_by tagged) args) (state_by tagged s)) (execute_newest_procedure naming_by_spelling e₂ t (env_as l scene) (map (argument_by l) args) (state_by l s))
unfolding execute_newest_procedure
execute_newest_procedure-goes l apart e₁ e₂ calls t ((y, procedure_thing c) ∷ scene) args s = go c.first c.checked c.text
  where
    go : (j : ℕ) (checked : TypeEnvironment Name) (p : Tree Name (item procedure))
        → Goes l (execute_newest_procedure naming_by_spelling e₁ t (env_as tagged ((y, procedure_thing record { first = j; checked = checked; text = p }) ∷ scene)) (map (argument_by tagged) args) (state_by tagged s))
        (execute_newest_procedure naming_by_spelling e₂ t (env_as l ((y, procedure_thing record { first = j; checked = checked; text = p }) ∷ scene)) (map (argument_by l) args) (state_by l s))
    go j checked (declares_procedure x fs b closing) =
        subst₂ (λ p q. Goes l p q) (sym (execute_newest_procedure-parts tagged j checked x y closing fs b e₁ t args scene s)) (sym (execute_newest_procedure-parts l j checked x y closing fs b e₂ t args scene s))
        (activated-goes l apart j checked fs b e₁ e₂ calls t args record { scene = (y, procedure_thing record { first = j; checked = checked; text = declares_procedure x fs b closing }) ∷ scene; store = s.store } s)
execute_newest_procedure-goes l apart e₁ e₂ calls t _ args s = inl refl

-- Calls do the same in both runs, by induction on the number of calls that may be open.
calls-alike : (l : FieldRenaming) → KeepsFieldsDistinct l → (c t : ℕ) → AllCallsAlike l (call_keeping_variables naming_by_spelling c t) (call_keeping_variables naming_by_spelling c t)
unfolding call_keeping_variables
calls-alike l apart zero t scene x args s = inr refl
calls-alike l apart (suc c) t scene x args s =
    subst₂ (λ a b. Goes l (execute_newest_procedure naming_by_spelling (call_keeping_variables naming_by_spelling c t) t a (map (argument_by tagged) args) (state_by tagged s)) (execute_newest_procedure naming_by_spelling (call_keeping_variables naming_by_spelling c t) t b (map (argument_by l) args) (state_by l s)))
    (sym (suffix_from_newest_binding-as tagged scene x)) (sym (suffix_from_newest_binding-as l scene x)) (execute_newest_procedure-goes l apart (call_keeping_variables naming_by_spelling c t) (call_keeping_variables naming_by_spelling c t) (calls-alike l apart c t) t (scene_from scene x) args s)

-- the scene of the outermost block, which has the predeclared names
abbrev outermost_scene : Scene
outermost_scene =
    (naming_by_spelling.predeclared 6, standard_thing write_line_procedure) ∷ (naming_by_spelling.predeclared 5, standard_thing write_procedure) ∷ (naming_by_spelling.predeclared 4, standard_thing read_procedure)
    ∷ (naming_by_spelling.predeclared 3, constant_thing (logical false)) ∷ (naming_by_spelling.predeclared 2, constant_thing (logical true)) ∷ (naming_by_spelling.predeclared 1, type_thing boolean_shape) ∷ (naming_by_spelling.predeclared 0, type_thing integer_shape) ∷ []

same-finish : (l : FieldRenaming) (p₁ p₂ : Progress) → Goes l p₁ p₂ → (run_result p₁).ending ≢ Stuck → run_result p₁ ≡ run_result p₂
same-finish l (running s₁) (running s₂) h free = ap (λ s. run_result (running s)) h.1 ∙ sym (ap (λ s. run_result (running s)) h.2)
same-finish l (running s₁) (stopped e out) h free = absurd h
same-finish l (stopped e out) p₂ h free = go h
  where
    go : (e ≡ Stuck) ⊎ (p₂ ≡ stopped e out) → run_result (stopped e out) ≡ run_result p₂
    go (inl p) = absurd (free p)
    go (inr q) = sym (ap run_result q)

abbrev run_parts : FieldRenaming → Tree Name block → List ℤ → ℕ → ℕ → Progress
run_parts l b input c t = entered l 0 (outermost_environment naming_by_spelling) b (call_keeping_variables naming_by_spelling c t) t (Some (frame_by l record { scene = outermost_scene; store = [] })) (state_by l record { store = []; input = input; output = [] })

run-parts : (l : FieldRenaming) (x closing : Name) (b : Tree Name block) (input : List ℤ) (c t : ℕ) → run_with_naming naming_by_spelling (rename_fields_in_module l (forms_module x b closing)) input c t ≡ run_result (run_parts l b input c t)
unfolding run_with_naming
run-parts l x closing b input c t = refl

-- A well-typed module has the same run with tagged fields and with fields under other names.
pub run-tagged : (l : FieldRenaming) → KeepsFieldsDistinct l → (m : Tree Name module_text) → passes_type_check naming_by_spelling m ≡ true → (input : List ℤ) (c t : ℕ) → run_with_naming naming_by_spelling (rename_fields_in_module tagged m) input c t ≡ run_with_naming naming_by_spelling (rename_fields_in_module l m) input c t
run-tagged l apart (forms_module x b closing) fits input c t =
    run-parts tagged x closing b input c t
    ∙ (same-finish l (run_parts tagged b input c t) (run_parts l b input c t)
    (entered-goes l apart 0 (outermost_environment naming_by_spelling) b (call_keeping_variables naming_by_spelling c t) (call_keeping_variables naming_by_spelling c t) (calls-alike l apart c t) t (Some (frame_by tagged record { scene = outermost_scene; store = [] })) (Some (frame_by l record { scene = outermost_scene; store = [] }))
    (Some record { scene = outermost_scene; store = [] }, refl, refl) record { store = []; input = input; output = [] })
    (subst (λ r. r.ending ≢ Stuck) (run-parts tagged x closing b input c t) (fitting-run naming_by_spelling (rename_fields_in_module tagged (forms_module x b closing)) input c t (field_renaming_keeps_type_check-holds tagged (forms_module x b closing) tagged-apart ∙ fits)))
    ∙ sym (run-parts l x closing b input c t))
