-- Proves the state after each part of a module: which names are visible, and that a table with all
-- marks numbers the part.
use Rattle.std.proofs.Common.{◌≡◌, ◌<◌, ◌≤◌, ℕ, suc, ◌+◌, ◌-◌, true, false, Option, Some, None, List, [], ◌∷◌, ◌++◌, map, length, drop, refl, sym, ap, ◌∙◌, subst, arith, append_assoc, append-nil, length-append}
use Rattle.std.proofs.lemmas.List.{map-append}
use Rattle.std.proofs.Math.Seq.{drop-append-add}
use Rattle.ob0_tree.specs.declared.tree.Role.{Role}
use Rattle.ob0_tree.specs.declared.tree.Role.TheVariants as role
use Rattle.ob0_tree.specs.Tree.{Sort, Tree, block, constant, constants, declares, declares_constant, declares_const_section, declares_procedure, declares_type, declares_type_section, declares_variable, declares_var_section, end, formals, name_after_comma, section_after_semicolon, forms_block, identifiers, forms_module, item, items, listed, mapped_tree, maybe, module_text, more, names, no_formals, none, one, procedure, section, some_formals, comma_then_name, semicolon_then_section, type_definition, type_definitions, value_section, variable, variable_section, variables, written_type}
use Rattle.ob0_tree.specs.IdentifierIndexes.{names_without_roles}
use Rattle.ob0_tree.specs.TokenIndexLeaves.{token_value_at}
use Rattle.ob0_scope_numbering.specs.IdentifierSpellings.{Spellings, spelling_at_token, tree_with_spellings}
use Rattle.ob0_tree.proofs.Occurring.{looked_up_only, looked_up_only-append}
use Rattle.ob0_scope_numbering.specs.OrdinalMarks.{OrdinalMark}
use Rattle.ob0_language_names.specs.Names.{Name, naming_by_spelling, same_name}
use Rattle.ob0_language_names.specs.BlockParts.{constant_names, formal_parameter_names, formal_parameter_sections, names_after_first, module_block, declared_type_names, names_in_list, procedure_name, section_constants, parameter_section_names, section_types, section_variables, variable_names}
use Rattle.ob0_scope_table.specs.Resolution.{declaring_names}
use Rattle.ob0_language_names.specs.Scopes.{Labelling, Scope, ordinal_after_block, ordinal_after_names, ordinal_after_procedure, ordinal_after_procedure_list, body_scope, declare_names, declare_procedure_names, ordinal_in_scope, predeclared_scope, relabel_block, relabel_constant_section, relabel_constants, relabel_formals, relabel_names_after_first, relabel_names, relabel_procedure, relabel_procedure_list, relabel_parameter_section, relabel_parameter_section_list, relabel_type_section, relabel_types, relabel_uses, relabel_variable_section, relabel_variables, relabel_module}
use Rattle.ob0_scope_numbering.specs.MarkWalk.{WalkState, initial_walk_state}
use Rattle.ob0_scope_numbering.specs.IdentifierWalk.{state_after_procedure_block, state_after_heading, visit_identifier, visit_identifiers, with_oldest_bindings, with_mark, number_declarations, number_declaration, with_names_visible_from_index, visit_nondeclaring_tree, visit_block, visit_constant, visit_constant_section, visit_constants, visit_formals, visit_module, visit_procedure, visit_procedure_list, visit_parameter_section, visit_parameter_sections, visit_type, visit_type_section, visit_types, visit_variable, visit_variable_section, visit_variables}
use Rattle.ob0_scope_numbering.proofs.Agreed.{AllFit, agreed}
use Rattle.ob0_language_names.proofs.Ordinals.{ordinal_after_names-append, declare_names-append, le-ordinal_after_block, le-ordinal_after_names}
use Rattle.ob0_language_names.proofs.OccurrenceNames.{length-map}
use Rattle.ob0_language_names.proofs.Peeling.{Two}
use Rattle.ob0_scope_table.proofs.Plain.{IsPlain, declares_nothing, declaring_names-append}

-- holds if a table has each mark's ordinal at its token
abbrev pub HasMarks : (ℕ → Option ℕ) → List OrdinalMark → Type 0
HasMarks table [] = Unit {0}
HasMarks table (m ∷ ms) = (table m.token ≡ m.ordinal) × HasMarks table ms

marks_split : (table : ℕ → Option ℕ) (xs ys : List OrdinalMark) → HasMarks table (xs ++ ys) → HasMarks table xs × HasMarks table ys
marks_split table [] ys h = (tt, h)
marks_split table (x ∷ xs) ys h = let rest = marks_split table xs ys h.1 in ((h.0, rest.0), rest.1)

abbrev pub tokens_of : List OrdinalMark → List ℕ
tokens_of ms = map (λ m. m.token) ms

-- holds if an ordinal, if there is one, is below k
abbrev pub IsBefore : ℕ → Option ℕ → Type 0
IsBefore k None = Unit {0}
IsBefore k (Some j) = j < k

-- holds if all names of a scope are bound to ordinals below k
abbrev AreBefore : ℕ → Scope Name → Type 0
AreBefore k [] = Unit {0}
AreBefore k (b ∷ s) = (b.1 < k) × AreBefore k s

before_later : (k later : ℕ) (s : Scope Name) → k ≤ later → AreBefore k s → AreBefore later s
before_later k later [] le h = tt
before_later k later (b ∷ s) le h = (omega (arith, le, h.0), before_later k later s le h.1)

names_before : (k : ℕ) (xs : List Name) (s : Scope Name) (later : ℕ) → k + length xs ≤ later → AreBefore later s → AreBefore later (declare_names k xs s)
names_before k [] s later le h = h
names_before k (x ∷ xs) s later le h = names_before (suc k) xs ((x, k) ∷ s) later (omega (arith, le)) (omega (arith, le), h)

older_before : (k : ℕ) (newer s : Scope Name) → AreBefore k (newer ++ s) → AreBefore k s
older_before k [] s h = h
older_before k (b ∷ newer) s h = older_before k newer s h.1

looked_up_before : (k : ℕ) (s : Scope Name) (x : Name) → AreBefore k s → IsBefore k (ordinal_in_scope naming_by_spelling s x)
looked_up_before k [] x h = tt
looked_up_before k (b ∷ s) x h = elim (same_name x b.0) as (λ v. IsBefore k (elim v [ true ↦ Some b.1 | false ↦ ordinal_in_scope naming_by_spelling s x ])) [ true ↦ h.0 | false ↦ looked_up_before k s x h.1 ]

-- holds if each declaring identifier has the next ordinal, and each other one has the ordinal of an
-- earlier declaration or none
abbrev pub AreInOrder : (ℕ → Option ℕ) → ℕ → List (Role × ℕ) → Type 0
AreInOrder table k [] = Unit {0}
AreInOrder table k ((role.DeclaringName, i) ∷ xs) = (table i ≡ Some k) × AreInOrder table (suc k) xs
AreInOrder table k ((role.LookedUpName, i) ∷ xs) = IsBefore k (table i) × AreInOrder table k xs
AreInOrder table k ((role.ClosingName, i) ∷ xs) = IsBefore k (table i) × AreInOrder table k xs
AreInOrder table k ((role.FieldName, i) ∷ xs) = IsBefore k (table i) × AreInOrder table k xs
AreInOrder table k ((role.ModuleName, i) ∷ xs) = IsBefore k (table i) × AreInOrder table k xs

some_declared : {x : ℕ} {xs : List ℕ} → (x ∷ xs) ≡ [] → ⊥
some_declared e = absurd (cc)

other_in_order : (table : ℕ → Option ℕ) (k : ℕ) (r : Role) (i : ℕ) (xs : List (Role × ℕ)) → declaring_names ((r, i) ∷ []) ≡ [] → IsBefore k (table i) → AreInOrder table k xs → AreInOrder table k ((r, i) ∷ xs)
other_in_order table k role.DeclaringName i xs e h rest = absurd (some_declared e)
other_in_order table k role.LookedUpName i xs e h rest = (h, rest)
other_in_order table k role.ClosingName i xs e h rest = (h, rest)
other_in_order table k role.FieldName i xs e h rest = (h, rest)
other_in_order table k role.ModuleName i xs e h rest = (h, rest)

-- A part that declares nothing is in order before identifiers that are.
used_in_order : (table : ℕ → Option ℕ) (src : Spellings) (s : Scope Name) (k : ℕ) (xs rest : List (Role × ℕ)) → AreBefore k s → declaring_names xs ≡ [] → AllFit table src s xs → AreInOrder table k rest → AreInOrder table k (xs ++ rest)
used_in_order table src s k [] rest low e h order = order
used_in_order table src s k ((role.DeclaringName, i) ∷ xs) rest low e h order = absurd (some_declared e)
used_in_order table src s k ((role.LookedUpName, i) ∷ xs) rest low e h order = (subst (IsBefore k) (sym h.0) (looked_up_before k s (spelling_at_token src i) low), used_in_order table src s k xs rest low e h.1 order)
used_in_order table src s k ((role.ClosingName, i) ∷ xs) rest low e h order = (subst (IsBefore k) (sym h.0) tt, used_in_order table src s k xs rest low e h.1 order)
used_in_order table src s k ((role.FieldName, i) ∷ xs) rest low e h order = (subst (IsBefore k) (sym h.0) tt, used_in_order table src s k xs rest low e h.1 order)
used_in_order table src s k ((role.ModuleName, i) ∷ xs) rest low e h order = (subst (IsBefore k) (sym h.0) tt, used_in_order table src s k xs rest low e h.1 order)

pub record At (v : WalkState) (src : Spellings) (s : Scope Name) (k : ℕ) : Type 0 where
  pub spellings : v.spellings ≡ src
  pub scope : v.scope ≡ s
  pub next : 7 + length v.declaration_tokens ≡ k
  pub before : AreBefore k s

pub at_start : (src : Spellings) → At (initial_walk_state src) src (predeclared_scope naming_by_spelling) 7
at_start src = record { spellings = refl; scope = refl; next = refl; before = names_before 0 (map naming_by_spelling.predeclared (0 ∷ 1 ∷ 2 ∷ 3 ∷ 4 ∷ 5 ∷ 6 ∷ [])) [] 7 (omega arith) tt }

joined : {X Y : Type 0} (f : List X → List Y) (xs ys : List X) (a b c : List Y) → f (xs ++ ys) ≡ f xs ++ f ys → b ≡ a ++ f xs → c ≡ b ++ f ys → c ≡ a ++ f (xs ++ ys)
joined f xs ys a b c split e g = g ∙ (ap (λ z. z ++ f ys) e ∙ (append_assoc a (f xs) (f ys) ∙ ap (λ z. a ++ z) (sym split)))

-- states that a scope is another scope with newer bindings
pub record Extends (s s' : Scope Name) : Type 0 where
  pub newer : List (Name × ℕ)
  pub is : s' ≡ newer ++ s

extends_nothing : (s : Scope Name) → Extends s s
extends_nothing s = record { newer = []; is = refl }

one_extends : (b : Name × ℕ) (s : Scope Name) → Extends s (b ∷ s)
one_extends b s = record { newer = b ∷ []; is = refl }

extends_then : {s t u : Scope Name} → Extends s t → Extends t u → Extends s u
extends_then {s = s} e f = record { newer = f.newer ++ e.newer; is = f.is ∙ (ap (λ z. f.newer ++ z) e.is ∙ sym (append_assoc f.newer e.newer s)) }

names_extend : (k : ℕ) (xs : List Name) (s : Scope Name) → Extends s (declare_names k xs s)
names_extend k [] s = extends_nothing s
names_extend k (x ∷ xs) s = extends_then (one_extends (x, k) s) (names_extend (suc k) xs ((x, k) ∷ s))

procedures_extend : (k : ℕ) (ps : Tree Name (items procedure)) (s : Scope Name) → Extends s (declare_procedure_names k ps s)
procedures_extend k end s = extends_nothing s
procedures_extend k (more p rest) s = extends_then (one_extends (procedure_name p, k) s) (procedures_extend (ordinal_after_procedure (suc k) p) rest ((procedure_name p, k) ∷ s))

block_extends : (k : ℕ) (b : Tree Name block) (s : Scope Name) → Extends s (body_scope k b s)
block_extends k (forms_block (declares cs ts vs ps) statements) s =
    let xs = constant_names (section_constants cs) in
    let ys = declared_type_names (section_types ts) in
    let zs = variable_names (section_variables vs) in
    extends_then (names_extend k xs s)
    (extends_then (names_extend (ordinal_after_names k xs) ys (declare_names k xs s))
    (extends_then (names_extend (ordinal_after_names (ordinal_after_names k xs) ys) zs (declare_names (ordinal_after_names k xs) ys (declare_names k xs s)))
    (procedures_extend (ordinal_after_names (ordinal_after_names (ordinal_after_names k xs) ys) zs) ps (declare_names (ordinal_after_names (ordinal_after_names k xs) ys) zs (declare_names (ordinal_after_names k xs) ys (declare_names k xs s))))))

left_extends : {s s' : Scope Name} → Extends s s' → drop (length s' - length s) s' ≡ s
left_extends {s = s} e =
    let count : length (e.newer ++ s) - length s ≡ length e.newer + 0 = omega (arith, length-append e.newer s) in
    ap (λ z. drop (length z - length s) z) e.is ∙ (ap (λ n. drop n (e.newer ++ s)) count ∙ drop-append-add e.newer s 0)

-- states which state follows the identifiers of a part that declares nothing
pub record FoundAll (table : ℕ → Option ℕ) (src : Spellings) (v w : WalkState) (xs : List (Role × ℕ)) : Type 0 where
  pub spellings : w.spellings ≡ v.spellings
  pub scope : w.scope ≡ v.scope
  pub kept : w.declaration_tokens ≡ v.declaration_tokens
  pub used : w.uses ≡ v.uses ++ looked_up_only xs
  pub tokens : tokens_of w.marks ≡ tokens_of v.marks ++ names_without_roles xs
  pub agree : v.spellings ≡ src → HasMarks table w.marks → HasMarks table v.marks × AllFit table src v.scope xs

mark_added : (ms : List OrdinalMark) (m : OrdinalMark) → tokens_of (ms ++ (m ∷ [])) ≡ tokens_of ms ++ (m.token ∷ [])
mark_added ms m = map-append (λ m. m.token) ms (m ∷ [])

found_none : (table : ℕ → Option ℕ) (src : Spellings) (i : ℕ) (v : WalkState) → HasMarks table (with_mark i None v).marks → HasMarks table v.marks × (table i ≡ None) × Unit {0}
found_none table src i v h = let m = marks_split table v.marks (record { token = i; ordinal = None } ∷ []) h in (m.0, m.1.0, tt)

found_one : (table : ℕ → Option ℕ) (src : Spellings) (r : Role) (i : ℕ) (v : WalkState) → FoundAll table src v (visit_identifier r i v) ((r, i) ∷ [])
found_one table src role.LookedUpName i v =
    let m : OrdinalMark = record { token = i; ordinal = ordinal_in_scope naming_by_spelling v.scope (spelling_at_token v.spellings i) } in
    record {
      spellings = refl;
      scope = refl;
      kept = refl;
      used = refl;
      tokens = mark_added v.marks m;
      agree = λ e h.
          let parts = marks_split table v.marks (m ∷ []) h in
          (parts.0, (parts.1.0 ∙ ap (λ z. ordinal_in_scope naming_by_spelling v.scope (spelling_at_token z i)) e, tt));
    }
found_one table src role.DeclaringName i v = record { spellings = refl; scope = refl; kept = refl; used = sym (append-nil v.uses); tokens = mark_added v.marks (record { token = i; ordinal = None }); agree = λ e h. let f = found_none table src i v h in (f.0, (f.1, tt)) }
found_one table src role.ClosingName i v = record { spellings = refl; scope = refl; kept = refl; used = sym (append-nil v.uses); tokens = mark_added v.marks (record { token = i; ordinal = None }); agree = λ e h. let f = found_none table src i v h in (f.0, (f.1, tt)) }
found_one table src role.FieldName i v = record { spellings = refl; scope = refl; kept = refl; used = sym (append-nil v.uses); tokens = mark_added v.marks (record { token = i; ordinal = None }); agree = λ e h. let f = found_none table src i v h in (f.0, (f.1, tt)) }
found_one table src role.ModuleName i v = record { spellings = refl; scope = refl; kept = refl; used = sym (append-nil v.uses); tokens = mark_added v.marks (record { token = i; ordinal = None }); agree = λ e h. let f = found_none table src i v h in (f.0, (f.1, tt)) }

pub found_every : (table : ℕ → Option ℕ) (src : Spellings) (xs : List (Role × ℕ)) (v : WalkState) → FoundAll table src v (visit_identifiers xs v) xs
found_every table src [] v = record { spellings = refl; scope = refl; kept = refl; used = sym (append-nil v.uses); tokens = sym (append-nil (tokens_of v.marks)); agree = λ e h. (h, tt) }
found_every table src (x ∷ xs) v =
    let a = found_one table src x.0 x.1 v in
    let b = found_every table src xs (visit_identifier x.0 x.1 v) in
    record {
      spellings = b.spellings ∙ a.spellings;
      scope = b.scope ∙ a.scope;
      kept = b.kept ∙ a.kept;
      used = joined looked_up_only (x ∷ []) xs _ _ _ (looked_up_only-append (x ∷ []) xs) a.used b.used;
      tokens = joined names_without_roles (x ∷ []) xs _ _ _ (map-append (λ x. x.1) (x ∷ []) xs) a.tokens b.tokens;
      agree = λ e h.
          let later = b.agree (a.spellings ∙ e) h in
          let now = a.agree e later.0 in
          (now.0, (now.1.0, subst (λ s. AllFit table src s xs) a.scope later.1));
    }

-- states which state follows a part: its identifiers, the names visible after it, the next ordinal,
-- and the claim P about a table with all marks
pub record Passed (table : ℕ → Option ℕ) (src : Spellings) (v w : WalkState) (ids : List (Role × ℕ)) (s : Scope Name) (k : ℕ) (P : Type 0) : Type 0 where
  pub at : At w src s k
  pub declared : w.declaration_tokens ≡ v.declaration_tokens ++ declaring_names ids
  pub used : w.uses ≡ v.uses ++ looked_up_only ids
  pub tokens : tokens_of w.marks ≡ tokens_of v.marks ++ names_without_roles ids
  pub agree : HasMarks table w.marks → HasMarks table v.marks × P
  pub in_order : HasMarks table w.marks → (later : List (Role × ℕ)) → AreInOrder table k later → AreInOrder table (7 + length v.declaration_tokens) (ids ++ later)

module _ {M : Type 0} (table : ℕ → Option ℕ) (label : Labelling Name M) (src : Spellings) (value : ℕ → ℕ) where
  abbrev Passes : WalkState → WalkState → List (Role × ℕ) → Scope Name → ℕ → Type 0 → Type 0
  Passes = Passed table src

  -- returns a part with the spellings as its names, and any numbers
  abbrev spelled : {s : Sort} → Tree ℕ s → Tree Name s
  spelled t = mapped_tree (spelling_at_token src) value t

  -- returns a part with the table's ordinals as labels
  abbrev by_table : {s : Sort} → Tree ℕ s → Tree M s
  by_table t = mapped_tree (λ i. label (table i) (spelling_at_token src i)) value t

  pass_nothing : (v : WalkState) (s : Scope Name) (k : ℕ) → At v src s k → Passes v v [] s k (Unit {0})
  pass_nothing v s k at = record { at = at; declared = sym (append-nil v.declaration_tokens); used = sym (append-nil v.uses); tokens = sym (append-nil (tokens_of v.marks)); agree = λ h. (h, tt); in_order = λ h later. subst (λ n. AreInOrder table n later) (sym at.next) }

  pass_then : {a b c : WalkState} {xs ys : List (Role × ℕ)} {s s' : Scope Name} {k k' : ℕ} {P Q : Type 0} → Passes a b xs s k P → Passes b c ys s' k' Q → Passes a c (xs ++ ys) s' k' (Two P Q)
  pass_then {a = a} {xs = xs} {ys = ys} p q =
      record {
        at = q.at;
        declared = joined declaring_names xs ys _ _ _ (declaring_names-append xs ys) p.declared q.declared;
        used = joined looked_up_only xs ys _ _ _ (looked_up_only-append xs ys) p.used q.used;
        tokens = joined names_without_roles xs ys _ _ _ (map-append (λ x. x.1) xs ys) p.tokens q.tokens;
        agree = λ h. let later = q.agree h in let now = p.agree later.0 in (now.0, record { first = now.1; second = later.1 });
        in_order = λ h later o.
            subst (AreInOrder table (7 + length a.declaration_tokens)) (sym (append_assoc xs ys later))
            (p.in_order (q.agree h).0 (ys ++ later) (subst (λ n. AreInOrder table n (ys ++ later)) p.at.next (q.in_order h later o)));
      }

  pass_to : {a b : WalkState} {xs : List (Role × ℕ)} {s : Scope Name} {k : ℕ} {P Q : Type 0} → Passes a b xs s k P → (P → Q) → Passes a b xs s k Q
  pass_to p f = record { at = p.at; declared = p.declared; used = p.used; tokens = p.tokens; agree = λ h. let x = p.agree h in (x.0, f x.1); in_order = p.in_order }

  pass_is : {a b : WalkState} {xs ys : List (Role × ℕ)} {s s' : Scope Name} {k k' : ℕ} {P : Type 0} → xs ≡ ys → s ≡ s' → k ≡ k' → Passes a b xs s k P → Passes a b ys s' k' P
  pass_is {a = a} {s = s} {s' = s'} {k = k} e f g p =
      record {
        at = record { spellings = p.at.spellings; scope = p.at.scope ∙ f; next = p.at.next ∙ g; before = subst (λ n. AreBefore n s') g (subst (AreBefore k) f p.at.before) };
        declared = p.declared ∙ ap (λ ids. a.declaration_tokens ++ declaring_names ids) e;
        used = p.used ∙ ap (λ ids. a.uses ++ looked_up_only ids) e;
        tokens = p.tokens ∙ ap (λ ids. tokens_of a.marks ++ names_without_roles ids) e;
        agree = p.agree;
        in_order = λ h later o.
            subst (λ ids. AreInOrder table (7 + length a.declaration_tokens) (ids ++ later)) e (p.in_order h later (subst (λ n. AreInOrder table n later) (sym g) o));
      }

  used_passed : {σ : Sort} (t : Tree ℕ σ) (v : WalkState) (s : Scope Name) (k : ℕ) → IsPlain σ → At v src s k
      → Passes v (visit_nondeclaring_tree t v) (identifiers role.DeclaringName t) s k (relabel_uses naming_by_spelling label s (spelled t) ≡ by_table t)
  used_passed t v s k is_plain at =
      let plain = (declares_nothing is_plain t).plain in
      let f = found_every table src (identifiers role.DeclaringName t) v in
      record {
        at = record { spellings = f.spellings ∙ at.spellings; scope = f.scope ∙ at.scope; next = ap (λ ds. 7 + length ds) f.kept ∙ at.next; before = at.before };
        declared = f.kept ∙ (sym (append-nil v.declaration_tokens) ∙ ap (λ ds. v.declaration_tokens ++ ds) (sym plain));
        used = f.used;
        tokens = f.tokens;
        agree = λ h.
            let x = f.agree at.spellings h in
            (x.0, (agreed table label src s value role.DeclaringName (λ i e. e) t).reads (subst (λ s. AllFit table src s (identifiers role.DeclaringName t)) at.scope x.1));
        in_order = λ h later o.
            let fit = subst (λ s. AllFit table src s (identifiers role.DeclaringName t)) at.scope (f.agree at.spellings h).1 in
            subst (λ n. AreInOrder table n (identifiers role.DeclaringName t ++ later)) (sym at.next) (used_in_order table src s k (identifiers role.DeclaringName t) later at.before plain fit o);
      }

  number_passed : (x : ℕ) (v : WalkState) (s : Scope Name) (k : ℕ) → At v src s k → Passes v (number_declaration x v) ((role.DeclaringName, x) ∷ []) s (suc k) (table x ≡ Some k)
  number_passed x v s k at =
      let m : OrdinalMark = record { token = x; ordinal = Some (7 + length v.declaration_tokens) } in
      record {
        at = record { spellings = at.spellings; scope = at.scope; next = omega (arith, length-append v.declaration_tokens (x ∷ []), at.next); before = before_later k (suc k) s (omega arith) at.before };
        declared = refl;
        used = sym (append-nil v.uses);
        tokens = mark_added v.marks m;
        agree = λ h. let parts = marks_split table v.marks (m ∷ []) h in (parts.0, parts.1.0 ∙ ap Some at.next);
        in_order = λ h later o. ((marks_split table v.marks (m ∷ []) h).1.0, subst (λ n. AreInOrder table (suc n) later) (sym at.next) o);
      }

  mark_passed : (r : Role) (x : ℕ) (ordinal : Option ℕ) (v : WalkState) (s : Scope Name) (k : ℕ) → declaring_names ((r, x) ∷ []) ≡ [] → looked_up_only ((r, x) ∷ []) ≡ [] → IsBefore k ordinal → At v src s k
      → Passes v (with_mark x ordinal v) ((r, x) ∷ []) s k (table x ≡ ordinal)
  mark_passed r x ordinal v s k no_declaration no_use low at =
      let m : OrdinalMark = record { token = x; ordinal = ordinal } in
      record {
        at = record { spellings = at.spellings; scope = at.scope; next = at.next; before = at.before };
        declared = sym (append-nil v.declaration_tokens) ∙ ap (λ ds. v.declaration_tokens ++ ds) (sym no_declaration);
        used = sym (append-nil v.uses) ∙ ap (λ us. v.uses ++ us) (sym no_use);
        tokens = mark_added v.marks m;
        agree = λ h. let parts = marks_split table v.marks (m ∷ []) h in (parts.0, parts.1.0);
        in_order = λ h later o.
            let here = subst (IsBefore k) (sym (marks_split table v.marks (m ∷ []) h).1.0) low in
            subst (λ n. AreInOrder table n ((r, x) ∷ later)) (sym at.next) (other_in_order table k r x later no_declaration here o);
      }

  -- holds if names have the ordinals from k upwards
  abbrev HasNumbers : ℕ → List ℕ → Type 0
  HasNumbers k [] = Unit {0}
  HasNumbers k (x ∷ xs) = (table x ≡ Some k) × HasNumbers (suc k) xs

  abbrev all_declaring : List ℕ → List (Role × ℕ)
  all_declaring xs = map (λ x. (role.DeclaringName, x)) xs

  numbers_passed : (xs : List ℕ) (v : WalkState) (s : Scope Name) (k : ℕ) → At v src s k → Passes v (number_declarations xs v) (all_declaring xs) s (ordinal_after_names k (map (spelling_at_token src) xs)) (HasNumbers k xs)
  numbers_passed [] v s k at = pass_nothing v s k at
  numbers_passed (x ∷ xs) v s k at =
      let here = number_passed x v s k at in
      pass_to (pass_then here (numbers_passed xs (number_declaration x v) s (suc k) here.at)) (λ p. (p.first, p.second))

  further_declaring : (ns : Tree ℕ (items name_after_comma)) → all_declaring (names_after_first ns) ≡ identifiers role.DeclaringName ns
  further_declaring end = refl
  further_declaring (more (comma_then_name x) rest) = λ i. (role.DeclaringName, x) ∷ further_declaring rest i

  names_declaring : (ns : Tree ℕ names) → all_declaring (names_in_list ns) ≡ identifiers role.DeclaringName ns
  names_declaring (listed x rest) = λ i. (role.DeclaringName, x) ∷ further_declaring rest i

  further_named : (ns : Tree ℕ (items name_after_comma)) → map (spelling_at_token src) (names_after_first ns) ≡ names_after_first (spelled ns)
  further_named end = refl
  further_named (more (comma_then_name x) rest) = λ i. spelling_at_token src x ∷ further_named rest i

  names_named : (ns : Tree ℕ names) → map (spelling_at_token src) (names_in_list ns) ≡ names_in_list (spelled ns)
  names_named (listed x rest) = λ i. spelling_at_token src x ∷ further_named rest i

  further_agree : (ns : Tree ℕ (items name_after_comma)) (k : ℕ) → HasNumbers k (names_after_first ns) → relabel_names_after_first label k (spelled ns) ≡ by_table ns
  further_agree end k h = refl
  further_agree (more (comma_then_name x) rest) k h = λ i. more (comma_then_name (label (sym h.0 i) (spelling_at_token src x))) (further_agree rest (suc k) h.1 i)

  names_agree : (ns : Tree ℕ names) (k : ℕ) → HasNumbers k (names_in_list ns) → relabel_names label k (spelled ns) ≡ by_table ns
  names_agree (listed x rest) k h = λ i. listed (label (sym h.0 i) (spelling_at_token src x)) (further_agree rest (suc k) h.1 i)

  names_passed : (ns : Tree ℕ names) (v : WalkState) (s : Scope Name) (k : ℕ) → At v src s k
      → Passes v (number_declarations (names_in_list ns) v) (identifiers role.DeclaringName ns) s (ordinal_after_names k (names_in_list (spelled ns))) (relabel_names label k (spelled ns) ≡ by_table ns)
  names_passed ns v s k at =
      pass_is (names_declaring ns) refl (ap (ordinal_after_names k) (names_named ns)) (pass_to (numbers_passed (names_in_list ns) v s k at) (names_agree ns k))

  drop_past : (xs ys : List ℕ) → drop (length xs) (xs ++ ys) ≡ ys
  drop_past xs ys = let n : length xs + 0 ≡ length xs = omega arith in ap (λ n. drop n (xs ++ ys)) (sym n) ∙ drop-append-add xs ys 0

  -- The declarations of a part are visible after it.
  show_passed : {a b : WalkState} {xs : List (Role × ℕ)} {s s' : Scope Name} {k k' : ℕ} {P : Type 0} (ns : List Name) → At a src s k → map (spelling_at_token src) (declaring_names xs) ≡ ns → Passes a b xs s' k' P
      → Passes a (with_names_visible_from_index (length a.declaration_tokens) b) xs (declare_names k ns s') k' P
  show_passed {a = a} {b = b} {xs = xs} {s' = s'} {k = k} {k' = k'} ns at are p =
      let left : drop (length a.declaration_tokens) b.declaration_tokens ≡ declaring_names xs = ap (drop (length a.declaration_tokens)) p.declared ∙ drop_past a.declaration_tokens (declaring_names xs) in
      let visible : declare_names (7 + length a.declaration_tokens) (map (spelling_at_token b.spellings) (drop (length a.declaration_tokens) b.declaration_tokens)) b.scope ≡ declare_names k ns s' =
      (λ i. declare_names (at.next i) (map (spelling_at_token (p.at.spellings i)) (left i)) (p.at.scope i)) ∙ ap (λ ns. declare_names k ns s') are in
      let count : k + length ns ≤ k' = omega (arith, at.next, p.at.next, ap length p.declared, length-append a.declaration_tokens (declaring_names xs), length-map (spelling_at_token src) (declaring_names xs), ap length are) in
      record {
        at = record { spellings = p.at.spellings; scope = visible; next = p.at.next; before = names_before k ns s' k' count p.at.before };
        declared = p.declared;
        used = p.used;
        tokens = p.tokens;
        agree = p.agree;
        in_order = p.in_order;
      }

  listed_declaring : (xs : List ℕ) → declaring_names (all_declaring xs) ≡ xs
  listed_declaring [] = refl
  listed_declaring (x ∷ xs) = λ i. x ∷ listed_declaring xs i

  group_declaring : (ns : Tree ℕ names) (t : Tree ℕ written_type) → declaring_names (identifiers role.DeclaringName ns ++ identifiers role.DeclaringName t) ≡ names_in_list ns
  group_declaring ns t =
      declaring_names-append (identifiers role.DeclaringName ns) (identifiers role.DeclaringName t)
      ∙ ((λ i. declaring_names (sym (names_declaring ns) i) ++ (declares_nothing tt t).plain i) ∙ (append-nil (declaring_names (all_declaring (names_in_list ns))) ∙ listed_declaring (names_in_list ns)))

  -- Names of one type are visible after their type.
  group_passed : (ns : Tree ℕ names) (t : Tree ℕ written_type) (v : WalkState) (s : Scope Name) (k : ℕ) → At v src s k
      → Passes v (with_names_visible_from_index (length v.declaration_tokens) (visit_nondeclaring_tree t (number_declarations (names_in_list ns) v))) (identifiers role.DeclaringName ns ++ identifiers role.DeclaringName t)
      (declare_names k (names_in_list (spelled ns)) s) (ordinal_after_names k (names_in_list (spelled ns)))
      (Two (relabel_names label k (spelled ns) ≡ by_table ns) (relabel_uses naming_by_spelling label s (spelled t) ≡ by_table t))
  group_passed ns t v s k at =
      let a = names_passed ns v s k at in
      let b = used_passed t (number_declarations (names_in_list ns) v) s (ordinal_after_names k (names_in_list (spelled ns))) tt a.at in
      show_passed (names_in_list (spelled ns)) at (ap (map (spelling_at_token src)) (group_declaring ns t) ∙ names_named ns) (pass_then a b)

  constants_passed : (cs : Tree ℕ (items constant)) (v : WalkState) (s : Scope Name) (k : ℕ) → At v src s k
      → Passes v (visit_constants cs v) (identifiers role.DeclaringName cs) (declare_names k (constant_names (spelled cs)) s) (ordinal_after_names k (constant_names (spelled cs)))
      (relabel_constants naming_by_spelling label s k (spelled cs) ≡ by_table cs)
  constants_passed end v s k at = pass_to (pass_nothing v s k at) (λ h. refl)
  constants_passed (more (declares_constant x e) cs) v s k at =
      let a = number_passed x v s k at in
      let b = used_passed e (number_declaration x v) s (suc k) tt a.at in
      let c = show_passed (spelling_at_token src x ∷ []) at (ap (λ xs. spelling_at_token src x ∷ map (spelling_at_token src) xs) (declares_nothing tt e).plain) (pass_then a b) in
      pass_to (pass_then c (constants_passed cs (visit_constant (declares_constant x e) v) ((spelling_at_token src x, k) ∷ s) (suc k) c.at))
      (λ p i. more (declares_constant (label (sym p.first.first i) (spelling_at_token src x)) (p.first.second i)) (p.second i))

  types_passed : (ts : Tree ℕ (items type_definition)) (v : WalkState) (s : Scope Name) (k : ℕ) → At v src s k
      → Passes v (visit_types ts v) (identifiers role.DeclaringName ts) (declare_names k (declared_type_names (spelled ts)) s) (ordinal_after_names k (declared_type_names (spelled ts)))
      (relabel_types naming_by_spelling label s k (spelled ts) ≡ by_table ts)
  types_passed end v s k at = pass_to (pass_nothing v s k at) (λ h. refl)
  types_passed (more (declares_type x t) ts) v s k at =
      let a = number_passed x v s k at in
      let b = used_passed t (number_declaration x v) s (suc k) tt a.at in
      let c = show_passed (spelling_at_token src x ∷ []) at (ap (λ xs. spelling_at_token src x ∷ map (spelling_at_token src) xs) (declares_nothing tt t).plain) (pass_then a b) in
      pass_to (pass_then c (types_passed ts (visit_type (declares_type x t) v) ((spelling_at_token src x, k) ∷ s) (suc k) c.at))
      (λ p i. more (declares_type (label (sym p.first.first i) (spelling_at_token src x)) (p.first.second i)) (p.second i))

  variables_passed : (gs : Tree ℕ (items variable)) (v : WalkState) (s : Scope Name) (k : ℕ) → At v src s k
      → Passes v (visit_variables gs v) (identifiers role.DeclaringName gs) (declare_names k (variable_names (spelled gs)) s) (ordinal_after_names k (variable_names (spelled gs)))
      (relabel_variables naming_by_spelling label s k (spelled gs) ≡ by_table gs)
  variables_passed end v s k at = pass_to (pass_nothing v s k at) (λ h. refl)
  variables_passed (more (declares_variable ns t) gs) v s k at =
      let xs = names_in_list (spelled ns) in
      let rest = variable_names (spelled gs) in
      let a = group_passed ns t v s k at in
      pass_is refl (sym (declare_names-append k xs rest s)) (sym (ordinal_after_names-append k xs rest))
      (pass_to (pass_then a (variables_passed gs (visit_variable (declares_variable ns t) v) (declare_names k xs s) (ordinal_after_names k xs) a.at))
      (λ p i. more (declares_variable (p.first.first i) (p.first.second i)) (p.second i)))

  section_passed : (f : Tree ℕ section) (v : WalkState) (s : Scope Name) (k : ℕ) → At v src s k
      → Passes v (visit_parameter_section f v) (identifiers role.DeclaringName f) (declare_names k (parameter_section_names (spelled f)) s) (ordinal_after_names k (parameter_section_names (spelled f)))
      (relabel_parameter_section naming_by_spelling label s k (spelled f) ≡ by_table f)
  section_passed (value_section ns t) v s k at = pass_to (group_passed ns t v s k at) (λ p i. value_section (p.first i) (p.second i))
  section_passed (variable_section ns t) v s k at = pass_to (group_passed ns t v s k at) (λ p i. variable_section (p.first i) (p.second i))

  sections_passed : (fs : Tree ℕ (items section_after_semicolon)) (v : WalkState) (s : Scope Name) (k : ℕ) → At v src s k
      → Passes v (visit_parameter_sections fs v) (identifiers role.DeclaringName fs) (declare_names k (formal_parameter_names (spelled fs)) s) (ordinal_after_names k (formal_parameter_names (spelled fs)))
      (relabel_parameter_section_list naming_by_spelling label s k (spelled fs) ≡ by_table fs)
  sections_passed end v s k at = pass_to (pass_nothing v s k at) (λ h. refl)
  sections_passed (more (semicolon_then_section f) fs) v s k at =
      let xs = parameter_section_names (spelled f) in
      let rest = formal_parameter_names (spelled fs) in
      let a = section_passed f v s k at in
      pass_is refl (sym (declare_names-append k xs rest s)) (sym (ordinal_after_names-append k xs rest))
      (pass_to (pass_then a (sections_passed fs (visit_parameter_section f v) (declare_names k xs s) (ordinal_after_names k xs) a.at))
      (λ p i. more (semicolon_then_section (p.first i)) (p.second i)))

  section_declaring : (f : Tree ℕ section) → map (spelling_at_token src) (declaring_names (identifiers role.DeclaringName f)) ≡ parameter_section_names (spelled f)
  section_declaring (value_section ns t) = ap (map (spelling_at_token src)) (group_declaring ns t) ∙ names_named ns
  section_declaring (variable_section ns t) = ap (map (spelling_at_token src)) (group_declaring ns t) ∙ names_named ns

  sections_declaring : (fs : Tree ℕ (items section_after_semicolon)) → map (spelling_at_token src) (declaring_names (identifiers role.DeclaringName fs)) ≡ formal_parameter_names (spelled fs)
  sections_declaring end = refl
  sections_declaring (more (semicolon_then_section f) fs) =
      let xs = identifiers role.DeclaringName f in
      let ys = identifiers role.DeclaringName fs in
      ap (map (spelling_at_token src)) (declaring_names-append xs ys) ∙ (map-append (spelling_at_token src) (declaring_names xs) (declaring_names ys) ∙ (λ i. section_declaring f i ++ sections_declaring fs i))

  formals_passed : (fs : Tree ℕ (maybe formals)) (v : WalkState) (s : Scope Name) (k : ℕ) → At v src s k
      → Passes v (visit_formals fs v) (identifiers role.DeclaringName fs) (declare_names k (formal_parameter_names (formal_parameter_sections (spelled fs))) s) (ordinal_after_names k (formal_parameter_names (formal_parameter_sections (spelled fs))))
      (relabel_formals naming_by_spelling label s k (spelled fs) ≡ by_table fs)
  formals_passed none v s k at = pass_to (pass_nothing v s k at) (λ h. refl)
  formals_passed (one no_formals) v s k at = pass_to (pass_nothing v s k at) (λ h. refl)
  formals_passed (one (some_formals f fs)) v s k at =
      let xs = parameter_section_names (spelled f) in
      let rest = formal_parameter_names (spelled fs) in
      let a = section_passed f v s k at in
      pass_is refl (sym (declare_names-append k xs rest s)) (sym (ordinal_after_names-append k xs rest))
      (pass_to (pass_then a (sections_passed fs (visit_parameter_section f v) (declare_names k xs s) (ordinal_after_names k xs) a.at))
      (λ p i. one (some_formals (p.first i) (p.second i))))

  formals_declaring : (fs : Tree ℕ (maybe formals)) → map (spelling_at_token src) (declaring_names (identifiers role.DeclaringName fs)) ≡ formal_parameter_names (formal_parameter_sections (spelled fs))
  formals_declaring none = refl
  formals_declaring (one no_formals) = refl
  formals_declaring (one (some_formals f fs)) = sections_declaring (more (semicolon_then_section f) fs)

  constant_section_passed : (cs : Tree ℕ (maybe constants)) (v : WalkState) (s : Scope Name) (k : ℕ) → At v src s k
      → Passes v (visit_constant_section cs v) (identifiers role.DeclaringName cs) (declare_names k (constant_names (section_constants (spelled cs))) s) (ordinal_after_names k (constant_names (section_constants (spelled cs))))
      (relabel_constant_section naming_by_spelling label s k (spelled cs) ≡ by_table cs)
  constant_section_passed none v s k at = pass_to (pass_nothing v s k at) (λ h. refl)
  constant_section_passed (one (declares_const_section cs)) v s k at = pass_to (constants_passed cs v s k at) (λ p i. one (declares_const_section (p i)))

  type_section_passed : (ts : Tree ℕ (maybe type_definitions)) (v : WalkState) (s : Scope Name) (k : ℕ) → At v src s k
      → Passes v (visit_type_section ts v) (identifiers role.DeclaringName ts) (declare_names k (declared_type_names (section_types (spelled ts))) s) (ordinal_after_names k (declared_type_names (section_types (spelled ts))))
      (relabel_type_section naming_by_spelling label s k (spelled ts) ≡ by_table ts)
  type_section_passed none v s k at = pass_to (pass_nothing v s k at) (λ h. refl)
  type_section_passed (one (declares_type_section ts)) v s k at = pass_to (types_passed ts v s k at) (λ p i. one (declares_type_section (p i)))

  variable_section_passed : (vs : Tree ℕ (maybe variables)) (v : WalkState) (s : Scope Name) (k : ℕ) → At v src s k
      → Passes v (visit_variable_section vs v) (identifiers role.DeclaringName vs) (declare_names k (variable_names (section_variables (spelled vs))) s) (ordinal_after_names k (variable_names (section_variables (spelled vs))))
      (relabel_variable_section naming_by_spelling label s k (spelled vs) ≡ by_table vs)
  variable_section_passed none v s k at = pass_to (pass_nothing v s k at) (λ h. refl)
  variable_section_passed (one (declares_var_section vs)) v s k at = pass_to (variables_passed vs v s k at) (λ p i. one (declares_var_section (p i)))

  left_passed : {a b : WalkState} {xs : List (Role × ℕ)} {s s' : Scope Name} {k' : ℕ} {P : Type 0} (outer : ℕ) → outer ≡ length s → Extends s s' → Passes a b xs s' k' P → Passes a (with_oldest_bindings outer b) xs s k' P
  left_passed {b = b} {s = s} {k' = k'} outer count extends p =
      record {
        at = record { spellings = p.at.spellings; scope = (λ i. drop (length (p.at.scope i) - count i) (p.at.scope i)) ∙ left_extends extends; next = p.at.next; before = older_before k' extends.newer s (subst (AreBefore k') extends.is p.at.before) };
        declared = p.declared;
        used = p.used;
        tokens = p.tokens;
        agree = p.agree;
        in_order = p.in_order;
      }

  -- The name and the parameters of a procedure are passed like any part.
  heading_passed : (x : ℕ) (fs : Tree ℕ (maybe formals)) (v : WalkState) (s : Scope Name) (k : ℕ) → At v src s k
      → Passes v (state_after_heading (length v.declaration_tokens) (length v.scope) (visit_formals fs (number_declaration x v))) ((role.DeclaringName, x) ∷ identifiers role.DeclaringName fs)
      (declare_names (suc k) (formal_parameter_names (formal_parameter_sections (spelled fs))) ((spelling_at_token src x, k) ∷ s)) (ordinal_after_names (suc k) (formal_parameter_names (formal_parameter_sections (spelled fs))))
      (Two (table x ≡ Some k) (relabel_formals naming_by_spelling label s (suc k) (spelled fs) ≡ by_table fs))
  heading_passed x fs v s k at =
      let name = spelling_at_token src x in
      let formal = formal_parameter_names (formal_parameter_sections (spelled fs)) in
      let a = number_passed x v s k at in
      let f = formals_passed fs (number_declaration x v) s (suc k) a.at in
      let heading = left_passed (length v.scope) (ap length at.scope) (names_extend (suc k) formal s) (pass_then a f) in
      show_passed (name ∷ formal) at (ap (λ xs. name ∷ xs) (formals_declaring fs)) heading

  mutual
    block_passed : (b : Tree ℕ block) (v : WalkState) (s : Scope Name) (k : ℕ) → At v src s k
        → Passes v (visit_block b v) (identifiers role.DeclaringName b) (body_scope k (spelled b) s) (ordinal_after_block k (spelled b))
        (relabel_block naming_by_spelling label s k (spelled b) ≡ by_table b)
    block_passed (forms_block (declares cs ts vs ps) statements) v s k at =
        let xs = constant_names (section_constants (spelled cs)) in
        let ys = declared_type_names (section_types (spelled ts)) in
        let zs = variable_names (section_variables (spelled vs)) in
        let a = constant_section_passed cs v s k at in
        let v₁ = visit_constant_section cs v in
        let b = type_section_passed ts v₁ (declare_names k xs s) (ordinal_after_names k xs) a.at in
        let v₂ = visit_type_section ts v₁ in
        let c = variable_section_passed vs v₂ (declare_names (ordinal_after_names k xs) ys (declare_names k xs s)) (ordinal_after_names (ordinal_after_names k xs) ys) b.at in
        let v₃ = visit_variable_section vs v₂ in
        let d = procedures_passed ps v₃ (declare_names (ordinal_after_names (ordinal_after_names k xs) ys) zs (declare_names (ordinal_after_names k xs) ys (declare_names k xs s))) (ordinal_after_names (ordinal_after_names (ordinal_after_names k xs) ys) zs) c.at in
        let e = used_passed statements (visit_procedure_list ps v₃) (body_scope k (spelled (forms_block (declares cs ts vs ps) statements)) s) (ordinal_after_block k (spelled (forms_block (declares cs ts vs ps) statements))) tt d.at in
        pass_to (pass_then (pass_then a (pass_then b (pass_then c d))) e)
        (λ p i. forms_block (declares (p.first.first i) (p.first.second.first i) (p.first.second.second.first i) (p.first.second.second.second i)) (p.second i))

    procedures_passed : (ps : Tree ℕ (items procedure)) (v : WalkState) (s : Scope Name) (k : ℕ) → At v src s k
        → Passes v (visit_procedure_list ps v) (identifiers role.DeclaringName ps) (declare_procedure_names k (spelled ps) s) (ordinal_after_procedure_list k (spelled ps))
        (relabel_procedure_list naming_by_spelling label s k (spelled ps) ≡ by_table ps)
    procedures_passed end v s k at = pass_to (pass_nothing v s k at) (λ h. refl)
    procedures_passed (more p ps) v s k at =
        let a = procedure_passed p v s k at in
        pass_to (pass_then a (procedures_passed ps (visit_procedure p v) ((procedure_name (spelled p), k) ∷ s) (ordinal_after_procedure (suc k) (spelled p)) a.at))
        (λ q i. more (q.first i) (q.second i))

    procedure_passed : (p : Tree ℕ (item procedure)) (v : WalkState) (s : Scope Name) (k : ℕ) → At v src s k
        → Passes v (visit_procedure p v) (identifiers role.DeclaringName p) ((procedure_name (spelled p), k) ∷ s) (ordinal_after_procedure (suc k) (spelled p))
        (relabel_procedure naming_by_spelling label s k (spelled p) ≡ by_table p)
    procedure_passed (declares_procedure x fs b closing) v s k at =
        let own = length v.declaration_tokens in
        let outside = length v.scope in
        let name = spelling_at_token src x in
        let formal = formal_parameter_names (formal_parameter_sections (spelled fs)) in
        let k₁ = ordinal_after_names (suc k) formal in
        let inside = declare_names (suc k) formal ((name, k) ∷ s) in
        let count : outside ≡ length s = ap length at.scope in
        let h = heading_passed x fs v s k at in
        let v₃ = state_after_heading own outside (visit_formals fs (number_declaration x v)) in
        let g = block_passed b v₃ inside k₁ h.at in
        let whole = pass_then h g in
        let e = extends_then (extends_then (one_extends (name, k) s) (names_extend (suc k) formal ((name, k) ∷ s))) (block_extends k₁ (spelled b) inside) in
        let following = left_passed outside count e whole in
        let low : k < ordinal_after_block k₁ (spelled b) = omega (arith, le-ordinal_after_names (suc k) formal, le-ordinal_after_block k₁ (spelled b)) in
        let shown_again : At (state_after_procedure_block x (7 + own) outside (visit_block b v₃)) src ((name, k) ∷ s) (ordinal_after_block k₁ (spelled b)) =
        record { spellings = following.at.spellings; scope = (λ i. (spelling_at_token (following.at.spellings i) x, at.next i) ∷ following.at.scope i); next = following.at.next; before = (low, following.at.before) } in
        let visible : Passes v (state_after_procedure_block x (7 + own) outside (visit_block b v₃)) (((role.DeclaringName, x) ∷ identifiers role.DeclaringName fs) ++ identifiers role.DeclaringName b) ((name, k) ∷ s) (ordinal_after_block k₁ (spelled b)) _ =
        record { at = shown_again; declared = following.declared; used = following.used; tokens = following.tokens; agree = following.agree; in_order = following.in_order } in
        let last = mark_passed role.ClosingName closing (Some (7 + own)) (state_after_procedure_block x (7 + own) outside (visit_block b v₃)) ((name, k) ∷ s) (ordinal_after_block k₁ (spelled b)) refl refl (omega (arith, low, at.next)) shown_again in
        pass_is (append_assoc ((role.DeclaringName, x) ∷ identifiers role.DeclaringName fs) (identifiers role.DeclaringName b) ((role.ClosingName, closing) ∷ []) ∙ append_assoc ((role.DeclaringName, x) ∷ []) (identifiers role.DeclaringName fs) (identifiers role.DeclaringName b ++ ((role.ClosingName, closing) ∷ []))) refl refl
        (pass_to (pass_then visible last)
        (λ p i. declares_procedure (label (sym p.first.first.first i) name) (p.first.first.second i) (p.first.second i) (label (sym (p.second ∙ ap Some at.next) i) (spelling_at_token src closing))))

  pub module_passed_with : (m : Tree ℕ module_text) (v : WalkState) → At v src (predeclared_scope naming_by_spelling) 7
      → Passes v (visit_module m v) (identifiers role.DeclaringName m) (body_scope 7 (module_block (spelled m)) (predeclared_scope naming_by_spelling)) (ordinal_after_block 7 (module_block (spelled m)))
      (relabel_module naming_by_spelling label (spelled m) ≡ by_table m)
  module_passed_with (forms_module x b closing) v at =
      let s = predeclared_scope naming_by_spelling in
      let a = mark_passed role.ModuleName x None v s 7 refl refl tt at in
      let g = block_passed b (with_mark x None v) s 7 a.at in
      let last = mark_passed role.ModuleName closing None (visit_block b (with_mark x None v)) (body_scope 7 (spelled b) s) (ordinal_after_block 7 (spelled b)) refl refl tt g.at in
      pass_to (pass_then a (pass_then g last))
      (λ p i. forms_module (label (sym p.first i) (spelling_at_token src x)) (p.second.first i) (label (sym p.second.second i) (spelling_at_token src closing)))

pub module_passed : {M : Type 0} (table : ℕ → Option ℕ) (label : Labelling Name M) (src : Spellings) (m : Tree ℕ module_text) (v : WalkState) → At v src (predeclared_scope naming_by_spelling) 7
    → Passed table src v (visit_module m v) (identifiers role.DeclaringName m) (body_scope 7 (module_block (tree_with_spellings src m)) (predeclared_scope naming_by_spelling)) (ordinal_after_block 7 (module_block (tree_with_spellings src m)))
    (relabel_module naming_by_spelling label (tree_with_spellings src m) ≡ mapped_tree (λ i. label (table i) (spelling_at_token src i)) (token_value_at src.source) m)
module_passed table label src = module_passed_with table label src (token_value_at src.source)
