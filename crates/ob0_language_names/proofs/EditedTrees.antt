-- Inlining leaves a tree without uses of the constant unchanged. Two namings that agree at a tree's
-- occurrences give the same tree. An edit of a module writes a literal in place of uses of a
-- constant, or removes the constant's declaration, or does both or neither.
use Rattle.std.proofs.Common.{Bool, List, [], add-zero, ap, arith, eqb-true, false, if◌then◌else◌, length, ne_eqb, refl, subst, suc, sym, true, ℕ, ◌&&◌, ◌++◌, ◌+◌, ◌<◌, ◌==◌, ◌∙◌, ◌∷◌, ◌≡◌}
use Rattle.ob0_tree.specs.Tree.{Sort, Tree, adds, array_type, assigns, begins, block, branches, calls, compares, constant, constants, declares, declares_constant, declares_const_section, declares_procedure, declares_type, declares_type_section, declares_variable, declares_var_section, designator, else_branch, elsif_branch, empty, end, factor, field, name_after_comma, forms_block, index, integer, forms_module, item, items, listed, maybe, module_text, more, multiplies, named_type, names, negation, no_arguments, no_fields, no_formals, none, occurrences, one, parenthesised, procedure, product, record_type, relates, repeat_loop, runs, some_arguments, some_fields, some_formals, sum, comma_then_argument, semicolon_then_fields, comma_then_name, semicolon_then_section, semicolon_then_statement, value_section, variable_section, while_loop}
use Rattle.ob0_language_names.specs.Inlining.{OccurrenceSet, block_without_constant, inline_in_tree, inlined, module_without_constant, procedure_without_constant, procedure_list_without_constant, section_without_constant, constant_list_without_constant}
use Rattle.ob0_language_names.specs.MappedNames.{map_names}
use Rattle.ob0_language_names.specs.Names.{Name}
use Rattle.ob0_language_names.specs.BlockParts.{formal_parameter_names, formal_parameter_sections}
use Rattle.ob0_language_names.specs.Scopes.{ordinal_after_names, ordinal_after_procedure, first_procedure_ordinal}

abbrev pub UsesNone : OccurrenceSet → ℕ → List Name → Type 0
UsesNone uses k [] = Unit {0}
UsesNone uses k (x ∷ xs) = (uses k ≡ false) × UsesNone uses (suc k) xs

pub none-split : (uses : OccurrenceSet) (k : ℕ) (xs ys : List Name) → UsesNone uses k (xs ++ ys) → UsesNone uses k xs × UsesNone uses (k + length xs) ys
none-split uses k [] ys h = (tt, subst (λ n. UsesNone uses n ys) (sym (add-zero k)) h)
none-split uses k (x ∷ xs) ys h =
    let g = none-split uses (suc k) xs ys h.1 in
    let e : suc k + length xs ≡ k + suc (length xs) = omega arith in
    ((h.0, g.0), subst (λ n. UsesNone uses n ys) e g.1)

further-nothing : (uses : OccurrenceSet) (v : Tree Name factor) (k : ℕ) (ns : Tree Name (items name_after_comma)) → inline_in_tree uses v k ns ≡ ns
further-nothing uses v k end = refl
further-nothing uses v k (more (comma_then_name x) ns) = λ i. more (comma_then_name x) (further-nothing uses v (k + 0) ns i)

pub inline-nothing : {s : Sort} (uses : OccurrenceSet) (v : Tree Name factor) (k : ℕ) (t : Tree Name s) → UsesNone uses k (occurrences t) → inline_in_tree uses v k t ≡ t
inline-nothing uses v k none u = refl
inline-nothing uses v k (one t) u = λ i. one (inline-nothing uses v k t u i)
inline-nothing uses v k end u = refl
inline-nothing uses v k (more t ts) u = let s0 = none-split uses k (occurrences t) (occurrences ts) u in λ i. more (inline-nothing uses v k t s0.0 i) (inline-nothing uses v (k + length (occurrences t)) ts s0.1 i)
inline-nothing uses v k (compares left compared) u = let s0 = none-split uses k (occurrences left) (occurrences compared) u in λ i. compares (inline-nothing uses v k left s0.0 i) (inline-nothing uses v (k + length (occurrences left)) compared s0.1 i)
inline-nothing uses v k (relates relation right) u = λ i. relates relation (inline-nothing uses v k right u i)
inline-nothing uses v k (sum sign first terms) u = let s0 = none-split uses k (occurrences first) (occurrences terms) u in λ i. sum sign (inline-nothing uses v k first s0.0 i) (inline-nothing uses v (k + length (occurrences first)) terms s0.1 i)
inline-nothing uses v k (adds operator t) u = λ i. adds operator (inline-nothing uses v k t u i)
inline-nothing uses v k (product first factors) u = let s0 = none-split uses k (occurrences first) (occurrences factors) u in λ i. product (inline-nothing uses v k first s0.0 i) (inline-nothing uses v (k + length (occurrences first)) factors s0.1 i)
inline-nothing uses v k (multiplies operator t0) u = λ i. multiplies operator (inline-nothing uses v k t0 u i)
inline-nothing uses v k (designator name end) u = ap (λ b. if b then v else designator name end) u.0
inline-nothing uses v k (designator name (more s rest)) u = λ i. designator name (inline-nothing uses v (suc k) (more s rest) u.1 i)
inline-nothing uses v k (integer n) u = refl
inline-nothing uses v k (parenthesised e) u = λ i. parenthesised (inline-nothing uses v k e u i)
inline-nothing uses v k (negation t0) u = λ i. negation (inline-nothing uses v k t0 u i)
inline-nothing uses v k (field name) u = refl
inline-nothing uses v k (index e) u = λ i. index (inline-nothing uses v k e u i)
inline-nothing uses v k empty u = refl
inline-nothing uses v k (assigns name selectors e) u = let s0 = none-split uses (suc k) (occurrences selectors) (occurrences e) u.1 in λ i. assigns name (inline-nothing uses v (suc k) selectors s0.0 i) (inline-nothing uses v (suc k + length (occurrences selectors)) e s0.1 i)
inline-nothing uses v k (calls name args) u = λ i. calls name (inline-nothing uses v (suc k) args u.1 i)
inline-nothing uses v k (branches condition s elsifs rest) u = let s0 = none-split uses k (occurrences condition) (occurrences s ++ (occurrences elsifs ++ (occurrences rest))) u in let s1 = none-split uses (k + length (occurrences condition)) (occurrences s) (occurrences elsifs ++ (occurrences rest)) s0.1 in let s2 = none-split uses (k + length (occurrences condition) + length (occurrences s)) (occurrences elsifs) (occurrences rest) s1.1 in λ i. branches (inline-nothing uses v k condition s0.0 i) (inline-nothing uses v (k + length (occurrences condition)) s s1.0 i) (inline-nothing uses v (k + length (occurrences condition) + length (occurrences s)) elsifs s2.0 i) (inline-nothing uses v (k + length (occurrences condition) + length (occurrences s) + length (occurrences elsifs)) rest s2.1 i)
inline-nothing uses v k (while_loop condition s) u = let s0 = none-split uses k (occurrences condition) (occurrences s) u in λ i. while_loop (inline-nothing uses v k condition s0.0 i) (inline-nothing uses v (k + length (occurrences condition)) s s0.1 i)
inline-nothing uses v k (repeat_loop s condition) u = let s0 = none-split uses k (occurrences s) (occurrences condition) u in λ i. repeat_loop (inline-nothing uses v k s s0.0 i) (inline-nothing uses v (k + length (occurrences s)) condition s0.1 i)
inline-nothing uses v k no_arguments u = refl
inline-nothing uses v k (some_arguments e es) u = let s0 = none-split uses k (occurrences e) (occurrences es) u in λ i. some_arguments (inline-nothing uses v k e s0.0 i) (inline-nothing uses v (k + length (occurrences e)) es s0.1 i)
inline-nothing uses v k (comma_then_argument e) u = λ i. comma_then_argument (inline-nothing uses v k e u i)
inline-nothing uses v k (runs first statements) u = let s0 = none-split uses k (occurrences first) (occurrences statements) u in λ i. runs (inline-nothing uses v k first s0.0 i) (inline-nothing uses v (k + length (occurrences first)) statements s0.1 i)
inline-nothing uses v k (semicolon_then_statement s) u = λ i. semicolon_then_statement (inline-nothing uses v k s u i)
inline-nothing uses v k (elsif_branch condition s) u = let s0 = none-split uses k (occurrences condition) (occurrences s) u in λ i. elsif_branch (inline-nothing uses v k condition s0.0 i) (inline-nothing uses v (k + length (occurrences condition)) s s0.1 i)
inline-nothing uses v k (else_branch s) u = λ i. else_branch (inline-nothing uses v k s u i)
inline-nothing uses v k (listed name others) u = λ i. listed name (further-nothing uses v k others i)
inline-nothing uses v k (comma_then_name name) u = refl
inline-nothing uses v k (named_type name) u = refl
inline-nothing uses v k (array_type size t) u = let s0 = none-split uses k (occurrences size) (occurrences t) u in λ i. array_type (inline-nothing uses v k size s0.0 i) (inline-nothing uses v (k + length (occurrences size)) t s0.1 i)
inline-nothing uses v k (record_type first others) u = let s0 = none-split uses k (occurrences first) (occurrences others) u in λ i. record_type (inline-nothing uses v k first s0.0 i) (inline-nothing uses v (k + length (occurrences first)) others s0.1 i)
inline-nothing uses v k no_fields u = refl
inline-nothing uses v k (some_fields ns t) u = λ i. some_fields ns (inline-nothing uses v k t u i)
inline-nothing uses v k (semicolon_then_fields t0) u = λ i. semicolon_then_fields (inline-nothing uses v k t0 u i)
inline-nothing uses v k no_formals u = refl
inline-nothing uses v k (some_formals first others) u = let s0 = none-split uses k (occurrences first) (occurrences others) u in λ i. some_formals (inline-nothing uses v k first s0.0 i) (inline-nothing uses v (k + length (occurrences first)) others s0.1 i)
inline-nothing uses v k (value_section ns t) u = λ i. value_section ns (inline-nothing uses v k t u i)
inline-nothing uses v k (variable_section ns t) u = λ i. variable_section ns (inline-nothing uses v k t u i)
inline-nothing uses v k (semicolon_then_section s) u = λ i. semicolon_then_section (inline-nothing uses v k s u i)
inline-nothing uses v k (declares_constant name e) u = λ i. declares_constant name (inline-nothing uses v k e u i)
inline-nothing uses v k (declares_const_section cs) u = λ i. declares_const_section (inline-nothing uses v k cs u i)
inline-nothing uses v k (declares_type name t) u = λ i. declares_type name (inline-nothing uses v k t u i)
inline-nothing uses v k (declares_type_section ts) u = λ i. declares_type_section (inline-nothing uses v k ts u i)
inline-nothing uses v k (declares_variable ns t) u = λ i. declares_variable ns (inline-nothing uses v k t u i)
inline-nothing uses v k (declares_var_section vs) u = λ i. declares_var_section (inline-nothing uses v k vs u i)
inline-nothing uses v k (declares_procedure name fs b closing) u = let s0 = none-split uses k (occurrences fs) (occurrences b) u in λ i. declares_procedure name (inline-nothing uses v k fs s0.0 i) (inline-nothing uses v (k + length (occurrences fs)) b s0.1 i) closing
inline-nothing uses v k (declares cs ts vs ps) u = let s0 = none-split uses k (occurrences cs) (occurrences ts ++ (occurrences vs ++ (occurrences ps))) u in let s1 = none-split uses (k + length (occurrences cs)) (occurrences ts) (occurrences vs ++ (occurrences ps)) s0.1 in let s2 = none-split uses (k + length (occurrences cs) + length (occurrences ts)) (occurrences vs) (occurrences ps) s1.1 in λ i. declares (inline-nothing uses v k cs s0.0 i) (inline-nothing uses v (k + length (occurrences cs)) ts s1.0 i) (inline-nothing uses v (k + length (occurrences cs) + length (occurrences ts)) vs s2.0 i) (inline-nothing uses v (k + length (occurrences cs) + length (occurrences ts) + length (occurrences vs)) ps s2.1 i)
inline-nothing uses v k (begins s) u = λ i. begins (inline-nothing uses v k s u i)
inline-nothing uses v k (forms_block ds b) u = let s0 = none-split uses k (occurrences ds) (occurrences b) u in λ i. forms_block (inline-nothing uses v k ds s0.0 i) (inline-nothing uses v (k + length (occurrences ds)) b s0.1 i)
inline-nothing uses v k (forms_module name b closing) u = λ i. forms_module name (inline-nothing uses v k b u i) closing

abbrev pub SameAt : {N M : Type 0} → (N → M) → (N → M) → List N → Type 0
SameAt f g [] = Unit {0}
SameAt f g (x ∷ xs) = (f x ≡ g x) × SameAt f g xs

pub same-split : {N M : Type 0} (f g : N → M) (xs ys : List N) → SameAt f g (xs ++ ys) → SameAt f g xs × SameAt f g ys
same-split f g [] ys h = (tt, h)
same-split f g (x ∷ xs) ys h = let s = same-split f g xs ys h.1 in ((h.0, s.0), s.1)

pub further-same : {N M : Type 0} (f g h : N → M) (ns : Tree N (items name_after_comma)) → map_names f h ns ≡ map_names g h ns
further-same f g h end = refl
further-same f g h (more (comma_then_name x) ns) = λ i. more (comma_then_name (h x)) (further-same f g h ns i)

pub names-same : {N M : Type 0} (f g h : N → M) (ns : Tree N names) → map_names f h ns ≡ map_names g h ns
names-same f g h (listed x ns) = λ i. listed (h x) (further-same f g h ns i)

pub map_names-same : {N M : Type 0} {s : Sort} (f g h : N → M) (t : Tree N s) → SameAt f g (occurrences t) → map_names f h t ≡ map_names g h t
map_names-same f g h none u = refl
map_names-same f g h (one t) u = λ i. one (map_names-same f g h t u i)
map_names-same f g h end u = refl
map_names-same f g h (more t ts) u = let s0 = same-split f g (occurrences t) (occurrences ts) u in λ i. more (map_names-same f g h t s0.0 i) (map_names-same f g h ts s0.1 i)
map_names-same f g h (compares left compared) u = let s0 = same-split f g (occurrences left) (occurrences compared) u in λ i. compares (map_names-same f g h left s0.0 i) (map_names-same f g h compared s0.1 i)
map_names-same f g h (relates relation right) u = λ i. relates relation (map_names-same f g h right u i)
map_names-same f g h (sum sign first terms) u = let s0 = same-split f g (occurrences first) (occurrences terms) u in λ i. sum sign (map_names-same f g h first s0.0 i) (map_names-same f g h terms s0.1 i)
map_names-same f g h (adds operator t) u = λ i. adds operator (map_names-same f g h t u i)
map_names-same f g h (product first factors) u = let s0 = same-split f g (occurrences first) (occurrences factors) u in λ i. product (map_names-same f g h first s0.0 i) (map_names-same f g h factors s0.1 i)
map_names-same f g h (multiplies operator t0) u = λ i. multiplies operator (map_names-same f g h t0 u i)
map_names-same f g h (designator name selectors) u = λ i. designator (u.0 i) (map_names-same f g h selectors u.1 i)
map_names-same f g h (integer n) u = refl
map_names-same f g h (parenthesised e) u = λ i. parenthesised (map_names-same f g h e u i)
map_names-same f g h (negation t0) u = λ i. negation (map_names-same f g h t0 u i)
map_names-same f g h (field name) u = refl
map_names-same f g h (index e) u = λ i. index (map_names-same f g h e u i)
map_names-same f g h empty u = refl
map_names-same f g h (assigns name selectors e) u = let s0 = same-split f g (occurrences selectors) (occurrences e) u.1 in λ i. assigns (u.0 i) (map_names-same f g h selectors s0.0 i) (map_names-same f g h e s0.1 i)
map_names-same f g h (calls name args) u = λ i. calls (u.0 i) (map_names-same f g h args u.1 i)
map_names-same f g h (branches condition s elsifs rest) u = let s0 = same-split f g (occurrences condition) (occurrences s ++ (occurrences elsifs ++ (occurrences rest))) u in let s1 = same-split f g (occurrences s) (occurrences elsifs ++ (occurrences rest)) s0.1 in let s2 = same-split f g (occurrences elsifs) (occurrences rest) s1.1 in λ i. branches (map_names-same f g h condition s0.0 i) (map_names-same f g h s s1.0 i) (map_names-same f g h elsifs s2.0 i) (map_names-same f g h rest s2.1 i)
map_names-same f g h (while_loop condition s) u = let s0 = same-split f g (occurrences condition) (occurrences s) u in λ i. while_loop (map_names-same f g h condition s0.0 i) (map_names-same f g h s s0.1 i)
map_names-same f g h (repeat_loop s condition) u = let s0 = same-split f g (occurrences s) (occurrences condition) u in λ i. repeat_loop (map_names-same f g h s s0.0 i) (map_names-same f g h condition s0.1 i)
map_names-same f g h no_arguments u = refl
map_names-same f g h (some_arguments e es) u = let s0 = same-split f g (occurrences e) (occurrences es) u in λ i. some_arguments (map_names-same f g h e s0.0 i) (map_names-same f g h es s0.1 i)
map_names-same f g h (comma_then_argument e) u = λ i. comma_then_argument (map_names-same f g h e u i)
map_names-same f g h (runs first statements) u = let s0 = same-split f g (occurrences first) (occurrences statements) u in λ i. runs (map_names-same f g h first s0.0 i) (map_names-same f g h statements s0.1 i)
map_names-same f g h (semicolon_then_statement s) u = λ i. semicolon_then_statement (map_names-same f g h s u i)
map_names-same f g h (elsif_branch condition s) u = let s0 = same-split f g (occurrences condition) (occurrences s) u in λ i. elsif_branch (map_names-same f g h condition s0.0 i) (map_names-same f g h s s0.1 i)
map_names-same f g h (else_branch s) u = λ i. else_branch (map_names-same f g h s u i)
map_names-same f g h (listed name others) u = λ i. listed (h name) (further-same f g h others i)
map_names-same f g h (comma_then_name name) u = refl
map_names-same f g h (named_type name) u = λ i. named_type (u.0 i)
map_names-same f g h (array_type size t) u = let s0 = same-split f g (occurrences size) (occurrences t) u in λ i. array_type (map_names-same f g h size s0.0 i) (map_names-same f g h t s0.1 i)
map_names-same f g h (record_type first others) u = let s0 = same-split f g (occurrences first) (occurrences others) u in λ i. record_type (map_names-same f g h first s0.0 i) (map_names-same f g h others s0.1 i)
map_names-same f g h no_fields u = refl
map_names-same f g h (some_fields ns t) u = λ i. some_fields (names-same f g h ns i) (map_names-same f g h t u i)
map_names-same f g h (semicolon_then_fields t0) u = λ i. semicolon_then_fields (map_names-same f g h t0 u i)
map_names-same f g h no_formals u = refl
map_names-same f g h (some_formals first others) u = let s0 = same-split f g (occurrences first) (occurrences others) u in λ i. some_formals (map_names-same f g h first s0.0 i) (map_names-same f g h others s0.1 i)
map_names-same f g h (value_section ns t) u = λ i. value_section (names-same f g h ns i) (map_names-same f g h t u i)
map_names-same f g h (variable_section ns t) u = λ i. variable_section (names-same f g h ns i) (map_names-same f g h t u i)
map_names-same f g h (semicolon_then_section s) u = λ i. semicolon_then_section (map_names-same f g h s u i)
map_names-same f g h (declares_constant name e) u = λ i. declares_constant (h name) (map_names-same f g h e u i)
map_names-same f g h (declares_const_section cs) u = λ i. declares_const_section (map_names-same f g h cs u i)
map_names-same f g h (declares_type name t) u = λ i. declares_type (h name) (map_names-same f g h t u i)
map_names-same f g h (declares_type_section ts) u = λ i. declares_type_section (map_names-same f g h ts u i)
map_names-same f g h (declares_variable ns t) u = λ i. declares_variable (names-same f g h ns i) (map_names-same f g h t u i)
map_names-same f g h (declares_var_section vs) u = λ i. declares_var_section (map_names-same f g h vs u i)
map_names-same f g h (declares_procedure name fs b closing) u = let s0 = same-split f g (occurrences fs) (occurrences b) u in λ i. declares_procedure (h name) (map_names-same f g h fs s0.0 i) (map_names-same f g h b s0.1 i) (h closing)
map_names-same f g h (declares cs ts vs ps) u = let s0 = same-split f g (occurrences cs) (occurrences ts ++ (occurrences vs ++ (occurrences ps))) u in let s1 = same-split f g (occurrences ts) (occurrences vs ++ (occurrences ps)) s0.1 in let s2 = same-split f g (occurrences vs) (occurrences ps) s1.1 in λ i. declares (map_names-same f g h cs s0.0 i) (map_names-same f g h ts s1.0 i) (map_names-same f g h vs s2.0 i) (map_names-same f g h ps s2.1 i)
map_names-same f g h (begins s) u = λ i. begins (map_names-same f g h s u i)
map_names-same f g h (forms_block ds b) u = let s0 = same-split f g (occurrences ds) (occurrences b) u in λ i. forms_block (map_names-same f g h ds s0.0 i) (map_names-same f g h b s0.1 i)
map_names-same f g h (forms_module name b closing) u = λ i. forms_module (h name) (map_names-same f g h b u i) (h closing)

-- an edit: the occurrences that the literal replaces, the literal, the constant, and whether the constant's declaration
-- is removed
pub record Edit : Type 0 where
  pub uses : OccurrenceSet
  pub literal : Tree Name factor
  pub constant : ℕ
  pub gone : Bool

abbrev pub leaf : {s : Sort} → Edit → ℕ → Tree Name s → Tree Name s
leaf edit j t = inline_in_tree edit.uses edit.literal j t

abbrev pub edited_constants : Edit → ℕ → ℕ → Tree Name (items constant) → Tree Name (items constant)
edited_constants edit j k end = end
edited_constants edit j k (more (declares_constant x e) cs) =
    if edit.gone && (k == edit.constant) then edited_constants edit (j + length (occurrences e)) (suc k) cs
    else more (declares_constant x (leaf edit j e)) (edited_constants edit (j + length (occurrences e)) (suc k) cs)

abbrev pub edited_section : Edit → ℕ → ℕ → Tree Name (maybe constants) → Tree Name (maybe constants)
edited_section edit j k none = none
edited_section edit j k (one (declares_const_section cs)) = one (declares_const_section (edited_constants edit j k cs))

abbrev mutual
  pub edited_block : Edit → ℕ → ℕ → Tree Name block → Tree Name block
  edited_block edit j k (forms_block (declares cs ts vs ps) statements) =
      forms_block
      (declares (edited_section edit j k cs) (leaf edit (j + length (occurrences cs)) ts) (leaf edit (j + length (occurrences cs) + length (occurrences ts)) vs)
      (edited_procedures edit (j + length (occurrences cs) + length (occurrences ts) + length (occurrences vs)) (first_procedure_ordinal k (forms_block (declares cs ts vs ps) statements)) ps))
      (leaf edit (j + length (occurrences (declares cs ts vs ps))) statements)

  pub edited_procedures : Edit → ℕ → ℕ → Tree Name (items procedure) → Tree Name (items procedure)
  edited_procedures edit j k end = end
  edited_procedures edit j k (more p rest) = more (edited_procedure edit j (suc k) p) (edited_procedures edit (j + length (occurrences p)) (ordinal_after_procedure (suc k) p) rest)

  pub edited_procedure : Edit → ℕ → ℕ → Tree Name (item procedure) → Tree Name (item procedure)
  edited_procedure edit j k (declares_procedure x fs b closing) =
      declares_procedure x (leaf edit j fs) (edited_block edit (j + length (occurrences fs)) (ordinal_after_names k (formal_parameter_names (formal_parameter_sections fs))) b) closing

-- If no declaration is removed, an edited block is the block with the literals written in.

abbrev pub writing : OccurrenceSet → Tree Name factor → ℕ → Edit
writing uses v d = record { uses = uses; literal = v; constant = d; gone = false }

written-constants : (uses : OccurrenceSet) (v : Tree Name factor) (d j k : ℕ) (cs : Tree Name (items constant)) → edited_constants (writing uses v d) j k cs ≡ inline_in_tree uses v j cs
written-constants uses v d j k end = refl
written-constants uses v d j k (more (declares_constant x e) cs) = λ i. more (declares_constant x (inline_in_tree uses v j e)) (written-constants uses v d (j + length (occurrences e)) (suc k) cs i)

written-section : (uses : OccurrenceSet) (v : Tree Name factor) (d j k : ℕ) (cs : Tree Name (maybe constants)) → edited_section (writing uses v d) j k cs ≡ inline_in_tree uses v j cs
written-section uses v d j k none = refl
written-section uses v d j k (one (declares_const_section cs)) = λ i. one (declares_const_section (written-constants uses v d j k cs i))

mutual
  pub written-block : (uses : OccurrenceSet) (v : Tree Name factor) (d j k : ℕ) (b : Tree Name block) → edited_block (writing uses v d) j k b ≡ inline_in_tree uses v j b
  written-block uses v d j k (forms_block (declares cs ts vs ps) statements) = λ i.
      forms_block
      (declares (written-section uses v d j k cs i) (inline_in_tree uses v (j + length (occurrences cs)) ts) (inline_in_tree uses v (j + length (occurrences cs) + length (occurrences ts)) vs)
      (written-procedures uses v d (j + length (occurrences cs) + length (occurrences ts) + length (occurrences vs)) (first_procedure_ordinal k (forms_block (declares cs ts vs ps) statements)) ps i))
      (inline_in_tree uses v (j + length (occurrences (declares cs ts vs ps))) statements)

  written-procedures : (uses : OccurrenceSet) (v : Tree Name factor) (d j k : ℕ) (ps : Tree Name (items procedure)) → edited_procedures (writing uses v d) j k ps ≡ inline_in_tree uses v j ps
  written-procedures uses v d j k end = refl
  written-procedures uses v d j k (more p rest) = λ i.
      more (written-procedure uses v d j (suc k) p i) (written-procedures uses v d (j + length (occurrences p)) (ordinal_after_procedure (suc k) p) rest i)

  written-procedure : (uses : OccurrenceSet) (v : Tree Name factor) (d j k : ℕ) (p : Tree Name (item procedure)) → edited_procedure (writing uses v d) j k p ≡ inline_in_tree uses v j p
  written-procedure uses v d j k (declares_procedure x fs b closing) = λ i.
      declares_procedure x (inline_in_tree uses v j fs) (written-block uses v d (j + length (occurrences fs)) (ordinal_after_names k (formal_parameter_names (formal_parameter_sections fs))) b i) closing

-- If there are no uses, an edited block is the block without the declaration.

abbrev pub no_uses : OccurrenceSet
no_uses k = false

uses-none : (k : ℕ) (xs : List Name) → UsesNone no_uses k xs
uses-none k [] = tt
uses-none k (x ∷ xs) = (refl, uses-none (suc k) xs)

pub leaf-kept : {s : Sort} (v : Tree Name factor) (k : ℕ) (t : Tree Name s) → inline_in_tree no_uses v k t ≡ t
leaf-kept v k t = inline-nothing no_uses v k t (uses-none k (occurrences t))

abbrev pub leaving_out : Tree Name factor → ℕ → Edit
leaving_out v d = record { uses = no_uses; literal = v; constant = d; gone = true }

left-later : (v : Tree Name factor) (d j k : ℕ) (cs : Tree Name (items constant)) → d < k → edited_constants (leaving_out v d) j k cs ≡ cs
left-later v d j k end h = refl
left-later v d j k (more (declares_constant x e) cs) h =
    ap (λ b. if b then edited_constants (leaving_out v d) (j + length (occurrences e)) (suc k) cs else more (declares_constant x (leaf (leaving_out v d) j e)) (edited_constants (leaving_out v d) (j + length (occurrences e)) (suc k) cs))
    (ne_eqb k d (λ e. omega (arith, e, h)))
    ∙ (λ i. more (declares_constant x (leaf-kept v j e i)) (left-later v d (j + length (occurrences e)) (suc k) cs (omega (arith, h)) i))

left-constants : (v : Tree Name factor) (d j k : ℕ) (cs : Tree Name (items constant)) → edited_constants (leaving_out v d) j k cs ≡ constant_list_without_constant d k cs
left-constants v d j k end = refl
left-constants v d j k (more (declares_constant x e) cs) =
    (elim (k == d) as (λ b. k == d ≡ b → (if b then edited_constants (leaving_out v d) (j + length (occurrences e)) (suc k) cs else more (declares_constant x (leaf (leaving_out v d) j e)) (edited_constants (leaving_out v d) (j + length (occurrences e)) (suc k) cs))
    ≡ (if b then cs else more (declares_constant x e) (constant_list_without_constant d (suc k) cs))) [
      | true ↦ λ h. left-later v d (j + length (occurrences e)) (suc k) cs (omega (arith, eqb-true k d h))
      | false ↦ λ h i. more (declares_constant x (leaf-kept v j e i)) (left-constants v d (j + length (occurrences e)) (suc k) cs i)
    ]) refl

left-section : (v : Tree Name factor) (d j k : ℕ) (cs : Tree Name (maybe constants)) → edited_section (leaving_out v d) j k cs ≡ section_without_constant d k cs
left-section v d j k none = refl
left-section v d j k (one (declares_const_section cs)) = λ i. one (declares_const_section (left-constants v d j k cs i))

mutual
  pub left-block : (v : Tree Name factor) (d j k : ℕ) (b : Tree Name block) → edited_block (leaving_out v d) j k b ≡ block_without_constant d k b
  left-block v d j k (forms_block (declares cs ts vs ps) statements) = λ i.
      forms_block
      (declares (left-section v d j k cs i) (leaf-kept v (j + length (occurrences cs)) ts i) (leaf-kept v (j + length (occurrences cs) + length (occurrences ts)) vs i)
      (left-procedures v d (j + length (occurrences cs) + length (occurrences ts) + length (occurrences vs)) (first_procedure_ordinal k (forms_block (declares cs ts vs ps) statements)) ps i))
      (leaf-kept v (j + length (occurrences (declares cs ts vs ps))) statements i)

  left-procedures : (v : Tree Name factor) (d j k : ℕ) (ps : Tree Name (items procedure)) → edited_procedures (leaving_out v d) j k ps ≡ procedure_list_without_constant d k ps
  left-procedures v d j k end = refl
  left-procedures v d j k (more p rest) = λ i.
      more (left-procedure v d j (suc k) p i) (left-procedures v d (j + length (occurrences p)) (ordinal_after_procedure (suc k) p) rest i)

  left-procedure : (v : Tree Name factor) (d j k : ℕ) (p : Tree Name (item procedure)) → edited_procedure (leaving_out v d) j k p ≡ procedure_without_constant d k p
  left-procedure v d j k (declares_procedure x fs b closing) = λ i.
      declares_procedure x (leaf-kept v j fs i) (left-block v d (j + length (occurrences fs)) (ordinal_after_names k (formal_parameter_names (formal_parameter_sections fs))) b i) closing

abbrev pub edited : Edit → Tree Name module_text → Tree Name module_text
edited edit (forms_module x b closing) = forms_module x (edited_block edit 0 7 b) closing

pub written-module : (uses : OccurrenceSet) (v : Tree Name factor) (d : ℕ) (m : Tree Name module_text) → edited (writing uses v d) m ≡ inlined m uses v
written-module uses v d (forms_module x b closing) = λ i. forms_module x (written-block uses v d 0 7 b i) closing

pub left-module : (v : Tree Name factor) (d : ℕ) (m : Tree Name module_text) → edited (leaving_out v d) m ≡ module_without_constant d m
left-module v d (forms_module x b closing) = λ i. forms_module x (left-block v d 0 7 b i) closing
