-- Proves that the inlined module is deeper than the module by at most the nesting of the value's
-- factor: at most one level, and none if the value is written without parentheses. Removing a
-- declaration makes no tree deeper.
use Rattle.std.proofs.Common.{◌≡◌, ℕ, suc, ◌+◌, ◌≤◌, ◌==◌, Bool, true, false, length, if◌then◌else◌, nat_lt, refl, arith}
use Rattle.std.specs.Prelude.{negsuc}
use Rattle.ob0_tree.specs.ParsedModule.{ParsedModule, TreeMatchesText, named_tree_of, tree_of}
use Rattle.ob0_tree.specs.Module.{max_nesting}
use Rattle.ob0_tree.specs.TokenIndexLeaves as leaf
use Rattle.ob0_tree.specs.Tree.{Sort, Tree, block, constant, constants, factor, item, items, maybe, module_text, nesting, occurrences, procedure, adds, array_type, assigns, begins, branches, calls, compares, declares, declares_constant, declares_const_section, declares_procedure, declares_type, declares_type_section, declares_variable, declares_var_section, designator, else_branch, elsif_branch, end, forms_block, index, forms_module, more, multiplies, negation, none, one, parenthesised, product, record_type, relates, repeat_loop, runs, some_arguments, some_fields, some_formals, sum, comma_then_argument, semicolon_then_fields, semicolon_then_section, semicolon_then_statement, value_section, variable_section, while_loop}
use Rattle.ob0_tree.proofs.Mapped.{nesting_mapped}
use Rattle.ob0_language_names.specs.Inlining.{OccurrenceSet, occurrences_bound_to_ordinal, block_without_constant, inline_in_tree, inlined, module_without_constant, procedure_without_constant, procedure_list_without_constant, section_without_constant, constant_list_without_constant}
use Rattle.ob0_language_names.specs.Names.{Name}
use Rattle.ob0_language_names.specs.BlockParts.{formal_parameter_names, formal_parameter_sections}
use Rattle.ob0_language_names.specs.Scopes.{ordinal_after_names, ordinal_after_procedure, first_procedure_ordinal}
use Rattle.ob0_language_values.specs.declared.scalar.Scalar.{Scalar}
use Rattle.ob0_language_values.specs.declared.scalar.Scalar.TheVariants as scalar
use Rattle.ob0_inline.specs.declared.declared_constants.DeclaredConstant.{DeclaredConstant}
use Rattle.ob0_inline.specs.Everywhere.{tree_inlined_everywhere}
use Rattle.ob0_inline.specs.Values.{value_factor}

either_shallow : (b : Bool) (v w : Tree Name factor) → nesting v ≤ 1 → nesting w ≤ 1 → nesting (if b then v else w) ≤ 1
either_shallow true v w h g = h
either_shallow false v w h g = g

pub value_shallow : (value : Scalar) → nesting (value_factor value) ≤ 1
value_shallow (scalar.Number (negsuc n)) = either_shallow (nat_lt n 2147483647) _ _ (omega arith) (omega arith)
value_shallow _ = omega arith

module _ (uses : OccurrenceSet) (v : Tree Name factor) where
  name_low : (x : Name) (b : Bool) → nesting (if b then v else designator x end) ≤ nesting v
  name_low x true = omega arith
  name_low x false = omega arith

  -- Replacing names by a factor makes a tree deeper by at most the factor's nesting.
  inlined_low : {s : Sort} (k : ℕ) (t : Tree Name s) → nesting (inline_in_tree uses v k t) ≤ nesting t + nesting v
  inlined_low k (one t) = omega (arith, inlined_low k t)
  inlined_low k (more t u) = omega (arith, inlined_low k t, inlined_low (k + length (occurrences t)) u)
  inlined_low k (compares t u) = omega (arith, inlined_low k t, inlined_low (k + length (occurrences t)) u)
  inlined_low k (relates o t) = omega (arith, inlined_low k t)
  inlined_low k (sum o t u) = omega (arith, inlined_low k t, inlined_low (k + length (occurrences t)) u)
  inlined_low k (adds o t) = omega (arith, inlined_low k t)
  inlined_low k (product t u) = omega (arith, inlined_low k t, inlined_low (k + length (occurrences t)) u)
  inlined_low k (multiplies o t) = omega (arith, inlined_low k t)
  inlined_low k (designator x end) = omega (arith, name_low x (uses k))
  inlined_low k (designator x (more t u)) = omega (arith, inlined_low (suc k) t, inlined_low (suc k + length (occurrences t)) u)
  inlined_low k (parenthesised t) = omega (arith, inlined_low k t)
  inlined_low k (negation t) = omega (arith, inlined_low k t)
  inlined_low k (index t) = omega (arith, inlined_low k t)
  inlined_low k (assigns x t u) = omega (arith, inlined_low (suc k) t, inlined_low (suc k + length (occurrences t)) u)
  inlined_low k (calls x t) = omega (arith, inlined_low (suc k) t)
  inlined_low k (branches t u w z) = omega (arith, inlined_low k t, inlined_low (k + length (occurrences t)) u, inlined_low (k + length (occurrences t) + length (occurrences u)) w, inlined_low (k + length (occurrences t) + length (occurrences u) + length (occurrences w)) z)
  inlined_low k (while_loop t u) = omega (arith, inlined_low k t, inlined_low (k + length (occurrences t)) u)
  inlined_low k (repeat_loop t u) = omega (arith, inlined_low k t, inlined_low (k + length (occurrences t)) u)
  inlined_low k (some_arguments t u) = omega (arith, inlined_low k t, inlined_low (k + length (occurrences t)) u)
  inlined_low k (comma_then_argument t) = omega (arith, inlined_low k t)
  inlined_low k (runs t u) = omega (arith, inlined_low k t, inlined_low (k + length (occurrences t)) u)
  inlined_low k (semicolon_then_statement t) = omega (arith, inlined_low k t)
  inlined_low k (elsif_branch t u) = omega (arith, inlined_low k t, inlined_low (k + length (occurrences t)) u)
  inlined_low k (else_branch t) = omega (arith, inlined_low k t)
  inlined_low k (array_type t u) = omega (arith, inlined_low k t, inlined_low (k + length (occurrences t)) u)
  inlined_low k (record_type t u) = omega (arith, inlined_low k t, inlined_low (k + length (occurrences t)) u)
  inlined_low k (some_fields ns t) = omega (arith, inlined_low k t)
  inlined_low k (semicolon_then_fields t) = omega (arith, inlined_low k t)
  inlined_low k (some_formals t u) = omega (arith, inlined_low k t, inlined_low (k + length (occurrences t)) u)
  inlined_low k (value_section ns t) = omega (arith, inlined_low k t)
  inlined_low k (variable_section ns t) = omega (arith, inlined_low k t)
  inlined_low k (semicolon_then_section t) = omega (arith, inlined_low k t)
  inlined_low k (declares_constant x t) = omega (arith, inlined_low k t)
  inlined_low k (declares_const_section t) = omega (arith, inlined_low k t)
  inlined_low k (declares_type x t) = omega (arith, inlined_low k t)
  inlined_low k (declares_type_section t) = omega (arith, inlined_low k t)
  inlined_low k (declares_variable ns t) = omega (arith, inlined_low k t)
  inlined_low k (declares_var_section t) = omega (arith, inlined_low k t)
  inlined_low k (declares_procedure x t u y) = omega (arith, inlined_low k t, inlined_low (k + length (occurrences t)) u)
  inlined_low k (declares t u w z) = omega (arith, inlined_low k t, inlined_low (k + length (occurrences t)) u, inlined_low (k + length (occurrences t) + length (occurrences u)) w, inlined_low (k + length (occurrences t) + length (occurrences u) + length (occurrences w)) z)
  inlined_low k (begins t) = omega (arith, inlined_low k t)
  inlined_low k (forms_block t u) = omega (arith, inlined_low k t, inlined_low (k + length (occurrences t)) u)
  inlined_low k (forms_module x t y) = omega (arith, inlined_low k t)
  inlined_low k _ = omega arith

pub inlined_shallow : (m : ParsedModule) (uses : OccurrenceSet) (value : Scalar) → nesting (inlined (named_tree_of m) uses (value_factor value)) ≤ nesting (tree_of m) + nesting (value_factor value)
inlined_shallow m uses value =
    let deeper = inlined_low uses (value_factor value) 0 (named_tree_of m) in
    let same : nesting (named_tree_of m) ≡ nesting (tree_of m) = nesting_mapped (leaf.token_text_at m.source) (leaf.token_value_at m.source) (tree_of m) in
    omega (arith, deeper, same)

-- A module is nested at most as deep as a module may be, also with its tokens as names.
pub module_shallow : (m : ParsedModule) → TreeMatchesText m → nesting (tree_of m) ≤ max_nesting
module_shallow m parsed =
    let same : nesting (named_tree_of m) ≡ nesting (tree_of m) = nesting_mapped (leaf.token_text_at m.source) (leaf.token_value_at m.source) (tree_of m) in
    omega (arith, same, parsed.module_of.shallow)

-- The nesting of a value's factor is 0 exactly if the value isn't a negative number.
is_zero : (b : Bool) (v w : Tree Name factor) → (nesting v == 0) ≡ false → (nesting w == 0) ≡ false → (nesting (if b then v else w) == 0) ≡ false
is_zero true v w h g = h
is_zero false v w h g = g

pub negative_is_nested : (n : ℕ) → (nesting (value_factor (scalar.Number (negsuc n))) == 0) ≡ false
negative_is_nested n = is_zero (nat_lt n 2147483647) _ _ refl refl

-- Removing a declaration makes no tree deeper.
constants_low : (d k : ℕ) (cs : Tree Name (items constant)) → nesting (constant_list_without_constant d k cs) ≤ nesting cs
constants_low d k end = omega arith
constants_low d k (more c cs) =
    let rest = constants_low d (suc k) cs in
    elim (k == d) as (λ b. nesting (if b then cs else more c (constant_list_without_constant d (suc k) cs)) ≤ nesting (more c cs)) [ true ↦ omega arith | false ↦ omega (arith, rest) ]

section_low : (d k : ℕ) (cs : Tree Name (maybe constants)) → nesting (section_without_constant d k cs) ≤ nesting cs
section_low d k none = omega arith
section_low d k (one (declares_const_section cs)) = constants_low d k cs

mutual
  block_low : (d k : ℕ) (b : Tree Name block) → nesting (block_without_constant d k b) ≤ nesting b
  block_low d k (forms_block (declares cs ts vs ps) statements) =
      let first = section_low d k cs in
      let last = procedures_low d (first_procedure_ordinal k (forms_block (declares cs ts vs ps) statements)) ps in
      omega (arith, first, last)

  procedures_low : (d k : ℕ) (ps : Tree Name (items procedure)) → nesting (procedure_list_without_constant d k ps) ≤ nesting ps
  procedures_low d k end = omega arith
  procedures_low d k (more p rest) =
      let first = procedure_low d (suc k) p in
      let others = procedures_low d (ordinal_after_procedure (suc k) p) rest in
      omega (arith, first, others)

  procedure_low : (d k : ℕ) (p : Tree Name (item procedure)) → nesting (procedure_without_constant d k p) ≤ nesting p
  procedure_low d k (declares_procedure x fs b closing) =
      let inner = block_low d (ordinal_after_names k (formal_parameter_names (formal_parameter_sections fs))) b in
      omega (arith, inner)

module_low : (d : ℕ) (m : Tree Name module_text) → nesting (module_without_constant d m) ≤ nesting m
module_low d (forms_module x b closing) = block_low d 7 b

pub everywhere_shallow : (m : ParsedModule) (c : DeclaredConstant) → nesting (tree_inlined_everywhere m c) ≤ nesting (tree_of m) + nesting (value_factor c.value)
everywhere_shallow m c =
    let uses = occurrences_bound_to_ordinal (named_tree_of m) c.ordinal in
    let less = module_low c.ordinal (inlined (named_tree_of m) uses (value_factor c.value)) in
    let shallow = inlined_shallow m uses c.value in
    omega (arith, less, shallow)
