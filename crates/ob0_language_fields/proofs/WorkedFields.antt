-- Worked examples of renaming fields: the identifiers that get the new name, and the new names that are free.
use Rattle.std.proofs.Common.{◌≡◌, true, [], ◌∷◌, None, codes, refl}
use Rattle.ob0_tree.specs.Tree.{Tree, adds, array_type, assigns, begins, calls, declares, declares_procedure, declares_type, declares_type_section, declares_variable, declares_var_section, designator, end, field, forms_block, index, integer, forms_module, listed, module_text, more, named_type, none, one, product, record_type, runs, some_arguments, some_fields, some_formals, sum, compares, comma_then_argument, semicolon_then_fields, comma_then_name, semicolon_then_section, semicolon_then_statement, value_section, variable_section}
use Rattle.ob0_tree.specs.declared.tree.AddOperator.TheVariants as add_operator
use Rattle.ob0_language_names.specs.Names.{Name}
use Rattle.ob0_language_names.proofs.WorkedTrees as worked
use Rattle.ob0_language_names.proofs.WorkedTrees.{alone}
use Rattle.ob0_language_types.specs.Declarations.{declare_constants_and_types}
use Rattle.ob0_language_types.specs.WellTyped.{declare_typed_variables, typed_parameters}
use Rattle.ob0_language_fields.specs.SingleFieldRenaming.{IsFreeFieldName, declared_field_names, is_duplicate_field_name, module_with_renamed_field}

-- TYPE R = RECORD a, b: INTEGER END; VAR r: R; s: RECORD a: INTEGER END; a: INTEGER; BEGIN r.a :=
-- 1; s.a := 2; a := r.a + s.a; Write(a) END M.
-- Renaming the field a of R to c changes its declaration and the two selectors after r.
abbrev two_records_renamed : Tree Name module_text
two_records_renamed =
    forms_module (codes "M") (forms_block (declares none (one (declares_type_section (more (declares_type (codes "R") (record_type (some_fields (listed (codes "c") (more (comma_then_name (codes "b")) end)) (named_type (codes "INTEGER"))) end)) end))) (one (declares_var_section (more (declares_variable (listed (codes "r") end) (named_type (codes "R"))) (more (declares_variable (listed (codes "s") end) (record_type (some_fields (listed (codes "a") end) (named_type (codes "INTEGER"))) end)) (more (declares_variable (listed (codes "a") end) (named_type (codes "INTEGER"))) end))))) end) (one (begins (runs (assigns (codes "r") (more (field (codes "c")) end) (alone (integer 1))) (more (semicolon_then_statement (assigns (codes "s") (more (field (codes "a")) end) (alone (integer 2)))) (more (semicolon_then_statement (assigns (codes "a") end (compares (sum None (product (designator (codes "r") (more (field (codes "c")) end)) end) (more (adds add_operator.Add (product (designator (codes "s") (more (field (codes "a")) end)) end)) end)) none))) (more (semicolon_then_statement (calls (codes "Write") (one (some_arguments (alone (designator (codes "a") end)) end)))) end))))))) (codes "M")

pub first_record-renamed : module_with_renamed_field worked.records 0 (codes "a") (codes "c") ≡ two_records_renamed
unfolding declare_constants_and_types declare_typed_variables typed_parameters
first_record-renamed = refl

pub fields-of_first : declared_field_names worked.records 0 ≡ codes "a" ∷ codes "b" ∷ []
fields-of_first = refl

pub fields-of_second : declared_field_names worked.records 1 ≡ codes "a" ∷ []
fields-of_second = refl

-- The field a of the first record can be renamed to c, to r and to a itself, and the field a of the second record to b.
pub to_c-free : IsFreeFieldName worked.records 0 (codes "a") (codes "c")
to_c-free = refl

pub to_r-free : IsFreeFieldName worked.records 0 (codes "a") (codes "r")
to_r-free = refl

pub to_itself-free : IsFreeFieldName worked.records 0 (codes "a") (codes "a")
to_itself-free = refl

pub second_record-free : IsFreeFieldName worked.records 1 (codes "a") (codes "b")
second_record-free = refl

-- The field a of the first record can't be renamed to b, because this record has another field b.
pub to_b-taken : is_duplicate_field_name worked.records 0 (codes "a") (codes "b") ≡ true
to_b-taken = refl

-- TYPE P = RECORD x: INTEGER; q: ARRAY 2 OF RECORD x: INTEGER END END; VAR p: P; PROCEDURE S(VAR r:
-- P; x: INTEGER); BEGIN r.q[r.x].x := x END S; BEGIN S(p, p.x) END M.
-- The parameters are the names of the field x in the outer and in the inner record.
abbrev nested : Name → Name → Tree Name module_text
nested outer inner =
    forms_module (codes "M")
    (forms_block
    (declares none
    (one (declares_type_section (more (declares_type (codes "P") (record_type (some_fields (listed outer end) (named_type (codes "INTEGER"))) (more (semicolon_then_fields (some_fields (listed (codes "q") end) (array_type (alone (integer 2)) (record_type (some_fields (listed inner end) (named_type (codes "INTEGER"))) end)))) end))) end)))
    (one (declares_var_section (more (declares_variable (listed (codes "p") end) (named_type (codes "P"))) end)))
    (more (declares_procedure (codes "S") (one (some_formals (variable_section (listed (codes "r") end) (named_type (codes "P"))) (more (semicolon_then_section (value_section (listed (codes "x") end) (named_type (codes "INTEGER")))) end)))
    (forms_block (declares none none none end)
    (one (begins (runs (assigns (codes "r") (more (field (codes "q")) (more (index (alone (designator (codes "r") (more (field outer) end)))) (more (field inner) end))) (alone (designator (codes "x") end))) end))))
    (codes "S")) end))
    (one (begins (runs (calls (codes "S") (one (some_arguments (alone (designator (codes "p") end)) (more (comma_then_argument (alone (designator (codes "p") (more (field outer) end)))) end)))) end))))
    (codes "M")

pub outer-renamed : module_with_renamed_field (nested (codes "x") (codes "x")) 0 (codes "x") (codes "y") ≡ nested (codes "y") (codes "x")
unfolding declare_constants_and_types declare_typed_variables typed_parameters
outer-renamed = refl

pub inner-renamed : module_with_renamed_field (nested (codes "x") (codes "x")) 2 (codes "x") (codes "y") ≡ nested (codes "x") (codes "y")
unfolding declare_constants_and_types declare_typed_variables typed_parameters
inner-renamed = refl

-- An array has no fields. So renaming a field of the type with an array's ordinal changes nothing.
pub array-renamed : module_with_renamed_field (nested (codes "x") (codes "x")) 1 (codes "x") (codes "y") ≡ nested (codes "x") (codes "x")
unfolding declare_constants_and_types declare_typed_variables typed_parameters
array-renamed = refl

-- TYPE T = RECORD a: INTEGER END; VAR v: T; PROCEDURE P; TYPE T = RECORD a: INTEGER END; VAR w: T; BEGIN w.a := v.a END P; BEGIN P; v.a := 0 END M.
abbrev hidden : Name → Name → Tree Name module_text
hidden outer inner =
    forms_module (codes "M")
    (forms_block
    (declares none
    (one (declares_type_section (more (declares_type (codes "T") (record_type (some_fields (listed outer end) (named_type (codes "INTEGER"))) end)) end)))
    (one (declares_var_section (more (declares_variable (listed (codes "v") end) (named_type (codes "T"))) end)))
    (more (declares_procedure (codes "P") none
    (forms_block
    (declares none
    (one (declares_type_section (more (declares_type (codes "T") (record_type (some_fields (listed inner end) (named_type (codes "INTEGER"))) end)) end)))
    (one (declares_var_section (more (declares_variable (listed (codes "w") end) (named_type (codes "T"))) end))) end)
    (one (begins (runs (assigns (codes "w") (more (field inner) end) (alone (designator (codes "v") (more (field outer) end)))) end))))
    (codes "P")) end))
    (one (begins (runs (calls (codes "P") none) (more (semicolon_then_statement (assigns (codes "v") (more (field outer) end) (alone (integer 0)))) end)))))
    (codes "M")

pub hiding-renamed : module_with_renamed_field (hidden (codes "a") (codes "a")) 1 (codes "a") (codes "b") ≡ hidden (codes "a") (codes "b")
unfolding declare_constants_and_types declare_typed_variables typed_parameters
hiding-renamed = refl

pub hidden-renamed : module_with_renamed_field (hidden (codes "a") (codes "a")) 0 (codes "a") (codes "b") ≡ hidden (codes "b") (codes "a")
unfolding declare_constants_and_types declare_typed_variables typed_parameters
hidden-renamed = refl
