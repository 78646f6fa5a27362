-- Worked examples of modules that are well-typed and of modules that aren't. Names declared twice and wrong closing
-- names come first, then types.
use Rattle.std.proofs.Common.{◌≡◌, true, false, Some, None, codes, refl}
use Rattle.ob0_tree.specs.declared.tree.Relation.TheVariants as relation
use Rattle.ob0_tree.specs.declared.tree.Sign.TheVariants as sign
use Rattle.ob0_tree.specs.declared.tree.AddOperator.TheVariants as add_operator
use Rattle.ob0_tree.specs.declared.tree.MultiplyOperator.TheVariants as multiply_operator
use Rattle.ob0_tree.specs.Tree.{Tree, adds, array_type, assigns, begins, branches, calls, compares, declares, declares_constant, declares_const_section, declares_procedure, declares_type, declares_type_section, declares_variable, declares_var_section, designator, empty, end, field, forms_block, index, integer, forms_module, listed, module_text, more, multiplies, named_type, none, one, parenthesised, product, record_type, relates, repeat_loop, runs, some_arguments, some_fields, some_formals, sum, comma_then_argument, semicolon_then_fields, comma_then_name, semicolon_then_section, semicolon_then_statement, value_section, variable_section}
use Rattle.ob0_language_names.specs.Names.{Name, naming_by_spelling}
use Rattle.ob0_language_names.proofs.WorkedTrees.{alone}
use Rattle.ob0_language_names.specs.ConsistentNames.{has_consistent_names}
use Rattle.ob0_language_types.specs.WellTyped.{passes_type_check}

-- MODULE M; VAR a: ARRAY 3 OF INTEGER; b: ARRAY 3 OF INTEGER; BEGIN a := b END M.
abbrev pub two_array_types : Tree Name module_text
two_array_types = forms_module (codes "M") (forms_block (declares none none (one (declares_var_section (more (declares_variable (listed (codes "a") end) (array_type (alone (integer 3)) (named_type (codes "INTEGER")))) (more (declares_variable (listed (codes "b") end) (array_type (alone (integer 3)) (named_type (codes "INTEGER")))) end)))) end) (one (begins (runs (assigns (codes "a") end (alone (designator (codes "b") end))) end)))) (codes "M")

pub two_array_types-fits : (has_consistent_names two_array_types ≡ true) × (passes_type_check naming_by_spelling two_array_types ≡ false)
unfolding passes_type_check
two_array_types-fits = (refl, refl)

-- MODULE M; VAR a, b: ARRAY 3 OF INTEGER; BEGIN a := b END M.
abbrev pub one_array_type : Tree Name module_text
one_array_type = forms_module (codes "M") (forms_block (declares none none (one (declares_var_section (more (declares_variable (listed (codes "a") (more (comma_then_name (codes "b")) end)) (array_type (alone (integer 3)) (named_type (codes "INTEGER")))) end))) end) (one (begins (runs (assigns (codes "a") end (alone (designator (codes "b") end))) end)))) (codes "M")

pub one_array_type-fits : (has_consistent_names one_array_type ≡ true) × (passes_type_check naming_by_spelling one_array_type ≡ true)
unfolding passes_type_check
one_array_type-fits = (refl, refl)

-- MODULE M; TYPE T = ARRAY 3 OF INTEGER; VAR a: T; b: T; BEGIN a := b END M.
abbrev pub named_array_type : Tree Name module_text
named_array_type = forms_module (codes "M") (forms_block (declares none (one (declares_type_section (more (declares_type (codes "T") (array_type (alone (integer 3)) (named_type (codes "INTEGER")))) end))) (one (declares_var_section (more (declares_variable (listed (codes "a") end) (named_type (codes "T"))) (more (declares_variable (listed (codes "b") end) (named_type (codes "T"))) end)))) end) (one (begins (runs (assigns (codes "a") end (alone (designator (codes "b") end))) end)))) (codes "M")

pub named_array_type-fits : (has_consistent_names named_array_type ≡ true) × (passes_type_check naming_by_spelling named_array_type ≡ true)
unfolding passes_type_check
named_array_type-fits = (refl, refl)

-- MODULE M; CONST on = TRUE; PROCEDURE P; VAR TRUE, b: BOOLEAN; BEGIN b := on END P; BEGIN P END M.
abbrev pub shadowed_true : Tree Name module_text
shadowed_true = forms_module (codes "M") (forms_block (declares (one (declares_const_section (more (declares_constant (codes "on") (alone (designator (codes "TRUE") end))) end))) none none (more (declares_procedure (codes "P") none (forms_block (declares none none (one (declares_var_section (more (declares_variable (listed (codes "TRUE") (more (comma_then_name (codes "b")) end)) (named_type (codes "BOOLEAN"))) end))) end) (one (begins (runs (assigns (codes "b") end (alone (designator (codes "on") end))) end)))) (codes "P")) end)) (one (begins (runs (calls (codes "P") none) end)))) (codes "M")

pub shadowed_true-fits : (has_consistent_names shadowed_true ≡ true) × (passes_type_check naming_by_spelling shadowed_true ≡ true)
unfolding passes_type_check
shadowed_true-fits = (refl, refl)

-- MODULE M; PROCEDURE F(n: INTEGER); BEGIN IF n > 0 THEN Write(n); F(n - 1) END END F; BEGIN F(2) END M.
abbrev pub recursive : Tree Name module_text
recursive = forms_module (codes "M") (forms_block (declares none none none (more (declares_procedure (codes "F") (one (some_formals (value_section (listed (codes "n") end) (named_type (codes "INTEGER"))) end)) (forms_block (declares none none none end) (one (begins (runs (branches (compares (sum None (product (designator (codes "n") end) end) end) (one (relates relation.Greater (sum None (product (integer 0) end) end)))) (runs (calls (codes "Write") (one (some_arguments (alone (designator (codes "n") end)) end))) (more (semicolon_then_statement (calls (codes "F") (one (some_arguments (compares (sum None (product (designator (codes "n") end) end) (more (adds add_operator.Subtract (product (integer 1) end)) end)) none) end)))) end)) end none) end)))) (codes "F")) end)) (one (begins (runs (calls (codes "F") (one (some_arguments (alone (integer 2)) end))) end)))) (codes "M")

pub recursive-fits : (has_consistent_names recursive ≡ true) × (passes_type_check naming_by_spelling recursive ≡ true)
unfolding passes_type_check
recursive-fits = (refl, refl)

-- MODULE M; VAR Q: INTEGER; PROCEDURE A; PROCEDURE P; BEGIN Q := 7 END P; PROCEDURE R; BEGIN Write(2) END R; BEGIN P; R END A; BEGIN A; Write(Q) END M.
abbrev pub nested : Tree Name module_text
nested = forms_module (codes "M") (forms_block (declares none none (one (declares_var_section (more (declares_variable (listed (codes "Q") end) (named_type (codes "INTEGER"))) end))) (more (declares_procedure (codes "A") none (forms_block (declares none none none (more (declares_procedure (codes "P") none (forms_block (declares none none none end) (one (begins (runs (assigns (codes "Q") end (alone (integer 7))) end)))) (codes "P")) (more (declares_procedure (codes "R") none (forms_block (declares none none none end) (one (begins (runs (calls (codes "Write") (one (some_arguments (alone (integer 2)) end))) end)))) (codes "R")) end))) (one (begins (runs (calls (codes "P") none) (more (semicolon_then_statement (calls (codes "R") none)) end))))) (codes "A")) end)) (one (begins (runs (calls (codes "A") none) (more (semicolon_then_statement (calls (codes "Write") (one (some_arguments (alone (designator (codes "Q") end)) end)))) end))))) (codes "M")

pub nested-fits : (has_consistent_names nested ≡ true) × (passes_type_check naming_by_spelling nested ≡ true)
unfolding passes_type_check
nested-fits = (refl, refl)

-- MODULE M; VAR x: INTEGER; PROCEDURE P; VAR y: INTEGER; BEGIN y := 1; x := y END P; BEGIN P; Write(x) END M.
abbrev pub shadowing : Tree Name module_text
shadowing = forms_module (codes "M") (forms_block (declares none none (one (declares_var_section (more (declares_variable (listed (codes "x") end) (named_type (codes "INTEGER"))) end))) (more (declares_procedure (codes "P") none (forms_block (declares none none (one (declares_var_section (more (declares_variable (listed (codes "y") end) (named_type (codes "INTEGER"))) end))) end) (one (begins (runs (assigns (codes "y") end (alone (integer 1))) (more (semicolon_then_statement (assigns (codes "x") end (alone (designator (codes "y") end)))) end))))) (codes "P")) end)) (one (begins (runs (calls (codes "P") none) (more (semicolon_then_statement (calls (codes "Write") (one (some_arguments (alone (designator (codes "x") end)) end)))) end))))) (codes "M")

pub shadowing-fits : (has_consistent_names shadowing ≡ true) × (passes_type_check naming_by_spelling shadowing ≡ true)
unfolding passes_type_check
shadowing-fits = (refl, refl)

-- MODULE M; VAR a: ARRAY 2 OF INTEGER; i: INTEGER; PROCEDURE S(VAR p: INTEGER; q: INTEGER; VAR r:
-- INTEGER); BEGIN i := 1; p := q + 1; r := p * 10; Write(q) END S; BEGIN i := 0; S(a[i], a[i],
-- a[i]); Write(a[0]); Write(a[1]); S(i, i, i); Write(i); a[i] := 0 END M.
abbrev pub aliasing : Tree Name module_text
aliasing = forms_module (codes "M") (forms_block (declares none none (one (declares_var_section (more (declares_variable (listed (codes "a") end) (array_type (alone (integer 2)) (named_type (codes "INTEGER")))) (more (declares_variable (listed (codes "i") end) (named_type (codes "INTEGER"))) end)))) (more (declares_procedure (codes "S") (one (some_formals (variable_section (listed (codes "p") end) (named_type (codes "INTEGER"))) (more (semicolon_then_section (value_section (listed (codes "q") end) (named_type (codes "INTEGER")))) (more (semicolon_then_section (variable_section (listed (codes "r") end) (named_type (codes "INTEGER")))) end)))) (forms_block (declares none none none end) (one (begins (runs (assigns (codes "i") end (alone (integer 1))) (more (semicolon_then_statement (assigns (codes "p") end (compares (sum None (product (designator (codes "q") end) end) (more (adds add_operator.Add (product (integer 1) end)) end)) none))) (more (semicolon_then_statement (assigns (codes "r") end (compares (sum None (product (designator (codes "p") end) (more (multiplies multiply_operator.Multiply (integer 10)) end)) end) none))) (more (semicolon_then_statement (calls (codes "Write") (one (some_arguments (alone (designator (codes "q") end)) end)))) end))))))) (codes "S")) end)) (one (begins (runs (assigns (codes "i") end (alone (integer 0))) (more (semicolon_then_statement (calls (codes "S") (one (some_arguments (alone (designator (codes "a") (more (index (alone (designator (codes "i") end))) end))) (more (comma_then_argument (alone (designator (codes "a") (more (index (alone (designator (codes "i") end))) end)))) (more (comma_then_argument (alone (designator (codes "a") (more (index (alone (designator (codes "i") end))) end)))) end)))))) (more (semicolon_then_statement (calls (codes "Write") (one (some_arguments (alone (designator (codes "a") (more (index (alone (integer 0))) end))) end)))) (more (semicolon_then_statement (calls (codes "Write") (one (some_arguments (alone (designator (codes "a") (more (index (alone (integer 1))) end))) end)))) (more (semicolon_then_statement (calls (codes "S") (one (some_arguments (alone (designator (codes "i") end)) (more (comma_then_argument (alone (designator (codes "i") end))) (more (comma_then_argument (alone (designator (codes "i") end))) end)))))) (more (semicolon_then_statement (calls (codes "Write") (one (some_arguments (alone (designator (codes "i") end)) end)))) (more (semicolon_then_statement (assigns (codes "a") (more (index (alone (designator (codes "i") end))) end) (alone (integer 0)))) end)))))))))) (codes "M")

pub aliasing-fits : (has_consistent_names aliasing ≡ true) × (passes_type_check naming_by_spelling aliasing ≡ true)
unfolding passes_type_check
aliasing-fits = (refl, refl)

-- MODULE M; TYPE R = RECORD a, b: INTEGER END; VAR r: R; s: RECORD a: INTEGER END; a: INTEGER; BEGIN r.a := 1; s.a := 2; a := r.a + s.a; Write(a) END M.
abbrev pub with_records : Tree Name module_text
with_records = forms_module (codes "M") (forms_block (declares none (one (declares_type_section (more (declares_type (codes "R") (record_type (some_fields (listed (codes "a") (more (comma_then_name (codes "b")) end)) (named_type (codes "INTEGER"))) end)) end))) (one (declares_var_section (more (declares_variable (listed (codes "r") end) (named_type (codes "R"))) (more (declares_variable (listed (codes "s") end) (record_type (some_fields (listed (codes "a") end) (named_type (codes "INTEGER"))) end)) (more (declares_variable (listed (codes "a") end) (named_type (codes "INTEGER"))) end))))) end) (one (begins (runs (assigns (codes "r") (more (field (codes "a")) end) (alone (integer 1))) (more (semicolon_then_statement (assigns (codes "s") (more (field (codes "a")) end) (alone (integer 2)))) (more (semicolon_then_statement (assigns (codes "a") end (compares (sum None (product (designator (codes "r") (more (field (codes "a")) end)) end) (more (adds add_operator.Add (product (designator (codes "s") (more (field (codes "a")) end)) end)) end)) none))) (more (semicolon_then_statement (calls (codes "Write") (one (some_arguments (alone (designator (codes "a") end)) end)))) end))))))) (codes "M")

pub with_records-fits : (has_consistent_names with_records ≡ true) × (passes_type_check naming_by_spelling with_records ≡ true)
unfolding passes_type_check
with_records-fits = (refl, refl)

-- MODULE M; CONST c = -2147483647 - 1; VAR x: INTEGER; BEGIN x := 0 + c; Write(x) END M.
abbrev pub least_number : Tree Name module_text
least_number = forms_module (codes "M") (forms_block (declares (one (declares_const_section (more (declares_constant (codes "c") (compares (sum (Some sign.Minus) (product (integer 2147483647) end) (more (adds add_operator.Subtract (product (integer 1) end)) end)) none)) end))) none (one (declares_var_section (more (declares_variable (listed (codes "x") end) (named_type (codes "INTEGER"))) end))) end) (one (begins (runs (assigns (codes "x") end (compares (sum None (product (integer 0) end) (more (adds add_operator.Add (product (designator (codes "c") end) end)) end)) none)) (more (semicolon_then_statement (calls (codes "Write") (one (some_arguments (alone (designator (codes "x") end)) end)))) end))))) (codes "M")

pub least_number-fits : (has_consistent_names least_number ≡ true) × (passes_type_check naming_by_spelling least_number ≡ true)
unfolding passes_type_check
least_number-fits = (refl, refl)

-- MODULE M; PROCEDURE P; END Q; END M.
abbrev pub wrong_closing_name : Tree Name module_text
wrong_closing_name = forms_module (codes "M") (forms_block (declares none none none (more (declares_procedure (codes "P") none (forms_block (declares none none none end) none) (codes "Q")) end)) none) (codes "M")

pub wrong_closing_name-fits : (has_consistent_names wrong_closing_name ≡ false) × (passes_type_check naming_by_spelling wrong_closing_name ≡ true)
unfolding passes_type_check
wrong_closing_name-fits = (refl, refl)

-- MODULE M; VAR x, x: INTEGER; END M.
abbrev pub declared_twice : Tree Name module_text
declared_twice = forms_module (codes "M") (forms_block (declares none none (one (declares_var_section (more (declares_variable (listed (codes "x") (more (comma_then_name (codes "x")) end)) (named_type (codes "INTEGER"))) end))) end) none) (codes "M")

pub declared_twice-fits : (has_consistent_names declared_twice ≡ false) × (passes_type_check naming_by_spelling declared_twice ≡ true)
unfolding passes_type_check
declared_twice-fits = (refl, refl)

-- MODULE M; PROCEDURE P(x: INTEGER); VAR x: INTEGER; END P; END M.
abbrev pub parameter_again : Tree Name module_text
parameter_again = forms_module (codes "M") (forms_block (declares none none none (more (declares_procedure (codes "P") (one (some_formals (value_section (listed (codes "x") end) (named_type (codes "INTEGER"))) end)) (forms_block (declares none none (one (declares_var_section (more (declares_variable (listed (codes "x") end) (named_type (codes "INTEGER"))) end))) end) none) (codes "P")) end)) none) (codes "M")

pub parameter_again-fits : (has_consistent_names parameter_again ≡ false) × (passes_type_check naming_by_spelling parameter_again ≡ true)
unfolding passes_type_check
parameter_again-fits = (refl, refl)

-- MODULE M; VAR r: RECORD a, b: INTEGER; a: BOOLEAN END; END M.
abbrev pub field_twice : Tree Name module_text
field_twice = forms_module (codes "M") (forms_block (declares none none (one (declares_var_section (more (declares_variable (listed (codes "r") end) (record_type (some_fields (listed (codes "a") (more (comma_then_name (codes "b")) end)) (named_type (codes "INTEGER"))) (more (semicolon_then_fields (some_fields (listed (codes "a") end) (named_type (codes "BOOLEAN")))) end))) end))) end) none) (codes "M")

pub field_twice-fits : (has_consistent_names field_twice ≡ false) × (passes_type_check naming_by_spelling field_twice ≡ true)
unfolding passes_type_check
field_twice-fits = (refl, refl)

-- MODULE M; CONST k = 1 DIV 0; BEGIN END M.
abbrev pub constant_fault : Tree Name module_text
constant_fault = forms_module (codes "M") (forms_block (declares (one (declares_const_section (more (declares_constant (codes "k") (compares (sum None (product (integer 1) (more (multiplies multiply_operator.Divide (integer 0)) end)) end) none)) end))) none none end) (one (begins (runs empty end)))) (codes "M")

pub constant_fault-fits : (has_consistent_names constant_fault ≡ true) × (passes_type_check naming_by_spelling constant_fault ≡ false)
unfolding passes_type_check
constant_fault-fits = (refl, refl)

-- MODULE M; CONST k = FALSE & (1 DIV 0 = 1); BEGIN END M.
abbrev pub constant_settled_early : Tree Name module_text
constant_settled_early = forms_module (codes "M") (forms_block (declares (one (declares_const_section (more (declares_constant (codes "k") (compares (sum None (product (designator (codes "FALSE") end) (more (multiplies multiply_operator.And (parenthesised (compares (sum None (product (integer 1) (more (multiplies multiply_operator.Divide (integer 0)) end)) end) (one (relates relation.Equal (sum None (product (integer 1) end) end)))))) end)) end) none)) end))) none none end) (one (begins (runs empty end)))) (codes "M")

pub constant_settled_early-fits : (has_consistent_names constant_settled_early ≡ true) × (passes_type_check naming_by_spelling constant_settled_early ≡ true)
unfolding passes_type_check
constant_settled_early-fits = (refl, refl)

-- MODULE M; CONST k = 2147483647 + 1; BEGIN END M.
abbrev pub constant_overflow : Tree Name module_text
constant_overflow = forms_module (codes "M") (forms_block (declares (one (declares_const_section (more (declares_constant (codes "k") (compares (sum None (product (integer 2147483647) end) (more (adds add_operator.Add (product (integer 1) end)) end)) none)) end))) none none end) (one (begins (runs empty end)))) (codes "M")

pub constant_overflow-fits : (has_consistent_names constant_overflow ≡ true) × (passes_type_check naming_by_spelling constant_overflow ≡ false)
unfolding passes_type_check
constant_overflow-fits = (refl, refl)

-- MODULE M; CONST k = -(-2147483647 - 1); BEGIN END M.
abbrev pub constant_sign_overflow : Tree Name module_text
constant_sign_overflow = forms_module (codes "M") (forms_block (declares (one (declares_const_section (more (declares_constant (codes "k") (compares (sum (Some sign.Minus) (product (parenthesised (compares (sum (Some sign.Minus) (product (integer 2147483647) end) (more (adds add_operator.Subtract (product (integer 1) end)) end)) none)) end) end) none)) end))) none none end) (one (begins (runs empty end)))) (codes "M")

pub constant_sign_overflow-fits : (has_consistent_names constant_sign_overflow ≡ true) × (passes_type_check naming_by_spelling constant_sign_overflow ≡ false)
unfolding passes_type_check
constant_sign_overflow-fits = (refl, refl)

-- MODULE M; CONST k = 7 MOD (-2); BEGIN END M.
abbrev pub constant_negative_divisor : Tree Name module_text
constant_negative_divisor = forms_module (codes "M") (forms_block (declares (one (declares_const_section (more (declares_constant (codes "k") (compares (sum None (product (integer 7) (more (multiplies multiply_operator.Modulo (parenthesised (compares (sum (Some sign.Minus) (product (integer 2) end) end) none))) end)) end) none)) end))) none none end) (one (begins (runs empty end)))) (codes "M")

pub constant_negative_divisor-fits : (has_consistent_names constant_negative_divisor ≡ true) × (passes_type_check naming_by_spelling constant_negative_divisor ≡ false)
unfolding passes_type_check
constant_negative_divisor-fits = (refl, refl)

-- MODULE M; VAR i: INTEGER; PROCEDURE P; CONST k = i; END P; END M.
abbrev pub not_constant : Tree Name module_text
not_constant = forms_module (codes "M") (forms_block (declares none none (one (declares_var_section (more (declares_variable (listed (codes "i") end) (named_type (codes "INTEGER"))) end))) (more (declares_procedure (codes "P") none (forms_block (declares (one (declares_const_section (more (declares_constant (codes "k") (alone (designator (codes "i") end))) end))) none none end) none) (codes "P")) end)) none) (codes "M")

pub not_constant-fits : (has_consistent_names not_constant ≡ true) × (passes_type_check naming_by_spelling not_constant ≡ false)
unfolding passes_type_check
not_constant-fits = (refl, refl)

-- MODULE M; VAR i: INTEGER; b: BOOLEAN; BEGIN i := b END M.
abbrev pub wrong_right_side : Tree Name module_text
wrong_right_side = forms_module (codes "M") (forms_block (declares none none (one (declares_var_section (more (declares_variable (listed (codes "i") end) (named_type (codes "INTEGER"))) (more (declares_variable (listed (codes "b") end) (named_type (codes "BOOLEAN"))) end)))) end) (one (begins (runs (assigns (codes "i") end (alone (designator (codes "b") end))) end)))) (codes "M")

pub wrong_right_side-fits : (has_consistent_names wrong_right_side ≡ true) × (passes_type_check naming_by_spelling wrong_right_side ≡ false)
unfolding passes_type_check
wrong_right_side-fits = (refl, refl)

-- MODULE M; PROCEDURE P(VAR j: INTEGER); BEGIN j := 1 END P; BEGIN P(3) END M.
abbrev pub literal_as_variable : Tree Name module_text
literal_as_variable = forms_module (codes "M") (forms_block (declares none none none (more (declares_procedure (codes "P") (one (some_formals (variable_section (listed (codes "j") end) (named_type (codes "INTEGER"))) end)) (forms_block (declares none none none end) (one (begins (runs (assigns (codes "j") end (alone (integer 1))) end)))) (codes "P")) end)) (one (begins (runs (calls (codes "P") (one (some_arguments (alone (integer 3)) end))) end)))) (codes "M")

pub literal_as_variable-fits : (has_consistent_names literal_as_variable ≡ true) × (passes_type_check naming_by_spelling literal_as_variable ≡ false)
unfolding passes_type_check
literal_as_variable-fits = (refl, refl)

-- MODULE M; PROCEDURE P(VAR j: INTEGER); BEGIN j := 1 END P; BEGIN P END M.
abbrev pub argument_missing : Tree Name module_text
argument_missing = forms_module (codes "M") (forms_block (declares none none none (more (declares_procedure (codes "P") (one (some_formals (variable_section (listed (codes "j") end) (named_type (codes "INTEGER"))) end)) (forms_block (declares none none none end) (one (begins (runs (assigns (codes "j") end (alone (integer 1))) end)))) (codes "P")) end)) (one (begins (runs (calls (codes "P") none) end)))) (codes "M")

pub argument_missing-fits : (has_consistent_names argument_missing ≡ true) × (passes_type_check naming_by_spelling argument_missing ≡ false)
unfolding passes_type_check
argument_missing-fits = (refl, refl)

-- MODULE M; VAR i: INTEGER; PROCEDURE P(VAR j: INTEGER); BEGIN j := 1 END P; BEGIN P((i)) END M.
abbrev pub in_parentheses : Tree Name module_text
in_parentheses = forms_module (codes "M") (forms_block (declares none none (one (declares_var_section (more (declares_variable (listed (codes "i") end) (named_type (codes "INTEGER"))) end))) (more (declares_procedure (codes "P") (one (some_formals (variable_section (listed (codes "j") end) (named_type (codes "INTEGER"))) end)) (forms_block (declares none none none end) (one (begins (runs (assigns (codes "j") end (alone (integer 1))) end)))) (codes "P")) end)) (one (begins (runs (calls (codes "P") (one (some_arguments (alone (parenthesised (alone (designator (codes "i") end)))) end))) end)))) (codes "M")

pub in_parentheses-fits : (has_consistent_names in_parentheses ≡ true) × (passes_type_check naming_by_spelling in_parentheses ≡ false)
unfolding passes_type_check
in_parentheses-fits = (refl, refl)

-- MODULE M; BEGIN z := 1 END M.
abbrev pub undeclared : Tree Name module_text
undeclared = forms_module (codes "M") (forms_block (declares none none none end) (one (begins (runs (assigns (codes "z") end (alone (integer 1))) end)))) (codes "M")

pub undeclared-fits : (has_consistent_names undeclared ≡ true) × (passes_type_check naming_by_spelling undeclared ≡ false)
unfolding passes_type_check
undeclared-fits = (refl, refl)

-- MODULE M; VAR i: INTEGER; BEGIN i.f := 1 END M.
abbrev pub no_record : Tree Name module_text
no_record = forms_module (codes "M") (forms_block (declares none none (one (declares_var_section (more (declares_variable (listed (codes "i") end) (named_type (codes "INTEGER"))) end))) end) (one (begins (runs (assigns (codes "i") (more (field (codes "f")) end) (alone (integer 1))) end)))) (codes "M")

pub no_record-fits : (has_consistent_names no_record ≡ true) × (passes_type_check naming_by_spelling no_record ≡ false)
unfolding passes_type_check
no_record-fits = (refl, refl)

-- MODULE M; VAR i: INTEGER; BEGIN i[0] := 1 END M.
abbrev pub no_array : Tree Name module_text
no_array = forms_module (codes "M") (forms_block (declares none none (one (declares_var_section (more (declares_variable (listed (codes "i") end) (named_type (codes "INTEGER"))) end))) end) (one (begins (runs (assigns (codes "i") (more (index (alone (integer 0))) end) (alone (integer 1))) end)))) (codes "M")

pub no_array-fits : (has_consistent_names no_array ≡ true) × (passes_type_check naming_by_spelling no_array ≡ false)
unfolding passes_type_check
no_array-fits = (refl, refl)

-- MODULE M; PROCEDURE P; END P; BEGIN Write(P) END M.
abbrev pub procedure_as_value : Tree Name module_text
procedure_as_value = forms_module (codes "M") (forms_block (declares none none none (more (declares_procedure (codes "P") none (forms_block (declares none none none end) none) (codes "P")) end)) (one (begins (runs (calls (codes "Write") (one (some_arguments (alone (designator (codes "P") end)) end))) end)))) (codes "M")

pub procedure_as_value-fits : (has_consistent_names procedure_as_value ≡ true) × (passes_type_check naming_by_spelling procedure_as_value ≡ false)
unfolding passes_type_check
procedure_as_value-fits = (refl, refl)

-- MODULE M; CONST m = 1; BEGIN m := 2 END M.
abbrev pub constant_assigned : Tree Name module_text
constant_assigned = forms_module (codes "M") (forms_block (declares (one (declares_const_section (more (declares_constant (codes "m") (alone (integer 1))) end))) none none end) (one (begins (runs (assigns (codes "m") end (alone (integer 2))) end)))) (codes "M")

pub constant_assigned-fits : (has_consistent_names constant_assigned ≡ true) × (passes_type_check naming_by_spelling constant_assigned ≡ false)
unfolding passes_type_check
constant_assigned-fits = (refl, refl)

-- MODULE M; PROCEDURE INTEGER(a: INTEGER); BEGIN INTEGER(a) END INTEGER; END M.
abbrev pub procedure_before_its_heading_ends : Tree Name module_text
procedure_before_its_heading_ends = forms_module (codes "M") (forms_block (declares none none none (more (declares_procedure (codes "INTEGER") (one (some_formals (value_section (listed (codes "a") end) (named_type (codes "INTEGER"))) end)) (forms_block (declares none none none end) (one (begins (runs (calls (codes "INTEGER") (one (some_arguments (alone (designator (codes "a") end)) end))) end)))) (codes "INTEGER")) end)) none) (codes "M")

pub procedure_before_its_heading_ends-fits : (has_consistent_names procedure_before_its_heading_ends ≡ true) × (passes_type_check naming_by_spelling procedure_before_its_heading_ends ≡ true)
unfolding passes_type_check
procedure_before_its_heading_ends-fits = (refl, refl)

-- MODULE M; PROCEDURE P(INTEGER: INTEGER; b: INTEGER); END P; END M.
abbrev pub parameter_hides_type : Tree Name module_text
parameter_hides_type = forms_module (codes "M") (forms_block (declares none none none (more (declares_procedure (codes "P") (one (some_formals (value_section (listed (codes "INTEGER") end) (named_type (codes "INTEGER"))) (more (semicolon_then_section (value_section (listed (codes "b") end) (named_type (codes "INTEGER")))) end))) (forms_block (declares none none none end) none) (codes "P")) end)) none) (codes "M")

pub parameter_hides_type-fits : (has_consistent_names parameter_hides_type ≡ true) × (passes_type_check naming_by_spelling parameter_hides_type ≡ false)
unfolding passes_type_check
parameter_hides_type-fits = (refl, refl)

-- MODULE M; PROCEDURE P(a: ARRAY 2 OF INTEGER); BEGIN P(a) END P; END M.
abbrev pub own_type_passed_on : Tree Name module_text
own_type_passed_on = forms_module (codes "M") (forms_block (declares none none none (more (declares_procedure (codes "P") (one (some_formals (value_section (listed (codes "a") end) (array_type (alone (integer 2)) (named_type (codes "INTEGER")))) end)) (forms_block (declares none none none end) (one (begins (runs (calls (codes "P") (one (some_arguments (alone (designator (codes "a") end)) end))) end)))) (codes "P")) end)) none) (codes "M")

pub own_type_passed_on-fits : (has_consistent_names own_type_passed_on ≡ true) × (passes_type_check naming_by_spelling own_type_passed_on ≡ true)
unfolding passes_type_check
own_type_passed_on-fits = (refl, refl)

-- MODULE M; VAR a: ARRAY 256 OF ARRAY 256 OF INTEGER; BEGIN END M.
abbrev pub square : Tree Name module_text
square = forms_module (codes "M") (forms_block (declares none none (one (declares_var_section (more (declares_variable (listed (codes "a") end) (array_type (alone (integer 256)) (array_type (alone (integer 256)) (named_type (codes "INTEGER"))))) end))) end) (one (begins (runs empty end)))) (codes "M")

pub square-fits : (has_consistent_names square ≡ true) × (passes_type_check naming_by_spelling square ≡ true)
unfolding passes_type_check
square-fits = (refl, refl)

-- MODULE M; VAR a: ARRAY 256 OF ARRAY 257 OF INTEGER; BEGIN END M.
abbrev pub larger_than_square : Tree Name module_text
larger_than_square = forms_module (codes "M") (forms_block (declares none none (one (declares_var_section (more (declares_variable (listed (codes "a") end) (array_type (alone (integer 256)) (array_type (alone (integer 257)) (named_type (codes "INTEGER"))))) end))) end) (one (begins (runs empty end)))) (codes "M")

pub larger_than_square-fits : (has_consistent_names larger_than_square ≡ true) × (passes_type_check naming_by_spelling larger_than_square ≡ false)
unfolding passes_type_check
larger_than_square-fits = (refl, refl)

-- MODULE M; VAR a: ARRAY 65536 OF INTEGER; BEGIN END M.
abbrev pub longest_array : Tree Name module_text
longest_array = forms_module (codes "M") (forms_block (declares none none (one (declares_var_section (more (declares_variable (listed (codes "a") end) (array_type (alone (integer 65536)) (named_type (codes "INTEGER")))) end))) end) (one (begins (runs empty end)))) (codes "M")

pub longest_array-fits : (has_consistent_names longest_array ≡ true) × (passes_type_check naming_by_spelling longest_array ≡ true)
unfolding passes_type_check
longest_array-fits = (refl, refl)

-- MODULE M; VAR a: ARRAY 65537 OF INTEGER; BEGIN END M.
abbrev pub array_too_long : Tree Name module_text
array_too_long = forms_module (codes "M") (forms_block (declares none none (one (declares_var_section (more (declares_variable (listed (codes "a") end) (array_type (alone (integer 65537)) (named_type (codes "INTEGER")))) end))) end) (one (begins (runs empty end)))) (codes "M")

pub array_too_long-fits : (has_consistent_names array_too_long ≡ true) × (passes_type_check naming_by_spelling array_too_long ≡ false)
unfolding passes_type_check
array_too_long-fits = (refl, refl)

-- MODULE M; VAR a: ARRAY 0 OF INTEGER; BEGIN END M.
abbrev pub array_of_none : Tree Name module_text
array_of_none = forms_module (codes "M") (forms_block (declares none none (one (declares_var_section (more (declares_variable (listed (codes "a") end) (array_type (alone (integer 0)) (named_type (codes "INTEGER")))) end))) end) (one (begins (runs empty end)))) (codes "M")

pub array_of_none-fits : (has_consistent_names array_of_none ≡ true) × (passes_type_check naming_by_spelling array_of_none ≡ false)
unfolding passes_type_check
array_of_none-fits = (refl, refl)

-- types A1 to A100, each an ARRAY 1 OF the previous one
abbrev pub hundred_deep : Tree Name module_text
hundred_deep = forms_module (codes "M") (forms_block (declares none (one (declares_type_section (more (declares_type (codes "A1") (array_type (alone (integer 1)) (named_type (codes "INTEGER")))) (more (declares_type (codes "A2") (array_type (alone (integer 1)) (named_type (codes "A1")))) (more (declares_type (codes "A3") (array_type (alone (integer 1)) (named_type (codes "A2")))) (more (declares_type (codes "A4") (array_type (alone (integer 1)) (named_type (codes "A3")))) (more (declares_type (codes "A5") (array_type (alone (integer 1)) (named_type (codes "A4")))) (more (declares_type (codes "A6") (array_type (alone (integer 1)) (named_type (codes "A5")))) (more (declares_type (codes "A7") (array_type (alone (integer 1)) (named_type (codes "A6")))) (more (declares_type (codes "A8") (array_type (alone (integer 1)) (named_type (codes "A7")))) (more (declares_type (codes "A9") (array_type (alone (integer 1)) (named_type (codes "A8")))) (more (declares_type (codes "A10") (array_type (alone (integer 1)) (named_type (codes "A9")))) (more (declares_type (codes "A11") (array_type (alone (integer 1)) (named_type (codes "A10")))) (more (declares_type (codes "A12") (array_type (alone (integer 1)) (named_type (codes "A11")))) (more (declares_type (codes "A13") (array_type (alone (integer 1)) (named_type (codes "A12")))) (more (declares_type (codes "A14") (array_type (alone (integer 1)) (named_type (codes "A13")))) (more (declares_type (codes "A15") (array_type (alone (integer 1)) (named_type (codes "A14")))) (more (declares_type (codes "A16") (array_type (alone (integer 1)) (named_type (codes "A15")))) (more (declares_type (codes "A17") (array_type (alone (integer 1)) (named_type (codes "A16")))) (more (declares_type (codes "A18") (array_type (alone (integer 1)) (named_type (codes "A17")))) (more (declares_type (codes "A19") (array_type (alone (integer 1)) (named_type (codes "A18")))) (more (declares_type (codes "A20") (array_type (alone (integer 1)) (named_type (codes "A19")))) (more (declares_type (codes "A21") (array_type (alone (integer 1)) (named_type (codes "A20")))) (more (declares_type (codes "A22") (array_type (alone (integer 1)) (named_type (codes "A21")))) (more (declares_type (codes "A23") (array_type (alone (integer 1)) (named_type (codes "A22")))) (more (declares_type (codes "A24") (array_type (alone (integer 1)) (named_type (codes "A23")))) (more (declares_type (codes "A25") (array_type (alone (integer 1)) (named_type (codes "A24")))) (more (declares_type (codes "A26") (array_type (alone (integer 1)) (named_type (codes "A25")))) (more (declares_type (codes "A27") (array_type (alone (integer 1)) (named_type (codes "A26")))) (more (declares_type (codes "A28") (array_type (alone (integer 1)) (named_type (codes "A27")))) (more (declares_type (codes "A29") (array_type (alone (integer 1)) (named_type (codes "A28")))) (more (declares_type (codes "A30") (array_type (alone (integer 1)) (named_type (codes "A29")))) (more (declares_type (codes "A31") (array_type (alone (integer 1)) (named_type (codes "A30")))) (more (declares_type (codes "A32") (array_type (alone (integer 1)) (named_type (codes "A31")))) (more (declares_type (codes "A33") (array_type (alone (integer 1)) (named_type (codes "A32")))) (more (declares_type (codes "A34") (array_type (alone (integer 1)) (named_type (codes "A33")))) (more (declares_type (codes "A35") (array_type (alone (integer 1)) (named_type (codes "A34")))) (more (declares_type (codes "A36") (array_type (alone (integer 1)) (named_type (codes "A35")))) (more (declares_type (codes "A37") (array_type (alone (integer 1)) (named_type (codes "A36")))) (more (declares_type (codes "A38") (array_type (alone (integer 1)) (named_type (codes "A37")))) (more (declares_type (codes "A39") (array_type (alone (integer 1)) (named_type (codes "A38")))) (more (declares_type (codes "A40") (array_type (alone (integer 1)) (named_type (codes "A39")))) (more (declares_type (codes "A41") (array_type (alone (integer 1)) (named_type (codes "A40")))) (more (declares_type (codes "A42") (array_type (alone (integer 1)) (named_type (codes "A41")))) (more (declares_type (codes "A43") (array_type (alone (integer 1)) (named_type (codes "A42")))) (more (declares_type (codes "A44") (array_type (alone (integer 1)) (named_type (codes "A43")))) (more (declares_type (codes "A45") (array_type (alone (integer 1)) (named_type (codes "A44")))) (more (declares_type (codes "A46") (array_type (alone (integer 1)) (named_type (codes "A45")))) (more (declares_type (codes "A47") (array_type (alone (integer 1)) (named_type (codes "A46")))) (more (declares_type (codes "A48") (array_type (alone (integer 1)) (named_type (codes "A47")))) (more (declares_type (codes "A49") (array_type (alone (integer 1)) (named_type (codes "A48")))) (more (declares_type (codes "A50") (array_type (alone (integer 1)) (named_type (codes "A49")))) (more (declares_type (codes "A51") (array_type (alone (integer 1)) (named_type (codes "A50")))) (more (declares_type (codes "A52") (array_type (alone (integer 1)) (named_type (codes "A51")))) (more (declares_type (codes "A53") (array_type (alone (integer 1)) (named_type (codes "A52")))) (more (declares_type (codes "A54") (array_type (alone (integer 1)) (named_type (codes "A53")))) (more (declares_type (codes "A55") (array_type (alone (integer 1)) (named_type (codes "A54")))) (more (declares_type (codes "A56") (array_type (alone (integer 1)) (named_type (codes "A55")))) (more (declares_type (codes "A57") (array_type (alone (integer 1)) (named_type (codes "A56")))) (more (declares_type (codes "A58") (array_type (alone (integer 1)) (named_type (codes "A57")))) (more (declares_type (codes "A59") (array_type (alone (integer 1)) (named_type (codes "A58")))) (more (declares_type (codes "A60") (array_type (alone (integer 1)) (named_type (codes "A59")))) (more (declares_type (codes "A61") (array_type (alone (integer 1)) (named_type (codes "A60")))) (more (declares_type (codes "A62") (array_type (alone (integer 1)) (named_type (codes "A61")))) (more (declares_type (codes "A63") (array_type (alone (integer 1)) (named_type (codes "A62")))) (more (declares_type (codes "A64") (array_type (alone (integer 1)) (named_type (codes "A63")))) (more (declares_type (codes "A65") (array_type (alone (integer 1)) (named_type (codes "A64")))) (more (declares_type (codes "A66") (array_type (alone (integer 1)) (named_type (codes "A65")))) (more (declares_type (codes "A67") (array_type (alone (integer 1)) (named_type (codes "A66")))) (more (declares_type (codes "A68") (array_type (alone (integer 1)) (named_type (codes "A67")))) (more (declares_type (codes "A69") (array_type (alone (integer 1)) (named_type (codes "A68")))) (more (declares_type (codes "A70") (array_type (alone (integer 1)) (named_type (codes "A69")))) (more (declares_type (codes "A71") (array_type (alone (integer 1)) (named_type (codes "A70")))) (more (declares_type (codes "A72") (array_type (alone (integer 1)) (named_type (codes "A71")))) (more (declares_type (codes "A73") (array_type (alone (integer 1)) (named_type (codes "A72")))) (more (declares_type (codes "A74") (array_type (alone (integer 1)) (named_type (codes "A73")))) (more (declares_type (codes "A75") (array_type (alone (integer 1)) (named_type (codes "A74")))) (more (declares_type (codes "A76") (array_type (alone (integer 1)) (named_type (codes "A75")))) (more (declares_type (codes "A77") (array_type (alone (integer 1)) (named_type (codes "A76")))) (more (declares_type (codes "A78") (array_type (alone (integer 1)) (named_type (codes "A77")))) (more (declares_type (codes "A79") (array_type (alone (integer 1)) (named_type (codes "A78")))) (more (declares_type (codes "A80") (array_type (alone (integer 1)) (named_type (codes "A79")))) (more (declares_type (codes "A81") (array_type (alone (integer 1)) (named_type (codes "A80")))) (more (declares_type (codes "A82") (array_type (alone (integer 1)) (named_type (codes "A81")))) (more (declares_type (codes "A83") (array_type (alone (integer 1)) (named_type (codes "A82")))) (more (declares_type (codes "A84") (array_type (alone (integer 1)) (named_type (codes "A83")))) (more (declares_type (codes "A85") (array_type (alone (integer 1)) (named_type (codes "A84")))) (more (declares_type (codes "A86") (array_type (alone (integer 1)) (named_type (codes "A85")))) (more (declares_type (codes "A87") (array_type (alone (integer 1)) (named_type (codes "A86")))) (more (declares_type (codes "A88") (array_type (alone (integer 1)) (named_type (codes "A87")))) (more (declares_type (codes "A89") (array_type (alone (integer 1)) (named_type (codes "A88")))) (more (declares_type (codes "A90") (array_type (alone (integer 1)) (named_type (codes "A89")))) (more (declares_type (codes "A91") (array_type (alone (integer 1)) (named_type (codes "A90")))) (more (declares_type (codes "A92") (array_type (alone (integer 1)) (named_type (codes "A91")))) (more (declares_type (codes "A93") (array_type (alone (integer 1)) (named_type (codes "A92")))) (more (declares_type (codes "A94") (array_type (alone (integer 1)) (named_type (codes "A93")))) (more (declares_type (codes "A95") (array_type (alone (integer 1)) (named_type (codes "A94")))) (more (declares_type (codes "A96") (array_type (alone (integer 1)) (named_type (codes "A95")))) (more (declares_type (codes "A97") (array_type (alone (integer 1)) (named_type (codes "A96")))) (more (declares_type (codes "A98") (array_type (alone (integer 1)) (named_type (codes "A97")))) (more (declares_type (codes "A99") (array_type (alone (integer 1)) (named_type (codes "A98")))) (more (declares_type (codes "A100") (array_type (alone (integer 1)) (named_type (codes "A99")))) end)))))))))))))))))))))))))))))))))))))))))))))))))))))))))))))))))))))))))))))))))))))))))))))))))))))) none end) (one (begins (runs empty end)))) (codes "M")

pub hundred_deep-fits : passes_type_check naming_by_spelling hundred_deep ≡ true
unfolding passes_type_check
hundred_deep-fits = refl

-- types A1 to A101, each an ARRAY 1 OF the previous one
abbrev pub hundred_and_one_deep : Tree Name module_text
hundred_and_one_deep = forms_module (codes "M") (forms_block (declares none (one (declares_type_section (more (declares_type (codes "A1") (array_type (alone (integer 1)) (named_type (codes "INTEGER")))) (more (declares_type (codes "A2") (array_type (alone (integer 1)) (named_type (codes "A1")))) (more (declares_type (codes "A3") (array_type (alone (integer 1)) (named_type (codes "A2")))) (more (declares_type (codes "A4") (array_type (alone (integer 1)) (named_type (codes "A3")))) (more (declares_type (codes "A5") (array_type (alone (integer 1)) (named_type (codes "A4")))) (more (declares_type (codes "A6") (array_type (alone (integer 1)) (named_type (codes "A5")))) (more (declares_type (codes "A7") (array_type (alone (integer 1)) (named_type (codes "A6")))) (more (declares_type (codes "A8") (array_type (alone (integer 1)) (named_type (codes "A7")))) (more (declares_type (codes "A9") (array_type (alone (integer 1)) (named_type (codes "A8")))) (more (declares_type (codes "A10") (array_type (alone (integer 1)) (named_type (codes "A9")))) (more (declares_type (codes "A11") (array_type (alone (integer 1)) (named_type (codes "A10")))) (more (declares_type (codes "A12") (array_type (alone (integer 1)) (named_type (codes "A11")))) (more (declares_type (codes "A13") (array_type (alone (integer 1)) (named_type (codes "A12")))) (more (declares_type (codes "A14") (array_type (alone (integer 1)) (named_type (codes "A13")))) (more (declares_type (codes "A15") (array_type (alone (integer 1)) (named_type (codes "A14")))) (more (declares_type (codes "A16") (array_type (alone (integer 1)) (named_type (codes "A15")))) (more (declares_type (codes "A17") (array_type (alone (integer 1)) (named_type (codes "A16")))) (more (declares_type (codes "A18") (array_type (alone (integer 1)) (named_type (codes "A17")))) (more (declares_type (codes "A19") (array_type (alone (integer 1)) (named_type (codes "A18")))) (more (declares_type (codes "A20") (array_type (alone (integer 1)) (named_type (codes "A19")))) (more (declares_type (codes "A21") (array_type (alone (integer 1)) (named_type (codes "A20")))) (more (declares_type (codes "A22") (array_type (alone (integer 1)) (named_type (codes "A21")))) (more (declares_type (codes "A23") (array_type (alone (integer 1)) (named_type (codes "A22")))) (more (declares_type (codes "A24") (array_type (alone (integer 1)) (named_type (codes "A23")))) (more (declares_type (codes "A25") (array_type (alone (integer 1)) (named_type (codes "A24")))) (more (declares_type (codes "A26") (array_type (alone (integer 1)) (named_type (codes "A25")))) (more (declares_type (codes "A27") (array_type (alone (integer 1)) (named_type (codes "A26")))) (more (declares_type (codes "A28") (array_type (alone (integer 1)) (named_type (codes "A27")))) (more (declares_type (codes "A29") (array_type (alone (integer 1)) (named_type (codes "A28")))) (more (declares_type (codes "A30") (array_type (alone (integer 1)) (named_type (codes "A29")))) (more (declares_type (codes "A31") (array_type (alone (integer 1)) (named_type (codes "A30")))) (more (declares_type (codes "A32") (array_type (alone (integer 1)) (named_type (codes "A31")))) (more (declares_type (codes "A33") (array_type (alone (integer 1)) (named_type (codes "A32")))) (more (declares_type (codes "A34") (array_type (alone (integer 1)) (named_type (codes "A33")))) (more (declares_type (codes "A35") (array_type (alone (integer 1)) (named_type (codes "A34")))) (more (declares_type (codes "A36") (array_type (alone (integer 1)) (named_type (codes "A35")))) (more (declares_type (codes "A37") (array_type (alone (integer 1)) (named_type (codes "A36")))) (more (declares_type (codes "A38") (array_type (alone (integer 1)) (named_type (codes "A37")))) (more (declares_type (codes "A39") (array_type (alone (integer 1)) (named_type (codes "A38")))) (more (declares_type (codes "A40") (array_type (alone (integer 1)) (named_type (codes "A39")))) (more (declares_type (codes "A41") (array_type (alone (integer 1)) (named_type (codes "A40")))) (more (declares_type (codes "A42") (array_type (alone (integer 1)) (named_type (codes "A41")))) (more (declares_type (codes "A43") (array_type (alone (integer 1)) (named_type (codes "A42")))) (more (declares_type (codes "A44") (array_type (alone (integer 1)) (named_type (codes "A43")))) (more (declares_type (codes "A45") (array_type (alone (integer 1)) (named_type (codes "A44")))) (more (declares_type (codes "A46") (array_type (alone (integer 1)) (named_type (codes "A45")))) (more (declares_type (codes "A47") (array_type (alone (integer 1)) (named_type (codes "A46")))) (more (declares_type (codes "A48") (array_type (alone (integer 1)) (named_type (codes "A47")))) (more (declares_type (codes "A49") (array_type (alone (integer 1)) (named_type (codes "A48")))) (more (declares_type (codes "A50") (array_type (alone (integer 1)) (named_type (codes "A49")))) (more (declares_type (codes "A51") (array_type (alone (integer 1)) (named_type (codes "A50")))) (more (declares_type (codes "A52") (array_type (alone (integer 1)) (named_type (codes "A51")))) (more (declares_type (codes "A53") (array_type (alone (integer 1)) (named_type (codes "A52")))) (more (declares_type (codes "A54") (array_type (alone (integer 1)) (named_type (codes "A53")))) (more (declares_type (codes "A55") (array_type (alone (integer 1)) (named_type (codes "A54")))) (more (declares_type (codes "A56") (array_type (alone (integer 1)) (named_type (codes "A55")))) (more (declares_type (codes "A57") (array_type (alone (integer 1)) (named_type (codes "A56")))) (more (declares_type (codes "A58") (array_type (alone (integer 1)) (named_type (codes "A57")))) (more (declares_type (codes "A59") (array_type (alone (integer 1)) (named_type (codes "A58")))) (more (declares_type (codes "A60") (array_type (alone (integer 1)) (named_type (codes "A59")))) (more (declares_type (codes "A61") (array_type (alone (integer 1)) (named_type (codes "A60")))) (more (declares_type (codes "A62") (array_type (alone (integer 1)) (named_type (codes "A61")))) (more (declares_type (codes "A63") (array_type (alone (integer 1)) (named_type (codes "A62")))) (more (declares_type (codes "A64") (array_type (alone (integer 1)) (named_type (codes "A63")))) (more (declares_type (codes "A65") (array_type (alone (integer 1)) (named_type (codes "A64")))) (more (declares_type (codes "A66") (array_type (alone (integer 1)) (named_type (codes "A65")))) (more (declares_type (codes "A67") (array_type (alone (integer 1)) (named_type (codes "A66")))) (more (declares_type (codes "A68") (array_type (alone (integer 1)) (named_type (codes "A67")))) (more (declares_type (codes "A69") (array_type (alone (integer 1)) (named_type (codes "A68")))) (more (declares_type (codes "A70") (array_type (alone (integer 1)) (named_type (codes "A69")))) (more (declares_type (codes "A71") (array_type (alone (integer 1)) (named_type (codes "A70")))) (more (declares_type (codes "A72") (array_type (alone (integer 1)) (named_type (codes "A71")))) (more (declares_type (codes "A73") (array_type (alone (integer 1)) (named_type (codes "A72")))) (more (declares_type (codes "A74") (array_type (alone (integer 1)) (named_type (codes "A73")))) (more (declares_type (codes "A75") (array_type (alone (integer 1)) (named_type (codes "A74")))) (more (declares_type (codes "A76") (array_type (alone (integer 1)) (named_type (codes "A75")))) (more (declares_type (codes "A77") (array_type (alone (integer 1)) (named_type (codes "A76")))) (more (declares_type (codes "A78") (array_type (alone (integer 1)) (named_type (codes "A77")))) (more (declares_type (codes "A79") (array_type (alone (integer 1)) (named_type (codes "A78")))) (more (declares_type (codes "A80") (array_type (alone (integer 1)) (named_type (codes "A79")))) (more (declares_type (codes "A81") (array_type (alone (integer 1)) (named_type (codes "A80")))) (more (declares_type (codes "A82") (array_type (alone (integer 1)) (named_type (codes "A81")))) (more (declares_type (codes "A83") (array_type (alone (integer 1)) (named_type (codes "A82")))) (more (declares_type (codes "A84") (array_type (alone (integer 1)) (named_type (codes "A83")))) (more (declares_type (codes "A85") (array_type (alone (integer 1)) (named_type (codes "A84")))) (more (declares_type (codes "A86") (array_type (alone (integer 1)) (named_type (codes "A85")))) (more (declares_type (codes "A87") (array_type (alone (integer 1)) (named_type (codes "A86")))) (more (declares_type (codes "A88") (array_type (alone (integer 1)) (named_type (codes "A87")))) (more (declares_type (codes "A89") (array_type (alone (integer 1)) (named_type (codes "A88")))) (more (declares_type (codes "A90") (array_type (alone (integer 1)) (named_type (codes "A89")))) (more (declares_type (codes "A91") (array_type (alone (integer 1)) (named_type (codes "A90")))) (more (declares_type (codes "A92") (array_type (alone (integer 1)) (named_type (codes "A91")))) (more (declares_type (codes "A93") (array_type (alone (integer 1)) (named_type (codes "A92")))) (more (declares_type (codes "A94") (array_type (alone (integer 1)) (named_type (codes "A93")))) (more (declares_type (codes "A95") (array_type (alone (integer 1)) (named_type (codes "A94")))) (more (declares_type (codes "A96") (array_type (alone (integer 1)) (named_type (codes "A95")))) (more (declares_type (codes "A97") (array_type (alone (integer 1)) (named_type (codes "A96")))) (more (declares_type (codes "A98") (array_type (alone (integer 1)) (named_type (codes "A97")))) (more (declares_type (codes "A99") (array_type (alone (integer 1)) (named_type (codes "A98")))) (more (declares_type (codes "A100") (array_type (alone (integer 1)) (named_type (codes "A99")))) (more (declares_type (codes "A101") (array_type (alone (integer 1)) (named_type (codes "A100")))) end))))))))))))))))))))))))))))))))))))))))))))))))))))))))))))))))))))))))))))))))))))))))))))))))))))))) none end) (one (begins (runs empty end)))) (codes "M")

pub hundred_and_one_deep-fits : passes_type_check naming_by_spelling hundred_and_one_deep ≡ false
unfolding passes_type_check
hundred_and_one_deep-fits = refl

-- MODULE M; BEGIN REPEAT UNTIL 1 END M.
abbrev pub until_number : Tree Name module_text
until_number = forms_module (codes "M") (forms_block (declares none none none end) (one (begins (runs (repeat_loop (runs empty end) (alone (integer 1))) end)))) (codes "M")

pub until_number-fits : (has_consistent_names until_number ≡ true) × (passes_type_check naming_by_spelling until_number ≡ false)
unfolding passes_type_check
until_number-fits = (refl, refl)

-- MODULE M; VAR b: BOOLEAN; BEGIN REPEAT b := TRUE UNTIL b END M.
abbrev pub until_boolean : Tree Name module_text
until_boolean = forms_module (codes "M") (forms_block (declares none none (one (declares_var_section (more (declares_variable (listed (codes "b") end) (named_type (codes "BOOLEAN"))) end))) end) (one (begins (runs (repeat_loop (runs (assigns (codes "b") end (alone (designator (codes "TRUE") end))) end) (alone (designator (codes "b") end))) end)))) (codes "M")

pub until_boolean-fits : (has_consistent_names until_boolean ≡ true) × (passes_type_check naming_by_spelling until_boolean ≡ true)
unfolding passes_type_check
until_boolean-fits = (refl, refl)
