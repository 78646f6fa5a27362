-- Defines environments, which bind each visible name to an object.
-- Rule: docs/LANGUAGE.md, Scopes 4.
use Rattle.std.specs.Prelude.{true, false, List, [], ◌∷◌, Some, None, Option}
use Rattle.ob0_language_names.specs.Names.{Naming}
use Rattle.ob0_language_types.specs.Expressions.{Meanings, Object, a_constant, a_standard_procedure, a_type, read_procedure, write_procedure, write_line_procedure}
use Rattle.ob0_language_values.specs.Values.{boolean_shape, integer_shape, truth}

-- a list of bindings of names to objects, newest first, the predeclared names last
abbrev pub Environment : Type 0 → Type 0 → Type 0 → Type 0
Environment N V P = List (N × Object V P)

-- returns the part of an environment that begins with the newest binding of the name `x`; an empty
-- list if `x` has no binding
abbrev pub suffix_from_newest_binding : {N V P : Type 0} → Naming N → Environment N V P → N → Environment N V P
suffix_from_newest_binding naming [] x = []
suffix_from_newest_binding naming (b ∷ env) x =
    elim (naming.same x b.0) [ true ↦ b ∷ env | false ↦ suffix_from_newest_binding naming env x ]

-- returns the object of the first binding, which is the newest binding; None if the environment is empty
abbrev pub newest_object : {N V P : Type 0} → Environment N V P → Option (Object V P)
newest_object [] = None
newest_object (b ∷ env) = Some b.1

-- returns the meanings of names in an environment: each name means the object of its newest binding, and a name without
-- a binding means nothing
abbrev pub meanings : {N V P : Type 0} → Naming N → Environment N V P → Meanings N V P
meanings naming env =
    record { object_for = λ x. newest_object (suffix_from_newest_binding naming env x); written = naming.written }

-- returns the environment of the outermost block: INTEGER, BOOLEAN, TRUE, FALSE, Read, Write and WriteLn
abbrev pub outermost_environment : {N V P : Type 0} → Naming N → Environment N V P
outermost_environment naming =
    (naming.predeclared 6, a_standard_procedure write_line_procedure)
    ∷ (naming.predeclared 5, a_standard_procedure write_procedure)
    ∷ (naming.predeclared 4, a_standard_procedure read_procedure)
    ∷ (naming.predeclared 3, a_constant (truth false))
    ∷ (naming.predeclared 2, a_constant (truth true))
    ∷ (naming.predeclared 1, a_type boolean_shape)
    ∷ (naming.predeclared 0, a_type integer_shape)
    ∷ []
