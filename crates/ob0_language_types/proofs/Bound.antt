-- The newest binding of an ordinal in two joined environments is the newest one in the first
-- environment. If the first has none, it is the newest one in the second. This is applied to the
-- environments of parameters and of a procedure.
use Rattle.std.proofs.Common.{◌≡◌, ℕ, ◌+◌, Bool, true, false, cond, List, [], ◌∷◌, ◌++◌, take, Some, None, Option, refl, sym, ap, ◌∙◌, arith, length-append}
use Rattle.std.proofs.Math.Seq.{take-append_seam}
use Rattle.ob0_tree.specs.Tree.{Tree, block, declares_procedure, formals, maybe}
use Rattle.ob0_language_names.specs.Names.{Label, naming_by_label}
use Rattle.ob0_language_names.specs.BlockParts.{formal_parameter_sections}
use Rattle.ob0_language_types.specs.Bindings.{block_bindings, list_if_some, procedure_bindings, added_bindings}
use Rattle.ob0_language_types.specs.Declarations.{formals_constructor_count}
use Rattle.ob0_language_types.specs.Environments.{suffix_from_newest_binding, newest_object}
use Rattle.ob0_language_types.specs.Expressions.{Object, a_variable}
use Rattle.ob0_language_types.specs.WellTyped.{Signature, TypeEnvironment, TypedParameter, bind_typed_parameters, bind_procedure, typed_parameters}
use Rattle.ob0_language_values.specs.Values.{Shape}

pub newest_object-if : (b : Bool) (x : Label) (o : Object Shape Signature) (env rest : TypeEnvironment Label) → newest_object (elim b [ true ↦ (x, o) ∷ env | false ↦ rest ]) ≡ cond b (Some o) (newest_object rest)
newest_object-if true x o env rest = refl
newest_object-if false x o env rest = refl

-- returns the first value, or the second if the first is missing
abbrev pub or_else : {A : Type 0} → Option A → Option A → Option A
or_else None b = b
or_else (Some a) b = Some a

or-if : {A : Type 0} (b : Bool) (o : A) (p q : Option A) → cond b (Some o) (or_else p q) ≡ or_else (cond b (Some o) p) q
or-if true o p q = refl
or-if false o p q = refl

pub newest_object-append : (xs ys : TypeEnvironment Label) (z : Label) → newest_object (suffix_from_newest_binding naming_by_label (xs ++ ys) z) ≡ or_else (newest_object (suffix_from_newest_binding naming_by_label xs z)) (newest_object (suffix_from_newest_binding naming_by_label ys z))
newest_object-append [] ys z = refl
newest_object-append ((y, o) ∷ xs) ys z =
    newest_object-if (naming_by_label.same z y) y o (xs ++ ys) (suffix_from_newest_binding naming_by_label (xs ++ ys) z)
    ∙ ap (cond (naming_by_label.same z y) (Some o)) (newest_object-append xs ys z)
    ∙ or-if (naming_by_label.same z y) o (newest_object (suffix_from_newest_binding naming_by_label xs z)) (newest_object (suffix_from_newest_binding naming_by_label ys z))
    ∙ ap (λ s. or_else s (newest_object (suffix_from_newest_binding naming_by_label ys z))) (sym (newest_object-if (naming_by_label.same z y) y o xs (suffix_from_newest_binding naming_by_label xs z)))

pub added_bindings-append : {A : Type 0} (first before : List A) → added_bindings before (first ++ before) ≡ first
added_bindings-append first before =
    ap (λ n. take n (first ++ before)) (omega (arith, length-append first before))
    ∙ take-append_seam first before

pub bind_typed_parameters-append : (ps : List (TypedParameter Label)) (first env : TypeEnvironment Label) → bind_typed_parameters ps (first ++ env) ≡ bind_typed_parameters ps first ++ env
bind_typed_parameters-append [] first env = refl
bind_typed_parameters-append (p ∷ ps) first env = bind_typed_parameters-append ps ((p.name, a_variable p.formal.shape) ∷ first) env

-- The bindings of a procedure are its block's bindings, followed by its heading's bindings.
pub headed_bindings : (env : TypeEnvironment Label) (k : ℕ) (x closing : Label) (fs : Tree Label (maybe formals)) (b : Tree Label block) (qs : List (TypedParameter Label)) → typed_parameters naming_by_label env k (formal_parameter_sections fs) ≡ Some qs
    → procedure_bindings naming_by_label env k (declares_procedure x fs b closing) ≡ block_bindings naming_by_label (bind_typed_parameters qs (bind_procedure x qs env)) (k + formals_constructor_count (formal_parameter_sections fs)) b ++ bind_typed_parameters qs (bind_procedure x qs [])
unfolding procedure_bindings
headed_bindings env k x closing fs b qs e = ap (λ o. list_if_some o (λ ps. block_bindings naming_by_label (bind_typed_parameters ps (bind_procedure x ps env)) (k + formals_constructor_count (formal_parameter_sections fs)) b ++ bind_typed_parameters ps (bind_procedure x ps []))) e
