-- States that the bindings of a module agree with the table of its declarations.
-- `BlockBindingsAreDeclared` recurses over the tree, and is about each environment in which
-- procedures or statements of a block are checked. Each binding in this environment has an ordinal,
-- and the object that the table has at this ordinal. The ordinals descend, since the newest binding
-- is first and ordinals count up in text order. So each ordinal is bound once, and a look-up of the
-- ordinal finds its binding. A well-typed module has this property (`module-declared`). No other
-- fact about the order of ordinals is used.
-- Rule: none; used in contracts of lowering.
use Rattle.std.specs.Prelude.{◌≡◌, ℕ, suc, ◌≤◌, List, [], ◌∷◌, Some, Option}
use Rattle.ob0_tree.specs.Tree.{Tree, block, items, procedure}
use Rattle.ob0_language_names.specs.Names.{Label, declared}
use Rattle.ob0_language_types.specs.Bodies.{HoldsForBlockEnvironments, HoldsForProcedureListEnvironments}
use Rattle.ob0_language_types.specs.Expressions.{Object}
use Rattle.ob0_language_types.specs.WellTyped.{Signature, TypeEnvironment}
use Rattle.ob0_language_values.specs.Values.{Shape}

-- The type of a module's declarations as a function: from an ordinal to the declaration's object,
-- or to None if no object has this ordinal.
abbrev pub ObjectByOrdinal : Type 0
ObjectByOrdinal = ℕ → Option (Object Shape Signature)

-- states that the newest binding of a list has an ordinal below `n`
abbrev pub NewestIsBelow : {A : Type 0} → ℕ → List (Label × A) → Type 0
NewestIsBelow n [] = Unit {0}
NewestIsBelow n (b ∷ bindings) = (k : ℕ) × (b.0 ≡ declared k) × (suc k ≤ n)

-- States that the bindings of a list bind ordinals that descend. The list is an environment or a
-- placement: the newest binding is first.
abbrev pub OrdinalsDescend : {A : Type 0} → List (Label × A) → Type 0
OrdinalsDescend [] = Unit {0}
OrdinalsDescend (b ∷ bindings) = ((k : ℕ) × (b.0 ≡ declared k) × NewestIsBelow k bindings) × OrdinalsDescend bindings

-- States that each binding of an environment binds an ordinal to the object that `objects` returns
-- for this ordinal, and that the ordinals descend.
abbrev pub BindingsAreDeclared : ObjectByOrdinal → TypeEnvironment Label → Type 0
BindingsAreDeclared objects [] = Unit {0}
BindingsAreDeclared objects (b ∷ env) =
    ((k : ℕ) × (b.0 ≡ declared k) × (objects k ≡ Some b.1) × NewestIsBelow k env) × BindingsAreDeclared objects env

-- States that `BindingsAreDeclared` holds for each environment in which the procedures and the
-- statements of a block are checked. This includes the environments of all blocks inside this
-- block.
abbrev pub BlockBindingsAreDeclared : ObjectByOrdinal → TypeEnvironment Label → ℕ → Tree Label block → Type 0
BlockBindingsAreDeclared objects = HoldsForBlockEnvironments (BindingsAreDeclared objects)

-- States that `BindingsAreDeclared` holds for each environment in which some procedures and their
-- blocks are checked. It must also hold for the environment after the last of these procedures.
abbrev pub ProcedureBindingsAreDeclared : ObjectByOrdinal
    → TypeEnvironment Label
    → ℕ
    → Tree Label (items procedure)
    → Type 0
ProcedureBindingsAreDeclared objects = HoldsForProcedureListEnvironments (BindingsAreDeclared objects)
