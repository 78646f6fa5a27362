-- Defines the tree and the bindings of the example text, and proves that the text is a well-typed
-- module with this tree and these bindings.
use Rattle.std.proofs.Common.{◌≡◌, ◌+◌, ℕ, zero, suc, Bool, true, false, ◌&&◌, List, [], ◌∷◌, Option, Some, None, refl, subst, arith}
use Rattle.std.specs.Prelude.{slice_index_or}
use Rattle.std.proofs.lemmas.Bool.{and_parts}
use Rattle.ob0_tree.specs.declared.tree.Expression.{Expression, Factor}
use Rattle.ob0_tree.specs.declared.tree.Factor.{Designator', Integer, end_of-Selector}
use Rattle.ob0_tree.specs.declared.tree.Statement.{Statement, Assign, Call}
use Rattle.ob0_tree.specs.declared.tree.WrittenType.{Named}
use Rattle.ob0_tree.specs.declared.tree.ConstantDeclaration.{ConstantDeclaration}
use Rattle.ob0_tree.specs.declared.tree.VariableDeclaration.{VariableDeclaration}
use Rattle.ob0_tree.specs.declared.tree.Block.{Block, Block', end_of-Procedure}
use Rattle.ob0_tree.specs.ParsedModule.{TreeMatchesText, ParsedModule, named_tree_of}
use Rattle.ob0_tree.specs.Module.{IsModuleWithTree}
use Rattle.ob0_tree.specs.Tree.{nesting}
use Rattle.ob0_scope_table.specs.Resolution.{AreNameFaultsOf, IsResolution, OnlyIdentifiersHaveOrdinals, Resolution, is_identifier_token}
use Rattle.ob0_language_types.specs.WellTyped.{WellTyped}
use Rattle.ob0_world_worked.proofs.WorkedValues.{boxed, none_of, one_of, two_of}
use Rattle.ob0_world_worked.proofs.WorkedTexts.{scanned_of, worked_lexemes, worked_short}

-- ---- the tree

abbrev pub used : ℕ → Expression
used token = Factor (Designator' token none_of end_of-Selector)

abbrev pub n_is_two : ConstantDeclaration
n_is_two = record { name = 4; value = Factor (Integer 6) }

abbrev pub x_is : VariableDeclaration
x_is = record { names = record { first = 9; more = none_of }; written = Named 11 }

abbrev pub sets_x : Statement
sets_x = Assign (boxed (record { target = record { name = 14; selectors = none_of }; value = used 16 }))

abbrev pub writes_x : Statement
writes_x = Call (record { procedure = 18; arguments = Some (one_of (used 20)) })

abbrev pub worked_block : Block
worked_block = Block' (Some (one_of n_is_two)) None (Some (one_of x_is)) none_of end_of-Procedure (Some (two_of sets_x writes_x))

abbrev pub worked_module : ParsedModule
worked_module = record { source = scanned_of worked_lexemes; name = 1; block = worked_block; closing = 23 }

worked_module_of : IsModuleWithTree (scanned_of worked_lexemes) (named_tree_of worked_module)
worked_module_of = record { spelled = refl; short = worked_short; shallow = let n : nesting (named_tree_of worked_module) ≡ 0 = refl in omega (arith, n) }

pub worked_parsed : TreeMatchesText worked_module
worked_parsed = record { module_of = worked_module_of; places = refl }

-- ---- the bindings

abbrev pub worked_ordinals : List (Option ℕ)
worked_ordinals =
    None ∷ None ∷ None ∷ None ∷ Some 7 ∷ None ∷ None ∷ None ∷ None ∷ Some 8 ∷ None ∷ Some 0 ∷ None ∷ None ∷ Some 8 ∷ None ∷ Some 7 ∷ None ∷ Some 5 ∷ None ∷ Some 8
    ∷ None ∷ None ∷ None ∷ None ∷ []

abbrev pub worked_names : Resolution
worked_names = record { module_read = worked_module; ordinals = worked_ordinals; declaration_tokens = 4 ∷ 9 ∷ []; uses = 11 ∷ 14 ∷ 16 ∷ 18 ∷ 20 ∷ []; faults = [] }

abbrev pub only_at : (ℕ → Bool) → ℕ → List (Option ℕ) → Bool
only_at p k [] = true
only_at p k (None ∷ xs) = only_at p (suc k) xs
only_at p k (Some o ∷ xs) = p k && only_at p (suc k) xs

elsewhere : (p : ℕ → Bool) (k : ℕ) (xs : List (Option ℕ)) → only_at p k xs ≡ true → (i : ℕ) → p (k + i) ≡ false → slice_index_or xs i None ≡ None
elsewhere p k [] h i e = refl
elsewhere p k (None ∷ xs) h zero e = refl
elsewhere p k (None ∷ xs) h (suc i) e = elsewhere p (suc k) xs h i (subst (λ n. p n ≡ false) (omega (arith)) e)
elsewhere p k (Some o ∷ xs) h zero e =
    let a = and_parts (p k) (only_at p (suc k) xs) h in
    let b : p k ≡ false = subst (λ n. p n ≡ false) (omega (arith)) e in
    absurd (cc)
elsewhere p k (Some o ∷ xs) h (suc i) e =
    elsewhere p (suc k) xs (and_parts (p k) (only_at p (suc k) xs) h).1 i (subst (λ n. p n ≡ false) (omega (arith)) e)

worked_faults : AreNameFaultsOf worked_module []
worked_faults = record { by_kind = refl; declared_twice = refl; undeclared = refl }

worked_alone : OnlyIdentifiersHaveOrdinals worked_module worked_ordinals
worked_alone token e =
    let same : token ≡ 0 + token = omega (arith) in
    elsewhere (is_identifier_token worked_module) 0 worked_ordinals refl token (subst (λ n. is_identifier_token worked_module n ≡ false) same e)

pub worked_resolved : IsResolution worked_names
worked_resolved =
    record {
      parsed = worked_parsed;
      numbering = refl;
      binding = refl;
      ordinals_only_at_names = worked_alone;
      declaring = refl;
      occurring = refl;
      reported = worked_faults;
    }

pub worked_fits : WellTyped (named_tree_of worked_module)
unfolding WellTyped
worked_fits = (refl, refl)
