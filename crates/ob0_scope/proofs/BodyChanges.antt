-- Proves that if the spellings of tokens of one body change, the names outside the body are the same
-- as before, and the old table is right there. Only names that were undeclared before and names in
-- the body can be undeclared.
use Rattle.std.proofs.Common.{◌≡◌, ◌==◌, ◌≤◌, ℕ, ◌+◌, ◌-◌, true, false, Option, Some, List, [], ◌∷◌, ◌++◌, map, length, refl, sym, ap, ◌∙◌, subst, arith}
use Rattle.std.specs.List.{list_any}
use Rattle.ob0_scan.specs.TextWithTokens.{TextWithTokens}
use Rattle.ob0_tree.specs.declared.tree.Role.{Role}
use Rattle.ob0_tree.specs.declared.tree.Role.TheVariants as role
use Rattle.ob0_tree.specs.FirstIdentifier.{first_identifier}
use Rattle.ob0_tree.specs.IdentifierIndexes.{AreAscendingWithin, identifier_names, names_without_roles}
use Rattle.ob0_tree.specs.ParsedModule.{ParsedModule, TreeMatchesText, tree_of}
use Rattle.ob0_tree.specs.TokenIndexLeaves.{token_text_at, token_value_at, tree_with_names}
use Rattle.ob0_tree.specs.Tree.{identifiers, occurrences}
use Rattle.ob0_tree.proofs.AscendingNumbers.{AllFrom}
use Rattle.ob0_tree.proofs.Leaves.{leaves_ascend}
use Rattle.ob0_tree.proofs.MappedIdentifiers.{beside_role}
use Rattle.ob0_scope_table.specs.Bindings.{resolution_with_bindings}
use Rattle.ob0_scope_table.specs.BodyReplacement.{PathToBody, body_at_path, closing_name_at_path, module_without_body, path_to_body_in_module}
use Rattle.ob0_scope_table.specs.SpellingChangesInOneBody.{ChangesSpellingsInOneBody, is_outside_range}
use Rattle.ob0_scope_table.specs.Resolution.{IsBindingTable, IsResolution, ordinal_and_spelling_at_token, ordinal_in, undeclared_faults_from_table}
use Rattle.ob0_scope_table.specs.TokenProperty.{EachTokenSatisfies}
use Rattle.ob0_scope_table.specs.declared.resolved.Bindings.{Bindings}
use Rattle.ob0_scope_table.proofs.BodyOutside.{module_outside}
use Rattle.ob0_scope_table.proofs.BodyReplacement.{text_by_word, value_by_word}
use Rattle.ob0_scope_table.proofs.FewTokens.{few_tokens}
use Rattle.ob0_scope_table.proofs.MappedAlike.{mapped_alike}
use Rattle.ob0_scope_table.proofs.Placed.{places_ascend}
use Rattle.ob0_scope.specs.BindingsOutsideBody.{tokens_in_changed_text, undeclared_tokens}
use Rattle.ob0_scope.specs.declared.body_range.BodyRange.{BodyRange}
use Rattle.ob0_scope.proofs.BodyBound.{IsBoundOutside, alike_outside, bound_by, bound_outside}
use Rattle.ob0_scope.proofs.BodySplit.{Split, split_module}
use Rattle.ob0_scope.proofs.CarriedLists.{far, parted}
use Rattle.ob0_scope.proofs.CarriedNames.{Known, undeclared_carried}

-- returns the range of a body whose closing name doesn't move
abbrev pub unmoved : ℕ → ℕ → BodyRange
unmoved first closing = record { first = first; old_closing = closing; closing = closing }

far_stays : (first closing : ℕ) (xs : List (Role × ℕ)) → AllFrom closing (names_without_roles xs) → map (beside_role (far (unmoved first closing))) xs ≡ xs
far_stays first closing [] h = refl
far_stays first closing (x ∷ xs) h = let here : x.1 - closing + closing ≡ x.1 = omega (arith, h.0) in λ i. (x.0, here i) ∷ far_stays first closing xs h.1 i

module _ (old : TextWithTokens) (m : ParsedModule) (low high : ℕ) (parsed : TreeMatchesText m) (change : ChangesSpellingsInOneBody old m low high) where
  abbrev earlier : ParsedModule
  earlier = record m { source = old }

  abbrev path : PathToBody
  path = path_to_body_in_module low (tree_of m)

  abbrev IsOut : ℕ → Type 0
  IsOut i = is_outside_range low high i ≡ true

  each_out : EachTokenSatisfies IsOut (module_without_body path (tree_of m))
  each_out = module_outside low high IsOut (λ k e. e) 0 (length m.source.tokens) (tree_of m) (places_ascend m parsed) change.in_body

  text_kept : (i : ℕ) → IsOut i → token_text_at m.source i ≡ token_text_at old i
  text_kept i e = text_by_word old m.source i i (change.same_words i e)

  value_kept : (i : ℕ) → IsOut i → token_value_at m.source i ≡ token_value_at old i
  value_kept i e = value_by_word old m.source i i (change.same_words i e)

  -- The names outside the body are the same.
  pub names_kept : tree_with_names m.source (module_without_body path (tree_of m)) ≡ tree_with_names old (module_without_body path (tree_of m))
  names_kept = mapped_alike IsOut (token_text_at m.source) (token_text_at old) (token_value_at m.source) (token_value_at old) text_kept value_kept (module_without_body path (tree_of m)) each_out

  -- The old table is right outside the body.
  pub changed_outside : (table : List (Option ℕ)) → IsBindingTable earlier table → IsBoundOutside m path table
  changed_outside table is =
      let rest = module_without_body path (tree_of m) in
      let same : bound_by old table rest ≡ bound_by m.source table rest =
      mapped_alike IsOut (ordinal_and_spelling_at_token old table) (ordinal_and_spelling_at_token m.source table) (token_value_at old) (token_value_at m.source) (λ k e i. (ordinal_in table k, sym (text_kept k e) i)) (λ k e. sym (value_kept k e)) rest each_out in
      alike_outside m earlier path names_kept ∙ (bound_outside earlier path table is ∙ same)

  known : (first closing : ℕ) → first_identifier (body_at_path path (tree_of m)) ≡ Some first → closing ≡ closing_name_at_path path (tree_of m) → TreeMatchesText earlier → Known earlier m path (unmoved first closing)
  known first closing first_is closing_is before =
      let own = identifiers role.DeclaringName (body_at_path path (tree_of m)) in
      let s : Split (identifiers role.DeclaringName (tree_of m)) (identifiers role.DeclaringName (module_without_body path (tree_of m))) own closing =
      subst (Split (identifiers role.DeclaringName (tree_of m)) (identifiers role.DeclaringName (module_without_body path (tree_of m))) own) (sym closing_is) (split_module path (tree_of m)) in
      let tail : List (Role × ℕ) = (s.closes, closing) ∷ s.after in
      let p = parted s.before own s.after s.closes first closing (length old.tokens) first_is (subst (λ l. AreAscendingWithin 0 (names_without_roles l) (length old.tokens)) s.whole_is (leaves_ascend earlier before)) in
      let tokens = few_tokens old change.old_scan in
      let inside = p.few in
      record {
        before = s.before;
        own = own;
        others = own;
        after = tail;
        olds = s.whole_is;
        news = s.whole_is ∙ ap (λ z. s.before ++ (own ++ z)) (sym (far_stays first closing tail p.after_from));
        others_are = refl;
        others_from = p.own_from;
        others_below = p.own_below;
        old_parts = p;
        few = omega (arith, tokens, inside);
      }

  pub ordered : (first closing : ℕ) → first_identifier (body_at_path path (tree_of m)) ≡ Some first → closing ≡ closing_name_at_path path (tree_of m) → TreeMatchesText earlier → first ≤ closing
  ordered first closing first_is closing_is before = let less = (known first closing first_is closing_is before).old_parts.less in omega (arith, less)

  -- Only names that were undeclared before and names in the body can be undeclared.
  pub changed_undeclared : (b : Bindings) (ordinals : List (Option ℕ)) (own : List ℕ) (first closing : ℕ) → IsResolution (resolution_with_bindings earlier b) → first_identifier (body_at_path path (tree_of m)) ≡ Some first → closing ≡ closing_name_at_path path (tree_of m)
      → own ≡ occurrences (body_at_path path (tree_of m))
      → ((i : ℕ) → list_any (λ j. j == i) (identifier_names (body_at_path path (tree_of m))) ≡ false → ordinal_in ordinals i ≡ ordinal_in b.ordinals.items i)
      → undeclared_faults_from_table ordinals (tokens_in_changed_text (unmoved first closing) (undeclared_tokens b.faults.items) own) ≡ undeclared_faults_from_table ordinals (occurrences (tree_of m))
  changed_undeclared b ordinals own first closing res first_is closing_is own_is same =
      undeclared_carried earlier m path (unmoved first closing) (known first closing first_is closing_is res.parsed) b b.ordinals.items ordinals own res own_is
      (record { near = λ x less. refl; beyond = λ x le. let stays : x - closing + closing ≡ x = omega (arith, le) in ap (ordinal_in b.ordinals.items) stays }) same
