-- Proves that if the statements of one body were replaced, the kept data, with the names of the new
-- body looked up again, are the bindings of the module. Outside the body both modules have the same
-- labels, because a body declares nothing. So the moved entries of the table are right there.
use Rattle.std.proofs.Common.{◌≡◌, ◌==◌, ◌<◌, ◌≤◌, ◌⊎◌, ℕ, ◌+◌, ◌-◌, ◌^◌, Bool, true, false, Option, None, List, [], ◌∷◌, ◌++◌, map, length, slice_get, refl, sym, ap, ◌∙◌, subst, arith, inl, inr}
use Rattle.std.proofs.Math.Dec.{ltb}
use Rattle.std.proofs.Math.Nat.{min-eq_left}
use Rattle.std.proofs.lemmas.Bool.{ltb-false, ltb-true}
use Rattle.std.proofs.lemmas.List.{map-append}
use Rattle.std.specs.List.{list_any}
use Rattle.ob0_scan.specs.ReusedLexemes.{words_of_tokens}
use Rattle.ob0_scan.specs.declared.tokens.CommonPrefixAndSuffix.{CommonPrefixAndSuffix}
use Rattle.ob0_tree.specs.declared.tree.Role.{Role}
use Rattle.ob0_tree.specs.declared.tree.Role.TheVariants as role
use Rattle.ob0_tree.specs.IdentifierIndexes.{AreAscendingWithin, identifier_names, names_without_roles}
use Rattle.ob0_tree.specs.ParsedModule.{ParsedModule, tree_of}
use Rattle.ob0_tree.specs.TokenIndexLeaves.{token_value_at}
use Rattle.ob0_tree.specs.Tree.{Tree, body, identifiers, maybe, occurrences}
use Rattle.ob0_tree.specs.FirstIdentifier.{first_identifier}
use Rattle.ob0_tree.proofs.Leaves.{leaves_ascend}
use Rattle.ob0_tree.proofs.Mapped.{mapped_twice}
use Rattle.ob0_tree.proofs.AscendingNumbers.{AllBelow, AllFrom, below_more, from_less}
use Rattle.ob0_tree.proofs.MappedIdentifiers.{beside_role, identifiers-mapped_tree}
use Rattle.ob0_scope_table.specs.BodyReplacement.{ReplacesStatementsOfOneBody, PathToBody, body_at_path, closing_name_at_path, shifted_token_index, path_to_body_in_module, module_without_body}
use Rattle.ob0_scope_table.specs.DuplicatesAndEndNames.{declaration_faults}
use Rattle.ob0_scope_table.specs.SpellingChangesInOneBody.{is_outside_range}
use Rattle.ob0_scope_table.specs.Resolution.{IsBindingTable, IsResolution, declaring_names, ordinal_and_spelling_at_token, ordinal_in, undeclared_faults_from_table}
use Rattle.ob0_scope_table.specs.declared.faults.FaultAtTokens.{FaultAtTokens}
use Rattle.ob0_scope_table.specs.declared.resolved.Bindings.{Bindings}
use Rattle.ob0_scope_table.proofs.BodyReplacement.{names_outside, outside_out, text_moved, value_moved}
use Rattle.ob0_scope_table.proofs.FewTokens.{few_tokens}
use Rattle.ob0_scope_table.proofs.MappedAlike.{mapped_alike}
use Rattle.ob0_scope_table.proofs.Moved.{above_out, below_out, moved_above, moved_below, out_cases}
use Rattle.ob0_scope_table.proofs.Plain.{declares_nothing}
use Rattle.ob0_scope_numbering.specs.BodyScope.{scope_from_table, state_before_body}
use Rattle.ob0_scope_numbering.specs.IdentifierSpellings.{original_spellings}
use Rattle.ob0_scope_numbering.specs.IdentifierWalk.{visit_module, visit_nondeclaring_tree}
use Rattle.ob0_scope_numbering.specs.MarkWalk as listing
use Rattle.ob0_scope_numbering.specs.TableWalk.{WalkState}
use Rattle.ob0_scope_numbering.proofs.Passing.{HasMarks}
use Rattle.ob0_scope.specs.BindingsOutsideBody.{IsRangeOfNewBody, tokens_in_changed_text, ordinals_in_changed_text, old_closing_token, undeclared_tokens}
use Rattle.ob0_scope.specs.NamesVisibleInBody.{names_visible_at_path}
use Rattle.ob0_scope.specs.declared.body_range.BodyRange.{BodyRange}
use Rattle.ob0_scope.proofs.BodyBound.{IsBoundOutside, alike_outside, body_rebound, bound_by, bound_outside, in_whole, rebound, rebound_uses}
use Rattle.ob0_scope.proofs.BodySplit.{split_module}
use Rattle.ob0_scope.proofs.CarriedLists.{carried_picked, far, parted, picks_declaring, same_parts, some_first, table_after, table_before, table_within}
use Rattle.ob0_scope.proofs.CarriedNames.{AgreeOutside, Known, uses_carried, undeclared_carried}
use Rattle.ob0_scope.proofs.IdentifierWords.{identifier_by_word, is_name_word}
use Rattle.ob0_scope.proofs.Made.{resolution_marked}

-- ---- the new indexes of tokens

stays : (s : CommonPrefixAndSuffix) (xs : List (Role × ℕ)) → AllBelow s.prefix (names_without_roles xs) → map (beside_role (shifted_token_index s)) xs ≡ xs
stays s [] h = refl
stays s (x ∷ xs) h = λ i. (x.0, moved_below s x.1 h.0 i) ∷ stays s xs h.1 i

far_is : (s : CommonPrefixAndSuffix) (range : BodyRange) (x : ℕ) → s.prefix ≤ s.old_suffix → s.old_suffix < range.old_closing → range.closing ≡ s.new_suffix + (range.old_closing - s.old_suffix) → range.old_closing ≤ x → shifted_token_index s x ≡ far range x
far_is s range x le less e h = moved_above s x le (omega (arith, less, h)) ∙ omega (arith, le, less, e, h)

goes_far : (s : CommonPrefixAndSuffix) (range : BodyRange) (xs : List (Role × ℕ)) → s.prefix ≤ s.old_suffix → s.old_suffix < range.old_closing → range.closing ≡ s.new_suffix + (range.old_closing - s.old_suffix) → AllFrom range.old_closing (names_without_roles xs)
    → map (beside_role (shifted_token_index s)) xs ≡ map (beside_role (far range)) xs
goes_far s range [] le less e h = refl
goes_far s range (x ∷ xs) le less e h = λ i. (x.0, far_is s range x.1 le less e h.0 i) ∷ goes_far s range xs le less e h.1 i

far_from : (range : BodyRange) (xs : List (Role × ℕ)) → AllFrom range.closing (names_without_roles (map (beside_role (far range)) xs))
far_from range [] = tt
far_from range (x ∷ xs) = (omega arith, far_from range xs)

-- ---- the identifiers of both modules

module _ (old new : ParsedModule) (path : PathToBody) (s : CommonPrefixAndSuffix) (r : ReplacesStatementsOfOneBody old new path s) where
  abbrev old_closing : ℕ
  old_closing = closing_name_at_path path (tree_of old)

  abbrev new_closing : ℕ
  new_closing = closing_name_at_path path (tree_of new)

  abbrev exact : BodyRange
  exact = record { first = r.first; old_closing = old_closing; closing = new_closing }

  closing_is : new_closing ≡ s.new_suffix + (old_closing - s.old_suffix)
  closing_is = let back = r.back in r.closing ∙ moved_above s old_closing r.old_range (omega (arith, back))

  known : Known old new path exact
  known =
      let so = split_module path (tree_of old) in
      let sn = split_module path (tree_of new) in
      let own = identifiers role.DeclaringName (body_at_path path (tree_of old)) in
      let others = identifiers role.DeclaringName (body_at_path path (tree_of new)) in
      let po = parted so.before own so.after so.closes r.first old_closing (length old.source.tokens) r.first_identifier_of_old_body (subst (λ l. AreAscendingWithin 0 (names_without_roles l) (length old.source.tokens)) so.whole_is (leaves_ascend old r.old_parsed)) in
      let pn = parted sn.before others sn.after sn.closes r.first new_closing (length new.source.tokens) r.first_identifier_of_new_body (subst (λ l. AreAscendingWithin 0 (names_without_roles l) (length new.source.tokens)) sn.whole_is (leaves_ascend new r.new_parsed)) in
      let old_tail : List (Role × ℕ) = (so.closes, old_closing) ∷ so.after in
      let new_tail : List (Role × ℕ) = (sn.closes, new_closing) ∷ sn.after in
      let old_range = r.old_range in
      let back = r.back in
      let front = r.front in
      let less = pn.less in
      let same : sn.before ++ new_tail ≡ so.before ++ map (beside_role (far exact)) old_tail =
      sym sn.rest_is
      ∙ (ap (identifiers role.DeclaringName) r.outside
      ∙ (identifiers-mapped_tree (shifted_token_index s) (shifted_token_index s) role.DeclaringName (module_without_body path (tree_of old))
      ∙ (ap (map (beside_role (shifted_token_index s))) so.rest_is
      ∙ (map-append (beside_role (shifted_token_index s)) so.before old_tail
      ∙ (λ i. stays s so.before (below_more r.first s.prefix (names_without_roles so.before) (omega (arith, front)) po.before_below) i ++ goes_far s exact old_tail old_range back closing_is po.after_from i))))) in
      let parts = same_parts r.first sn.before new_tail so.before (map (beside_role (far exact)) old_tail) pn.before_below po.before_below (from_less r.first new_closing (names_without_roles new_tail) (omega (arith, less)) pn.after_from)
      (from_less r.first new_closing (names_without_roles (map (beside_role (far exact)) old_tail)) (omega (arith, less)) (far_from exact old_tail)) same in
      let old_tokens = few_tokens old.source r.old_scan in
      let new_tokens = few_tokens new.source r.new_scan in
      let inside = pn.few in
      record {
        before = so.before;
        own = own;
        others = others;
        after = old_tail;
        olds = so.whole_is;
        news = sn.whole_is ∙ (λ i. parts.0 i ++ (others ++ parts.1 i));
        others_are = refl;
        others_from = pn.own_from;
        others_below = pn.own_below;
        old_parts = po;
        few = omega (arith, old_tokens, new_tokens, inside);
      }

  old_inside : old_closing < length old.source.tokens
  old_inside =
      let so = split_module path (tree_of old) in
      (parted so.before (identifiers role.DeclaringName (body_at_path path (tree_of old))) so.after so.closes r.first old_closing (length old.source.tokens) r.first_identifier_of_old_body
      (subst (λ l. AreAscendingWithin 0 (names_without_roles l) (length old.source.tokens)) so.whole_is (leaves_ascend old r.old_parsed))).few

  -- The old index of the closing name follows from the new one.
  place_is : old_closing_token s new_closing ≡ old_closing
  place_is =
      let back = r.back in
      let few = few_tokens old.source r.old_scan in
      let inside = old_inside in
      let there : new_closing - s.new_suffix + s.old_suffix ≡ old_closing = omega (arith, closing_is, back) in
      min-eq_left (let small : new_closing - s.new_suffix + s.old_suffix ≤ 2 ^ 64 - 1 = omega (arith, there, few, inside) in small) ∙ there

exact_is : (old new : ParsedModule) (path : PathToBody) (s : CommonPrefixAndSuffix) (range : BodyRange) (r : ReplacesStatementsOfOneBody old new path s) → range.first ≡ r.first → range.closing ≡ closing_name_at_path path (tree_of new) → range.old_closing ≡ old_closing_token s range.closing → exact old new path s r ≡ range
exact_is old new path s range r first closing place =
    let there = place ∙ (ap (old_closing_token s) closing ∙ place_is old new path s r) in
    λ i. record { first = sym first i; old_closing = sym there i; closing = sym closing i }

-- ---- the table

module _ (old new : ParsedModule) (path : PathToBody) (s : CommonPrefixAndSuffix) (r : ReplacesStatementsOfOneBody old new path s) (table : List (Option ℕ)) where
  abbrev kept : List (Option ℕ)
  kept = ordinals_in_changed_text s table

  abbrev out : ℕ → Bool
  out = is_outside_range s.prefix s.old_suffix

  -- The entry of a token outside the changed tokens is at its new index.
  entry_moved : (k : ℕ) → out k ≡ true → ordinal_in kept (shifted_token_index s k) ≡ ordinal_in table k
  entry_moved k e = one (out_cases s.prefix s.old_suffix k e)
    where
      one : (k < s.prefix) ⊎ (s.old_suffix ≤ k) → ordinal_in kept (shifted_token_index s k) ≡ ordinal_in table k
      one (inl less) = ap (ordinal_in kept) (moved_below s k less) ∙ table_before s table r.new_range k less
      one (inr le) =
          let back : s.old_suffix + (s.new_suffix + (k - s.old_suffix) - s.new_suffix) ≡ k = omega (arith, le) in
          ap (ordinal_in kept) (moved_above s k r.old_range le) ∙ (table_after s table r.new_range (s.new_suffix + (k - s.old_suffix)) (omega arith) ∙ ap (ordinal_in table) back)

  kept_agrees : AgreeOutside (exact old new path s r) table kept
  kept_agrees =
      let front = r.front in
      let back = r.back in
      record {
        near = λ x less. table_before s table r.new_range x (omega (arith, less, front));
        beyond = λ x le. ap (ordinal_in kept) (sym (far_is s (exact old new path s r) x r.old_range back (closing_is old new path s r) le)) ∙ entry_moved x (above_out s.prefix s.old_suffix x (omega (arith, back, le)));
      }

  -- The moved entries are right outside the body.
  kept_outside : IsBindingTable old table → IsBoundOutside new path kept
  kept_outside is =
      let rest = module_without_body path (tree_of old) in
      let move = shifted_token_index s in
      let before = ordinal_and_spelling_at_token old.source table in
      let now = ordinal_and_spelling_at_token new.source kept in
      let moved : bound_by old.source table rest ≡ bound_by new.source kept (module_without_body path (tree_of new)) =
      mapped_alike (λ k. out k ≡ true) before (λ k. now (move k)) (token_value_at old.source) (λ k. token_value_at new.source (move k))
      (λ k e i. (sym (entry_moved k e) i, sym (text_moved old new path s r k e) i)) (λ k e. sym (value_moved old new path s r k e)) rest (outside_out old new path s r)
      ∙ (sym (mapped_twice now now (token_value_at new.source) move move move rest) ∙ ap (bound_by new.source kept) (sym r.outside)) in
      alike_outside new old path (names_outside old new path s r) ∙ (bound_outside old path table is ∙ moved)

  -- A token that isn't an identifier has no entry.
  kept_alone : ((i : ℕ) → list_any (λ j. j == i) (identifier_names (tree_of old)) ≡ false → ordinal_in table i ≡ None) → (i : ℕ) → list_any (λ j. j == i) (identifier_names (tree_of new)) ≡ false → ordinal_in kept i ≡ None
  kept_alone alone i e = one (ltb i s.prefix) (ltb i s.new_suffix) refl refl
    where
      from : (k : ℕ) → out k ≡ true → shifted_token_index s k ≡ i → ordinal_in kept i ≡ None
      from k outside there =
          let absent : list_any (λ j. j == k) (identifier_names (tree_of old)) ≡ false =
          identifier_by_word old r.old_parsed k
          ∙ (ap is_name_word (sym (r.words k outside))
          ∙ (ap (λ j. is_name_word (slice_get (words_of_tokens new.source.text new.source.tokens) j)) there
          ∙ (sym (identifier_by_word new r.new_parsed i) ∙ e))) in
          ap (ordinal_in kept) (sym there) ∙ (entry_moved k outside ∙ alone k absent)

      last_case : s.new_suffix ≤ i → ordinal_in kept i ≡ None
      last_case h =
          let k = s.old_suffix + (i - s.new_suffix) in
          let le : s.old_suffix ≤ k = omega arith in
          from k (above_out s.prefix s.old_suffix k le) (moved_above s k r.old_range le ∙ (let back : s.new_suffix + (k - s.old_suffix) ≡ i = omega (arith, h) in back))

      one : (b c : Bool) → ltb i s.prefix ≡ b → ltb i s.new_suffix ≡ c → ordinal_in kept i ≡ None
      one true c f g = let less = ltb-true i s.prefix f in from i (below_out s.prefix s.old_suffix i less) (moved_below s i less)
      one false true f g = table_within s table r.new_range i (ltb-false i s.prefix f) (ltb-true i s.new_suffix g)
      one false false f g = last_case (ltb-false i s.new_suffix g)

-- ---- the complete result

pub new_body_bound : (m : ParsedModule) (b : Bindings) (table : List (Option ℕ)) (range : BodyRange) (names : List ℕ) (statements : Tree ℕ (maybe body)) (v : WalkState) (ordinals : List (Option ℕ)) (declaration_tokens own uses : List ℕ) (faults : List FaultAtTokens) → IsRangeOfNewBody m b table range names statements
    → length m.source.tokens ≤ length table → v ≡ visit_nondeclaring_tree statements (state_before_body m.source (scope_from_table m.source table names) table) → ordinals ≡ v.marks → own ≡ v.uses
    → declaration_tokens ≡ tokens_in_changed_text range b.declaration_tokens.items [] → uses ≡ tokens_in_changed_text range b.occurrences.items own
    → faults ≡ declaration_faults m ++ undeclared_faults_from_table ordinals (tokens_in_changed_text range (undeclared_tokens b.faults.items) own)
    → IsResolution (record { module_read = m; ordinals = ordinals; declaration_tokens = declaration_tokens; uses = uses; faults = faults })
new_body_bound m b table range names statements v ordinals declaration_tokens own uses faults n long visited marked looked_up declared used reported =
    let was = n.was_bound in
    let old = was.old in
    let path = was.path in
    let s = n.same in
    let r = was.replaced in
    let res = was.resolved in
    let there : path_to_body_in_module s.prefix (tree_of m) ≡ path = r.new_path in
    let statements_are = n.statements_are ∙ ap (λ y. body_at_path y (tree_of m)) there in
    let names_are = n.names_are ∙ ap (λ y. names_visible_at_path y (tree_of m)) there in
    let first : range.first ≡ r.first = some_first (sym n.first ∙ (ap (λ (t : Tree ℕ (maybe body)). first_identifier t) statements_are ∙ r.first_identifier_of_new_body)) in
    let is = exact_is old m path s range r first (n.closing ∙ ap (λ y. closing_name_at_path y (tree_of m)) there) n.old_closing in
    let known = subst (Known old m path) is (known old m path s r) in
    let agrees : AgreeOutside range b.ordinals.items table = subst (λ (t : List (Option ℕ)). AgreeOutside range b.ordinals.items t) (sym n.table_is) (subst (λ z. AgreeOutside z b.ordinals.items (ordinals_in_changed_text s b.ordinals.items)) is (kept_agrees old m path s r b.ordinals.items)) in
    let walked : v ≡ rebound m path r.new_parsed table = visited ∙ (λ i. visit_nondeclaring_tree (statements_are i) (state_before_body m.source (scope_from_table m.source table (names_are i)) table)) in
    let outside = subst (IsBoundOutside m path) (sym n.table_is) (kept_outside old m path s r b.ordinals.items res.binding) in
    let alone = subst (λ (t : List (Option ℕ)). (i : ℕ) → list_any (λ j. j == i) (identifier_names (tree_of m)) ≡ false → ordinal_in t i ≡ None) (sym n.table_is) (kept_alone old m path s r b.ordinals.items res.ordinals_only_at_names) in
    let again = body_rebound m path r.new_parsed table r.new_scan outside long in
    let ordinals_are : ordinals ≡ (rebound m path r.new_parsed table).marks = marked ∙ ap (λ (v : WalkState). v.marks) walked in
    let nothing : declaring_names known.others ≡ [] = ap declaring_names known.others_are ∙ (declares_nothing tt (body_at_path path (tree_of m))).plain in
    let declaring : declaration_tokens ≡ declaring_names (identifiers role.DeclaringName (tree_of m)) =
    declared
    ∙ ((λ i. tokens_in_changed_text range ((res.declaring ∙ ap declaring_names known.olds) i) (sym nothing i))
    ∙ (carried_picked range declaring_names known.before known.own known.after known.others (length old.source.tokens) picks_declaring known.old_parts known.few ∙ ap declaring_names (sym known.news))) in
    let own_is = looked_up ∙ (ap (λ (v : WalkState). v.uses) walked ∙ rebound_uses m path r.new_parsed table) in
    let occurring : uses ≡ occurrences (tree_of m) = used ∙ uses_carried old m path range known b.occurrences.items own res.occurring own_is in
    let same : (i : ℕ) → list_any (λ j. j == i) (identifier_names (body_at_path path (tree_of m))) ≡ false → ordinal_in ordinals i ≡ ordinal_in table i = λ i e. ap (λ (os : List (Option ℕ)). ordinal_in os i) ordinals_are ∙ again.elsewhere i e in
    let all = reported ∙ ap (λ fs. declaration_faults m ++ fs) (undeclared_carried old m path range known b table ordinals own res own_is agrees same ∙ ap (undeclared_faults_from_table ordinals) (sym occurring)) in
    resolution_marked m ordinals declaration_tokens uses (declaration_faults m) faults r.new_parsed
    (subst (λ (os : List (Option ℕ)). HasMarks (ordinal_in os) (visit_module (tree_of m) (listing.initial_walk_state (original_spellings m.source))).marks) (sym ordinals_are) again.marks)
    (λ token e. same token (in_whole m path token e) ∙ alone token e)
    declaring occurring refl all
