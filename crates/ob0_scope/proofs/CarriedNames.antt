-- Proves which names are looked up and which are undeclared in a module in which one body changed.
-- Outside the body they are the same as before, at their new tokens.
use Rattle.std.proofs.Common.{◌≡◌, ◌<◌, ◌≤◌, ℕ, ◌+◌, ◌-◌, ◌^◌, ◌==◌, ◌⊎◌, inl, inr, Bool, true, false, cond, nat_le, nat_lt, if◌then◌else◌, is_some, Option, Some, None, List, [], ◌∷◌, ◌++◌, map, length, refl, sym, ap, ◌∙◌, arith, ltb-true}
use Rattle.std.proofs.Math.Nat.{min-eq_left}
use Rattle.std.proofs.lemmas.Bool.{leb-true}
use Rattle.std.specs.List.{filter, list_any}
use Rattle.ob0_scan.specs.declared.fault.FaultCode.TheVariants as code
use Rattle.ob0_tree.specs.declared.tree.Role.{Role}
use Rattle.ob0_tree.specs.declared.tree.Role.TheVariants as role
use Rattle.ob0_tree.specs.IdentifierIndexes.{identifier_names, names_without_roles}
use Rattle.ob0_tree.specs.ParsedModule.{ParsedModule, tree_of}
use Rattle.ob0_tree.specs.Tree.{identifiers, occurrences}
use Rattle.ob0_tree.proofs.AscendingNumbers.{AllBelow, AllFrom, ascending_below, from_less}
use Rattle.ob0_tree.proofs.Leaves.{leaves_ascend, occurrences_ascend}
use Rattle.ob0_tree.proofs.MappedIdentifiers.{beside_role}
use Rattle.ob0_tree.proofs.Occurring.{looked_up-occurrences, looked_up_only}
use Rattle.ob0_scope_table.specs.BodyReplacement.{PathToBody, body_at_path}
use Rattle.ob0_scope_table.specs.Bindings.{resolution_with_bindings}
use Rattle.ob0_scope_table.specs.FaultsAtTokens.{fault_at_token}
use Rattle.ob0_scope_table.specs.Resolution.{IsResolution, ordinal_in, undeclared_faults_from_table}
use Rattle.ob0_scope_table.specs.declared.faults.FaultAtTokens.{FaultAtTokens}
use Rattle.ob0_scope_table.specs.declared.resolved.Bindings.{Bindings}
use Rattle.ob0_scope.specs.BindingsOutsideBody.{shifted_token, shifted_tokens_after_body, tokens_before_body, tokens_in_changed_text, undeclared_tokens}
use Rattle.ob0_scope.specs.declared.body_range.BodyRange.{BodyRange}
use Rattle.ob0_scope.proofs.CarriedLists.{Parted, carried_picked, far, picks_looked_up}
use Rattle.ob0_scope.proofs.IdentifierWords.{no_larger, no_smaller}
use Rattle.ob0_scope.proofs.Made.{undeclared_unbound}

-- ---- undeclared names

abbrev pub tokens_of_faults : List FaultAtTokens → List ℕ
tokens_of_faults fs = map (λ (f : FaultAtTokens). f.first) fs

-- returns the tokens without an ordinal
abbrev pub unbound_tokens : List (Option ℕ) → List ℕ → List ℕ
unbound_tokens table xs = tokens_of_faults (undeclared_faults_from_table table xs)

abbrev pub fault_if_unbound : Option ℕ → ℕ → List FaultAtTokens → List FaultAtTokens
fault_if_unbound o token rest = if is_some o then rest else fault_at_token code.Undeclared token ∷ rest

undeclared_append : (table : List (Option ℕ)) (xs ys : List ℕ) → undeclared_faults_from_table table (xs ++ ys) ≡ undeclared_faults_from_table table xs ++ undeclared_faults_from_table table ys
undeclared_append table [] ys = refl
undeclared_append table (x ∷ xs) ys = one (undeclared_append table xs ys) (ordinal_in table x)
  where
    one : undeclared_faults_from_table table (xs ++ ys) ≡ undeclared_faults_from_table table xs ++ undeclared_faults_from_table table ys → (o : Option ℕ)
        → fault_if_unbound o x (undeclared_faults_from_table table (xs ++ ys)) ≡ fault_if_unbound o x (undeclared_faults_from_table table xs) ++ undeclared_faults_from_table table ys
    one rest None = ap (λ fs. fault_at_token code.Undeclared x ∷ fs) rest
    one rest (Some k) = rest

-- The names that the faults of a module report as undeclared are the ones without an ordinal.
pub undeclared_before : (m : ParsedModule) (b : Bindings) → IsResolution (resolution_with_bindings m b) → undeclared_tokens b.faults.items ≡ unbound_tokens b.ordinals.items (occurrences (tree_of m))
undeclared_before m b res = ap tokens_of_faults (res.reported.undeclared ∙ sym (undeclared_unbound m b.ordinals.items res.numbering))

-- states that a new table has the ordinals of an old one at the tokens outside a body
pub record AgreeOutside (range : BodyRange) (before now : List (Option ℕ)) : Type 0 where
  pub near : (x : ℕ) → x < range.first → ordinal_in now x ≡ ordinal_in before x
  pub beyond : (x : ℕ) → range.old_closing ≤ x → ordinal_in now (far range x) ≡ ordinal_in before x

module _ (range : BodyRange) (before now : List (Option ℕ)) (agree : AgreeOutside range before now) where
  abbrev faults : List ℕ → List FaultAtTokens
  faults xs = undeclared_faults_from_table now xs

  abbrev front : List ℕ → List ℕ
  front xs = tokens_before_body range xs

  abbrev back : List ℕ → List ℕ
  back xs = shifted_tokens_after_body range xs

  before_kept : (xs : List ℕ) → faults (front xs) ≡ faults (front (unbound_tokens before xs))
  before_kept [] = refl
  before_kept (x ∷ xs) = one (before_kept xs) (nat_lt x range.first) (ordinal_in before x) refl refl
    where
      one : faults (front xs) ≡ faults (front (unbound_tokens before xs)) → (b : Bool) (o : Option ℕ) → nat_lt x range.first ≡ b → ordinal_in before x ≡ o
          → faults (cond b (x ∷ front xs) (front xs)) ≡ faults (front (tokens_of_faults (fault_if_unbound o x (undeclared_faults_from_table before xs))))
      one rest true (Some k) e h = ap (λ o. fault_if_unbound o x (faults (front xs))) (agree.near x (ltb-true x range.first e) ∙ h) ∙ rest
      one rest true None e h = (λ i. fault_if_unbound (ordinal_in now x) x (rest i)) ∙ ap (λ b. faults (cond b (x ∷ front (unbound_tokens before xs)) (front (unbound_tokens before xs)))) (sym e)
      one rest false (Some k) e h = rest
      one rest false None e h = rest ∙ ap (λ b. faults (cond b (x ∷ front (unbound_tokens before xs)) (front (unbound_tokens before xs)))) (sym e)

  abbrev is_after : ℕ → Bool
  is_after i = nat_le range.old_closing i

  after_kept : (high : ℕ) (xs : List ℕ) → high + range.closing ≤ 2 ^ 64 - 1 → AllBelow high xs → faults (back xs) ≡ faults (back (unbound_tokens before xs))
  after_kept high [] few below = refl
  after_kept high (x ∷ xs) few below = one (after_kept high xs few below.1) (is_after x) (ordinal_in before x) refl refl
    where
      there : shifted_token range x ≡ far range x
      there = min-eq_left (let small : x - range.old_closing + range.closing ≤ 2 ^ 64 - 1 = omega (arith, few, below.0) in small)

      one : faults (back xs) ≡ faults (back (unbound_tokens before xs)) → (b : Bool) (o : Option ℕ) → is_after x ≡ b → ordinal_in before x ≡ o
          → faults (map (shifted_token range) (cond b (x ∷ filter is_after xs) (filter is_after xs))) ≡ faults (back (tokens_of_faults (fault_if_unbound o x (undeclared_faults_from_table before xs))))
      one rest true (Some k) e h = ap (λ o. fault_if_unbound o (shifted_token range x) (faults (back xs))) (ap (ordinal_in now) there ∙ (agree.beyond x (leb-true range.old_closing x e) ∙ h)) ∙ rest
      one rest true None e h =
          (λ i. fault_if_unbound (ordinal_in now (shifted_token range x)) (shifted_token range x) (rest i))
          ∙ ap (λ b. faults (map (shifted_token range) (cond b (x ∷ filter is_after (unbound_tokens before xs)) (filter is_after (unbound_tokens before xs))))) (sym e)
      one rest false (Some k) e h = rest
      one rest false None e h = rest ∙ ap (λ b. faults (map (shifted_token range) (cond b (x ∷ filter is_after (unbound_tokens before xs)) (filter is_after (unbound_tokens before xs))))) (sym e)

  -- If the tokens outside the body that were bound are omitted, the same names are undeclared.
  undeclared_kept : (high : ℕ) (xs own : List ℕ) → high + range.closing ≤ 2 ^ 64 - 1 → AllBelow high xs → faults (tokens_in_changed_text range xs own) ≡ faults (tokens_in_changed_text range (unbound_tokens before xs) own)
  undeclared_kept high xs own few below = parts xs ∙ ((λ i. before_kept xs i ++ (faults own ++ after_kept high xs few below i)) ∙ sym (parts (unbound_tokens before xs)))
    where
      parts : (ys : List ℕ) → faults (tokens_in_changed_text range ys own) ≡ faults (front ys) ++ (faults own ++ faults (back ys))
      parts ys =
          undeclared_append now (front ys) (own ++ back ys)
          ∙ ap (λ fs. faults (front ys) ++ fs) (undeclared_append now own (back ys))

-- ---- a module in which one body changed

-- states which identifiers are before the body, in the old body, in the new body, and after it
pub record Known (old new : ParsedModule) (path : PathToBody) (range : BodyRange) : Type 0 where
  pub before : List (Role × ℕ)
  pub own : List (Role × ℕ)
  pub others : List (Role × ℕ)
  pub after : List (Role × ℕ)
  pub olds : identifiers role.DeclaringName (tree_of old) ≡ before ++ (own ++ after)
  pub news : identifiers role.DeclaringName (tree_of new) ≡ before ++ (others ++ map (beside_role (far range)) after)
  pub others_are : others ≡ identifiers role.DeclaringName (body_at_path path (tree_of new))
  pub others_from : AllFrom range.first (names_without_roles others)
  pub others_below : AllBelow range.closing (names_without_roles others)
  pub old_parts : Parted before own after range.first range.old_closing (length old.source.tokens)
  pub few : length old.source.tokens + range.closing ≤ 2 ^ 64 - 1

module _ (old new : ParsedModule) (path : PathToBody) (range : BodyRange) (known : Known old new path range) where
  -- A token outside the body is no identifier of it.
  not_in_body : (i : ℕ) → (i < range.first) ⊎ (range.closing ≤ i) → list_any (λ j. j == i) (identifier_names (body_at_path path (tree_of new))) ≡ false
  not_in_body i place = ap (λ xs. list_any (λ j. j == i) (names_without_roles xs)) (sym known.others_are) ∙ one place
    where
      one : (i < range.first) ⊎ (range.closing ≤ i) → list_any (λ j. j == i) (names_without_roles known.others) ≡ false
      one (inl less) = no_larger i (names_without_roles known.others) (from_less (i + 1) range.first (names_without_roles known.others) (omega (arith, less)) known.others_from)
      one (inr le) = no_smaller range.closing i (names_without_roles known.others) le known.others_below

  -- The looked-up names are those outside the body as before, and those in the body.
  pub uses_carried : (uses own : List ℕ) → uses ≡ occurrences (tree_of old) → own ≡ occurrences (body_at_path path (tree_of new)) → tokens_in_changed_text range uses own ≡ occurrences (tree_of new)
  uses_carried uses own were are =
      let old_uses : uses ≡ looked_up_only (known.before ++ (known.own ++ known.after)) = were ∙ (sym (looked_up-occurrences role.DeclaringName (λ n xs. refl) (tree_of old)) ∙ ap looked_up_only known.olds) in
      let own_is : own ≡ looked_up_only known.others = are ∙ (sym (looked_up-occurrences role.DeclaringName (λ n xs. refl) (body_at_path path (tree_of new))) ∙ ap looked_up_only (sym known.others_are)) in
      (λ i. tokens_in_changed_text range (old_uses i) (own_is i))
      ∙ (carried_picked range looked_up_only known.before known.own known.after known.others (length old.source.tokens) picks_looked_up known.old_parts known.few
      ∙ (ap looked_up_only (sym known.news) ∙ looked_up-occurrences role.DeclaringName (λ n xs. refl) (tree_of new)))

  -- Only names that were undeclared before and names in the body can be undeclared.
  -- `table` has the old ordinals at the other tokens, and `ordinals` also those in the body.
  pub undeclared_carried : (b : Bindings) (table ordinals : List (Option ℕ)) (own : List ℕ) → IsResolution (resolution_with_bindings old b) → own ≡ occurrences (body_at_path path (tree_of new)) → AgreeOutside range b.ordinals.items table
      → ((i : ℕ) → list_any (λ j. j == i) (identifier_names (body_at_path path (tree_of new))) ≡ false → ordinal_in ordinals i ≡ ordinal_in table i)
      → undeclared_faults_from_table ordinals (tokens_in_changed_text range (undeclared_tokens b.faults.items) own) ≡ undeclared_faults_from_table ordinals (occurrences (tree_of new))
  undeclared_carried b table ordinals own res are agree same =
      let uses = occurrences (tree_of old) in
      let high = length old.source.tokens in
      let below = (ascending_below 0 uses high (occurrences_ascend (tree_of old) 0 high (leaves_ascend old res.parsed))).1 in
      let now : AgreeOutside range b.ordinals.items ordinals =
      record {
        near = λ x less. same x (not_in_body x (inl less)) ∙ agree.near x less;
        beyond = λ x le. same (far range x) (not_in_body (far range x) (inr (omega arith))) ∙ agree.beyond x le;
      } in
      ap (λ is. undeclared_faults_from_table ordinals (tokens_in_changed_text range is own)) (undeclared_before old b res)
      ∙ (sym (undeclared_kept range b.ordinals.items ordinals now high uses own known.few below)
      ∙ ap (undeclared_faults_from_table ordinals) (uses_carried uses own refl are))
