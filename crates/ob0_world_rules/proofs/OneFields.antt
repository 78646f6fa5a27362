-- Proves that a module's text has one list of fields, whichever table of ordinals is used.
-- Two tables of ordinals agree only at identifiers, so the proof doesn't compare the tables.
-- Instead it puts the ordinal of the field's record in front of the name of each field. The module
-- with these names is the same for both tables (`IsOwnerTable`), and each identifier's record can
-- be read from its name.
use Rattle.std.proofs.Common.{◌≡◌, ◌≢◌, ◌∙◌, ℕ, suc, ◌+◌, ◌<◌, ◌≤◌, Option, Some, None, List, [], ◌∷◌, map, length, replicate, set, refl, sym, ap, subst, arith, le_refl, get_or-set_other, get_or-set_same}
use Rattle.std.proofs.Math.ListN.{length-set}
use Rattle.std.proofs.lemmas.List.{get_or-replicate, length-replicate}
use Rattle.ob0_tree.specs.declared.tree.Role.{Role}
use Rattle.ob0_tree.specs.declared.tree.Role.TheVariants as role
use Rattle.ob0_tree.specs.Terminals.{Terminal, Name, Number, WordOrSymbol, EndOfText, mapped_terminal}
use Rattle.ob0_tree.specs.IdentifierIndexes.{AreAscendingWithin, identifier_names}
use Rattle.ob0_tree.specs.ParsedModule.{tree_of}
use Rattle.ob0_tree.specs.TokenIndexLeaves.{token_text_at, token_value_at}
use Rattle.ob0_tree.specs.Tree.{Sort, Tree, mapped_tree, spell}
use Rattle.ob0_tree.proofs.Leaves.{ascending_bounds, leaves_ascend, leaves_spelled, lexeme_names}
use Rattle.ob0_tree.proofs.Mapped.{spell_mapped}
use Rattle.ob0_language_names.specs.Names as written
use Rattle.ob0_scope_table.specs.Resolution.{Resolution, ordinal_in}
use Rattle.ob0_types.specs.CheckedModules.{IsWellTyped}
use Rattle.ob0_language_fields.specs.RenamedFields.{rename_fields_in_module}
use Rattle.ob0_types_fields.specs.OwnerTables.{IsOwnerTable, renaming_by_record}
use Rattle.ob0_types_fields.specs.FieldIdentifiers.{field_identifiers}
use Rattle.ob0_types_fields.specs.IdentifierOwners.{AgreesWithOwnerList, fields_with_owners, identifier_owners_in_resolution, table_with_owners}
use Rattle.ob0_types_fields.proofs.OwnersByToken.{agreeing_table_is_owner_table-holds, module-tokens, tokens}
use Rattle.ob0_world_rules.proofs.OneModule.{Same, one_named_tree}

-- ---- the table of a module's fields

-- Writing fields into a table doesn't change its entries at smaller tokens.
kept_below : (xs : List (Role × (ℕ × Option ℕ))) (table : List (Option ℕ)) (low high i : ℕ) → AreAscendingWithin low (tokens xs) high → i < low → ordinal_in (table_with_owners table (fields_with_owners xs)) i ≡ ordinal_in table i
kept_below [] table low high i ascend below = refl
kept_below ((_, (x, None)) ∷ xs) table low high i ascend below = kept_below xs table (x + 1) high i ascend.1 (omega (arith, ascend.0, below))
kept_below ((_, (x, Some k)) ∷ xs) table low high i ascend below =
    let other : i ≢ x = omega (arith, ascend.0, below) in
    kept_below xs (set table x (Some k)) (x + 1) high i ascend.1 (omega (arith, ascend.0, below)) ∙ get_or-set_other table x i (Some k) None other

-- Writing the fields of ascending tokens into a table that has none of them gives each token its owner.
has_owners : (xs : List (Role × (ℕ × Option ℕ))) (table : List (Option ℕ)) (low high : ℕ) → AreAscendingWithin low (tokens xs) high → high ≤ length table → ((i : ℕ) → low ≤ i → i < high → ordinal_in table i ≡ None)
    → AgreesWithOwnerList (ordinal_in (table_with_owners table (fields_with_owners xs))) xs
has_owners [] table low high ascend within vacant = tt
has_owners ((_, (x, None)) ∷ xs) table low high ascend within vacant =
    let last = ascending_bounds (x + 1) (tokens xs) high ascend.1 in (
      kept_below xs table (x + 1) high x ascend.1 (omega arith) ∙ vacant x ascend.0 (omega (arith, last)),
      has_owners xs table (x + 1) high ascend.1 within (λ i l u. vacant i (omega (arith, l, ascend.0)) u),
    )
has_owners ((_, (x, Some k)) ∷ xs) table low high ascend within vacant =
    let next : List (Option ℕ) = set table x (Some k) in
    let last = ascending_bounds (x + 1) (tokens xs) high ascend.1 in
    let inside : x < length table = omega (arith, last, within) in
    let still : high ≤ length next = subst (λ n. high ≤ n) (sym (length-set table x (Some k))) within in (
      kept_below xs next (x + 1) high x ascend.1 (omega arith) ∙ get_or-set_same table x (Some k) None inside,
      has_owners xs next (x + 1) high ascend.1 still (λ i l u. let other : i ≢ x = omega (arith, l) in get_or-set_other table x i (Some k) None other ∙ vacant i (omega (arith, l, ascend.0)) u),
    )

abbrev table_of : Resolution → List (Option ℕ)
table_of r = table_with_owners (replicate (length r.module_read.source.tokens) None) (fields_with_owners (identifier_owners_in_resolution r))

module _ (r : Resolution) (well : IsWellTyped r) where
  table_has : AgreesWithOwnerList (ordinal_in (table_of r)) (identifier_owners_in_resolution r)
  table_has =
      let n : ℕ = length r.module_read.source.tokens in
      let nothing : Option ℕ = None in
      let ascend = subst (λ ts. AreAscendingWithin 0 ts n) (sym (module-tokens r)) (leaves_ascend r.module_read well.resolved.parsed) in
      has_owners (identifier_owners_in_resolution r) (replicate n nothing) 0 n ascend (subst (λ z. n ≤ z) (sym (length-replicate n nothing)) (le_refl n)) (λ i l u. get_or-replicate n i nothing None u)

  table_owns : IsOwnerTable r.module_read (table_of r)
  table_owns = agreeing_table_is_owner_table-holds r (table_of r) well.resolved well.well_typed table_has

-- ---- two tables of one module

names_relabelled : {N M : Type 0} (f : N → M) (g : ℕ → ℕ) (xs : List (Terminal N)) → lexeme_names (map (mapped_terminal f g) xs) ≡ map f (lexeme_names xs)
names_relabelled f g [] = refl
names_relabelled f g (Name n ∷ xs) = ap (λ z. f n ∷ z) (names_relabelled f g xs)
names_relabelled f g (Number n ∷ xs) = names_relabelled f g xs
names_relabelled f g (WordOrSymbol k ∷ xs) = names_relabelled f g xs
names_relabelled f g (EndOfText ∷ xs) = names_relabelled f g xs

pub leaves_mapped : {N M : Type 0} {s : Sort} (f : N → M) (g : ℕ → ℕ) (t : Tree N s) → identifier_names (mapped_tree f g t) ≡ map f (identifier_names t)
leaves_mapped f g t =
    leaves_spelled role.DeclaringName (mapped_tree f g t)
    ∙ (ap lexeme_names (spell_mapped f g t) ∙ (names_relabelled f g (spell t) ∙ ap (map f) (sym (leaves_spelled role.DeclaringName t))))

-- returns a field's name, marked by the ordinal of its record
abbrev marked_by : ℕ → written.Name → written.Name
marked_by k x = k ∷ x

longer : (k : ℕ) (x : List ℕ) → x ≡ k ∷ x → ⊥
longer k x h = let long : length x ≡ suc (length x) = ap length h in omega (arith, long)

one_owner : (a b : Option ℕ) (x : written.Name) → renaming_by_record marked_by a x ≡ renaming_by_record marked_by b x → a ≡ b
one_owner None None x h = refl
one_owner None (Some k) x h = absurd (longer k x h)
one_owner (Some k) None x h = absurd (longer k x (sym h))
one_owner (Some k) (Some l) x h = cc

head_is : {A : Type 0} {x y : A} {xs ys : List A} → x ∷ xs ≡ y ∷ ys → x ≡ y
head_is h = cc

tail_is : {A : Type 0} {x y : A} {xs ys : List A} → x ∷ xs ≡ y ∷ ys → xs ≡ ys
tail_is h = cc

-- returns the name that a table gives a token
abbrev writes : (ℕ → written.Name) → List (Option ℕ) → ℕ → written.Name
writes text table i = renaming_by_record marked_by (ordinal_in table i) (text i)

-- The roles of identifiers don't matter for the fields among them.
one_more : (q s : Role) (y : ℕ) (o : Option ℕ) (xs ys : List (Role × (ℕ × Option ℕ))) → fields_with_owners xs ≡ fields_with_owners ys → fields_with_owners ((q, (y, o)) ∷ xs) ≡ fields_with_owners ((s, (y, o)) ∷ ys)
one_more q s y None xs ys h = h
one_more q s y (Some k) xs ys h = ap (λ z. record { token = y; owner = k } ∷ z) h

same_owned : (text : ℕ → written.Name) (a b : List (Option ℕ)) (xs ys : List (Role × (ℕ × Option ℕ))) → AgreesWithOwnerList (ordinal_in a) xs → AgreesWithOwnerList (ordinal_in b) ys → tokens xs ≡ tokens ys
    → map (writes text a) (tokens xs) ≡ map (writes text b) (tokens ys) → fields_with_owners xs ≡ fields_with_owners ys
same_owned text a b [] [] h k same wrote = refl
same_owned text a b [] (y ∷ ys) h k same wrote = absurd (cc)
same_owned text a b (x ∷ xs) [] h k same wrote = absurd (cc)
same_owned text a b ((q, (x, o)) ∷ xs) ((s, (y, l)) ∷ ys) h k same wrote =
    let token : x ≡ y = head_is same in
    let here : writes text a x ≡ writes text b x = head_is wrote ∙ ap (writes text b) (sym token) in
    let table : ordinal_in a x ≡ ordinal_in b x = one_owner (ordinal_in a x) (ordinal_in b x) (text x) here in
    let owner : o ≡ l = sym h.0 ∙ (table ∙ (ap (ordinal_in b) token ∙ k.0)) in
    (λ i. fields_with_owners ((q, (token i, owner i)) ∷ xs)) ∙ one_more q s y l xs ys (same_owned text a b xs ys h.1 k.1 (tail_is same) (tail_is wrote))

module _ (r q : Resolution) (well : IsWellTyped r) (also : IsWellTyped q) (e : Same r.module_read q.module_read) where
  tokens_of : tokens (identifier_owners_in_resolution r) ≡ identifier_names (tree_of r.module_read)
  tokens_of = module-tokens r

  tokens_too : tokens (identifier_owners_in_resolution q) ≡ identifier_names (tree_of q.module_read)
  tokens_too = module-tokens q

  -- The module with its fields so marked is the same for both readings.
  same_writing : map (writes (token_text_at r.module_read.source) (table_of r)) (identifier_names (tree_of r.module_read)) ≡ map (writes (token_text_at q.module_read.source) (table_of q)) (identifier_names (tree_of q.module_read))
  same_writing =
      sym (leaves_mapped (writes (token_text_at r.module_read.source) (table_of r)) (token_value_at r.module_read.source) (tree_of r.module_read))
      ∙ (ap identifier_names (sym (table_owns r well marked_by) ∙ (ap (rename_fields_in_module (renaming_by_record marked_by)) (one_named_tree e) ∙ table_owns q also marked_by))
      ∙ leaves_mapped (writes (token_text_at q.module_read.source) (table_of q)) (token_value_at q.module_read.source) (tree_of q.module_read))

  pub one_list_of_fields : field_identifiers r ≡ field_identifiers q
  one_list_of_fields =
      let text : ℕ → written.Name = token_text_at r.module_read.source in
      let there : map (writes text (table_of r)) (tokens (identifier_owners_in_resolution r)) ≡ map (writes text (table_of q)) (tokens (identifier_owners_in_resolution q)) =
      ap (map (writes text (table_of r))) tokens_of ∙ (same_writing ∙ (ap (λ s. map (writes (token_text_at s) (table_of q)) (identifier_names (tree_of q.module_read))) (sym e.source) ∙ ap (map (writes text (table_of q))) (sym tokens_too))) in
      same_owned text (table_of r) (table_of q) (identifier_owners_in_resolution r) (identifier_owners_in_resolution q) (table_has r well) (table_has q also) (tokens_of ∙ (ap identifier_names e.tree ∙ sym tokens_too)) there
