-- Proves which tokens and which table a module has after the tokens of one body are replaced.
use Rattle.std.proofs.Common.{◌≡◌, ◌<◌, ◌≤◌, ℕ, zero, suc, ◌+◌, ◌-◌, ◌^◌, Bool, cond, nat_le, nat_lt, Option, Some, None, List, [], ◌∷◌, ◌++◌, map, length, take, drop, replicate, get_or, refl, sym, ap, ◌∙◌, subst, arith, append-nil, length-append, lt-ltb, le-ltb}
use Rattle.std.proofs.Math.ListN.{get_or-append}
use Rattle.std.proofs.Math.Nat.{min-eq_left}
use Rattle.std.proofs.Math.Seq.{get_or-append_right}
use Rattle.std.proofs.lemmas.Bool.{le-leb, lt-leb}
use Rattle.std.proofs.lemmas.List.{get_or-drop, length-replicate, map-append}
use Rattle.std.proofs.lemmas.List.Elements.{filter-append}
use Rattle.std.specs.List.{filter}
use Rattle.ob0_scan.specs.declared.tokens.CommonPrefixAndSuffix.{CommonPrefixAndSuffix}
use Rattle.ob0_tree.specs.declared.tree.Role.{Role}
use Rattle.ob0_tree.specs.declared.tree.Role.TheVariants as role
use Rattle.ob0_tree.specs.IdentifierIndexes.{AreAscendingWithin, names_without_roles}
use Rattle.ob0_tree.proofs.Occurring.{looked_up_only, looked_up_only-append}
use Rattle.ob0_tree.specs.FirstIdentifier.{token_of_first_identifier}
use Rattle.ob0_tree.proofs.AscendingNumbers.{AllBelow, AllFrom, ascend_second, ascending_below, ascending_from, before_one, below_more, from_first, from_less, leaves_append}
use Rattle.ob0_tree.proofs.MappedIdentifiers.{beside_role}
use Rattle.ob0_scope_table.specs.Resolution.{declaring_names, ordinal_in}
use Rattle.ob0_scope_table.proofs.Plain.{declaring_names-append}
use Rattle.ob0_scope_numbering.proofs.Tables.{none_at}
use Rattle.ob0_scope.specs.BindingsOutsideBody.{shifted_tokens_after_body, tokens_before_body, tokens_in_changed_text, ordinals_in_changed_text, shifted_token}
use Rattle.ob0_scope.specs.declared.body_range.BodyRange.{BodyRange}

-- ---- identifiers in three parts

-- states the bounds of the identifiers before a body, in it, and from its block's closing name
-- onwards
pub record Parted (before own after : List (Role × ℕ)) (first closing high : ℕ) : Type 0 where
  pub before_below : AllBelow first (names_without_roles before)
  pub own_from : AllFrom first (names_without_roles own)
  pub own_below : AllBelow closing (names_without_roles own)
  pub after_from : AllFrom closing (names_without_roles after)
  pub after_below : AllBelow high (names_without_roles after)
  pub less : first < closing
  pub few : closing < high

pub some_first : {x y : ℕ} → Some x ≡ Some y → x ≡ y
some_first {x = x} e = ap (λ (o : Option ℕ). number o) e
  where
    number : Option ℕ → ℕ
    number None = x
    number (Some z) = z

pub parted : (before own after : List (Role × ℕ)) (closes : Role) (first closing high : ℕ) → token_of_first_identifier own ≡ Some first → AreAscendingWithin 0 (names_without_roles (before ++ (own ++ ((closes, closing) ∷ after)))) high
    → Parted before own ((closes, closing) ∷ after) first closing high
parted before [] after closes first closing high e h = absurd (cc)
parted before (x ∷ own) after closes first closing high e h =
    let b = names_without_roles before in
    let o = names_without_roles own in
    let a = names_without_roles after in
    let here : x.1 ≡ first = some_first e in
    let split : names_without_roles (before ++ ((x ∷ own) ++ ((closes, closing) ∷ after))) ≡ b ++ (x.1 ∷ (o ++ (closing ∷ a))) = leaves_append before ((x ∷ own) ++ ((closes, closing) ∷ after)) ∙ ap (λ z. b ++ (x.1 ∷ z)) (leaves_append own ((closes, closing) ∷ after)) in
    let rising = subst (λ l. AreAscendingWithin 0 l high) split h in
    let rest = ascend_second 0 b (x.1 ∷ (o ++ (closing ∷ a))) high rising in
    let last = ascend_second (x.1 + 1) o (closing ∷ a) high rest.1 in
    let bounded = ascending_below (closing + 1) a high last.1 in
    record {
      before_below = subst (λ n. AllBelow n b) here (before_one 0 b x.1 (o ++ (closing ∷ a)) high rising);
      own_from = subst (λ n. AllFrom n (x.1 ∷ o)) here (omega arith, from_first x.1 o (closing ∷ a) (from_less x.1 (x.1 + 1) (o ++ (closing ∷ a)) (omega arith) (ascending_from (x.1 + 1) (o ++ (closing ∷ a)) high rest.1)));
      own_below = (omega (arith, last.0), before_one (x.1 + 1) o closing a high rest.1);
      after_from = (omega arith, from_less closing (closing + 1) a (omega arith) (ascending_from (closing + 1) a high last.1));
      after_below = (omega (arith, bounded.0), bounded.1);
      less = subst (λ n. n < closing) here (omega (arith, last.0));
      few = omega (arith, bounded.0);
    }

-- Two equal lists that are split at the same limit have the same parts.
pub same_parts : (n : ℕ) (us cs vs ds : List (Role × ℕ)) → AllBelow n (names_without_roles us) → AllBelow n (names_without_roles vs) → AllFrom n (names_without_roles cs) → AllFrom n (names_without_roles ds) → us ++ cs ≡ vs ++ ds → (us ≡ vs) × (cs ≡ ds)
same_parts n [] cs [] ds a b c d e = (refl, e)
same_parts n [] cs (y ∷ vs) ds a b c d e = let from = subst (λ l. AllFrom n (names_without_roles l)) e c in absurd (omega (arith, from.0, b.0))
same_parts n (x ∷ us) cs [] ds a b c d e = let from = subst (λ l. AllFrom n (names_without_roles l)) (sym e) d in absurd (omega (arith, from.0, a.0))
same_parts n (x ∷ us) cs (y ∷ vs) ds a b c d e =
    let rest = same_parts n us cs vs ds a.1 b.1 c d (ap (drop 1) e) in
    let here : x ≡ y = ap (λ l. get_or l 0 x) e in
    ((λ i. here i ∷ rest.0 i), rest.1)

-- ---- a selection of identifiers

-- states that a function selects identifiers by their roles
pub record Picks (pick : List (Role × ℕ) → List ℕ) : Type 0 where
  pub joined : (xs ys : List (Role × ℕ)) → pick (xs ++ ys) ≡ pick xs ++ pick ys
  pub renamed : (f : ℕ → ℕ) (xs : List (Role × ℕ)) → pick (map (beside_role f) xs) ≡ map f (pick xs)
  pub below : (n : ℕ) (xs : List (Role × ℕ)) → AllBelow n (names_without_roles xs) → AllBelow n (pick xs)
  pub from : (n : ℕ) (xs : List (Role × ℕ)) → AllFrom n (names_without_roles xs) → AllFrom n (pick xs)

declaring_renamed : (f : ℕ → ℕ) (xs : List (Role × ℕ)) → declaring_names (map (beside_role f) xs) ≡ map f (declaring_names xs)
declaring_renamed f [] = refl
declaring_renamed f ((role.DeclaringName, n) ∷ xs) = λ i. f n ∷ declaring_renamed f xs i
declaring_renamed f ((role.LookedUpName, n) ∷ xs) = declaring_renamed f xs
declaring_renamed f ((role.ClosingName, n) ∷ xs) = declaring_renamed f xs
declaring_renamed f ((role.FieldName, n) ∷ xs) = declaring_renamed f xs
declaring_renamed f ((role.ModuleName, n) ∷ xs) = declaring_renamed f xs

declaring_below : (n : ℕ) (xs : List (Role × ℕ)) → AllBelow n (names_without_roles xs) → AllBelow n (declaring_names xs)
declaring_below n [] h = tt
declaring_below n ((role.DeclaringName, x) ∷ xs) h = (h.0, declaring_below n xs h.1)
declaring_below n ((role.LookedUpName, x) ∷ xs) h = declaring_below n xs h.1
declaring_below n ((role.ClosingName, x) ∷ xs) h = declaring_below n xs h.1
declaring_below n ((role.FieldName, x) ∷ xs) h = declaring_below n xs h.1
declaring_below n ((role.ModuleName, x) ∷ xs) h = declaring_below n xs h.1

declaring_from : (n : ℕ) (xs : List (Role × ℕ)) → AllFrom n (names_without_roles xs) → AllFrom n (declaring_names xs)
declaring_from n [] h = tt
declaring_from n ((role.DeclaringName, x) ∷ xs) h = (h.0, declaring_from n xs h.1)
declaring_from n ((role.LookedUpName, x) ∷ xs) h = declaring_from n xs h.1
declaring_from n ((role.ClosingName, x) ∷ xs) h = declaring_from n xs h.1
declaring_from n ((role.FieldName, x) ∷ xs) h = declaring_from n xs h.1
declaring_from n ((role.ModuleName, x) ∷ xs) h = declaring_from n xs h.1

looked_up_renamed : (f : ℕ → ℕ) (xs : List (Role × ℕ)) → looked_up_only (map (beside_role f) xs) ≡ map f (looked_up_only xs)
looked_up_renamed f [] = refl
looked_up_renamed f ((role.LookedUpName, n) ∷ xs) = λ i. f n ∷ looked_up_renamed f xs i
looked_up_renamed f ((role.DeclaringName, n) ∷ xs) = looked_up_renamed f xs
looked_up_renamed f ((role.ClosingName, n) ∷ xs) = looked_up_renamed f xs
looked_up_renamed f ((role.FieldName, n) ∷ xs) = looked_up_renamed f xs
looked_up_renamed f ((role.ModuleName, n) ∷ xs) = looked_up_renamed f xs

looked_up_below : (n : ℕ) (xs : List (Role × ℕ)) → AllBelow n (names_without_roles xs) → AllBelow n (looked_up_only xs)
looked_up_below n [] h = tt
looked_up_below n ((role.LookedUpName, x) ∷ xs) h = (h.0, looked_up_below n xs h.1)
looked_up_below n ((role.DeclaringName, x) ∷ xs) h = looked_up_below n xs h.1
looked_up_below n ((role.ClosingName, x) ∷ xs) h = looked_up_below n xs h.1
looked_up_below n ((role.FieldName, x) ∷ xs) h = looked_up_below n xs h.1
looked_up_below n ((role.ModuleName, x) ∷ xs) h = looked_up_below n xs h.1

looked_up_from : (n : ℕ) (xs : List (Role × ℕ)) → AllFrom n (names_without_roles xs) → AllFrom n (looked_up_only xs)
looked_up_from n [] h = tt
looked_up_from n ((role.LookedUpName, x) ∷ xs) h = (h.0, looked_up_from n xs h.1)
looked_up_from n ((role.DeclaringName, x) ∷ xs) h = looked_up_from n xs h.1
looked_up_from n ((role.ClosingName, x) ∷ xs) h = looked_up_from n xs h.1
looked_up_from n ((role.FieldName, x) ∷ xs) h = looked_up_from n xs h.1
looked_up_from n ((role.ModuleName, x) ∷ xs) h = looked_up_from n xs h.1

pub picks_declaring : Picks declaring_names
picks_declaring = record { joined = declaring_names-append; renamed = declaring_renamed; below = declaring_below; from = declaring_from }

pub picks_looked_up : Picks looked_up_only
picks_looked_up = record { joined = looked_up_only-append; renamed = looked_up_renamed; below = looked_up_below; from = looked_up_from }

-- ---- the first entries of a table

take_short : {X : Type 0} (n : ℕ) (xs : List X) → length (take n xs) ≤ n
take_short zero xs = omega arith
take_short (suc n) [] = omega arith
take_short (suc n) (x ∷ xs) = let more = take_short n xs in omega (arith, more)

take_all : {X : Type 0} (n : ℕ) (xs : List X) → length xs ≤ n → take n xs ≡ xs
take_all zero [] le = refl
take_all zero (x ∷ xs) le = absurd (omega (arith, le))
take_all (suc n) [] le = refl
take_all (suc n) (x ∷ xs) le = ap (λ z. x ∷ z) (take_all n xs (omega (arith, le)))

-- The first n entries of a table don't change if None entries follow.
reads_first : (n k : ℕ) (table : List (Option ℕ)) (i : ℕ) → i < n → ordinal_in (take n table ++ replicate k None) i ≡ ordinal_in table i
reads_first zero k table i h = absurd (omega (arith, h))
reads_first (suc n) k [] i h = none_at k i
reads_first (suc n) k (o ∷ table) zero h = refl
reads_first (suc n) k (o ∷ table) (suc i) h = reads_first n k table i (omega (arith, h))

-- ---- lists that are carried over

module _ (range : BodyRange) where
  -- returns the new index of a token after the body
  abbrev pub far : ℕ → ℕ
  far i = i - range.old_closing + range.closing

  before_all : (xs : List ℕ) → AllBelow range.first xs → tokens_before_body range xs ≡ xs
  before_all [] h = refl
  before_all (x ∷ xs) h = ap (λ b. cond b (x ∷ tokens_before_body range xs) (tokens_before_body range xs)) (lt-ltb x range.first h.0) ∙ ap (λ z. x ∷ z) (before_all xs h.1)

  before_none : (xs : List ℕ) → AllFrom range.first xs → tokens_before_body range xs ≡ []
  before_none [] h = refl
  before_none (x ∷ xs) h = ap (λ b. cond b (x ∷ tokens_before_body range xs) (tokens_before_body range xs)) (le-ltb x range.first h.0) ∙ before_none xs h.1

  abbrev is_after : ℕ → Bool
  is_after i = nat_le range.old_closing i

  after_none : (xs : List ℕ) → AllBelow range.old_closing xs → shifted_tokens_after_body range xs ≡ []
  after_none [] h = refl
  after_none (x ∷ xs) h = ap (λ b. map (shifted_token range) (cond b (x ∷ filter is_after xs) (filter is_after xs))) (lt-leb range.old_closing x h.0) ∙ after_none xs h.1

  after_all : (high : ℕ) (xs : List ℕ) → high + range.closing ≤ 2 ^ 64 - 1 → AllFrom range.old_closing xs → AllBelow high xs → shifted_tokens_after_body range xs ≡ map far xs
  after_all high [] few h k = refl
  after_all high (x ∷ xs) few h k =
      let here : shifted_token range x ≡ far x = min-eq_left (let small : x - range.old_closing + range.closing ≤ 2 ^ 64 - 1 = omega (arith, few, k.0) in small) in
      ap (λ b. map (shifted_token range) (cond b (x ∷ filter is_after xs) (filter is_after xs))) (le-leb range.old_closing x h.0) ∙ (λ i. here i ∷ after_all high xs few h.1 k.1 i)

  after_append : (xs ys : List ℕ) → shifted_tokens_after_body range (xs ++ ys) ≡ shifted_tokens_after_body range xs ++ shifted_tokens_after_body range ys
  after_append xs ys = ap (map (shifted_token range)) (filter-append is_after xs ys) ∙ map-append (shifted_token range) (filter is_after xs) (filter is_after ys)

  -- Keeping a selection of the old identifiers, with a selection of the new body's, gives the
  -- selection of all new identifiers.
  pub carried_picked : (pick : List (Role × ℕ) → List ℕ) (before own after others : List (Role × ℕ)) (high : ℕ) → Picks pick → Parted before own after range.first range.old_closing high → high + range.closing ≤ 2 ^ 64 - 1
      → tokens_in_changed_text range (pick (before ++ (own ++ after))) (pick others) ≡ pick (before ++ (others ++ map (beside_role far) after))
  carried_picked pick before own after others high p parts few =
      let all : pick (before ++ (own ++ after)) ≡ pick before ++ (pick own ++ pick after) = p.joined before (own ++ after) ∙ ap (λ z. pick before ++ z) (p.joined own after) in
      let less = parts.less in
      let own_is = before_none (pick own) (p.from range.first own parts.own_from) in
      let after_is = before_none (pick after) (from_less range.first range.old_closing (pick after) (omega (arith, less)) (p.from range.old_closing after parts.after_from)) in
      let first : tokens_before_body range (pick before ++ (pick own ++ pick after)) ≡ pick before =
      filter-append (λ i. nat_lt i range.first) (pick before) (pick own ++ pick after)
      ∙ ((λ i. before_all (pick before) (p.below range.first before parts.before_below) i ++ (filter-append (λ i. nat_lt i range.first) (pick own) (pick after) ∙ (λ i. own_is i ++ after_is i)) i) ∙ append-nil (pick before)) in
      let before_is = after_none (pick before) (below_more range.first range.old_closing (pick before) (omega (arith, less)) (p.below range.first before parts.before_below)) in
      let body_is = after_none (pick own) (p.below range.old_closing own parts.own_below) in
      let last_is = after_all high (pick after) few (p.from range.old_closing after parts.after_from) (p.below high after parts.after_below) in
      let last : shifted_tokens_after_body range (pick before ++ (pick own ++ pick after)) ≡ map far (pick after) =
      after_append (pick before) (pick own ++ pick after) ∙ (λ i. before_is i ++ (after_append (pick own) (pick after) ∙ (λ i. body_is i ++ last_is i)) i) in
      ap (λ tokens. tokens_in_changed_text range tokens (pick others)) all
      ∙ ((λ i. first i ++ (pick others ++ last i))
      ∙ sym (p.joined before (others ++ map (beside_role far) after) ∙ ap (λ z. pick before ++ z) (p.joined others (map (beside_role far) after) ∙ ap (λ z. pick others ++ z) (p.renamed far after))))

-- ---- the table

module _ (same : CommonPrefixAndSuffix) (table : List (Option ℕ)) (less : same.prefix ≤ same.new_suffix) where
  abbrev front : List (Option ℕ)
  front = take same.prefix table

  front_short : length front ≤ same.prefix
  front_short = take_short same.prefix table

  abbrev filler : List (Option ℕ)
  filler = replicate (same.new_suffix - length front) None

  filler_long : length filler ≡ same.new_suffix - length front
  filler_long = length-replicate (same.new_suffix - length front) (let nothing : Option ℕ = None in nothing)

  table_is : ordinals_in_changed_text same table ≡ (front ++ filler) ++ drop same.old_suffix table
  table_is = ap (λ z. (z ++ filler) ++ drop same.old_suffix table) (take_all same.new_suffix front (omega (arith, front_short, less)))

  filled_long : length (front ++ filler) ≡ same.new_suffix
  filled_long = omega (arith, length-append front filler, filler_long, front_short, less)

  pub table_before : (i : ℕ) → i < same.prefix → ordinal_in (ordinals_in_changed_text same table) i ≡ ordinal_in table i
  table_before i h =
      ap (λ (t : List (Option ℕ)). ordinal_in t i) table_is
      ∙ (get_or-append (front ++ filler) (drop same.old_suffix table) None i (omega (arith, h, filled_long, less))
      ∙ reads_first same.prefix (same.new_suffix - length front) table i h)

  pub table_within : (i : ℕ) → same.prefix ≤ i → i < same.new_suffix → ordinal_in (ordinals_in_changed_text same table) i ≡ None
  table_within i h k =
      ap (λ (t : List (Option ℕ)). ordinal_in t i) table_is
      ∙ (get_or-append (front ++ filler) (drop same.old_suffix table) None i (omega (arith, k, filled_long))
      ∙ (get_or-append_right front filler i None (omega (arith, h, front_short))
      ∙ none_at (same.new_suffix - length front) (i - length front)))

  pub table_after : (i : ℕ) → same.new_suffix ≤ i → ordinal_in (ordinals_in_changed_text same table) i ≡ ordinal_in table (same.old_suffix + (i - same.new_suffix))
  table_after i h =
      ap (λ (t : List (Option ℕ)). ordinal_in t i) table_is
      ∙ (get_or-append_right (front ++ filler) (drop same.old_suffix table) i None (omega (arith, h, filled_long))
      ∙ (ap (λ n. get_or (drop same.old_suffix table) (i - n) None) filled_long
      ∙ get_or-drop same.old_suffix table (i - same.new_suffix) None))
