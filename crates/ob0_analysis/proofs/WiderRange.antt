-- Proves that the bounds of the body that contains a range of tokens stay the same if the range is widened within this
-- body. The reason is that the identifiers of a module ascend.
use Rattle.std.proofs.Common.{◌≡◌, ◌<◌, ◌≤◌, ◌+◌, ℕ, true, false, ◌&&◌, nat_le, nat_lt, if◌then◌else◌, List, [], ◌∷◌, ◌++◌, Option, Some, None, refl, sym, ap, ◌∙◌, subst, arith, append_assoc, le_refl, le-leb, le-ltb, lt-ltb, ltb-false}
use Rattle.ob0_tree.specs.declared.tree.Role.{Role}
use Rattle.ob0_tree.specs.declared.tree.Role.TheVariants as role
use Rattle.ob0_tree.specs.IdentifierIndexes.{AreAscendingWithin, identifier_names, names_without_roles}
use Rattle.ob0_tree.specs.Tree.{Sort, Tree, block, body, declares, declares_procedure, end, forms_block, forms_module, identifiers, item, items, maybe, module_text, more, procedure}
use Rattle.ob0_tree.proofs.Leaves.{ascending_bounds, ascending_higher}
use Rattle.ob0_scope_table.specs.BodyReplacement.{body_at_path_in_block, closing_name_at_path_in_block, path_to_body_in_block}
use Rattle.ob0_scope_table.specs.BoundsOfBodies.{body_bounds_in_block, body_bounds_of_range, body_bounds_of_statements_if}
use Rattle.ob0_scope_table.specs.SpellingChangesInOneBody.{is_range_in_body_of_block}
use Rattle.ob0_scope_table.specs.declared.one_body.BodyBounds.{BodyBounds}
use Rattle.ob0_scope_table.proofs.BodyPlaces.{a_place, among_block, place_among, place_by}

-- ---- identifiers that ascend

abbrev Ascend : ℕ → List (Role × ℕ) → ℕ → Type 0
Ascend low xs high = AreAscendingWithin low (names_without_roles xs) high

record Cut (low : ℕ) (xs ys : List (Role × ℕ)) (high : ℕ) : Type 0 where
  pub middle : ℕ
  pub first : Ascend low xs middle
  pub last : Ascend middle ys high

cut : (low : ℕ) (xs ys : List (Role × ℕ)) (high : ℕ) → Ascend low (xs ++ ys) high → Cut low xs ys high
cut low [] ys high h = record { middle = low; first = le_refl low; last = h }
cut low (x ∷ xs) ys high h = let c = cut (x.1 + 1) xs ys high h.1 in record { middle = c.middle; first = (h.0, c.first); last = c.last }

abbrev ids : {s : Sort} → Tree ℕ s → List (Role × ℕ)
ids t = identifiers role.DeclaringName t

-- ---- the bounds of a wider range

-- returns the bounds that are found in a block if the range ends at or before its closing name
abbrev bounds_before : ℕ → ℕ → ℕ → Tree ℕ block → Option BodyBounds
bounds_before low high closing b =
    body_bounds_of_statements_if (nat_le high closing && is_range_in_body_of_block low high b) (body_at_path_in_block (path_to_body_in_block low b) b) (closing_name_at_path_in_block (path_to_body_in_block low b) closing b)

module _ (low high wide_low wide_high : ℕ) (place : BodyBounds) (front : place.first < wide_low) (less : wide_low ≤ low) (back : wide_high < place.closing) where
  -- states that `found` are the bounds of the narrow range, and that these are between `least` and `top`
  record Widened (least top : ℕ) (found : Option BodyBounds) : Type 0 where
    pub first : least ≤ place.first
    pub closing : place.closing ≤ top
    pub same : found ≡ Some place

  own_statements : (least own : ℕ) (xs : List (Role × ℕ)) → Ascend least xs own → place_by low own xs ≡ Some place → Widened least own (place_by wide_low own xs)
  own_statements least own [] h e = absurd (cc (e))
  own_statements least own (x ∷ xs) h e =
      (elim (nat_le x.1 low) as (λ z. (if z then a_place x.1 own else None) ≡ Some place → Widened least own (place_by wide_low own (x ∷ xs))) [
        | true ↦ λ e.
            let first : x.1 ≡ place.first = cc (e) in
            let closing : own ≡ place.closing = cc (e) in
            record {
              first = omega (arith, h.0, first);
              closing = omega (arith, closing);
              same = ap (λ z. if z then a_place x.1 own else None) (le-leb x.1 wide_low (omega (arith, first, front))) ∙ e;
            }
        | false ↦ λ e. absurd (cc (e))
      ]) e

  -- The bounds in a block are also the same if the range must end at or before the block's closing
  -- name.
  before_closing : (least top closing : ℕ) (r : Role) (b : Tree ℕ block) → Ascend least (ids b ++ ((r, closing) ∷ [])) top
      → (Ascend least (ids b) closing → body_bounds_in_block low high closing b ≡ Some place → Widened least closing (body_bounds_in_block wide_low wide_high closing b))
      → bounds_before low high closing b ≡ Some place → Widened least closing (bounds_before wide_low wide_high closing b)
  before_closing least top closing r b h inside e =
      let c = cut least (ids b) ((r, closing) ∷ []) top h in
      let within = ascending_higher least (names_without_roles (ids b)) c.middle closing c.last.0 c.first in
      (elim (nat_le high closing) as (λ z. body_bounds_of_statements_if (z && is_range_in_body_of_block low high b) (body_at_path_in_block (path_to_body_in_block low b) b) (closing_name_at_path_in_block (path_to_body_in_block low b) closing b) ≡ Some place
      → Widened least closing (bounds_before wide_low wide_high closing b)) [
        | true ↦ λ e.
            let w = inside within e in
            record {
              first = w.first;
              closing = w.closing;
              same = ap (λ z. body_bounds_of_statements_if (z && is_range_in_body_of_block wide_low wide_high b) (body_at_path_in_block (path_to_body_in_block wide_low b) b) (closing_name_at_path_in_block (path_to_body_in_block wide_low b) closing b)) (le-leb wide_high closing (omega (arith, back, w.closing))) ∙ w.same;
            }
        | false ↦ λ e. absurd (cc (e))
      ]) e

  mutual
    in_block : (least own : ℕ) (b : Tree ℕ block) → Ascend least (ids b) own → body_bounds_in_block low high own b ≡ Some place → Widened least own (body_bounds_in_block wide_low wide_high own b)
    in_block least own (forms_block (declares cs ts vs ps) statements) h e =
        let before : List (Role × ℕ) = ids cs ++ (ids ts ++ ids vs) in
        let after : List (Role × ℕ) = ids ps ++ ids statements in
        let parts : (ids cs ++ (ids ts ++ (ids vs ++ ids ps))) ++ ids statements ≡ before ++ after =
        ap (λ l. (ids cs ++ l) ++ ids statements) (sym (append_assoc (ids ts) (ids vs) (ids ps)))
        ∙ (ap (λ l. l ++ ids statements) (sym (append_assoc (ids cs) (ids ts ++ ids vs) (ids ps))) ∙ append_assoc before (ids ps) (ids statements)) in
        let c = cut least before after own (subst (λ l. Ascend least l own) parts h) in
        let w = in_procedures c.middle own ps statements c.last (sym (among_block low high own cs ts vs ps statements) ∙ e) in
        let bound = ascending_bounds least (names_without_roles before) c.middle c.first in
        record { first = omega (arith, bound, w.first); closing = w.closing; same = among_block wide_low wide_high own cs ts vs ps statements ∙ w.same }

    in_procedures : (least own : ℕ) (ps : Tree ℕ (items procedure)) (statements : Tree ℕ (maybe body)) → Ascend least (ids ps ++ ids statements) own → place_among low high own ps statements ≡ Some place → Widened least own (place_among wide_low wide_high own ps statements)
    in_procedures least own end statements h e = own_statements least own (ids statements) h e
    in_procedures least own (more (declares_procedure x fs b closing) rest) statements h e =
        let q : Tree ℕ (item procedure) = declares_procedure x fs b closing in
        let last : List (Role × ℕ) = (role.ClosingName, closing) ∷ [] in
        let after : List (Role × ℕ) = ids rest ++ ids statements in
        let c = cut least (ids q) after own (subst (λ l. Ascend least l own) (append_assoc (ids q) (ids rest) (ids statements)) h) in
        let d = cut (x + 1) (ids fs) (ids b ++ last) c.middle c.first.1 in
        let closes = (cut d.middle (ids b) last c.middle d.last).last.1 in
        (elim (nat_lt closing low) as (λ z. nat_lt closing low ≡ z → (if z then place_among low high own rest statements else bounds_before low high closing b) ≡ Some place
        → Widened least own (place_among wide_low wide_high own (more q rest) statements)) [
          | true ↦ λ _ e.
              let w = in_procedures c.middle own rest statements c.last e in
              let bound = ascending_bounds least (names_without_roles (ids q)) c.middle c.first in
              record {
                first = omega (arith, bound, w.first);
                closing = w.closing;
                same = ap (λ z. if z then place_among wide_low wide_high own rest statements else bounds_before wide_low wide_high closing b) (lt-ltb closing wide_low (omega (arith, closes, w.first, front))) ∙ w.same;
              }
          | false ↦ λ reached e.
              let w = before_closing d.middle c.middle closing role.ClosingName b d.last (λ asc is. in_block d.middle closing b asc is) e in
              let bound = ascending_bounds (x + 1) (names_without_roles (ids fs)) d.middle d.first in
              let top = ascending_bounds c.middle (names_without_roles after) own c.last in
              let le = ltb-false closing low reached in
              record {
                first = omega (arith, c.first.0, bound, w.first);
                closing = omega (arith, w.closing, closes, top);
                same = ap (λ z. if z then place_among wide_low wide_high own rest statements else bounds_before wide_low wide_high closing b) (le-ltb closing wide_low (omega (arith, less, le))) ∙ w.same;
              }
        ]) refl e

  pub wider_bounds : (top : ℕ) (t : Tree ℕ module_text) → AreAscendingWithin 0 (identifier_names t) top → body_bounds_of_range low high t ≡ Some place → body_bounds_of_range wide_low wide_high t ≡ Some place
  wider_bounds top (forms_module x b closing) h e = (before_closing (x + 1) top closing role.ModuleName b h.1 (λ asc is. in_block (x + 1) closing b asc is) e).same
