-- Proves that searching the procedures of a block one after another finds the place of the body
-- that contains a range of tokens.
use Rattle.std.proofs.Common.{◌≡◌, ◌<◌, ◌≤◌, ℕ, zero, ◌+◌, Bool, true, false, ◌&&◌, if◌then◌else◌, nat_le, nat_lt, Option, Some, None, is_some, option_map, List, [], ◌∷◌, length, drop, get_or, refl, sym, ap, ◌∙◌, arith}
use Rattle.std.proofs.lemmas.List.{drop_all, drop_more}
use Rattle.std.proofs.lemmas.Option.{same_Some}
use Rattle.std.proofs.lemmas.Bool.{lt-leb, le-leb, le-ltb, lt-ltb}
use Rattle.ob0_tree.specs.declared.tree.Role.{Role}
use Rattle.ob0_tree.specs.declared.tree.Role.TheVariants as role
use Rattle.ob0_tree.specs.Tree.{Tree, block, body, constants, declares, declares_procedure, end, forms_block, identifiers, forms_module, item, items, maybe, module_text, more, procedure, type_definitions, variables}
use Rattle.ob0_tree.specs.View.{block_of, body_of, constant_section_of, items_of, procedure_of, type_section_of, variable_section_of}
use Rattle.ob0_tree.specs.declared.tree.Block.{Block, out-Block}
use Rattle.ob0_tree.specs.declared.tree.Procedure.{Procedure, out-Procedure}
use Rattle.ob0_tree.proofs.Viewed.{block_parts, procedure_parts}
use Rattle.ob0_scope_table.specs.BoundsOfBodies.{body_bounds_of_range, body_bounds_of_statements_if, body_bounds_in_block, body_bounds_in_procedure}
use Rattle.ob0_tree.specs.FirstIdentifier.{token_of_first_identifier}
use Rattle.ob0_scope_table.specs.BodyReplacement.{PathToBody, body_at_path, body_at_path_in_block, body_at_path_in_procedure, closing_name_at_path, closing_name_at_path_in_block, closing_name_at_path_in_procedure, path_after_inserting_first_procedure, path_to_body_in_procedure_list, path_to_body_in_block, path_to_body_in_procedure, path_to_body_in_module}
use Rattle.ob0_scope_table.specs.SpellingChangesInOneBody.{first_identifier_is_at_or_before_token, closing_name, is_range_in_body_of_block, is_range_in_one_body, is_range_in_body_of_procedure, is_range_in_body_of_procedures_or_statements}
use Rattle.ob0_scope_table.specs.declared.one_body.BodyBounds.{BodyBounds}

abbrev pub a_place : ℕ → ℕ → Option BodyBounds
a_place first closing = Some (record { first = first; closing = closing })

-- ---- the properties of a place

-- states that a place belongs to a sought body with this closing name
pub record IsPlaceOf (sought : Bool) (statements : Tree ℕ (maybe body)) (closing : ℕ) (p : BodyBounds) : Type 0 where
  pub is_bound_to_declaration : sought ≡ true
  pub first : token_of_first_identifier (identifiers role.DeclaringName statements) ≡ Some p.first
  pub closes : closing ≡ p.closing

place_there : (statements : Tree ℕ (maybe body)) (closing : ℕ) (p : BodyBounds) (o : Option ℕ) → token_of_first_identifier (identifiers role.DeclaringName statements) ≡ o
    → option_map (λ first. record { first = first; closing = closing }) o ≡ Some p → IsPlaceOf true statements closing p
place_there statements closing p None is e = absurd (cc)
place_there statements closing p (Some first) is e =
    let same = same_Some (record { first = first; closing = closing }) p e in
    record { is_bound_to_declaration = refl; first = is ∙ ap (λ (q : BodyBounds). Some q.first) same; closes = ap (λ (q : BodyBounds). q.closing) same }

place_read : (sought : Bool) (statements : Tree ℕ (maybe body)) (closing : ℕ) (p : BodyBounds) → body_bounds_of_statements_if sought statements closing ≡ Some p → IsPlaceOf sought statements closing p
place_read true statements closing p e = place_there statements closing p (token_of_first_identifier (identifiers role.DeclaringName statements)) refl e
place_read false statements closing p e = absurd (cc)

-- The place that is found in a module belongs to the sought body.
pub body_place_read : (low high : ℕ) (t : Tree ℕ module_text) (p : BodyBounds) → body_bounds_of_range low high t ≡ Some p
    → IsPlaceOf (is_range_in_one_body low high t) (body_at_path (path_to_body_in_module low t) t) (closing_name_at_path (path_to_body_in_module low t) t) p
body_place_read low high t p e = place_read (is_range_in_one_body low high t) (body_at_path (path_to_body_in_module low t) t) (closing_name_at_path (path_to_body_in_module low t) t) p e

-- ---- the place of some statements, from their first identifier

abbrev pub place_by : ℕ → ℕ → List (Role × ℕ) → Option BodyBounds
place_by low closing xs = if first_identifier_is_at_or_before_token low xs then option_map (λ first. record { first = first; closing = closing }) (token_of_first_identifier xs) else None

module _ (low closing : ℕ) where
  by_none : (xs : List (Role × ℕ)) → token_of_first_identifier xs ≡ None → None ≡ place_by low closing xs
  by_none [] e = refl
  by_none (x ∷ xs) e = absurd (cc)

  by_after : (xs : List (Role × ℕ)) (first : ℕ) → token_of_first_identifier xs ≡ Some first → low < first → None ≡ place_by low closing xs
  by_after [] first e less = refl
  by_after (x ∷ xs) first e less =
      let same = same_Some x.1 first e in
      ap (λ b. if b then a_place x.1 closing else None) (sym (lt-leb x.1 low (omega (arith, same, less))))

  by_from : (xs : List (Role × ℕ)) (first : ℕ) → token_of_first_identifier xs ≡ Some first → first ≤ low → a_place first closing ≡ place_by low closing xs
  by_from [] first e le = absurd (cc)
  by_from (x ∷ xs) first e le =
      let same = same_Some x.1 first e in
      ap (λ n. a_place n closing) (sym same) ∙ ap (λ b. if b then a_place x.1 closing else None) (sym (le-leb x.1 low (omega (arith, same, le))))

  module _ (statements : Tree ℕ (maybe body)) where
    abbrev own_place : Option BodyBounds
    own_place = body_bounds_of_statements_if (first_identifier_is_at_or_before_token low (identifiers role.DeclaringName statements)) statements closing

    pub placed_none : token_of_first_identifier (identifiers role.DeclaringName statements) ≡ None → None ≡ own_place
    placed_none e = by_none (identifiers role.DeclaringName statements) e

    pub placed_after : (first : ℕ) → token_of_first_identifier (identifiers role.DeclaringName statements) ≡ Some first → low < first → None ≡ own_place
    placed_after first e less = by_after (identifiers role.DeclaringName statements) first e less

    pub placed_from : (first : ℕ) → token_of_first_identifier (identifiers role.DeclaringName statements) ≡ Some first → first ≤ low → a_place first closing ≡ own_place
    placed_from first e le = by_from (identifiers role.DeclaringName statements) first e le

-- ---- among procedures

closes : (q : Procedure) → closing_name (procedure_of q) ≡ (out-Procedure q).closing
closes q = ap closing_name (procedure_parts q)

module _ (cs : Tree ℕ (maybe constants)) (ts : Tree ℕ (maybe type_definitions)) (vs : Tree ℕ (maybe variables)) (p : Tree ℕ (item procedure)) (ps : Tree ℕ (items procedure)) (statements : Tree ℕ (maybe body)) where
  body_later : (path : PathToBody) → body_at_path_in_block (path_after_inserting_first_procedure path) (forms_block (declares cs ts vs (more p ps)) statements) ≡ body_at_path_in_block path (forms_block (declares cs ts vs ps) statements)
  body_later [] = refl
  body_later (k ∷ path) = refl

  closing_later : (path : PathToBody) (own : ℕ) → closing_name_at_path_in_block (path_after_inserting_first_procedure path) own (forms_block (declares cs ts vs (more p ps)) statements) ≡ closing_name_at_path_in_block path own (forms_block (declares cs ts vs ps) statements)
  closing_later [] own = refl
  closing_later (k ∷ path) own = refl

module _ (low high own : ℕ) where
  -- returns the place in a procedure that doesn't close before the range
  abbrev pub place_reached : ℕ → Tree ℕ (item procedure) → Option BodyBounds
  place_reached closing p = body_bounds_of_statements_if (nat_le high closing && is_range_in_body_of_procedure low high p) (body_at_path_in_procedure (path_to_body_in_procedure low p) p) (closing_name_at_path_in_procedure (path_to_body_in_procedure low p) p)

  -- returns the place in procedures, or else in the statements of their block
  abbrev pub place_among : Tree ℕ (items procedure) → Tree ℕ (maybe body) → Option BodyBounds
  place_among end statements = body_bounds_of_statements_if (first_identifier_is_at_or_before_token low (identifiers role.DeclaringName statements)) statements own
  place_among (more p ps) statements = if nat_lt (closing_name p) low then place_among ps statements else place_reached (closing_name p) p

  pub among_block : (cs : Tree ℕ (maybe constants)) (ts : Tree ℕ (maybe type_definitions)) (vs : Tree ℕ (maybe variables)) (ps : Tree ℕ (items procedure)) (statements : Tree ℕ (maybe body))
      → body_bounds_in_block low high own (forms_block (declares cs ts vs ps) statements) ≡ place_among ps statements
  among_block cs ts vs end statements = refl
  among_block cs ts vs (more p ps) statements =
      elim (nat_lt (closing_name p) low) as (λ z.
      body_bounds_of_statements_if (if z then is_range_in_body_of_procedures_or_statements low high ps statements else nat_le high (closing_name p) && is_range_in_body_of_procedure low high p)
      (body_at_path_in_block (if z then path_after_inserting_first_procedure (path_to_body_in_procedure_list low ps) else zero ∷ path_to_body_in_procedure low p) (forms_block (declares cs ts vs (more p ps)) statements))
      (closing_name_at_path_in_block (if z then path_after_inserting_first_procedure (path_to_body_in_procedure_list low ps) else zero ∷ path_to_body_in_procedure low p) own (forms_block (declares cs ts vs (more p ps)) statements))
      ≡ (if z then place_among ps statements else place_reached (closing_name p) p)) [
        | true ↦
            ap (λ b. body_bounds_of_statements_if (is_range_in_body_of_procedures_or_statements low high ps statements) b (closing_name_at_path_in_block (path_after_inserting_first_procedure (path_to_body_in_procedure_list low ps)) own (forms_block (declares cs ts vs (more p ps)) statements))) (body_later cs ts vs p ps statements (path_to_body_in_procedure_list low ps))
            ∙ (ap (body_bounds_of_statements_if (is_range_in_body_of_procedures_or_statements low high ps statements) (body_at_path_in_block (path_to_body_in_procedure_list low ps) (forms_block (declares cs ts vs ps) statements))) (closing_later cs ts vs p ps statements (path_to_body_in_procedure_list low ps) own)
            ∙ among_block cs ts vs ps statements)
        | false ↦ refl
      ]

  pub block_place : (b : Block) → body_bounds_in_block low high own (block_of b) ≡ place_among (items_of procedure_of (out-Block b).procedures.items) (body_of (out-Block b).body)
  block_place b =
      ap (body_bounds_in_block low high own) (block_parts b)
      ∙ among_block (constant_section_of (out-Block b).constants) (type_section_of (out-Block b).types) (variable_section_of (out-Block b).variables) (items_of procedure_of (out-Block b).procedures.items) (body_of (out-Block b).body)

  module _ (statements : Tree ℕ (maybe body)) where
    -- returns the place in the procedures from the k-th onwards, or else in the statements
    abbrev pub place_from : ℕ → List Procedure → Option BodyBounds
    place_from k xs = place_among (items_of procedure_of (drop k xs)) statements

    one_more : (xs : List Procedure) (k : ℕ) (q : Procedure) → k < length xs → q ≡ get_or xs k q
        → place_from k xs ≡ (if nat_lt (out-Procedure q).closing low then place_from (k + 1) xs else place_reached (out-Procedure q).closing (procedure_of q))
    one_more xs k q less here =
        ap (λ ys. place_among (items_of procedure_of ys) statements) (drop_more xs k q less ∙ ap (λ y. y ∷ drop (k + 1) xs) (sym here))
        ∙ ap (λ n. if nat_lt n low then place_from (k + 1) xs else place_reached n (procedure_of q)) (closes q)

    pub past_one : (xs : List Procedure) (k : ℕ) (q : Procedure) → k < length xs → q ≡ get_or xs k q → (out-Procedure q).closing < low → place_from (k + 1) xs ≡ place_from k xs
    past_one xs k q less here past =
        sym (one_more xs k q less here ∙ ap (λ b. if b then place_from (k + 1) xs else place_reached (out-Procedure q).closing (procedure_of q)) (lt-ltb (out-Procedure q).closing low past))

    in_one : (xs : List Procedure) (k : ℕ) (q : Procedure) → k < length xs → q ≡ get_or xs k q → low ≤ (out-Procedure q).closing → place_from k xs ≡ place_reached (out-Procedure q).closing (procedure_of q)
    in_one xs k q less here le =
        one_more xs k q less here ∙ ap (λ b. if b then place_from (k + 1) xs else place_reached (out-Procedure q).closing (procedure_of q)) (le-ltb (out-Procedure q).closing low le)

    -- The place is in this procedure if the range doesn't extend beyond its end (`b`).
    at_end : (q : Procedure) (b : Bool) → nat_le high (out-Procedure q).closing ≡ b
        → place_reached (out-Procedure q).closing (procedure_of q) ≡ body_bounds_of_statements_if (b && is_range_in_body_of_procedure low high (procedure_of q)) (body_at_path_in_procedure (path_to_body_in_procedure low (procedure_of q)) (procedure_of q)) (closing_name_at_path_in_procedure (path_to_body_in_procedure low (procedure_of q)) (procedure_of q))
    at_end q b e = ap (λ b. body_bounds_of_statements_if (b && is_range_in_body_of_procedure low high (procedure_of q)) (body_at_path_in_procedure (path_to_body_in_procedure low (procedure_of q)) (procedure_of q)) (closing_name_at_path_in_procedure (path_to_body_in_procedure low (procedure_of q)) (procedure_of q))) e

    pub past_end : (xs : List Procedure) (k : ℕ) (q : Procedure) → k < length xs → q ≡ get_or xs k q → low ≤ (out-Procedure q).closing → (out-Procedure q).closing < high → place_from k xs ≡ None
    past_end xs k q less here le far = in_one xs k q less here le ∙ at_end q false (lt-leb high (out-Procedure q).closing far)

    pub in_procedure : (xs : List Procedure) (k : ℕ) (q : Procedure) → k < length xs → q ≡ get_or xs k q → low ≤ (out-Procedure q).closing → high ≤ (out-Procedure q).closing → place_from k xs ≡ body_bounds_in_procedure low high (procedure_of q)
    in_procedure xs k q less here le near = in_one xs k q less here le ∙ at_end q true (le-leb high (out-Procedure q).closing near)

    pub in_statements : (xs : List Procedure) (k : ℕ) → length xs ≤ k → place_from k xs ≡ body_bounds_of_statements_if (first_identifier_is_at_or_before_token low (identifiers role.DeclaringName statements)) statements own
    in_statements xs k all = ap (λ ys. place_among (items_of procedure_of ys) statements) (drop_all k xs all)
