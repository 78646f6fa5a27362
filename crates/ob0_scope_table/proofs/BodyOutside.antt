-- Proves that the tokens of a module's names and numbers outside one body are before or after the
-- range of tokens that the body contains. The reason is that they ascend, and that the body's first
-- identifier isn't after the start of the range.
use Rattle.std.proofs.Common.{◌≡◌, ◌<◌, ◌≤◌, ℕ, zero, ◌+◌, Bool, true, false, ◌&&◌, ◌||◌, nat_le, nat_lt, if◌then◌else◌, List, [], ◌∷◌, ◌++◌, refl, sym, ap, ◌∙◌, subst, arith, append_assoc, le_refl, lt-ltb, le-leb, leb-true, ltb-true}
use Rattle.std.proofs.lemmas.Bool.{and_parts, or_left, or_right}
use Rattle.ob0_tree.specs.declared.tree.Role.{Role}
use Rattle.ob0_tree.specs.declared.tree.Role.TheVariants as role
use Rattle.ob0_tree.specs.Terminals.{EndOfText, WordOrSymbol, Name, Number, Terminal}
use Rattle.ob0_tree.specs.IdentifierIndexes.{AreAscendingWithin, names_without_roles}
use Rattle.ob0_tree.specs.Tree.{Tree, block, body, constants, declares, declares_procedure, end, forms_block, identifiers, forms_module, item, items, maybe, module_text, more, procedure, spell, type_definitions, variables}
use Rattle.ob0_tree.proofs.Leaves.{ascending_bounds, ascending_higher, leaves_spelled, lexeme_names}
use Rattle.ob0_scope_table.specs.TokenProperty.{EachTokenSatisfies}
use Rattle.ob0_scope_table.specs.BodyReplacement.{PathToBody, block_without_body, path_after_inserting_first_procedure, procedure_without_body, procedure_list_without_body, path_to_body_in_procedure_list, path_to_body_in_block, path_to_body_in_procedure, path_to_body_in_module, module_without_body}
use Rattle.ob0_scope_table.specs.SpellingChangesInOneBody.{first_identifier_is_at_or_before_token, closing_name, is_range_in_body_of_block, is_range_in_one_body, is_range_in_body_of_procedure, is_range_in_body_of_procedures_or_statements, is_outside_range}
use Rattle.ob0_scope_table.proofs.Placed.{AllOf, each_of, places, places_spelled, token_places}

-- ---- numbers that ascend

record Split (low : ℕ) (xs ys : List ℕ) (high : ℕ) : Type 0 where
  pub middle : ℕ
  pub first : AreAscendingWithin low xs middle
  pub last : AreAscendingWithin middle ys high

split : (low : ℕ) (xs ys : List ℕ) (high : ℕ) → AreAscendingWithin low (xs ++ ys) high → Split low xs ys high
split low [] ys high h = record { middle = low; first = le_refl low; last = h }
split low (x ∷ xs) ys high h =
    let s = split (x + 1) xs ys high h.1 in
    record { middle = s.middle; first = (h.0, s.first); last = s.last }

-- holds if there is a first number and it isn't above `low`
abbrev Begins : ℕ → List ℕ → Type 0
Begins low [] = ⊥
Begins low (x ∷ xs) = x ≤ low

-- If the first of some ascending numbers isn't above `low`, the lower bound isn't either.
before_first : (least low : ℕ) (xs : List ℕ) (high : ℕ) → AreAscendingWithin least xs high → Begins low xs → least ≤ low
before_first least low [] high h b = absurd b
before_first least low (x ∷ xs) high h b = omega (arith, h.0, b)

begins_before : (least low : ℕ) (xs ys : List ℕ) (high : ℕ) → AreAscendingWithin least (xs ++ ys) high → Begins low ys → Begins low (xs ++ ys)
begins_before least low [] ys high h b = b
begins_before least low (x ∷ xs) ys high h b =
    let s = split (x + 1) xs ys high h.1 in
    let bound = ascending_bounds (x + 1) xs s.middle s.first in
    let le = before_first s.middle low ys high s.last b in
    omega (arith, bound, le)

begins_then : (low : ℕ) (xs ys : List ℕ) → Begins low xs → Begins low (xs ++ ys)
begins_then low [] ys b = absurd b
begins_then low (x ∷ xs) ys b = b

-- The last of some ascending numbers isn't below the lower bound.
last_above : (least : ℕ) (xs : List ℕ) (c high : ℕ) → AreAscendingWithin least (xs ++ (c ∷ [])) high → least ≤ c
last_above least [] c high h = h.0
last_above least (x ∷ xs) c high h = let le = last_above (x + 1) xs c high h.1 in omega (arith, h.0, le)

last_below : (least : ℕ) (xs : List ℕ) (c high : ℕ) → AreAscendingWithin least (xs ++ (c ∷ [])) high → c < high
last_below least [] c high h = omega (arith, h.1)
last_below least (x ∷ xs) c high h = last_below (x + 1) xs c high h.1

-- Translates `first_identifier_is_at_or_before_token` into `Begins`: the first identifier's token isn't after `low`.
begins_names : (low : ℕ) (xs : List (Role × ℕ)) → first_identifier_is_at_or_before_token low xs ≡ true → Begins low (names_without_roles xs)
begins_names low [] e = absurd (cc)
begins_names low (x ∷ xs) e = leb-true x.1 low e

begins_terminals : (least low : ℕ) (xs : List (Terminal ℕ)) (high : ℕ) → AreAscendingWithin least (token_places xs) high → Begins low (lexeme_names xs) → Begins low (token_places xs)
begins_terminals least low [] high h b = b
begins_terminals least low (Name n ∷ xs) high h b = b
begins_terminals least low (Number n ∷ xs) high h b =
    let le = before_first (n + 1) low (token_places xs) high h.1 (begins_terminals (n + 1) low xs high h.1 b) in
    omega (arith, le)
begins_terminals least low (WordOrSymbol k ∷ xs) high h b = begins_terminals least low xs high h b
begins_terminals least low (EndOfText ∷ xs) high h b = begins_terminals least low xs high h b

-- ---- the tokens of a block without a body

module _ (P : ℕ → Type 0) where
  -- holds if the tokens of a block's procedures and statements have property P, without those to
  -- which a way leads
  abbrev pub Among : PathToBody → Tree ℕ (items procedure) → Tree ℕ (maybe body) → Type 0
  Among [] ps statements = EachTokenSatisfies P ps
  Among (k ∷ path) ps statements = EachTokenSatisfies P (procedure_list_without_body k path ps) × EachTokenSatisfies P statements

  among_later : (path : PathToBody) (p : Tree ℕ (item procedure)) (ps : Tree ℕ (items procedure)) (statements : Tree ℕ (maybe body)) → EachTokenSatisfies P p → Among path ps statements → Among (path_after_inserting_first_procedure path) (more p ps) statements
  among_later [] p ps statements first h = (first, h)
  among_later (k ∷ path) p ps statements first h = ((first, h.0), h.1)

  block_among : (path : PathToBody) (cs : Tree ℕ (maybe constants)) (ts : Tree ℕ (maybe type_definitions)) (vs : Tree ℕ (maybe variables)) (ps : Tree ℕ (items procedure)) (statements : Tree ℕ (maybe body))
      → EachTokenSatisfies P cs → EachTokenSatisfies P ts → EachTokenSatisfies P vs → Among path ps statements → EachTokenSatisfies P (block_without_body path (forms_block (declares cs ts vs ps) statements))
  block_among [] cs ts vs ps statements c t v h = ((c, t, v, h), tt)
  block_among (k ∷ path) cs ts vs ps statements c t v h = ((c, t, v, h.0), h.1)

-- ---- inside the body and outside

module _ (low high : ℕ) (P : ℕ → Type 0) (out : (k : ℕ) → is_outside_range low high k ≡ true → P k) where
  is_below : (k : ℕ) → k < low → P k
  is_below k less = out k (or_left (nat_lt k low) (nat_le high k) (lt-ltb k low less))

  is_above : (k : ℕ) → high ≤ k → P k
  is_above k le = out k (or_right (nat_lt k low) (nat_le high k) (le-leb high k le))

  all_below : (least : ℕ) (xs : List ℕ) (top : ℕ) → AreAscendingWithin least xs top → top ≤ low → AllOf P xs
  all_below least [] top h le = tt
  all_below least (x ∷ xs) top h le = let bound = ascending_bounds (x + 1) xs top h.1 in (is_below x (omega (arith, bound, le)), all_below (x + 1) xs top h.1 le)

  all_above : (least : ℕ) (xs : List ℕ) (top : ℕ) → AreAscendingWithin least xs top → high ≤ least → AllOf P xs
  all_above least [] top h le = tt
  all_above least (x ∷ xs) top h le = (is_above x (omega (arith, h.0, le)), all_above (x + 1) xs top h.1 (omega (arith, h.0, le)))

  -- The tokens before a part that begins at or before `low` have the property.
  all_before : (least : ℕ) (xs ys : List ℕ) (top : ℕ) → AreAscendingWithin least (xs ++ ys) top → Begins low ys → AllOf P xs
  all_before least xs ys top h b =
      let s = split least xs ys top h in
      all_below least xs s.middle s.first (before_first s.middle low ys top s.last b)

  -- The tokens that end before the range have the property.
  all_upto : (least : ℕ) (xs : List ℕ) (c top : ℕ) → AreAscendingWithin least (xs ++ (c ∷ [])) top → c < low → AllOf P (xs ++ (c ∷ []))
  all_upto least [] c top h less = (is_below c less, tt)
  all_upto least (x ∷ xs) c top h less = let le = last_above (x + 1) xs c top h.1 in (is_below x (omega (arith, le, less)), all_upto (x + 1) xs c top h.1 less)

  -- states that a claim holds of a part, and that the part begins at or before `low`
  record Found (A : Type 0) (xs : List ℕ) : Type 0 where
    pub outside : A
    pub begins : Begins low xs

  abbrev BlockFound : Tree ℕ block → Type 0
  BlockFound b = Found (EachTokenSatisfies P (block_without_body (path_to_body_in_block low b) b)) (places b)

  abbrev ProceduresFound : Tree ℕ (items procedure) → Tree ℕ (maybe body) → Type 0
  ProceduresFound ps statements = Found (Among P (path_to_body_in_procedure_list low ps) ps statements) (places ps ++ places statements)

  own_found : (least top : ℕ) (statements : Tree ℕ (maybe body)) → AreAscendingWithin least (places statements) top → first_identifier_is_at_or_before_token low (identifiers role.DeclaringName statements) ≡ true → ProceduresFound end statements
  own_found least top statements h e = record {
    outside = tt;
    begins = subst (Begins low) (places_spelled statements)
        (begins_terminals least low (spell statements) top (subst (λ l. AreAscendingWithin least l top) (sym (places_spelled statements)) h)
        (subst (Begins low) (leaves_spelled role.DeclaringName statements) (begins_names low (identifiers role.DeclaringName statements) e)));
  }

  -- A procedure that closes before the range has the property.
  passed_over : (p : Tree ℕ (item procedure)) (least top : ℕ) → AreAscendingWithin least (places p) top → closing_name p < low → EachTokenSatisfies P p
  passed_over (declares_procedure x fs b closing) least top h less =
      let front = x ∷ (places fs ++ places b) in
      let e : front ++ (closing ∷ []) ≡ places (declares_procedure x fs b closing) = ap (λ l. x ∷ l) (append_assoc (places fs) (places b) (closing ∷ [])) in
      each_of P (declares_procedure x fs b closing) (subst (AllOf P) e (all_upto least front closing top (subst (λ l. AreAscendingWithin least l top) (sym e) h) less))

  -- A procedure's closing name is below the upper bound of its tokens.
  closes_below : (p : Tree ℕ (item procedure)) (least top : ℕ) → AreAscendingWithin least (places p) top → closing_name p < top
  closes_below (declares_procedure x fs b closing) least top h =
      let front = x ∷ (places fs ++ places b) in
      let e : front ++ (closing ∷ []) ≡ places (declares_procedure x fs b closing) = ap (λ l. x ∷ l) (append_assoc (places fs) (places b) (closing ∷ [])) in
      last_below least front closing top (subst (λ l. AreAscendingWithin least l top) (sym e) h)

  -- A procedure has the property if its block has it.
  with_block : (x : ℕ) (fs : List ℕ) (b : Tree ℕ block) (closing least top : ℕ) → AreAscendingWithin least (x ∷ (fs ++ (places b ++ (closing ∷ [])))) top → high ≤ closing
      → ((start : ℕ) → AreAscendingWithin start (places b) closing → BlockFound b)
      → AllOf P (x ∷ fs) × EachTokenSatisfies P (block_without_body (path_to_body_in_block low b) b) × P closing × Begins low (x ∷ (fs ++ (places b ++ (closing ∷ []))))
  with_block x fs b closing least top h le found =
      let last = places b ++ (closing ∷ []) in
      let s = split least (x ∷ fs) last top h in
      let t = split s.middle (places b) (closing ∷ []) top s.last in
      let f = found s.middle (ascending_higher s.middle (places b) t.middle closing t.last.0 t.first) in
      let begins = begins_then low (places b) (closing ∷ []) f.begins in
      (all_before least (x ∷ fs) last top h begins, f.outside, is_above closing le, begins_before least low (x ∷ fs) last top h begins)

  mutual
    block_found : (least top : ℕ) (b : Tree ℕ block) → AreAscendingWithin least (places b) top → high ≤ top → is_range_in_body_of_block low high b ≡ true → BlockFound b
    block_found least top (forms_block (declares cs ts vs ps) statements) h le is =
        let of_procedures = places ps ++ places statements in
        let of_variables = places vs ++ of_procedures in
        let of_types = places ts ++ of_variables in
        let e : places (forms_block (declares cs ts vs ps) statements) ≡ places cs ++ of_types =
        append_assoc (places cs) (places ts ++ (places vs ++ places ps)) (places statements)
        ∙ ap (λ l. places cs ++ l) (append_assoc (places ts) (places vs ++ places ps) (places statements) ∙ ap (λ l. places ts ++ l) (append_assoc (places vs) (places ps) (places statements))) in
        let all = subst (λ l. AreAscendingWithin least l top) e h in
        let a = split least (places cs) of_types top all in
        let b = split a.middle (places ts) of_variables top a.last in
        let d = split b.middle (places vs) of_procedures top b.last in
        let f = procedures_found d.middle top ps statements d.last le is in
        let begins₁ = begins_before b.middle low (places vs) of_procedures top b.last f.begins in
        let begins₂ = begins_before a.middle low (places ts) of_variables top a.last begins₁ in
        record {
          outside = block_among P (path_to_body_in_procedure_list low ps) cs ts vs ps statements
              (each_of P cs (all_before least (places cs) of_types top all begins₂))
              (each_of P ts (all_before a.middle (places ts) of_variables top a.last begins₁))
              (each_of P vs (all_before b.middle (places vs) of_procedures top b.last f.begins))
              f.outside;
          begins = subst (Begins low) (sym e) (begins_before least low (places cs) of_types top all begins₂);
        }

    procedures_found : (least top : ℕ) (ps : Tree ℕ (items procedure)) (statements : Tree ℕ (maybe body)) → AreAscendingWithin least (places ps ++ places statements) top → high ≤ top
        → is_range_in_body_of_procedures_or_statements low high ps statements ≡ true → ProceduresFound ps statements
    procedures_found least top end statements h le is = own_found least top statements h is
    procedures_found least top (more p rest) statements h le is =
        let others = places rest ++ places statements in
        let e : places (more p rest) ++ places statements ≡ places p ++ others = append_assoc (places p) (places rest) (places statements) in
        let all = subst (λ l. AreAscendingWithin least l top) e h in
        let s = split least (places p) others top all in
        (elim (nat_lt (closing_name p) low) as (λ z. nat_lt (closing_name p) low ≡ z → (if z then is_range_in_body_of_procedures_or_statements low high rest statements else nat_le high (closing_name p) && is_range_in_body_of_procedure low high p) ≡ true
        → Found (Among P (if z then path_after_inserting_first_procedure (path_to_body_in_procedure_list low rest) else zero ∷ path_to_body_in_procedure low p) (more p rest) statements) (places (more p rest) ++ places statements)) [
          | true ↦ λ before is.
              let f = procedures_found s.middle top rest statements s.last le is in
              record {
                outside = among_later P (path_to_body_in_procedure_list low rest) p rest statements (passed_over p least s.middle s.first (ltb-true (closing_name p) low before)) f.outside;
                begins = subst (Begins low) (sym e) (begins_before least low (places p) others top all f.begins);
              }
          | false ↦ λ after is.
              let parts = and_parts (nat_le high (closing_name p)) (is_range_in_body_of_procedure low high p) is in
              let reaches = leb-true high (closing_name p) parts.0 in
              let f = procedure_found least s.middle p s.first reaches parts.1 in
              let less = closes_below p least s.middle s.first in
              let t = split s.middle (places rest) (places statements) top s.last in
              let bound = ascending_bounds s.middle (places rest) t.middle t.first in
              record {
                outside = (
                  (f.outside, each_of P rest (all_above s.middle (places rest) t.middle t.first (omega (arith, reaches, less)))),
                  each_of P statements (all_above t.middle (places statements) top t.last (omega (arith, reaches, less, bound))),
                );
                begins = subst (Begins low) (sym e) (begins_then low (places p) others f.begins);
              }
        ]) refl is

    procedure_found : (least top : ℕ) (p : Tree ℕ (item procedure)) → AreAscendingWithin least (places p) top → high ≤ closing_name p → is_range_in_body_of_procedure low high p ≡ true
        → Found (EachTokenSatisfies P (procedure_without_body (path_to_body_in_procedure low p) p)) (places p)
    procedure_found least top (declares_procedure x fs b closing) h le is =
        let w = with_block x (places fs) b closing least top h le (λ start asc. block_found start closing b asc le is) in
        record { outside = (w.0.0, each_of P fs w.0.1, w.1, w.2); begins = w.3 }

  pub module_outside : (least top : ℕ) (m : Tree ℕ module_text) → AreAscendingWithin least (places m) top → is_range_in_one_body low high m ≡ true → EachTokenSatisfies P (module_without_body (path_to_body_in_module low m) m)
  module_outside least top (forms_module x b closing) h is =
      let parts = and_parts (nat_le high closing) (is_range_in_body_of_block low high b) is in
      let reaches = leb-true high closing parts.0 in
      let w = with_block x [] b closing least top h reaches (λ start asc. block_found start closing b asc reaches parts.1) in
      (w.0.0, w.1, w.2)
