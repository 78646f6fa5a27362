-- Proves that visiting the procedures of a block one after another finds the one that contains a
-- body, and the names that are declared on the way to the body.
use Rattle.std.proofs.Common.{◌≡◌, ◌<◌, ◌≤◌, ℕ, zero, ◌+◌, if◌then◌else◌, nat_lt, List, [], ◌∷◌, ◌++◌, length, drop, get_or, sym, ap, ◌∙◌, lt-ltb, le-ltb, append_assoc, append-nil}
use Rattle.std.proofs.lemmas.List.{drop_all, drop_more}
use Rattle.ob0_tree.specs.Tree.{Tree, block, body, constants, declares, forms_block, item, items, maybe, more, procedure, type_definitions, variables}
use Rattle.ob0_tree.specs.View.{block_of, body_of, constant_section_of, items_of, procedure_of, type_section_of, variable_section_of}
use Rattle.ob0_tree.specs.declared.tree.Block.{Block, out-Block}
use Rattle.ob0_tree.specs.declared.tree.Procedure.{Procedure, out-Procedure}
use Rattle.ob0_tree.proofs.Viewed.{block_parts, procedure_parts}
use Rattle.ob0_language_names.specs.BlockParts.{constant_names, declared_type_names, procedure_name, section_constants, section_types, section_variables, variable_names}
use Rattle.ob0_language_names.specs.ConsistentNames.{procedure_names}
use Rattle.ob0_scope_table.specs.BodyReplacement.{PathToBody, body_at_path_in_procedure_list, body_at_path_in_block, body_at_path_in_procedure, closing_name_at_path_in_procedure_list, closing_name_at_path_in_block, closing_name_at_path_in_procedure, path_after_inserting_first_procedure, path_to_body_in_procedure_list, path_to_body_in_block, path_to_body_in_procedure}
use Rattle.ob0_scope_table.specs.SpellingChangesInOneBody.{closing_name}
use Rattle.ob0_scope.specs.NamesVisibleInBody.{names_visible_at_path_in_block, names_visible_at_path_in_procedure, names_visible_at_path_in_procedure_list}

-- the statements of a block, with its closing name and the names declared on the way to it
pub record Place : Type 0 where
  pub statements : Tree ℕ (maybe body)
  pub closing : ℕ
  pub names : List ℕ

-- returns the statements to which a way leads among procedures; an empty way leads to the block's
-- own statements; `seen` has the names declared before the procedures
abbrev pub among : PathToBody → ℕ → Tree ℕ (items procedure) → Tree ℕ (maybe body) → List ℕ → Place
among [] own ps statements seen = record { statements = statements; closing = own; names = seen ++ procedure_names ps }
among (k ∷ path) own ps statements seen = record { statements = body_at_path_in_procedure_list k path ps; closing = closing_name_at_path_in_procedure_list k path own ps; names = seen ++ names_visible_at_path_in_procedure_list k path ps }

one_later : (path : PathToBody) (own : ℕ) (p : Tree ℕ (item procedure)) (ps : Tree ℕ (items procedure)) (statements : Tree ℕ (maybe body)) (seen : List ℕ) → among (path_after_inserting_first_procedure path) own (more p ps) statements seen ≡ among path own ps statements (seen ++ (procedure_name p ∷ []))
one_later [] own p ps statements seen = λ i. record { statements = statements; closing = own; names = sym (append_assoc seen (procedure_name p ∷ []) (procedure_names ps)) i }
one_later (k ∷ path) own p ps statements seen = λ i. record { statements = body_at_path_in_procedure_list k path ps; closing = closing_name_at_path_in_procedure_list k path own ps; names = sym (append_assoc seen (procedure_name p ∷ []) (names_visible_at_path_in_procedure_list k path ps)) i }

abbrev pub place_in : ℕ → Tree ℕ (item procedure) → List ℕ → Place
place_in low p seen = record { statements = body_at_path_in_procedure (path_to_body_in_procedure low p) p; closing = closing_name_at_path_in_procedure (path_to_body_in_procedure low p) p; names = seen ++ names_visible_at_path_in_procedure (path_to_body_in_procedure low p) p }

-- returns the statements that contain the range beginning at `low`
abbrev pub from_procedures : ℕ → ℕ → Tree ℕ (items procedure) → Tree ℕ (maybe body) → List ℕ → Place
from_procedures low own ps statements seen = among (path_to_body_in_procedure_list low ps) own ps statements seen

-- returns the statements of a block that contain the range beginning at `low`
abbrev pub place_of_block : ℕ → ℕ → Tree ℕ block → List ℕ → Place
place_of_block low own b seen = record { statements = body_at_path_in_block (path_to_body_in_block low b) b; closing = closing_name_at_path_in_block (path_to_body_in_block low b) own b; names = seen ++ names_visible_at_path_in_block (path_to_body_in_block low b) b }

-- returns names, and then those that a block declares before its procedures
abbrev pub with_sections : List ℕ → Tree ℕ (maybe constants) → Tree ℕ (maybe type_definitions) → Tree ℕ (maybe variables) → List ℕ
with_sections seen cs ts vs = ((seen ++ constant_names (section_constants cs)) ++ declared_type_names (section_types ts)) ++ variable_names (section_variables vs)

in_block : (low own : ℕ) (cs : Tree ℕ (maybe constants)) (ts : Tree ℕ (maybe type_definitions)) (vs : Tree ℕ (maybe variables)) (ps : Tree ℕ (items procedure)) (statements : Tree ℕ (maybe body)) (seen : List ℕ)
    → place_of_block low own (forms_block (declares cs ts vs ps) statements) seen ≡ from_procedures low own ps statements (with_sections seen cs ts vs)
in_block low own cs ts vs ps statements seen = one (path_to_body_in_procedure_list low ps)
  where
    four : (rest : List ℕ) → seen ++ (constant_names (section_constants cs) ++ (declared_type_names (section_types ts) ++ (variable_names (section_variables vs) ++ rest))) ≡ with_sections seen cs ts vs ++ rest
    four rest = simp (append_assoc)

    one : (path : PathToBody)
        → record { statements = body_at_path_in_block path (forms_block (declares cs ts vs ps) statements); closing = closing_name_at_path_in_block path own (forms_block (declares cs ts vs ps) statements); names = seen ++ names_visible_at_path_in_block path (forms_block (declares cs ts vs ps) statements) }
        ≡ among path own ps statements (with_sections seen cs ts vs)
    one [] = λ i. record { statements = statements; closing = own; names = four (procedure_names ps) i }
    one (k ∷ path) = λ i. record { statements = body_at_path_in_procedure_list k path ps; closing = closing_name_at_path_in_procedure_list k path own ps; names = four (names_visible_at_path_in_procedure_list k path ps) i }

pub block_place : (low own : ℕ) (b : Block) (seen : List ℕ) (xs : List Procedure) {names : List ℕ} → xs ≡ (out-Block b).procedures.items → names ≡ with_sections seen (constant_section_of (out-Block b).constants) (type_section_of (out-Block b).types) (variable_section_of (out-Block b).variables)
    → place_of_block low own (block_of b) seen ≡ from_procedures low own (items_of procedure_of xs) (body_of (out-Block b).body) names
block_place low own b seen xs e are =
    let c = out-Block b in
    ap (λ t. place_of_block low own t seen) (block_parts b)
    ∙ (in_block low own (constant_section_of c.constants) (type_section_of c.types) (variable_section_of c.variables) (items_of procedure_of c.procedures.items) (body_of c.body) seen
    ∙ (λ i. from_procedures low own (items_of procedure_of (sym e i)) (body_of c.body) (sym are i)))

module _ (low own : ℕ) (statements : Tree ℕ (maybe body)) where
  abbrev pub place_left : ℕ → List Procedure → List ℕ → Place
  place_left k xs seen = from_procedures low own (items_of procedure_of (drop k xs)) statements seen

  one_more : (xs : List Procedure) (k : ℕ) (q : Procedure) (seen : List ℕ) → k < length xs → q ≡ get_or xs k q
      → place_left k xs seen ≡ among (if nat_lt (out-Procedure q).closing low then path_after_inserting_first_procedure (path_to_body_in_procedure_list low (items_of procedure_of (drop (k + 1) xs))) else zero ∷ path_to_body_in_procedure low (procedure_of q)) own (more (procedure_of q) (items_of procedure_of (drop (k + 1) xs))) statements seen
  one_more xs k q seen less here =
      ap (λ ys. from_procedures low own (items_of procedure_of ys) statements seen) (drop_more xs k q less ∙ ap (λ y. y ∷ drop (k + 1) xs) (sym here))
      ∙ ap (λ n. among (if nat_lt n low then path_after_inserting_first_procedure (path_to_body_in_procedure_list low (items_of procedure_of (drop (k + 1) xs))) else zero ∷ path_to_body_in_procedure low (procedure_of q)) own (more (procedure_of q) (items_of procedure_of (drop (k + 1) xs))) statements seen) (ap closing_name (procedure_parts q))

  own_name : (q : Procedure) (seen : List ℕ) {next : List ℕ} → next ≡ seen ++ ((out-Procedure q).name ∷ []) → seen ++ (procedure_name (procedure_of q) ∷ []) ≡ next
  own_name q seen e = ap (λ x. seen ++ (x ∷ [])) (ap procedure_name (procedure_parts q)) ∙ sym e

  pub past_one : (xs : List Procedure) (k : ℕ) (q : Procedure) (seen : List ℕ) {next : List ℕ} → k < length xs → q ≡ get_or xs k q → (out-Procedure q).closing < low → next ≡ seen ++ ((out-Procedure q).name ∷ []) → place_left (k + 1) xs next ≡ place_left k xs seen
  past_one xs k q seen less here past e =
      let rest = items_of procedure_of (drop (k + 1) xs) in
      sym (one_more xs k q seen less here
      ∙ (ap (λ b. among (if b then path_after_inserting_first_procedure (path_to_body_in_procedure_list low rest) else zero ∷ path_to_body_in_procedure low (procedure_of q)) own (more (procedure_of q) rest) statements seen) (lt-ltb (out-Procedure q).closing low past)
      ∙ (one_later (path_to_body_in_procedure_list low rest) own (procedure_of q) rest statements seen ∙ ap (from_procedures low own rest statements) (own_name q seen e))))

  pub in_one : (xs : List Procedure) (k : ℕ) (q : Procedure) (seen : List ℕ) {next : List ℕ} → k < length xs → q ≡ get_or xs k q → low ≤ (out-Procedure q).closing → next ≡ seen ++ ((out-Procedure q).name ∷ []) → place_left k xs seen ≡ place_in low (procedure_of q) next
  in_one xs k q seen less here le e =
      let rest = items_of procedure_of (drop (k + 1) xs) in
      let p = procedure_of q in
      let inner = names_visible_at_path_in_procedure (path_to_body_in_procedure low p) p in
      one_more xs k q seen less here
      ∙ (ap (λ b. among (if b then path_after_inserting_first_procedure (path_to_body_in_procedure_list low rest) else zero ∷ path_to_body_in_procedure low p) own (more p rest) statements seen) (le-ltb (out-Procedure q).closing low le)
      ∙ (λ i. record { statements = body_at_path_in_procedure (path_to_body_in_procedure low p) p; closing = closing_name_at_path_in_procedure (path_to_body_in_procedure low p) p; names = (sym (append_assoc seen (procedure_name p ∷ []) inner) ∙ ap (λ l. l ++ inner) (own_name q seen e)) i }))

  pub past_all : (xs : List Procedure) (k : ℕ) (seen : List ℕ) → length xs ≤ k → place_left k xs seen ≡ record { statements = statements; closing = own; names = seen }
  past_all xs k seen all = ap (λ ys. from_procedures low own (items_of procedure_of ys) statements seen) (drop_all k xs all) ∙ (λ i. record { statements = statements; closing = own; names = append-nil seen i })
