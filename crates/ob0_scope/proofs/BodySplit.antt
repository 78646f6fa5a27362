-- Splits the identifiers of a module into three parts: before the statements to which a way leads,
-- in them, and from the closing name of their block onwards. The module without these statements
-- has the first and the last part.
use Rattle.std.proofs.Common.{◌≡◌, ℕ, zero, suc, List, [], ◌∷◌, ◌++◌, refl, sym, ap, ◌∙◌, append_assoc, append-nil}
use Rattle.ob0_tree.specs.declared.tree.Role.{Role}
use Rattle.ob0_tree.specs.declared.tree.Role.TheVariants as role
use Rattle.ob0_tree.specs.Tree.{Tree, block, declares, declares_procedure, end, forms_block, identifiers, forms_module, item, items, module_text, more, procedure}
use Rattle.ob0_scope_table.specs.BodyReplacement.{PathToBody, block_without_body, body_at_path_in_procedure_list, body_at_path, body_at_path_in_block, body_at_path_in_procedure, closing_name_at_path_in_procedure_list, closing_name_at_path, closing_name_at_path_in_block, closing_name_at_path_in_procedure, procedure_without_body, procedure_list_without_body, module_without_body}

-- states that `whole` is `rest` with the identifiers of a body inserted; the closing name comes
-- first after the body
pub record Split {N : Type 0} (whole rest own : List (Role × N)) (closing : N) : Type 0 where
  pub before : List (Role × N)
  pub closes : Role
  pub after : List (Role × N)
  pub whole_is : whole ≡ before ++ (own ++ ((closes, closing) ∷ after))
  pub rest_is : rest ≡ before ++ ((closes, closing) ∷ after)

-- Other identifiers may be put before both lists.
prepend : {N : Type 0} {whole rest own : List (Role × N)} {closing : N} (xs : List (Role × N)) → Split whole rest own closing → Split (xs ++ whole) (xs ++ rest) own closing
prepend {own = own} {closing = closing} xs s =
    record {
      before = xs ++ s.before;
      closes = s.closes;
      after = s.after;
      whole_is = ap (λ z. xs ++ z) s.whole_is ∙ sym (append_assoc xs s.before (own ++ ((s.closes, closing) ∷ s.after)));
      rest_is = ap (λ z. xs ++ z) s.rest_is ∙ sym (append_assoc xs s.before ((s.closes, closing) ∷ s.after));
    }

split_is : {N : Type 0} {whole whole' rest rest' own : List (Role × N)} {closing : N} → whole' ≡ whole → rest' ≡ rest → Split whole rest own closing → Split whole' rest' own closing
split_is e h s = record { before = s.before; closes = s.closes; after = s.after; whole_is = e ∙ s.whole_is; rest_is = h ∙ s.rest_is }

-- Reassociates the lists of a block's parts, with other elements after them.
in_block : {X : Type 0} (c t v p s rest : List X) → ((c ++ (t ++ (v ++ p))) ++ s) ++ rest ≡ (c ++ (t ++ v)) ++ (p ++ (s ++ rest))
in_block c t v p s rest = simp (append_assoc)

-- Reassociates the lists of a procedure's parts, with other elements after them.
in_procedure : {X : Type 0} (x : X) (f b rest : List X) (last : X) → (x ∷ (f ++ (b ++ (last ∷ [])))) ++ rest ≡ (x ∷ f) ++ (b ++ (last ∷ rest))
in_procedure x f b rest last = simp (append_assoc)

mutual
  -- Splits the identifiers of a block with this closing name, and others after it.
  pub split_block : {N : Type 0} (path : PathToBody) (closes : Role) (own : N) (rest : List (Role × N)) (b : Tree N block)
      → Split (identifiers role.DeclaringName b ++ ((closes, own) ∷ rest)) (identifiers role.DeclaringName (block_without_body path b) ++ ((closes, own) ∷ rest)) (identifiers role.DeclaringName (body_at_path_in_block path b)) (closing_name_at_path_in_block path own b)
  split_block [] closes own rest (forms_block ds statements) =
      let d = identifiers role.DeclaringName ds in
      let s = identifiers role.DeclaringName statements in
      record {
        before = d;
        closes = closes;
        after = rest;
        whole_is = append_assoc d s ((closes, own) ∷ rest);
        rest_is = ap (λ z. z ++ ((closes, own) ∷ rest)) (append-nil d);
      }
  split_block (k ∷ path) closes own rest (forms_block (declares cs ts vs ps) statements) =
      let c = identifiers role.DeclaringName cs in
      let t = identifiers role.DeclaringName ts in
      let v = identifiers role.DeclaringName vs in
      let s = identifiers role.DeclaringName statements in
      split_is (in_block c t v (identifiers role.DeclaringName ps) s ((closes, own) ∷ rest)) (in_block c t v (identifiers role.DeclaringName (procedure_list_without_body k path ps)) s ((closes, own) ∷ rest))
      (prepend (c ++ (t ++ v)) (split_among k path closes own s rest ps))

  -- Splits the identifiers of procedures, and others after them.
  pub split_among : {N : Type 0} (k : ℕ) (path : PathToBody) (closes : Role) (own : N) (following rest : List (Role × N)) (ps : Tree N (items procedure))
      → Split (identifiers role.DeclaringName ps ++ (following ++ ((closes, own) ∷ rest))) (identifiers role.DeclaringName (procedure_list_without_body k path ps) ++ (following ++ ((closes, own) ∷ rest))) (identifiers role.DeclaringName (body_at_path_in_procedure_list k path ps)) (closing_name_at_path_in_procedure_list k path own ps)
  split_among zero path closes own following rest end = record { before = following; closes = closes; after = rest; whole_is = refl; rest_is = refl }
  split_among (suc k) path closes own following rest end = record { before = following; closes = closes; after = rest; whole_is = refl; rest_is = refl }
  split_among zero path closes own following rest (more p ps) =
      let others = identifiers role.DeclaringName ps ++ (following ++ ((closes, own) ∷ rest)) in
      split_is (append_assoc (identifiers role.DeclaringName p) (identifiers role.DeclaringName ps) (following ++ ((closes, own) ∷ rest)))
      (append_assoc (identifiers role.DeclaringName (procedure_without_body path p)) (identifiers role.DeclaringName ps) (following ++ ((closes, own) ∷ rest)))
      (split_inside path others p)
  split_among (suc k) path closes own following rest (more p ps) =
      split_is (append_assoc (identifiers role.DeclaringName p) (identifiers role.DeclaringName ps) (following ++ ((closes, own) ∷ rest)))
      (append_assoc (identifiers role.DeclaringName p) (identifiers role.DeclaringName (procedure_list_without_body k path ps)) (following ++ ((closes, own) ∷ rest)))
      (prepend (identifiers role.DeclaringName p) (split_among k path closes own following rest ps))

  -- Splits the identifiers of a procedure, and others after it.
  pub split_inside : {N : Type 0} (path : PathToBody) (rest : List (Role × N)) (p : Tree N (item procedure))
      → Split (identifiers role.DeclaringName p ++ rest) (identifiers role.DeclaringName (procedure_without_body path p) ++ rest) (identifiers role.DeclaringName (body_at_path_in_procedure path p)) (closing_name_at_path_in_procedure path p)
  split_inside path rest (declares_procedure x fs b closing) =
      let f = identifiers role.DeclaringName fs in
      split_is (in_procedure (role.DeclaringName, x) f (identifiers role.DeclaringName b) rest (role.ClosingName, closing)) (in_procedure (role.DeclaringName, x) f (identifiers role.DeclaringName (block_without_body path b)) rest (role.ClosingName, closing))
      (prepend ((role.DeclaringName, x) ∷ f) (split_block path role.ClosingName closing rest b))

-- Splits the identifiers of a module.
pub split_module : {N : Type 0} (path : PathToBody) (t : Tree N module_text) → Split (identifiers role.DeclaringName t) (identifiers role.DeclaringName (module_without_body path t)) (identifiers role.DeclaringName (body_at_path path t)) (closing_name_at_path path t)
split_module path (forms_module x b closing) = prepend ((role.ModuleName, x) ∷ []) (split_block path role.ModuleName closing [] b)
