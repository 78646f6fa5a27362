-- Proves that two tables of ordinals of one module agree at each token.
-- A table may be longer than the module's list of tokens, so the two tables needn't be equal as
-- lists. At an identifier they have the same ordinal (`IsBindingTable`), and at any other token
-- neither has an ordinal (`OnlyIdentifiersHaveOrdinals`).
use Rattle.std.proofs.Common.{◌≡◌, ◌∙◌, ◌==◌, ◌||◌, ℕ, Bool, true, false, Option, List, [], ◌∷◌, map, refl, sym, ap, subst, eqb-true}
use Rattle.std.specs.List.{list_any}
use Rattle.ob0_scan.specs.TextWithTokens.{TextWithTokens}
use Rattle.ob0_tree.specs.IdentifierIndexes.{identifier_names}
use Rattle.ob0_tree.specs.ParsedModule.{tree_of}
use Rattle.ob0_tree.specs.TokenIndexLeaves.{tree_with_names, token_value_at}
use Rattle.ob0_language_names.specs.Names.{Name, naming_by_spelling}
use Rattle.ob0_scope_table.specs.Resolution.{Resolution, IsResolution, ordinal_and_spelling_at_token, is_identifier_token, ordinal_in, ordinal_and_spelling}
use Rattle.ob0_language_names.specs.Scopes.{relabel_module}
use Rattle.ob0_world_rules.proofs.OneFields.{leaves_mapped}
use Rattle.ob0_world_determined.specs.DeterminedOutput.{ResolutionIsDetermined}

head_of : {A : Type 0} {x y : A} {xs ys : List A} → x ∷ xs ≡ y ∷ ys → x ≡ y
head_of e = cc

tail_of : {A : Type 0} {x y : A} {xs ys : List A} → x ∷ xs ≡ y ∷ ys → xs ≡ ys
tail_of e = cc

abbrev is_among : List ℕ → ℕ → Bool
is_among tokens token = list_any (λ i. i == token) tokens

-- Two tables agree at each of some tokens if they agree at all of these.
among : (s : TextWithTokens) (a b : List (Option ℕ)) (tokens : List ℕ) (token : ℕ) → is_among tokens token ≡ true → map (ordinal_and_spelling_at_token s a) tokens ≡ map (ordinal_and_spelling_at_token s b) tokens → ordinal_in a token ≡ ordinal_in b token
among s a b [] token is same = absurd (cc)
among s a b (x ∷ xs) token is same = go (x == token) refl (λ later. among s a b xs token later (tail_of same))
  where
    go : (c : Bool) → (x == token) ≡ c → (is_among xs token ≡ true → ordinal_in a token ≡ ordinal_in b token) → ordinal_in a token ≡ ordinal_in b token
    go true here next = subst (λ i. ordinal_in a i ≡ ordinal_in b i) (eqb-true x token here) (ap (λ (p : Option ℕ × Name). p.0) (head_of same))
    go false here next = next (sym (ap (λ c. c || is_among xs token) here) ∙ is)

module _ (r q : Resolution) (h : IsResolution r) (k : IsResolution q) (source : r.module_read.source ≡ q.module_read.source) (tree : tree_of r.module_read ≡ tree_of q.module_read) where
  same_bound : map (ordinal_and_spelling_at_token r.module_read.source r.ordinals) (identifier_names (tree_of r.module_read)) ≡ map (ordinal_and_spelling_at_token r.module_read.source q.ordinals) (identifier_names (tree_of r.module_read))
  same_bound =
      sym (leaves_mapped (ordinal_and_spelling_at_token r.module_read.source r.ordinals) (token_value_at r.module_read.source) (tree_of r.module_read))
      ∙ (ap identifier_names (sym h.binding ∙ ((λ i. relabel_module naming_by_spelling ordinal_and_spelling (tree_with_names (source i) (tree i))) ∙ k.binding))
      ∙ (leaves_mapped (ordinal_and_spelling_at_token q.module_read.source q.ordinals) (token_value_at q.module_read.source) (tree_of q.module_read)
      ∙ (λ i. map (ordinal_and_spelling_at_token (sym source i) q.ordinals) (identifier_names (sym tree i)))))

  same_ordinal : (token : ℕ) → ordinal_in r.ordinals token ≡ ordinal_in q.ordinals token
  same_ordinal token = go (is_identifier_token r.module_read token) refl
    where
      go : (b : Bool) → is_identifier_token r.module_read token ≡ b → ordinal_in r.ordinals token ≡ ordinal_in q.ordinals token
      go true is = among r.module_read.source r.ordinals q.ordinals (identifier_names (tree_of r.module_read)) token is same_bound
      go false is = h.ordinals_only_at_names token is ∙ sym (k.ordinals_only_at_names token (ap (λ t. is_among (identifier_names t) token) (sym tree) ∙ is))

pub resolution_is_determined : ResolutionIsDetermined
resolution_is_determined r q h k (source, tree) token = same_ordinal r q h k source tree token
