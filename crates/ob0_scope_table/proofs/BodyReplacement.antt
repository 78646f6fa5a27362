-- Proves facts about a module in which the statements of one body were replaced. Omitting these
-- statements commutes with renaming. All other tokens are outside the replaced range and have the
-- same spellings.
use Rattle.std.proofs.Common.{◌≡◌, ℕ, zero, suc, true, [], ◌∷◌, length, slice_get, refl, sym, ap, ◌∙◌, subst}
use Rattle.ob0_scan.specs.ReusedLexemes.{words_of_tokens}
use Rattle.ob0_scan.specs.TextWithTokens.{TextWithTokens}
use Rattle.ob0_scan.specs.declared.tokens.CommonPrefixAndSuffix.{CommonPrefixAndSuffix}
use Rattle.ob0_tree.specs.ParsedModule.{ParsedModule, tree_of}
use Rattle.ob0_tree.specs.TokenIndexLeaves.{tree_with_names, token_text_at, token_value_at}
use Rattle.ob0_tree.specs.Tree.{Tree, block, declares, declares_procedure, end, forms_block, forms_module, item, items, mapped_tree, module_text, more, procedure}
use Rattle.ob0_scope_table.specs.TokenProperty.{EachTokenSatisfies}
use Rattle.ob0_scope_table.specs.BodyReplacement.{ReplacesStatementsOfOneBody, PathToBody, block_without_body, shifted_token_index, procedure_without_body, procedure_list_without_body, module_without_body}
use Rattle.ob0_scope_table.specs.SpellingChangesInOneBody.{is_outside_range}
use Rattle.ob0_scope_table.proofs.BodyOutside.{module_outside}
use Rattle.ob0_scope_table.proofs.MappedAlike.{mapped_alike}
use Rattle.ob0_tree.proofs.Mapped.{mapped_twice}
use Rattle.ob0_scope_table.proofs.OneBody.{text_in_word, value_in_word, word_text, word_value}
use Rattle.ob0_scope_table.proofs.Placed.{places_ascend}

-- ---- a tree with its names replaced

module _ {N M : Type 0} (f : N → M) (g : ℕ → ℕ) where
  mutual
    pub block_without_mapped : (path : PathToBody) (b : Tree N block) → block_without_body path (mapped_tree f g b) ≡ mapped_tree f g (block_without_body path b)
    block_without_mapped [] (forms_block ds statements) = refl
    block_without_mapped (k ∷ path) (forms_block (declares cs ts vs ps) statements) =
        ap (λ l. forms_block (declares (mapped_tree f g cs) (mapped_tree f g ts) (mapped_tree f g vs) l) (mapped_tree f g statements)) (procedures_without_mapped k path ps)

    pub procedures_without_mapped : (k : ℕ) (path : PathToBody) (ps : Tree N (items procedure)) → procedure_list_without_body k path (mapped_tree f g ps) ≡ mapped_tree f g (procedure_list_without_body k path ps)
    procedures_without_mapped zero path end = refl
    procedures_without_mapped (suc k) path end = refl
    procedures_without_mapped zero path (more p ps) = ap (λ q. more q (mapped_tree f g ps)) (procedure_without_mapped path p)
    procedures_without_mapped (suc k) path (more p ps) = ap (more (mapped_tree f g p)) (procedures_without_mapped k path ps)

    pub procedure_without_mapped : (path : PathToBody) (p : Tree N (item procedure)) → procedure_without_body path (mapped_tree f g p) ≡ mapped_tree f g (procedure_without_body path p)
    procedure_without_mapped path (declares_procedure x fs b closing) =
        ap (λ c. declares_procedure (f x) (mapped_tree f g fs) c (f closing)) (block_without_mapped path b)

-- Replacing names commutes with omitting a body.
pub without_mapped : {N M : Type 0} (f : N → M) (g : ℕ → ℕ) (path : PathToBody) (t : Tree N module_text) → module_without_body path (mapped_tree f g t) ≡ mapped_tree f g (module_without_body path t)
without_mapped f g path (forms_module x b closing) = ap (λ c. forms_module (f x) c (f closing)) (block_without_mapped f g path b)

-- ---- outside the body

-- A property of each token outside the range holds of each token of the module without the body.
pub outside_each : (P : ℕ → Type 0) (old new : ParsedModule) (path : PathToBody) (s : CommonPrefixAndSuffix) → ReplacesStatementsOfOneBody old new path s → ((k : ℕ) → is_outside_range s.prefix s.old_suffix k ≡ true → P k) → EachTokenSatisfies P (module_without_body path (tree_of old))
outside_each P old new path s r out =
    subst (λ w. EachTokenSatisfies P (module_without_body w (tree_of old))) r.old_path
    (module_outside s.prefix s.old_suffix P out 0 (length old.source.tokens) (tree_of old) (places_ascend old r.old_parsed) r.old_in_body)

pub outside_out : (old new : ParsedModule) (path : PathToBody) (s : CommonPrefixAndSuffix) → ReplacesStatementsOfOneBody old new path s → EachTokenSatisfies (λ i. is_outside_range s.prefix s.old_suffix i ≡ true) (module_without_body path (tree_of old))
outside_out old new path s r = outside_each (λ i. is_outside_range s.prefix s.old_suffix i ≡ true) old new path s r (λ k e. e)

-- two tokens of two texts that are the same word
module _ (old new : TextWithTokens) (k j : ℕ) (same : slice_get (words_of_tokens new.text new.tokens) j ≡ slice_get (words_of_tokens old.text old.tokens) k) where
  -- The two tokens have the same spelling.
  pub text_by_word : token_text_at new j ≡ token_text_at old k
  text_by_word = text_in_word new.text new.tokens j ∙ (ap word_text same ∙ sym (text_in_word old.text old.tokens k))

  -- The two tokens have the same value.
  pub value_by_word : token_value_at new j ≡ token_value_at old k
  value_by_word = value_in_word new.text new.tokens j ∙ (ap word_value same ∙ sym (value_in_word old.text old.tokens k))

-- A token outside the range has the same spelling at its new index.
pub text_moved : (old new : ParsedModule) (path : PathToBody) (s : CommonPrefixAndSuffix) → ReplacesStatementsOfOneBody old new path s → (k : ℕ) → is_outside_range s.prefix s.old_suffix k ≡ true → token_text_at new.source (shifted_token_index s k) ≡ token_text_at old.source k
text_moved old new path s r k e = text_by_word old.source new.source k (shifted_token_index s k) (r.words k e)

pub value_moved : (old new : ParsedModule) (path : PathToBody) (s : CommonPrefixAndSuffix) → ReplacesStatementsOfOneBody old new path s → (k : ℕ) → is_outside_range s.prefix s.old_suffix k ≡ true → token_value_at new.source (shifted_token_index s k) ≡ token_value_at old.source k
value_moved old new path s r k e = value_by_word old.source new.source k (shifted_token_index s k) (r.words k e)

-- Both modules without the body have the same names and numbers.
pub names_outside : (old new : ParsedModule) (path : PathToBody) (s : CommonPrefixAndSuffix) → ReplacesStatementsOfOneBody old new path s → tree_with_names new.source (module_without_body path (tree_of new)) ≡ tree_with_names old.source (module_without_body path (tree_of old))
names_outside old new path s r =
    ap (tree_with_names new.source) r.outside
    ∙ (mapped_twice (token_text_at new.source) (token_text_at new.source) (token_value_at new.source) (shifted_token_index s) (shifted_token_index s) (shifted_token_index s) (module_without_body path (tree_of old))
    ∙ mapped_alike (λ k. is_outside_range s.prefix s.old_suffix k ≡ true) (λ k. token_text_at new.source (shifted_token_index s k)) (token_text_at old.source) (λ k. token_value_at new.source (shifted_token_index s k)) (token_value_at old.source)
    (text_moved old new path s r) (value_moved old new path s r) (module_without_body path (tree_of old)) (outside_out old new path s r))
