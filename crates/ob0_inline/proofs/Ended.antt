-- Proves which tokens are the first and the last of a constant's declaration, and that its uses
-- follow it.
-- The code finds the declaring token and the first semicolon after it. No token between them is a
-- semicolon. So a constant with a value always has both (`token_known`, `end_known`).
use Rattle.std.proofs.Common.{◌≡◌, ℕ, suc, ◌+◌, ◌-◌, Bool, true, false, cond, if◌then◌else◌, Option, Some, None, List, [], ◌∷◌, ◌++◌, drop, map, length, refl, sym, ap, ◌∙◌, subst, arith, slice_get, append_assoc}
use Rattle.std.proofs.lemmas.Bool.{le-ltb}
use Rattle.std.specs.List.{filter, position_from, zip}
use Rattle.ob0_scan.specs.declared.lexeme.Symbol.TheVariants as symbol
use Rattle.ob0_scan.specs.declared.lexeme.Token.{Token}
use Rattle.ob0_scan.specs.declared.lexeme.TokenKind.{TokenKind}
use Rattle.ob0_scan.specs.declared.lexeme.TokenKind.TheVariants as kind
use Rattle.ob0_scan.specs.TextWithTokens.{TextWithTokens, word_of_token}
use Rattle.ob0_tree.specs.declared.tree.Role.TheVariants as role
use Rattle.ob0_tree.specs.Terminals.{Terminal, WordOrSymbol}
use Rattle.ob0_tree.specs.Terminals as lexeme
use Rattle.ob0_tree.specs.ParsedModule.{ParsedModule, named_tree_of, tree_of}
use Rattle.ob0_tree.specs.TokenIndexLeaves.{indexed_terminal}
use Rattle.ob0_tree.specs.TokenIndexLeaves as leaf
use Rattle.ob0_tree.specs.Tree.{identifiers, occurrences, spell}
use Rattle.ob0_edits_tokens.specs.WordReplacements.{changes_at_indexes, changed_words, words_of_text}
use Rattle.ob0_edits_tokens.specs.WordsOfTrees.{indexed_terminals_of_words}
use Rattle.ob0_edits_tokens.specs.Removals.{MayBeConstantDeclaration, changes_with_removal}
use Rattle.ob0_edits_tokens.specs.Replacements.{AreIdentifierIndexes}
use Rattle.ob0_edits_tokens.specs.WordTerminals.{terminal_of_word}
use Rattle.ob0_language_names.specs.Names.{Label, Name, naming_by_spelling, declared, same_ordinal_label}
use Rattle.ob0_language_names.specs.Occurrences.{labels_of_occurrences}
use Rattle.ob0_language_names.specs.BlockParts.{module_block}
use Rattle.ob0_language_types.proofs.Literals.{some_inverse}
use Rattle.ob0_scope_table.specs.Resolution.{IsResolution, Resolution, declaring_names, label_from_table, ordinal_in, declaration_token}
use Rattle.ob0_language_names.specs.Scopes.{label_from_ordinal, same_ordinal}
use Rattle.ob0_scope_table.proofs.Bound.{bindings_by_table}
use Rattle.ob0_language_names.proofs.OccurrenceNames.{length-map}
use Rattle.ob0_language_names.proofs.Peeling.{heads}
use Rattle.ob0_language_types.specs.ConstantValues.{constant_value_in_module}
use Rattle.ob0_language_values.specs.Scalars.{scalar_value}
use Rattle.ob0_language_values.specs.Values.{Value}
use Rattle.ob0_inline.specs.declared.declared_constants.DeclaredConstant.{DeclaredConstant}
use Rattle.ob0_inline.specs.Declarations.{is_semicolon}
use Rattle.ob0_inline.specs.Everywhere.{IsDeclaredConstant, UsesAreFactors, tree_inlined_everywhere, tokens_of_uses}
use Rattle.ob0_inline.specs.Values.{value_factor, value_words}
use Rattle.ob0_inline.proofs.EverywhereAt.{bound_tokens, late_here, uses_are_names, words_everywhere}
use Rattle.ob0_inline.proofs.ModuleTexts.{spelled_by_words, value_spelled}
use Rattle.ob0_scope_table.proofs.Declared.{module_declared, names_in}
use Rattle.ob0_inline.proofs.TakenOut.{NoEnd, Taken, gone_module}
use Rattle.ob0_inline.proofs.WordsLeft.{first_bound_token, is_declaration, last_token, mark_kind, name_is_first}

-- Finds the uses by the table of ordinals.

label_same : (o : Option ℕ) (x : Name) (d : ℕ) → same_ordinal_label (label_from_ordinal naming_by_spelling o x) (declared d) ≡ same_ordinal o d
label_same None x d = refl
label_same (Some k) x d = refl

uses_kept : (source : TextWithTokens) (ordinals : List (Option ℕ)) (d : ℕ) (is : List ℕ)
    → map (λ (u : ℕ × Label). u.0) (filter (λ u. same_ordinal_label u.1 (declared d)) (zip is (map (label_from_table source ordinals) is))) ≡ bound_tokens ordinals d is
uses_kept source ordinals d [] = refl
uses_kept source ordinals d (i ∷ is) =
    let kept = filter (λ (u : ℕ × Label). same_ordinal_label u.1 (declared d)) (zip is (map (label_from_table source ordinals) is)) in
    ap (λ b. map (λ (u : ℕ × Label). u.0) (cond b ((i, label_from_table source ordinals i) ∷ kept) kept)) (label_same (ordinal_in ordinals i) (leaf.token_text_at source i) d)
    ∙ one kept (bound_tokens ordinals d is) (uses_kept source ordinals d is) (same_ordinal (ordinal_in ordinals i) d)
  where
    one : (kept : List (ℕ × Label)) (bound : List ℕ) → map (λ (u : ℕ × Label). u.0) kept ≡ bound → (b : Bool)
        → map (λ (u : ℕ × Label). u.0) (cond b ((i, label_from_table source ordinals i) ∷ kept) kept) ≡ cond b (i ∷ bound) bound
    one kept bound e true = λ j. i ∷ e j
    one kept bound e false = e

pub uses_by_table : (r : Resolution) → IsResolution r → (d : ℕ) → bound_tokens r.ordinals d r.uses ≡ tokens_of_uses r.module_read d
uses_by_table r is d =
    let m = r.module_read in
    ap (bound_tokens r.ordinals d) is.occurring
    ∙ (sym (uses_kept m.source r.ordinals d (occurrences (tree_of m)))
    ∙ ap (λ ls. map (λ (u : ℕ × Label). u.0) (filter (λ u. same_ordinal_label u.1 (declared d)) (zip (occurrences (tree_of m)) ls))) (sym (bindings_by_table m r.ordinals is.numbering)))

-- There are as many bindings as occurrences.
pub as_many_bindings : (r : Resolution) → IsResolution r → length r.uses ≡ length (labels_of_occurrences (named_tree_of r.module_read))
as_many_bindings r is =
    let m = r.module_read in
    ap length is.occurring ∙ (sym (length-map (label_from_table m.source r.ordinals) (occurrences (tree_of m))) ∙ ap length (sym (bindings_by_table m r.ordinals is.numbering)))

-- Finds the first `;` among tokens.

not_end : (k : ℕ) (q : TokenKind) (x : Terminal ℕ) (xs : List (Terminal ℕ)) → indexed_terminal k q ≡ x → NoEnd (x ∷ xs) → is_semicolon q ≡ false
not_end k (kind.Symbol s) x xs e n = (subst (λ y. NoEnd (y ∷ xs)) (sym e) n).0
not_end k _ x xs e n = refl

others_no_end : (x : Terminal ℕ) (xs : List (Terminal ℕ)) → NoEnd (x ∷ xs) → NoEnd xs
others_no_end (WordOrSymbol k) xs n = n.1
others_no_end _ xs n = n

first_end : (text : List ℕ) (k j : ℕ) (ts : List Token) (xs ys : List (Terminal ℕ)) → indexed_terminals_of_words k (map (word_of_token text) ts) ≡ xs ++ (WordOrSymbol (kind.Symbol symbol.Semicolon) ∷ ys) → NoEnd xs
    → position_from (λ t. is_semicolon t.kind) j ts ≡ Some (j + length xs)
first_end text k j [] [] ys e n = absurd (cc)
first_end text k j [] (x ∷ xs) ys e n = absurd (cc)
first_end text k j (t ∷ ts) [] ys e n =
    ap (λ b. cond b (Some j) (position_from (λ (t : Token). is_semicolon t.kind) (j + 1) ts)) (ap is_semicolon (mark_kind k t.kind (kind.Symbol symbol.Semicolon) (heads e).0))
    ∙ ap Some (let z : j ≡ j + 0 = omega arith in z)
first_end text k j (t ∷ ts) (x ∷ xs) ys e n =
    ap (λ b. cond b (Some j) (position_from (λ (t : Token). is_semicolon t.kind) (j + 1) ts)) (not_end k t.kind x xs (heads e).0 n)
    ∙ (first_end text (suc k) (j + 1) ts xs ys (heads e).1 (others_no_end x xs n) ∙ ap Some (let z : j + 1 + length xs ≡ j + suc (length xs) = omega arith in z))

-- Dropping the tokens of a prefix leaves the tokens of the rest.
following_front : (text : List ℕ) (k : ℕ) (ts : List Token) (front rest : List (Terminal ℕ)) → indexed_terminals_of_words k (map (word_of_token text) ts) ≡ front ++ rest → indexed_terminals_of_words (k + length front) (map (word_of_token text) (drop (length front) ts)) ≡ rest
following_front text k ts [] rest e = ap (λ n. indexed_terminals_of_words n (map (word_of_token text) ts)) (let z : k + 0 ≡ k = omega arith in z) ∙ e
following_front text k [] (x ∷ front) rest e = absurd (cc)
following_front text k (t ∷ ts) (x ∷ front) rest e =
    ap (λ n. indexed_terminals_of_words n (map (word_of_token text) (drop (length front) ts))) (let z : k + suc (length front) ≡ suc k + length front = omega arith in z)
    ∙ following_front text (suc k) ts front rest (heads e).1

pub none_some : (n : ℕ) → None ≡ Some n → ⊥
none_some n e = cc

-- the tokens of the declaration with an ordinal

token_of : (labels : List ℕ) (d place : ℕ) → d ≡ 7 + place → declaration_token labels d ≡ slice_get labels place
token_of labels d place e =
    ap (λ b. if b then None else slice_get labels (d - 7)) (le-ltb d 7 (omega (arith, e))) ∙ ap (slice_get labels) (let z : d - 7 ≡ place = omega (arith, e) in z)

module _ (m : ParsedModule) (d : ℕ) (left : List (Terminal ℕ)) (t : Taken d 7 (names_in (module_block (tree_of m))) (indexed_terminals_of_words 0 (words_of_text m.source)) left) where
  pub begins_there : declaration_token (declaring_names (identifiers role.DeclaringName (tree_of m))) d ≡ Some (first_bound_token t)
  begins_there =
      let labels = names_in (module_block (tree_of m)) in
      ap (λ (xs : List ℕ). declaration_token xs d) (module_declared (tree_of m))
      ∙ (token_of labels d t.place t.ordinal_is ∙ (t.named_there ∙ ap Some (name_is_first m.source d 7 labels left t)))

  pub ends_there : position_from (λ x. is_semicolon x.kind) (first_bound_token t) (drop (first_bound_token t) m.source.tokens) ≡ Some (last_token t)
  ends_there =
      let front : List (Terminal ℕ) = t.before ++ (WordOrSymbol t.border ∷ []) in
      let inner : List (Terminal ℕ) = lexeme.Name t.name ∷ WordOrSymbol (kind.Symbol symbol.Equal) ∷ t.right in
      let declaration : List (Terminal ℕ) = lexeme.Name t.name ∷ WordOrSymbol (kind.Symbol symbol.Equal) ∷ (t.right ++ (WordOrSymbol (kind.Symbol symbol.Semicolon) ∷ [])) in
      let there = following_front m.source.text 0 m.source.tokens front (declaration ++ t.after) t.whole_is in
      let regrouped : declaration ++ t.after ≡ inner ++ (WordOrSymbol (kind.Symbol symbol.Semicolon) ∷ t.after) =
      ap (λ (l : List (Terminal ℕ)). lexeme.Name t.name ∷ WordOrSymbol (kind.Symbol symbol.Equal) ∷ l) (append_assoc t.right (WordOrSymbol (kind.Symbol symbol.Semicolon) ∷ []) t.after) in
      first_end m.source.text (0 + length front) (first_bound_token t) (drop (length front) m.source.tokens) inner t.after (there ∙ regrouped) (refl, t.no_end)
      ∙ ap Some (let z : length front + suc (suc (length t.right)) ≡ length front + (2 + length t.right) = omega arith in z)

-- the facts about a constant whose declaration is removed

module _ (r : Resolution) (is : IsResolution r) (d : ℕ) (w : Value) (has_value : constant_value_in_module (named_tree_of r.module_read) d ≡ Some w) where
  abbrev spelled : spell (tree_of r.module_read) ≡ indexed_terminals_of_words 0 (words_of_text r.module_read.source)
  spelled = spelled_by_words r.module_read is.parsed

  abbrev taken : Taken d 7 (names_in (module_block (tree_of r.module_read))) (indexed_terminals_of_words 0 (words_of_text r.module_read.source)) (spell (gone_module d (tree_of r.module_read)))
  taken = (late_here r is d w has_value spelled).taken

  abbrev pub name_token : ℕ
  name_token = first_bound_token taken

  abbrev pub end_token : ℕ
  end_token = last_token taken

  pub begins_at : declaration_token (declaring_names (identifiers role.DeclaringName (tree_of r.module_read))) d ≡ Some name_token
  begins_at = begins_there r.module_read d (spell (gone_module d (tree_of r.module_read))) taken

  pub ends_at : position_from (λ x. is_semicolon x.kind) name_token (drop name_token r.module_read.source.tokens) ≡ Some end_token
  ends_at = ends_there r.module_read d (spell (gone_module d (tree_of r.module_read))) taken

  -- The table of declarations has the declaring token.
  pub token_known : declaration_token r.declaration_tokens d ≡ Some name_token
  token_known = ap (λ (xs : List ℕ). declaration_token xs d) is.declaring ∙ begins_at

  pub end_known : (first : ℕ) → Some first ≡ declaration_token r.declaration_tokens d → position_from (λ x. is_semicolon x.kind) first (drop first r.module_read.source.tokens) ≡ Some end_token
  end_known first e = ap (λ n. position_from (λ (x : Token). is_semicolon x.kind) n (drop n r.module_read.source.tokens)) (some_inverse (e ∙ token_known)) ∙ ends_at

  pub declaration_at : MayBeConstantDeclaration r.module_read.source.tokens name_token end_token
  declaration_at = is_declaration r.module_read.source d 7 (names_in (module_block (tree_of r.module_read))) (spell (gone_module d (tree_of r.module_read))) taken

  pub names_at : AreIdentifierIndexes r.module_read.source.tokens (suc end_token) (tokens_of_uses r.module_read d)
  names_at =
      subst (AreIdentifierIndexes r.module_read.source.tokens (suc end_token)) (uses_by_table r is d)
      (uses_are_names r is d w has_value spelled declaration_at.inside)

module _ (r : Resolution) (is : IsResolution r) (c : DeclaredConstant) (constant : IsDeclaredConstant r.module_read c) where
  first_is : name_token r is c.ordinal (scalar_value c.value) constant.has_value ≡ c.first
  first_is = some_inverse (sym (begins_at r is c.ordinal (scalar_value c.value) constant.has_value) ∙ constant.begins)

  last_is : end_token r is c.ordinal (scalar_value c.value) constant.has_value ≡ c.last
  last_is =
      some_inverse (sym (ends_at r is c.ordinal (scalar_value c.value) constant.has_value)
      ∙ (ap (λ n. position_from (λ (x : Token). is_semicolon x.kind) n (drop n r.module_read.source.tokens)) first_is ∙ constant.ends))

  pub is_taken : MayBeConstantDeclaration r.module_read.source.tokens c.first c.last
  is_taken =
      subst (λ n. MayBeConstantDeclaration r.module_read.source.tokens n c.last) first_is
      (subst (MayBeConstantDeclaration r.module_read.source.tokens (name_token r is c.ordinal (scalar_value c.value) constant.has_value)) last_is
      (declaration_at r is c.ordinal (scalar_value c.value) constant.has_value))

  pub are_uses : AreIdentifierIndexes r.module_read.source.tokens (suc c.last) (tokens_of_uses r.module_read c.ordinal)
  are_uses = subst (λ n. AreIdentifierIndexes r.module_read.source.tokens (suc n) (tokens_of_uses r.module_read c.ordinal)) last_is (names_at r is c.ordinal (scalar_value c.value) constant.has_value)

  -- The remaining words spell the inlined module.
  pub left_spelled : UsesAreFactors r.module_read c.ordinal
      → map terminal_of_word (changed_words (changes_with_removal c.first c.last (changes_at_indexes (tokens_of_uses r.module_read c.ordinal) (value_words c.value))) 0 (words_of_text r.module_read.source)) ≡ spell (tree_inlined_everywhere r.module_read c)
  left_spelled alone =
      let m = r.module_read in
      let d = c.ordinal in
      let w = scalar_value c.value in
      let spelled = spelled_by_words m is.parsed in
      let first = name_token r is d w constant.has_value in
      let last = end_token r is d w constant.has_value in
      let inside_it = (declaration_at r is d w constant.has_value).inside in
      let there = words_everywhere r is d w constant.has_value spelled (value_factor c.value) (value_words c.value) (value_spelled c.value) alone (uses_are_names r is d w constant.has_value spelled inside_it) in
      (λ i. map terminal_of_word (changed_words (changes_with_removal (sym first_is i) (sym last_is i) (changes_at_indexes (sym (uses_by_table r is d) i) (value_words c.value))) 0 (words_of_text m.source))) ∙ there
