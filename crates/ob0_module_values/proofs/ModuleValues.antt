-- Proves that each text that is a module has a parsed module, and that each parsed module has a
-- resolved module.
use Rattle.std.proofs.Common.{◌≡◌, ◌∙◌, ◌≤◌, ◌+◌, ℕ, List, [], ◌∷◌, ◌++◌, Option, None, length, refl, ap, sym, subst, arith, replicate}
use Rattle.std.proofs.lemmas.List.{length-append}
use Rattle.ob0_scan.specs.declared.lexeme.Token.{Token}
use Rattle.ob0_scan.specs.TextWithTokens.{IsScan, TextWithTokens}
use Rattle.ob0_tree.specs.declared.tree.ModuleTree.{ModuleTree}
use Rattle.ob0_tree.specs.Terminals.{EndOfText}
use Rattle.ob0_tree.specs.Module.{IsModuleWithTree, max_nesting, terminals_of_text}
use Rattle.ob0_tree.specs.ParsedModule.{TreeMatchesText, ParsedModule, named_tree_of, parsed_module, tree_of}
use Rattle.ob0_tree.specs.TokenIndexLeaves.{indexed_terminals, indexed_terminals_from, token_text_at, token_value_at}
use Rattle.ob0_tree.specs.Tree.{Tree, module_text, nesting, spell}
use Rattle.ob0_tree.proofs.Indexed.{indexed, nesting_indexed, reindexed, reindexed-append, spell_indexed}
use Rattle.ob0_tree_values.proofs.TreeValues.{tree_made}
use Rattle.ob0_parse.proofs.Whole.{indexes_again, module_spelled, texts}
use Rattle.ob0_scope_table.proofs.FewTokens.{few_tokens}
use Rattle.ob0_scope_table.specs.DuplicatesAndEndNames.{declaration_faults}
use Rattle.ob0_scope_table.specs.Resolution.{IsResolution, Resolution, undeclared_faults_from_table}
use Rattle.ob0_scope_numbering.specs.MarkWalk.{initial_walk_state}
use Rattle.ob0_scope_numbering.specs.IdentifierWalk.{visit_module}
use Rattle.ob0_scope_numbering.specs.OrdinalMarks.{table_with_marks}
use Rattle.ob0_scope_numbering.specs.IdentifierSpellings.{original_spellings}
use Rattle.ob0_scope.proofs.Made.{resolution_made}

abbrev pub OneTree : Type 0
OneTree = (text : TextWithTokens) (a b : Tree (List ℕ) module_text) → IsModuleWithTree text a → IsModuleWithTree text b → a ≡ b

-- A parsed module of the text `s`, whose tree is `t`.
pub record ParsedOf (s : TextWithTokens) (t : Tree (List ℕ) module_text) : Type 0 where
  pub module_read : ParsedModule
  pub source : module_read.source ≡ s
  pub parsed : TreeMatchesText module_read
  pub tree : named_tree_of module_read ≡ t

lexemes_counted : (i : ℕ) (ts : List Token) → length (indexed_terminals_from i ts) ≡ length ts + 1
lexemes_counted i [] = refl
lexemes_counted i (t ∷ ts) = omega (arith, lexemes_counted (i + 1) ts)

places_of : (s : TextWithTokens) (t : Tree (List ℕ) module_text) → terminals_of_text s ≡ spell t → spell (indexed 0 t) ++ (EndOfText ∷ []) ≡ indexed_terminals s.tokens
places_of s t spelled =
    ap (λ z. z ++ (EndOfText ∷ [])) (spell_indexed 0 t)
    ∙ (sym (reindexed-append 0 (spell t) (EndOfText ∷ []))
    ∙ (ap (λ z. reindexed 0 (z ++ (EndOfText ∷ []))) (sym spelled)
    ∙ (ap (reindexed 0) (sym (texts s)) ∙ indexes_again (token_text_at s) (token_value_at s) s.tokens 0)))

few_places : (s : TextWithTokens) (t : Tree (List ℕ) module_text) → IsScan s → terminals_of_text s ≡ spell t → length (spell (indexed 0 t)) ≤ 1048576
few_places s t scan spelled =
    omega (
      arith,
      few_tokens s scan,
      lexemes_counted 0 s.tokens,
      ap (λ z. length z) (places_of s t spelled),
      length-append (spell (indexed 0 t)) (EndOfText ∷ []),
    )

pub parsed_of : OneTree → (s : TextWithTokens) → IsScan s → (t : Tree (List ℕ) module_text) → IsModuleWithTree s t → ParsedOf s t
parsed_of tree_is_unique s scan t h =
    let made = tree_made (indexed 0 t) (few_places s t scan h.spelled) in
    let x : ModuleTree = made.0 in
    let m : ParsedModule = parsed_module s x in
    let same : tree_of m ≡ indexed 0 t = made.1 in
    let places = ap (λ u. spell u ++ (EndOfText ∷ [])) same ∙ places_of s t h.spelled in
    let shallow = subst (λ n. n ≤ max_nesting) (sym (ap nesting same ∙ nesting_indexed 0 t)) h.shallow in
    let found = module_spelled s (tree_of m) h.short shallow places in
    record {
      module_read = m;
      source = refl;
      parsed = record { module_of = found; places = places };
      tree = tree_is_unique s (named_tree_of m) t found h;
    }

-- Returns the resolved module of a parsed module, in which the names are bound.
pub resolution_of : (m : ParsedModule) → TreeMatchesText m → (r : Resolution) × IsResolution r × (r.module_read ≡ m)
resolution_of m parsed =
    let visit = visit_module (tree_of m) (initial_walk_state (original_spellings m.source)) in
    let ordinals = table_with_marks (replicate (length m.source.tokens) None) visit.marks in
    let faults = declaration_faults m ++ undeclared_faults_from_table ordinals visit.uses in (
      record { module_read = m; ordinals = ordinals; declaration_tokens = visit.declaration_tokens; uses = visit.uses; faults = faults },
      resolution_made m visit ordinals visit.declaration_tokens visit.uses (declaration_faults m) faults parsed refl refl refl refl refl refl,
      refl,
    )
