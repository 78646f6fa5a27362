-- Defines a resolved module: a module with the declaration to which each name is bound, and with
-- the faults of its names. An ordinal is a declaration's number: 0 to 6 for the predeclared names,
-- then 7 upwards for the text's declarations in text order.
-- Rule: docs/LANGUAGE.md, Scopes, Faults of scopes and types, `Undeclared`.
use Rattle.std.specs.Prelude.{◌≡◌, ℕ, ◌-◌, nat_lt, Bool, true, false, not, ◌==◌, List, [], ◌∷◌, ◌++◌, Option, None, slice_get, slice_index_or, if◌then◌else◌, is_some}
use Rattle.std.specs.List.{filter, list_any}
use Rattle.ob0_scan.specs.declared.fault.FaultCode.TheVariants as code
use Rattle.ob0_scan.specs.declared.lexeme.Span.{Span}
use Rattle.ob0_scan.specs.TextWithTokens.{TextWithTokens}
use Rattle.ob0_tree.specs.declared.tree.Role.{Role}
use Rattle.ob0_tree.specs.declared.tree.Role.TheVariants as role
use Rattle.ob0_tree.specs.IdentifierIndexes.{identifier_names}
use Rattle.ob0_tree.specs.Tree.{mapped_tree, occurrences, identifiers}
use Rattle.ob0_tree.specs.ParsedModule.{ParsedModule, TreeMatchesText, tree_of, named_tree_of}
use Rattle.ob0_tree.specs.TokenIndexLeaves.{token_text_at, token_value_at}
use Rattle.ob0_language_names.specs.Names.{Label, Name, naming_by_spelling, as_written, declared}
use Rattle.ob0_language_names.specs.Scopes.{Labelling, label_from_ordinal, numbered, predeclared_count, relabel_module}
use Rattle.ob0_language_names.specs.Occurrences.{labels_of_occurrences}
use Rattle.ob0_language_names.specs.ConsistentNames.{has_consistent_names}
use Rattle.ob0_scope_table.specs.DuplicatesAndEndNames.{declaration_faults}
use Rattle.ob0_scope_table.specs.FaultsAtTokens.{fault_at_token}
use Rattle.ob0_scope_table.specs.Spans as spans
use Rattle.ob0_scope_table.specs.declared.faults.FaultAtTokens.{FaultAtTokens}

-- Returns the ordinal that the table `ordinals` has for the token with the index `token`. Returns
-- None if the token has no ordinal, or if the index is outside the table.
abbrev pub ordinal_in : List (Option ℕ) → ℕ → Option ℕ
ordinal_in ordinals token = slice_index_or ordinals token None

-- returns the label of the identifier at a token: its ordinal in the table, or its spelling if it
-- has no ordinal
abbrev pub label_from_table : TextWithTokens → List (Option ℕ) → ℕ → Label
label_from_table source ordinals token =
    label_from_ordinal naming_by_spelling (ordinal_in ordinals token) (token_text_at source token)

-- returns the declaring names among these identifiers, in the same order
abbrev pub declaring_names : {N : Type 0} → List (Role × N) → List N
declaring_names [] = []
declaring_names ((role.DeclaringName, n) ∷ xs) = n ∷ declaring_names xs
declaring_names ((role.LookedUpName, n) ∷ xs) = declaring_names xs
declaring_names ((role.ClosingName, n) ∷ xs) = declaring_names xs
declaring_names ((role.FieldName, n) ∷ xs) = declaring_names xs
declaring_names ((role.ModuleName, n) ∷ xs) = declaring_names xs

-- Returns the token at which the name with the ordinal `ordinal` is declared, given the tokens of
-- all declaring names in text order. Returns None for a predeclared name, and if no declaration has
-- this ordinal.
abbrev pub declaration_token : List ℕ → ℕ → Option ℕ
declaration_token declaration_tokens ordinal =
    if nat_lt ordinal predeclared_count
    then None
    else slice_get declaration_tokens (ordinal - predeclared_count)

-- Returns whether a label is the label of an unbound name: a spelling instead of an ordinal.
abbrev pub is_unbound : Label → Bool
is_unbound (declared k) = false
is_unbound (as_written x) = true

-- returns whether this is the fault of a duplicate declaration or field, or of a wrong closing name
abbrev pub is_duplicate_or_end_name_fault : FaultAtTokens → Bool
is_duplicate_or_end_name_fault fault =
    elim (fault.code) [ code.Duplicate ↦ true | code.EndName ↦ true | _ ↦ false ]

-- returns whether this is the fault of an undeclared name
abbrev pub is_undeclared_fault : FaultAtTokens → Bool
is_undeclared_fault fault = elim (fault.code) [ code.Undeclared ↦ true | _ ↦ false ]

-- returns the span of a token, in bytes, or an empty span at the text's start if there is no such
-- token
abbrev pub token_span : TextWithTokens → ℕ → Span
token_span source token = spans.token_span source token

-- Returns a fault `Undeclared` for each looked-up name that has no ordinal in the table `ordinals`.
-- The looked-up names are given by their tokens.
abbrev pub undeclared_faults_from_table : List (Option ℕ) → List ℕ → List FaultAtTokens
undeclared_faults_from_table ordinals [] = []
undeclared_faults_from_table ordinals (token ∷ tokens) =
    if is_some (ordinal_in ordinals token) then undeclared_faults_from_table ordinals tokens
    else fault_at_token code.Undeclared token ∷ undeclared_faults_from_table ordinals tokens

-- A module with its resolved names. `ordinals` has an entry for each token: the ordinal (the
-- number) of the identifier's declaration, or None. `declaration_tokens` has the tokens of the
-- declaring names in text order. The first of these names has the ordinal `predeclared_count`.
-- `uses` has the tokens of the looked-up names in text order. `faults` has the faults of names.
pub record Resolution : Type 0 where
  pub module_read : ParsedModule
  pub ordinals : List (Option ℕ)
  pub declaration_tokens : List ℕ
  pub uses : List ℕ
  pub faults : List FaultAtTokens

-- States that the table of ordinals gives each identifier the label that the scope rules give it. A
-- label is the ordinal of a name's declaration, or an identifier's spelling. The tree with the
-- labels according to the table (`label_from_table`) must equal the tree with the labels according
-- to the scope rules (`numbered`).
abbrev pub IsNumberingTable : ParsedModule → List (Option ℕ) → Type 0
IsNumberingTable m ordinals =
    numbered (named_tree_of m) ≡ mapped_tree (label_from_table m.source ordinals) (token_value_at m.source) (tree_of m)

-- Returns a pair: a name's optional ordinal and its spelling. The ordinal is the number of the
-- name's declaration, or None if the name is unbound.
abbrev pub ordinal_and_spelling : Labelling Name (Option ℕ × Name)
ordinal_and_spelling ordinal x = (ordinal, x)

-- Returns a pair of an optional ordinal and the spelling of the identifier at a token. The ordinal
-- is the one that the table `ordinals` has for this token, or None if it has none.
abbrev pub ordinal_and_spelling_at_token : TextWithTokens → List (Option ℕ) → ℕ → Option ℕ × Name
ordinal_and_spelling_at_token source ordinals token = (ordinal_in ordinals token, token_text_at source token)

-- States that the table of ordinals is correct according to the scope rules. It gives each
-- identifier the ordinal of its declaration, or None if the identifier is unbound.
abbrev pub IsBindingTable : ParsedModule → List (Option ℕ) → Type 0
IsBindingTable m ordinals =
    relabel_module naming_by_spelling ordinal_and_spelling (named_tree_of m)
    ≡ mapped_tree (ordinal_and_spelling_at_token m.source ordinals) (token_value_at m.source) (tree_of m)

-- Returns a fault `Undeclared` for each looked-up name whose label says that it is unbound
-- (`is_unbound`). The first list has the tokens of the looked-up names, and the second list has the
-- names' labels in the same order.
abbrev pub undeclared_faults_from_labels : List ℕ → List Label → List FaultAtTokens
undeclared_faults_from_labels [] labels = []
undeclared_faults_from_labels (token ∷ tokens) [] = []
undeclared_faults_from_labels (token ∷ tokens) (label ∷ labels) =
    if is_unbound label
    then fault_at_token code.Undeclared token ∷ undeclared_faults_from_labels tokens labels
    else undeclared_faults_from_labels tokens labels

-- returns a fault for each undeclared name of a module, in text order
abbrev pub undeclared_faults : ParsedModule → List FaultAtTokens
undeclared_faults m = undeclared_faults_from_labels (occurrences (tree_of m)) (labels_of_occurrences (named_tree_of m))

-- States that these are the faults of a module's names. Duplicate declarations and wrong closing
-- names come first (`declaration_faults`). A fault for each undeclared name follows, in text order.
-- The list has a fault `Duplicate` or `EndName` exactly if the module has such a fault: a name
-- declared twice in a block or record, or a wrong closing name.
pub record AreNameFaultsOf (m : ParsedModule) (faults : List FaultAtTokens) : Type 0 where
  pub by_kind : faults ≡ declaration_faults m ++ undeclared_faults m
  pub declared_twice : list_any is_duplicate_or_end_name_fault faults ≡ not (has_consistent_names (named_tree_of m))
  pub undeclared : filter is_undeclared_fault faults ≡ undeclared_faults m

-- returns whether this token is an identifier of the module
abbrev pub is_identifier_token : ParsedModule → ℕ → Bool
is_identifier_token m token = list_any (λ i. i == token) (identifier_names (tree_of m))

-- states that a table has no ordinal at a token that isn't an identifier of the module
abbrev pub OnlyIdentifiersHaveOrdinals : ParsedModule → List (Option ℕ) → Type 0
OnlyIdentifiersHaveOrdinals m ordinals =
    (token : ℕ) → is_identifier_token m token ≡ false → ordinal_in ordinals token ≡ None

-- States that the ordinals, the declaring names, the looked-up names and the faults of a resolved
-- module are correct for its text.
pub record IsResolution (r : Resolution) : Type 0 where
  pub parsed : TreeMatchesText r.module_read
  pub numbering : IsNumberingTable r.module_read r.ordinals
  pub binding : IsBindingTable r.module_read r.ordinals
  pub ordinals_only_at_names : OnlyIdentifiersHaveOrdinals r.module_read r.ordinals
  pub declaring : r.declaration_tokens
      ≡ declaring_names (identifiers role.DeclaringName (tree_of r.module_read))
  pub occurring : r.uses ≡ occurrences (tree_of r.module_read)
  pub reported : AreNameFaultsOf r.module_read r.faults
