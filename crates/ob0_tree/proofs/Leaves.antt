-- Proves that a tree's identifiers are the names that the tree spells, in the same order. The role
-- of the names in a list doesn't matter. So the identifiers of a parsed module are all identifiers
-- of its text. Their indexes ascend.
use Rattle.std.proofs.Common.{◌≡◌, ℕ, ◌+◌, ◌≤◌, ◌<◌, Some, None, List, [], ◌∷◌, ◌++◌, length, refl, sym, ◌∙◌, ap, arith, append-nil, subst, zero-add, append_assoc, slice_index_or}
use Rattle.std.proofs.lemmas.List.{map-append}
use Rattle.ob0_scan.specs.declared.lexeme.TokenKind.{TokenKind}
use Rattle.ob0_scan.specs.declared.lexeme.TokenKind.TheVariants as kind
use Rattle.ob0_scan.specs.declared.lexeme.Token.{Token}
use Rattle.ob0_tree.specs.Terminals.{Terminal, Name, Number, WordOrSymbol, EndOfText}
use Rattle.ob0_tree.specs.TokenIndexLeaves.{indexed_terminal, indexed_terminals_from}
use Rattle.ob0_tree.specs.ParsedModule.{ParsedModule, TreeMatchesText, tree_of}
use Rattle.ob0_tree.proofs.Occurring.{looked_up_only, looked_up-occurrences}
use Rattle.ob0_tree.specs.IdentifierIndexes.{AreAscendingWithin, names_without_roles, identifier_names, index_if_identifier, identifier_indexes_from, AreIdentifierTokens}
use Rattle.ob0_tree.specs.declared.tree.Role.{Role}
use Rattle.ob0_tree.specs.declared.tree.Role.TheVariants as role
use Rattle.ob0_tree.specs.Tree.{occurrences, Sort, Tree, spell, identifiers, none, one, end, more, compares, relates, sum, adds, product, multiplies, designator, integer, parenthesised, negation, field, index, empty, assigns, calls, branches, while_loop, repeat_loop, no_arguments, some_arguments, comma_then_argument, runs, semicolon_then_statement, elsif_branch, else_branch, listed, comma_then_name, named_type, array_type, record_type, no_fields, some_fields, semicolon_then_fields, no_formals, some_formals, value_section, variable_section, semicolon_then_section, declares_constant, declares_const_section, declares_type, declares_type_section, declares_variable, declares_var_section, declares_procedure, declares, begins, forms_block, forms_module}

-- Returns the names among tokens, in order.
abbrev pub lexeme_names : {N : Type 0} → List (Terminal N) → List N
lexeme_names [] = []
lexeme_names (Name n ∷ xs) = n ∷ lexeme_names xs
lexeme_names (Number n ∷ xs) = lexeme_names xs
lexeme_names (WordOrSymbol k ∷ xs) = lexeme_names xs
lexeme_names (EndOfText ∷ xs) = lexeme_names xs

pub lexeme_names-append : {N : Type 0} (xs ys : List (Terminal N)) → lexeme_names (xs ++ ys) ≡ lexeme_names xs ++ lexeme_names ys
lexeme_names-append [] ys = refl
lexeme_names-append (Name n ∷ xs) ys = ap (λ z. n ∷ z) (lexeme_names-append xs ys)
lexeme_names-append (Number n ∷ xs) ys = lexeme_names-append xs ys
lexeme_names-append (WordOrSymbol k ∷ xs) ys = lexeme_names-append xs ys
lexeme_names-append (EndOfText ∷ xs) ys = lexeme_names-append xs ys

-- The identifiers of a tree are the names that it spells, whatever the role of the names in a list
-- is.
pub leaves_spelled : {N : Type 0} {s : Sort} (r : Role) (t : Tree N s) → names_without_roles (identifiers r t) ≡ lexeme_names (spell t)
leaves_spelled r none = refl
leaves_spelled r (one t) = simp (leaves_spelled r t)
leaves_spelled r end = refl
leaves_spelled r (more t ts) = simp (lexeme_names-append, map-append, leaves_spelled r t, leaves_spelled r ts)
leaves_spelled r (compares left compared) = simp (lexeme_names-append, map-append, leaves_spelled r left, leaves_spelled r compared)
leaves_spelled r (relates relation right) = simp (leaves_spelled r right)
leaves_spelled r (sum None first terms) = simp (lexeme_names-append, map-append, leaves_spelled r first, leaves_spelled r terms)
leaves_spelled r (sum (Some s) first terms) = simp (lexeme_names-append, map-append, leaves_spelled r first, leaves_spelled r terms)
leaves_spelled r (adds operator t) = simp (leaves_spelled r t)
leaves_spelled r (product first factors) = simp (lexeme_names-append, map-append, leaves_spelled r first, leaves_spelled r factors)
leaves_spelled r (multiplies operator f) = simp (leaves_spelled r f)
leaves_spelled r (designator name selectors) = simp (leaves_spelled r selectors)
leaves_spelled r (integer n) = refl
leaves_spelled r (parenthesised e) = simp (lexeme_names-append, append-nil, leaves_spelled r e)
leaves_spelled r (negation f) = simp (leaves_spelled r f)
leaves_spelled r (field name) = refl
leaves_spelled r (index e) = simp (lexeme_names-append, append-nil, leaves_spelled r e)
leaves_spelled r empty = refl
leaves_spelled r (assigns name selectors e) = simp (lexeme_names-append, map-append, leaves_spelled r selectors, leaves_spelled r e)
leaves_spelled r (calls name args) = simp (leaves_spelled r args)
leaves_spelled r (branches condition s elsifs rest) = simp (lexeme_names-append, map-append, append-nil, leaves_spelled r condition, leaves_spelled r s, leaves_spelled r elsifs, leaves_spelled r rest)
leaves_spelled r (while_loop condition s) = simp (lexeme_names-append, map-append, append-nil, leaves_spelled r condition, leaves_spelled r s)
leaves_spelled r (repeat_loop s condition) = simp (lexeme_names-append, map-append, leaves_spelled r s, leaves_spelled r condition)
leaves_spelled r no_arguments = refl
leaves_spelled r (some_arguments e es) = simp (lexeme_names-append, map-append, append-nil, leaves_spelled r e, leaves_spelled r es)
leaves_spelled r (comma_then_argument e) = simp (leaves_spelled r e)
leaves_spelled r (runs first statements) = simp (lexeme_names-append, map-append, leaves_spelled r first, leaves_spelled r statements)
leaves_spelled r (semicolon_then_statement s) = simp (leaves_spelled r s)
leaves_spelled r (elsif_branch condition s) = simp (lexeme_names-append, map-append, leaves_spelled r condition, leaves_spelled r s)
leaves_spelled r (else_branch s) = simp (leaves_spelled r s)
leaves_spelled r (listed name others) = simp (leaves_spelled r others)
leaves_spelled r (comma_then_name name) = refl
leaves_spelled r (named_type name) = refl
leaves_spelled r (array_type size t) = simp (lexeme_names-append, map-append, leaves_spelled r size, leaves_spelled r t)
leaves_spelled r (record_type first others) = simp (lexeme_names-append, map-append, append-nil, leaves_spelled r first, leaves_spelled r others)
leaves_spelled r no_fields = refl
leaves_spelled r (some_fields ns t) = simp (lexeme_names-append, map-append, leaves_spelled role.FieldName ns, leaves_spelled r t)
leaves_spelled r (semicolon_then_fields f) = simp (leaves_spelled r f)
leaves_spelled r no_formals = refl
leaves_spelled r (some_formals first others) = simp (lexeme_names-append, map-append, append-nil, leaves_spelled r first, leaves_spelled r others)
leaves_spelled r (value_section ns t) = simp (lexeme_names-append, map-append, leaves_spelled role.DeclaringName ns, leaves_spelled r t)
leaves_spelled r (variable_section ns t) = simp (lexeme_names-append, map-append, leaves_spelled role.DeclaringName ns, leaves_spelled r t)
leaves_spelled r (semicolon_then_section s) = simp (leaves_spelled r s)
leaves_spelled r (declares_constant name e) = simp (lexeme_names-append, append-nil, leaves_spelled r e)
leaves_spelled r (declares_const_section cs) = simp (leaves_spelled r cs)
leaves_spelled r (declares_type name t) = simp (lexeme_names-append, append-nil, leaves_spelled r t)
leaves_spelled r (declares_type_section ts) = simp (leaves_spelled r ts)
leaves_spelled r (declares_variable ns t) = simp (lexeme_names-append, map-append, append-nil, leaves_spelled role.DeclaringName ns, leaves_spelled r t)
leaves_spelled r (declares_var_section vs) = simp (leaves_spelled r vs)
leaves_spelled r (declares_procedure name fs b closing) = simp (lexeme_names-append, map-append, leaves_spelled r fs, leaves_spelled r b)
leaves_spelled r (declares cs ts vs ps) = simp (lexeme_names-append, map-append, leaves_spelled r cs, leaves_spelled r ts, leaves_spelled r vs, leaves_spelled r ps)
leaves_spelled r (begins s) = simp (leaves_spelled r s)
leaves_spelled r (forms_block ds b) = simp (lexeme_names-append, map-append, leaves_spelled r ds, leaves_spelled r b)
leaves_spelled r (forms_module name b closing) = simp (lexeme_names-append, map-append, leaves_spelled r b)

names_from : (ts : List Token) (i : ℕ) → lexeme_names (indexed_terminals_from i ts) ≡ identifier_indexes_from i ts
names_from [] i = refl
names_from (t ∷ ts) i = name_first t.kind i (indexed_terminals_from (i + 1) ts) ∙ ap (λ z. index_if_identifier i t.kind ++ z) (names_from ts (i + 1))
  where
    name_first : (k : TokenKind) (i : ℕ) (xs : List (Terminal ℕ)) → lexeme_names (indexed_terminal i k ∷ xs) ≡ index_if_identifier i k ++ lexeme_names xs
    name_first kind.Identifier i xs = refl
    name_first (kind.Integer v) i xs = refl
    name_first _ i xs = refl

-- The identifiers of a module's tree are all identifiers of its text, in order.
pub leaves_parsed : (m : ParsedModule) → TreeMatchesText m → identifier_names (tree_of m) ≡ identifier_indexes_from 0 m.source.tokens
leaves_parsed m p =
    leaves_spelled role.DeclaringName (tree_of m)
    ∙ (sym (append-nil (lexeme_names (spell (tree_of m))))
    ∙ (sym (lexeme_names-append (spell (tree_of m)) (EndOfText ∷ []))
    ∙ (ap lexeme_names p.places ∙ names_from m.source.tokens 0)))

pub ascending_bounds : (low : ℕ) (xs : List ℕ) (high : ℕ) → AreAscendingWithin low xs high → low ≤ high
ascending_bounds low [] high p = p
ascending_bounds low (x ∷ xs) high p = let h = ascending_bounds (x + 1) xs high p.1 in omega (arith, p.0)

pub ascending_lower : (less low : ℕ) (xs : List ℕ) (high : ℕ) → less ≤ low → AreAscendingWithin low xs high → AreAscendingWithin less xs high
ascending_lower less low [] high h p = omega (arith, h, p)
ascending_lower less low (x ∷ xs) high h p = (omega (arith, h, p.0), p.1)

pub ascending_higher : (low : ℕ) (xs : List ℕ) (high above : ℕ) → high ≤ above → AreAscendingWithin low xs high → AreAscendingWithin low xs above
ascending_higher low [] high above h p = omega (arith, h, p)
ascending_higher low (x ∷ xs) high above h p = (p.0, ascending_higher (x + 1) xs high above h p.1)

identifiers_ascend : (ts : List Token) (i : ℕ) → AreAscendingWithin i (identifier_indexes_from i ts) (i + length ts)
identifiers_ascend [] i = omega arith
identifiers_ascend (t ∷ ts) i =
    let others = ascending_higher (i + 1) (identifier_indexes_from (i + 1) ts) (i + 1 + length ts) (i + length (t ∷ ts)) (omega arith) (identifiers_ascend ts (i + 1)) in
    first t.kind i (identifier_indexes_from (i + 1) ts) (i + length (t ∷ ts)) others
  where
    first : (k : TokenKind) (i : ℕ) (xs : List ℕ) (high : ℕ) → AreAscendingWithin (i + 1) xs high → AreAscendingWithin i (index_if_identifier i k ++ xs) high
    first kind.Identifier i xs high p = (omega arith, p)
    first (kind.Integer v) i xs high p = ascending_lower i (i + 1) xs high (omega arith) p
    first _ i xs high p = ascending_lower i (i + 1) xs high (omega arith) p

-- The identifiers of a module's tree ascend.
pub leaves_ascend : (m : ParsedModule) → TreeMatchesText m → AreAscendingWithin 0 (identifier_names (tree_of m)) (length m.source.tokens)
leaves_ascend m p = subst (λ l. AreAscendingWithin 0 l (length m.source.tokens)) (sym (leaves_parsed m p)) (subst (λ n. AreAscendingWithin 0 (identifier_indexes_from 0 m.source.tokens) n) (zero-add (length m.source.tokens)) (identifiers_ascend m.source.tokens 0))

after_front : (front back : List Token) (t d : Token) → slice_index_or (front ++ (t ∷ back)) (length front) d ≡ t
after_front [] back t d = refl
after_front (x ∷ front) back t d = after_front front back t d

length_following : (front back : List Token) (t : Token) → length front < length (front ++ (t ∷ back))
length_following [] back t = omega arith
length_following (x ∷ front) back t = let h = length_following front back t in omega arith

length_snoc : (xs : List Token) (x : Token) → length xs + 1 ≡ length (xs ++ (x ∷ []))
length_snoc [] x = refl
length_snoc (y ∷ xs) x = let h = length_snoc xs x in omega arith

are_identifiers_from : (all front back : List Token) → all ≡ front ++ back → (i : ℕ) → i ≡ length front → AreIdentifierTokens all (identifier_indexes_from i back)
are_identifiers_from all front [] e i at = tt
are_identifiers_from all front (t ∷ back) e i at =
    let others = are_identifiers_from all (front ++ (t ∷ [])) back (e ∙ sym (append_assoc front (t ∷ []) back)) (i + 1) (ap (λ n. n + 1) at ∙ length_snoc front t) in
    let within : i < length all = subst (λ n. n < length all) (sym at) (subst (λ l. length front < length l) (sym e) (length_following front back t)) in
    let at_index : (d : Token) → slice_index_or all i d ≡ t = λ d. ap (λ l. slice_index_or l i d) e ∙ (ap (λ n. slice_index_or (front ++ (t ∷ back)) n d) at ∙ after_front front back t d) in
    first all i t t.kind refl within at_index (identifier_indexes_from (i + 1) back) others
  where
    first : (all : List Token) (i : ℕ) (t : Token) (k : TokenKind) → t.kind ≡ k → i < length all → ((d : Token) → slice_index_or all i d ≡ t) → (xs : List ℕ) → AreIdentifierTokens all xs → AreIdentifierTokens all (index_if_identifier i k ++ xs)
    first all i t kind.Identifier e within at_index xs p = ((within, λ d. ap (λ u. u.kind) (at_index d) ∙ e), p)
    first all i t (kind.Integer v) e within at_index xs p = p
    first all i t _ e within at_index xs p = p

-- Each identifier of a module's tree is the index of an identifier token.
pub leaves_are_identifiers : (m : ParsedModule) → TreeMatchesText m → AreIdentifierTokens m.source.tokens (identifier_names (tree_of m))
leaves_are_identifiers m p =
    subst (AreIdentifierTokens m.source.tokens) (sym (leaves_parsed m p)) (are_identifiers_from m.source.tokens [] m.source.tokens refl 0 refl)

ascending_looked_up : (low : ℕ) (xs : List (Role × ℕ)) (high : ℕ) → AreAscendingWithin low (names_without_roles xs) high → AreAscendingWithin low (looked_up_only xs) high
ascending_looked_up low [] high p = p
ascending_looked_up low ((role.LookedUpName, n) ∷ xs) high p = (p.0, ascending_looked_up (n + 1) xs high p.1)
ascending_looked_up low ((role.DeclaringName, n) ∷ xs) high p = ascending_lower low (n + 1) (looked_up_only xs) high (omega (arith, p.0)) (ascending_looked_up (n + 1) xs high p.1)
ascending_looked_up low ((role.ClosingName, n) ∷ xs) high p = ascending_lower low (n + 1) (looked_up_only xs) high (omega (arith, p.0)) (ascending_looked_up (n + 1) xs high p.1)
ascending_looked_up low ((role.FieldName, n) ∷ xs) high p = ascending_lower low (n + 1) (looked_up_only xs) high (omega (arith, p.0)) (ascending_looked_up (n + 1) xs high p.1)
ascending_looked_up low ((role.ModuleName, n) ∷ xs) high p = ascending_lower low (n + 1) (looked_up_only xs) high (omega (arith, p.0)) (ascending_looked_up (n + 1) xs high p.1)

-- If the identifiers of a tree ascend, the ones that are looked up ascend as well.
pub occurrences_ascend : {s : Sort} (t : Tree ℕ s) (low high : ℕ) → AreAscendingWithin low (identifier_names t) high → AreAscendingWithin low (occurrences t) high
occurrences_ascend t low high p =
    subst (λ l. AreAscendingWithin low l high) (looked_up-occurrences role.DeclaringName (λ n xs. refl) t) (ascending_looked_up low (identifiers role.DeclaringName t) high p)
