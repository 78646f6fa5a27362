-- Defines the syntax trees of the language: one type `Tree`, indexed by a sort for each nonterminal
-- of the grammar.
-- Rule: docs/LANGUAGE.md, Grammar 1, Nesting and limits 1.
use Rattle.std.specs.Prelude.{ℕ, ◌+◌, Option, List, [], ◌∷◌, ◌++◌, max}
use Rattle.ob0_scan.specs.declared.lexeme.TokenKind.{TokenKind}
use Rattle.ob0_scan.specs.declared.lexeme.TokenKind.TheVariants as kind
use Rattle.ob0_scan.specs.declared.lexeme.ReservedWord.TheVariants as reserved
use Rattle.ob0_scan.specs.declared.lexeme.Symbol.TheVariants as symbol
use Rattle.ob0_tree.specs.declared.tree.Relation.{Relation}
use Rattle.ob0_tree.specs.declared.tree.Sign.{Sign}
use Rattle.ob0_tree.specs.declared.tree.AddOperator.{AddOperator}
use Rattle.ob0_tree.specs.declared.tree.MultiplyOperator.{MultiplyOperator}
use Rattle.ob0_tree.specs.declared.tree.Role.{Role}
use Rattle.ob0_tree.specs.declared.tree.Role.TheVariants as role
use Rattle.ob0_tree.specs.Terminals.{Terminal, Name, Number, WordOrSymbol, relation_token_kind, sign_tokens, add_operator_token_kind, multiply_operator_token_kind}

-- The kinds of items. An item is a part of a production of the grammar that may be repeated or
-- omitted, such as a selector or an ELSE part.
pub data GrammarItem : Type 0 where
  selector : GrammarItem
  multiplier : GrammarItem
  addend : GrammarItem
  comparison : GrammarItem
  arguments : GrammarItem
  argument_after_comma : GrammarItem
  statement_after_semicolon : GrammarItem
  elsif_part : GrammarItem
  else_part : GrammarItem
  name_after_comma : GrammarItem
  fields_after_semicolon : GrammarItem
  formals : GrammarItem
  section_after_semicolon : GrammarItem
  constant : GrammarItem
  constants : GrammarItem
  type_definition : GrammarItem
  type_definitions : GrammarItem
  variable : GrammarItem
  variables : GrammarItem
  procedure : GrammarItem
  body : GrammarItem

-- The sort of a tree. A tree is one item, a list of items of the same kind, an optional item, or a
-- nonterminal of the grammar. Nonterminals are, for example, expressions and blocks.
pub data Sort : Type 0 where
  item : GrammarItem → Sort
  items : GrammarItem → Sort
  maybe : GrammarItem → Sort
  expression : Sort
  simple : Sort
  term : Sort
  factor : Sort
  statement : Sort
  sequence : Sort
  names : Sort
  written_type : Sort
  fields : Sort
  section : Sort
  declarations : Sort
  block : Sort
  module_text : Sort

-- A syntax tree of the given sort. Each identifier in the tree is a value of the type `N`: its text
-- or the index of its token. Each integer is a number: its value or the index of its token.
pub data Tree (N : Type 0) : Sort → Type 0 where
  none : {i : GrammarItem} → Tree N (maybe i)
  one : {i : GrammarItem} → Tree N (item i) → Tree N (maybe i)
  end : {i : GrammarItem} → Tree N (items i)
  more : {i : GrammarItem} → Tree N (item i) → Tree N (items i) → Tree N (items i)
  compares : Tree N simple → Tree N (maybe comparison) → Tree N expression
  relates : Relation → Tree N simple → Tree N (item comparison)
  sum : Option Sign → Tree N term → Tree N (items addend) → Tree N simple
  adds : AddOperator → Tree N term → Tree N (item addend)
  product : Tree N factor → Tree N (items multiplier) → Tree N term
  multiplies : MultiplyOperator → Tree N factor → Tree N (item multiplier)
  designator : N → Tree N (items selector) → Tree N factor
  integer : ℕ → Tree N factor
  parenthesised : Tree N expression → Tree N factor
  negation : Tree N factor → Tree N factor
  field : N → Tree N (item selector)
  index : Tree N expression → Tree N (item selector)
  empty : Tree N statement
  assigns : N → Tree N (items selector) → Tree N expression → Tree N statement
  calls : N → Tree N (maybe arguments) → Tree N statement
  branches : Tree N expression
      → Tree N sequence
      → Tree N (items elsif_part)
      → Tree N (maybe else_part)
      → Tree N statement
  while_loop : Tree N expression → Tree N sequence → Tree N statement
  repeat_loop : Tree N sequence → Tree N expression → Tree N statement
  no_arguments : Tree N (item arguments)
  some_arguments : Tree N expression → Tree N (items argument_after_comma) → Tree N (item arguments)
  comma_then_argument : Tree N expression → Tree N (item argument_after_comma)
  runs : Tree N statement → Tree N (items statement_after_semicolon) → Tree N sequence
  semicolon_then_statement : Tree N statement → Tree N (item statement_after_semicolon)
  elsif_branch : Tree N expression → Tree N sequence → Tree N (item elsif_part)
  else_branch : Tree N sequence → Tree N (item else_part)
  listed : N → Tree N (items name_after_comma) → Tree N names
  comma_then_name : N → Tree N (item name_after_comma)
  named_type : N → Tree N written_type
  array_type : Tree N expression → Tree N written_type → Tree N written_type
  record_type : Tree N fields → Tree N (items fields_after_semicolon) → Tree N written_type
  no_fields : Tree N fields
  some_fields : Tree N names → Tree N written_type → Tree N fields
  semicolon_then_fields : Tree N fields → Tree N (item fields_after_semicolon)
  no_formals : Tree N (item formals)
  some_formals : Tree N section → Tree N (items section_after_semicolon) → Tree N (item formals)
  value_section : Tree N names → Tree N written_type → Tree N section
  variable_section : Tree N names → Tree N written_type → Tree N section
  semicolon_then_section : Tree N section → Tree N (item section_after_semicolon)
  declares_constant : N → Tree N expression → Tree N (item constant)
  declares_const_section : Tree N (items constant) → Tree N (item constants)
  declares_type : N → Tree N written_type → Tree N (item type_definition)
  declares_type_section : Tree N (items type_definition) → Tree N (item type_definitions)
  declares_variable : Tree N names → Tree N written_type → Tree N (item variable)
  declares_var_section : Tree N (items variable) → Tree N (item variables)
  declares_procedure : N → Tree N (maybe formals) → Tree N block → N → Tree N (item procedure)
  declares : Tree N (maybe constants)
      → Tree N (maybe type_definitions)
      → Tree N (maybe variables)
      → Tree N (items procedure)
      → Tree N declarations
  begins : Tree N sequence → Tree N (item body)
  forms_block : Tree N declarations → Tree N (maybe body) → Tree N block
  forms_module : N → Tree N block → N → Tree N module_text

-- Returns a list of one token: the reserved word or symbol of the kind `k`.
abbrev pub single_token_list : {N : Type 0} → TokenKind → List (Terminal N)
single_token_list k = WordOrSymbol k ∷ []

-- Returns the tokens that a tree spells, in text order. The cases follow the productions of the
-- grammar.
abbrev pub spell : {N : Type 0} {s : Sort} → Tree N s → List (Terminal N)
spell none = []
spell (one t) = spell t
spell end = []
spell (more t ts) = spell t ++ spell ts
spell (compares left compared) = spell left ++ spell compared
spell (relates relation right) = WordOrSymbol (relation_token_kind relation) ∷ spell right
spell (sum sign first terms) = sign_tokens sign ++ (spell first ++ spell terms)
spell (adds operator t) = WordOrSymbol (add_operator_token_kind operator) ∷ spell t
spell (product first factors) = spell first ++ spell factors
spell (multiplies operator f) = WordOrSymbol (multiply_operator_token_kind operator) ∷ spell f
spell (designator name selectors) = Name name ∷ spell selectors
spell (integer n) = Number n ∷ []
spell (parenthesised e) =
    WordOrSymbol (kind.Symbol symbol.LeftParen) ∷ (spell e ++ single_token_list (kind.Symbol symbol.RightParen))
spell (negation f) = WordOrSymbol (kind.Symbol symbol.Not) ∷ spell f
spell (field name) = WordOrSymbol (kind.Symbol symbol.Dot) ∷ Name name ∷ []
spell (index e) =
    WordOrSymbol (kind.Symbol symbol.LeftBracket) ∷ (spell e ++ single_token_list (kind.Symbol symbol.RightBracket))
spell empty = []
spell (assigns name selectors e) =
    Name name ∷ (spell selectors ++ (WordOrSymbol (kind.Symbol symbol.Becomes) ∷ spell e))
spell (calls name args) = Name name ∷ spell args
spell (branches condition s elsifs rest) =
    WordOrSymbol (kind.ReservedWord reserved.If)
    ∷ (spell condition
    ++ (WordOrSymbol (kind.ReservedWord reserved.Then)
    ∷ (spell s ++ (spell elsifs ++ (spell rest ++ single_token_list (kind.ReservedWord reserved.End))))))
spell (while_loop condition s) =
    WordOrSymbol (kind.ReservedWord reserved.While)
    ∷ (spell condition
    ++ (WordOrSymbol (kind.ReservedWord reserved.Do) ∷ (spell s ++ single_token_list (kind.ReservedWord reserved.End))))
spell (repeat_loop s condition) =
    WordOrSymbol (kind.ReservedWord reserved.Repeat)
    ∷ (spell s ++ (WordOrSymbol (kind.ReservedWord reserved.Until) ∷ spell condition))
spell no_arguments = WordOrSymbol (kind.Symbol symbol.LeftParen) ∷ single_token_list (kind.Symbol symbol.RightParen)
spell (some_arguments e es) =
    WordOrSymbol (kind.Symbol symbol.LeftParen)
    ∷ (spell e ++ (spell es ++ single_token_list (kind.Symbol symbol.RightParen)))
spell (comma_then_argument e) = WordOrSymbol (kind.Symbol symbol.Comma) ∷ spell e
spell (runs first statements) = spell first ++ spell statements
spell (semicolon_then_statement s) = WordOrSymbol (kind.Symbol symbol.Semicolon) ∷ spell s
spell (elsif_branch condition s) =
    WordOrSymbol (kind.ReservedWord reserved.Elsif)
    ∷ (spell condition ++ (WordOrSymbol (kind.ReservedWord reserved.Then) ∷ spell s))
spell (else_branch s) = WordOrSymbol (kind.ReservedWord reserved.Else) ∷ spell s
spell (listed name others) = Name name ∷ spell others
spell (comma_then_name name) = WordOrSymbol (kind.Symbol symbol.Comma) ∷ Name name ∷ []
spell (named_type name) = Name name ∷ []
spell (array_type size t) =
    WordOrSymbol (kind.ReservedWord reserved.Array)
    ∷ (spell size ++ (WordOrSymbol (kind.ReservedWord reserved.Of) ∷ spell t))
spell (record_type first others) =
    WordOrSymbol (kind.ReservedWord reserved.Record)
    ∷ (spell first ++ (spell others ++ single_token_list (kind.ReservedWord reserved.End)))
spell no_fields = []
spell (some_fields ns t) = spell ns ++ (WordOrSymbol (kind.Symbol symbol.Colon) ∷ spell t)
spell (semicolon_then_fields f) = WordOrSymbol (kind.Symbol symbol.Semicolon) ∷ spell f
spell no_formals = WordOrSymbol (kind.Symbol symbol.LeftParen) ∷ single_token_list (kind.Symbol symbol.RightParen)
spell (some_formals first others) =
    WordOrSymbol (kind.Symbol symbol.LeftParen)
    ∷ (spell first ++ (spell others ++ single_token_list (kind.Symbol symbol.RightParen)))
spell (value_section ns t) = spell ns ++ (WordOrSymbol (kind.Symbol symbol.Colon) ∷ spell t)
spell (variable_section ns t) =
    WordOrSymbol (kind.ReservedWord reserved.Var) ∷ (spell ns ++ (WordOrSymbol (kind.Symbol symbol.Colon) ∷ spell t))
spell (semicolon_then_section s) = WordOrSymbol (kind.Symbol symbol.Semicolon) ∷ spell s
spell (declares_constant name e) =
    Name name ∷ WordOrSymbol (kind.Symbol symbol.Equal) ∷ (spell e ++ single_token_list (kind.Symbol symbol.Semicolon))
spell (declares_const_section cs) = WordOrSymbol (kind.ReservedWord reserved.Const) ∷ spell cs
spell (declares_type name t) =
    Name name ∷ WordOrSymbol (kind.Symbol symbol.Equal) ∷ (spell t ++ single_token_list (kind.Symbol symbol.Semicolon))
spell (declares_type_section ts) = WordOrSymbol (kind.ReservedWord reserved.Type) ∷ spell ts
spell (declares_variable ns t) =
    spell ns ++ (WordOrSymbol (kind.Symbol symbol.Colon) ∷ (spell t ++ single_token_list (kind.Symbol symbol.Semicolon)))
spell (declares_var_section vs) = WordOrSymbol (kind.ReservedWord reserved.Var) ∷ spell vs
spell (declares_procedure name fs b closing) =
    WordOrSymbol (kind.ReservedWord reserved.Procedure)
    ∷ Name name
    ∷ (spell fs
    ++ (WordOrSymbol (kind.Symbol symbol.Semicolon)
    ∷ (spell b
    ++ (WordOrSymbol (kind.ReservedWord reserved.End)
    ∷ Name closing
    ∷ single_token_list (kind.Symbol symbol.Semicolon)))))
spell (declares cs ts vs ps) = spell cs ++ (spell ts ++ (spell vs ++ spell ps))
spell (begins s) = WordOrSymbol (kind.ReservedWord reserved.Begin) ∷ spell s
spell (forms_block ds b) = spell ds ++ spell b
spell (forms_module name b closing) =
    WordOrSymbol (kind.ReservedWord reserved.Module)
    ∷ Name name
    ∷ WordOrSymbol (kind.Symbol symbol.Semicolon)
    ∷ (spell b
    ++ (WordOrSymbol (kind.ReservedWord reserved.End) ∷ Name closing ∷ single_token_list (kind.Symbol symbol.Dot)))

-- Returns the nesting depth of a tree: the greatest number of constructs that are nested in each
-- other. Parenthesised and negated factors, indexes, IF, WHILE and REPEAT statements, array and
-- record types, and procedures count: their cases add 1.
abbrev pub nesting : {N : Type 0} {s : Sort} → Tree N s → ℕ
nesting none = 0
nesting (one t) = nesting t
nesting end = 0
nesting (more t ts) = max (nesting t) (nesting ts)
nesting (compares left compared) = max (nesting left) (nesting compared)
nesting (relates relation right) = nesting right
nesting (sum sign first terms) = max (nesting first) (nesting terms)
nesting (adds operator t) = nesting t
nesting (product first factors) = max (nesting first) (nesting factors)
nesting (multiplies operator f) = nesting f
nesting (designator name selectors) = nesting selectors
nesting (integer n) = 0
nesting (parenthesised e) = nesting e + 1
nesting (negation f) = nesting f + 1
nesting (field name) = 0
nesting (index e) = nesting e + 1
nesting empty = 0
nesting (assigns name selectors e) = max (nesting selectors) (nesting e)
nesting (calls name args) = nesting args
nesting (branches condition s elsifs rest) =
    max (max (nesting condition) (nesting s)) (max (nesting elsifs) (nesting rest)) + 1
nesting (while_loop condition s) = max (nesting condition) (nesting s) + 1
nesting (repeat_loop s condition) = max (nesting s) (nesting condition) + 1
nesting no_arguments = 0
nesting (some_arguments e es) = max (nesting e) (nesting es)
nesting (comma_then_argument e) = nesting e
nesting (runs first statements) = max (nesting first) (nesting statements)
nesting (semicolon_then_statement s) = nesting s
nesting (elsif_branch condition s) = max (nesting condition) (nesting s)
nesting (else_branch s) = nesting s
nesting (listed name others) = 0
nesting (comma_then_name name) = 0
nesting (named_type name) = 0
nesting (array_type size t) = max (nesting size) (nesting t) + 1
nesting (record_type first others) = max (nesting first) (nesting others) + 1
nesting no_fields = 0
nesting (some_fields ns t) = nesting t
nesting (semicolon_then_fields f) = nesting f
nesting no_formals = 0
nesting (some_formals first others) = max (nesting first) (nesting others)
nesting (value_section ns t) = nesting t
nesting (variable_section ns t) = nesting t
nesting (semicolon_then_section s) = nesting s
nesting (declares_constant name e) = nesting e
nesting (declares_const_section cs) = nesting cs
nesting (declares_type name t) = nesting t
nesting (declares_type_section ts) = nesting ts
nesting (declares_variable ns t) = nesting t
nesting (declares_var_section vs) = nesting vs
nesting (declares_procedure name fs b closing) = max (nesting fs) (nesting b) + 1
nesting (declares cs ts vs ps) = max (max (nesting cs) (nesting ts)) (max (nesting vs) (nesting ps))
nesting (begins s) = nesting s
nesting (forms_block ds b) = max (nesting ds) (nesting b)
nesting (forms_module name b closing) = nesting b

-- Returns the tree with `f` applied to each looked-up name, `h` to each other name, and `g` to each
-- number. A name that is declared, a closing name, the name of a field and the module's name aren't
-- looked up.
abbrev pub mapped_leaves : {N M : Type 0} {s : Sort} → (N → M) → (N → M) → (ℕ → ℕ) → Tree N s → Tree M s
mapped_leaves f h g none = none
mapped_leaves f h g (one t) = one (mapped_leaves f h g t)
mapped_leaves f h g end = end
mapped_leaves f h g (more t ts) = more (mapped_leaves f h g t) (mapped_leaves f h g ts)
mapped_leaves f h g (compares left compared) = compares (mapped_leaves f h g left) (mapped_leaves f h g compared)
mapped_leaves f h g (relates relation right) = relates relation (mapped_leaves f h g right)
mapped_leaves f h g (sum sign first terms) = sum sign (mapped_leaves f h g first) (mapped_leaves f h g terms)
mapped_leaves f h g (adds operator t) = adds operator (mapped_leaves f h g t)
mapped_leaves f h g (product first factors) = product (mapped_leaves f h g first) (mapped_leaves f h g factors)
mapped_leaves f h g (multiplies operator t) = multiplies operator (mapped_leaves f h g t)
mapped_leaves f h g (designator name selectors) = designator (f name) (mapped_leaves f h g selectors)
mapped_leaves f h g (integer n) = integer (g n)
mapped_leaves f h g (parenthesised e) = parenthesised (mapped_leaves f h g e)
mapped_leaves f h g (negation t) = negation (mapped_leaves f h g t)
mapped_leaves f h g (field name) = field (h name)
mapped_leaves f h g (index e) = index (mapped_leaves f h g e)
mapped_leaves f h g empty = empty
mapped_leaves f h g (assigns name selectors e) = assigns (f name) (mapped_leaves f h g selectors) (mapped_leaves f h g e)
mapped_leaves f h g (calls name args) = calls (f name) (mapped_leaves f h g args)
mapped_leaves f h g (branches condition s elsifs rest) =
    branches (mapped_leaves f h g condition) (mapped_leaves f h g s) (mapped_leaves f h g elsifs) (mapped_leaves f h g rest)
mapped_leaves f h g (while_loop condition s) = while_loop (mapped_leaves f h g condition) (mapped_leaves f h g s)
mapped_leaves f h g (repeat_loop s condition) = repeat_loop (mapped_leaves f h g s) (mapped_leaves f h g condition)
mapped_leaves f h g no_arguments = no_arguments
mapped_leaves f h g (some_arguments e es) = some_arguments (mapped_leaves f h g e) (mapped_leaves f h g es)
mapped_leaves f h g (comma_then_argument e) = comma_then_argument (mapped_leaves f h g e)
mapped_leaves f h g (runs first statements) = runs (mapped_leaves f h g first) (mapped_leaves f h g statements)
mapped_leaves f h g (semicolon_then_statement s) = semicolon_then_statement (mapped_leaves f h g s)
mapped_leaves f h g (elsif_branch condition s) = elsif_branch (mapped_leaves f h g condition) (mapped_leaves f h g s)
mapped_leaves f h g (else_branch s) = else_branch (mapped_leaves f h g s)
mapped_leaves f h g (listed name others) = listed (h name) (mapped_leaves f h g others)
mapped_leaves f h g (comma_then_name name) = comma_then_name (h name)
mapped_leaves f h g (named_type name) = named_type (f name)
mapped_leaves f h g (array_type size t) = array_type (mapped_leaves f h g size) (mapped_leaves f h g t)
mapped_leaves f h g (record_type first others) = record_type (mapped_leaves f h g first) (mapped_leaves f h g others)
mapped_leaves f h g no_fields = no_fields
mapped_leaves f h g (some_fields ns t) = some_fields (mapped_leaves f h g ns) (mapped_leaves f h g t)
mapped_leaves f h g (semicolon_then_fields fs) = semicolon_then_fields (mapped_leaves f h g fs)
mapped_leaves f h g no_formals = no_formals
mapped_leaves f h g (some_formals first others) = some_formals (mapped_leaves f h g first) (mapped_leaves f h g others)
mapped_leaves f h g (value_section ns t) = value_section (mapped_leaves f h g ns) (mapped_leaves f h g t)
mapped_leaves f h g (variable_section ns t) = variable_section (mapped_leaves f h g ns) (mapped_leaves f h g t)
mapped_leaves f h g (semicolon_then_section s) = semicolon_then_section (mapped_leaves f h g s)
mapped_leaves f h g (declares_constant name e) = declares_constant (h name) (mapped_leaves f h g e)
mapped_leaves f h g (declares_const_section cs) = declares_const_section (mapped_leaves f h g cs)
mapped_leaves f h g (declares_type name t) = declares_type (h name) (mapped_leaves f h g t)
mapped_leaves f h g (declares_type_section ts) = declares_type_section (mapped_leaves f h g ts)
mapped_leaves f h g (declares_variable ns t) = declares_variable (mapped_leaves f h g ns) (mapped_leaves f h g t)
mapped_leaves f h g (declares_var_section vs) = declares_var_section (mapped_leaves f h g vs)
mapped_leaves f h g (declares_procedure name fs b closing) =
    declares_procedure (h name) (mapped_leaves f h g fs) (mapped_leaves f h g b) (h closing)
mapped_leaves f h g (declares cs ts vs ps) =
    declares (mapped_leaves f h g cs) (mapped_leaves f h g ts) (mapped_leaves f h g vs) (mapped_leaves f h g ps)
mapped_leaves f h g (begins s) = begins (mapped_leaves f h g s)
mapped_leaves f h g (forms_block ds b) = forms_block (mapped_leaves f h g ds) (mapped_leaves f h g b)
mapped_leaves f h g (forms_module name b closing) = forms_module (h name) (mapped_leaves f h g b) (h closing)

-- Returns the tree with `f` applied to each name and `g` applied to each number.
abbrev pub mapped_tree : {N M : Type 0} {s : Sort} → (N → M) → (ℕ → ℕ) → Tree N s → Tree M s
mapped_tree f g t = mapped_leaves f f g t

-- Returns the identifiers of a tree in text order, each with its role. The role `r` is used only if
-- the tree is itself a list of names: `r` is then the role of these names. In a larger tree, the
-- construct around a list of names decides their role.
abbrev pub identifiers : {N : Type 0} {s : Sort} → Role → Tree N s → List (Role × N)
identifiers r none = []
identifiers r (one t) = identifiers r t
identifiers r end = []
identifiers r (more t ts) = identifiers r t ++ identifiers r ts
identifiers r (compares left compared) = identifiers r left ++ identifiers r compared
identifiers r (relates relation right) = identifiers r right
identifiers r (sum sign first terms) = identifiers r first ++ identifiers r terms
identifiers r (adds operator t) = identifiers r t
identifiers r (product first factors) = identifiers r first ++ identifiers r factors
identifiers r (multiplies operator f) = identifiers r f
identifiers r (designator name selectors) = (role.LookedUpName, name) ∷ identifiers r selectors
identifiers r (integer n) = []
identifiers r (parenthesised e) = identifiers r e
identifiers r (negation f) = identifiers r f
identifiers r (field name) = (role.FieldName, name) ∷ []
identifiers r (index e) = identifiers r e
identifiers r empty = []
identifiers r (assigns name selectors e) =
    (role.LookedUpName, name) ∷ (identifiers r selectors ++ identifiers r e)
identifiers r (calls name args) = (role.LookedUpName, name) ∷ identifiers r args
identifiers r (branches condition s elsifs rest) =
    identifiers r condition ++ (identifiers r s ++ (identifiers r elsifs ++ identifiers r rest))
identifiers r (while_loop condition s) = identifiers r condition ++ identifiers r s
identifiers r (repeat_loop s condition) = identifiers r s ++ identifiers r condition
identifiers r no_arguments = []
identifiers r (some_arguments e es) = identifiers r e ++ identifiers r es
identifiers r (comma_then_argument e) = identifiers r e
identifiers r (runs first statements) = identifiers r first ++ identifiers r statements
identifiers r (semicolon_then_statement s) = identifiers r s
identifiers r (elsif_branch condition s) = identifiers r condition ++ identifiers r s
identifiers r (else_branch s) = identifiers r s
identifiers r (listed name others) = (r, name) ∷ identifiers r others
identifiers r (comma_then_name name) = (r, name) ∷ []
identifiers r (named_type name) = (role.LookedUpName, name) ∷ []
identifiers r (array_type size t) = identifiers r size ++ identifiers r t
identifiers r (record_type first others) = identifiers r first ++ identifiers r others
identifiers r no_fields = []
identifiers r (some_fields ns t) = identifiers role.FieldName ns ++ identifiers r t
identifiers r (semicolon_then_fields f) = identifiers r f
identifiers r no_formals = []
identifiers r (some_formals first others) = identifiers r first ++ identifiers r others
identifiers r (value_section ns t) = identifiers role.DeclaringName ns ++ identifiers r t
identifiers r (variable_section ns t) = identifiers role.DeclaringName ns ++ identifiers r t
identifiers r (semicolon_then_section s) = identifiers r s
identifiers r (declares_constant name e) = (role.DeclaringName, name) ∷ identifiers r e
identifiers r (declares_const_section cs) = identifiers r cs
identifiers r (declares_type name t) = (role.DeclaringName, name) ∷ identifiers r t
identifiers r (declares_type_section ts) = identifiers r ts
identifiers r (declares_variable ns t) = identifiers role.DeclaringName ns ++ identifiers r t
identifiers r (declares_var_section vs) = identifiers r vs
identifiers r (declares_procedure name fs b closing) =
    (role.DeclaringName, name)
    ∷ (identifiers r fs ++ (identifiers r b ++ ((role.ClosingName, closing) ∷ [])))
identifiers r (declares cs ts vs ps) =
    identifiers r cs ++ (identifiers r ts ++ (identifiers r vs ++ identifiers r ps))
identifiers r (begins s) = identifiers r s
identifiers r (forms_block ds b) = identifiers r ds ++ identifiers r b
identifiers r (forms_module name b closing) =
    (role.ModuleName, name) ∷ (identifiers r b ++ ((role.ModuleName, closing) ∷ []))

-- Returns the occurrences in a tree, in text order: the names that are looked up. A name that is
-- declared, a closing name, the name of a field and the module's name aren't occurrences.
abbrev pub occurrences : {N : Type 0} {s : Sort} → Tree N s → List N
occurrences none = []
occurrences (one t) = occurrences t
occurrences end = []
occurrences (more t ts) = occurrences t ++ occurrences ts
occurrences (compares left compared) = occurrences left ++ occurrences compared
occurrences (relates relation right) = occurrences right
occurrences (sum sign first terms) = occurrences first ++ occurrences terms
occurrences (adds operator t) = occurrences t
occurrences (product first factors) = occurrences first ++ occurrences factors
occurrences (multiplies operator f) = occurrences f
occurrences (designator name selectors) = name ∷ occurrences selectors
occurrences (integer n) = []
occurrences (parenthesised e) = occurrences e
occurrences (negation f) = occurrences f
occurrences (field name) = []
occurrences (index e) = occurrences e
occurrences empty = []
occurrences (assigns name selectors e) = name ∷ (occurrences selectors ++ occurrences e)
occurrences (calls name args) = name ∷ occurrences args
occurrences (branches condition s elsifs rest) =
    occurrences condition ++ (occurrences s ++ (occurrences elsifs ++ occurrences rest))
occurrences (while_loop condition s) = occurrences condition ++ occurrences s
occurrences (repeat_loop s condition) = occurrences s ++ occurrences condition
occurrences no_arguments = []
occurrences (some_arguments e es) = occurrences e ++ occurrences es
occurrences (comma_then_argument e) = occurrences e
occurrences (runs first statements) = occurrences first ++ occurrences statements
occurrences (semicolon_then_statement s) = occurrences s
occurrences (elsif_branch condition s) = occurrences condition ++ occurrences s
occurrences (else_branch s) = occurrences s
occurrences (listed name others) = []
occurrences (comma_then_name name) = []
occurrences (named_type name) = name ∷ []
occurrences (array_type size t) = occurrences size ++ occurrences t
occurrences (record_type first others) = occurrences first ++ occurrences others
occurrences no_fields = []
occurrences (some_fields ns t) = occurrences t
occurrences (semicolon_then_fields f) = occurrences f
occurrences no_formals = []
occurrences (some_formals first others) = occurrences first ++ occurrences others
occurrences (value_section ns t) = occurrences t
occurrences (variable_section ns t) = occurrences t
occurrences (semicolon_then_section s) = occurrences s
occurrences (declares_constant name e) = occurrences e
occurrences (declares_const_section cs) = occurrences cs
occurrences (declares_type name t) = occurrences t
occurrences (declares_type_section ts) = occurrences ts
occurrences (declares_variable ns t) = occurrences t
occurrences (declares_var_section vs) = occurrences vs
occurrences (declares_procedure name fs b closing) = occurrences fs ++ occurrences b
occurrences (declares cs ts vs ps) =
    occurrences cs ++ (occurrences ts ++ (occurrences vs ++ occurrences ps))
occurrences (begins s) = occurrences s
occurrences (forms_block ds b) = occurrences ds ++ occurrences b
occurrences (forms_module name b closing) = occurrences b
