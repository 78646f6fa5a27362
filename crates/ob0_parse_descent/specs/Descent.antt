-- Defines the descent (`Descends`): predictive parsing, which reads a text from left to right by
-- the productions of the grammar (LANGUAGE.md, Grammar and Syntax faults). The next one or two
-- tokens determine the production of each construct. So the token at which the descent stops, and
-- the construct or token expected there, depend only on the tokens.
-- Rule: docs/LANGUAGE.md, Grammar 1, Nesting and limits 1, Syntax faults.
use Rattle.std.specs.Prelude.{◌≡◌, ◌==◌, ℕ, zero, suc, ◌+◌, List, [], ◌∷◌, ◌++◌, Option, Some, None, Bool, true, false, drop, if◌then◌else◌}
use Rattle.ob0_scan.specs.declared.lexeme.TokenKind.{TokenKind}
use Rattle.ob0_scan.specs.declared.lexeme.TokenKind.TheVariants as kind
use Rattle.ob0_scan.specs.declared.lexeme.ReservedWord.{ReservedWord}
use Rattle.ob0_scan.specs.declared.lexeme.ReservedWord.TheVariants as reserved
use Rattle.ob0_scan.specs.declared.lexeme.Symbol.{Symbol}
use Rattle.ob0_scan.specs.declared.lexeme.Symbol.TheVariants as symbol
use Rattle.ob0_tree.specs.Terminals.{Terminal, Name, Number, WordOrSymbol, EndOfText}
use Rattle.ob0_tree.specs.Module.{max_nesting}
use Rattle.ob0_tree.specs.Tree.{GrammarItem, selector, multiplier, addend, comparison, arguments, argument_after_comma, statement_after_semicolon, elsif_part, else_part, name_after_comma, fields_after_semicolon, formals, section_after_semicolon, constant, constants, type_definition, type_definitions, variable, variables, procedure, body, Sort, item, items, maybe, expression, simple, term, factor, statement, sequence, names, written_type, fields, section, declarations, block, module_text}
use Rattle.ob0_parse_descent.specs.TokenRanks.{terminal_rank, item_start_rank, may_begin_expression}
use Rattle.ob0_parse_descent.specs.declared.refusal.ExpectedSyntax.{ExpectedSyntax}
use Rattle.ob0_parse_descent.specs.declared.refusal.ExpectedSyntax.TheVariants as expected

-- A part of a production: a reserved word or symbol, an identifier, an integer, a construct with at
-- most `room` levels of nesting, or the end of the text.
pub data ProductionPart : Type 0 where
  token : TokenKind → ProductionPart
  name : ProductionPart
  number : ProductionPart
  nonterminal : Sort → (room : ℕ) → ProductionPart
  text_end : ProductionPart

-- ---- the production that the next tokens determine

-- The choice that the next tokens determine for a construct: the parts of a production, or an
-- error. If the construct is omitted, the list of parts is empty. The error says that another token
-- or construct is expected, or that the construct is nested too deep.
pub data ProductionChoice : Type 0 where
  parts : List ProductionPart → ProductionChoice
  missing : ExpectedSyntax → ProductionChoice
  too_deep : ProductionChoice

-- Returns the part of a production that is the reserved word `w`.
abbrev pub reserved_word_part : ReservedWord → ProductionPart
reserved_word_part w = token (kind.ReservedWord w)

-- Returns the part of a production that is the symbol `s`.
abbrev pub symbol_part : Symbol → ProductionPart
symbol_part s = token (kind.Symbol s)

-- Returns the choice for a construct that opens a level of nesting, given the number of levels
-- left. `inside` returns the construct's parts, given the number of levels left inside the
-- construct, which is one less. If no level is left, the construct is too deep (LANGUAGE.md,
-- Nesting and limits).
abbrev pub production_of_nested_construct : ℕ → (ℕ → List ProductionPart) → ProductionChoice
production_of_nested_construct zero inside = too_deep
production_of_nested_construct (suc room) inside = parts (inside room)

-- Returns whether the next token begins the item `i`. If no token is left, the result is false.
abbrev pub is_item_next : GrammarItem → List (Terminal ℕ) → Bool
is_item_next i [] = false
is_item_next i (x ∷ tokens) = terminal_rank x == item_start_rank i

-- Returns whether the next token begins an expression.
abbrev pub is_expression_next : List (Terminal ℕ) → Bool
is_expression_next (Name n ∷ tokens) = true
is_expression_next (Number n ∷ tokens) = true
is_expression_next (WordOrSymbol k ∷ tokens) = may_begin_expression (Some k)
is_expression_next tokens = false

-- Returns whether the next token begins a section of formal parameters.
abbrev pub is_parameter_section_next : List (Terminal ℕ) → Bool
is_parameter_section_next (Name n ∷ tokens) = true
is_parameter_section_next (WordOrSymbol (kind.ReservedWord reserved.Var) ∷ tokens) = true
is_parameter_section_next tokens = false

-- Returns whether a statement is an assignment, given the tokens after its identifier. It is an
-- assignment if the next token is `:=` or begins a selector.
abbrev pub is_assignment_next : List (Terminal ℕ) → Bool
is_assignment_next (WordOrSymbol (kind.Symbol symbol.Becomes) ∷ tokens) = true
is_assignment_next tokens = is_item_next selector tokens

-- Returns the production of an item that consists of an operator and a construct of the sort `s`.
-- This function is used only if the next token is the operator, so its value for any other token
-- doesn't matter.
abbrev pub production_of_operator_and_operand : Sort → ℕ → List (Terminal ℕ) → ProductionChoice
production_of_operator_and_operand s room (WordOrSymbol k ∷ tokens) = parts (token k ∷ nonterminal s room ∷ [])
production_of_operator_and_operand s room tokens = missing expected.Expression

-- Returns the production that the next tokens determine for an item, with `room` levels of nesting
-- left. This function is used only if the next token begins the item, so its value for any other
-- token doesn't matter.
abbrev pub chosen_item_production : GrammarItem → (room : ℕ) → List (Terminal ℕ) → ProductionChoice
-- selector = "[" expression "]" | "." ident
chosen_item_production selector room (WordOrSymbol (kind.Symbol symbol.LeftBracket) ∷ tokens) =
    production_of_nested_construct room
    (λ inner. symbol_part symbol.LeftBracket ∷ nonterminal expression inner ∷ symbol_part symbol.RightBracket ∷ [])
chosen_item_production selector room tokens = parts (symbol_part symbol.Dot ∷ name ∷ [])
-- multiplier = ("*" | DIV | MOD | "&") factor
chosen_item_production multiplier room tokens = production_of_operator_and_operand factor room tokens
-- addend = ("+" | "-" | OR) term
chosen_item_production addend room tokens = production_of_operator_and_operand term room tokens
-- comparison = ("=" | "#" | "<" | "<=" | ">" | ">=") simple
chosen_item_production comparison room tokens = production_of_operator_and_operand simple room tokens
-- arguments = "(" [expression {argument_after_comma}] ")"
chosen_item_production arguments room tokens =
    if is_expression_next (drop 1 tokens)
    then parts (symbol_part symbol.LeftParen
    ∷ nonterminal expression room
    ∷ nonterminal (items argument_after_comma) room
    ∷ symbol_part symbol.RightParen
    ∷ [])
    else parts (symbol_part symbol.LeftParen ∷ symbol_part symbol.RightParen ∷ [])
-- argument_after_comma = "," expression
chosen_item_production argument_after_comma room tokens = parts (symbol_part symbol.Comma ∷ nonterminal expression room ∷ [])
-- statement_after_semicolon = ";" statement
chosen_item_production statement_after_semicolon room tokens = parts (symbol_part symbol.Semicolon ∷ nonterminal statement room ∷ [])
-- elsif_part = ELSIF expression THEN sequence
chosen_item_production elsif_part room tokens =
    parts
    (reserved_word_part reserved.Elsif ∷ nonterminal expression room ∷ reserved_word_part reserved.Then ∷ nonterminal sequence room ∷ [])
-- else_part = ELSE sequence
chosen_item_production else_part room tokens = parts (reserved_word_part reserved.Else ∷ nonterminal sequence room ∷ [])
-- name_after_comma = "," ident
chosen_item_production name_after_comma room tokens = parts (symbol_part symbol.Comma ∷ name ∷ [])
-- fields_after_semicolon = ";" fields
chosen_item_production fields_after_semicolon room tokens = parts (symbol_part symbol.Semicolon ∷ nonterminal fields room ∷ [])
-- formals = "(" [section {section_after_semicolon}] ")"
chosen_item_production formals room tokens =
    if is_parameter_section_next (drop 1 tokens)
    then parts (symbol_part symbol.LeftParen
    ∷ nonterminal section room
    ∷ nonterminal (items section_after_semicolon) room
    ∷ symbol_part symbol.RightParen
    ∷ [])
    else parts (symbol_part symbol.LeftParen ∷ symbol_part symbol.RightParen ∷ [])
-- section_after_semicolon = ";" section
chosen_item_production section_after_semicolon room tokens = parts (symbol_part symbol.Semicolon ∷ nonterminal section room ∷ [])
-- constant = ident "=" expression ";"
chosen_item_production constant room tokens =
    parts (name ∷ symbol_part symbol.Equal ∷ nonterminal expression room ∷ symbol_part symbol.Semicolon ∷ [])
-- constants = CONST {constant}
chosen_item_production constants room tokens = parts (reserved_word_part reserved.Const ∷ nonterminal (items constant) room ∷ [])
-- type_definition = ident "=" type ";"
chosen_item_production type_definition room tokens =
    parts (name ∷ symbol_part symbol.Equal ∷ nonterminal written_type room ∷ symbol_part symbol.Semicolon ∷ [])
-- type_definitions = TYPE {type_definition}
chosen_item_production type_definitions room tokens = parts (reserved_word_part reserved.Type ∷ nonterminal (items type_definition) room ∷ [])
-- variable = identList ":" type ";"
chosen_item_production variable room tokens =
    parts (nonterminal names 0 ∷ symbol_part symbol.Colon ∷ nonterminal written_type room ∷ symbol_part symbol.Semicolon ∷ [])
-- variables = VAR {variable}
chosen_item_production variables room tokens = parts (reserved_word_part reserved.Var ∷ nonterminal (items variable) room ∷ [])
-- procedure = PROCEDURE ident [formals] ";" block END ident ";"
chosen_item_production procedure room tokens =
    production_of_nested_construct room (λ inner. reserved_word_part reserved.Procedure
    ∷ name
    ∷ nonterminal (maybe formals) inner
    ∷ symbol_part symbol.Semicolon
    ∷ nonterminal block inner
    ∷ reserved_word_part reserved.End
    ∷ name
    ∷ symbol_part symbol.Semicolon
    ∷ [])
-- body = BEGIN sequence
chosen_item_production body room tokens = parts (reserved_word_part reserved.Begin ∷ nonterminal sequence room ∷ [])

-- Returns the production that the next tokens determine for a construct, with `room` levels of
-- nesting left. A list of names needs no level (`nonterminal names 0`), because its parts don't
-- count for nesting.
abbrev pub chosen_production : Sort → (room : ℕ) → List (Terminal ℕ) → ProductionChoice
chosen_production (item i) room tokens = chosen_item_production i room tokens
chosen_production (items i) room tokens =
    if is_item_next i tokens then parts (nonterminal (item i) room ∷ nonterminal (items i) room ∷ []) else parts []
chosen_production (maybe i) room tokens =
    if is_item_next i tokens then parts (nonterminal (item i) room ∷ []) else parts []
-- expression = simple [comparison]
chosen_production expression room tokens = parts (nonterminal simple room ∷ nonterminal (maybe comparison) room ∷ [])
-- simple = ["+" | "-"] term {addend}
chosen_production simple room (WordOrSymbol (kind.Symbol symbol.Plus) ∷ tokens) =
    parts (symbol_part symbol.Plus ∷ nonterminal term room ∷ nonterminal (items addend) room ∷ [])
chosen_production simple room (WordOrSymbol (kind.Symbol symbol.Minus) ∷ tokens) =
    parts (symbol_part symbol.Minus ∷ nonterminal term room ∷ nonterminal (items addend) room ∷ [])
chosen_production simple room tokens = parts (nonterminal term room ∷ nonterminal (items addend) room ∷ [])
-- term = factor {multiplier}
chosen_production term room tokens = parts (nonterminal factor room ∷ nonterminal (items multiplier) room ∷ [])
-- factor = ident {selector} | integer | "(" expression ")" | "~" factor
chosen_production factor room (Name n ∷ tokens) = parts (name ∷ nonterminal (items selector) room ∷ [])
chosen_production factor room (Number n ∷ tokens) = parts (number ∷ [])
chosen_production factor room (WordOrSymbol (kind.Symbol symbol.LeftParen) ∷ tokens) =
    production_of_nested_construct room
    (λ inner. symbol_part symbol.LeftParen ∷ nonterminal expression inner ∷ symbol_part symbol.RightParen ∷ [])
chosen_production factor room (WordOrSymbol (kind.Symbol symbol.Not) ∷ tokens) =
    production_of_nested_construct room (λ inner. symbol_part symbol.Not ∷ nonterminal factor inner ∷ [])
chosen_production factor room tokens = missing expected.Expression
-- statement = [assignment | call | if | while | repeat]
-- assignment = ident {selector} ":=" expression
-- call = ident [arguments]
-- If a selector or `:=` follows the identifier, the statement is an assignment.
chosen_production statement room (Name n ∷ tokens) =
    if is_assignment_next tokens
    then parts (name ∷ nonterminal (items selector) room ∷ symbol_part symbol.Becomes ∷ nonterminal expression room ∷ [])
    else parts (name ∷ nonterminal (maybe arguments) room ∷ [])
-- if = IF expression THEN sequence {elsif_part} [else_part] END
chosen_production statement room (WordOrSymbol (kind.ReservedWord reserved.If) ∷ tokens) =
    production_of_nested_construct room (λ inner. reserved_word_part reserved.If
    ∷ nonterminal expression inner
    ∷ reserved_word_part reserved.Then
    ∷ nonterminal sequence inner
    ∷ nonterminal (items elsif_part) inner
    ∷ nonterminal (maybe else_part) inner
    ∷ reserved_word_part reserved.End
    ∷ [])
-- while = WHILE expression DO sequence END
chosen_production statement room (WordOrSymbol (kind.ReservedWord reserved.While) ∷ tokens) =
    production_of_nested_construct room (λ inner. reserved_word_part reserved.While
    ∷ nonterminal expression inner
    ∷ reserved_word_part reserved.Do
    ∷ nonterminal sequence inner
    ∷ reserved_word_part reserved.End
    ∷ [])
-- repeat = REPEAT sequence UNTIL expression
chosen_production statement room (WordOrSymbol (kind.ReservedWord reserved.Repeat) ∷ tokens) =
    production_of_nested_construct room (λ inner. reserved_word_part reserved.Repeat
    ∷ nonterminal sequence inner
    ∷ reserved_word_part reserved.Until
    ∷ nonterminal expression inner
    ∷ [])
chosen_production statement room tokens = parts []
-- sequence = statement {statement_after_semicolon}
chosen_production sequence room tokens = parts (nonterminal statement room ∷ nonterminal (items statement_after_semicolon) room ∷ [])
-- identList = ident {name_after_comma}
chosen_production names room tokens = parts (name ∷ nonterminal (items name_after_comma) room ∷ [])
-- type = ident | ARRAY expression OF type | RECORD fields {fields_after_semicolon} END
chosen_production written_type room (Name n ∷ tokens) = parts (name ∷ [])
chosen_production written_type room (WordOrSymbol (kind.ReservedWord reserved.Array) ∷ tokens) =
    production_of_nested_construct room (λ inner. reserved_word_part reserved.Array
    ∷ nonterminal expression inner
    ∷ reserved_word_part reserved.Of
    ∷ nonterminal written_type inner
    ∷ [])
chosen_production written_type room (WordOrSymbol (kind.ReservedWord reserved.Record) ∷ tokens) =
    production_of_nested_construct room (λ inner. reserved_word_part reserved.Record
    ∷ nonterminal fields inner
    ∷ nonterminal (items fields_after_semicolon) inner
    ∷ reserved_word_part reserved.End
    ∷ [])
chosen_production written_type room tokens = missing expected.Type
-- fields = [identList ":" type]
chosen_production fields room (Name n ∷ tokens) =
    parts (nonterminal names 0 ∷ symbol_part symbol.Colon ∷ nonterminal written_type room ∷ [])
chosen_production fields room tokens = parts []
-- section = [VAR] identList ":" type
chosen_production section room (WordOrSymbol (kind.ReservedWord reserved.Var) ∷ tokens) =
    parts (reserved_word_part reserved.Var ∷ nonterminal names 0 ∷ symbol_part symbol.Colon ∷ nonterminal written_type room ∷ [])
chosen_production section room tokens = parts (nonterminal names 0 ∷ symbol_part symbol.Colon ∷ nonterminal written_type room ∷ [])
-- declarations = [constants] [type_definitions] [variables] {procedure}
chosen_production declarations room tokens =
    parts (nonterminal (maybe constants) room
    ∷ nonterminal (maybe type_definitions) room
    ∷ nonterminal (maybe variables) room
    ∷ nonterminal (items procedure) room
    ∷ [])
-- block = declarations [body]
chosen_production block room tokens = parts (nonterminal declarations room ∷ nonterminal (maybe body) room ∷ [])
-- module = MODULE ident ";" block END ident "."
chosen_production module_text room tokens =
    parts (reserved_word_part reserved.Module
    ∷ name
    ∷ symbol_part symbol.Semicolon
    ∷ nonterminal block room
    ∷ reserved_word_part reserved.End
    ∷ name
    ∷ symbol_part symbol.Dot
    ∷ [])

-- ---- the end: where and why the descent ends

-- States that a token matches a part of a production. No token matches a part that is a construct,
-- because the descent first replaces a construct by the parts of its production.
abbrev pub MatchesPart : ProductionPart → Terminal ℕ → Type 0
MatchesPart (token k) x = x ≡ WordOrSymbol k
MatchesPart name x = (n : ℕ) × (x ≡ Name n)
MatchesPart number x = (n : ℕ) × (x ≡ Number n)
MatchesPart (nonterminal s room) x = ⊥
MatchesPart text_end x = x ≡ EndOfText

-- Returns the reserved word or symbol of the given kind as an expected token. Returns None for the
-- kind of an identifier or an integer.
abbrev pub syntax_expected_for_kind : TokenKind → Option ExpectedSyntax
syntax_expected_for_kind (kind.ReservedWord reserved_word_part) = Some (expected.Word reserved_word_part)
syntax_expected_for_kind (kind.Symbol symbol) = Some (expected.Symbol symbol)
syntax_expected_for_kind kind.Identifier = None
syntax_expected_for_kind (kind.Integer value) = None

-- Returns the token that a syntax error reports as expected if this part of a production is
-- missing. Returns None for an integer, which is never missing: it is a part only if the next token
-- is an integer. Returns None for a construct, because the descent reads the parts of its
-- production instead.
abbrev pub syntax_expected_for_part : ProductionPart → Option ExpectedSyntax
syntax_expected_for_part (token k) = syntax_expected_for_kind k
syntax_expected_for_part name = Some expected.Identifier
syntax_expected_for_part number = None
syntax_expected_for_part (nonterminal s room) = None
syntax_expected_for_part text_end = Some expected.EndOfText

-- The way in which the descent ends. `Done`: everything was read. `Expects`: another token or
-- construct is expected at the token with this index. `TooDeepAt`: the token with this index opens
-- a construct that is nested too deep.
pub data DescentEnd : Type 0 where
  Done : DescentEnd
  Expects : ℕ → ExpectedSyntax → DescentEnd
  TooDeepAt : ℕ → DescentEnd

-- States that the descent over a list of parts, reading from a list of tokens, has a given end. The
-- number (ℕ) is the index in the text of the first token in the list.
pub data Descends : List ProductionPart → ℕ → List (Terminal ℕ) → DescentEnd → Type 0 where
  -- No part is left: the descent is done.
  done : {i : ℕ} {tokens : List (Terminal ℕ)} → Descends [] i tokens Done
  -- The next token matches the next part: the descent continues after this token and this part.
  taken : {p : ProductionPart} {ps : List ProductionPart} {i : ℕ} {x : Terminal ℕ} {tokens : List (Terminal ℕ)}
      {o : DescentEnd}
      → MatchesPart p x → Descends ps (i + 1) tokens o → Descends (p ∷ ps) i (x ∷ tokens) o
  -- The next token doesn't match the next part: the descent stops, because that part is expected.
  other : {p : ProductionPart} {ps : List ProductionPart} {i : ℕ} {x : Terminal ℕ} {tokens : List (Terminal ℕ)}
      {e : ExpectedSyntax}
      → ¬ MatchesPart p x → syntax_expected_for_part p ≡ Some e → Descends (p ∷ ps) i (x ∷ tokens) (Expects i e)
  -- The next part is a construct: the descent continues with the parts of its production (`qs`)
  -- instead.
  made : {s : Sort} {room : ℕ} {ps : List ProductionPart} {i : ℕ} {tokens : List (Terminal ℕ)} {o : DescentEnd}
      (qs : List ProductionPart)
      → chosen_production s room tokens ≡ parts qs
      → Descends (qs ++ ps) i tokens o
      → Descends (nonterminal s room ∷ ps) i tokens o
  -- The next part is a construct that can't begin with the next token: the descent stops.
  absent : {s : Sort} {room : ℕ} {ps : List ProductionPart} {i : ℕ} {tokens : List (Terminal ℕ)}
      {e : ExpectedSyntax}
      → chosen_production s room tokens ≡ missing e → Descends (nonterminal s room ∷ ps) i tokens (Expects i e)
  -- The next part is a construct that opens a level of nesting, but no level is left: the descent
  -- stops.
  deep : {s : Sort} {room : ℕ} {ps : List ProductionPart} {i : ℕ} {tokens : List (Terminal ℕ)}
      → chosen_production s room tokens ≡ too_deep → Descends (nonterminal s room ∷ ps) i tokens (TooDeepAt i)

-- States that the descent over the same parts and tokens always has the same end.
abbrev pub DescentEndIsUnique : Type 0
DescentEndIsUnique =
    (ps : List ProductionPart) (i : ℕ) (tokens : List (Terminal ℕ)) (a b : DescentEnd)
    → Descends ps i tokens a
    → Descends ps i tokens b
    → a ≡ b

-- States that the descent through a whole text, read as a module, has the end `o`. The end of the
-- text is the last item of `tokens`. At most 100 levels of nesting are allowed.
abbrev pub TextDescentEndsWith : List (Terminal ℕ) → DescentEnd → Type 0
TextDescentEndsWith tokens o = Descends (nonterminal module_text max_nesting ∷ text_end ∷ []) 0 tokens o
