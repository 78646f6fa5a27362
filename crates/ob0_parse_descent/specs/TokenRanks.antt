-- Defines ranks of tokens, which determine at which token a construct ends. `max_continuing_rank`
-- gives the highest rank of a token that can continue a construct once it is complete. The
-- construct ends before any token with a higher rank. An item (a repeated or optional part of a
-- production) also has a rank, `item_start_rank`. A token begins the item exactly if it has this
-- rank.
-- Rule: docs/LANGUAGE.md, Grammar 1.
use Rattle.std.specs.Prelude.{◌≡◌, ℕ, ◌<◌, min, List, [], ◌∷◌, Bool, true, false, Option, Some, None}
use Rattle.ob0_scan.specs.declared.lexeme.TokenKind.{TokenKind}
use Rattle.ob0_scan.specs.declared.lexeme.TokenKind.TheVariants as kind
use Rattle.ob0_scan.specs.declared.lexeme.ReservedWord.TheVariants as reserved
use Rattle.ob0_scan.specs.declared.lexeme.Symbol.TheVariants as symbol
use Rattle.ob0_tree.specs.Terminals.{Terminal, Name, Number, WordOrSymbol, EndOfText}
use Rattle.ob0_tree.specs.Tree.{GrammarItem, selector, multiplier, addend, comparison, arguments, argument_after_comma, statement_after_semicolon, elsif_part, else_part, name_after_comma, fields_after_semicolon, formals, section_after_semicolon, constant, constants, type_definition, type_definitions, variable, variables, procedure, body, Sort, item, items, maybe, expression, simple, term, factor, statement, sequence, names, written_type, fields, section, declarations, block, module_text}

-- Returns the rank of a kind of token. The higher the rank, the more constructs end before the
-- token.
abbrev pub kind_rank : TokenKind → ℕ
kind_rank (kind.Symbol symbol.Dot) = 1
kind_rank (kind.Symbol symbol.LeftBracket) = 1
kind_rank (kind.Symbol symbol.Times) = 2
kind_rank (kind.ReservedWord reserved.Div) = 2
kind_rank (kind.ReservedWord reserved.Mod) = 2
kind_rank (kind.Symbol symbol.And) = 2
kind_rank (kind.Symbol symbol.Plus) = 3
kind_rank (kind.Symbol symbol.Minus) = 3
kind_rank (kind.ReservedWord reserved.Or) = 3
kind_rank (kind.Symbol symbol.Equal) = 4
kind_rank (kind.Symbol symbol.NotEqual) = 4
kind_rank (kind.Symbol symbol.Less) = 4
kind_rank (kind.Symbol symbol.LessEqual) = 4
kind_rank (kind.Symbol symbol.Greater) = 4
kind_rank (kind.Symbol symbol.GreaterEqual) = 4
kind_rank (kind.Symbol symbol.Comma) = 5
kind_rank kind.Identifier = 7
kind_rank (kind.Symbol symbol.LeftParen) = 6
kind_rank (kind.Symbol symbol.Becomes) = 8
kind_rank (kind.ReservedWord reserved.If) = 8
kind_rank (kind.ReservedWord reserved.While) = 8
kind_rank (kind.ReservedWord reserved.Repeat) = 8
kind_rank (kind.Symbol symbol.Semicolon) = 9
kind_rank (kind.ReservedWord reserved.Elsif) = 10
kind_rank (kind.ReservedWord reserved.Else) = 11
kind_rank (kind.ReservedWord reserved.Const) = 12
kind_rank (kind.ReservedWord reserved.Type) = 13
kind_rank (kind.ReservedWord reserved.Var) = 14
kind_rank (kind.ReservedWord reserved.Procedure) = 15
kind_rank (kind.ReservedWord reserved.Begin) = 16
kind_rank _ = 17

-- Returns the rank of a token. A construct ends before a token whose rank is higher than the ranks
-- of all tokens that can continue the construct.
abbrev pub terminal_rank : {N : Type 0} → Terminal N → ℕ
terminal_rank (Name n) = 7
terminal_rank (Number n) = 17
terminal_rank (WordOrSymbol k) = kind_rank k
terminal_rank EndOfText = 17

-- Returns the rank of the tokens that begin an item (a repeated or optional part of a production).
abbrev pub item_start_rank : GrammarItem → ℕ
item_start_rank selector = 1
item_start_rank multiplier = 2
item_start_rank addend = 3
item_start_rank comparison = 4
item_start_rank arguments = 6
item_start_rank argument_after_comma = 5
item_start_rank statement_after_semicolon = 9
item_start_rank elsif_part = 10
item_start_rank else_part = 11
item_start_rank name_after_comma = 5
item_start_rank fields_after_semicolon = 9
item_start_rank formals = 6
item_start_rank section_after_semicolon = 9
item_start_rank constant = 7
item_start_rank constants = 12
item_start_rank type_definition = 7
item_start_rank type_definitions = 13
item_start_rank variable = 7
item_start_rank variables = 14
item_start_rank procedure = 15
item_start_rank body = 16

-- Returns the highest rank of a token that can continue a single item once it is complete. Returns
-- 0 if no token can continue the item.
abbrev pub item_max_continuing_rank : GrammarItem → ℕ
item_max_continuing_rank selector = 0
item_max_continuing_rank multiplier = 1
item_max_continuing_rank addend = 2
item_max_continuing_rank comparison = 3
item_max_continuing_rank arguments = 0
item_max_continuing_rank argument_after_comma = 4
item_max_continuing_rank statement_after_semicolon = 8
item_max_continuing_rank elsif_part = 9
item_max_continuing_rank else_part = 9
item_max_continuing_rank name_after_comma = 0
item_max_continuing_rank fields_after_semicolon = 7
item_max_continuing_rank formals = 0
item_max_continuing_rank section_after_semicolon = 0
item_max_continuing_rank constant = 0
item_max_continuing_rank constants = 7
item_max_continuing_rank type_definition = 0
item_max_continuing_rank type_definitions = 7
item_max_continuing_rank variable = 0
item_max_continuing_rank variables = 7
item_max_continuing_rank procedure = 0
item_max_continuing_rank body = 9

-- Returns the highest rank of a token that can continue a construct once it is complete. Returns 0
-- if no token can continue the construct.
abbrev pub max_continuing_rank : Sort → ℕ
max_continuing_rank (item i) = item_max_continuing_rank i
max_continuing_rank (items i) = item_start_rank i
max_continuing_rank (maybe i) = item_start_rank i
max_continuing_rank expression = 4
max_continuing_rank simple = 3
max_continuing_rank term = 2
max_continuing_rank factor = 1
max_continuing_rank statement = 8
max_continuing_rank sequence = 9
max_continuing_rank names = 5
max_continuing_rank written_type = 0
max_continuing_rank fields = 7
max_continuing_rank section = 0
max_continuing_rank declarations = 15
max_continuing_rank block = 16
max_continuing_rank module_text = 0

-- States that the next token can't continue a construct, or that no token is left. `n` is the
-- highest rank of a token that can continue the construct.
abbrev pub NextTokenEndsConstruct : {N : Type 0} → ℕ → List (Terminal N) → Type 0
NextTokenEndsConstruct n [] = Unit {0}
NextTokenEndsConstruct n (x ∷ xs) = n < terminal_rank x

-- States that there is a next token and that its rank is `n`.
abbrev pub NextTokenHasRank : {N : Type 0} → ℕ → List (Terminal N) → Type 0
NextTokenHasRank n [] = ⊥
NextTokenHasRank n (x ∷ xs) = terminal_rank x ≡ n

-- Returns whether an expression may begin with a token of this kind. At the end of the text (None)
-- the result is false.
abbrev pub may_begin_expression : Option TokenKind → Bool
may_begin_expression (Some kind.Identifier) = true
may_begin_expression (Some (kind.Integer _)) = true
may_begin_expression (Some (kind.Symbol symbol.Plus)) = true
may_begin_expression (Some (kind.Symbol symbol.Minus)) = true
may_begin_expression (Some (kind.Symbol symbol.LeftParen)) = true
may_begin_expression (Some (kind.Symbol symbol.Not)) = true
may_begin_expression _ = false

-- Returns the rank of a token of this kind, capped at 5. A token with a lower rank binds the
-- operand before it more strongly. Only operators and the tokens that begin a selector have a rank
-- below 5. At the end of the text (None) the result is 5.
abbrev pub binding_rank : Option TokenKind → ℕ
binding_rank None = 5
binding_rank (Some k) = min (kind_rank k) 5
