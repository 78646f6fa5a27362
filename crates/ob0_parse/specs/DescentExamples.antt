-- States at which token the descent (`Descends`) stops in example texts. Each text is given by the
-- kinds of its tokens.
-- Rule: docs/LANGUAGE.md, Syntax faults (its examples).
use Rattle.std.specs.Prelude.{ℕ, zero, suc, ◌+◌, List, [], ◌∷◌, ◌++◌}
use Rattle.ob0_scan.specs.declared.lexeme.TokenKind.{TokenKind}
use Rattle.ob0_scan.specs.declared.lexeme.TokenKind.TheVariants as kind
use Rattle.ob0_scan.specs.declared.lexeme.ReservedWord.{ReservedWord}
use Rattle.ob0_scan.specs.declared.lexeme.ReservedWord.TheVariants as reserved
use Rattle.ob0_scan.specs.declared.lexeme.Symbol.{Symbol}
use Rattle.ob0_scan.specs.declared.lexeme.Symbol.TheVariants as symbol
use Rattle.ob0_tree.specs.Terminals.{Terminal, EndOfText}
use Rattle.ob0_tree.specs.TokenIndexLeaves.{indexed_terminal}
use Rattle.ob0_parse_descent.specs.Descent.{DescentEnd, Done, Expects, TooDeepAt, TextDescentEndsWith}
use Rattle.ob0_parse_descent.specs.declared.refusal.ExpectedSyntax.TheVariants as expected

-- Returns the tokens of the given kinds, as they are spelled by a tree whose leaves are token
-- indexes. The first token has the index `i`. The end of the text follows the last token.
abbrev pub indexed_terminals_of_kinds_with_end : ℕ → List TokenKind → List (Terminal ℕ)
indexed_terminals_of_kinds_with_end i [] = EndOfText ∷ []
indexed_terminals_of_kinds_with_end i (k ∷ ks) = indexed_terminal i k ∷ indexed_terminals_of_kinds_with_end (i + 1) ks

-- States that the descent through a text whose tokens have the kinds `kinds` has the end `stop`.
abbrev pub DescentOfKindsEndsWith : List TokenKind → DescentEnd → Type 0
DescentOfKindsEndsWith kinds stop = TextDescentEndsWith (indexed_terminals_of_kinds_with_end 0 kinds) stop

-- Returns the kind of a reserved word.
abbrev pub reserved_word_kind : ReservedWord → TokenKind
reserved_word_kind r = kind.ReservedWord r

-- Returns the kind of a symbol.
abbrev pub symbol_kind : Symbol → TokenKind
symbol_kind c = kind.Symbol c

-- The kind of an identifier.
abbrev pub identifier_kind : TokenKind
identifier_kind = kind.Identifier

-- The kind of each integer in the examples: the kind of the integer 1. The value doesn't matter.
abbrev pub kind_of_integer_one : TokenKind
kind_of_integer_one = kind.Integer 1

-- The kinds of the tokens `MODULE M ;`.
abbrev pub module_head_kinds : List TokenKind
module_head_kinds = reserved_word_kind reserved.Module ∷ identifier_kind ∷ symbol_kind symbol.Semicolon ∷ []

-- The kinds of the tokens `END M .`.
abbrev pub module_end_kinds : List TokenKind
module_end_kinds = reserved_word_kind reserved.End ∷ identifier_kind ∷ symbol_kind symbol.Dot ∷ []

-- Returns the list `ks` repeated `n` times.
abbrev pub repeated_kinds : ℕ → List TokenKind → List TokenKind
repeated_kinds zero ks = []
repeated_kinds (suc n) ks = ks ++ repeated_kinds n ks

-- States at which token the descent stops in each example of docs/LANGUAGE.md, and which token or
-- construct is expected there. In the last example the descent reads the whole text.
pub record ExampleDescentsStopWhereExpected : Type 0 where
  -- The empty text: MODULE is expected at its end.
  pub empty : DescentOfKindsEndsWith [] (Expects 0 (expected.Word reserved.Module))
  -- `MODULE M; BEGIN x = 1 END M.`: END is expected at `=`.
  pub equals_for_becomes : DescentOfKindsEndsWith
      (module_head_kinds ++ (reserved_word_kind reserved.Begin ∷ identifier_kind ∷ symbol_kind symbol.Equal ∷ kind_of_integer_one ∷ module_end_kinds))
      (Expects 5 (expected.Word reserved.End))
  -- `MODULE M; BEGIN x[0] END M.`: `:=` is expected at END.
  pub selector_without_becomes : DescentOfKindsEndsWith (module_head_kinds
      ++ (reserved_word_kind reserved.Begin
      ∷ identifier_kind
      ∷ symbol_kind symbol.LeftBracket
      ∷ kind_of_integer_one
      ∷ symbol_kind symbol.RightBracket
      ∷ module_end_kinds)) (Expects 8 (expected.Symbol symbol.Becomes))
  -- `MODULE M; VAR x INTEGER; END M.`: a colon is expected at INTEGER.
  pub no_colon : DescentOfKindsEndsWith
      (module_head_kinds ++ (reserved_word_kind reserved.Var ∷ identifier_kind ∷ identifier_kind ∷ symbol_kind symbol.Semicolon ∷ module_end_kinds))
      (Expects 5 (expected.Symbol symbol.Colon))
  -- `MODULE M; VAR x: ; END M.`: a type is expected at the second `;`.
  pub no_type : DescentOfKindsEndsWith (module_head_kinds
      ++ (reserved_word_kind reserved.Var ∷ identifier_kind ∷ symbol_kind symbol.Colon ∷ symbol_kind symbol.Semicolon ∷ module_end_kinds))
      (Expects 6 expected.Type)
  -- `MODULE M; END M. x`: the end of the text is expected at `x`.
  pub token_after_module : DescentOfKindsEndsWith (module_head_kinds ++ (module_end_kinds ++ (identifier_kind ∷ [])))
      (Expects 6 expected.EndOfText)
  -- `MODULE M; BEGIN WriteLn END M`: a full stop is expected at the end of the text.
  pub no_full_stop : DescentOfKindsEndsWith
      (module_head_kinds ++ (reserved_word_kind reserved.Begin ∷ identifier_kind ∷ reserved_word_kind reserved.End ∷ identifier_kind ∷ []))
      (Expects 7 (expected.Symbol symbol.Dot))
  -- `MODULE M; VAR UNTIL: INTEGER; END M.`: END is expected at UNTIL.
  pub reserved_word_as_name : DescentOfKindsEndsWith (module_head_kinds
      ++ (reserved_word_kind reserved.Var
      ∷ reserved_word_kind reserved.Until
      ∷ symbol_kind symbol.Colon
      ∷ identifier_kind
      ∷ symbol_kind symbol.Semicolon
      ∷ module_end_kinds)) (Expects 4 (expected.Word reserved.End))
  -- `MODULE M; BEGIN WriteLn END M.`: the descent reads the whole text.
  pub whole_module : DescentOfKindsEndsWith (module_head_kinds ++ (reserved_word_kind reserved.Begin ∷ identifier_kind ∷ module_end_kinds)) Done

-- States that the descent stops at the 101st of 101 nested constructs in three example texts. The
-- constructs are IF statements in the first text, procedures in the second, and array types in the
-- third.
pub record DeepExampleDescentsStopAtLevel101 : Type 0 where
  -- The text is `MODULE M; BEGIN`, 101 times `IF TRUE THEN`, 101 times END, and `END M.`
  pub ifs : DescentOfKindsEndsWith (module_head_kinds
      ++ (reserved_word_kind reserved.Begin
      ∷ (repeated_kinds 101 (reserved_word_kind reserved.If ∷ identifier_kind ∷ reserved_word_kind reserved.Then ∷ [])
      ++ (repeated_kinds 101 (reserved_word_kind reserved.End ∷ []) ++ module_end_kinds)))) (TooDeepAt 304)
  -- The text is `MODULE M;`, 101 times `PROCEDURE P;`, 101 times `END P;`, and `END M.`
  pub procedures : DescentOfKindsEndsWith (module_head_kinds
      ++ (repeated_kinds 101 (reserved_word_kind reserved.Procedure ∷ identifier_kind ∷ symbol_kind symbol.Semicolon ∷ [])
      ++ (repeated_kinds 101 (reserved_word_kind reserved.End ∷ identifier_kind ∷ symbol_kind symbol.Semicolon ∷ []) ++ module_end_kinds))) (TooDeepAt 303)
  -- The text is `MODULE M; VAR x:`, 101 times `ARRAY 1 OF`, and `INTEGER; END M.`
  pub arrays : DescentOfKindsEndsWith (module_head_kinds
      ++ (reserved_word_kind reserved.Var
      ∷ identifier_kind
      ∷ symbol_kind symbol.Colon
      ∷ (repeated_kinds 101 (reserved_word_kind reserved.Array ∷ kind_of_integer_one ∷ reserved_word_kind reserved.Of ∷ [])
      ++ (identifier_kind ∷ symbol_kind symbol.Semicolon ∷ module_end_kinds)))) (TooDeepAt 306)
