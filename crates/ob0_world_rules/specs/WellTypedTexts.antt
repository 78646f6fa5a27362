-- Defines well-typed texts, and texts with the same run.
-- Rule: docs/LANGUAGE.md, Types 8, Runs.
use Rattle.std.specs.Prelude.{◌≡◌, ◌≤◌, ℕ, List, [], ◌∷◌, length}
use Rattle.std.specs.List.{flat_map}
use Rattle.std.specs.Str.{IsUtf8}
use Rattle.ob0_scan.specs.declared.lexeme.LexemeKind.{LexemeKind}
use Rattle.ob0_scan.specs.declared.lexeme.LexemeKind.TheVariants as lexeme
use Rattle.ob0_scan.specs.TextLexemes.{Lexeme, LexesInto}
use Rattle.ob0_scan.specs.TextWithTokens.{max_text_length}
use Rattle.ob0_tree.specs.Terminals.{Terminal, terminal_of_kind}
use Rattle.ob0_tree.specs.Module.{max_nesting}
use Rattle.ob0_tree.specs.Tree.{Tree, module_text, spell, nesting}
use Rattle.ob0_language_names.specs.Names.{Name}
use Rattle.ob0_language_types.specs.WellTyped.{WellTyped}
use Rattle.ob0_language_runs.specs.EditLaws.{HaveSameRuns}
use Rattle.ob0_edits.specs.TextBytes.{utf8}

-- returns the leaves (terminals) of a syntax tree for a lexeme: one for a token, none for white
-- space or a comment
abbrev pub terminals_of_lexeme : LexemeKind → List ℕ → List (Terminal Name)
terminals_of_lexeme lexeme.WhiteSpace text = []
terminals_of_lexeme lexeme.Comment text = []
terminals_of_lexeme (lexeme.Token kind) text = terminal_of_kind text kind ∷ []

-- States that these bytes are the text of a module with this tree. The text has at most
-- `max_text_length` bytes, and the tree isn't nested deeper than `max_nesting`.
pub record IsModuleText (tree : Tree Name module_text) (bytes : List ℕ) : Type 0 where
  pub utf8 : IsUtf8 bytes
  pub lexemes : List Lexeme
  pub lexed : LexesInto bytes lexemes
  pub spelled : flat_map (λ l. terminals_of_lexeme l.kind l.text) lexemes ≡ spell tree
  pub short : length bytes ≤ max_text_length
  pub shallow : nesting tree ≤ max_nesting

-- In the definitions above, a text is a list of bytes. In the definitions below, it is a list of
-- characters.

-- states that the text is a module whose tree is well-typed (LANGUAGE.md, Scopes and Types)
pub record WellTypedText (text : List ℕ) : Type 0 where
  pub tree : Tree Name module_text
  pub text_of : IsModuleText tree (utf8 text)
  pub well_typed : WellTyped tree

-- States that the modules of these two texts have the same output and the same end. This holds for
-- every input, and for all bounds on calls and on the iterations of a loop (LANGUAGE.md, Runs). If
-- a text isn't a module, nothing is stated.
abbrev pub SameRun : List ℕ → List ℕ → Type 0
SameRun a b =
    (before after : Tree Name module_text)
    → IsModuleText before (utf8 a)
    → IsModuleText after (utf8 b)
    → HaveSameRuns before after
