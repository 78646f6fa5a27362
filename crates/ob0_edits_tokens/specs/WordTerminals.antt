-- Converts a word of a text (a token's kind and spelling) to the terminal that a tree spells for
-- this token.
-- Rule: none; used in contracts about making edits.
use Rattle.std.specs.Prelude.{List, ℕ}
use Rattle.ob0_scan.specs.TextWithTokens.{Word}
use Rattle.ob0_tree.specs.Terminals.{Terminal, terminal_of_kind}

-- Returns the terminal that a tree spells for a word. The terminal of an identifier has the
-- identifier's text, and the terminal of an integer has the integer's value.
abbrev pub terminal_of_word : Word → Terminal (List ℕ)
terminal_of_word w = terminal_of_kind w.text w.kind
