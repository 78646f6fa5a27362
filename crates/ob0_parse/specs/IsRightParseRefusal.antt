-- States when the parser's refusal of a text is right: which token it must report, and for which
-- reason.
-- Rule: docs/LANGUAGE.md, Syntax faults 1.
use Rattle.std.specs.Prelude.{◌≡◌, ℕ, ◌+◌, ◌≤◌, List, [], ◌∷◌, ◌++◌, take, length}
use Rattle.ob0_scan.specs.TextWithTokens.{TextWithTokens}
use Rattle.ob0_tree.specs.Terminals.{Terminal, EndOfText}
use Rattle.ob0_tree.specs.Tree.{Tree, module_text, spell, nesting}
use Rattle.ob0_tree.specs.Module.{max_nesting, terminals_of_text}
use Rattle.ob0_tree.specs.TokenIndexLeaves.{indexed_terminals}
use Rattle.ob0_parse_descent.specs.Descent.{Expects, TooDeepAt, TextDescentEndsWith}
use Rattle.ob0_parse_descent.specs.declared.refusal.ParseRefusal.{ParseRefusal}
use Rattle.ob0_parse_descent.specs.declared.refusal.ParseRefusal.TheVariants.{Syntax, TooDeep, Memory}

-- States that no module with at most `max_nesting` levels of nesting begins with the first `i + 1`
-- tokens of the text. The end of the text counts as a token.
abbrev pub NoModuleBeginsWithTokens : TextWithTokens → ℕ → Type 0
NoModuleBeginsWithTokens s i = (t : Tree (List ℕ) module_text) (more : List (Terminal (List ℕ)))
    → nesting t ≤ max_nesting
    → spell t ++ (EndOfText ∷ []) ≡ take (i + 1) (terminals_of_text s ++ (EndOfText ∷ [])) ++ more → ⊥

-- States that the parser's refusal is right. The refusal `Memory`, a failed allocation, is always
-- right. The refusal `Syntax` or `TooDeep` at the token `i`, which may be the end of the text, is
-- right if two conditions hold:
-- - No module with at most `max_nesting` levels of nesting begins with the tokens up to and
--   including `i`.
-- - The descent stops at `i` for the reason that the refusal gives.
abbrev pub IsRightParseRefusal : TextWithTokens → ParseRefusal → Type 0
IsRightParseRefusal s (Syntax i expected) =
    (i ≤ length s.tokens) × NoModuleBeginsWithTokens s i × TextDescentEndsWith (indexed_terminals s.tokens) (Expects i expected)
IsRightParseRefusal s (TooDeep i) =
    (i ≤ length s.tokens) × NoModuleBeginsWithTokens s i × TextDescentEndsWith (indexed_terminals s.tokens) (TooDeepAt i)
IsRightParseRefusal s Memory = Unit {0}
