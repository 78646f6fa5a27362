-- Defines the number of spaces in one level of indentation.
-- Rule: docs/PROTOCOL.md, Requests on documents 8.
use Rattle.std.specs.Prelude.{ℕ, max, min}

-- The greatest number of spaces in one level of indentation.
abbrev pub max_spaces_per_level : ℕ
max_spaces_per_level = 16

-- Returns the number of spaces in one level of indentation if a client requests `n` spaces. The
-- result is `n`, but at least 1 and at most 16.
abbrev pub indent_spaces_for_tab_size : ℕ → ℕ
indent_spaces_for_tab_size n = max 1 (min n max_spaces_per_level)
