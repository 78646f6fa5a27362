-- Defines the bytes of a text that is given by its characters.
-- Rule: none; used in contracts about texts that are given by their characters.
use Rattle.std.specs.Prelude.{ℕ, List, encode_utf8_all}

-- Returns the UTF-8 bytes of a text that is given by its characters.
abbrev pub utf8 : List ℕ → List ℕ
utf8 text = encode_utf8_all text
