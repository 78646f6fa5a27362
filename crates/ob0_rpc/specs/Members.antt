-- Defines how the members of params are read: texts, numbers, positions and ranges.
-- Rule: docs/PROTOCOL.md, Contents 4, 5, JSON shapes 4.
use Rattle.std.specs.Prelude.{ℕ, ℤ, List, Bool, true, false, Option, Some, None, option_map, option_and_then, codes}
use Rattle.std.specs.Str.{chars}
use Rattle.serde_json.specs.Data.{Data, null, boolean, number, string, array, object}
use Rattle.serde_json.specs.Find.{get, as_str, as_bool, as_number, as_i64, as_u64}
use Rattle.ob0_text.specs.declared.position_types.Position.{Position}
use Rattle.ob0_text.specs.declared.position_types.Range.{Range}

-- Returns whether an optional member is absent (None) or null.
abbrev pub is_absent_or_null : Option Data → Bool
is_absent_or_null None = true
is_absent_or_null (Some null) = true
is_absent_or_null (Some (boolean b)) = false
is_absent_or_null (Some (number n)) = false
is_absent_or_null (Some (string s)) = false
is_absent_or_null (Some (array ds)) = false
is_absent_or_null (Some (object ms)) = false

-- Returns the text of the member with this name, or None if the member is absent or isn't a string.
abbrev pub text_member : List ℕ → Data → Option (List ℕ)
text_member name d = option_and_then as_str (get name d)

-- Returns the value of the boolean member with this name, or None if the member is absent or isn't
-- a boolean.
abbrev pub bool_member : List ℕ → Data → Option Bool
bool_member name d = option_and_then as_bool (get name d)

-- Returns the value of the member with this name, a whole number from 0 to 2^64-1. Returns None if
-- the member is absent or isn't such a number.
abbrev pub unsigned_member : List ℕ → Data → Option ℕ
unsigned_member name d = option_and_then as_u64 (option_and_then as_number (get name d))

-- Returns the member with this name of the object `textDocument` in params. Returns None if the
-- object or the member is absent.
abbrev pub document_member : List ℕ → Data → Option Data
document_member name params = option_and_then (get name) (get (codes "textDocument") params)

-- Returns the uri of the document in params (`textDocument.uri`), in bytes of UTF-8. Returns None
-- if the uri is missing or isn't a string.
abbrev pub document_uri : Data → Option (List ℕ)
document_uri params = option_and_then as_str (document_member (codes "uri") params)

-- Returns the version of the document in params (`textDocument.version`). Returns None if the
-- version is missing or isn't a signed whole number of 64 bits.
abbrev pub document_version : Data → Option ℤ
document_version params =
    option_and_then as_i64 (option_and_then as_number (document_member (codes "version") params))

-- Returns the text of the document in params (`textDocument.text`), in characters. Returns None if
-- the text is missing or isn't a string.
abbrev pub document_text : Data → Option (List ℕ)
document_text params = option_map chars (option_and_then as_str (document_member (codes "text") params))

-- Returns the position with this line and this character, or None if either is None.
abbrev pub position_from_parts : Option ℕ → Option ℕ → Option Position
position_from_parts (Some line) (Some character) = Some (record { line = line; character = character })
position_from_parts (Some line) None = None
position_from_parts None character = None

-- Reads a value {"character":c,"line":l} as a position. Returns None if one of the two members
-- can't be read.
abbrev pub position_from_json : Data → Option Position
position_from_json d = position_from_parts (unsigned_member (codes "line") d) (unsigned_member (codes "character") d)

-- Returns the position in the member with this name, or None if the member is absent or isn't a
-- position.
abbrev pub position_member : List ℕ → Data → Option Position
position_member name d = option_and_then position_from_json (get name d)

-- Returns the range with this start and this end, or None if either is None.
abbrev pub range_from_parts : Option Position → Option Position → Option Range
range_from_parts (Some start) (Some end) = Some (record { start = start; end = end })
range_from_parts (Some start) None = None
range_from_parts None end = None

-- Reads a value {"end":P,"start":P} as a range. Returns None if one of the two members can't be
-- read.
abbrev pub range_from_json : Data → Option Range
range_from_json d = range_from_parts (position_member (codes "start") d) (position_member (codes "end") d)

-- Returns the range in the member with this name, or None if the member is absent or isn't a range.
abbrev pub range_member : List ℕ → Data → Option Range
range_member name d = option_and_then range_from_json (get name d)
