-- Defines the width of a character in each unit of positions.
-- Rule: docs/PROTOCOL.md, Positions 1.
use Rattle.std.specs.Prelude.{ℕ, Bool, true, false, refl}
use Rattle.std.specs.Char.{len_utf8}
use Rattle.std.specs.Coded.{Coded, code_by, coded_bool}
use Rattle.ob0_text.specs.declared.position_types.Unit as unit
use Rattle.ob0_text.specs.declared.position_types.Unit.TheVariants.{Utf16, Utf8}
use Rattle.ob0_text.specs.Texts.{utf16_width}

-- Returns the width of a character in this unit: its number of UTF-16 units, or of bytes in UTF-8.
abbrev pub width_of : unit.Unit → ℕ → ℕ
width_of Utf16 = utf16_width
width_of Utf8 = len_utf8

-- Returns whether the unit is bytes of UTF-8.
abbrev pub is_utf8_unit : unit.Unit → Bool
is_utf8_unit Utf16 = false
is_utf8_unit Utf8 = true

-- Returns the unit UTF-8 if the argument is true, otherwise UTF-16. This is the inverse of
-- `is_utf8_unit`.
abbrev pub unit_from_utf8_flag : Bool → unit.Unit
unit_from_utf8_flag false = Utf16
unit_from_utf8_flag true = Utf8

-- The encoding of a unit as a boolean, which can be decoded again (`Coded`). The encodings of texts
-- and documents use it.
abbrev pub coded_position_unit : Coded unit.Unit
coded_position_unit = code_by Bool coded_bool is_utf8_unit unit_from_utf8_flag (elim [ Utf16 ↦ refl | Utf8 ↦ refl ])
