-- Defines how an entry of a table of ordinals is stored as a number of 32 bits. An ordinal is a
-- declaration's number.
-- Rule: none; used in contracts about tables of ordinals.
use Rattle.std.specs.Prelude.{ℕ, zero, suc, min, Option, Some, None, option_map}

-- the greatest ordinal that an entry can have
abbrev pub max_entry_ordinal : ℕ
max_entry_ordinal = 4294967294

-- Returns an optional ordinal as an entry stores it. An ordinal above `max_entry_ordinal` is stored
-- as `max_entry_ordinal`.
abbrev pub stored_ordinal : Option ℕ → Option ℕ
stored_ordinal ordinal = option_map (λ n. min n max_entry_ordinal) ordinal

-- returns the ordinal that an entry with this number has: the number minus 1, or None for 0
abbrev pub ordinal_from_entry_number : ℕ → Option ℕ
ordinal_from_entry_number zero = None
ordinal_from_entry_number (suc n) = Some n

-- returns the number that an entry has for an optional ordinal: the ordinal plus 1, or 0 for None
abbrev pub entry_number_of_ordinal : Option ℕ → ℕ
entry_number_of_ordinal None = 0
entry_number_of_ordinal (Some n) = suc n
