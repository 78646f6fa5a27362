-- Defines the keys of names in a map. A key is a name preceded by a number made of the name's last
-- eight bytes, which distinguish most names.
-- Rule: none; used in private contracts about the map from names to their positions.
use Rattle.std.specs.Prelude.{ℕ, ◌+◌, ◌-◌, ◌*◌, ◌%◌, ◌^◌, List, [], ◌∷◌, drop, length}
use Rattle.std.specs.Borrow.{Bor}
use Rattle.std.specs.declared.cmp.Ordering.{Ordering}
use Rattle.std.specs.Cmp.Lexicographic.{slice_cmp}
use Rattle.std.specs.Ordering.{nat_cmp, ordering_then}
use Rattle.ob0_language_names.specs.Names.{Name}

-- appends a byte to a number as its last base-256 digit, modulo 2^64
abbrev pub append_byte : ℕ → ℕ → ℕ
append_byte number byte = (number * 256 % 2 ^ 64 + byte) % 2 ^ 64

-- appends bytes to a number, one after another, as its last base-256 digits, modulo 2^64
abbrev pub append_bytes : List ℕ → ℕ → ℕ
append_bytes [] number = number
append_bytes (byte ∷ bytes) number = append_bytes bytes (append_byte number byte)

-- returns the number that precedes a name in its key, made of the name's last eight bytes
abbrev pub number_from_last_bytes : Name → ℕ
number_from_last_bytes x = append_bytes (drop (length x - 8) x) 0

-- a key of the map: a name preceded by the number made of its last eight bytes
abbrev pub NameKey : Type 0
NameKey = ℕ × Bor Name

-- compares two keys by their numbers, and by their names if the numbers are equal
abbrev pub compare_keys : NameKey → NameKey → Ordering
compare_keys a b = ordering_then (nat_cmp a.0 b.0) (slice_cmp nat_cmp a.1.now b.1.now)

-- compares the key that the name `x` would have with the key `key`, as `compare_keys` does
abbrev pub compare_name_with_key : Name → NameKey → Ordering
compare_name_with_key x key = ordering_then (nat_cmp (number_from_last_bytes x) key.0) (slice_cmp nat_cmp x key.1.now)
