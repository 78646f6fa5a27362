-- Defines look-ups and changes in the list of names that a scope keeps. The list has each name
-- once, with the index of its newest binding.
-- Rule: none; used in private contracts about this list.
use Rattle.std.specs.Prelude.{◌≡◌, ◌<◌, ℕ, suc, List, [], ◌∷◌, Option, Some, None, if◌then◌else◌, length, option_map, slice_index_or}
use Rattle.std.specs.BTreeMap.{BTreeMap, get_by}
use Rattle.ob0_scope_numbering.specs.declared.newest_bindings.NameEntry.{NameEntry}
use Rattle.ob0_scope_numbering.specs.NameKeys.{NameKey, compare_name_with_key}
use Rattle.ob0_language_names.specs.Names.{Name, same_name}

-- Returns the index of a name's newest binding. Returns None if the name has no binding or isn't in
-- the list.
abbrev pub newest_binding_in : List NameEntry → Name → Option ℕ
newest_binding_in [] x = None
newest_binding_in (e ∷ es) x = if same_name x e.name.now then e.newest else newest_binding_in es x

-- returns the position of a name in the list, counted from 0, or None if the name isn't in the list
abbrev pub position_of_name : List NameEntry → Name → Option ℕ
position_of_name [] x = None
position_of_name (e ∷ es) x = if same_name x e.name.now then Some 0 else option_map suc (position_of_name es x)

-- States that after a change the newest binding of the name `x` has the index `newest`. If `newest`
-- is None, `x` has no binding. All other names keep their newest bindings.
abbrev pub SetsNewestBinding : List NameEntry → List NameEntry → Name → Option ℕ → Type 0
SetsNewestBinding before after x newest =
    (y : Name) → newest_binding_in after y ≡ (if same_name x y then newest else newest_binding_in before y)

-- States that the map has each name's position in the list, and that no name is in the list twice.
pub record AreNamePositions (name_positions : BTreeMap NameKey ℕ) (entries : List NameEntry) : Type 0 where
  pub placed : (x : Name) → get_by (compare_name_with_key x) name_positions ≡ position_of_name entries x
  pub distinct : (i : ℕ) (d : NameEntry)
      → i < length entries
      → position_of_name entries (slice_index_or entries i d).name.now ≡ Some i

-- states that the name `x` was added at the end of the list, and that the other names keep their
-- positions
abbrev pub AppendsName : List NameEntry → List NameEntry → Name → Type 0
AppendsName before after x =
    (y : Name)
    → position_of_name after y ≡ (if same_name x y then Some (length before) else position_of_name before y)

-- states that each name in the list keeps its position
abbrev pub KeepsNamePositions : List NameEntry → List NameEntry → Type 0
KeepsNamePositions before after =
    (y : Name) → (i : ℕ) → position_of_name before y ≡ Some i → position_of_name after y ≡ Some i

-- states that each name keeps its newest binding, or still has none
abbrev pub KeepsNewestBindings : List NameEntry → List NameEntry → Type 0
KeepsNewestBindings before after = (y : Name) → newest_binding_in after y ≡ newest_binding_in before y
