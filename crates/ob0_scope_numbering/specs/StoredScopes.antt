-- Defines a scope as the code stores it: bindings, oldest first, each with the index of the binding
-- that it hides.
-- Rule: none; used in contracts about stored scopes.
use Rattle.std.specs.Prelude.{◌≡◌, ℕ, List, [], ◌∷◌, Option, Some, None, if◌then◌else◌, map, length, reverse}
use Rattle.ob0_scope_numbering.specs.declared.scope_bindings.Binding.{Binding}
use Rattle.ob0_scope_numbering.specs.declared.newest_bindings.NameEntry.{NameEntry}
use Rattle.ob0_scope_numbering.specs.NewestBindingList.{newest_binding_in, position_of_name}
use Rattle.ob0_language_names.specs.Names.{Name, same_name}
use Rattle.ob0_language_names.specs.Scopes.{Scope}

-- returns the scope of these bindings, which are given oldest first
abbrev pub scope_of_bindings : List Binding → Scope Name
scope_of_bindings bindings = map (λ b. (b.name.now, b.ordinal)) (reverse bindings)

-- Returns the index of a name's newest binding, counted from the oldest of the bindings. The
-- bindings are given newest first. Returns None if the name has no binding.
abbrev pub newest_binding_index : Name → List Binding → Option ℕ
newest_binding_index x [] = None
newest_binding_index x (b ∷ bs) = if same_name x b.name.now then Some (length bs) else newest_binding_index x bs

-- States that each binding's `hidden_binding_index` is the index of the binding that it hides, or
-- None if it hides none. The bindings are given newest first, but their indexes count from the
-- oldest binding.
abbrev pub HiddenBindingIndexesAreCorrect : List Binding → Type 0
HiddenBindingIndexesAreCorrect [] = Unit {0}
HiddenBindingIndexesAreCorrect (b ∷ bs) = (b.hidden_binding_index ≡ newest_binding_index b.name.now bs) × HiddenBindingIndexesAreCorrect bs

-- States that the list `newest` has the index of each name's newest binding. Each binding must also
-- have the index of the binding that it hides. The bindings are given oldest first.
pub record HasCorrectBindingIndexes (newest : List NameEntry) (bindings : List Binding) : Type 0 where
  pub found : (x : Name) → newest_binding_in newest x ≡ newest_binding_index x (reverse bindings)
  pub hidden_binding_index : HiddenBindingIndexesAreCorrect (reverse bindings)

-- The names that are visible at a point of a text, and `new_name`, the name that a renaming
-- introduces.
pub record VisibleNames : Type 0 where
  pub new_name : Name
  pub scope : Scope Name

-- returns these visible names with another scope and the same `new_name`
abbrev pub with_scope : VisibleNames → Scope Name → VisibleNames
with_scope v scope = record { new_name = v.new_name; scope = scope }

-- states that each binding has the position of its name in the list `newest`
abbrev pub EachBindingHasNamePosition : List NameEntry → List Binding → Type 0
EachBindingHasNamePosition newest [] = Unit {0}
EachBindingHasNamePosition newest (b ∷ bs) =
    (position_of_name newest b.name.now ≡ Some b.name_position) × EachBindingHasNamePosition newest bs

-- States that the list `newest` has the index of each name's newest binding. Each binding has the
-- index of the binding that it hides, and the position of its name in the list. The name `new` that
-- the renaming introduces has the first position.
pub record IsConsistentScope (new : Name) (newest : List NameEntry) (bindings : List Binding) : Type 0 where
  pub is : HasCorrectBindingIndexes newest bindings
  pub placed : EachBindingHasNamePosition newest bindings
  pub first : position_of_name newest new ≡ Some 0
