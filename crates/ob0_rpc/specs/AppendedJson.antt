-- Defines what it means to append JSON text to an output's bytes: the text of a value, of list
-- items, or of an object's members.
-- Rule: none; used in the contracts of functions that write JSON.
use Rattle.std.specs.Prelude.{◌≡◌, ◌++◌, ℕ, List, [], ◌∷◌, Bool, true, Option, Some, None, ⊤}
use Rattle.std.specs.Str.{IsUtf8}
use Rattle.json.specs.Tree.{HasNumbers}
use Rattle.serde_json.specs.Data.{Data, Members, member, no_members, null}
use Rattle.serde_json.specs.Read.{of_json}
use Rattle.serde_json.specs.Written.{comma_if, compact_text, outline}

-- States that the value's compact JSON text (without added white space) is UTF-8, and that reading
-- this text gives the value. This requires that whole numbers fit in 64 bits, that texts are UTF-8,
-- and that the members of each object have different names, in byte order.
pub record ReadsBack (value : Data) : Type 0 where
  pub reads : of_json (outline value) ≡ Some value
  pub numbers : HasNumbers (outline value)
  pub utf8 : IsUtf8 (compact_text value)

-- States that each of these values reads back from its text (`ReadsBack`).
abbrev pub AllReadBack : List Data → Type 0
AllReadBack [] = ⊤
AllReadBack (value ∷ values) = ReadsBack value × AllReadBack values

-- Returns the texts of the values, with commas between them. If `needs_comma` is true, a comma also
-- precedes the first text.
abbrev pub comma_separated_texts : Bool → List Data → List ℕ
comma_separated_texts needs_comma [] = []
comma_separated_texts needs_comma (value ∷ values) = comma_if needs_comma ++ (compact_text value ++ comma_separated_texts true values)

-- States that `new` is `old` followed by the value's text, and that this text reads back as the
-- value.
pub record AppendsValue (value : Data) (old new : List ℕ) : Type 0 where
  pub text : new ≡ old ++ compact_text value
  pub reads : ReadsBack value

-- States that `new` is `old` followed by the texts of these values, with commas between them. If
-- `needs_comma` is true, a comma also precedes the first text. Each text reads back as its value.
pub record AppendsEachValue (needs_comma : Bool) (values : List Data) (old new : List ℕ) : Type 0 where
  pub text : new ≡ old ++ comma_separated_texts needs_comma values
  pub reads : AllReadBack values

-- States that `new` is `old` followed by the value's text, with a comma between the two if
-- `needs_comma` is true. The value's text reads back as the value.
pub record AppendsListItem (needs_comma : Bool) (value : Data) (old new : List ℕ) : Type 0 where
  pub text : new ≡ old ++ (comma_if needs_comma ++ compact_text value)
  pub reads : ReadsBack value

-- States that `new` is `old` followed by one member of an object. The added bytes are `before` (an
-- opening brace or a comma), the name in quotes, a colon and the value's text. The value's text
-- reads back as the value.
pub record AppendsMember (before : ℕ) (name : List ℕ) (value : Data)
    (old new : List ℕ) : Type 0 where
  pub text : new ≡ old ++ before ∷ 34 ∷ (name ++ 34 ∷ 58 ∷ compact_text value)
  pub reads : ReadsBack value

-- States that `new` is `old` followed by these members of an object and the closing brace. The byte
-- `before` precedes the first of these members, and a comma precedes each of the others. Each
-- value's text reads back as the value.
abbrev pub AppendsMembersAndBrace : ℕ → Members → List ℕ → List ℕ → Type 0
AppendsMembersAndBrace before no_members old new = new ≡ old ++ 125 ∷ []
AppendsMembersAndBrace before (member name value members) old new =
    (mid : List ℕ) × AppendsMember before name value old mid × AppendsMembersAndBrace 44 members mid new

-- Returns the JSON value of an optional value: `value a` for `Some a`, and the JSON value null for
-- None.
abbrev pub json_or_null : {A : Type 0} → (A → Data) → Option A → Data
json_or_null value (Some a) = value a
json_or_null value None = null
