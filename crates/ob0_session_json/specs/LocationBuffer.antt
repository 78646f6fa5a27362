-- Defines the bytes that the buffer for locations contains before a location's range is written
-- into it. `location_buffer_with_uri` makes this buffer.
use Rattle.std.specs.Prelude.{◌≡◌, ◌≤◌, ◌++◌, ◌∷◌, [], ℕ, List, codes, drop, length}
use Rattle.serde_json.specs.Data.{string}
use Rattle.serde_json.specs.Written.{compact_text}
use Rattle.ob0_rpc.specs.AppendedJson.{ReadsBack}

-- States that the buffer has at least 192 bytes, and that the bytes from the index 192 to the end
-- are the last part of a location's text: a comma, the member `uri` and the closing brace. The JSON
-- text of the uri reads back as the uri (`ReadsBack`). Nothing is stated about the first 192 bytes.
pub record EndsWithUriMember (uri buffer : List ℕ) : Type 0 where
  pub long_enough : 192 ≤ length buffer
  pub ends : drop 192 buffer
      ≡ 44 ∷ 34 ∷ (codes "uri" ++ 34 ∷ 58 ∷ (compact_text (string uri) ++ 125 ∷ []))
  pub reads : ReadsBack (string uri)
