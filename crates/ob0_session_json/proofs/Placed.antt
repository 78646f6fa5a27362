-- Proves that building a location's text backwards from its end gives the JSON text of the
-- location.
use Rattle.std.proofs.Common.{◌≡◌, ◌∙◌, ◌≤◌, ◌+◌, ◌-◌, ℕ, List, [], ◌∷◌, ◌++◌, Bool, true, false, length, drop, codes, ap, arith, refl, sym, append-nil, length-append, if◌then◌else◌}
use Rattle.std.proofs.lemmas.List.{drop-drop, drop_at, length-drop}
use Rattle.serde_json.specs.Data.{string}
use Rattle.serde_json.specs.Written.{comma_if, compact_text}
use Rattle.ob0_text.specs.declared.position_types.Range.{Range}
use Rattle.ob0_rpc.specs.AppendedJson.{AppendsListItem, ReadsBack}
use Rattle.ob0_rpc.specs.JsonShapes.{range_value}
use Rattle.ob0_rpc.proofs.AppendedJson.{name, object_text_of_two, read_two}
use Rattle.ob0_session_json.specs.LocationBuffer.{EndsWithUriMember}
use Rattle.ob0_session_json.specs.JsonShapes.{location_value_of_range}

-- If a text was written right before index 192, the bytes at index 192 and later are unchanged.
pub kept : (old new text : List ℕ) (at : ℕ) → length new ≡ length old → 192 ≤ length old → at ≤ 192 → drop at new ≡ text ++ drop 192 old → drop 192 new ≡ drop 192 old
kept old new text at same long low is =
    let count : length text ≡ 192 - at = omega (arith, ap length is, length-drop at new, length-append text (drop 192 old), length-drop 192 old, same, long, low) in
    let there : 192 ≡ at + (192 - at) = omega (arith, low) in
    ap (λ n. drop n new) there ∙ sym (drop-drop (192 - at) at new) ∙ ap (drop (192 - at)) is ∙ drop_at text (drop 192 old) (192 - at) count

module _ (uri : List ℕ) (range : Range) (at : ℕ) (before buffer : List ℕ) (ends : EndsWithUriMember uri before) (put : drop at buffer ≡ codes ",{\"range\":" ++ (compact_text (range_value range.start range.end) ++ drop 192 before)) where
  whole : drop at buffer ≡ 44 ∷ compact_text (location_value_of_range uri range)
  whole =
      put ∙ ap (λ t. codes ",{\"range\":" ++ (compact_text (range_value range.start range.end) ++ t)) ends.ends
      ∙ ap (λ t. 44 ∷ t) (object_text_of_two (codes "range") (codes "uri") (range_value range.start range.end) (string uri) [] (name (codes "range") refl refl) (name (codes "uri") refl refl) ∙ append-nil _)

  text_put : (needs_comma : Bool) (old new : List ℕ) → new ≡ old ++ drop (if needs_comma then at else at + 1) buffer → new ≡ old ++ (comma_if needs_comma ++ compact_text (location_value_of_range uri range))
  text_put true old new is = is ∙ ap (λ t. old ++ t) whole
  text_put false old new is = is ∙ ap (λ t. old ++ t) (sym (drop-drop 1 at buffer) ∙ ap (drop 1) whole)

  -- Appending a location's text from such a buffer, with or without its comma, appends that
  -- location as an item of a list.
  pub location_put : (needs_comma : Bool) (old new : List ℕ) → ReadsBack (range_value range.start range.end) → new ≡ old ++ drop (if needs_comma then at else at + 1) buffer → AppendsListItem needs_comma (location_value_of_range uri range) old new
  location_put needs_comma old new reads is = record {
    text = text_put needs_comma old new is;
    reads = read_two (codes "range") (codes "uri") (range_value range.start range.end) (string uri) (name (codes "range") refl refl) (name (codes "uri") refl refl) refl reads ends.reads;
  }

pub still_ends : (uri old new : List ℕ) → length new ≡ length old → drop 192 new ≡ drop 192 old → EndsWithUriMember uri old → EndsWithUriMember uri new
still_ends uri old new same stays ends = record { long_enough = omega (arith, ends.long_enough, same); ends = stays ∙ ends.ends; reads = ends.reads }
