-- Proves that the compact texts of the example's JSON values read back as these values.
use Rattle.std.proofs.Common.{◌≡◌, ◌≤◌, ℕ, true, false, List, [], ◌∷◌, ◌++◌, Some, refl, arith}
use Rattle.std.specs.Prelude.{decimal, nat_lt, ⊤}
use Rattle.std.proofs.lemmas.Bool.{ltb-true}
use Rattle.std.specs.Fmt.{digits}
use Rattle.json.specs.Print.{escape}
use Rattle.serde_json.specs.Data.{Data, null, boolean, number, string, array, object, unsigned, Members, no_members, member, depth}
use Rattle.serde_json.specs.View.{items_of}
use Rattle.serde_json.specs.Written.{compact_text}
use Rattle.ob0_rpc.specs.AppendedJson.{AppendsMembersAndBrace, AllReadBack, ReadsBack, comma_separated_texts}
use Rattle.ob0_rpc.specs.Messages.{IsJsonOfContent}
use Rattle.ob0_rpc.specs.WrittenMessages.{Writes}
use Rattle.ob0_rpc.proofs.AppendedJson.{are_names, array_of, count_written, object_of, rebuilt, text_written, written}
use Rattle.ob0_world_worked.proofs.WorkedTexts.{is_ascii_text, utf8_so}

pub text_read : {s : List ℕ} → is_ascii_text s ≡ true → ReadsBack (string s)
text_read {s} h = (text_written s [] (34 ∷ []) (34 ∷ escape s) ((34 ∷ escape s) ++ 34 ∷ []) (utf8_so s h) refl refl refl).reads

pub count_read : (n : ℕ) → nat_lt n 1000 ≡ true → is_ascii_text (decimal n) ≡ true → ReadsBack (number (unsigned n))
count_read n small h = (count_written n [] (decimal n) (let low = ltb-true n 1000 small in omega (arith, low)) (utf8_so (decimal n) h) refl).reads

pub zero_text : decimal 0 ≡ 48 ∷ []
unfolding digits
zero_text = refl

pub one_text : decimal 1 ≡ 49 ∷ []
unfolding digits
one_text = refl

pub two_text : decimal 2 ≡ 50 ∷ []
unfolding digits
two_text = refl

pub null_read : ReadsBack null
null_read = record { reads = refl; numbers = tt; utf8 = utf8_so (compact_text null) refl }

pub truth_read : ReadsBack (boolean true)
truth_read = record { reads = refl; numbers = tt; utf8 = utf8_so (compact_text (boolean true)) refl }

pub empty_read : ReadsBack (object no_members)
empty_read = record { reads = refl; numbers = tt; utf8 = utf8_so (compact_text (object no_members)) refl }

abbrev pub AllRead : Members → Type 0
AllRead no_members = ⊤
AllRead (member k d ms) = ReadsBack d × AllRead ms

appended : (before : ℕ) (ms : Members) (old : List ℕ) → AllRead ms → (new : List ℕ) × AppendsMembersAndBrace before ms old new
appended before no_members old h = (old ++ 125 ∷ [], refl)
appended before (member k d ms) old h =
    let mid : List ℕ = old ++ before ∷ 34 ∷ (k ++ 34 ∷ 58 ∷ compact_text d) in
    let rest = appended 44 ms mid h.1 in
    (rest.0, (mid, record { text = refl; reads = h.0 }, rest.1))

pub object_read : {k : List ℕ} {d : Data} {ms : Members} → are_names (member k d ms) ≡ true → rebuilt (member k d ms) no_members ≡ member k d ms → AllRead (member k d ms) → ReadsBack (object (member k d ms))
object_read {k} {d} {ms} names order h = let all = appended 123 (member k d ms) [] h in (object_of k d ms [] all.0 names order all.1).reads

pub array_read : (ds : List Data) → AllReadBack ds → ReadsBack (array (items_of ds))
array_read ds h = (array_of ds [] (91 ∷ []) ((91 ∷ []) ++ comma_separated_texts false ds) (((91 ∷ []) ++ comma_separated_texts false ds) ++ 93 ∷ []) refl (record { text = refl; reads = h }) refl).reads

-- ---- contents

unfoldable pub content_of : Data → List ℕ
content_of d = compact_text d

pub depth_so : (d : Data) → nat_lt (depth d) 128 ≡ true → depth d ≤ 127
depth_so d h = let low = ltb-true (depth d) 128 h in omega (arith, low)

pub written_so : (d : Data) → ReadsBack d → nat_lt (depth d) 128 ≡ true → Writes d (content_of d)
unfolding content_of
written_so d r shallow = written d [] (compact_text d) refl (record { text = refl; reads = r }) (depth_so d shallow)

pub reads_so : (d : Data) → ReadsBack d → nat_lt (depth d) 128 ≡ true → IsJsonOfContent (content_of d) (Some d)
reads_so d r shallow = (written_so d r shallow).reads
