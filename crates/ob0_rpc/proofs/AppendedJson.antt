-- Proves that values whose texts are written one after another read back as these values.
-- `object_of` proves this for an object, from the contracts of the calls that wrote it, in order.
-- If the names are literals, two proofs by `refl` show that they need no escape and are in order.
-- `array_of` proves it for a list, whose loop uses `each_none`, `each_next` and `each_done`.
-- `written` proves it for a message: if nothing was written before, the bytes are the value's text.
-- `position_written` and `range_text` have the written pieces as arguments, in order.
use Rattle.std.proofs.Common.{◌≡◌, ◌∙◌, ◌≤◌, ◌<◌, ◌^◌, ℕ, zero, suc, ℤ, pos, negsuc, List, [], ◌∷◌, ◌++◌, Bool, true, false, Option, Some, option_map, option_and_then, decimal, SFits, w64, length, take, get_or, map, ◌+◌, refl, sym, ap, ap₂, subst, arith, add-one, append_assoc, append-nil, take_all, nat_le, nat_lt, ◌&&◌, ◌==◌, not, codes}
use Rattle.std.proofs.Math.Bool.{and-true as and_true}
use Rattle.std.proofs.lemmas.Bool.{and_parts, eqb-false, leb-true, lt-ltb, not-true}
use Rattle.std.proofs.lemmas.List.{map-append}
use Rattle.std.proofs.lemmas.Fmt.{IsAscii-decimal}
use Rattle.std.proofs.lemmas.Str.{IsUtf8-append, IsUtf8-nil, IsUtf8-from_ascii}
use Rattle.std.proofs.Math.Seq.{take-suc}
use Rattle.serde_json.specs.View.{items_of}
use Rattle.std.specs.Fmt.{signed_decimal}
use Rattle.std.specs.Str.{IsUtf8}
use Rattle.json.specs.Json as json
use Rattle.json.specs.Lex.{tokens}
use Rattle.json.specs.Print.{escape, escape_byte, quoted}
use Rattle.json.specs.Token.{Token}
use Rattle.json.specs.Tree as tree
use Rattle.json.proofs.Printed.Decimals.{IsNumber-decimal, IsNumber-signed_decimal}
use Rattle.json.proofs.Printed.Strings.{escape_byte_plain}
use Rattle.json.proofs.Printed.Tokens.{tokens-print}
use Rattle.json.proofs.Printed.Trees.{ArePrintable-json_tokens, value-json_tokens}
use Rattle.json.proofs.Printed.Utf8.{are_ascii, IsUtf8-are_ascii, IsUtf8-quoted}
use Rattle.serde_json.specs.Data.{Data, null, boolean, number, string, array, object, unsigned, Items, no_items, item, Members, no_members, member, depth, items_depth, members_depth, put}
use Rattle.serde_json.specs.Find.{of_integer}
use Rattle.serde_json.specs.Read.{read, of_items, of_json, of_members, max_depth}
use Rattle.serde_json.specs.Written.{comma_if, compact_text, items_text, members_text, outline, items_outline, members_outline}
use Rattle.serde_json.proofs.Numbers.{number_of-decimal, number_of-negative}
use Rattle.serde_json.proofs.Texts.{print-outline}
use Rattle.ob0_text.specs.declared.position_types.Position.{Position}
use Rattle.ob0_rpc.specs.AppendedJson.{AppendsValue, AppendsEachValue, AppendsListItem, AppendsMember, AppendsMembersAndBrace, AllReadBack, ReadsBack, comma_separated_texts}
use Rattle.ob0_rpc.specs.JsonShapes.{position_value, range_value}
use Rattle.ob0_rpc.specs.WrittenMessages.{Writes}

-- ---- the outline of a value nests no deeper than the value

mutual
  outline_depth : (d : Data) → tree.depth (outline d) ≤ depth d
  outline_depth null = omega arith
  outline_depth (boolean b) = omega arith
  outline_depth (number n) = omega arith
  outline_depth (string s) = omega arith
  outline_depth (array ds) = omega (arith, items_outline_depth ds)
  outline_depth (object ms) = omega (arith, members_outline_depth ms)

  items_outline_depth : (ds : Items) → tree.items_depth (items_outline ds) ≤ items_depth ds
  items_outline_depth no_items = omega arith
  items_outline_depth (item d ds) = omega (arith, outline_depth d, items_outline_depth ds)

  members_outline_depth : (ms : Members) → tree.members_depth (members_outline ms) ≤ members_depth ms
  members_outline_depth no_members = omega arith
  members_outline_depth (member k d ms) = omega (arith, outline_depth d, members_outline_depth ms)

-- ---- a whole text

-- The tokens of a value's text are the tokens of its outline.
tokens_of_text : (d : Data) → ReadsBack d → tokens (compact_text d) ≡ tree.json_tokens (outline d)
tokens_of_text d r = ap tokens (sym (print-outline d)) ∙ tokens-print (tree.json_tokens (outline d)) (ArePrintable-json_tokens (outline d) r.numbers)

abbrev whole : Option (json.Json × List Token) → Option Data
whole o = option_and_then of_json (option_and_then (λ p. json.if_last p.0 p.1) o)

reads_as : (d : Data) → ReadsBack d → depth d ≤ 127 → read (compact_text d) ≡ Some d
reads_as d r shallow =
    ap whole (ap (json.value max_depth) (tokens_of_text d r ∙ sym (append-nil _)) ∙ value-json_tokens (outline d) max_depth [] (omega (arith, outline_depth d))) ∙ r.reads

-- If nothing was written before, the bytes are the text of the value and read back as the value.
pub written : (d : Data) (start bytes : List ℕ) → start ≡ [] → AppendsValue d start bytes → depth d ≤ 127 → Writes d bytes
written d start bytes none a shallow =
    let is : bytes ≡ compact_text d = a.text ∙ ap (λ b. b ++ compact_text d) none in
    record { text = is; reads = (subst IsUtf8 (sym is) a.reads.utf8, ap read is ∙ reads_as d a.reads shallow) }

-- ---- names that need no escape

abbrev is_plain_byte : ℕ → Bool
is_plain_byte x = nat_le 32 x && nat_lt x 127 && not (x == 34) && not (x == 92)

-- Returns true if all bytes are printable ASCII other than quotes and backslashes.
abbrev pub are_plain : List ℕ → Bool
are_plain [] = true
are_plain (x ∷ xs) = is_plain_byte x && are_plain xs

-- ---- texts, numbers and words

escape_plain : (k : List ℕ) → are_plain k ≡ true → escape k ≡ k
escape_plain [] h = refl
escape_plain (x ∷ xs) h =
    let p = and_parts (is_plain_byte x) _ h in
    let q = and_parts (nat_le 32 x && nat_lt x 127 && not (x == 34)) _ p.0 in
    let r = and_parts (nat_le 32 x && nat_lt x 127) _ q.0 in
    let t = and_parts (nat_le 32 x) _ r.0 in
    ap₂ (λ a b. a ++ b) (escape_byte_plain x (eqb-false x 34 (not-true _ r.1)) (eqb-false x 92 (not-true _ q.1)) (leb-true 32 x t.0)) (escape_plain xs p.1)

-- If a text needs no escape so far and the next byte needs none, the text with that byte needs
-- none.

escape_joined : (xs ys : List ℕ) → escape (xs ++ ys) ≡ escape xs ++ escape ys
escape_joined [] ys = refl
escape_joined (x ∷ xs) ys = ap (λ t. escape_byte x ++ t) (escape_joined xs ys) ∙ sym (append_assoc (escape_byte x) (escape xs) (escape ys))

pub plain_next : (xs : List ℕ) (i x : ℕ) → i < length xs → escape (take i xs) ≡ take i xs → 32 ≤ get_or xs i x → (get_or xs i x ≡ 34 → ⊥) → (get_or xs i x ≡ 92 → ⊥)
    → escape (take (i + 1) xs) ≡ take (i + 1) xs
plain_next xs i x low plain l q b = rw (add-one, take-suc xs i x low, escape_joined (take i xs) (get_or xs i x ∷ []), plain, escape_byte_plain (get_or xs i x) q b l) refl

pub text_written : (s t0 t1 t2 t3 : List ℕ) → IsUtf8 s → t1 ≡ t0 ++ 34 ∷ [] → t2 ≡ t1 ++ escape s → t3 ≡ t2 ++ 34 ∷ [] → AppendsValue (string s) t0 t3
text_written s t0 t1 t2 t3 utf8 h1 h2 h3 = record {
  text = rw (h3, h2, h1) (simp append_assoc refl);
  reads = record { reads = refl; numbers = tt; utf8 = IsUtf8-quoted s utf8 };
}

pub count_written : (n : ℕ) (old new : List ℕ) → n < 2 ^ 64 → IsUtf8 (decimal n) → new ≡ old ++ decimal n → AppendsValue (number (unsigned n)) old new
count_written n old new fits utf8 is = record {
  text = is;
  reads = record { reads = ap (option_map number) (number_of-decimal n fits); numbers = IsNumber-decimal n fits; utf8 = utf8 };
}

pub integer_written : (z : ℤ) (old new : List ℕ) → SFits w64 z → IsUtf8 (signed_decimal z) → new ≡ old ++ signed_decimal z → AppendsValue (number (of_integer z)) old new
integer_written (pos n) old new fits utf8 is = record {
  text = is;
  reads = record { reads = ap (option_map number) (number_of-decimal n (grind arith)); numbers = IsNumber-decimal n (grind arith); utf8 = utf8 };
}
integer_written (negsuc n) old new fits utf8 is = record {
  text = is;
  reads = record { reads = ap (option_map number) (number_of-negative n (grind arith)); numbers = IsNumber-signed_decimal (negsuc n) (grind arith); utf8 = utf8 };
}

-- ---- objects

-- Holds if a member's name needs no escape: its text is the name in quotes.
pub record IsName (k : List ℕ) : Type 0 where
  pub plain : escape k ≡ k
  pub utf8 : IsUtf8 (quoted k)

pub name : (k : List ℕ) → are_plain k ≡ true → are_ascii k ≡ true → IsName k
name k plain ascii = record { plain = escape_plain k plain; utf8 = IsUtf8-quoted k (IsUtf8-are_ascii k ascii) }

brace : IsUtf8 (125 ∷ [])
brace = IsUtf8-are_ascii _ refl

-- The text of a member after a comma or a bracket, followed by the rest, is UTF-8.
utf8_member : (before : ℕ) (k t rest : List ℕ) → are_ascii (before ∷ []) ≡ true → IsUtf8 (quoted k) → IsUtf8 t → IsUtf8 rest → IsUtf8 (before ∷ (quoted k ++ 58 ∷ (t ++ rest)))
utf8_member before k t rest ascii uk ut ur =
    IsUtf8-append (before ∷ []) _ (IsUtf8-are_ascii _ ascii) (IsUtf8-append (quoted k) _ uk (IsUtf8-append (58 ∷ []) _ (IsUtf8-are_ascii _ refl) (IsUtf8-append t rest ut ur)))

-- Returns a name in quotes, a colon, and the rest.
abbrev pub named : List ℕ → List ℕ → List ℕ
named k rest = 34 ∷ (k ++ 34 ∷ 58 ∷ rest)

name_text : (k rest : List ℕ) → IsName k → named k rest ≡ quoted k ++ 58 ∷ rest
name_text k rest n = rw n.plain (ap (λ t. 34 ∷ t) (sym (append_assoc k (34 ∷ []) (58 ∷ rest))))

-- Returns true if no name needs an escape.
abbrev pub are_names : Members → Bool
are_names no_members = true
are_names (member k d ms) = (are_plain k && are_ascii k) && are_names ms

-- Returns the members that result from reading these members one after another.
abbrev pub rebuilt : Members → Members → Members
rebuilt no_members found = found
rebuilt (member k d ms) found = rebuilt ms (put k d found)

-- Holds if the members read back from their text.
record AreMembers (ms : Members) : Type 0 where
  reads : (found : Members) → of_members (members_outline ms) found ≡ Some (rebuilt ms found)
  numbers : tree.MembersHaveNumbers (members_outline ms)
  utf8 : IsUtf8 (members_text true ms)

more_members : (k : List ℕ) (d : Data) (ms : Members) → IsName k → ReadsBack d → AreMembers ms → AreMembers (member k d ms)
more_members k d ms n r rest = record {
  reads = λ found. rw r.reads (rest.reads (put k d found));
  numbers = (r.numbers, rest.numbers);
  utf8 = utf8_member 44 k (compact_text d) (members_text true ms) refl n.utf8 r.utf8 rest.utf8;
}

-- If a member was appended, the bytes with the rest are the old bytes, the member's text and the
-- rest.
member_text : (before : ℕ) (k : List ℕ) (d : Data) (old mid rest : List ℕ) → IsName k → AppendsMember before k d old mid
    → mid ++ rest ≡ old ++ before ∷ (quoted k ++ 58 ∷ (compact_text d ++ rest))
member_text before k d old mid rest n a =
    let put : mid ++ rest ≡ old ++ before ∷ named k (compact_text d ++ rest) = rw a.text (simp append_assoc refl) in
    put ∙ ap (λ t. old ++ before ∷ t) (name_text k (compact_text d ++ rest) n)

members_written : (ms : Members) (old new : List ℕ) → are_names ms ≡ true → AppendsMembersAndBrace 44 ms old new → (new ≡ old ++ members_text true ms) × AreMembers ms
members_written no_members old new names is = (is, record { reads = λ found. refl; numbers = tt; utf8 = brace })
members_written (member k d ms) old new names (mid, first, others) =
    let both = and_parts (are_plain k && are_ascii k) _ names in
    let n = name k (and_parts (are_plain k) _ both.0).0 (and_parts (are_plain k) _ both.0).1 in
    let rest = members_written ms mid new both.1 others in
    (rest.0 ∙ member_text 44 k d old mid (members_text true ms) n first, more_members k d ms n first.reads rest.1)

-- If the members of an object were written one by one, and their names need no escape and are in
-- order, the object was written.
pub object_of : (k : List ℕ) (d : Data) (ms : Members) (old new : List ℕ) → are_names (member k d ms) ≡ true → rebuilt (member k d ms) no_members ≡ member k d ms
    → AppendsMembersAndBrace 123 (member k d ms) old new → AppendsValue (object (member k d ms)) old new
object_of k d ms old new names order (mid, first, others) =
    let both = and_parts (are_plain k && are_ascii k) _ names in
    let n = name k (and_parts (are_plain k) _ both.0).0 (and_parts (are_plain k) _ both.0).1 in
    let rest = members_written ms mid new both.1 others in
    let are = more_members k d ms n first.reads rest.1 in
    record {
      text = rest.0 ∙ member_text 123 k d old mid (members_text true ms) n first;
      reads = record {
        reads = rw (are.reads no_members, order) refl;
        numbers = are.numbers;
        utf8 = utf8_member 123 k (compact_text d) (members_text true ms) refl n.utf8 first.reads.utf8 rest.1.utf8;
      };
    }

-- If the name and the value of an object's single member were written, the object was written. The
-- name may be any text.
pub object_named : (k : List ℕ) (d : Data) (t0 t1 t2 t3 t4 t5 : List ℕ) → t1 ≡ t0 ++ 123 ∷ [] → AppendsValue (string k) t1 t2 → t3 ≡ t2 ++ 58 ∷ [] → AppendsValue d t3 t4 → t5 ≡ t4 ++ 125 ∷ []
    → AppendsValue (object (member k d no_members)) t0 t5
object_named k d t0 t1 t2 t3 t4 t5 h1 h2 h3 h4 h5 = record {
  text = rw (h5, h4.text, h3, h2.text, h1) (simp append_assoc refl);
  reads = record {
    reads = rw h4.reads.reads refl;
    numbers = (h4.reads.numbers, tt);
    utf8 = utf8_member 123 k (compact_text d) (125 ∷ []) refl h2.reads.utf8 h4.reads.utf8 brace;
  };
}

-- The text of an object with two members, followed by the rest, consists of both members' texts,
-- the brackets and the rest.
pub object_text_of_two : (k l : List ℕ) (d e : Data) (rest : List ℕ) → IsName k → IsName l
    → 123 ∷ named k (compact_text d ++ 44 ∷ named l (compact_text e ++ 125 ∷ rest)) ≡ compact_text (object (member k d (member l e no_members))) ++ rest
object_text_of_two k l d e rest n o =
    ap (λ t. 123 ∷ named k (compact_text d ++ 44 ∷ t)) (name_text l (compact_text e ++ 125 ∷ rest) o)
    ∙ ap (λ t. 123 ∷ t) (name_text k (compact_text d ++ 44 ∷ (quoted l ++ 58 ∷ (compact_text e ++ 125 ∷ rest))) n)
    ∙ simp append_assoc refl

-- ---- positions and ranges

text_read : (s : List ℕ) → IsUtf8 s → ReadsBack (string s)
text_read s utf8 = record { reads = refl; numbers = tt; utf8 = IsUtf8-quoted s utf8 }

count_read : (n : ℕ) → n < 2 ^ 64 → ReadsBack (number (unsigned n))
count_read n fits = record { reads = ap (option_map number) (number_of-decimal n fits); numbers = IsNumber-decimal n fits; utf8 = IsUtf8-from_ascii _ (IsAscii-decimal n fits) }

pub read_two : (k l : List ℕ) (d e : Data) → IsName k → IsName l → rebuilt (member k d (member l e no_members)) no_members ≡ member k d (member l e no_members) → ReadsBack d → ReadsBack e
    → ReadsBack (object (member k d (member l e no_members)))
read_two k l d e n o order r q =
    let last = more_members l e no_members o q (record { reads = λ found. refl; numbers = tt; utf8 = brace }) in
    record {
      reads = rw ((more_members k d (member l e no_members) n r last).reads no_members, order) refl;
      numbers = (r.numbers, last.numbers);
      utf8 = utf8_member 123 k (compact_text d) (members_text true (member l e no_members)) refl n.utf8 r.utf8 last.utf8;
    }

pub position_read : (p : Position) → p.character < 2 ^ 64 → p.line < 2 ^ 64 → ReadsBack (position_value p)
position_read p fits fit =
    read_two (codes "character") (codes "line") (number (unsigned p.character)) (number (unsigned p.line)) (name (codes "character") refl refl) (name (codes "line") refl refl) refl
    (count_read p.character fits) (count_read p.line fit)

-- The pieces of a position, written from its end backwards before a text, are the position's text
-- before that text.
pub position_written : (p : Position) (t0 t1 t2 t3 t4 t5 : List ℕ) → t1 ≡ (125 ∷ []) ++ t0 → t2 ≡ decimal p.line ++ t1 → t3 ≡ (44 ∷ named (codes "line") []) ++ t2 → t4 ≡ decimal p.character ++ t3
    → t5 ≡ (123 ∷ named (codes "character") []) ++ t4 → t5 ≡ compact_text (position_value p) ++ t0
position_written p t0 t1 t2 t3 t4 t5 h1 h2 h3 h4 h5 =
    rw (h5, h4, h3, h2, h1) (object_text_of_two (codes "character") (codes "line") (number (unsigned p.character)) (number (unsigned p.line)) t0 (name (codes "character") refl refl) (name (codes "line") refl refl))

-- The pieces of a range, written from its end backwards before a text, are the range's text before
-- that text.
pub range_text : (start end : Position) (t0 t1 t2 t3 t4 t5 : List ℕ) → t1 ≡ (125 ∷ []) ++ t0 → t2 ≡ compact_text (position_value start) ++ t1 → t3 ≡ (44 ∷ named (codes "start") []) ++ t2
    → t4 ≡ compact_text (position_value end) ++ t3 → t5 ≡ (123 ∷ named (codes "end") []) ++ t4 → t5 ≡ compact_text (range_value start end) ++ t0
range_text start end t0 t1 t2 t3 t4 t5 h1 h2 h3 h4 h5 =
    rw (h5, h4, h3, h2, h1) (object_text_of_two (codes "end") (codes "start") (position_value end) (position_value start) t0 (name (codes "end") refl refl) (name (codes "start") refl refl))

pub range_read : (start end : Position) → ReadsBack (position_value start) → ReadsBack (position_value end) → ReadsBack (range_value start end)
range_read start end r q = read_two (codes "end") (codes "start") (position_value end) (position_value start) (name (codes "end") refl refl) (name (codes "start") refl refl) refl q r

-- If a value's text was built at the end of a buffer and then appended, the value was appended.
pub put_down : (d : Data) (old new t0 t1 : List ℕ) → t0 ≡ [] → t1 ≡ compact_text d ++ t0 → new ≡ old ++ t1 → ReadsBack d → AppendsValue d old new
put_down d old new t0 t1 none put is r = record { text = is ∙ ap (λ t. old ++ t) (put ∙ ap (λ t. compact_text d ++ t) none ∙ append-nil _); reads = r }

-- If an edit's new text was written first and its range together with the text around it after
-- that, the edit was written.
pub edit_put_down : (said : List ℕ) (start end : Position) (t0 t1 t2 t3 : List ℕ) → IsUtf8 said → t1 ≡ t0 ++ (123 ∷ named (codes "newText") (34 ∷ [])) → t2 ≡ t1 ++ escape said
    → t3 ≡ t2 ++ (codes "\",\"range\":" ++ (compact_text (range_value start end) ++ 125 ∷ [])) → ReadsBack (range_value start end)
    → AppendsValue (object (member (codes "newText") (string said) (member (codes "range") (range_value start end) no_members))) t0 t3
edit_put_down said start end t0 t1 t2 t3 utf8 h1 h2 h3 r =
    let is : t3 ≡ t0 ++ (123 ∷ named (codes "newText") (compact_text (string said) ++ 44 ∷ named (codes "range") (compact_text (range_value start end) ++ 125 ∷ []))) =
    rw (h3, h2, h1) (simp append_assoc refl) in
    record {
      text = is ∙ ap (λ t. t0 ++ t) (object_text_of_two (codes "newText") (codes "range") (string said) (range_value start end) [] (name (codes "newText") refl refl) (name (codes "range") refl refl) ∙ append-nil _);
      reads = read_two (codes "newText") (codes "range") (string said) (range_value start end) (name (codes "newText") refl refl) (name (codes "range") refl refl) refl (text_read said utf8) r;
    }

-- ---- lists

pub each_none : (needs_comma : Bool) (t : List ℕ) → AppendsEachValue needs_comma [] t t
each_none needs_comma t = record { text = sym (append-nil t); reads = tt }

pub each_one : (d : Data) (old new : List ℕ) → AppendsValue d old new → AppendsEachValue false (d ∷ []) old new
each_one d old new a = record { text = a.text ∙ ap (λ t. old ++ t) (sym (append-nil (compact_text d))); reads = (a.reads, tt) }

-- Returns true if there is at least one value.
abbrev pub some : List Data → Bool
some [] = false
some (d ∷ ds) = true

read_joined : (xs ys : List Data) → AllReadBack xs → AllReadBack ys → AllReadBack (xs ++ ys)
read_joined [] ys h k = k
read_joined (x ∷ xs) ys h k = (h.0, read_joined xs ys h.1 k)

listed_true : (xs ys : List Data) → comma_separated_texts true (xs ++ ys) ≡ comma_separated_texts true xs ++ comma_separated_texts true ys
listed_true [] ys = refl
listed_true (x ∷ xs) ys = rw (listed_true xs ys) (simp append_assoc refl)

comma_before : (ys : List Data) → comma_separated_texts true ys ≡ comma_if (some ys) ++ comma_separated_texts false ys
comma_before [] = refl
comma_before (y ∷ ys) = refl

listed_joined : (xs ys : List Data) → comma_separated_texts false (xs ++ ys) ≡ comma_separated_texts false xs ++ (comma_if (some xs && some ys) ++ comma_separated_texts false ys)
listed_joined [] ys = refl
listed_joined (x ∷ xs) ys = rw (listed_true xs ys, comma_before ys) (simp append_assoc refl)

pub each_joined : (xs ys : List Data) (a b c d : List ℕ) → AppendsEachValue false xs a b → c ≡ b ++ comma_if (some xs && some ys) → AppendsEachValue false ys c d → AppendsEachValue false (xs ++ ys) a d
each_joined xs ys a b c d h comma k = record {
  text = rw (k.text, comma, h.text, listed_joined xs ys) (simp append_assoc refl);
  reads = read_joined xs ys h.reads k.reads;
}

none_below : (i : ℕ) → i < 0 → ⊥
none_below i h = omega (arith, h)

some_taken : {A : Type 0} (shown : A → Data) (xs : List A) (i : ℕ) → i < length xs → some (map shown (take i xs)) ≡ nat_lt 0 i
some_taken shown [] i h = absurd (none_below i h)
some_taken shown (x ∷ xs) zero h = refl
some_taken shown (x ∷ xs) (suc i) h = sym (lt-ltb 0 (suc i) (omega arith))

-- After the next item of a list was appended, the items so far are appended.
pub each_next : {A : Type 0} (shown : A → Data) (xs : List A) (i : ℕ) (x : A) (needs_comma : Bool) (a b c : List ℕ) → i < length xs → AppendsEachValue false (map shown (take i xs)) a b
    → needs_comma ≡ nat_lt 0 i → AppendsListItem needs_comma (shown (get_or xs i x)) b c → AppendsEachValue false (map shown (take (i + 1) xs)) a c
each_next shown xs i x needs_comma a b c h each is next =
    let put = next.text ∙ sym (append_assoc b (comma_if needs_comma) (compact_text (shown (get_or xs i x)))) in
    rw (add-one, take-suc xs i x h, map-append shown (take i xs) (get_or xs i x ∷ []))
    (each_joined (map shown (take i xs)) (shown (get_or xs i x) ∷ []) a b (b ++ comma_if needs_comma) c each
    (ap (λ l. b ++ comma_if l) (is ∙ sym (some_taken shown xs i h) ∙ sym (and_true _))) (each_one (shown (get_or xs i x)) (b ++ comma_if needs_comma) c (record { text = put; reads = next.reads })))

-- If the items so far are all items of a list, the whole list is appended.
pub each_done : {A : Type 0} (shown : A → Data) (xs : List A) (i : ℕ) (a b : List ℕ) → length xs ≤ i → AppendsEachValue false (map shown (take i xs)) a b → AppendsEachValue false (map shown xs) a b
each_done shown xs i a b all each = subst (λ ys. AppendsEachValue false (map shown ys) a b) (take_all i xs all) each

items_listed : (needs_comma : Bool) (ds : List Data) → items_text needs_comma (items_of ds) ≡ comma_separated_texts needs_comma ds ++ 93 ∷ []
items_listed needs_comma [] = refl
items_listed needs_comma (d ∷ ds) = rw (items_listed true ds) (simp append_assoc refl)

items_read : (ds : List Data) → AllReadBack ds → of_items (items_outline (items_of ds)) ≡ Some (items_of ds)
items_read [] h = refl
items_read (d ∷ ds) h = rw (h.0.reads, items_read ds h.1) refl

items_numbers : (ds : List Data) → AllReadBack ds → tree.ItemsHaveNumbers (items_outline (items_of ds))
items_numbers [] h = tt
items_numbers (d ∷ ds) h = (h.0.numbers, items_numbers ds h.1)

utf8_comma : (b : Bool) → IsUtf8 (comma_if b)
utf8_comma true = IsUtf8-are_ascii _ refl
utf8_comma false = IsUtf8-are_ascii _ refl

listed_utf8 : (needs_comma : Bool) (ds : List Data) → AllReadBack ds → IsUtf8 (comma_separated_texts needs_comma ds)
listed_utf8 needs_comma [] h = IsUtf8-nil
listed_utf8 needs_comma (d ∷ ds) h = IsUtf8-append (comma_if needs_comma) _ (utf8_comma needs_comma) (IsUtf8-append (compact_text d) _ h.0.utf8 (listed_utf8 true ds h.1))

read_list : (ds : List Data) → AllReadBack ds → ReadsBack (array (items_of ds))
read_list ds h = record {
  reads = ap (option_map array) (items_read ds h);
  numbers = items_numbers ds h;
  utf8 =
      subst IsUtf8 (ap (λ t. 91 ∷ t) (sym (items_listed false ds)))
      (IsUtf8-append (91 ∷ []) _ (IsUtf8-are_ascii _ refl) (IsUtf8-append (comma_separated_texts false ds) (93 ∷ []) (listed_utf8 false ds h) (IsUtf8-are_ascii _ refl)));
}

pub array_of : (ds : List Data) (t0 t1 t2 t3 : List ℕ) → t1 ≡ t0 ++ 91 ∷ [] → AppendsEachValue false ds t1 t2 → t3 ≡ t2 ++ 93 ∷ [] → AppendsValue (array (items_of ds)) t0 t3
array_of ds t0 t1 t2 t3 h1 h2 h3 = record {
  text = rw (h3, h2.text, h1, items_listed false ds) (simp append_assoc refl);
  reads = read_list ds h2.reads;
}
