-- Proves that the tokens of a text stay the same if other line ends take the place of some of its LFs.
use Rattle.std.proofs.Common.{◌≡◌, ◌∙◌, ℕ, zero, suc, ◌+◌, ◌<◌, ◌≤◌, Bool, true, false, cond, ◌&&◌, ◌==◌, List, [], ◌∷◌, ◌++◌, length, get_or, take, refl, sym, ap, ap₂, subst, arith, append_assoc, ◌⊎◌, inl, inr, Option, Some, None, option_map, flat_map, eqb-true}
use Rattle.std.specs.Prelude.{encode_utf8_all}
use Rattle.std.specs.List.{All, AllPass, list_all}
use Rattle.std.specs.Str.{IsUtf8}
use Rattle.std.specs.Char.{is_ascii_alphanumeric, is_ascii_digit}
use Rattle.std.proofs.Math.Utf8.{encode}
use lib.Utf8.{scalar, scalars}
use Rattle.std.proofs.lemmas.Bool.{cond-true, cond-false, cases_Bool, and_from, and_parts}
use Rattle.std.proofs.lemmas.Bool.Decides.{nat_tests}
use Rattle.std.proofs.lemmas.List.Elements.{All-cons, All-head, All-tail, All-nil, All-weaker}
use Rattle.std.proofs.lemmas.List.Sums.{AllPass-from_list_all}
use Rattle.std.proofs.lemmas.Str.{encode_ascii, encodes_same}
use Rattle.ob0_scan.specs.declared.lexeme.Symbol.{Symbol}
use Rattle.ob0_scan.specs.declared.lexeme.Symbol.TheVariants as symbol
use Rattle.ob0_scan.specs.declared.lexeme.TokenKind.TheVariants as token
use Rattle.ob0_scan.specs.declared.lexeme.LexemeKind.{LexemeKind}
use Rattle.ob0_scan.specs.declared.lexeme.LexemeKind.TheVariants as lexeme
use Rattle.ob0_scan.specs.Comments.{is_opening_pair, is_closing_pair, comment_marks, IsComment}
use Rattle.ob0_scan.specs.LexemeClasses.{symbol_text, is_white_space, IsLexemeOfKind}
use Rattle.ob0_scan.specs.LexemeEnds.{continues_symbol, continues_lexeme, EachLexemeEndsBeforeNext}
use Rattle.ob0_scan.specs.TextLexemes.{Lexeme, text_of_lexemes, LexesInto}
use Rattle.ob0_scan.specs.TextWithTokens.{Word, words_of_one_lexeme, words_of_lexemes}
use Rattle.ob0_scan.proofs.Borders.{cut_into_lexemes_depends_only_on_next_bytes}
use Rattle.ob0_scan.proofs.Closings.{Ends, closing, closing_opening, closing_closing, closing_name_faults, closed_within, mapped, closed_front, comment_from_ends, ends_from_comment}
use Rattle.ob0_scan.proofs.Families.{comment_head, reserved_word}
use Rattle.ob0_world_rules.specs.OtherWhiteSpace.{FileLineEnd, line_feed, carriage_return_line_feed, carriage_return, line_end_text, text_with_line_ends}

-- ---- bytes that no line end touches

no_feed_in_symbol : (s : Symbol) → list_all (λ b. cond (b == 10) false true) (symbol_text s) ≡ true
no_feed_in_symbol symbol.And = refl
no_feed_in_symbol symbol.Times = refl
no_feed_in_symbol symbol.Plus = refl
no_feed_in_symbol symbol.Minus = refl
no_feed_in_symbol symbol.Equal = refl
no_feed_in_symbol symbol.NotEqual = refl
no_feed_in_symbol symbol.Less = refl
no_feed_in_symbol symbol.LessEqual = refl
no_feed_in_symbol symbol.Greater = refl
no_feed_in_symbol symbol.GreaterEqual = refl
no_feed_in_symbol symbol.Not = refl
no_feed_in_symbol symbol.Dot = refl
no_feed_in_symbol symbol.Comma = refl
no_feed_in_symbol symbol.Semicolon = refl
no_feed_in_symbol symbol.Colon = refl
no_feed_in_symbol symbol.Becomes = refl
no_feed_in_symbol symbol.LeftParen = refl
no_feed_in_symbol symbol.RightParen = refl
no_feed_in_symbol symbol.LeftBracket = refl
no_feed_in_symbol symbol.RightBracket = refl

abbrev IsOther : ℕ → Type 0
IsOther b = b ≡ 10 → ⊥

passes_other : (b : ℕ) → cond (b == 10) false true ≡ true → IsOther b
passes_other b h e = let no : cond (10 == 10) false true ≡ true = subst (λ x. cond (x == 10) false true ≡ true) e h in cc

alphanumeric_other : (b : ℕ) → is_ascii_alphanumeric b ≡ true → IsOther b
alphanumeric_other b h e = let no : is_ascii_alphanumeric 10 ≡ true = subst (λ x. is_ascii_alphanumeric x ≡ true) e h in cc

digit_other : (b : ℕ) → is_ascii_digit b ≡ true → IsOther b
digit_other b h e = let no : is_ascii_digit 10 ≡ true = subst (λ x. is_ascii_digit x ≡ true) e h in cc

-- No token has an LF.
token_other : (k : _) (text : List ℕ) → IsLexemeOfKind (lexeme.Token k) text → All IsOther text
token_other token.Identifier text h = All-weaker (λ b. is_ascii_alphanumeric b ≡ true) IsOther alphanumeric_other text h.word.all
token_other (token.ReservedWord r) text h = subst (All IsOther) (sym h) (All-weaker (λ b. is_ascii_alphanumeric b ≡ true) IsOther alphanumeric_other _ (reserved_word r).all)
token_other (token.Integer n) text h = All-weaker (λ b. is_ascii_digit b ≡ true) IsOther digit_other text h.digits.all
token_other (token.Symbol s) text h =
    subst (All IsOther) (sym h) (All-weaker (λ b. cond (b == 10) false true ≡ true) IsOther passes_other (symbol_text s) (AllPass-from_list_all (λ b. cond (b == 10) false true) (symbol_text s) (no_feed_in_symbol s)))

-- Whatever LF continues, CR continues, and nothing else.
return_continues : (k : LexemeKind) → continues_lexeme k 13 ≡ continues_lexeme k 10
return_continues lexeme.WhiteSpace = refl
return_continues lexeme.Comment = refl
return_continues (lexeme.Token token.Identifier) = refl
return_continues (lexeme.Token (token.ReservedWord r)) = refl
return_continues (lexeme.Token (token.Integer n)) = refl
return_continues (lexeme.Token (token.Symbol s)) = go s
  where
    go : (s : Symbol) → continues_symbol s 13 ≡ continues_symbol s 10
    go symbol.Less = refl
    go symbol.Greater = refl
    go symbol.Colon = refl
    go symbol.LeftParen = refl
    go _ = refl

module _ (ends : FileLineEnd) where
  -- holds if `ys` is `xs` with this line end in place of some of its LFs
  abbrev pub Ended : List ℕ → List ℕ → Type 0
  Ended [] ys = ys ≡ []
  Ended (x ∷ xs) ys =
      ((rest : List ℕ) × (ys ≡ x ∷ rest) × Ended xs rest) ⊎ ((rest : List ℕ) × (x ≡ 10) × (ys ≡ line_end_text ends ++ rest) × Ended xs rest)

  pub ended_same : (xs : List ℕ) → Ended xs xs
  ended_same [] = refl
  ended_same (x ∷ xs) = inl (xs, refl, ended_same xs)

  pub ended_append : (xs zs ys ws : List ℕ) → Ended xs ys → Ended zs ws → Ended (xs ++ zs) (ys ++ ws)
  ended_append [] zs ys ws h k = subst (λ t. Ended zs (t ++ ws)) (sym h) k
  ended_append (x ∷ xs) zs ys ws (inl (rest, is, h)) k = inl (rest ++ ws, ap (λ t. t ++ ws) is, ended_append xs zs rest ws h k)
  ended_append (x ∷ xs) zs ys ws (inr (rest, feed, is, h)) k = inr (rest ++ ws, feed, ap (λ t. t ++ ws) is ∙ append_assoc (line_end_text ends) rest ws, ended_append xs zs rest ws h k)

  pub ended_all : (xs : List ℕ) → Ended xs (text_with_line_ends ends xs)
  ended_all [] = refl
  ended_all (x ∷ xs) = go (x == 10) refl (ended_all xs)
    where
      go : (b : Bool) → (x == 10) ≡ b → Ended xs (text_with_line_ends ends xs) → Ended (x ∷ xs) (cond b (line_end_text ends) (x ∷ []) ++ text_with_line_ends ends xs)
      go true e more = inr (text_with_line_ends ends xs, eqb-true x 10 e, refl, more)
      go false e more = inl (text_with_line_ends ends xs, refl, more)

  -- ---- bytes and characters

  end_bytes : (e : FileLineEnd) (rest : List ℕ) → encode_utf8_all (line_end_text e ++ rest) ≡ line_end_text e ++ encode_utf8_all rest
  end_bytes line_feed rest = ap (λ t. t ++ encode_utf8_all rest) (encode_ascii 10 (omega arith))
  end_bytes carriage_return_line_feed rest = λ i. encode_ascii 13 (omega arith) i ++ (encode_ascii 10 (omega arith) i ++ encode_utf8_all rest)
  end_bytes carriage_return rest = ap (λ t. t ++ encode_utf8_all rest) (encode_ascii 13 (omega arith))

  pub ended_bytes : (xs ys : List ℕ) → Ended xs ys → Ended (encode_utf8_all xs) (encode_utf8_all ys)
  ended_bytes [] ys h = subst (λ t. Ended [] (encode_utf8_all t)) (sym h) refl
  ended_bytes (x ∷ xs) ys (inl (rest, is, h)) =
      subst (λ t. Ended (encode_utf8_all (x ∷ xs)) (encode_utf8_all t)) (sym is) (ended_append (encode x) (encode_utf8_all xs) (encode x) (encode_utf8_all rest) (ended_same (encode x)) (ended_bytes xs rest h))
  ended_bytes (x ∷ xs) ys (inr (rest, feed, is, h)) =
      let first : encode_utf8_all (x ∷ xs) ≡ 10 ∷ encode_utf8_all xs = ap (λ c. encode c ++ encode_utf8_all xs) feed ∙ ap (λ t. t ++ encode_utf8_all xs) (encode_ascii 10 (omega arith)) in
      let last : encode_utf8_all ys ≡ line_end_text ends ++ encode_utf8_all rest = ap encode_utf8_all is ∙ end_bytes ends rest in
      subst (λ t. Ended t (encode_utf8_all ys)) (sym first) (inr (encode_utf8_all rest, refl, last, ended_bytes xs rest h))

  end_scalars : (e : FileLineEnd) (rest : List ℕ) → scalars rest ≡ true → scalars (line_end_text e ++ rest) ≡ true
  end_scalars line_feed rest h = h
  end_scalars carriage_return_line_feed rest h = h
  end_scalars carriage_return rest h = h

  ended_scalars : (xs ys : List ℕ) → Ended xs ys → scalars xs ≡ true → scalars ys ≡ true
  ended_scalars [] ys h k = ap scalars h
  ended_scalars (x ∷ xs) ys (inl (rest, is, h)) k =
      let parts = and_parts (scalar x) (scalars xs) k in
      ap scalars is ∙ and_from (scalar x) (scalars rest) parts.0 (ended_scalars xs rest h parts.1)
  ended_scalars (x ∷ xs) ys (inr (rest, feed, is, h)) k =
      ap scalars is ∙ end_scalars ends rest (ended_scalars xs rest h (and_parts (scalar x) (scalars xs) k).1)

  pub ended_utf8 : (xs ys : List ℕ) → Ended xs ys → IsUtf8 (encode_utf8_all xs) → IsUtf8 (encode_utf8_all ys)
  ended_utf8 xs ys h u = (ys, (ended_scalars xs ys h (sym (ap scalars (encodes_same u.0 xs u.1.1)) ∙ u.1.0), refl))

  -- ---- parts

  ended_parts : (xs zs ys : List ℕ) → Ended (xs ++ zs) ys → (front : List ℕ) × (back : List ℕ) × (ys ≡ front ++ back) × Ended xs front × Ended zs back
  ended_parts [] zs ys h = ([], ys, refl, refl, h)
  ended_parts (x ∷ xs) zs ys (inl (rest, is, h)) =
      let (front, back, cut, first, last) = ended_parts xs zs rest h in
      (x ∷ front, back, is ∙ ap (λ t. x ∷ t) cut, inl (front, refl, first), last)
  ended_parts (x ∷ xs) zs ys (inr (rest, feed, is, h)) =
      let (front, back, cut, first, last) = ended_parts xs zs rest h in
      (line_end_text ends ++ front, back, is ∙ ap (λ t. line_end_text ends ++ t) cut ∙ sym (append_assoc (line_end_text ends) front back), inr (front, feed, refl, first), last)

  -- A text without LF is left unchanged.
  ended_other : (xs ys : List ℕ) → All IsOther xs → Ended xs ys → ys ≡ xs
  ended_other [] ys others h = h
  ended_other (x ∷ xs) ys others (inl (rest, is, h)) = is ∙ ap (λ t. x ∷ t) (ended_other xs rest (All-tail IsOther x xs others) h)
  ended_other (x ∷ xs) ys others (inr (rest, feed, is, h)) = absurd (All-head IsOther x xs others feed)

  -- ---- white space

  abbrev White : List ℕ → Type 0
  White = AllPass is_white_space

  white_cons : (b : ℕ) (bs : List ℕ) → is_white_space b ≡ true → White bs → White (b ∷ bs)
  white_cons b bs h k = All-cons (λ x. is_white_space x ≡ true) b bs h k

  end_white : (e : FileLineEnd) (rest : List ℕ) → White rest → White (line_end_text e ++ rest)
  end_white line_feed rest h = white_cons 10 rest refl h
  end_white carriage_return_line_feed rest h = white_cons 13 (10 ∷ rest) refl (white_cons 10 rest refl h)
  end_white carriage_return rest h = white_cons 13 rest refl h

  white_ended : (xs ys : List ℕ) → Ended xs ys → White xs → White ys
  white_ended [] ys h w = subst White (sym h) w
  white_ended (x ∷ xs) ys (inl (rest, is, h)) w =
      subst White (sym is) (white_cons x rest (All-head (λ b. is_white_space b ≡ true) x xs w) (white_ended xs rest h (All-tail (λ b. is_white_space b ≡ true) x xs w)))
  white_ended (x ∷ xs) ys (inr (rest, feed, is, h)) w = subst White (sym is) (end_white ends rest (white_ended xs rest h (All-tail (λ b. is_white_space b ≡ true) x xs w)))

  end_long : (e : FileLineEnd) (rest : List ℕ) → 0 < length (line_end_text e ++ rest)
  end_long line_feed rest = omega arith
  end_long carriage_return_line_feed rest = omega arith
  end_long carriage_return rest = omega arith

  some_ended : (xs ys : List ℕ) → Ended xs ys → 0 < length xs → 0 < length ys
  some_ended [] ys h some = absurd (omega (arith, some))
  some_ended (x ∷ xs) ys (inl (rest, is, h)) some = subst (λ t. 0 < length t) (sym is) (omega arith)
  some_ended (x ∷ xs) ys (inr (rest, feed, is, h)) some = subst (λ t. 0 < length t) (sym is) (end_long ends rest)

  -- ---- comments

  -- holds if the depth's comments are closed exactly at the end of the text
  abbrev Closes : ℕ → List ℕ → Type 0
  Closes depth text = closing depth text ≡ Some (length text)

  further : (k m n : ℕ) → k + m ≡ n → option_map (λ j. k + j) (Some m) ≡ Some n
  further k m n e = ap Some e

  blank_first : (b depth : ℕ) (rest : List ℕ) → ((c : ℕ) → is_opening_pair b c ≡ false) → ((c : ℕ) → is_closing_pair b c ≡ false) → Closes (suc depth) rest → Closes (suc depth) (b ∷ rest)
  unfolding closing
  blank_first b depth [] opens closes h = cc
  blank_first b depth (c ∷ rest) opens closes h = closing_name_faults depth b c rest (opens c) (closes c) ∙ ap (option_map (λ j. 1 + j)) h ∙ further 1 (length (c ∷ rest)) (length (b ∷ c ∷ rest)) (omega arith)

  end_closes : (e : FileLineEnd) (depth : ℕ) (rest : List ℕ) → Closes (suc depth) rest → Closes (suc depth) (line_end_text e ++ rest)
  end_closes line_feed depth rest h = blank_first 10 depth rest (λ c. refl) (λ c. refl) h
  end_closes carriage_return_line_feed depth rest h = blank_first 13 depth (10 ∷ rest) (λ c. refl) (λ c. refl) (blank_first 10 depth rest (λ c. refl) (λ c. refl) h)
  end_closes carriage_return depth rest h = blank_first 13 depth rest (λ c. refl) (λ c. refl) h

  and_none : (b : Bool) → (b && false) ≡ false
  and_none true = refl
  and_none false = refl

  -- A byte that makes no pair with the next one makes none with that one's replacement.
  no_pair : (a b : ℕ) (rest ys : List ℕ) (depth : ℕ) → is_opening_pair a b ≡ false → is_closing_pair a b ≡ false → Ended (b ∷ rest) ys → Closes (suc depth) ys → Closes (suc depth) (a ∷ ys)
  no_pair a b rest ys depth not neither (inl (more, is, h)) closes =
      subst (λ t. Closes (suc depth) (a ∷ t)) (sym is)
      (closing_name_faults depth a b more not neither ∙ ap (option_map (λ j. 1 + j)) (subst (Closes (suc depth)) is closes) ∙ further 1 (length (b ∷ more)) (length (a ∷ b ∷ more)) (omega arith))
  no_pair a b rest ys depth not neither (inr (more, feed, is, h)) closes = subst (λ t. Closes (suc depth) (a ∷ t)) (sym is) (go ends (subst (Closes (suc depth)) is closes))
    where
      go : (e : FileLineEnd) → Closes (suc depth) (line_end_text e ++ more) → Closes (suc depth) (a ∷ (line_end_text e ++ more))
      go line_feed k = closing_name_faults depth a 10 more (and_none (a == 40)) (and_none (a == 42)) ∙ ap (option_map (λ j. 1 + j)) k ∙ further 1 (length (10 ∷ more)) (length (a ∷ 10 ∷ more)) (omega arith)
      go carriage_return_line_feed k = closing_name_faults depth a 13 (10 ∷ more) (and_none (a == 40)) (and_none (a == 42)) ∙ ap (option_map (λ j. 1 + j)) k ∙ further 1 (length (13 ∷ 10 ∷ more)) (length (a ∷ 13 ∷ 10 ∷ more)) (omega arith)
      go carriage_return k = closing_name_faults depth a 13 more (and_none (a == 40)) (and_none (a == 42)) ∙ ap (option_map (λ j. 1 + j)) k ∙ further 1 (length (13 ∷ more)) (length (a ∷ 13 ∷ more)) (omega arith)

  not_feed_opening : (a b : ℕ) → is_opening_pair a b ≡ true → (a ≡ 10 → ⊥) × (b ≡ 10 → ⊥)
  not_feed_opening a b h =
      let parts = and_parts (a == 40) (b == 42) h in
      (λ e. omega (arith, eqb-true a 40 parts.0, e), λ e. omega (arith, eqb-true b 42 parts.1, e))

  not_feed_closing : (a b : ℕ) → is_closing_pair a b ≡ true → (a ≡ 10 → ⊥) × (b ≡ 10 → ⊥)
  not_feed_closing a b h =
      let parts = and_parts (a == 42) (b == 41) h in
      (λ e. omega (arith, eqb-true a 42 parts.0, e), λ e. omega (arith, eqb-true b 41 parts.1, e))

  -- A pair is left unchanged.
  pair_stays : (a b : ℕ) (w ys : List ℕ) → (a ≡ 10 → ⊥) × (b ≡ 10 → ⊥) → Ended (a ∷ b ∷ w) ys → (rest : List ℕ) × (ys ≡ a ∷ b ∷ rest) × Ended w rest
  pair_stays a b w ys (first, second) (inr (rest, feed, is, h)) = absurd (first feed)
  pair_stays a b w ys (first, second) (inl (rest, is, inr (more, feed, then_is, h))) = absurd (second feed)
  pair_stays a b w ys (first, second) (inl (rest, is, inl (more, then_is, h))) = (more, is ∙ ap (λ t. a ∷ t) then_is, h)

  ended_closes : (xs ys : List ℕ) (depth : ℕ) → Ended xs ys → Closes depth xs → Closes depth ys
  unfolding closing
  ended_closes [] ys zero h closes = subst (Closes 0) (sym h) refl
  ended_closes (x ∷ xs) ys zero h closes = cc
  ended_closes [] ys (suc depth) h closes = cc
  ended_closes (a ∷ []) ys (suc depth) h closes = cc
  ended_closes (a ∷ b ∷ w) ys (suc depth) h closes = elim (cases_Bool (is_opening_pair a b)) [
    | inl is ↦ opening (ended_closes w) is (pair_stays a b w ys (not_feed_opening a b is) h)
    | inr not ↦ elim (cases_Bool (is_closing_pair a b)) [
      | inl is ↦ closed (ended_closes w) not is (pair_stays a b w ys (not_feed_closing a b is) h)
      | inr neither ↦ other (ended_closes (b ∷ w)) not neither h
    ]
  ]
    where
      Later : List ℕ → Type 0
      Later xs = (rest : List ℕ) (d : ℕ) → Ended xs rest → Closes d xs → Closes d rest

      opening : Later w → is_opening_pair a b ≡ true → (rest : List ℕ) × (ys ≡ a ∷ b ∷ rest) × Ended w rest → Closes (suc depth) ys
      opening later is (rest, are, more) =
          let inner = mapped 2 (closing (suc (suc depth)) w) (length (a ∷ b ∷ w)) (sym (closing_opening depth a b w is) ∙ closes) in
          let long : inner.0 ≡ length w = omega (arith, inner.2) in
          let there : Closes (suc (suc depth)) rest = later rest (suc (suc depth)) more (inner.1 ∙ ap Some long) in
          subst (Closes (suc depth)) (sym are) (closing_opening depth a b rest is ∙ ap (option_map (λ j. 2 + j)) there ∙ further 2 (length rest) (length (a ∷ b ∷ rest)) (omega arith))

      closed : Later w → is_opening_pair a b ≡ false → is_closing_pair a b ≡ true → (rest : List ℕ) × (ys ≡ a ∷ b ∷ rest) × Ended w rest → Closes (suc depth) ys
      closed later not is (rest, are, more) =
          let inner = mapped 2 (closing depth w) (length (a ∷ b ∷ w)) (sym (closing_closing depth a b w not is) ∙ closes) in
          let long : inner.0 ≡ length w = omega (arith, inner.2) in
          let there : Closes depth rest = later rest depth more (inner.1 ∙ ap Some long) in
          subst (Closes (suc depth)) (sym are) (closing_closing depth a b rest not is ∙ ap (option_map (λ j. 2 + j)) there ∙ further 2 (length rest) (length (a ∷ b ∷ rest)) (omega arith))

      other : Later (b ∷ w) → is_opening_pair a b ≡ false → is_closing_pair a b ≡ false → Ended (a ∷ b ∷ w) ys → Closes (suc depth) ys
      other later not neither (inl (rest, are, more)) =
          let inner = mapped 1 (closing (suc depth) (b ∷ w)) (length (a ∷ b ∷ w)) (sym (closing_name_faults depth a b w not neither) ∙ closes) in
          let long : inner.0 ≡ length (b ∷ w) = omega (arith, inner.2) in
          let there : Closes (suc depth) rest = later rest (suc depth) more (inner.1 ∙ ap Some long) in
          subst (Closes (suc depth)) (sym are) (no_pair a b w rest depth not neither more there)
      other later not neither (inr (rest, feed, are, more)) =
          let inner = mapped 1 (closing (suc depth) (b ∷ w)) (length (a ∷ b ∷ w)) (sym (closing_name_faults depth a b w not neither) ∙ closes) in
          let long : inner.0 ≡ length (b ∷ w) = omega (arith, inner.2) in
          let there : Closes (suc depth) rest = later rest (suc depth) more (inner.1 ∙ ap Some long) in
          subst (Closes (suc depth)) (sym are) (end_closes ends depth rest there)

  take_all : (xs : List ℕ) → take (length xs) xs ≡ xs
  take_all [] = refl
  take_all (x ∷ xs) = ap (λ t. x ∷ t) (take_all xs)

  nil_append : (xs : List ℕ) → xs ++ [] ≡ xs
  nil_append [] = refl
  nil_append (x ∷ xs) = ap (λ t. x ∷ t) (nil_append xs)

  comment_stays : (w ys rest : List ℕ) → IsComment (40 ∷ 42 ∷ w) → ys ≡ 40 ∷ 42 ∷ rest → Ended w rest → IsComment ys
  comment_stays w ys rest is are more =
      let closes : Closes 1 w = sym (ap (closing 1) (nil_append w)) ∙ closed_within 1 w [] (ends_from_comment w is) in
      let front = closed_front 1 rest (length rest) (ended_closes w rest 1 more closes) in
      subst IsComment (sym are) (comment_from_ends rest (subst (λ t. Ends 1 (comment_marks t)) (take_all rest) front.ends))

  comment_as : (w xs ys : List ℕ) → xs ≡ 40 ∷ 42 ∷ w → Ended xs ys → IsComment xs → IsComment ys
  comment_as w xs ys head h is =
      let stays = pair_stays 40 42 w ys (λ e. cc, λ e. cc) (subst (λ t. Ended t ys) head h) in
      comment_stays w ys stays.0 (subst IsComment head is) stays.1 stays.2

  comment_ended : (xs ys : List ℕ) → Ended xs ys → IsComment xs → IsComment ys
  comment_ended xs ys h is = let head = comment_head xs is.begins in comment_as head.0 xs ys head.1 h is

  -- ---- lexemes

  kind_ended : (k : LexemeKind) (xs ys : List ℕ) → Ended xs ys → IsLexemeOfKind k xs → IsLexemeOfKind k ys
  kind_ended lexeme.WhiteSpace xs ys h is = record { nonempty = some_ended xs ys h is.nonempty; all = white_ended xs ys h is.all }
  kind_ended lexeme.Comment xs ys h is = comment_ended xs ys h is
  kind_ended (lexeme.Token k) xs ys h is = subst (IsLexemeOfKind (lexeme.Token k)) (sym (ended_other xs ys (token_other k xs is) h)) is

  end_first : (e : FileLineEnd) (k : LexemeKind) (rest : List ℕ) → continues_lexeme k (get_or (line_end_text e ++ rest) 0 0) ≡ continues_lexeme k 10
  end_first line_feed k rest = refl
  end_first carriage_return_line_feed k rest = return_continues k
  end_first carriage_return k rest = return_continues k

  first_ended : (k : LexemeKind) (xs ys : List ℕ) → Ended xs ys → continues_lexeme k (get_or ys 0 0) ≡ continues_lexeme k (get_or xs 0 0)
  first_ended k [] ys h = ap (λ t. continues_lexeme k (get_or t 0 0)) h
  first_ended k (x ∷ xs) ys (inl (rest, is, h)) = ap (λ t. continues_lexeme k (get_or t 0 0)) is
  first_ended k (x ∷ xs) ys (inr (rest, feed, is, h)) = ap (λ t. continues_lexeme k (get_or t 0 0)) is ∙ end_first ends k rest ∙ ap (continues_lexeme k) (sym feed)

  words_ended : (k : LexemeKind) (xs ys : List ℕ) → Ended xs ys → IsLexemeOfKind k xs → words_of_one_lexeme (record { kind = k; text = ys }) k ≡ words_of_one_lexeme (record { kind = k; text = xs }) k
  words_ended lexeme.WhiteSpace xs ys h is = refl
  words_ended lexeme.Comment xs ys h is = refl
  words_ended (lexeme.Token k) xs ys h is = ap (λ t. words_of_one_lexeme (record { kind = lexeme.Token k; text = t }) (lexeme.Token k)) (ended_other xs ys (token_other k xs is) h)

  -- states that a text has lexemes with the same words as these
  record SameWords (ls : List Lexeme) (text : List ℕ) : Type 0 where
    others : List Lexeme
    whole : text_of_lexemes others ≡ text
    apart : EachLexemeEndsBeforeNext others
    same : words_of_lexemes others ≡ words_of_lexemes ls

  lexemes_ended : (ls : List Lexeme) (ys : List ℕ) → EachLexemeEndsBeforeNext ls → Ended (text_of_lexemes ls) ys → SameWords ls ys
  lexemes_ended [] ys apart h = record { others = []; whole = sym h; apart = tt; same = refl }
  lexemes_ended (l ∷ ls) ys apart h =
      let (front, back, cut, first, last) = ended_parts l.text (text_of_lexemes ls) ys h in
      let rest = lexemes_ended ls back apart.1 last in
      let own : Lexeme = record { kind = l.kind; text = front } in
      record {
        others = own ∷ rest.others;
        whole = ap (λ t. front ++ t) rest.whole ∙ sym cut;
        apart = (
          record {
            belongs = kind_ended l.kind l.text front first apart.0.belongs;
            ends = ap (λ t. continues_lexeme l.kind (get_or t 0 0)) rest.whole ∙ first_ended l.kind (text_of_lexemes ls) back last ∙ apart.0.ends;
          },
          rest.apart,
        );
        same = λ i. words_ended l.kind l.text front first apart.0.belongs i ++ rest.same i;
      }

  -- A text in which line ends take the place of LFs has the same tokens.
  pub same_words_ended : (text ys : List ℕ) (ls : List Lexeme) → LexesInto text ls → Ended text ys → (others : List Lexeme) × LexesInto ys others × (words_of_lexemes others ≡ words_of_lexemes ls)
  same_words_ended text ys ls lexed h =
      let parts = (cut_into_lexemes_depends_only_on_next_bytes text ls).0 lexed in
      let found = lexemes_ended ls ys parts.1 (subst (λ t. Ended t ys) (sym parts.0) h) in
      (found.others, (cut_into_lexemes_depends_only_on_next_bytes ys found.others).1 (found.whole, found.apart), found.same)
