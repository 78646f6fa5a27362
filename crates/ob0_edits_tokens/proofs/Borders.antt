-- Proves that no lexeme begins or ends inside a character or a line ending.
use Rattle.std.proofs.Common.{◌≡◌, ℕ, suc, ◌+◌, ◌-◌, ◌<◌, Bool, true, false, List, [], ◌∷◌, length, get_or, drop, refl, sym, ap, ◌∙◌, subst, arith, append-nil, add-zero}
use Rattle.std.specs.List.{AllPass}
use Rattle.std.specs.Str.{IsCharBoundary, IsUtf8}
use Rattle.std.specs.Char.{is_ascii_alphanumeric, is_ascii_digit}
use Rattle.std.proofs.lemmas.List.{get_or-drop, get_or_append_left}
use Rattle.std.proofs.lemmas.Str.{IsCharBoundary-start}
use Rattle.ob0_scan.specs.declared.lexeme.Symbol.{Symbol}
use Rattle.ob0_scan.specs.declared.lexeme.Symbol.TheVariants as symbol
use Rattle.ob0_scan.specs.declared.lexeme.TokenKind.TheVariants as token
use Rattle.ob0_scan.specs.declared.lexeme.LexemeKind.{LexemeKind}
use Rattle.ob0_scan.specs.declared.lexeme.LexemeKind.TheVariants as lexeme
use Rattle.ob0_scan.specs.LexemeClasses.{IsLexemeOfKind, is_white_space, symbol_text}
use Rattle.ob0_scan.specs.Comments.{IsComment}
use Rattle.ob0_scan.specs.TextLexemes.{Lexeme, text_of_lexemes}
use Rattle.ob0_scan.specs.LexemeEnds.{continues_lexeme, EachLexemeEndsBeforeNext}
use Rattle.ob0_scan.specs.TextWithTokens.{TextWithTokens, IsScan}
use Rattle.ob0_scan.proofs.Borders.{cut_into_lexemes_depends_only_on_next_bytes}
use Rattle.ob0_scan.proofs.Closings.{closing, comment_found}
use Rattle.ob0_scan.proofs.Cuts.{nonempty}
use Rattle.ob0_scan.proofs.Families.{comment_head, reserved_word}
use Rattle.ob0_scan.proofs.Places.{following_lexeme, last_closing}

-- States that the bytes around an offset are a CR and its LF.
pub record IsEnding (bytes : List ℕ) (offset : ℕ) : Type 0 where
  pub cr : get_or bytes (offset - 1) 0 ≡ 13
  pub lf : get_or bytes offset 0 ≡ 10

-- States that an offset is between characters, and not inside a line ending.
pub record IsBorder (bytes : List ℕ) (offset : ℕ) : Type 0 where
  pub place : IsCharBoundary bytes offset
  pub clear : IsEnding bytes offset → ⊥

symbol_last : (s : Symbol) → get_or (symbol_text s) (length (symbol_text s) - 1) 0 ≡ 13 → ⊥
symbol_last symbol.And e = omega (arith, e)
symbol_last _ e = omega (arith, e)

passing_last : (passes : ℕ → Bool) (t : List ℕ) → 0 < length t → AllPass passes t → passes 13 ≡ false → get_or t (length t - 1) 0 ≡ 13 → ⊥
passing_last passes t some all none e = let clash : true ≡ false = sym (all (length t - 1) 0 (omega arith)) ∙ ap passes e ∙ none in cc

-- A comment ends with a `)`.
comment_last : (t : List ℕ) → IsComment t → get_or t (length t - 1) 0 ≡ 41
comment_last t h =
    let found = comment_found t t [] h (append-nil t) in
    let head = comment_head t h.begins in
    let last = last_closing 0 head.0 found.0 (sym (ap (λ x. closing 1 (drop 2 x)) head.1) ∙ found.1) in
    let place : length t - 1 ≡ suc (suc (found.0 - 1)) = omega (arith, found.2, last.0) in
    ap (λ i. get_or t i 0) place ∙ ap (λ x. get_or x (suc (suc (found.0 - 1))) 0) head.1 ∙ last.1

-- If a lexeme ends with CR, it is white space, so LF would continue it.
no_ending : (k : LexemeKind) (t : List ℕ) → IsLexemeOfKind k t → (byte : ℕ) → continues_lexeme k byte ≡ false → get_or t (length t - 1) 0 ≡ 13 → byte ≡ 10 → ⊥
no_ending lexeme.WhiteSpace t h byte ends cr lf = let clash : true ≡ false = sym (ap is_white_space lf) ∙ ends in cc
no_ending lexeme.Comment t h byte ends cr lf = omega (arith, comment_last t h, cr)
no_ending (lexeme.Token token.Identifier) t h byte ends cr lf = passing_last is_ascii_alphanumeric t (nonempty (lexeme.Token token.Identifier) t h) h.word.all refl cr
no_ending (lexeme.Token (token.ReservedWord r)) t h byte ends cr lf =
    passing_last is_ascii_alphanumeric t (nonempty (lexeme.Token (token.ReservedWord r)) t h) (subst (AllPass is_ascii_alphanumeric) (sym h) (reserved_word r).all) refl cr
no_ending (lexeme.Token (token.Integer n)) t h byte ends cr lf = passing_last is_ascii_digit t h.digits.nonempty h.digits.all refl cr
no_ending (lexeme.Token (token.Symbol s)) t h byte ends cr lf = symbol_last s (subst (λ x. get_or x (length x - 1) 0 ≡ 13) h cr)

-- States that these lexemes are the text starting at an offset.
pub record IsRest (text : List ℕ) (at : ℕ) (ls : List Lexeme) : Type 0 where
  pub border : IsBorder text at
  pub whole : drop at text ≡ text_of_lexemes ls
  pub apart : EachLexemeEndsBeforeNext ls

pub next_rest : (text : List ℕ) → IsUtf8 text → (at : ℕ) (l : Lexeme) (ls : List Lexeme) → IsRest text at (l ∷ ls) → IsRest text (at + length l.text) ls
next_rest text u at l ls r =
    let belongs = r.apart.0.belongs in
    let some : 0 < length l.text = nonempty l.kind l.text belongs in
    let next = following_lexeme text at l.kind l.text (text_of_lexemes ls) u r.border.place.0 belongs r.whole in
    let here : at + length l.text - 1 ≡ at + (length l.text - 1) = omega (arith, some) in
    let last : get_or text (at + length l.text - 1) 0 ≡ get_or l.text (length l.text - 1) 0 =
    ap (λ n. get_or text n 0) here ∙ sym (get_or-drop at text (length l.text - 1) 0) ∙ ap (λ t. get_or t (length l.text - 1) 0) r.whole
    ∙ get_or_append_left l.text (text_of_lexemes ls) 0 (length l.text - 1) (omega (arith, some)) in
    let first : get_or text (at + length l.text) 0 ≡ get_or (text_of_lexemes ls) 0 0 =
    ap (λ n. get_or text n 0) (sym (add-zero (at + length l.text))) ∙ sym (get_or-drop (at + length l.text) text 0 0) ∙ ap (λ t. get_or t 0 0) next.1 in
    record {
      border = record { place = next.0; clear = λ ending. no_ending l.kind l.text belongs (get_or (text_of_lexemes ls) 0 0) r.apart.0.ends (sym last ∙ ending.cr) (sym first ∙ ending.lf) };
      whole = next.1;
      apart = r.apart.1;
    }

-- The lexemes of a scanned text are that text.
pub scan_rest : (s : TextWithTokens) (scan : IsScan s) → IsRest s.text 0 scan.lexemes
scan_rest s scan =
    let cut = (cut_into_lexemes_depends_only_on_next_bytes s.text scan.lexemes).0 scan.lexed in
    let before : 0 - 1 ≡ 0 = omega arith in
    record {
      border = record { place = IsCharBoundary-start s.text scan.utf8; clear = λ ending. omega (arith, ending.cr, ending.lf, ap (λ n. get_or s.text n 0) before) };
      whole = sym cut.0;
      apart = cut.1;
    }
