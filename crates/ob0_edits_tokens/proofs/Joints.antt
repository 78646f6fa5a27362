-- Proves which lexemes may stand in the place of others: lexemes that may replace a name, and white
-- space that meets white space.
use Rattle.std.proofs.Common.{◌≡◌, ℕ, ◌<◌, true, false, ◌⊎◌, inl, inr, ⊎_elim, List, [], ◌∷◌, ◌++◌, length, get_or, refl, sym, ap, ap₂, ◌∙◌, subst, arith, append_assoc, length-append}
use Rattle.std.specs.Char.{is_ascii_alphanumeric}
use Rattle.std.proofs.lemmas.Bool.{cases_Bool}
use Rattle.std.proofs.lemmas.List.Concat.{flat_map-append}
use Rattle.std.proofs.lemmas.List.{get_or_append_left}
use Rattle.std.proofs.lemmas.List.Elements.{All-append}
use Rattle.ob0_scan.specs.declared.lexeme.Symbol.{Symbol}
use Rattle.ob0_scan.specs.declared.lexeme.Symbol.TheVariants as symbol
use Rattle.ob0_scan.specs.declared.lexeme.TokenKind.TheVariants as token
use Rattle.ob0_scan.specs.declared.lexeme.LexemeKind.{LexemeKind}
use Rattle.ob0_scan.specs.declared.lexeme.LexemeKind.TheVariants as lexeme
use Rattle.ob0_scan.specs.LexemeClasses.{IsLexemeOfKind, IsIdentifier, IsNonEmptySequenceOf, is_white_space}
use Rattle.ob0_scan.specs.TextLexemes.{Lexeme, text_of_lexemes}
use Rattle.ob0_scan.specs.LexemeEnds.{continues_symbol, continues_lexeme, EndsBeforeByte, EachLexemeEndsBeforeNext}
use Rattle.ob0_scan.specs.TextWithTokens.{Word, words_of_one_lexeme, words_of_lexemes}
use Rattle.ob0_scan.proofs.Cuts.{nonempty}
use Rattle.ob0_scan.proofs.Families.{Blank, family_of, family-blank, head_family}
use Rattle.ob0_scan.proofs.Reusing.{joined_append}
use Rattle.ob0_edits_tokens.specs.Replacements.{LexemesEndBeforeByte, MayReplaceIdentifier}

-- returns the first byte of some lexemes, or 0 if there is none
abbrev pub first_byte : List Lexeme → ℕ
first_byte ls = get_or (text_of_lexemes ls) 0 0

pub words_append : (xs ys : List Lexeme) → words_of_lexemes (xs ++ ys) ≡ words_of_lexemes xs ++ words_of_lexemes ys
words_append = flat_map-append (λ (l : Lexeme). words_of_one_lexeme l l.kind)

same_first : (w xs ys : List ℕ) → 0 < length w → get_or (w ++ xs) 0 0 ≡ get_or (w ++ ys) 0 0
same_first w xs ys some = get_or_append_left w xs 0 0 some ∙ sym (get_or_append_left w ys 0 0 some)

-- States that lexemes may stand in the place of others: they are separate, and a lexeme that ends
-- before the others ends before them.
pub record IsInPlaceOf (old new : List Lexeme) : Type 0 where
  pub apart : EachLexemeEndsBeforeNext new
  pub front : (kind : LexemeKind) → continues_lexeme kind (first_byte old) ≡ false → continues_lexeme kind (first_byte new) ≡ false

-- The lexemes in front of both stay.
pub after_same : (before old new : List Lexeme) → EachLexemeEndsBeforeNext (before ++ old) → IsInPlaceOf old new → IsInPlaceOf (before ++ old) (before ++ new)
after_same [] old new apart fits = fits
after_same (l ∷ ls) old new apart fits =
    let more = after_same ls old new apart.1 fits in
    record {
      apart = (record { belongs = apart.0.belongs; ends = more.front l.kind apart.0.ends }, more.apart);
      front = λ kind h. ap (continues_lexeme kind) (same_first l.text (text_of_lexemes (ls ++ new)) (text_of_lexemes (ls ++ old)) (nonempty l.kind l.text apart.0.belongs)) ∙ h;
    }

-- Only the first byte after a lexeme matters.
first_alone : (xs ys : List ℕ) → get_or (xs ++ (get_or ys 0 0 ∷ [])) 0 0 ≡ get_or (xs ++ ys) 0 0
first_alone [] [] = refl
first_alone _ _ = refl

append_apart : (xs ys : List Lexeme) → LexemesEndBeforeByte xs (first_byte ys) → EachLexemeEndsBeforeNext ys → EachLexemeEndsBeforeNext (xs ++ ys)
append_apart [] ys h k = k
append_apart (x ∷ xs) ys h k =
    (subst (λ b. EndsBeforeByte x b) (first_alone (text_of_lexemes xs) (text_of_lexemes ys) ∙ ap (λ t. get_or t 0 0) (sym (joined_append xs ys))) h.0, append_apart xs ys h.1 k)

-- What may replace a name may stand in the place of an identifier.
pub name_replaced : (new : List ℕ) (ws : List Word) (may : MayReplaceIdentifier new ws) (l : Lexeme) (old rest : List Lexeme) → l.kind ≡ lexeme.Token token.Identifier → EachLexemeEndsBeforeNext (l ∷ old) → IsInPlaceOf old rest → IsInPlaceOf (l ∷ old) (may.lexemes ++ rest)
name_replaced new ws may l old rest name apart fits =
    let belongs : IsIdentifier l.text = subst (λ x. IsLexemeOfKind x l.text) name apart.0.belongs in
    let stops : is_ascii_alphanumeric (first_byte rest) ≡ false = fits.front (lexeme.Token token.Identifier) (ap (λ x. continues_lexeme x (first_byte old)) (sym name) ∙ apart.0.ends) in
    let begins : first_byte (l ∷ old) ≡ get_or l.text 0 0 = get_or_append_left l.text (text_of_lexemes old) 0 0 (nonempty l.kind l.text apart.0.belongs) in
    let begun : first_byte (may.lexemes ++ rest) ≡ get_or new 0 0 =
    ap (λ t. get_or t 0 0) (joined_append may.lexemes rest ∙ ap (λ t. t ++ text_of_lexemes rest) may.whole) ∙ get_or_append_left new (text_of_lexemes rest) 0 0 may.some in
    record {
      apart = append_apart may.lexemes rest (may.apart (first_byte rest) stops) fits.apart;
      front = λ kind h. ap (continues_lexeme kind) begun ∙ may.front kind (get_or l.text 0 0) belongs.word.letter (sym (ap (continues_lexeme kind) begins) ∙ h);
    }

-- ---- white space that meets white space

-- holds if a lexeme ends before others, or if both it and their first byte are white space
abbrev MeetsLoosely : LexemeKind → List Lexeme → Type 0
MeetsLoosely kind ns = (continues_lexeme kind (first_byte ns) ≡ false) ⊎ ((kind ≡ lexeme.WhiteSpace) × (is_white_space (first_byte ns) ≡ true))

-- States that a lexeme is in front of others, merged with the first of them if both are white space.
record Merged (l : Lexeme) (ns : List Lexeme) : Type 0 where
  lexemes : List Lexeme
  apart : EachLexemeEndsBeforeNext lexemes
  read : words_of_lexemes lexemes ≡ words_of_one_lexeme l l.kind ++ words_of_lexemes ns
  whole : text_of_lexemes lexemes ≡ l.text ++ text_of_lexemes ns

blank_kind : (k : LexemeKind) → family_of k ≡ Blank → k ≡ lexeme.WhiteSpace
blank_kind lexeme.WhiteSpace e = refl
blank_kind (lexeme.Token token.Identifier) e = cc
blank_kind _ e = cc

merged : (l : Lexeme) (ns : List Lexeme) → IsLexemeOfKind l.kind l.text → EachLexemeEndsBeforeNext ns → MeetsLoosely l.kind ns → Merged l ns
merged l ns belongs apart (inl ends) = record { lexemes = l ∷ ns; apart = (record { belongs = belongs; ends = ends }, apart); read = refl; whole = refl }
merged l [] belongs apart (inr (space, begins)) = absurd (cc)
merged l (m ∷ ms) belongs apart (inr (space, begins)) =
    let first = get_or_append_left m.text (text_of_lexemes ms) 0 0 (nonempty m.kind m.text apart.0.belongs) in
    let blank : m.kind ≡ lexeme.WhiteSpace = blank_kind m.kind (sym (head_family m.kind m.text apart.0.belongs) ∙ family-blank (get_or m.text 0 0) (ap is_white_space (sym first) ∙ begins)) in
    let run : IsNonEmptySequenceOf is_white_space l.text = subst (λ k. IsLexemeOfKind k l.text) space belongs in
    let more : IsNonEmptySequenceOf is_white_space m.text = subst (λ k. IsLexemeOfKind k m.text) blank apart.0.belongs in
    let long = length-append l.text m.text in
    record {
      lexemes = record { kind = lexeme.WhiteSpace; text = l.text ++ m.text } ∷ ms;
      apart = (
        record {
          belongs = record { nonempty = omega (arith, long, run.nonempty); all = All-append (λ b. is_white_space b ≡ true) l.text m.text run.all more.all };
          ends = ap (λ k. continues_lexeme k (first_byte ms)) (sym blank) ∙ apart.0.ends;
        },
        apart.1,
      );
      read = sym (ap₂ (λ x y. words_of_one_lexeme l x ++ (words_of_one_lexeme m y ++ words_of_lexemes ms)) space blank);
      whole = append_assoc l.text m.text (text_of_lexemes ms);
    }

-- holds if no symbol has this kind, except the semicolon
abbrev pub IsNoOtherSymbol : LexemeKind → Type 0
IsNoOtherSymbol kind = (s : Symbol) → kind ≡ lexeme.Token (token.Symbol s) → s ≡ symbol.Semicolon

-- A lexeme meets all lexemes loosely if it ends before a letter and is no symbol except a semicolon.
meets : (kind : LexemeKind) → IsNoOtherSymbol kind → (ns : List Lexeme) (letter : ℕ) → is_ascii_alphanumeric letter ≡ true → continues_lexeme kind letter ≡ false → MeetsLoosely kind ns
meets lexeme.WhiteSpace other ns letter is h = ⊎_elim (λ blank. inr (refl, blank)) (λ ends. inl ends) (cases_Bool (is_white_space (first_byte ns)))
meets lexeme.Comment other ns letter is h = inl refl
meets (lexeme.Token (token.Symbol s)) other ns letter is h = inl (ap (λ x. continues_symbol x (first_byte ns)) (other s refl))
meets _ other ns letter is h = let clash : true ≡ false = sym is ∙ h in absurd (cc)

-- States that lexemes are in front of others, where white space that meets white space is one
-- lexeme. Before, they were in front of `old`.
pub record Joined (before old ns : List Lexeme) : Type 0 where
  pub lexemes : List Lexeme
  pub apart : EachLexemeEndsBeforeNext lexemes
  pub read : words_of_lexemes lexemes ≡ words_of_lexemes before ++ words_of_lexemes ns
  pub whole : text_of_lexemes lexemes ≡ text_of_lexemes before ++ text_of_lexemes ns
  pub front : (kind : LexemeKind) → (before ≡ [] → IsNoOtherSymbol kind) → continues_lexeme kind (first_byte (before ++ old)) ≡ false → MeetsLoosely kind lexemes

-- A lexeme after a semicolon or a reserved word can be removed if it begins with a letter.
pub joined : (before old ns : List Lexeme) → is_ascii_alphanumeric (first_byte old) ≡ true → EachLexemeEndsBeforeNext (before ++ old) → EachLexemeEndsBeforeNext ns
    → ((xs : List Lexeme) (l : Lexeme) → before ≡ xs ++ (l ∷ []) → IsNoOtherSymbol l.kind) → Joined before old ns
joined [] old ns letter apart new last = record { lexemes = ns; apart = new; read = refl; whole = refl; front = λ kind may h. meets kind (may refl) ns (first_byte old) letter h }
joined (l ∷ ls) old ns letter apart new last =
    let more = joined ls old ns letter apart.1 new (λ xs m e. last (l ∷ xs) m (ap (λ t. l ∷ t) e)) in
    let one = merged l more.lexemes apart.0.belongs more.apart (more.front l.kind (λ e. last [] l (ap (λ t. l ∷ t) e)) apart.0.ends) in
    let some : 0 < length l.text = nonempty l.kind l.text apart.0.belongs in
    record {
      lexemes = one.lexemes;
      apart = one.apart;
      read = one.read ∙ ap (λ t. words_of_one_lexeme l l.kind ++ t) more.read ∙ sym (append_assoc (words_of_one_lexeme l l.kind) (words_of_lexemes ls) (words_of_lexemes ns));
      whole = one.whole ∙ ap (λ t. l.text ++ t) more.whole ∙ sym (append_assoc l.text (text_of_lexemes ls) (text_of_lexemes ns));
      front = λ kind may h. inl (ap (λ t. continues_lexeme kind (get_or t 0 0)) one.whole ∙ ap (continues_lexeme kind) (same_first l.text (text_of_lexemes more.lexemes) (text_of_lexemes (ls ++ old)) some) ∙ h);
    }
