-- Defines a test for lists of lexemes. Proves that a list that passes the test has the lexemes of
-- its text (`LexesInto`).
use Rattle.std.proofs.Common.{◌≡◌, ◌∙◌, ℕ, Bool, true, false, ◌&&◌, ◌==◌, not, List, [], ◌∷◌, length, refl, sym, subst, arith, eqb-true}
use Rattle.std.specs.Prelude.{nat_lt, slice_index, bytes_eq}
use Rattle.std.specs.List.{list_all, list_any}
use Rattle.std.proofs.lemmas.Bool.{and_parts, ltb-true}
use Rattle.std.proofs.lemmas.Slice.Eq.{bytes_eq-Decides}
use Rattle.std.proofs.lemmas.List.Sums.{AllPass-from_list_all}
use Rattle.std.specs.Char.{is_ascii_alphabetic, is_ascii_alphanumeric, is_ascii_digit}
use Rattle.ob0_scan.specs.declared.lexeme.ReservedWord.{ReservedWord}
use Rattle.ob0_scan.specs.declared.lexeme.ReservedWord.TheVariants as reserved
use Rattle.ob0_scan.specs.declared.lexeme.TokenKind.TheVariants as token
use Rattle.ob0_scan.specs.declared.lexeme.LexemeKind.{LexemeKind}
use Rattle.ob0_scan.specs.declared.lexeme.LexemeKind.TheVariants as lexeme
use Rattle.ob0_scan.specs.LexemeClasses.{IsLexemeOfKind, IsIdentifier, decimal_value, is_white_space, reserved_word_text, symbol_text}
use Rattle.ob0_scan.specs.LexemeEnds.{EachLexemeEndsBeforeNext, continues_lexeme}
use Rattle.ob0_scan.specs.TextLexemes.{LexesInto, Lexeme, text_of_lexemes}
use Rattle.ob0_scan.proofs.Borders.{cut_into_lexemes_depends_only_on_next_bytes}

abbrev pub all_reserved : List ReservedWord
all_reserved =
    reserved.Module ∷ reserved.Begin ∷ reserved.End ∷ reserved.Const ∷ reserved.Type ∷ reserved.Var ∷ reserved.Procedure ∷ reserved.If ∷ reserved.Then ∷ reserved.Elsif ∷ reserved.Else
    ∷ reserved.While ∷ reserved.Do ∷ reserved.Array ∷ reserved.Of ∷ reserved.Record ∷ reserved.Div ∷ reserved.Mod ∷ reserved.Or ∷ reserved.Repeat ∷ reserved.Until ∷ []

abbrev pub is_reserved : List ℕ → Bool
is_reserved text = list_any (λ word. bytes_eq text (reserved_word_text word)) all_reserved

abbrev pub is_name : List ℕ → Bool
is_name text = is_ascii_alphabetic (slice_index text 0) && (list_all is_ascii_alphanumeric text && not (is_reserved text))

among : (word : ReservedWord) → list_any (λ w. bytes_eq (reserved_word_text word) (reserved_word_text w)) all_reserved ≡ true
among reserved.Module = refl
among reserved.Begin = refl
among reserved.End = refl
among reserved.Const = refl
among reserved.Type = refl
among reserved.Var = refl
among reserved.Procedure = refl
among reserved.If = refl
among reserved.Then = refl
among reserved.Elsif = refl
among reserved.Else = refl
among reserved.While = refl
among reserved.Do = refl
among reserved.Array = refl
among reserved.Of = refl
among reserved.Record = refl
among reserved.Div = refl
among reserved.Mod = refl
among reserved.Or = refl
among reserved.Repeat = refl
among reserved.Until = refl

not_reserved : (text : List ℕ) → not (is_reserved text) ≡ true → (word : ReservedWord) → text ≡ reserved_word_text word → ⊥
not_reserved text differs_from_reserved word is = go (is_reserved text) refl differs_from_reserved
  where
    always : is_reserved text ≡ true
    always = subst (λ t. is_reserved t ≡ true) (sym is) (among word)

    go : (b : Bool) → is_reserved text ≡ b → not b ≡ true → ⊥
    go true e f = absurd (cc)
    go false e f = let both : true ≡ false = sym always ∙ e in absurd (cc)

pub identifier_of : (text : List ℕ) → is_name text ≡ true → IsIdentifier text
identifier_of text h =
    let a = and_parts (is_ascii_alphabetic (slice_index text 0)) (list_all is_ascii_alphanumeric text && not (is_reserved text)) h in
    let b = and_parts (list_all is_ascii_alphanumeric text) (not (is_reserved text)) a.1 in
    record { word = record { letter = a.0; all = AllPass-from_list_all is_ascii_alphanumeric text b.0 }; differs_from_reserved = not_reserved text b.1 }

abbrev pub belongs_test : LexemeKind → List ℕ → Bool
belongs_test lexeme.WhiteSpace text = nat_lt 0 (length text) && list_all is_white_space text
belongs_test lexeme.Comment text = false
belongs_test (lexeme.Token token.Identifier) text = is_name text
belongs_test (lexeme.Token (token.ReservedWord word)) text = bytes_eq text (reserved_word_text word)
belongs_test (lexeme.Token (token.Integer value)) text =
    (nat_lt 0 (length text) && list_all is_ascii_digit text) && ((value == decimal_value text) && nat_lt value 2147483648)
belongs_test (lexeme.Token (token.Symbol s)) text = bytes_eq text (symbol_text s)

belongs_so : (kind : LexemeKind) (text : List ℕ) → belongs_test kind text ≡ true → IsLexemeOfKind kind text
belongs_so lexeme.WhiteSpace text h =
    let a = and_parts (nat_lt 0 (length text)) (list_all is_white_space text) h in
    record { nonempty = ltb-true 0 (length text) a.0; all = AllPass-from_list_all is_white_space text a.1 }
belongs_so lexeme.Comment text h = absurd (cc)
belongs_so (lexeme.Token token.Identifier) text h = identifier_of text h
belongs_so (lexeme.Token (token.ReservedWord word)) text h = (bytes_eq-Decides text (reserved_word_text word)).0 h
belongs_so (lexeme.Token (token.Integer value)) text h =
    let a = and_parts (nat_lt 0 (length text) && list_all is_ascii_digit text) ((value == decimal_value text) && nat_lt value 2147483648) h in
    let b = and_parts (nat_lt 0 (length text)) (list_all is_ascii_digit text) a.0 in
    let c = and_parts (value == decimal_value text) (nat_lt value 2147483648) a.1 in
    record {
      digits = record { nonempty = ltb-true 0 (length text) b.0; all = AllPass-from_list_all is_ascii_digit text b.1 };
      value_of_digits = eqb-true value (decimal_value text) c.0;
      fits = let low = ltb-true value 2147483648 c.1 in omega (arith, low);
    }
belongs_so (lexeme.Token (token.Symbol s)) text h = (bytes_eq-Decides text (symbol_text s)).0 h

abbrev pub are_disjoint : List Lexeme → Bool
are_disjoint [] = true
are_disjoint (l ∷ lexemes) = (belongs_test l.kind l.text && not (continues_lexeme l.kind (slice_index (text_of_lexemes lexemes) 0))) && are_disjoint lexemes

apart_so : (lexemes : List Lexeme) → are_disjoint lexemes ≡ true → EachLexemeEndsBeforeNext lexemes
apart_so [] h = tt
apart_so (l ∷ lexemes) h =
    let a = and_parts (belongs_test l.kind l.text && not (continues_lexeme l.kind (slice_index (text_of_lexemes lexemes) 0))) (are_disjoint lexemes) h in
    let b = and_parts (belongs_test l.kind l.text) (not (continues_lexeme l.kind (slice_index (text_of_lexemes lexemes) 0))) a.0 in
    (record { belongs = belongs_so l.kind l.text b.0; ends = off (continues_lexeme l.kind (slice_index (text_of_lexemes lexemes) 0)) b.1 }, apart_so lexemes a.1)
  where
    off : (v : Bool) → not v ≡ true → v ≡ false
    off true e = absurd (cc)
    off false e = refl

pub lexed_so : (text : List ℕ) (lexemes : List Lexeme) → text_of_lexemes lexemes ≡ text → are_disjoint lexemes ≡ true → LexesInto text lexemes
lexed_so text lexemes whole apart = (cut_into_lexemes_depends_only_on_next_bytes text lexemes).1 (whole, apart_so lexemes apart)
