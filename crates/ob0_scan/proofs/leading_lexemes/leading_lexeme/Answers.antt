use Rattle.std.proofs.Common.{◌≡◌, ◌≢◌, ◌∙◌, ◌∷◌, [], ℕ, sym, ap, subst, get_or, take, drop, eqb, List, true, false, take-append-drop, ◌++◌}
use Rattle.std.specs.Char.{is_ascii_digit}
use Rattle.std.specs.List.{prefix_len, starts_with}
use Rattle.std.proofs.lemmas.Slice.Eq.{starts_is}
use Rattle.std.proofs.lemmas.Bool.Decides.{Decides-eqb}
use Rattle.ob0_scan.specs.declared.lexeme.LexemeKind.TheVariants as lexeme
use Rattle.ob0_scan.specs.declared.lexeme.TokenKind.TheVariants as token
use Rattle.ob0_scan.specs.LexemeClasses.{is_white_space}
use Rattle.ob0_scan.specs.LeadingLexemes.{StartsWithLexeme, StartsWithNoLexeme}
use Rattle.ob0_scan.proofs.Families.{family-mark}
use Rattle.ob0_scan.proofs.Runs.{space_first}
use Rattle.ob0_scan.proofs.Symbols.{symbol_first, no_mark}
use Rattle.ob0_scan.proofs.leading_lexemes.leading_lexeme.Goals as goal

pub returns-then-is_white_space : goal.returns-then-is_white_space
returns-then-is_white_space c =
    let text = c.args.text.now in
    let same = c.as_bytes-bytes.ensures.value in
    let head = subst (λ t. is_white_space (get_or t 0 0) ≡ true) same (sym c.if-is_white_space.ensures) in
    subst (StartsWithLexeme text lexeme.WhiteSpace) (sym (c.leading_white_space_len.ensures ∙ ap (prefix_len is_white_space) same)) (space_first text head c.requires)

-- If `starts_with` is false, the text doesn't begin with the pair `(*`
no_pair : (text : List ℕ) → false ≡ starts_with eqb text (40 ∷ 42 ∷ []) → take 2 text ≢ 40 ∷ 42 ∷ []
no_pair text h e =
    let split : text ≡ (40 ∷ 42 ∷ []) ++ drop 2 text = sym (take-append-drop 2 text) ∙ ap (λ t. t ++ drop 2 text) e in
    let clash : false ≡ true = (starts_is Decides-eqb text (40 ∷ 42 ∷ []) false h).1 (drop 2 text) split in
    cc

pub returns-in-Some : goal.returns-in-Some
returns-in-Some c =
    let same = c.as_bytes-bytes.ensures.value in
    subst (λ t. StartsWithLexeme t (lexeme.Token (token.Symbol c.in-Some.symbol)) c.in-Some.len) same
    (symbol_first c.as_bytes-bytes.result.now c.in-Some.symbol c.in-Some.len (no_pair c.as_bytes-bytes.result.now c.if-starts_with.ensures.value) c.in-Some.ensures.found)

pub returns-in_default : goal.returns-in_default
returns-in_default c =
    let bytes = c.as_bytes-bytes.result.now in
    let same = c.as_bytes-bytes.ensures.value in
    let byte = get_or bytes 0 0 in
    record {
      nonempty = c.first_char_len.ensures.nonempty;
      boundary = c.first_char_len.ensures.boundary;
      fault = record {
        no_lexeme = subst StartsWithNoLexeme same (no_mark bytes
            (family-mark byte (sym c.if-is_white_space.ensures) (sym c.if-is_ascii_alphabetic.ensures.value) (sym c.if-is_ascii_digit.ensures.value))
            (no_pair bytes c.if-starts_with.ensures.value)
            c.in_default.ensures.none);
        fault_at_start = (
          subst (λ t. is_ascii_digit (get_or t 0 0) ≡ false) same (sym c.if-is_ascii_digit.ensures.value),
          subst (λ t. take 2 t ≢ 40 ∷ 42 ∷ []) same (no_pair bytes c.if-starts_with.ensures.value),
          c.first_char_len.ensures.character,
        );
      };
    }
