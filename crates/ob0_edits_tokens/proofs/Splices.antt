-- Proves which lexemes result if identifiers of a text are replaced, and if a declaration before
-- them is removed.
use Rattle.std.proofs.Common.{◌≡◌, ℕ, suc, ◌+◌, true, List, [], ◌∷◌, ◌++◌, length, get_or, map, sym, ap, ap₂, ◌∙◌, subst, arith, append_assoc, length-append, ⊎_elim}
use Rattle.std.specs.Str.{IsUtf8}
use Rattle.std.specs.Char.{is_ascii_alphanumeric}
use Rattle.std.proofs.lemmas.List.{get_or_append_left}
use Rattle.std.proofs.lemmas.Str.{IsUtf8-nil}
use Rattle.ob0_scan.specs.declared.lexeme.ReservedWord.TheVariants as reserved
use Rattle.ob0_scan.specs.declared.lexeme.Symbol.TheVariants as symbol
use Rattle.ob0_scan.specs.declared.lexeme.TokenKind.TheVariants as token
use Rattle.ob0_scan.specs.declared.lexeme.LexemeKind.TheVariants as lexeme
use Rattle.ob0_scan.specs.declared.lexeme.Token.{Token}
use Rattle.ob0_scan.specs.LexemeClasses.{IsLexemeOfKind, IsIdentifier}
use Rattle.ob0_scan.specs.TextLexemes.{Lexeme, text_of_lexemes}
use Rattle.ob0_scan.specs.LexemeEnds.{EachLexemeEndsBeforeNext}
use Rattle.ob0_scan.specs.TextWithTokens.{Word, words_of_one_lexeme, words_of_lexemes}
use Rattle.ob0_scan.proofs.Cuts.{nonempty}
use Rattle.ob0_scan.proofs.Reusing.{joined_append}
use Rattle.ob0_scan.proofs.Runs.{letter_or_digit}
use Rattle.ob0_text.specs.Patches.{Cut, text_after_cuts_from_offset}
use Rattle.ob0_edits_tokens.specs.WordReplacements.{WordChanges, changed_words, changes_at_indexes}
use Rattle.ob0_edits_tokens.specs.Removals.{changes_with_removal, MayBeConstantDeclaration, removal_cut}
use Rattle.ob0_edits_tokens.specs.Replacements.{AreIdentifierIndexes, MayReplaceIdentifier, replacement_cut, token_at_or_empty}
use Rattle.ob0_edits_tokens.proofs.Borders.{IsBorder}
use Rattle.ob0_edits_tokens.proofs.ChangedWords.{first_changed, part_removed, unchanged, words_before}
use Rattle.ob0_edits_tokens.proofs.Joints.{IsInPlaceOf, IsNoOtherSymbol, after_same, first_byte, joined, name_replaced, words_append}
use Rattle.ob0_edits_tokens.proofs.TextCuts.{AreCuts, cuts_from, pieced_end, pieced_here, pieced_kept}
use Rattle.ob0_edits_tokens.proofs.TokenPlaces.{AreAt, HasToken, further_on, token_here, token_in}

-- States that separate lexemes with these words spell a text.
pub record IsSpelled (text : List ℕ) (words : List Word) : Type 0 where
  pub lexemes : List Lexeme
  pub apart : EachLexemeEndsBeforeNext lexemes
  pub read : words_of_lexemes lexemes ≡ words
  pub whole : text_of_lexemes lexemes ≡ text

module _ (text : List ℕ) (u : IsUtf8 text) (tokens : List Token) (new : List ℕ) (good : IsUtf8 new) where
  -- States that cuts of a text leave lexemes with changed words, if the cuts put in what may replace
  -- a name. The text is the one starting at an offset, with the lexemes `ls`.
  pub record Leaves (at k : ℕ) (ls : List Lexeme) (cs : List Cut) (changes : List Word → WordChanges) : Type 0 where
    pub cuts : AreCuts text at cs
    pub left : (ws : List Word) → MayReplaceIdentifier new ws → IsSpelled (text_after_cuts_from_offset text at cs) (changed_words (changes ws) k (words_of_lexemes ls))

  abbrev cuts_at : List ℕ → List Cut
  cuts_at = map (replacement_cut tokens new)

  -- States that identifiers can be replaced, and that the remaining text may stand in the place of
  -- the lexemes `ls`.
  pub record Replacements (at k : ℕ) (ls : List Lexeme) (indexes : List ℕ) : Type 0 where
    pub leaves : Leaves at k ls (cuts_at indexes) (changes_at_indexes indexes)
    pub fits : (ws : List Word) (may : MayReplaceIdentifier new ws) → IsInPlaceOf ls (leaves.left ws may).lexemes

  -- The text before a token doesn't change if all cuts are after it.
  front_kept : (at k : ℕ) (ls : List Lexeme) (p : ℕ) (cs : List Cut) → AreAt text u tokens at k ls → (t : HasToken text u tokens at k ls p) → AreCuts text t.start cs → text_after_cuts_from_offset text at cs ≡ text_of_lexemes t.before ++ text_after_cuts_from_offset text t.start cs
  front_kept at k ls p cs r t are =
      pieced_kept text at t.start (text_of_lexemes t.before) (text_of_lexemes (t.here ∷ t.after)) cs (r.rest.whole ∙ ap text_of_lexemes t.whole ∙ joined_append t.before (t.here ∷ t.after)) t.start_is are

  pub replaced : (at k : ℕ) (ls : List Lexeme) (indexes : List ℕ) → AreAt text u tokens at k ls → AreIdentifierIndexes tokens k indexes → Replacements at k ls indexes
  replaced at k ls [] r names = record {
    leaves = record { cuts = tt; left = λ ws may. record { lexemes = ls; apart = r.rest.apart; read = sym (unchanged k (words_of_lexemes ls)); whole = sym r.rest.whole ∙ pieced_end text at } };
    fits = λ ws may. record { apart = r.rest.apart; front = λ kind h. h };
  }
  replaced at k ls (p ∷ ps) r names =
      let t = token_in text u tokens at k ls p r names.0 names.1 in
      let later = replaced t.end (suc p) t.after ps t.to names.3 in
      let name : t.here.kind ≡ lexeme.Token token.Identifier = t.kind ∙ ap lexeme.Token names.2 in
      let cuts : AreCuts text t.start (cuts_at (p ∷ ps)) = (
        record { up = omega (arith, t.start_of); ordered = omega (arith, t.start_of, t.end_is, t.end_of); start = subst (IsBorder text) (sym t.start_of) t.from.rest.border; end = subst (IsBorder text) (sym t.end_of) t.to.rest.border; utf8 = good },
        subst (λ n. AreCuts text n (cuts_at ps)) (sym t.end_of) later.leaves.cuts,
      ) in
      let words : words_of_lexemes ls ≡ words_of_lexemes t.before ++ (record { kind = token.Identifier; text = t.here.text } ∷ words_of_lexemes t.after) =
      ap words_of_lexemes t.whole ∙ words_append t.before (t.here ∷ t.after) ∙ ap (λ kind. words_of_lexemes t.before ++ (words_of_one_lexeme t.here kind ++ words_of_lexemes t.after)) name in
      let here : AreIdentifierIndexes tokens p (p ∷ ps) = (omega arith, names.1, names.2, names.3) in
      let fits : (ws : List Word) (may : MayReplaceIdentifier new ws) → IsInPlaceOf ls (t.before ++ (may.lexemes ++ (later.leaves.left ws may).lexemes)) = λ ws may.
      let rest = later.leaves.left ws may in
      subst (λ xs. IsInPlaceOf xs (t.before ++ (may.lexemes ++ rest.lexemes))) (sym t.whole)
      (after_same t.before (t.here ∷ t.after) (may.lexemes ++ rest.lexemes) (subst EachLexemeEndsBeforeNext t.whole r.rest.apart) (name_replaced new ws may t.here t.after rest.lexemes name t.from.rest.apart (later.fits ws may))) in
      record {
        leaves = record {
          cuts = cuts_from text t.start at (cuts_at (p ∷ ps)) (omega (arith, t.start_is)) cuts;
          left = λ ws may.
              let rest = later.leaves.left ws may in
              record {
                lexemes = t.before ++ (may.lexemes ++ rest.lexemes);
                apart = (fits ws may).apart;
                read = words_append t.before (may.lexemes ++ rest.lexemes)
                    ∙ ap (λ x. words_of_lexemes t.before ++ x) (words_append may.lexemes rest.lexemes ∙ ap₂ (λ a b. a ++ b) may.read rest.read)
                    ∙ sym (ap (changed_words (changes_at_indexes (p ∷ ps) ws) k) words ∙ first_changed tokens p ps here ws k (words_of_lexemes t.before) (record { kind = token.Identifier; text = t.here.text }) (words_of_lexemes t.after) t.count);
                whole = joined_append t.before (may.lexemes ++ rest.lexemes)
                    ∙ ap (λ x. text_of_lexemes t.before ++ x) (joined_append may.lexemes rest.lexemes ∙ ap₂ (λ a b. a ++ b) may.whole rest.whole ∙ sym (pieced_here text t.start (replacement_cut tokens new p) t.end (cuts_at ps) t.start_of t.end_of))
                    ∙ sym (front_kept at k ls p (cuts_at (p ∷ ps)) r t cuts);
              };
        };
        fits = fits;
      }

  -- A declaration can be removed, and identifiers after it can be replaced.
  pub removed : (ls : List Lexeme) (first last : ℕ) (indexes : List ℕ) → AreAt text u tokens 0 0 ls → MayBeConstantDeclaration tokens first last → AreIdentifierIndexes tokens (suc last) indexes
      → Leaves 0 0 ls (removal_cut tokens first last ∷ cuts_at indexes) (λ ws. changes_with_removal first last (changes_at_indexes indexes ws))
  removed ls first last indexes r declaration names =
      let a = token_in text u tokens 0 0 ls first r (omega arith) (omega (arith, declaration.order, declaration.inside)) in
      let b = token_in text u tokens a.start first (a.here ∷ a.after) last a.from (omega (arith, declaration.order)) declaration.inside in
      let later = replaced b.end (suc last) b.after indexes b.to names in
      let all : List Cut = removal_cut tokens first last ∷ cuts_at indexes in
      let cuts : AreCuts text a.start all = (
        record { up = omega (arith, a.start_of); ordered = omega (arith, a.start_of, b.start_is, b.end_is, b.end_of); start = subst (IsBorder text) (sym a.start_of) a.from.rest.border; end = subst (IsBorder text) (sym b.end_of) b.to.rest.border; utf8 = IsUtf8-nil },
        subst (λ n. AreCuts text n (cuts_at indexes)) (sym b.end_of) later.leaves.cuts,
      ) in
      let belongs = a.from.rest.apart.0.belongs in
      let name : IsIdentifier a.here.text = subst (λ k. IsLexemeOfKind k a.here.text) (a.kind ∙ ap lexeme.Token declaration.name) belongs in
      let letter : is_ascii_alphanumeric (first_byte (a.here ∷ a.after)) ≡ true =
      ap is_ascii_alphanumeric (get_or_append_left a.here.text (text_of_lexemes a.after) 0 0 (nonempty a.here.kind a.here.text belongs)) ∙ letter_or_digit (get_or a.here.text 0 0) name.word.letter in
      let gone : List Word = words_of_lexemes b.before ++ words_of_one_lexeme b.here b.here.kind in
      let words : words_of_lexemes ls ≡ words_of_lexemes a.before ++ (gone ++ words_of_lexemes b.after) =
      ap words_of_lexemes a.whole ∙ words_append a.before (a.here ∷ a.after)
      ∙ ap (λ x. words_of_lexemes a.before ++ x) (ap words_of_lexemes b.whole ∙ words_append b.before (b.here ∷ b.after) ∙ sym (append_assoc (words_of_lexemes b.before) (words_of_one_lexeme b.here b.here.kind) (words_of_lexemes b.after))) in
      let many : first + length gone ≡ suc last = omega (arith, b.count, length-append (words_of_lexemes b.before) (words_of_one_lexeme b.here b.here.kind), ap (λ k. length (words_of_one_lexeme b.here k)) b.kind) in
      record {
        cuts = cuts_from text a.start 0 all (omega arith) cuts;
        left = λ ws may.
            let rest = later.leaves.left ws may in
            let j = joined a.before (a.here ∷ a.after) rest.lexemes letter (subst EachLexemeEndsBeforeNext a.whole r.rest.apart) rest.apart (border a) in
            record {
              lexemes = j.lexemes;
              apart = j.apart;
              read = j.read ∙ ap (λ x. words_of_lexemes a.before ++ x) rest.read
                  ∙ sym (ap (changed_words (changes_with_removal first last (changes_at_indexes indexes ws)) 0) words
                  ∙ part_removed first last (changes_at_indexes indexes ws) (words_of_lexemes a.before) gone (words_of_lexemes b.after) (omega (arith, a.count)) many
                  ∙ ap (λ x. x ++ changed_words (changes_at_indexes indexes ws) (suc last) (words_of_lexemes b.after)) (words_before tokens (suc last) indexes names ws 0 (words_of_lexemes a.before) (omega (arith, a.count, declaration.order))));
              whole = j.whole
                  ∙ ap (λ x. text_of_lexemes a.before ++ x) (rest.whole ∙ sym (pieced_here text a.start (removal_cut tokens first last) b.end (cuts_at indexes) a.start_of b.end_of))
                  ∙ sym (front_kept 0 0 ls first all r a cuts);
            };
      }
    where
      -- A lexeme just before the declaration is no symbol, except a semicolon.
      border : (a : HasToken text u tokens 0 0 ls first) (xs : List Lexeme) (l : Lexeme) → a.before ≡ xs ++ (l ∷ []) → IsNoOtherSymbol l.kind
      border a xs l e s is =
          let n : ℕ = length (words_of_lexemes xs) in
          let at : ℕ = length (text_of_lexemes xs) in
          let all : ls ≡ xs ++ (l ∷ (a.here ∷ a.after)) = a.whole ∙ ap (λ x. x ++ (a.here ∷ a.after)) e ∙ append_assoc xs (l ∷ []) (a.here ∷ a.after) in
          let there = further_on text u tokens xs (l ∷ (a.here ∷ a.after)) 0 0 at n (subst (AreAt text u tokens 0 0) all r) (omega arith) (omega arith) in
          let kind : (token_at_or_empty tokens n).kind ≡ token.Symbol s = ap (λ (t : Token). t.kind) (token_here text u tokens at n l (a.here ∷ a.after) (token.Symbol s) there is) in
          let long : length (words_of_lexemes a.before) ≡ n + length (words_of_one_lexeme l l.kind) =
          ap (λ x. length (words_of_lexemes x)) e ∙ ap length (words_append xs (l ∷ [])) ∙ length-append (words_of_lexemes xs) (words_of_lexemes (l ∷ [])) ∙ omega (arith, length-append (words_of_one_lexeme l l.kind) []) in
          ⊎_elim
          (λ c. absurd (let clash : token.Symbol s ≡ token.ReservedWord reserved.Const = sym kind ∙ c in cc))
          (λ c. let same : token.Symbol s ≡ token.Symbol symbol.Semicolon = sym kind ∙ c in cc)
          (declaration.preceded n (omega (arith, long, a.count, ap (λ k. length (words_of_one_lexeme l k)) is)))
