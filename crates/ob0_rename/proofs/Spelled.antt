-- Proves that the name of a declaration is an identifier.
use Rattle.std.proofs.Common.{◌≡◌, ℕ, zero, suc, ◌-◌, ◌<◌, List, [], ◌∷◌, ◌++◌, Option, None, Some, length, slice_get, sym, ◌∙◌, subst, arith, true}
use Rattle.std.specs.Prelude.{IfSome}
use Rattle.std.proofs.lemmas.List.{length-map}
use Rattle.ob0_scan.specs.LexemeClasses.{IsLexemeOfKind, IsIdentifier}
use Rattle.ob0_scan.specs.TextLexemes.{AreLeadingLexemes, Lexeme}
use Rattle.ob0_scan.specs.TextWithTokens.{IsScan, Word, word_of_token, words_of_one_lexeme, words_of_lexemes}
use Rattle.ob0_scan.specs.declared.lexeme.LexemeKind.{LexemeKind}
use Rattle.ob0_scan.specs.declared.lexeme.LexemeKind.TheVariants as lexeme
use Rattle.ob0_scan.specs.declared.lexeme.Token.{Token}
use Rattle.ob0_scan.specs.declared.lexeme.TokenKind.TheVariants as token
use Rattle.ob0_scan.proofs.Spans.{scan_words}
use Rattle.ob0_tree.proofs.Leaves.{leaves_are_identifiers}
use Rattle.ob0_tree.specs.IdentifierIndexes as order
use Rattle.ob0_tree.specs.IdentifierIndexes.{AreIdentifierTokens, names_without_roles}
use Rattle.ob0_tree.specs.ParsedModule.{TreeMatchesText, ParsedModule, tree_of}
use Rattle.ob0_tree.specs.TokenIndexLeaves as place
use Rattle.ob0_tree.specs.Tree.{identifiers}
use Rattle.ob0_tree.specs.declared.tree.Role.{Role}
use Rattle.ob0_tree.specs.declared.tree.Role.TheVariants as role
use Rattle.ob0_language_names.specs.Names.{Name}
use Rattle.ob0_scope_table.specs.Resolution.{declaring_names}
use Rattle.ob0_edits_tokens.specs.WordReplacements.{words_of_text}
use Rattle.ob0_edits_tokens.specs.WordsOfTrees.{word_text_at, word_at_or_empty}
use Rattle.ob0_edits_tokens.proofs.WordsOfTrees.{word_kind}
use Rattle.ob0_types.specs.IdentifierMeanings.{MeansField}
use Rattle.ob0_types.specs.declared.identifier_meanings.IdentifierWithMeaning.{IdentifierWithMeaning}
use Rattle.ob0_rename.specs.Renaming.{declaration_has_name}
use Rattle.ob0_rename.proofs.Owned.{IsDeclaredBy, declared_by, declaring_tokens}
use Rattle.ob0_rename.proofs.Rewritten.{text_same}

-- words that are names are identifiers

abbrev EachNamed : List Word → Type 0
EachNamed [] = Unit {0}
EachNamed (w ∷ ws) = (w.kind ≡ token.Identifier → IsIdentifier w.text) × EachNamed ws

words_named : (ls : List Lexeme) (after : List ℕ) → AreLeadingLexemes ls after → EachNamed (words_of_lexemes ls)
words_named [] after are = tt
words_named (l ∷ ls) after are = one l.kind are.0.belongs (words_named ls after are.1)
  where
    one : (kind : LexemeKind) → IsLexemeOfKind kind l.text → EachNamed (words_of_lexemes ls) → EachNamed (words_of_one_lexeme l kind ++ words_of_lexemes ls)
    one lexeme.WhiteSpace belongs later = later
    one lexeme.Comment belongs later = later
    one (lexeme.Token kind) belongs later = ((λ e. subst (λ k. IsLexemeOfKind (lexeme.Token k) l.text) e belongs), later)

named_word : (ws : List Word) (k : ℕ) → EachNamed ws → k < length ws → (word_at_or_empty ws k).kind ≡ token.Identifier → IsIdentifier (word_text_at ws k)
named_word [] k each low e = absurd (omega (arith, low))
named_word (w ∷ ws) zero each low e = each.0 e
named_word (w ∷ ws) (suc k) each low e = named_word ws k each.1 (omega (arith, low)) e

-- a declaring token is an identifier

declaring_are_identifiers : (ts : List Token) (xs : List (Role × ℕ)) → AreIdentifierTokens ts (names_without_roles xs) → AreIdentifierTokens ts (declaring_names xs)
declaring_are_identifiers ts [] h = tt
declaring_are_identifiers ts ((role.DeclaringName, n) ∷ xs) h = (h.0, declaring_are_identifiers ts xs h.1)
declaring_are_identifiers ts ((_, n) ∷ xs) h = declaring_are_identifiers ts xs h.1

one_is_identifier : (ts : List Token) (places : List ℕ) (j k : ℕ) → AreIdentifierTokens ts places → slice_get places j ≡ Some k → order.IsIdentifierToken ts k
one_is_identifier ts [] j k h e = absurd (cc)
one_is_identifier ts (p ∷ ps) zero k h e = let same : p ≡ k = cc in subst (order.IsIdentifierToken ts) same h.0
one_is_identifier ts (p ∷ ps) (suc j) k h e = one_is_identifier ts ps j k h.1 e

-- The text of an identifier token is an identifier.
pub spelled_at : (m : ParsedModule) (k : ℕ) → IsScan m.source → order.IsIdentifierToken m.source.tokens k → IsIdentifier (place.token_text_at m.source k)
spelled_at m k scan is_there =
    let each : EachNamed (words_of_text m.source) = subst EachNamed (sym (scan_words m.source scan)) (words_named scan.lexemes [] scan.lexed.each) in
    let low : k < length (words_of_text m.source) = omega (arith, is_there.0, length-map m.source.tokens (word_of_token m.source.text)) in
    subst IsIdentifier (text_same m.source k) (named_word (words_of_text m.source) k each low (word_kind m.source k ∙ is_there.1 _))

pub own_identifier : (m : ParsedModule) (d : ℕ) (new : Name) → TreeMatchesText m → IsScan m.source → declaration_has_name m d new ≡ true → IsIdentifier new
own_identifier m d new is scan e =
    let found = declared_by m d new e in
    let by : IsDeclaredBy m d new found.0 = found.1 in
    let is_there = one_is_identifier m.source.tokens (declaring_tokens m) (d - 7) found.0 (declaring_are_identifiers m.source.tokens (identifiers role.DeclaringName (tree_of m)) (leaves_are_identifiers m is)) by.there in
    subst IsIdentifier by.written (spelled_at m found.0 scan is_there)

-- The text of a field's identifier at a place is an identifier.
pub field_spelled : (m : ParsedModule) (found : Option IdentifierWithMeaning) → IsScan m.source → IfSome found (λ x. MeansField x.means → order.IsIdentifierToken m.source.tokens x.token) → IfSome found (λ x. MeansField x.means → IsIdentifier (place.token_text_at m.source x.token))
field_spelled m None scan is_identifier_token = tt
field_spelled m (Some x) scan is_identifier_token = λ field. spelled_at m x.token scan (is_identifier_token field)
