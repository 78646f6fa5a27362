-- Proves that the tokens of a text are the words of its lexemes.
use Rattle.std.proofs.Common.{◌≡◌, ℕ, List, [], ◌∷◌, map, refl, sym, ap, ◌∙◌}
use Rattle.ob0_scan.specs.declared.lexeme.Token.{Token}
use Rattle.ob0_scan.specs.TextWithTokens.{TextWithTokens, IsScan, Word, words_of_lexemes, word_of_token}
use Rattle.ob0_tree.specs.Terminals.{Terminal, terminal_of_kind}
use Rattle.ob0_tree.specs.Tree.{Tree, module_text, spell}
use Rattle.ob0_tree.specs.Module.{IsModuleWithTree, terminal_of_token, terminals_of_text}
use Rattle.ob0_scan.proofs.Spans.{scan_words}

-- returns a word as a tree spells it; an identifier is spelled by its text
abbrev pub named_lexeme : Word → Terminal (List ℕ)
named_lexeme w = terminal_of_kind w.text w.kind

as_words : (text : List ℕ) (ts : List Token) → map (terminal_of_token text) ts ≡ map named_lexeme (map (word_of_token text) ts)
as_words text [] = refl
as_words text (t ∷ ts) = ap (λ xs. terminal_of_token text t ∷ xs) (as_words text ts)

pub text_words : (s : TextWithTokens) (scan : IsScan s) → terminals_of_text s ≡ map named_lexeme (words_of_lexemes scan.lexemes)
text_words s scan = as_words s.text s.tokens ∙ ap (map named_lexeme) (scan_words s scan)

pub spelled_words : (s : TextWithTokens) (scan : IsScan s) (tree : Tree (List ℕ) module_text) → IsModuleWithTree s tree → map named_lexeme (words_of_lexemes scan.lexemes) ≡ spell tree
spelled_words s scan tree m = sym (text_words s scan) ∙ m.spelled
