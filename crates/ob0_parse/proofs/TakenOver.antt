-- Proves that the parser may reuse a kept tree if the token after the tree can't continue the tree.
use Rattle.std.proofs.Common.{◌≡◌, ℕ, ◌+◌, ◌<◌, Bool, true, false, List, ◌∷◌, ◌++◌, Result, Ok, Err, is_ok, length, sym, ◌∙◌, ap, subst, arith}
use Rattle.std.proofs.lemmas.Bool.{false≢true}
use Rattle.ob0_scan.specs.declared.lexeme.Token.{Token}
use Rattle.ob0_scan.specs.declared.lexeme.TokenKind.{TokenKind}
use Rattle.ob0_scan.specs.declared.lexeme.TokenKind.TheVariants as kind
use Rattle.ob0_scan.specs.declared.lexeme.ReservedWord.TheVariants as reserved
use Rattle.ob0_tree.specs.Terminals.{Terminal, WordOrSymbol}
use Rattle.ob0_tree.specs.Module.{max_nesting}
use Rattle.ob0_tree.specs.Tree.{Sort, Tree, spell}
use Rattle.ob0_parse_descent.specs.Descent.{nonterminal, Descends}
use Rattle.ob0_parse_descent.specs.ParserPromises.{remaining_terminals, HaveSameFirstToken, IsReadTree, ReadsToken, TellsIfTokenAt}
use Rattle.ob0_parse_descent.specs.TokenRanks.{max_continuing_rank, NextTokenEndsConstruct}
use Rattle.ob0_parse_descent.specs.declared.refusal.ParseRefusal.{ParseRefusal}
use Rattle.ob0_parse_descent.proofs.Finished.{finishes}
use Rattle.ob0_parse_descent.proofs.Unique.{same}
use Rattle.ob0_parse.specs.KeptTreeTokens.{TreeMatchesTokens}
use Rattle.ob0_parse.proofs.Keeping.{count_rest, rest_pieces}

-- If a token stops a tree, the token does so whatever comes after it.
stops_alike : (n : ℕ) (xs w : List (Terminal ℕ)) → HaveSameFirstToken xs w → NextTokenEndsConstruct n xs → NextTokenEndsConstruct n w
stops_alike n xs w h p =
    let s : NextTokenEndsConstruct n (h.head ∷ h.other) = subst (λ y. NextTokenEndsConstruct n y) h.is p in
    subst (λ y. NextTokenEndsConstruct n y) (sym h.alike) s

-- If a tree is in place and the next token stops it, the descent reads that tree. No other tree of
-- the sort has these tokens.
pub is_read_tree_at : {s : Sort} (ts : List Token) (at next : ℕ) (t : Tree ℕ s) → NextTokenEndsConstruct (max_continuing_rank s) (remaining_terminals ts next) → TreeMatchesTokens ts at next t → IsReadTree t max_nesting ts at next × (at < next)
is_read_tree_at {s = s} ts at next t stops p =
    let spelled : remaining_terminals ts at ≡ spell t ++ remaining_terminals ts next = rest_pieces ts at next (omega (arith, p.forward)) p.within ∙ ap (λ w. w ++ remaining_terminals ts next) (sym p.spelled) in
    let whole : at + length (spell t ++ remaining_terminals ts next) ≡ next + length (remaining_terminals ts next) =
    ap (λ (w : List (Terminal ℕ)). at + length w) (sym spelled) ∙ omega (arith, count_rest ts at, count_rest ts next, p.forward, p.within) in (
      record {
        spelled = spelled;
        shallow = p.shallow;
        only = λ u z w h q e. same u t z w q (stops_alike (max_continuing_rank s) (remaining_terminals ts next) w h stops) e;
        reads = record {
          stops_as_following = λ o more r. subst (λ w. Descends (nonterminal s max_nesting ∷ more) at w o) (sym spelled)
              (finishes {e = next + length (remaining_terminals ts next)} {o = o} t max_nesting more (remaining_terminals ts next) p.shallow stops
              (λ i h. let here : next ≡ i = omega (arith, h) in subst (λ j. Descends more j (remaining_terminals ts next) o) here r) at whole);
        };
        within = p.within;
        forward = omega (arith, p.forward);
      },
      p.forward,
    )

-- END can't continue a body.
pub end_stops : (ts : List Token) (at : ℕ) (here : Bool) → TellsIfTokenAt (kind.ReservedWord reserved.End) ts at here → here ≡ true → NextTokenEndsConstruct 16 (remaining_terminals ts at)
end_stops ts at true h e = subst (λ w. NextTokenEndsConstruct 16 w) (sym h.0) (omega arith)
end_stops ts at false h e = absurd (false≢true e)

-- An expected token is here exactly if it was read.
pub token_is : (k : TokenKind) (ts : List Token) (at : ℕ) (r : Result ℕ ParseRefusal) → ReadsToken k ts at r → TellsIfTokenAt k ts at (is_ok r)
token_is k ts at (Ok next) h = (h.0 ∙ ap (λ n. WordOrSymbol k ∷ remaining_terminals ts n) h.2, h.1)
token_is k ts at (Err e) h = h.0
