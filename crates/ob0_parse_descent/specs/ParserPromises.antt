-- Defines when the results of the parser's functions are right. Such a result says which tokens a
-- tree was read from, or why no tree can be read at the given token.
-- Rule: none; used in the contracts of the parser.
use Rattle.std.specs.declared.vec.Vec.{Vec}
use Rattle.std.specs.declared.alloc.Global.{Global}
use Rattle.std.specs.Prelude.{◌≡◌, ℕ, ◌+◌, ◌<◌, ◌≤◌, List, [], ◌∷◌, ◌++◌, Option, Some, None, IfNone, option_map, Result, Ok, Err, length, drop, ◌≢◌, Bool, true, false}
use Rattle.ob0_scan.specs.declared.lexeme.TokenKind.{TokenKind}
use Rattle.ob0_scan.specs.declared.lexeme.TokenKind.TheVariants as kind
use Rattle.ob0_scan.specs.declared.lexeme.Symbol.TheVariants as symbol
use Rattle.ob0_scan.specs.declared.lexeme.Token.{Token}
use Rattle.ob0_tree.specs.Terminals.{Terminal, Name, Number, WordOrSymbol, EndOfText, sign_tokens}
use Rattle.ob0_tree.specs.declared.tree.Sign.{Sign}
use Rattle.ob0_tree.specs.declared.tree.Designator.{Designator}
use Rattle.ob0_tree.specs.declared.tree.IdentifierList.{IdentifierList}
use Rattle.ob0_tree.specs.declared.tree.WrittenType.{WrittenType}
use Rattle.ob0_scan.specs.declared.lexeme.ReservedWord.TheVariants as reserved
use Rattle.ob0_tree.specs.Tree.{GrammarItem, Sort, item, items, selector, factor, names, written_type, Tree, designator, some_fields, spell, nesting}
use Rattle.ob0_tree.specs.TokenIndexLeaves.{indexed_terminal, indexed_terminals}
use Rattle.ob0_tree.specs.View.{items_of, selector_of, names_of, type_of}
pub use Rattle.ob0_parse_descent.specs.Descent.{ProductionPart, token, name, number, nonterminal, text_end}
use Rattle.ob0_parse_descent.specs.Descent.{DescentEnd, Expects, TooDeepAt, Descends, syntax_expected_for_kind, is_parameter_section_next}
use Rattle.ob0_parse_descent.specs.TokenRanks.{terminal_rank, kind_rank, item_start_rank, max_continuing_rank, NextTokenEndsConstruct, NextTokenHasRank}
use Rattle.ob0_parse_descent.specs.declared.refusal.ExpectedSyntax.TheVariants as expected
use Rattle.ob0_parse_descent.specs.declared.refusal.ParseRefusal.{ParseRefusal}
use Rattle.ob0_parse_descent.specs.declared.refusal.ParseRefusal.TheVariants.{Syntax, TooDeep, Memory}

-- Returns the token with the index `i` and the given kind, as it is spelled by a tree whose leaves
-- are token indexes. If there is no kind (None), returns the end of the text.
abbrev pub terminal_or_end : ℕ → Option TokenKind → Terminal ℕ
terminal_or_end i None = EndOfText
terminal_or_end i (Some k) = indexed_terminal i k

-- Returns the tokens with the index `i` and higher, as they are spelled by a tree whose leaves are
-- token indexes. The end of the text follows the last token and counts as a token.
unfoldable pub remaining_terminals : List Token → ℕ → List (Terminal ℕ)
remaining_terminals ts i = drop i (indexed_terminals ts)

-- States that the tokens `w` begin with the parts in the list, in order. At each part that is a
-- construct, some tree of the construct spells the next tokens. That tree has at most `room` levels
-- of nesting, and the token after it can't continue the construct.
abbrev pub BeginsWithParts : List ProductionPart → List (Terminal ℕ) → Type 0
BeginsWithParts [] w = Unit {0}
BeginsWithParts (token k ∷ ps) w = (z : List (Terminal ℕ)) × (w ≡ WordOrSymbol k ∷ z) × BeginsWithParts ps z
BeginsWithParts (name ∷ ps) w = (n : ℕ) × (z : List (Terminal ℕ)) × (w ≡ Name n ∷ z) × BeginsWithParts ps z
BeginsWithParts (number ∷ ps) w = (n : ℕ) × (z : List (Terminal ℕ)) × (w ≡ Number n ∷ z) × BeginsWithParts ps z
BeginsWithParts (nonterminal s room ∷ ps) w =
    (t : Tree ℕ s)
    × (z : List (Terminal ℕ))
    × (w ≡ spell t ++ z)
    × (nesting t ≤ room)
    × NextTokenEndsConstruct (max_continuing_rank s) z
    × BeginsWithParts ps z
BeginsWithParts (text_end ∷ ps) w = (z : List (Terminal ℕ)) × (w ≡ EndOfText ∷ z) × BeginsWithParts ps z

-- States that the list `tokens` consists of the tokens `passed`, the token `fault` and the tokens
-- `after`. Also states that `passed` and `fault`, followed by any tokens, don't begin with the
-- parts `parts`.
pub record CantBeginWithParts (parts : List ProductionPart) (tokens after : List (Terminal ℕ)) : Type 0 where
  pub passed : List (Terminal ℕ)
  pub fault : Terminal ℕ
  pub here : tokens ≡ passed ++ (fault ∷ after)
  pub cant_begin : (unseen : List (Terminal ℕ)) → BeginsWithParts parts (passed ++ (fault ∷ unseen)) → ⊥

-- States that neither list is empty and that both lists begin with the same token.
pub record HaveSameFirstToken (xs w : List (Terminal ℕ)) : Type 0 where
  pub head : Terminal ℕ
  pub following : List (Terminal ℕ)
  pub other : List (Terminal ℕ)
  pub is : xs ≡ head ∷ following
  pub alike : w ≡ head ∷ other

-- States that two descents have the same end. The first reads the parts `ps`, starting at the token
-- `at`. The second reads the parts `following`, starting at the token `next`. Every end of the
-- second descent is also an end of the first, even if the same further parts (`more`) follow in
-- both.
pub record DescentsHaveSameEnd (ps following : List ProductionPart) (ts : List Token) (at next : ℕ) : Type 0 where
  pub stops_as_following : (o : DescentEnd) (more : List ProductionPart)
      → Descends (following ++ more) next (remaining_terminals ts next) o
      → Descends (ps ++ more) at (remaining_terminals ts at) o

-- States that the tree `t` spells the tokens `at..next`, that the descent reads `t` there, and that
-- `t` has at most `room` levels of nesting. The field `only` states that `t` is the only such tree.
-- It covers every list of tokens that begins with the tokens of `t` and the token at `next`.
-- Suppose that a tree `u` of the same sort spells the beginning of this list. If the token after
-- `u` can't continue `u` (`NextTokenEndsConstruct`), then `u` is `t`.
pub record IsReadTree {s : Sort} (t : Tree ℕ s) (room : ℕ) (ts : List Token) (at next : ℕ) : Type 0 where
  pub spelled : remaining_terminals ts at ≡ spell t ++ remaining_terminals ts next
  pub shallow : nesting t ≤ room
  pub only : (u : Tree ℕ s) (z w : List (Terminal ℕ))
      → HaveSameFirstToken (remaining_terminals ts next) w
      → NextTokenEndsConstruct (max_continuing_rank s) z
      → spell u ++ z ≡ spell t ++ w
      → (u ≡ t) × (z ≡ w)
  pub reads : DescentsHaveSameEnd (nonterminal s room ∷ []) [] ts at next
  pub within : next ≤ length ts
  pub forward : at ≤ next

-- States that the refusal of the parts `parts` reports the right token. If the refusal is `Syntax`
-- or `TooDeep` at the token `i`, no list of tokens that begins with the tokens `at..=i` begins with
-- the parts. The end of the text counts as a token. States nothing about the refusal `Memory`, a
-- failed allocation.
abbrev pub IsRightRefusalOfParts : List ProductionPart → List Token → ℕ → ParseRefusal → Type 0
IsRightRefusalOfParts parts ts at (Syntax i expected) = (i ≤ length ts) × CantBeginWithParts parts (remaining_terminals ts at) (remaining_terminals ts (i + 1))
IsRightRefusalOfParts parts ts at (TooDeep i) = (i ≤ length ts) × CantBeginWithParts parts (remaining_terminals ts at) (remaining_terminals ts (i + 1))
IsRightRefusalOfParts parts ts at Memory = Unit {0}

-- States that the descent over the parts `parts`, starting at the token `at`, has the end `o`,
-- whatever parts follow `parts`.
abbrev pub DescentEndsWith : List ProductionPart → List Token → ℕ → DescentEnd → Type 0
DescentEndsWith parts ts at o = (more : List ProductionPart) → Descends (parts ++ more) at (remaining_terminals ts at) o

-- States that the descent over the parts `parts`, starting at the token `at`, stops at the token
-- and for the reason that the refusal gives. States nothing about the refusal `Memory`, a failed
-- allocation.
abbrev pub DescentEndsAsRefusalSays : List ProductionPart → List Token → ℕ → ParseRefusal → Type 0
DescentEndsAsRefusalSays parts ts at (Syntax i expected) = DescentEndsWith parts ts at (Expects i expected)
DescentEndsAsRefusalSays parts ts at (TooDeep i) = DescentEndsWith parts ts at (TooDeepAt i)
DescentEndsAsRefusalSays parts ts at Memory = Unit {0}

-- States that the refusal `e` is right. The parts `parts` can't be read starting at the token `at`.
-- The descent over these parts stops at the token and for the reason that `e` gives. The refusal
-- `Memory`, a failed allocation, is always right.
pub record FailsToRead
    (parts : List ProductionPart) (ts : List Token) (at : ℕ) (e : ParseRefusal) : Type 0 where
  pub why : IsRightRefusalOfParts parts ts at e
  pub reads : DescentEndsAsRefusalSays parts ts at e

-- States that the result of parsing a construct at the token `at` is right. The tree of a parsed
-- construct begins at that token and ends before the returned index. If the result is a refusal, no
-- construct of the sort `s` can be read there, for the reason that the refusal gives. `view`
-- returns the tree of a parsed value, and `room` is the number of nesting levels left.
abbrev pub Reads : {A : Type 0} {s : Sort}
    → (A → Tree ℕ s)
    → ℕ
    → List Token
    → ℕ
    → Result (A × ℕ) ParseRefusal
    → Type 0
Reads view room ts at (Ok x) = IsReadTree (view x.0) room ts at x.1
Reads {s = s} view room ts at (Err e) = FailsToRead (nonterminal s room ∷ []) ts at e

-- States that the token at the index `at`, which may be the end of the text, isn't `x`.
pub record IsTokenOtherThan (x : Terminal ℕ) (ts : List Token) (at : ℕ) : Type 0 where
  pub fault : Terminal ℕ
  pub here : remaining_terminals ts at ≡ fault ∷ remaining_terminals ts (at + 1)
  pub differs : fault ≢ x
  pub within : at ≤ length ts

-- States that the token at the index `at`, which may be the end of the text, isn't an identifier.
-- Identifiers are the only tokens with the rank 7.
pub record IsNotIdentifier (ts : List Token) (at : ℕ) : Type 0 where
  pub fault : Terminal ℕ
  pub here : remaining_terminals ts at ≡ fault ∷ remaining_terminals ts (at + 1)
  pub ranked : terminal_rank fault ≢ 7
  pub within : at ≤ length ts

-- States that the Bool is true exactly if the token at the index `at` is the reserved word or
-- symbol `k`.
abbrev pub TellsIfTokenAt : TokenKind → List Token → ℕ → Bool → Type 0
TellsIfTokenAt k ts at true = (remaining_terminals ts at ≡ WordOrSymbol k ∷ remaining_terminals ts (at + 1)) × (at < length ts)
TellsIfTokenAt k ts at false = IsTokenOtherThan (WordOrSymbol k) ts at

-- States that the Bool is true exactly if the token at the index `at` is an identifier.
abbrev pub TellsIfIdentifierAt : List Token → ℕ → Bool → Type 0
TellsIfIdentifierAt ts at true = (remaining_terminals ts at ≡ Name at ∷ remaining_terminals ts (at + 1)) × (at < length ts)
TellsIfIdentifierAt ts at false = IsNotIdentifier ts at

-- States that the result of reading the reserved word or symbol `k` at the index `at` is right. If
-- the result is an index, `k` is at `at`, and the index is `at + 1`. If the result is a refusal,
-- another token is at `at`, and the refusal says that `k` is expected.
abbrev pub ReadsToken : TokenKind → List Token → ℕ → Result ℕ ParseRefusal → Type 0
ReadsToken k ts at (Ok next) =
    (remaining_terminals ts at ≡ WordOrSymbol k ∷ remaining_terminals ts next) × (at < length ts) × (next ≡ at + 1)
ReadsToken k ts at (Err e) =
    IsTokenOtherThan (WordOrSymbol k) ts at × (Some e ≡ option_map (Syntax at) (syntax_expected_for_kind k))

-- States that the result of reading an identifier at the index `at` is right. If the result is a
-- pair, an identifier is at `at`, and the pair is `at` and `at + 1`. If the result is a refusal,
-- another token is at `at`, and the refusal says that an identifier is expected.
abbrev pub ReadsIdentifier : List Token → ℕ → Result (ℕ × ℕ) ParseRefusal → Type 0
ReadsIdentifier ts at (Ok x) =
    (remaining_terminals ts at ≡ Name at ∷ remaining_terminals ts x.1) × (at < length ts) × (x.0 ≡ at) × (x.1 ≡ at + 1)
ReadsIdentifier ts at (Err e) = IsNotIdentifier ts at × (e ≡ Syntax at expected.Identifier)

-- States that the result of opening a nesting level at the token `at` is right, given the number
-- `room` of levels left. If the result is a number, it is `room` minus 1. If the result is a
-- refusal, it is `TooDeep` at `at`, and `room` is 0.
abbrev pub OpensNestingLevel : ℕ → ℕ → Result ℕ ParseRefusal → Type 0
OpensNestingLevel at room (Ok inner) = room ≡ inner + 1
OpensNestingLevel at room (Err e) = (room ≡ 0) × (e ≡ TooDeep at)

-- States that the token at the index `at` is the whole factor `f`. Also states that the next token,
-- if there is one, has a rank above `level`. So the next token can't continue a construct that only
-- tokens with a rank up to `level` can continue (`NextTokenEndsConstruct`).
pub record IsSingleTokenFactor (level : ℕ) (f : Tree ℕ factor) (ts : List Token) (at : ℕ) : Type 0 where
  pub taken : (room : ℕ) → IsReadTree f room ts at (at + 1)
  pub stops : NextTokenEndsConstruct level (remaining_terminals ts (at + 1))

-- States that the token at the index `at` begins the item `i`, but the item can't be read. The
-- refusal `e` gives the right reason.
pub record ItemBeginsButCantBeRead
    (i : GrammarItem) (room : ℕ) (ts : List Token) (at : ℕ) (e : ParseRefusal) : Type 0 where
  pub is_here : NextTokenHasRank (item_start_rank i) (remaining_terminals ts at)
  pub fails : FailsToRead (nonterminal (item i) room ∷ []) ts at e

-- States that the result of parsing an optional item at the token `at` is right. The tree of a
-- parsed item begins at that token and ends before the returned index. If the result is None, no
-- such item begins there. If the result is a refusal, an item begins there but can't be read, for
-- the reason that the refusal gives.
abbrev pub ReadsItem : {A : Type 0} {i : GrammarItem}
    → (A → Tree ℕ (item i))
    → ℕ
    → List Token
    → ℕ
    → Result (Option (A × ℕ)) ParseRefusal
    → Type 0
ReadsItem {i = i} view room ts at (Ok None) = ¬ NextTokenHasRank (item_start_rank i) (remaining_terminals ts at)
ReadsItem view room ts at (Ok (Some x)) = IsReadTree (view x.0) room ts at x.1 × (at < x.1)
ReadsItem {i = i} view room ts at (Err e) = ItemBeginsButCantBeRead i room ts at e

-- States that the list of tokens doesn't begin with a sign, `+` or `-`.
pub record BeginsWithoutSign (w : List (Terminal ℕ)) : Type 0 where
  pub plus : (z : List (Terminal ℕ)) → w ≡ WordOrSymbol (kind.Symbol symbol.Plus) ∷ z → ⊥
  pub minus : (z : List (Terminal ℕ)) → w ≡ WordOrSymbol (kind.Symbol symbol.Minus) ∷ z → ⊥

-- States that `sign` is the sign at the token `at`, and that `next` is the index of the token after
-- the sign. If there is no sign, `sign` is None and `next` is `at`.
pub record IsSignAt (ts : List Token) (at : ℕ) (sign : Option Sign) (next : ℕ) : Type 0 where
  pub spelled : remaining_terminals ts at ≡ sign_tokens sign ++ remaining_terminals ts next
  pub forward : at ≤ next
  pub within : next ≤ length ts
  pub unsigned : IfNone sign (BeginsWithoutSign (remaining_terminals ts at))
  pub next_index : next ≡ at + length (sign_tokens {N = ℕ} sign)

-- States that the result of parsing a designator (a name with its selectors) at the token `at` is
-- right. A parsed designator begins at that token and ends before the returned index, and no
-- further selector follows. If the result is a refusal, no designator can be read there, for the
-- reason that the refusal gives.
abbrev pub ReadsDesignator : ℕ → List Token → ℕ → Result (Designator × ℕ) ParseRefusal → Type 0
ReadsDesignator room ts at (Ok x) =
    IsReadTree (designator x.0.name (items_of selector_of x.0.selectors.items)) room ts at x.1
    × ¬ NextTokenHasRank 1 (remaining_terminals ts x.1)
ReadsDesignator room ts at (Err e) = FailsToRead (name ∷ nonterminal (items selector) room ∷ []) ts at e

-- States that the operator found for a token of the kind `k` is right. `mark` returns the kind of
-- token that spells a given operator, and `r` is the rank of all such kinds. If an operator was
-- found, tokens of the kind `k` spell it. If no operator was found (None), the rank of `k` isn't
-- `r`.
abbrev pub IsOperatorOfKind : {A : Type 0} → (A → TokenKind) → ℕ → TokenKind → Option A → Type 0
IsOperatorOfKind mark r k (Some a) = k ≡ mark a
IsOperatorOfKind mark r k None = kind_rank k ≢ r

-- States that the list `xs` is read from the tokens `at..next`: its first element, then the further
-- elements, each with the separator before it. `view` returns the tree of the first element, and
-- `further` returns the tree of a further element with its separator.
pub record IsReadList
    {A : Type 0} {s : Sort} {i : GrammarItem} (view : A → Tree ℕ s) (further : A → Tree ℕ (item i))
    (xs : List A) (room : ℕ) (ts : List Token) (at next : ℕ) : Type 0 where
  pub first : A
  pub others : List A
  pub is : xs ≡ first ∷ others
  pub middle : ℕ
  pub head : IsReadTree (view first) room ts at middle
  pub tail : IsReadTree (items_of further others) room ts middle next

-- States that the result of parsing a list of one or more elements at the token `at` is right. A
-- parsed list begins at that token and ends before the returned index. If the result is a refusal,
-- no list of such elements can be read there, for the reason that the refusal gives.
abbrev pub ReadsList : {A : Type 0} {s : Sort} {i : GrammarItem}
    → (A → Tree ℕ s)
    → (A → Tree ℕ (item i))
    → ℕ
    → List Token
    → ℕ
    → Result (Vec A Global × ℕ) ParseRefusal
    → Type 0
ReadsList view further room ts at (Ok x) = IsReadList view further x.0.items room ts at x.1
ReadsList {s = s} {i = i} view further room ts at (Err e) =
    FailsToRead (nonterminal s room ∷ nonterminal (items i) room ∷ []) ts at e

-- States that the result of parsing names, a colon and a type at the token `at` is right. The
-- parsed parts begin at that token and end before the returned index. If the result is a refusal,
-- these parts can't be read there, for the reason that the refusal gives.
abbrev pub ReadsTypedNames : ℕ
    → List Token
    → ℕ
    → Result ((IdentifierList × WrittenType) × ℕ) ParseRefusal
    → Type 0
ReadsTypedNames room ts at (Ok x) = IsReadTree (some_fields (names_of x.0.0) (type_of x.0.1)) room ts at x.1
ReadsTypedNames room ts at (Err e) =
    FailsToRead (nonterminal names 0 ∷ token (kind.Symbol symbol.Colon) ∷ nonterminal written_type room ∷ []) ts
    at e

-- States that the Bool is true exactly if a section of formal parameters may begin at the index
-- `at`.
abbrev pub TellsIfParameterSectionStartsAt : List Token → ℕ → Bool → Type 0
TellsIfParameterSectionStartsAt ts at true =
    IsTokenOtherThan (WordOrSymbol (kind.Symbol symbol.RightParen)) ts at × (is_parameter_section_next (remaining_terminals ts at) ≡ true)
TellsIfParameterSectionStartsAt ts at false = IsNotIdentifier ts at × IsTokenOtherThan (WordOrSymbol (kind.ReservedWord reserved.Var)) ts at
