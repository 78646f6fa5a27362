-- Defines when the trees that are kept from earlier parses match the tokens of a text, also after a
-- change of the text.
-- Rule: none; used in the contracts of `KeptTrees` and of `reparse_tree`.
use Rattle.std.specs.declared.vec.Vec.{Vec}
use Rattle.std.specs.declared.alloc.Global.{Global}
use Rattle.std.specs.Prelude.{◌≡◌, ℕ, ◌+◌, ◌<◌, ◌≤◌, Bool, true, List, [], ◌∷◌, ◌++◌, Option, Some, All, length, slice_range}
use Rattle.ob0_scan.specs.declared.lexeme.TokenKind.{TokenKind}
use Rattle.ob0_scan.specs.declared.lexeme.Token.{Token}
use Rattle.ob0_scan.specs.declared.tokens.CommonPrefixAndSuffix.{CommonPrefixAndSuffix}
use Rattle.ob0_scan.specs.ReusedLexemes.{token_kinds_without_values}
use Rattle.ob0_scan.specs.SamePrefixAndSuffix.{PrefixAndSuffixHaveSameKinds}
use Rattle.ob0_tree.specs.declared.tree.Procedure.{Procedure}
use Rattle.ob0_tree.specs.declared.tree.Statement.{Statement}
use Rattle.ob0_tree.specs.Terminals.{Terminal}
use Rattle.ob0_tree.specs.Module.{max_nesting}
use Rattle.ob0_tree.specs.TokenIndexLeaves.{indexed_terminal}
use Rattle.ob0_tree.specs.Tree.{procedure, body, Sort, item, maybe, Tree, spell, nesting}
use Rattle.ob0_tree.specs.View.{items_of, procedure_of, body_of}
use Rattle.ob0_parse_descent.specs.TokenRanks.{max_continuing_rank, NextTokenEndsConstruct}
use Rattle.ob0_parse_descent.specs.ParserPromises.{remaining_terminals, IsReadTree}
use Rattle.ob0_parse.specs.declared.kept_trees.ReusableConstruct.{ReusableConstruct}
use Rattle.ob0_parse.specs.declared.kept_trees.ReusableConstruct.TheVariants as construct
use Rattle.ob0_parse.specs.declared.kept_trees.KeptTree.{KeptTree}
use Rattle.ob0_parse.specs.declared.kept_trees.KeptTrees.{KeptTrees}

-- Returns the tokens of the given kinds, as they are spelled by a tree whose leaves are token
-- indexes. The first token has the index `i`.
abbrev pub indexed_terminals_of_kinds : ℕ → List TokenKind → List (Terminal ℕ)
indexed_terminals_of_kinds i [] = []
indexed_terminals_of_kinds i (k ∷ ks) = indexed_terminal i k ∷ indexed_terminals_of_kinds (i + 1) ks

-- Returns the sort of the construct's tree.
abbrev pub sort_of_construct : ReusableConstruct → Sort
sort_of_construct (construct.Procedure p) = item procedure
sort_of_construct (construct.Body statements) = maybe body

-- Returns the construct's tree. The tree of a body spells BEGIN before the statements.
abbrev pub tree_of_construct : (c : ReusableConstruct) → Tree ℕ (sort_of_construct c)
tree_of_construct (construct.Procedure p) = procedure_of p
tree_of_construct (construct.Body statements) = body_of (Some statements)

-- States that `at..next` is a range of one or more tokens of `ts`, and that these tokens have the
-- kinds that the tree `t` spells. Also states that `t` isn't nested too deeply. The leaves of `t`
-- are token indexes in a text in which the first token of `t` has the index `from`.
pub record ShiftedTreeMatchesTokens {s : Sort} (ts : List Token) (from at next : ℕ) (t : Tree ℕ s) : Type 0 where
  pub spelled : spell t ≡ indexed_terminals_of_kinds from (slice_range (token_kinds_without_values ts) at next)
  pub shallow : nesting t ≤ max_nesting
  pub forward : at < next
  pub within : next ≤ length ts

-- States that the tokens `at..next` have the kinds that the tree spells, and that the tree isn't
-- nested too deeply. The leaves of the tree are the indexes of these tokens.
abbrev pub TreeMatchesTokens : {s : Sort} → List Token → ℕ → ℕ → Tree ℕ s → Type 0
TreeMatchesTokens ts at next t = ShiftedTreeMatchesTokens ts at at next t

-- States that the tokens `k.at..k.next` of `ts` have the kinds that the kept tree `k` spells. The
-- leaves of the tree may still be the indexes of these tokens in an earlier text.
abbrev pub KeptTreeMatchesTokens : List Token → KeptTree → Type 0
KeptTreeMatchesTokens ts k = ShiftedTreeMatchesTokens ts k.from k.at k.next (tree_of_construct k.construct)

-- States that every kept tree in `k` matches the tokens `ts`: the tokens in the tree's range have
-- the kinds that the tree spells (`KeptTreeMatchesTokens`).
pub record KeptTreesMatchTokens (ts : List Token) (k : KeptTrees) : Type 0 where
  pub trees : All (KeptTreeMatchesTokens ts) k.trees.items

-- States that the tokens `at..next` of `ts` are the tokens of the procedures `ps`, one after
-- another, and that no procedure is nested too deeply. The leaves of the procedures are the indexes
-- of these tokens.
pub record TokensContainProcedures (ts : List Token) (ps : List Procedure) : Type 0 where
  pub at : ℕ
  pub next : ℕ
  pub spelled : remaining_terminals ts at ≡ spell (items_of procedure_of ps) ++ remaining_terminals ts next
  pub shallow : nesting (items_of procedure_of ps) ≤ max_nesting
  pub within : next ≤ length ts

-- States that `ts` has the tokens of the procedures `ps`, directly followed by the tokens of the
-- optional body `statements`. One token stands between these tokens and the token with the index
-- `closing`.
pub record ModuleEndsWithParts
    (ts : List Token) (ps : List Procedure) (statements : Option (Vec Statement Global)) (closing : ℕ)
    : Type 0 where
  pub procedures : TokensContainProcedures ts ps
  pub next : ℕ
  pub spelled : remaining_terminals ts procedures.next ≡ spell (body_of statements) ++ remaining_terminals ts next
  pub shallow : nesting (body_of statements) ≤ max_nesting
  pub within : next ≤ length ts
  pub closed : next + 1 ≡ closing

-- States that if `there` is true, `b` can replace the kept tree `a` after a change of the text.
-- This means that if `a` matches the tokens of the old text, `b` matches the tokens of the new text
-- (`KeptTreeMatchesTokens`). This must hold for any two texts that share the tokens described by
-- `same`.
abbrev pub RelocatesTree : CommonPrefixAndSuffix → KeptTree → KeptTree → Bool → Type 0
RelocatesTree same a b there =
    there ≡ true → (old new : List Token) → PrefixAndSuffixHaveSameKinds same old new → KeptTreeMatchesTokens old a → KeptTreeMatchesTokens new b

-- States that the token with the index `next` can't continue a tree of the construct.
abbrev pub TokenEndsTree : List Token → ReusableConstruct → ℕ → Type 0
TokenEndsTree ts c next = NextTokenEndsConstruct (max_continuing_rank (sort_of_construct c)) (remaining_terminals ts next)

-- States that the construct `x.0` has the tokens `at..x.1` of `ts`, as if the parser had read it
-- there.
abbrev pub IsReadConstructAt : List Token → ℕ → ReusableConstruct × ℕ → Type 0
IsReadConstructAt ts at x = IsReadTree (tree_of_construct x.0) max_nesting ts at x.1 × (at < x.1)
