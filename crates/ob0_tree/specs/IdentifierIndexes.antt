-- Defines the token indexes of a tree's identifiers, and states when indexes ascend.
-- Rule: none; used in contracts about the token indexes of identifiers.
use Rattle.std.specs.Prelude.{◌≡◌, ℕ, ◌+◌, ◌≤◌, ◌<◌, List, [], ◌∷◌, ◌++◌, map, length}
use Rattle.std.specs.List.{HoldsAt}
use Rattle.ob0_scan.specs.declared.lexeme.TokenKind.{TokenKind}
use Rattle.ob0_scan.specs.declared.lexeme.TokenKind.TheVariants as kind
use Rattle.ob0_scan.specs.declared.lexeme.Token.{Token}
use Rattle.ob0_tree.specs.declared.tree.Role.{Role}
use Rattle.ob0_tree.specs.declared.tree.Role.TheVariants as role
use Rattle.ob0_tree.specs.Tree.{Sort, Tree, identifiers}

-- States that the numbers in the list are strictly ascending, and that each is at least `low` and
-- less than `high`. If the list is empty, states that `low` is at most `high`.
abbrev pub AreAscendingWithin : ℕ → List ℕ → ℕ → Type 0
AreAscendingWithin low [] high = low ≤ high
AreAscendingWithin low (x ∷ xs) high = (low ≤ x) × AreAscendingWithin (x + 1) xs high

-- Returns the names in a list of identifiers, without their roles, in the same order.
abbrev pub names_without_roles : {N : Type 0} → List (Role × N) → List N
names_without_roles xs = map (λ x. x.1) xs

-- Returns all identifiers of a tree, in text order, without their roles.
abbrev pub identifier_names : {N : Type 0} {s : Sort} → Tree N s → List N
identifier_names t = names_without_roles (identifiers role.DeclaringName t)

-- Returns a list that contains only the index `i` if the given kind is `Identifier`. For any other
-- kind, returns the empty list.
abbrev pub index_if_identifier : ℕ → TokenKind → List ℕ
index_if_identifier i kind.Identifier = i ∷ []
index_if_identifier i k = []

-- Returns the indexes of the identifiers in a list of tokens, in order. The first token of the list
-- has the index `i`.
abbrev pub identifier_indexes_from : ℕ → List Token → List ℕ
identifier_indexes_from i [] = []
identifier_indexes_from i (t ∷ ts) = index_if_identifier i t.kind ++ identifier_indexes_from (i + 1) ts

-- States that the list of tokens has an identifier at the index `i`, counted from 0.
abbrev pub IsIdentifierToken : List Token → ℕ → Type 0
IsIdentifierToken ts i = (i < length ts) × HoldsAt (λ t. t.kind ≡ kind.Identifier) ts i

-- States that the list `ts` of tokens has an identifier at each index in the second list, counted
-- from 0.
abbrev pub AreIdentifierTokens : List Token → List ℕ → Type 0
AreIdentifierTokens ts [] = Unit {0}
AreIdentifierTokens ts (i ∷ others) = IsIdentifierToken ts i × AreIdentifierTokens ts others
