-- Proves that the tokens of the names and numbers of a part ascend in text order, because a tree
-- spells its text.
use Rattle.std.proofs.Common.{◌≡◌, ℕ, ◌+◌, Some, None, List, [], ◌∷◌, ◌++◌, length, refl, sym, ap, ◌∙◌, subst, arith, append-nil, zero-add}
use Rattle.ob0_scan.specs.declared.lexeme.Token.{Token}
use Rattle.ob0_scan.specs.declared.lexeme.TokenKind.{TokenKind}
use Rattle.ob0_scan.specs.declared.lexeme.TokenKind.TheVariants as kind
use Rattle.ob0_tree.specs.Terminals.{EndOfText, WordOrSymbol, Name, Number, Terminal}
use Rattle.ob0_tree.specs.IdentifierIndexes.{AreAscendingWithin}
use Rattle.ob0_tree.specs.ParsedModule.{TreeMatchesText, ParsedModule, tree_of}
use Rattle.ob0_tree.specs.TokenIndexLeaves.{indexed_terminal, indexed_terminals_from}
use Rattle.ob0_tree.specs.Tree.{Sort, Tree, adds, array_type, assigns, begins, branches, calls, compares, declares, declares_constant, declares_const_section, declares_procedure, declares_type, declares_type_section, declares_variable, declares_var_section, designator, else_branch, elsif_branch, empty, end, field, forms_block, index, integer, forms_module, listed, more, multiplies, named_type, negation, no_arguments, no_fields, no_formals, none, one, parenthesised, product, record_type, relates, repeat_loop, runs, some_arguments, some_fields, some_formals, sum, comma_then_argument, semicolon_then_fields, comma_then_name, semicolon_then_section, semicolon_then_statement, value_section, variable_section, while_loop, spell}
use Rattle.ob0_tree.proofs.Leaves.{ascending_higher, ascending_lower}
use Rattle.ob0_scope_table.specs.TokenProperty.{EachTokenSatisfies}

-- returns the tokens of names and numbers, in the order of the tree
abbrev pub places : {s : Sort} → Tree ℕ s → List ℕ
places none = []
places (one t) = places t
places end = []
places (more t ts) = places t ++ places ts
places (compares left compared) = places left ++ places compared
places (relates relation right) = places right
places (sum sign first terms) = places first ++ places terms
places (adds operator t) = places t
places (product first factors) = places first ++ places factors
places (multiplies operator f) = places f
places (designator name selectors) = name ∷ places selectors
places (integer n) = n ∷ []
places (parenthesised e) = places e
places (negation f) = places f
places (field name) = name ∷ []
places (index e) = places e
places empty = []
places (assigns name selectors e) = name ∷ (places selectors ++ places e)
places (calls name args) = name ∷ places args
places (branches condition s elsifs rest) = places condition ++ (places s ++ (places elsifs ++ places rest))
places (while_loop condition s) = places condition ++ places s
places (repeat_loop s condition) = places s ++ places condition
places no_arguments = []
places (some_arguments e es) = places e ++ places es
places (comma_then_argument e) = places e
places (runs first statements) = places first ++ places statements
places (semicolon_then_statement s) = places s
places (elsif_branch condition s) = places condition ++ places s
places (else_branch s) = places s
places (listed name others) = name ∷ places others
places (comma_then_name name) = name ∷ []
places (named_type name) = name ∷ []
places (array_type size t) = places size ++ places t
places (record_type first others) = places first ++ places others
places no_fields = []
places (some_fields ns t) = places ns ++ places t
places (semicolon_then_fields f) = places f
places no_formals = []
places (some_formals first others) = places first ++ places others
places (value_section ns t) = places ns ++ places t
places (variable_section ns t) = places ns ++ places t
places (semicolon_then_section s) = places s
places (declares_constant name e) = name ∷ places e
places (declares_const_section cs) = places cs
places (declares_type name t) = name ∷ places t
places (declares_type_section ts) = places ts
places (declares_variable ns t) = places ns ++ places t
places (declares_var_section vs) = places vs
places (declares_procedure name fs b closing) = name ∷ (places fs ++ (places b ++ (closing ∷ [])))
places (declares cs ts vs ps) = places cs ++ (places ts ++ (places vs ++ places ps))
places (begins s) = places s
places (forms_block ds b) = places ds ++ places b
places (forms_module name b closing) = name ∷ (places b ++ (closing ∷ []))

-- returns the tokens of names and numbers among terminals
abbrev pub token_places : List (Terminal ℕ) → List ℕ
token_places [] = []
token_places (Name n ∷ xs) = n ∷ token_places xs
token_places (Number n ∷ xs) = n ∷ token_places xs
token_places (WordOrSymbol k ∷ xs) = token_places xs
token_places (EndOfText ∷ xs) = token_places xs

token_places-append : (xs ys : List (Terminal ℕ)) → token_places (xs ++ ys) ≡ token_places xs ++ token_places ys
token_places-append [] ys = refl
token_places-append (Name n ∷ xs) ys = ap (λ z. n ∷ z) (token_places-append xs ys)
token_places-append (Number n ∷ xs) ys = ap (λ z. n ∷ z) (token_places-append xs ys)
token_places-append (WordOrSymbol k ∷ xs) ys = token_places-append xs ys
token_places-append (EndOfText ∷ xs) ys = token_places-append xs ys

pub places_spelled : {s : Sort} (t : Tree ℕ s) → token_places (spell t) ≡ places t
places_spelled none = refl
places_spelled (one t) = simp (places_spelled t)
places_spelled end = refl
places_spelled (more t ts) = simp (token_places-append, places_spelled t, places_spelled ts)
places_spelled (compares left compared) = simp (token_places-append, places_spelled left, places_spelled compared)
places_spelled (relates relation right) = simp (places_spelled right)
places_spelled (sum None first terms) = simp (token_places-append, places_spelled first, places_spelled terms)
places_spelled (sum (Some s) first terms) = simp (token_places-append, places_spelled first, places_spelled terms)
places_spelled (adds operator t) = simp (places_spelled t)
places_spelled (product first factors) = simp (token_places-append, places_spelled first, places_spelled factors)
places_spelled (multiplies operator f) = simp (places_spelled f)
places_spelled (designator name selectors) = simp (places_spelled selectors)
places_spelled (integer n) = refl
places_spelled (parenthesised e) = simp (token_places-append, append-nil, places_spelled e)
places_spelled (negation f) = simp (places_spelled f)
places_spelled (field name) = refl
places_spelled (index e) = simp (token_places-append, append-nil, places_spelled e)
places_spelled empty = refl
places_spelled (assigns name selectors e) = simp (token_places-append, places_spelled selectors, places_spelled e)
places_spelled (calls name args) = simp (places_spelled args)
places_spelled (branches condition s elsifs rest) = simp (token_places-append, append-nil, places_spelled condition, places_spelled s, places_spelled elsifs, places_spelled rest)
places_spelled (while_loop condition s) = simp (token_places-append, append-nil, places_spelled condition, places_spelled s)
places_spelled (repeat_loop s condition) = simp (token_places-append, places_spelled s, places_spelled condition)
places_spelled no_arguments = refl
places_spelled (some_arguments e es) = simp (token_places-append, append-nil, places_spelled e, places_spelled es)
places_spelled (comma_then_argument e) = simp (places_spelled e)
places_spelled (runs first statements) = simp (token_places-append, places_spelled first, places_spelled statements)
places_spelled (semicolon_then_statement s) = simp (places_spelled s)
places_spelled (elsif_branch condition s) = simp (token_places-append, places_spelled condition, places_spelled s)
places_spelled (else_branch s) = simp (places_spelled s)
places_spelled (listed name others) = simp (places_spelled others)
places_spelled (comma_then_name name) = refl
places_spelled (named_type name) = refl
places_spelled (array_type size t) = simp (token_places-append, places_spelled size, places_spelled t)
places_spelled (record_type first others) = simp (token_places-append, append-nil, places_spelled first, places_spelled others)
places_spelled no_fields = refl
places_spelled (some_fields ns t) = simp (token_places-append, places_spelled ns, places_spelled t)
places_spelled (semicolon_then_fields f) = simp (places_spelled f)
places_spelled no_formals = refl
places_spelled (some_formals first others) = simp (token_places-append, append-nil, places_spelled first, places_spelled others)
places_spelled (value_section ns t) = simp (token_places-append, places_spelled ns, places_spelled t)
places_spelled (variable_section ns t) = simp (token_places-append, places_spelled ns, places_spelled t)
places_spelled (semicolon_then_section s) = simp (places_spelled s)
places_spelled (declares_constant name e) = simp (token_places-append, append-nil, places_spelled e)
places_spelled (declares_const_section cs) = simp (places_spelled cs)
places_spelled (declares_type name t) = simp (token_places-append, append-nil, places_spelled t)
places_spelled (declares_type_section ts) = simp (places_spelled ts)
places_spelled (declares_variable ns t) = simp (token_places-append, append-nil, places_spelled ns, places_spelled t)
places_spelled (declares_var_section vs) = simp (places_spelled vs)
places_spelled (declares_procedure name fs b closing) = simp (token_places-append, append-nil, places_spelled fs, places_spelled b)
places_spelled (declares cs ts vs ps) = simp (token_places-append, places_spelled cs, places_spelled ts, places_spelled vs, places_spelled ps)
places_spelled (begins s) = simp (places_spelled s)
places_spelled (forms_block ds b) = simp (token_places-append, places_spelled ds, places_spelled b)
places_spelled (forms_module name b closing) = simp (token_places-append, append-nil, places_spelled b)

-- The tokens of names and numbers in a text ascend.
from_ascend : (ts : List Token) (i : ℕ) → AreAscendingWithin i (token_places (indexed_terminals_from i ts)) (i + length ts)
from_ascend [] i = omega arith
from_ascend (t ∷ ts) i =
    let others = ascending_higher (i + 1) (token_places (indexed_terminals_from (i + 1) ts)) (i + 1 + length ts) (i + length (t ∷ ts)) (omega arith) (from_ascend ts (i + 1)) in
    first t.kind i (indexed_terminals_from (i + 1) ts) (i + length (t ∷ ts)) others
  where
    first : (k : TokenKind) (i : ℕ) (xs : List (Terminal ℕ)) (high : ℕ) → AreAscendingWithin (i + 1) (token_places xs) high → AreAscendingWithin i (token_places (indexed_terminal i k ∷ xs)) high
    first kind.Identifier i xs high p = (omega arith, p)
    first (kind.Integer v) i xs high p = (omega arith, p)
    first _ i xs high p = ascending_lower i (i + 1) (token_places xs) high (omega arith) p

pub places_ascend : (m : ParsedModule) → TreeMatchesText m → AreAscendingWithin 0 (places (tree_of m)) (length m.source.tokens)
places_ascend m p =
    let all : token_places (indexed_terminals_from 0 m.source.tokens) ≡ places (tree_of m) =
    sym (ap token_places p.places) ∙ (token_places-append (spell (tree_of m)) (EndOfText ∷ []) ∙ (append-nil (token_places (spell (tree_of m))) ∙ places_spelled (tree_of m))) in
    subst (λ l. AreAscendingWithin 0 l (length m.source.tokens)) all (subst (λ n. AreAscendingWithin 0 (token_places (indexed_terminals_from 0 m.source.tokens)) n) (zero-add (length m.source.tokens)) (from_ascend m.source.tokens 0))

-- holds if all tokens in a list have property P
abbrev pub AllOf : (ℕ → Type 0) → List ℕ → Type 0
AllOf P [] = Unit {0}
AllOf P (x ∷ xs) = P x × AllOf P xs

pub all_parts : (P : ℕ → Type 0) (xs ys : List ℕ) → AllOf P (xs ++ ys) → AllOf P xs × AllOf P ys
all_parts P [] ys h = (tt, h)
all_parts P (x ∷ xs) ys h = let rest = all_parts P xs ys h.1 in ((h.0, rest.0), rest.1)

pub each_of : {s : Sort} (P : ℕ → Type 0) (t : Tree ℕ s) → AllOf P (places t) → EachTokenSatisfies P t
each_of P none h = tt
each_of P (one t) h = each_of P t h
each_of P end h = tt
each_of P (more t ts) h = let s₁ = all_parts P (places t) (places ts) h in (each_of P t s₁.0, each_of P ts s₁.1)
each_of P (compares left compared) h = let s₁ = all_parts P (places left) (places compared) h in (each_of P left s₁.0, each_of P compared s₁.1)
each_of P (relates relation right) h = each_of P right h
each_of P (sum sign first terms) h = let s₁ = all_parts P (places first) (places terms) h in (each_of P first s₁.0, each_of P terms s₁.1)
each_of P (adds operator t) h = each_of P t h
each_of P (product first factors) h = let s₁ = all_parts P (places first) (places factors) h in (each_of P first s₁.0, each_of P factors s₁.1)
each_of P (multiplies operator f) h = each_of P f h
each_of P (designator name selectors) h = (h.0, each_of P selectors h.1)
each_of P (integer n) h = h.0
each_of P (parenthesised e) h = each_of P e h
each_of P (negation f) h = each_of P f h
each_of P (field name) h = h.0
each_of P (index e) h = each_of P e h
each_of P empty h = tt
each_of P (assigns name selectors e) h = let s₁ = all_parts P (places selectors) (places e) h.1 in (h.0, each_of P selectors s₁.0, each_of P e s₁.1)
each_of P (calls name args) h = (h.0, each_of P args h.1)
each_of P (branches condition s elsifs rest) h = let s₁ = all_parts P (places condition) (places s ++ (places elsifs ++ places rest)) h in let s₂ = all_parts P (places s) (places elsifs ++ places rest) s₁.1 in let s₃ = all_parts P (places elsifs) (places rest) s₂.1 in (each_of P condition s₁.0, each_of P s s₂.0, each_of P elsifs s₃.0, each_of P rest s₃.1)
each_of P (while_loop condition s) h = let s₁ = all_parts P (places condition) (places s) h in (each_of P condition s₁.0, each_of P s s₁.1)
each_of P (repeat_loop s condition) h = let s₁ = all_parts P (places s) (places condition) h in (each_of P s s₁.0, each_of P condition s₁.1)
each_of P no_arguments h = tt
each_of P (some_arguments e es) h = let s₁ = all_parts P (places e) (places es) h in (each_of P e s₁.0, each_of P es s₁.1)
each_of P (comma_then_argument e) h = each_of P e h
each_of P (runs first statements) h = let s₁ = all_parts P (places first) (places statements) h in (each_of P first s₁.0, each_of P statements s₁.1)
each_of P (semicolon_then_statement s) h = each_of P s h
each_of P (elsif_branch condition s) h = let s₁ = all_parts P (places condition) (places s) h in (each_of P condition s₁.0, each_of P s s₁.1)
each_of P (else_branch s) h = each_of P s h
each_of P (listed name others) h = (h.0, each_of P others h.1)
each_of P (comma_then_name name) h = h.0
each_of P (named_type name) h = h.0
each_of P (array_type size t) h = let s₁ = all_parts P (places size) (places t) h in (each_of P size s₁.0, each_of P t s₁.1)
each_of P (record_type first others) h = let s₁ = all_parts P (places first) (places others) h in (each_of P first s₁.0, each_of P others s₁.1)
each_of P no_fields h = tt
each_of P (some_fields ns t) h = let s₁ = all_parts P (places ns) (places t) h in (each_of P ns s₁.0, each_of P t s₁.1)
each_of P (semicolon_then_fields f) h = each_of P f h
each_of P no_formals h = tt
each_of P (some_formals first others) h = let s₁ = all_parts P (places first) (places others) h in (each_of P first s₁.0, each_of P others s₁.1)
each_of P (value_section ns t) h = let s₁ = all_parts P (places ns) (places t) h in (each_of P ns s₁.0, each_of P t s₁.1)
each_of P (variable_section ns t) h = let s₁ = all_parts P (places ns) (places t) h in (each_of P ns s₁.0, each_of P t s₁.1)
each_of P (semicolon_then_section s) h = each_of P s h
each_of P (declares_constant name e) h = (h.0, each_of P e h.1)
each_of P (declares_const_section cs) h = each_of P cs h
each_of P (declares_type name t) h = (h.0, each_of P t h.1)
each_of P (declares_type_section ts) h = each_of P ts h
each_of P (declares_variable ns t) h = let s₁ = all_parts P (places ns) (places t) h in (each_of P ns s₁.0, each_of P t s₁.1)
each_of P (declares_var_section vs) h = each_of P vs h
each_of P (declares_procedure name fs b closing) h = let s₁ = all_parts P (places fs) (places b ++ (closing ∷ [])) h.1 in let s₂ = all_parts P (places b) (closing ∷ []) s₁.1 in (h.0, each_of P fs s₁.0, each_of P b s₂.0, s₂.1.0)
each_of P (declares cs ts vs ps) h = let s₁ = all_parts P (places cs) (places ts ++ (places vs ++ places ps)) h in let s₂ = all_parts P (places ts) (places vs ++ places ps) s₁.1 in let s₃ = all_parts P (places vs) (places ps) s₂.1 in (each_of P cs s₁.0, each_of P ts s₂.0, each_of P vs s₃.0, each_of P ps s₃.1)
each_of P (begins s) h = each_of P s h
each_of P (forms_block ds b) h = let s₁ = all_parts P (places ds) (places b) h in (each_of P ds s₁.0, each_of P b s₁.1)
each_of P (forms_module name b closing) h = let s₁ = all_parts P (places b) (closing ∷ []) h.1 in (h.0, each_of P b s₁.0, s₁.1.0)

-- A property of every token holds of each token of a part.
pub each_token : {s : Sort} (P : ℕ → Type 0) → ((k : ℕ) → P k) → (t : Tree ℕ s) → EachTokenSatisfies P t
each_token P all t = each_of P t (all_of (places t)) where
  all_of : (xs : List ℕ) → AllOf P xs
  all_of [] = tt
  all_of (x ∷ xs) = (all x, all_of xs)
