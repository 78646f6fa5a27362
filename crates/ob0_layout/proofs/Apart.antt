-- Proves that each lexeme of a formatted text ends at the start of the next one.
use Rattle.std.proofs.Common.{◌≡◌, ℕ, ◌+◌, Bool, true, false, ◌||◌, ◌==◌, ◌*◌, cond, List, [], ◌∷◌, ◌++◌, get_or, drop, length, map, refl, sym, ap, ◌∙◌, subst, arith, ◌⊎◌, inl, inr, ⊎_elim, eqb-true}
use Rattle.std.specs.List.{AllPass}
use Rattle.std.specs.Char.{is_ascii_alphanumeric}
use Rattle.std.proofs.lemmas.Bool.{false_from_ne_true}
use Rattle.std.proofs.lemmas.List.{get_or_append_left}
use Rattle.std.proofs.lemmas.List.Elements.{All-cons, All-replicate}
use Rattle.std.proofs.lemmas.List.Sums.{AllPass-from_list_all}
use Rattle.ob0_scan.specs.declared.lexeme.Symbol.{Symbol}
use Rattle.ob0_scan.specs.declared.lexeme.Symbol.TheVariants as symbol
use Rattle.ob0_scan.specs.declared.lexeme.Span.{Span}
use Rattle.ob0_scan.specs.declared.lexeme.TokenKind.{TokenKind}
use Rattle.ob0_scan.specs.declared.lexeme.TokenKind.TheVariants as token
use Rattle.ob0_scan.specs.declared.lexeme.LexemeKind.{LexemeKind}
use Rattle.ob0_scan.specs.declared.lexeme.LexemeKind.TheVariants as lexeme
use Rattle.ob0_scan.specs.LexemeClasses.{symbol_text, is_white_space, IsNonEmptySequenceOf, IsLexemeOfKind}
use Rattle.ob0_scan.specs.TextLexemes.{Lexeme, text_of_lexemes}
use Rattle.ob0_scan.specs.LexemeEnds.{continues_symbol, continues_lexeme, EachLexemeEndsBeforeNext}
use Rattle.ob0_scan.specs.TextWithTokens.{span_with_length, words_of_lexemes}
use Rattle.ob0_scan.proofs.Families.{Family, Blank, Letter, Digit, family, family_of, family-blank, head_family}
use Rattle.ob0_scan.proofs.Families as families
use Rattle.ob0_scan.proofs.Cuts.{nonempty}
use Rattle.ob0_text.specs.declared.edits.Indent.{Indent}
use Rattle.ob0_text.specs.declared.edits.Indent.TheVariants as indent_by
use Rattle.ob0_tree.specs.Terminals as spelled_as
use Rattle.ob0_tree.specs.Terminals.{terminal_of_kind}
use Rattle.ob0_tree.specs.Tree.{Sort, Tree, spell}
use Rattle.ob0_layout.proofs.Named.{named_lexeme}
use Rattle.ob0_layout.specs.declared.gap.Gap.TheVariants.{Nothing, Space}
use Rattle.ob0_layout.specs.declared.line_role.LineRole.{LineRole}
use Rattle.ob0_layout.specs.declared.line_role.LineRole.TheVariants.{BeginsLine, OpensParameters, JoinsNextToken, Plain}
use Rattle.ob0_layout.specs.LineRoles.{line_roles}
use Rattle.ob0_layout.specs.Layout.{LexemeWithRole, lexemes_with_roles, next_token_line_level, next_token_role, contains_line_break, comment_role, is_comment, forbids_space_before, forbids_space_after, indentation, gap_text_between, gap_between, gap_between_on_same_line, gap_text, white_space_lexeme_unless_empty, further_lexemes_with_formatted_gaps, lexemes_with_formatted_gaps, formatted_lexemes}
use Rattle.ob0_layout.proofs.Pairs.{Calm, calm_next, calm_paren, is_paren, is_star, calm_spelled}

-- holds if a lexeme is a token or comment
abbrev pub IsSolid : LexemeKind → Type 0
IsSolid lexeme.WhiteSpace = ⊥
IsSolid other = Unit {0}

-- states that a byte continues no token
record Quiet (x : ℕ) : Type 0 where
  alone : is_ascii_alphanumeric x ≡ false
  unequal : (x == 61) ≡ false
  starless : (x == 42) ≡ false

quiet_joins : (s : Symbol) (x : ℕ) → Quiet x → continues_symbol s x ≡ false
quiet_joins symbol.Less x q = q.unequal
quiet_joins symbol.Greater x q = q.unequal
quiet_joins symbol.Colon x q = q.unequal
quiet_joins symbol.LeftParen x q = q.starless
quiet_joins _ x q = refl

quiet_ends : (k : LexemeKind) (x : ℕ) → IsSolid k → Quiet x → continues_lexeme k x ≡ false
quiet_ends lexeme.WhiteSpace x solid q = absurd solid
quiet_ends lexeme.Comment x solid q = refl
quiet_ends (lexeme.Token (token.Symbol s)) x solid q = quiet_joins s x q
quiet_ends _ x solid q = q.alone

not_blank : (k : LexemeKind) → IsSolid k → Blank ≡ family_of k → ⊥
not_blank lexeme.WhiteSpace solid e = solid
not_blank (lexeme.Token token.Identifier) solid e = cc
not_blank _ solid e = cc

-- The first byte of a token or comment isn't white space.
pub solid_first : (k : LexemeKind) (text : List ℕ) → IsSolid k → IsLexemeOfKind k text → is_white_space (get_or text 0 0) ≡ false
solid_first k text solid h = false_from_ne_true (is_white_space (get_or text 0 0)) (λ blank. not_blank k solid (sym (family-blank (get_or text 0 0) blank) ∙ head_family k text h))

differ : false ≡ true → ⊥
differ e = cc

-- A token that needs no space before it continues no token.
quiet_symbol : (s : Symbol) (role : LineRole) → forbids_space_before (lexeme.Token (token.Symbol s)) role ≡ true → Quiet (get_or (symbol_text s) 0 0)
quiet_symbol symbol.Dot role h = record { alone = refl; unequal = refl; starless = refl }
quiet_symbol symbol.Comma role h = record { alone = refl; unequal = refl; starless = refl }
quiet_symbol symbol.Semicolon role h = record { alone = refl; unequal = refl; starless = refl }
quiet_symbol symbol.Colon role h = record { alone = refl; unequal = refl; starless = refl }
quiet_symbol symbol.LeftParen role h = record { alone = refl; unequal = refl; starless = refl }
quiet_symbol symbol.RightParen role h = record { alone = refl; unequal = refl; starless = refl }
quiet_symbol symbol.LeftBracket role h = record { alone = refl; unequal = refl; starless = refl }
quiet_symbol symbol.RightBracket role h = record { alone = refl; unequal = refl; starless = refl }
quiet_symbol _ role h = absurd (differ h)

quiet_first : (k : LexemeKind) (text : List ℕ) (role : LineRole) → IsLexemeOfKind k text → forbids_space_before k role ≡ true → Quiet (get_or text 0 0)
quiet_first (lexeme.Token (token.Symbol s)) text role b h = subst (λ t. Quiet (get_or t 0 0)) (sym b) (quiet_symbol s role h)
quiet_first _ text role b h = absurd (differ h)

-- A token that needs no space after it can only be continued by a `*` after a `(`.
abbrev left_paren : LexemeKind
left_paren = lexeme.Token (token.Symbol symbol.LeftParen)

direct_symbol : (s : Symbol) (role : LineRole) (x : ℕ) → forbids_space_after (lexeme.Token (token.Symbol s)) role ≡ true → (lexeme.Token (token.Symbol s) ≡ left_paren → (x == 42) ≡ false) → continues_symbol s x ≡ false
direct_symbol symbol.Less role x h star = absurd (differ h)
direct_symbol symbol.Greater role x h star = absurd (differ h)
direct_symbol symbol.Colon role x h star = absurd (differ h)
direct_symbol symbol.LeftParen role x h star = star refl
direct_symbol _ role x h star = refl

direct_ends : (k : LexemeKind) (role : LineRole) (x : ℕ) → forbids_space_after k role ≡ true → (k ≡ left_paren → (x == 42) ≡ false) → continues_lexeme k x ≡ false
direct_ends (lexeme.Token (token.Symbol s)) role x h star = direct_symbol s role x h star
direct_ends _ role x h star = absurd (differ h)

-- Only the token `*` begins with `*`.
other_family : (text : List ℕ) (f : Family) → family (get_or text 0 0) ≡ f → (families.Mark ≡ f → ⊥) → (get_or text 0 0 == 42) ≡ false
other_family text f e other = false_from_ne_true (get_or text 0 0 == 42) (λ h. other (sym (ap family (eqb-true (get_or text 0 0) 42 h)) ∙ e))

symbol_first : (s : Symbol) → is_star {N = List ℕ} (spelled_as.WordOrSymbol (token.Symbol s)) ≡ false → (get_or (symbol_text s) 0 0 == 42) ≡ false
symbol_first symbol.Times h = absurd (differ (sym h))
symbol_first _ h = refl

token_first : (k : TokenKind) (text : List ℕ) → IsLexemeOfKind (lexeme.Token k) text → is_star (terminal_of_kind text k) ≡ false → (get_or text 0 0 == 42) ≡ false
token_first token.Identifier text b h = other_family text Letter (head_family (lexeme.Token token.Identifier) text b) (λ e. cc)
token_first (token.ReservedWord r) text b h = other_family text Letter (head_family (lexeme.Token (token.ReservedWord r)) text b) (λ e. cc)
token_first (token.Integer n) text b h = other_family text Digit (head_family (lexeme.Token (token.Integer n)) text b) (λ e. cc)
token_first (token.Symbol s) text b h = ap (λ t. get_or t 0 0 == 42) b ∙ symbol_first s h

-- a gap that separates a lexeme of a kind from one that begins with this byte
data Fits (k : LexemeKind) (first : ℕ) : List ℕ → Type 0 where
  directly : continues_lexeme k first ≡ false → Fits k first []
  by_space : {x : ℕ} {xs : List ℕ} → Quiet x → IsNonEmptySequenceOf is_white_space (x ∷ xs) → Fits k first (x ∷ xs)

either_true : (x y : Bool) → (x || y) ≡ true → (x ≡ true) ⊎ (y ≡ true)
either_true true y h = inl refl
either_true false y h = inr h

both_false : (x y : Bool) → (x || y) ≡ false → y ≡ false
both_false true y h = absurd (differ (sym h))
both_false false y h = h

pub indented : (indent : Indent) (level : ℕ) → AllPass is_white_space (indentation indent level)
indented indent_by.Tab level = All-replicate (λ x. is_white_space x ≡ true) level 9 refl
indented (indent_by.Spaces n) level = All-replicate (λ x. is_white_space x ≡ true) (level * n) 32 refl

line_fits : (k : LexemeKind) (first : ℕ) (indent : Indent) (level : ℕ) → Fits k first (10 ∷ indentation indent level)
line_fits k first indent level = by_space (record { alone = refl; unequal = refl; starless = refl }) (record { nonempty = omega arith; all = All-cons (λ x. is_white_space x ≡ true) 10 (indentation indent level) refl (indented indent level) })

space_fits : (k : LexemeKind) (first : ℕ) → Fits k first (32 ∷ [])
space_fits k first = by_space (record { alone = refl; unequal = refl; starless = refl }) (record { nonempty = omega arith; all = AllPass-from_list_all is_white_space (32 ∷ []) refl })

-- states that two lexemes are tokens or comments, and that after a `(` the second one isn't a token
-- that begins with `*`
record Neighbours (a b : LexemeWithRole) : Type 0 where
  left : IsSolid a.lexeme.kind
  right : IsSolid b.lexeme.kind
  right_belongs : IsLexemeOfKind b.lexeme.kind b.lexeme.text
  starless : a.lexeme.kind ≡ left_paren → is_comment b.lexeme.kind ≡ false → (get_or b.lexeme.text 0 0 == 42) ≡ false

joined_fits : (a b : LexemeWithRole) → Neighbours a b → is_comment b.lexeme.kind ≡ false
    → (forbids_space_before b.lexeme.kind b.role || forbids_space_after a.lexeme.kind a.role) ≡ true → Fits a.lexeme.kind (get_or b.lexeme.text 0 0) []
joined_fits a b n uncommented h = directly (⊎_elim
    (λ f. quiet_ends a.lexeme.kind (get_or b.lexeme.text 0 0) n.left (quiet_first b.lexeme.kind b.lexeme.text b.role n.right_belongs f))
    (λ p. direct_ends a.lexeme.kind a.role (get_or b.lexeme.text 0 0) p (λ paren. n.starless paren uncommented))
    (either_true (forbids_space_before b.lexeme.kind b.role) (forbids_space_after a.lexeme.kind a.role) h))

in_line_fits : (indent : Indent) (a b : LexemeWithRole) → Neighbours a b → (c d : Bool) → (is_comment a.lexeme.kind || is_comment b.lexeme.kind) ≡ c
    → (forbids_space_before b.lexeme.kind b.role || forbids_space_after a.lexeme.kind a.role) ≡ d
    → Fits a.lexeme.kind (get_or b.lexeme.text 0 0) (gap_text indent (cond c Space (cond d Nothing Space)))
in_line_fits indent a b n false true e f = joined_fits a b n (both_false (is_comment a.lexeme.kind) (is_comment b.lexeme.kind) e) f
in_line_fits indent a b n _ _ e f = space_fits a.lexeme.kind (get_or b.lexeme.text 0 0)

gap_in_line_fits : (indent : Indent) (a b : LexemeWithRole) → Neighbours a b
    → Fits a.lexeme.kind (get_or b.lexeme.text 0 0) (gap_text indent (gap_between_on_same_line a.lexeme.kind a.role b.lexeme.kind b.role))
gap_in_line_fits indent a b n = in_line_fits indent a b n _ _ refl refl

gap_between_fits : (indent : Indent) (a : LexemeWithRole) (l : Lexeme) (u : Span) (s : LineRole) → Neighbours a (record { lexeme = l; span = u; role = s })
    → Fits a.lexeme.kind (get_or l.text 0 0) (gap_text indent (gap_between a.lexeme.kind a.role l.kind s))
gap_between_fits indent a l u (BeginsLine level) n = line_fits a.lexeme.kind (get_or l.text 0 0) indent level
gap_between_fits indent a l u OpensParameters n = gap_in_line_fits indent a (record { lexeme = l; span = u; role = OpensParameters }) n
gap_between_fits indent a l u JoinsNextToken n = gap_in_line_fits indent a (record { lexeme = l; span = u; role = JoinsNextToken }) n
gap_between_fits indent a l u Plain n = gap_in_line_fits indent a (record { lexeme = l; span = u; role = Plain }) n

gap_fits : (indent : Indent) (a b : LexemeWithRole) → Neighbours a b → Fits a.lexeme.kind (get_or b.lexeme.text 0 0) (gap_text_between indent a b)
unfolding gap_text_between
gap_fits indent a b n = gap_between_fits indent a b.lexeme b.span b.role n

first_of : (l : Lexeme) (ls : List Lexeme) → IsLexemeOfKind l.kind l.text → get_or (text_of_lexemes (l ∷ ls)) 0 0 ≡ get_or l.text 0 0
first_of l ls h = get_or_append_left l.text (text_of_lexemes ls) 0 0 (nonempty l.kind l.text h)

fits_apart : (a b : LexemeWithRole) (rest : List Lexeme) (g : List ℕ) → Neighbours a b → IsLexemeOfKind a.lexeme.kind a.lexeme.text
    → Fits a.lexeme.kind (get_or b.lexeme.text 0 0) g → EachLexemeEndsBeforeNext (b.lexeme ∷ rest) → EachLexemeEndsBeforeNext (a.lexeme ∷ (white_space_lexeme_unless_empty g ++ (b.lexeme ∷ rest)))
fits_apart a b rest _ n h (directly e) more =
    (record { belongs = h; ends = ap (continues_lexeme a.lexeme.kind) (first_of b.lexeme rest n.right_belongs) ∙ e }, more)
fits_apart a b rest _ n h (by_space {x = x} q run) more = (
  record { belongs = h; ends = quiet_ends a.lexeme.kind x n.left q },
  (record { belongs = run; ends = ap is_white_space (first_of b.lexeme rest n.right_belongs) ∙ solid_first b.lexeme.kind b.lexeme.text n.right n.right_belongs }, more),
)

-- returns the tokens among lexemes, as a tree spells them
abbrev spelled : List Lexeme → List (spelled_as.Terminal (List ℕ))
spelled ls = map named_lexeme (words_of_lexemes ls)

-- holds if the first token isn't `*`
abbrev NoStar : List (spelled_as.Terminal (List ℕ)) → Type 0
NoStar [] = Unit {0}
NoStar (x ∷ xs) = is_star x ≡ false

calm_following : {x : spelled_as.Terminal (List ℕ)} {xs : List (spelled_as.Terminal (List ℕ))} → Calm (x ∷ xs) → Calm xs
calm_following (calm_next h p) = p
calm_following (calm_paren h p) = p

calm_first : {x : spelled_as.Terminal (List ℕ)} {xs : List (spelled_as.Terminal (List ℕ))} → Calm (x ∷ xs) → is_paren x ≡ true → NoStar xs
calm_first (calm_next h p) paren = absurd (differ (sym h ∙ paren))
calm_first (calm_paren h p) paren = h

paren_of : (k : TokenKind) (text : List ℕ) → lexeme.Token k ≡ left_paren → is_paren (terminal_of_kind text k) ≡ true
paren_of k text e = let same : k ≡ token.Symbol symbol.LeftParen = cc in ap (λ k. is_paren (terminal_of_kind text k)) same

abbrev Spread : Indent → List Lexeme → Type 0
Spread indent ls = (at level : ℕ) (broken : Bool) (ss : List LineRole) (a : LexemeWithRole) → IsSolid a.lexeme.kind → IsLexemeOfKind a.lexeme.kind a.lexeme.text
    → (a.lexeme.kind ≡ left_paren → NoStar (spelled ls)) → Calm (spelled ls) → EachLexemeEndsBeforeNext ls → EachLexemeEndsBeforeNext (a.lexeme ∷ further_lexemes_with_formatted_gaps indent a (lexemes_with_roles at level broken ss ls))

comment_spread : (indent : Indent) (text : List ℕ) (ls : List Lexeme) → Spread indent ls → Spread indent (record { kind = lexeme.Comment; text = text } ∷ ls)
comment_spread indent text ls rest at level broken ss a solid h after calm apart =
    let c : LexemeWithRole = record { lexeme = record { kind = lexeme.Comment; text = text }; span = span_with_length at (length text); role = comment_role broken (next_token_line_level level ss) } in
    let n : Neighbours a c = record { left = solid; right = tt; right_belongs = apart.0.belongs; starless = λ paren uncommented. absurd (differ (sym uncommented)) } in
    fits_apart a c (further_lexemes_with_formatted_gaps indent c (lexemes_with_roles (at + length text) level false ss ls)) (gap_text_between indent a c) n h (gap_fits indent a c n)
    (rest (at + length text) level false ss c tt apart.0.belongs (λ e. cc) calm apart.1)

token_spread : (indent : Indent) (k : TokenKind) (text : List ℕ) (ls : List Lexeme) → Spread indent ls → Spread indent (record { kind = lexeme.Token k; text = text } ∷ ls)
token_spread indent k text ls rest at level broken ss a solid h after calm apart =
    let t : LexemeWithRole = record { lexeme = record { kind = lexeme.Token k; text = text }; span = span_with_length at (length text); role = next_token_role ss } in
    let n : Neighbours a t = record { left = solid; right = tt; right_belongs = apart.0.belongs; starless = λ paren uncommented. token_first k text apart.0.belongs (after paren) } in
    fits_apart a t (further_lexemes_with_formatted_gaps indent t (lexemes_with_roles (at + length text) (next_token_line_level level ss) false (drop 1 ss) ls)) (gap_text_between indent a t) n h (gap_fits indent a t n)
    (rest (at + length text) (next_token_line_level level ss) false (drop 1 ss) t tt apart.0.belongs (λ e. calm_first calm (paren_of k text e)) (calm_following calm) apart.1)

kind_spread : (indent : Indent) (k : LexemeKind) (text : List ℕ) (ls : List Lexeme) → Spread indent ls → Spread indent (record { kind = k; text = text } ∷ ls)
kind_spread indent lexeme.WhiteSpace text ls rest = λ at level broken ss a solid h after calm apart. rest (at + length text) level (broken || contains_line_break text) ss a solid h after calm apart.1
kind_spread indent lexeme.Comment text ls rest = comment_spread indent text ls rest
kind_spread indent (lexeme.Token k) text ls rest = token_spread indent k text ls rest

nothing_spread : (indent : Indent) → Spread indent []
nothing_spread indent at level broken ss a solid h after calm apart = (
  record { belongs = h; ends = quiet_ends a.lexeme.kind 10 solid (record { alone = refl; unequal = refl; starless = refl }) },
  (record { belongs = record { nonempty = omega arith; all = AllPass-from_list_all is_white_space (10 ∷ []) refl }; ends = refl }, tt),
)

following_spread : (indent : Indent) (ls : List Lexeme) → Spread indent ls
following_spread indent [] = nothing_spread indent
following_spread indent (l ∷ ls) = kind_spread indent l.kind l.text ls (following_spread indent ls)

abbrev FirstSpread : Indent → List Lexeme → Type 0
FirstSpread indent ls = (at level : ℕ) (broken : Bool) (ss : List LineRole) → Calm (spelled ls) → EachLexemeEndsBeforeNext ls → EachLexemeEndsBeforeNext (lexemes_with_formatted_gaps indent (lexemes_with_roles at level broken ss ls))

kind_first_spread : (indent : Indent) (k : LexemeKind) (text : List ℕ) (ls : List Lexeme) → FirstSpread indent ls → FirstSpread indent (record { kind = k; text = text } ∷ ls)
kind_first_spread indent lexeme.WhiteSpace text ls rest = λ at level broken ss calm apart. rest (at + length text) level (broken || contains_line_break text) ss calm apart.1
kind_first_spread indent lexeme.Comment text ls rest = λ at level broken ss calm apart.
    let c : LexemeWithRole = record { lexeme = record { kind = lexeme.Comment; text = text }; span = span_with_length at (length text); role = comment_role broken (next_token_line_level level ss) } in
    following_spread indent ls (at + length text) level false ss c tt apart.0.belongs (λ e. cc) calm apart.1
kind_first_spread indent (lexeme.Token k) text ls rest = λ at level broken ss calm apart.
    let t : LexemeWithRole = record { lexeme = record { kind = lexeme.Token k; text = text }; span = span_with_length at (length text); role = next_token_role ss } in
    following_spread indent ls (at + length text) (next_token_line_level level ss) false (drop 1 ss) t tt apart.0.belongs (λ e. calm_first calm (paren_of k text e)) (calm_following calm) apart.1

first_spread : (indent : Indent) (ls : List Lexeme) → FirstSpread indent ls
first_spread indent [] = λ at level broken ss calm apart. tt
first_spread indent (l ∷ ls) = kind_first_spread indent l.kind l.text ls (first_spread indent ls)

pub laid_out_apart : {s : Sort} (indent : Indent) (tree : Tree (List ℕ) s) (ls : List Lexeme) → spelled ls ≡ spell tree → EachLexemeEndsBeforeNext ls → EachLexemeEndsBeforeNext (formatted_lexemes indent tree ls)
unfolding formatted_lexemes
laid_out_apart indent tree ls e apart = first_spread indent ls 0 0 true (line_roles 0 tree) (subst Calm (sym e) (calm_spelled tree)) apart
