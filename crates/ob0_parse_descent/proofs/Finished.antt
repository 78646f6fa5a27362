-- Proves that the descent reads all tokens of a tree, whatever parts it reads after the tree. The
-- tree must have at most the allowed levels of nesting, and the token after the tree must be one
-- that can't continue the tree.
use Rattle.std.proofs.Common.{◌≡◌, ℕ, zero, suc, ◌+◌, ◌≤◌, true, false, Some, None, List, [], ◌∷◌, ◌++◌, length, refl, sym, ◌∙◌, ap, subst, arith, append_assoc, if◌then◌else◌}
use Rattle.ob0_scan.specs.declared.lexeme.TokenKind.{TokenKind}
use Rattle.ob0_scan.specs.declared.lexeme.TokenKind.TheVariants as kind
use Rattle.ob0_scan.specs.declared.lexeme.ReservedWord.TheVariants as reserved
use Rattle.ob0_scan.specs.declared.lexeme.Symbol.TheVariants as symbol
use Rattle.ob0_tree.specs.declared.tree.Sign.TheVariants as signs
use Rattle.ob0_tree.specs.Terminals.{Terminal, Name, Number, WordOrSymbol}
use Rattle.ob0_tree.specs.Tree.{GrammarItem, arguments, argument_after_comma, section_after_semicolon, Sort, item, items, maybe, expression, statement, fields, section, Tree, none, one, end, more, compares, relates, sum, adds, product, multiplies, designator, integer, parenthesised, negation, field, index, empty, assigns, calls, branches, while_loop, repeat_loop, no_arguments, some_arguments, comma_then_argument, runs, semicolon_then_statement, elsif_branch, else_branch, listed, comma_then_name, named_type, array_type, record_type, no_fields, some_fields, semicolon_then_fields, no_formals, some_formals, value_section, variable_section, semicolon_then_section, declares_constant, declares_const_section, declares_type, declares_type_section, declares_variable, declares_var_section, declares_procedure, declares, begins, forms_block, forms_module, spell, nesting}
use Rattle.ob0_parse_descent.specs.TokenRanks.{terminal_rank, item_start_rank, item_max_continuing_rank, max_continuing_rank, NextTokenEndsConstruct, NextTokenHasRank}
use Rattle.ob0_parse_descent.specs.Descent.{ProductionPart, token, name, number, nonterminal, parts, symbol_part, is_item_next, is_expression_next, is_parameter_section_next, is_assignment_next, chosen_production, DescentEnd, Descends, taken, made}
use Rattle.ob0_parse_descent.proofs.Unique.{starts_item, stops_less, stops_items, stops_maybe, stops_else, stops_branches, stops_closed, below, unsigned_term}
use Rattle.ob0_parse_descent.proofs.Refusals.{no_end}
use Rattle.ob0_parse_descent.proofs.Descent.{next_item, no_next}
use Rattle.ob0_parse_descent.proofs.Expressions.{chosen_unsigned}
use Rattle.ob0_parse_descent.proofs.Arguments.{tree_next}
use Rattle.ob0_parse_descent.proofs.NameLists.{nameless}
use Rattle.ob0_parse_descent.proofs.TypeParts.{chosen_fields, chosen_no_fields, unnested}
use Rattle.ob0_parse_descent.proofs.StatementParts.{chosen_empty}
use Rattle.ob0_parse_descent.proofs.NamedStatements.{chosen_named, assigned_next, unassigned}
use Rattle.ob0_parse_descent.proofs.DeclarationParts.{chosen_typed, section_next}

-- Holds if the descent reads the parts from these tokens and ends with this stop. The last token is
-- right before index `e`.
abbrev pub Finishes : ℕ → DescentEnd → List ProductionPart → List (Terminal ℕ) → Type 0
Finishes e o ps w = (i : ℕ) → i + length w ≡ e → Descends ps i w o

tok : {e : ℕ} {o : DescentEnd} {k : TokenKind} {ps : List ProductionPart} {z : List (Terminal ℕ)} → Finishes e o ps z → Finishes e o (token k ∷ ps) (WordOrSymbol k ∷ z)
tok r = λ i h. taken refl (r (i + 1) (omega (arith, h)))

nam : {e : ℕ} {o : DescentEnd} {n : ℕ} {ps : List ProductionPart} {z : List (Terminal ℕ)} → Finishes e o ps z → Finishes e o (name ∷ ps) (Name n ∷ z)
nam {n = n} r = λ i h. taken (n, refl) (r (i + 1) (omega (arith, h)))

num : {e : ℕ} {o : DescentEnd} {n : ℕ} {ps : List ProductionPart} {z : List (Terminal ℕ)} → Finishes e o ps z → Finishes e o (number ∷ ps) (Number n ∷ z)
num {n = n} r = λ i h. taken (n, refl) (r (i + 1) (omega (arith, h)))

prod : {e : ℕ} {o : DescentEnd} {s : Sort} {room : ℕ} {ps qs : List ProductionPart} {w : List (Terminal ℕ)} → chosen_production s room w ≡ parts qs → Finishes e o (qs ++ ps) w → Finishes e o (nonterminal s room ∷ ps) w
prod {qs = qs} c r = λ i h. made qs c (r i h)

listed_as : {e : ℕ} {o : DescentEnd} {ps : List ProductionPart} {v w : List (Terminal ℕ)} → w ≡ v → Finishes e o ps v → Finishes e o ps w
listed_as {e = e} {o = o} {ps = ps} is r = subst (λ w. Finishes e o ps w) (sym is) r

assoc : {e : ℕ} {o : DescentEnd} {ps : List ProductionPart} (a b z : List (Terminal ℕ)) → Finishes e o ps (a ++ (b ++ z)) → Finishes e o ps ((a ++ b) ++ z)
assoc a b z r = listed_as (append_assoc a b z) r

some : (i : GrammarItem) (room : ℕ) (w : List (Terminal ℕ)) → NextTokenHasRank (item_start_rank i) w → chosen_production (maybe i) room w ≡ parts (nonterminal (item i) room ∷ [])
some i room w s = ap (λ b. if b then parts (nonterminal (item i) room ∷ []) else parts []) (next_item i w s)

further : (i : GrammarItem) (room : ℕ) (w : List (Terminal ℕ)) → NextTokenHasRank (item_start_rank i) w → chosen_production (items i) room w ≡ parts (nonterminal (item i) room ∷ nonterminal (items i) room ∷ [])
further i room w s = ap (λ b. if b then parts (nonterminal (item i) room ∷ nonterminal (items i) room ∷ []) else parts []) (next_item i w s)

left_out : (i : GrammarItem) (w : List (Terminal ℕ)) → NextTokenEndsConstruct (item_start_rank i) w → is_item_next i w ≡ false
left_out i w s = no_next i w (λ p. no_end (item_start_rank i) w p s) _ refl

no_statement : (room : ℕ) (z : List (Terminal ℕ)) → NextTokenEndsConstruct 8 z → chosen_production statement room z ≡ parts []
no_statement room [] s = refl
no_statement room (x ∷ z) s = chosen_empty room x z (λ e. omega (arith, e, s)) (λ e. let r : terminal_rank x ≡ 8 = ap terminal_rank e in omega (arith, r, s)) (λ e. let r : terminal_rank x ≡ 8 = ap terminal_rank e in omega (arith, r, s)) (λ e. let r : terminal_rank x ≡ 8 = ap terminal_rank e in omega (arith, r, s))

no_field : (room : ℕ) (z : List (Terminal ℕ)) → NextTokenEndsConstruct 7 z → chosen_production fields room z ≡ parts []
no_field room [] s = refl
no_field room (x ∷ z) s = chosen_no_fields room x z (λ e. omega (arith, e, s))

call_next : (a : Tree ℕ (maybe arguments)) (z : List (Terminal ℕ)) → NextTokenEndsConstruct 8 z → is_assignment_next (spell a ++ z) ≡ false
call_next none [] s = refl
call_next none (x ∷ z) s = unassigned x z (λ e. let r : terminal_rank x ≡ 8 = ap terminal_rank e in omega (arith, r, s)) (λ p. omega (arith, p, s))
call_next (one no_arguments) z s = refl
call_next (one (some_arguments e es)) z s = refl

pub finishes : {e : ℕ} {o : DescentEnd} {s : Sort} (t : Tree ℕ s) (room : ℕ) (ps : List ProductionPart) (z : List (Terminal ℕ)) → nesting t ≤ room → NextTokenEndsConstruct (max_continuing_rank s) z → Finishes e o ps z → Finishes e o (nonterminal s room ∷ ps) (spell t ++ z)
finishes (none {i = i}) room ps z n s r = prod {qs = []} (ap (λ b. if b then parts (nonterminal (item i) room ∷ []) else parts []) (left_out i z s)) r
finishes (one {i = i} t) room ps z n s r = prod (some i room _ (starts_item t z)) (finishes t room ps z n (stops_less z (item_max_continuing_rank i) (item_start_rank i) (omega (arith, below i)) s) r)
finishes (end {i = i}) room ps z n s r = prod {qs = []} (ap (λ b. if b then parts (nonterminal (item i) room ∷ nonterminal (items i) room ∷ []) else parts []) (left_out i z s)) r
finishes (more {i = i} t ts) room ps z n s r =
    prod (further i room _ (subst (λ w. NextTokenHasRank (item_start_rank i) w) (sym (append_assoc (spell t) (spell ts) z)) (starts_item t (spell ts ++ z))))
    (assoc (spell t) (spell ts) z (finishes t room _ _ (omega arith) (stops_items ts z (item_max_continuing_rank i) (below i) s) (finishes ts room ps z (omega arith) s r)))
finishes (compares a c) room ps z n s r = prod refl (assoc (spell a) (spell c) z (finishes a room _ _ (omega arith) (stops_maybe c z 3 (omega arith) s) (finishes c room ps z (omega arith) s r)))
finishes (relates o a) room ps z n s r = prod refl (tok (finishes a room ps z n s r))
finishes (sum None a c) room ps z n s r =
    let u = unsigned_term a (spell c ++ z) in
    prod (chosen_unsigned room _ (record { plus = λ y e. u.plus y (sym (append_assoc (spell a) (spell c) z) ∙ e); minus = λ y e. u.minus y (sym (append_assoc (spell a) (spell c) z) ∙ e) }))
    (assoc (spell a) (spell c) z (finishes a room _ _ (omega arith) (stops_items c z 2 (omega arith) s) (finishes c room ps z (omega arith) s r)))
finishes (sum (Some signs.Plus) a c) room ps z n s r = prod refl (tok (assoc (spell a) (spell c) z (finishes a room _ _ (omega arith) (stops_items c z 2 (omega arith) s) (finishes c room ps z (omega arith) s r))))
finishes (sum (Some signs.Minus) a c) room ps z n s r = prod refl (tok (assoc (spell a) (spell c) z (finishes a room _ _ (omega arith) (stops_items c z 2 (omega arith) s) (finishes c room ps z (omega arith) s r))))
finishes (adds o a) room ps z n s r = prod refl (tok (finishes a room ps z n s r))
finishes (product a c) room ps z n s r = prod refl (assoc (spell a) (spell c) z (finishes a room _ _ (omega arith) (stops_items c z 1 (omega arith) s) (finishes c room ps z (omega arith) s r)))
finishes (multiplies o a) room ps z n s r = prod refl (tok (finishes a room ps z n s r))
finishes (designator x ss) room ps z n s r = prod refl (nam (finishes ss room ps z n s r))
finishes (integer x) room ps z n s r = prod refl (num r)
finishes (parenthesised t) zero ps z n s r = absurd (omega arith)
finishes (parenthesised t) (suc inner) ps z n s r = prod refl (tok (assoc (spell t) _ z (finishes t inner _ _ (omega arith) (omega arith) (tok r))))
finishes (negation t) zero ps z n s r = absurd (omega arith)
finishes (negation t) (suc inner) ps z n s r = prod refl (tok (finishes t inner ps z (omega arith) s r))
finishes (field x) room ps z n s r = prod refl (tok (nam r))
finishes (index t) zero ps z n s r = absurd (omega arith)
finishes (index t) (suc inner) ps z n s r = prod refl (tok (assoc (spell t) _ z (finishes t inner _ _ (omega arith) (omega arith) (tok r))))
finishes empty room ps z n s r = prod {qs = []} (no_statement room z s) r
finishes (assigns x ss v) room ps z n s r =
    prod (chosen_named room {n = x} {w = (spell ss ++ (WordOrSymbol (kind.Symbol symbol.Becomes) ∷ spell v)) ++ z} true refl (ap is_assignment_next (append_assoc (spell ss) (WordOrSymbol (kind.Symbol symbol.Becomes) ∷ spell v) z) ∙ assigned_next ss _ (spell v ++ z) refl))
    (nam (assoc (spell ss) _ z (finishes ss room _ _ (omega arith) (omega arith) (tok (finishes v room ps z (omega arith) (stops_less z 4 8 (omega arith) s) r)))))
finishes (calls x a) room ps z n s r = prod (chosen_named room {n = x} {w = spell a ++ z} false refl (call_next a z s)) (nam (finishes a room ps z n (stops_less z 6 8 (omega arith) s) r))
finishes (branches c t es l) zero ps z n s r = absurd (omega arith)
finishes (branches c t es l) (suc inner) ps z n s r =
    prod refl (tok (assoc (spell c) _ z (finishes c inner _ _ (omega arith) (omega arith) (tok (assoc (spell t) _ z (finishes t inner _ _ (omega arith) (stops_branches es l z) (assoc (spell es) _ z (finishes es inner _ _ (omega arith) (stops_else l z) (assoc (spell l) _ z (finishes l inner _ _ (omega arith) (omega arith) (tok r)))))))))))
finishes (while_loop c t) zero ps z n s r = absurd (omega arith)
finishes (while_loop c t) (suc inner) ps z n s r = prod refl (tok (assoc (spell c) _ z (finishes c inner _ _ (omega arith) (omega arith) (tok (assoc (spell t) _ z (finishes t inner _ _ (omega arith) (omega arith) (tok r)))))))
finishes (repeat_loop t c) zero ps z n s r = absurd (omega arith)
finishes (repeat_loop t c) (suc inner) ps z n s r = prod refl (tok (assoc (spell t) _ z (finishes t inner _ _ (omega arith) (omega arith) (tok (finishes c inner ps z (omega arith) (stops_less z 4 8 (omega arith) s) r)))))
finishes no_arguments room ps z n s r = prod refl (tok (tok r))
finishes (some_arguments e es) room ps z n s r =
    prod (ap (λ b. if b then parts (symbol_part symbol.LeftParen ∷ nonterminal expression room ∷ nonterminal (items argument_after_comma) room ∷ symbol_part symbol.RightParen ∷ []) else parts (symbol_part symbol.LeftParen ∷ symbol_part symbol.RightParen ∷ [])) (ap is_expression_next (append_assoc (spell e) _ z) ∙ tree_next e _))
    (tok (assoc (spell e) _ z (finishes e room _ _ (omega arith) (stops_closed es (kind.Symbol symbol.RightParen) z 4 (omega arith) (omega arith)) (assoc (spell es) _ z (finishes es room _ _ (omega arith) (omega arith) (tok r))))))
finishes (comma_then_argument e) room ps z n s r = prod refl (tok (finishes e room ps z n s r))
finishes (runs a c) room ps z n s r = prod refl (assoc (spell a) (spell c) z (finishes a room _ _ (omega arith) (stops_items c z 8 (omega arith) s) (finishes c room ps z (omega arith) s r)))
finishes (semicolon_then_statement t) room ps z n s r = prod refl (tok (finishes t room ps z n s r))
finishes (elsif_branch c t) room ps z n s r = prod refl (tok (assoc (spell c) _ z (finishes c room _ _ (omega arith) (omega arith) (tok (finishes t room ps z (omega arith) s r)))))
finishes (else_branch t) room ps z n s r = prod refl (tok (finishes t room ps z n s r))
finishes (listed x others) room ps z n s r = prod refl (nam (finishes others room ps z (omega (arith, nameless others)) s r))
finishes (comma_then_name x) room ps z n s r = prod refl (tok (nam r))
finishes (named_type x) room ps z n s r = prod refl (nam r)
finishes (array_type c t) zero ps z n s r = absurd (omega arith)
finishes (array_type c t) (suc inner) ps z n s r = prod refl (tok (assoc (spell c) _ z (finishes c inner _ _ (omega arith) (omega arith) (tok (finishes t inner ps z (omega arith) s r)))))
finishes (record_type f fs) zero ps z n s r = absurd (omega arith)
finishes (record_type f fs) (suc inner) ps z n s r =
    prod refl (tok (assoc (spell f) _ z (finishes f inner _ _ (omega arith) (stops_closed fs (kind.ReservedWord reserved.End) z 7 (omega arith) (omega arith)) (assoc (spell fs) _ z (finishes fs inner _ _ (omega arith) (omega arith) (tok r))))))
finishes no_fields room ps z n s r = prod {qs = []} (no_field room z s) r
finishes (some_fields ns t) room ps z n s r =
    prod (chosen_fields room ns _ (append_assoc (spell ns) _ z)) (assoc (spell ns) _ z (finishes ns 0 _ _ (unnested ns) (omega arith) (tok (finishes t room ps z n (stops_less z 0 7 (omega arith) s) r))))
finishes (semicolon_then_fields f) room ps z n s r = prod refl (tok (finishes f room ps z n s r))
finishes no_formals room ps z n s r = prod refl (tok (tok r))
finishes (some_formals f fs) room ps z n s r =
    prod (ap (λ b. if b then parts (symbol_part symbol.LeftParen ∷ nonterminal section room ∷ nonterminal (items section_after_semicolon) room ∷ symbol_part symbol.RightParen ∷ []) else parts (symbol_part symbol.LeftParen ∷ symbol_part symbol.RightParen ∷ [])) (ap is_parameter_section_next (append_assoc (spell f) _ z) ∙ section_next f _))
    (tok (assoc (spell f) _ z (finishes f room _ _ (omega arith) (stops_closed fs (kind.Symbol symbol.RightParen) z 0 (omega arith) (omega arith)) (assoc (spell fs) _ z (finishes fs room _ _ (omega arith) (omega arith) (tok r))))))
finishes (value_section ns t) room ps z n s r =
    prod (chosen_typed room ns _ (append_assoc (spell ns) _ z)) (assoc (spell ns) _ z (finishes ns 0 _ _ (unnested ns) (omega arith) (tok (finishes t room ps z n s r))))
finishes (variable_section ns t) room ps z n s r = prod refl (tok (assoc (spell ns) _ z (finishes ns 0 _ _ (unnested ns) (omega arith) (tok (finishes t room ps z n s r)))))
finishes (semicolon_then_section f) room ps z n s r = prod refl (tok (finishes f room ps z n s r))
finishes (declares_constant x e) room ps z n s r = prod refl (nam (tok (assoc (spell e) _ z (finishes e room _ _ n (omega arith) (tok r)))))
finishes (declares_const_section cs) room ps z n s r = prod refl (tok (finishes cs room ps z n s r))
finishes (declares_type x t) room ps z n s r = prod refl (nam (tok (assoc (spell t) _ z (finishes t room _ _ n (omega arith) (tok r)))))
finishes (declares_type_section ts) room ps z n s r = prod refl (tok (finishes ts room ps z n s r))
finishes (declares_variable ns t) room ps z n s r = prod refl (assoc (spell ns) _ z (finishes ns 0 _ _ (unnested ns) (omega arith) (tok (assoc (spell t) _ z (finishes t room _ _ n (omega arith) (tok r))))))
finishes (declares_var_section vs) room ps z n s r = prod refl (tok (finishes vs room ps z n s r))
finishes (declares_procedure x fs b y) zero ps z n s r = absurd (omega arith)
finishes (declares_procedure x fs b y) (suc inner) ps z n s r =
    prod refl (tok (nam (assoc (spell fs) _ z (finishes fs inner _ _ (omega arith) (omega arith) (tok (assoc (spell b) _ z (finishes b inner _ _ (omega arith) (omega arith) (tok (nam (tok r))))))))))
finishes (declares cs ds vs us) room ps z n s r =
    let s3 = stops_items us z 14 (omega arith) s in
    let s2 = stops_maybe vs (spell us ++ z) 13 (omega arith) s3 in
    let s1 = stops_maybe ds (spell vs ++ (spell us ++ z)) 12 (omega arith) s2 in
    prod refl (listed_as (long (spell cs) (spell ds) (spell vs) (spell us) z)
    (finishes cs room _ _ (omega arith) s1 (finishes ds room _ _ (omega arith) s2 (finishes vs room _ _ (omega arith) s3 (finishes us room ps z (omega arith) s r)))))
  where
    long : {A : Type 0} (a b c d z : List A) → (a ++ (b ++ (c ++ d))) ++ z ≡ a ++ (b ++ (c ++ (d ++ z)))
    long a b c d z = simp append_assoc
finishes (begins t) room ps z n s r = prod refl (tok (finishes t room ps z n s r))
finishes (forms_block ds b) room ps z n s r = prod refl (assoc (spell ds) (spell b) z (finishes ds room _ _ (omega arith) (stops_maybe b z 15 (omega arith) s) (finishes b room ps z (omega arith) s r)))
finishes (forms_module x b y) room ps z n s r = prod refl (tok (nam (tok (assoc (spell b) _ z (finishes b room _ _ n (omega arith) (tok (nam (tok r))))))))
