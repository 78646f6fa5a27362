-- Proves which tokens are in a tree's range, given the remaining tokens of the text at the start
-- and at the end of the range.
use Rattle.std.proofs.Common.{◌≡◌, ℕ, ◌+◌, ◌-◌, ◌<◌, ◌≤◌, List, [], ◌∷◌, ◌++◌, take, drop, length, refl, sym, ◌∙◌, ap, arith, append_assoc, length-append, length-drop, slice_range}
use Rattle.std.proofs.lemmas.List.{append_cancel_right, drop-append-le, drop-drop, drop_at, length-map, length-take-le, take-append-drop}
use Rattle.ob0_scan.specs.declared.lexeme.TokenKind.{TokenKind}
use Rattle.ob0_scan.specs.declared.lexeme.TokenKind.TheVariants as kind
use Rattle.ob0_scan.specs.declared.lexeme.Symbol.TheVariants as symbol
use Rattle.ob0_scan.specs.declared.lexeme.ReservedWord.TheVariants as reserved
use Rattle.ob0_scan.specs.declared.lexeme.Token.{Token}
use Rattle.ob0_scan.specs.ReusedLexemes.{kind_without_value, token_kinds_without_values}
use Rattle.ob0_tree.specs.declared.tree.Procedure.{Procedure, out-Procedure}
use Rattle.ob0_tree.specs.Terminals.{Terminal, Name, WordOrSymbol, EndOfText}
use Rattle.ob0_tree.specs.Module.{max_nesting}
use Rattle.ob0_tree.specs.TokenIndexLeaves.{indexed_terminals_from, indexed_terminals}
use Rattle.ob0_tree.specs.Tree.{procedure, Sort, item, Tree, spell, nesting}
use Rattle.ob0_tree.specs.View.{procedure_of, formals_of, block_of}
use Rattle.ob0_tree.proofs.Viewed.{procedure_parts}
use Rattle.ob0_parse_descent.specs.ParserPromises.{remaining_terminals}
use Rattle.ob0_parse.specs.KeptTreeTokens.{indexed_terminals_of_kinds, TreeMatchesTokens}
use Rattle.ob0_parse.proofs.TerminalsOfKinds.{drop_terminals, first_name, length_terminals, take_terminals, terminals_of_tokens}

-- ---- the remaining tokens

count_lexemes : (i : ℕ) (ts : List Token) → length (indexed_terminals_from i ts) ≡ length ts + 1
count_lexemes i [] = refl
count_lexemes i (t ∷ ts) = let h = count_lexemes (i + 1) ts in omega (arith, h)

pub count_rest : (ts : List Token) (at : ℕ) → length (remaining_terminals ts at) ≡ length ts + 1 - at
unfolding remaining_terminals
count_rest ts at = length-drop at (indexed_terminals ts) ∙ ap (λ n. n - at) (count_lexemes 0 ts)

-- If the remaining tokens begin with w, z are the tokens that remain after w.
pub rest_following : (ts : List Token) (at : ℕ) (w z : List (Terminal ℕ)) → remaining_terminals ts at ≡ w ++ z → remaining_terminals ts (at + length w) ≡ z
unfolding remaining_terminals
rest_following ts at w z e = sym (drop-drop (length w) at (indexed_terminals ts)) ∙ ap (drop (length w)) e ∙ drop_at w z (length w) refl

rest_by_kinds : (ts : List Token) (at : ℕ) → at ≤ length ts → remaining_terminals ts at ≡ indexed_terminals_of_kinds at (drop at (token_kinds_without_values ts)) ++ (EndOfText ∷ [])
unfolding remaining_terminals
rest_by_kinds ts at inside =
    let count : length (indexed_terminals_of_kinds 0 (token_kinds_without_values ts)) ≡ length ts = length_terminals 0 (token_kinds_without_values ts) ∙ length-map ts (λ (t : Token). kind_without_value t.kind) in
    ap (drop at) (terminals_of_tokens 0 ts) ∙ drop-append-le at (indexed_terminals_of_kinds 0 (token_kinds_without_values ts)) (EndOfText ∷ []) (omega (arith, inside, count))
    ∙ ap (λ l. l ++ (EndOfText ∷ [])) (drop_terminals at 0 at (token_kinds_without_values ts) (omega arith))

pub rest_pieces : (ts : List Token) (at next : ℕ) → at ≤ next → next ≤ length ts → remaining_terminals ts at ≡ indexed_terminals_of_kinds at (slice_range (token_kinds_without_values ts) at next) ++ remaining_terminals ts next
rest_pieces ts at next h within =
    let n : ℕ = next - at in
    let ks : List TokenKind = drop at (token_kinds_without_values ts) in
    let there : at + n ≡ next = omega (arith, h) in
    let after : drop n ks ≡ drop next (token_kinds_without_values ts) = drop-drop n at (token_kinds_without_values ts) ∙ ap (λ i. drop i (token_kinds_without_values ts)) there in
    rest_by_kinds ts at (omega (arith, h, within))
    ∙ ap (λ l. l ++ (EndOfText ∷ [])) (sym (take-append-drop n (indexed_terminals_of_kinds at ks)) ∙ ap (λ l. l ++ drop n (indexed_terminals_of_kinds at ks)) (take_terminals n at ks)
    ∙ ap (λ l. indexed_terminals_of_kinds at (take n ks) ++ l) (drop_terminals n at next ks there ∙ ap (indexed_terminals_of_kinds next) after))
    ∙ append_assoc (indexed_terminals_of_kinds at (take n ks)) (indexed_terminals_of_kinds next (drop next (token_kinds_without_values ts))) (EndOfText ∷ [])
    ∙ ap (λ l. indexed_terminals_of_kinds at (take n ks) ++ l) (sym (rest_by_kinds ts next within))

pub count_slice : (ts : List Token) (at next : ℕ) → at ≤ next → next ≤ length ts → length (slice_range (token_kinds_without_values ts) at next) ≡ next - at
count_slice ts at next h within =
    let all : length (token_kinds_without_values ts) ≡ length ts = length-map ts (λ (t : Token). kind_without_value t.kind) in
    let left : length (drop at (token_kinds_without_values ts)) ≡ length (token_kinds_without_values ts) - at = length-drop at (token_kinds_without_values ts) in
    length-take-le (next - at) (drop at (token_kinds_without_values ts)) (omega (arith, all, left, h, within))

-- If the remaining tokens begin with the tokens of a tree, the tree is in place.
pub kept_there : {s : Sort} (ts : List Token) (at next : ℕ) (t : Tree ℕ s) → remaining_terminals ts at ≡ spell t ++ remaining_terminals ts next → nesting t ≤ max_nesting → 0 < length (spell t) → next ≤ length ts → TreeMatchesTokens ts at next t
kept_there ts at next t spelled shallow some within =
    let count : length (remaining_terminals ts at) ≡ length (spell t) + length (remaining_terminals ts next) = ap (λ (w : List (Terminal ℕ)). length w) spelled ∙ length-append (spell t) (remaining_terminals ts next) in
    let forward : at < next = omega (arith, count, count_rest ts at, count_rest ts next, some, within) in
    record {
      spelled = append_cancel_right (spell t) (indexed_terminals_of_kinds at (slice_range (token_kinds_without_values ts) at next)) (remaining_terminals ts next) (sym spelled ∙ rest_pieces ts at next (omega (arith, forward)) within);
      shallow = shallow;
      forward = forward;
      within = within;
    }

-- If a name remains first, it is the index of its token.
pub name_at : (ts : List Token) (at n : ℕ) (z : List (Terminal ℕ)) → at ≤ length ts → remaining_terminals ts at ≡ Name n ∷ z → n ≡ at
name_at ts at n z inside e = first_name at n (drop at (token_kinds_without_values ts)) z (sym (rest_by_kinds ts at inside) ∙ e)

-- The leaves of a procedure give its range.
pub placed : (ts : List Token) (at next : ℕ) (p : Procedure) → remaining_terminals ts at ≡ spell (procedure_of p) ++ remaining_terminals ts next → next ≤ length ts → ((out-Procedure p).name ≡ at + 1) × ((out-Procedure p).closing + 2 ≡ next)
placed ts at next p spelled within =
    let o = out-Procedure p in
    let semicolon : Terminal ℕ = WordOrSymbol (kind.Symbol symbol.Semicolon) in
    let last : List (Terminal ℕ) = WordOrSymbol (kind.ReservedWord reserved.End) ∷ [] in
    let ended : List (Terminal ℕ) = Name o.closing ∷ semicolon ∷ [] in
    let fs = spell (formals_of o.formals) in
    let b = spell (block_of o.block) in
    let begun : List (Terminal ℕ) = WordOrSymbol (kind.ReservedWord reserved.Procedure) ∷ Name o.name ∷ (fs ++ (semicolon ∷ (b ++ last))) in
    let cut : spell (procedure_of p) ≡ begun ++ ended =
    ap (λ (t : Tree ℕ (item procedure)). spell t) (procedure_parts p)
    ∙ ap (λ w. WordOrSymbol (kind.ReservedWord reserved.Procedure) ∷ Name o.name ∷ w)
    (ap (λ w. fs ++ (semicolon ∷ w)) (sym (append_assoc b last ended)) ∙ sym (append_assoc fs (semicolon ∷ (b ++ last)) ended)) in
    let whole : remaining_terminals ts at ≡ begun ++ (ended ++ remaining_terminals ts next) = spelled ∙ ap (λ w. w ++ remaining_terminals ts next) cut ∙ append_assoc begun ended (remaining_terminals ts next) in
    let count : length (remaining_terminals ts at) ≡ length begun + (2 + length (remaining_terminals ts next)) = ap (λ (w : List (Terminal ℕ)). length w) whole ∙ length-append begun (ended ++ remaining_terminals ts next) ∙ omega arith in
    let last_place : at + length begun + 2 ≡ next = omega (arith, count, count_rest ts at, count_rest ts next, within) in (
      name_at ts (at + 1) o.name _ (omega (arith, last_place, within)) (rest_following ts at (WordOrSymbol (kind.ReservedWord reserved.Procedure) ∷ []) _ whole),
      ap (λ i. i + 2) (name_at ts (at + length begun) o.closing _ (omega (arith, last_place, within)) (rest_following ts at begun _ whole)) ∙ last_place,
    )
