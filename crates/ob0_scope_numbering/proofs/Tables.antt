-- Proves that a table into which marks at ascending tokens were entered has each mark's ordinal at
-- its token.
use Rattle.std.proofs.Common.{◌≡◌, ◌≢◌, ◌==◌, ℕ, ◌+◌, ◌<◌, ◌≤◌, Bool, true, false, Option, None, List, [], ◌∷◌, length, replicate, set, refl, sym, ◌∙◌, subst, arith, get_or-set_other, get_or-set_same, ap, le_refl}
use Rattle.std.proofs.Math.Dec.{ltb}
use Rattle.std.proofs.lemmas.Bool.{eqb-false, ltb-false, ltb-true, or_parts}
use Rattle.std.proofs.lemmas.List.{get_or-replicate, get_or_past, length-replicate}
use Rattle.std.specs.List.{list_any}
use Rattle.std.proofs.Math.ListN.{length-set}
use Rattle.ob0_tree.specs.IdentifierIndexes.{AreAscendingWithin}
use Rattle.ob0_tree.specs.ParsedModule.{TreeMatchesText, ParsedModule, tree_of}
use Rattle.ob0_tree.proofs.Leaves.{ascending_bounds, leaves_ascend}
use Rattle.ob0_scope_numbering.specs.MarkWalk.{WalkState, initial_walk_state}
use Rattle.ob0_scope_numbering.specs.IdentifierWalk.{visit_module}
use Rattle.ob0_scope_numbering.specs.OrdinalMarks.{OrdinalMark, table_with_marks}
use Rattle.ob0_scope_numbering.specs.IdentifierSpellings.{Spellings}
use Rattle.ob0_language_names.specs.Names.{naming_by_spelling}
use Rattle.ob0_language_names.specs.Scopes.{label_from_ordinal}
use Rattle.ob0_scope_table.specs.Resolution.{ordinal_in}
use Rattle.ob0_scope_numbering.proofs.Passing.{HasMarks, at_start, module_passed, tokens_of}

-- Entering marks doesn't change the entries at smaller tokens.
pub kept_below : (ms : List OrdinalMark) (table : List (Option ℕ)) (low high i : ℕ) → AreAscendingWithin low (tokens_of ms) high → i < low → ordinal_in (table_with_marks table ms) i ≡ ordinal_in table i
kept_below [] table low high i ascend below = refl
kept_below (m ∷ ms) table low high i ascend below =
    let above : i < m.token + 1 = omega (arith, ascend.0) in
    let other : i ≢ m.token = omega (arith, ascend.0) in
    kept_below ms (set table m.token m.ordinal) (m.token + 1) high i ascend.1 above ∙ get_or-set_other table m.token i m.ordinal None other

pub marks_are_there : (ms : List OrdinalMark) (table : List (Option ℕ)) (low high : ℕ) → AreAscendingWithin low (tokens_of ms) high → high ≤ length table → HasMarks (ordinal_in (table_with_marks table ms)) ms
marks_are_there [] table low high ascend within = tt
marks_are_there (m ∷ ms) table low high ascend within =
    let next : List (Option ℕ) = set table m.token m.ordinal in
    let here : m.token < m.token + 1 = omega arith in
    let last = ascending_bounds (m.token + 1) (tokens_of ms) high ascend.1 in
    let inside : m.token < length table = omega (arith, last, within) in
    let still : high ≤ length next = subst (λ n. high ≤ n) (sym (length-set table m.token m.ordinal)) within in
    (kept_below ms next (m.token + 1) high m.token ascend.1 here ∙ get_or-set_same table m.token m.ordinal None inside, marks_are_there ms next (m.token + 1) high ascend.1 still)

-- Entering marks doesn't change an entry that isn't at any mark's token.
pub kept_elsewhere : (ms : List OrdinalMark) (table : List (Option ℕ)) (i : ℕ) → list_any (λ j. j == i) (tokens_of ms) ≡ false → ordinal_in (table_with_marks table ms) i ≡ ordinal_in table i
kept_elsewhere [] table i e = refl
kept_elsewhere (m ∷ ms) table i e =
    let h = or_parts (m.token == i) (list_any (λ j. j == i) (tokens_of ms)) e in
    let other : i ≢ m.token = λ same. eqb-false m.token i h.0 (sym same) in
    kept_elsewhere ms (set table m.token m.ordinal) i h.1 ∙ get_or-set_other table m.token i m.ordinal None other

-- An empty table has no ordinal at any token.
pub none_at : (n i : ℕ) → ordinal_in (replicate n None) i ≡ None
none_at n i = at (ltb i n) refl
  where
    nothing : List (Option ℕ)
    nothing = replicate n None

    at : (b : Bool) → ltb i n ≡ b → ordinal_in nothing i ≡ None
    at true e = get_or-replicate n i None None (ltb-true i n e)
    at false e = get_or_past nothing i None (subst (λ k. k ≤ i) (sym (length-replicate n None)) (ltb-false i n e))

-- The table of all marks has each mark at its token.
pub marks_in_table : (m : ParsedModule) (w : Spellings) (v : WalkState) (ordinals : List (Option ℕ)) → TreeMatchesText m → v ≡ visit_module (tree_of m) (initial_walk_state w)
    → ordinals ≡ table_with_marks (replicate (length m.source.tokens) None) v.marks → HasMarks (ordinal_in ordinals) (visit_module (tree_of m) (initial_walk_state w)).marks
marks_in_table m w v ordinals parsed gone state_with_marks_in_table =
    let marks = (visit_module (tree_of m) (initial_walk_state w)).marks in
    let count = length-replicate (length m.source.tokens) (let nothing : Option ℕ = None in nothing) in
    let passed = module_passed (ordinal_in ordinals) (label_from_ordinal naming_by_spelling) w (tree_of m) (initial_walk_state w) (at_start w) in
    let table : ordinals ≡ table_with_marks (replicate (length m.source.tokens) None) marks = state_with_marks_in_table ∙ ap (λ (v : WalkState). table_with_marks (replicate (length m.source.tokens) None) v.marks) gone in
    let ascend = subst (λ ts. AreAscendingWithin 0 ts (length m.source.tokens)) (sym passed.tokens) (leaves_ascend m parsed) in
    let are_there = marks_are_there marks (replicate (length m.source.tokens) None) 0 (length m.source.tokens) ascend (subst (λ n. length m.source.tokens ≤ n) (sym count) (le_refl (length m.source.tokens))) in
    subst (λ (os : List (Option ℕ)). HasMarks (ordinal_in os) marks) (sym table) are_there
