-- Proves that a tree whose leaves were shifted spells the tokens at its new place.
use Rattle.std.proofs.Common.{◌≡◌, ℕ, ◌+◌, ◌-◌, ◌^◌, ◌≤◌, List, map, length, ◌∙◌, ap, arith, slice_range}
use Rattle.ob0_scan.specs.declared.lexeme.TokenKind.{TokenKind}
use Rattle.ob0_scan.specs.declared.lexeme.Token.{Token}
use Rattle.ob0_scan.specs.ReusedLexemes.{token_kinds_without_values}
use Rattle.ob0_tree.specs.Terminals.{mapped_terminal}
use Rattle.ob0_tree.specs.Tree.{Sort, Tree, spell, nesting}
use Rattle.ob0_tree.proofs.Mapped.{spell_mapped, nesting_mapped}
use Rattle.ob0_parse.specs.KeptTreeTokens.{ShiftedTreeMatchesTokens, TreeMatchesTokens}
use Rattle.ob0_parse.specs.ShiftedTrees.{tree_with_shifted_leaves, shifted_leaf}
use Rattle.ob0_parse.specs.declared.leaf_shifts.TokenIndexShift.{TokenIndexShift}
use Rattle.ob0_parse.proofs.Keeping.{count_slice}
use Rattle.ob0_parse.proofs.TerminalsOfKinds.{moved_terminals}

-- The largest index.
abbrev most : ℕ
most = 2 ^ 64 - 1

-- If the leaves of a tree are moved as far as its tokens, the tree is in place.
pub moved_tree_fits : {s : Sort} (ts : List Token) (next : ℕ) (t u : Tree ℕ s) (by : TokenIndexShift) → next ≤ most → u ≡ tree_with_shifted_leaves by t → ShiftedTreeMatchesTokens ts by.from by.to next t → TreeMatchesTokens ts by.to next u
moved_tree_fits ts next t u by inside is p =
    let ks : List TokenKind = slice_range (token_kinds_without_values ts) by.to next in
    let count : by.to + length ks ≡ next = omega (arith, p.forward, count_slice ts by.to next (omega (arith, p.forward)) p.within) in
    record {
      spelled = ap spell is ∙ spell_mapped (shifted_leaf by) (shifted_leaf by) t ∙ ap (map (mapped_terminal (shifted_leaf by) (shifted_leaf by))) p.spelled
          ∙ moved_terminals (shifted_leaf by) by.from by.to ks (λ d less. omega (arith, count, inside, less));
      shallow = omega (arith, ap nesting is, nesting_mapped (shifted_leaf by) (shifted_leaf by) t, p.shallow);
      forward = p.forward;
      within = p.within;
    }
