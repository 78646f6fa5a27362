use Rattle.std.proofs.Common.{◌≤◌, ap, ◌∙◌, subst}
use Rattle.ob0_tree.specs.CappedDepth.{capped_to_u32}
use Rattle.ob0_tree.specs.Tree.{nesting}
use Rattle.ob0_tree.specs.View.{block_of}
use Rattle.ob0_tree.specs.ParsedModule.{tree_of}
use Rattle.ob0_tree.specs.TokenIndexLeaves.{token_text_at, token_value_at}
use Rattle.ob0_tree.proofs.Mapped.{nesting_mapped}
use Rattle.ob0_tree.proofs.Deepest.{not_capped}
use Rattle.ob0_tree.proofs.tree.Module.nesting.Goals as goal

pub returns : goal.returns
returns c =
    let m = c.args.self.now in
    let shallow = subst (λ n. n ≤ 100) (nesting_mapped (token_text_at m.source) (token_value_at m.source) (tree_of m)) c.tokens-parsed.ensures.parsed.module_of.shallow in
    not_capped c.block_nesting.result (nesting (block_of m.block)) shallow (c.block_nesting.ensures ∙ ap (λ b. capped_to_u32 (nesting (block_of b))) c.block.ensures)
