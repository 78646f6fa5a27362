use Rattle.std.proofs.Common.{◌≡◌, ◌++◌, ℕ, List, sym, ap, ◌∙◌}
use Rattle.ob0_tree.specs.ParsedModule.{tree_of}
use Rattle.ob0_tree.specs.View.{block_of, body_of}
use Rattle.ob0_tree.specs.declared.tree.Block.{Block}
use Rattle.ob0_scope_table.specs.BodyReplacement.{body_at_path, body_at_path_in_block, closing_name_at_path, closing_name_at_path_in_block, path_to_body_in_block, path_to_body_in_module}
use Rattle.ob0_scope.specs.BindingsOutsideBody.{ordinals_in_changed_text}
use Rattle.ob0_scope.specs.NamesVisibleInBody.{names_visible_at_path, names_visible_at_path_in_block}
use Rattle.ob0_scope.proofs.body_rebinding.rebind_replaced_body.Goals as goal

pub rebind_body_range-requires : goal.rebind_body_range-requires
rebind_body_range-requires c =
    let t = tree_of c.args.read.now in
    let low = c.args.same.prefix in
    let found = c.in_ok-found.found in
    let statements : body_of found.statements.now ≡ body_at_path (path_to_body_in_module low t) t = c.in_ok-found.ensures.statements ∙ ap (λ (b : Block). body_at_path_in_block (path_to_body_in_block low (block_of b)) (block_of b)) c.block.ensures in
    let closed : found.closing ≡ closing_name_at_path (path_to_body_in_module low t) t = c.in_ok-found.ensures.closing ∙ (λ i. closing_name_at_path_in_block (path_to_body_in_block low (block_of (c.block.ensures i))) (c.closing_name.ensures i) (block_of (c.block.ensures i))) in
    let names : c.find_body_in_block.new.names.items ≡ names_visible_at_path (path_to_body_in_module low t) t =
    c.in_ok-found.ensures.names
    ∙ (ap (λ (is : List ℕ). is ++ names_visible_at_path_in_block (path_to_body_in_block low (block_of c.block.result.now)) (block_of c.block.result.now)) c.new-names.ensures.items
    ∙ ap (λ (b : Block). names_visible_at_path_in_block (path_to_body_in_block low (block_of b)) (block_of b)) c.block.ensures) in
    record {
      same = c.args.same;
      was_bound = c.requires;
      table_is = c.in_ok-table.ensures ∙ ap (ordinals_in_changed_text c.args.same) c.deref.ensures.value;
      first = sym c.first_identifier.ensures ∙ c.in-Some.is;
      closing = closed;
      old_closing = c.old_closing_token.ensures;
      names_are = c.deref-2.ensures.value ∙ names;
      statements_are = statements;
    }
