use Rattle.std.proofs.Common.{◌++◌, refl, sym, ap, ◌∙◌}
use Rattle.std.specs.Option.{option_or}
use Rattle.ob0_tree.specs.declared.tree.Block.{out-Block}
use Rattle.ob0_tree.specs.View.{items_of, procedure_of}
use Rattle.ob0_tree.proofs.Viewed.{block_parts}
use Rattle.ob0_language_names.specs.ConsistentNames.{names_declared_in_block}
use Rattle.ob0_scope.specs.NamesakeSearches.{namesake_in_block, namesake_in_procedure_list, namesake_among}
use Rattle.ob0_scope.proofs.Finding.{all_found}
use Rattle.ob0_scope.proofs.name_conflicts.NamesakeSearch.+blocks.Goals as goal

pub find_namesake_in_block-returns : goal.find_namesake_in_block-returns
find_namesake_in_block-returns t c =
    let s = c.args.self.now in
    let own = c.args.own.items in
    let procedures = items_of procedure_of (out-Block c.args.b.now).procedures.items in
    let walked = all_found (λ xs. namesake_in_procedure_list s (items_of procedure_of xs)) refl c.loop-p.invariant c.loop-p-test.false
    ∙ ap (λ xs. option_or c.find_namesake_among-found.result (namesake_in_procedure_list s (items_of procedure_of xs))) c.deref-p-items.ensures.value in
    let here = c.find_namesake_among-found.ensures ∙ (ap (namesake_among s) (c.deref.ensures.value ∙ c.in_ok-append_block_names.ensures) ∙ ap (λ t. namesake_among s (own ++ names_declared_in_block t)) (block_parts c.args.b.now)) in
    walked ∙ (ap (λ o. option_or o (namesake_in_procedure_list s procedures)) here ∙ sym (ap (namesake_in_block s own) (block_parts c.args.b.now)))
