use Rattle.std.proofs.Common.{◌∙◌}
use Rattle.std.proofs.lemmas.Result.{MatchResult-weaker}
use Rattle.ob0_tree.specs.View.{block_of}
use Rattle.ob0_scope.specs.NamesakeSearches.{namesake_in_block}
use Rattle.ob0_scope.proofs.Searched.{namesake_found}
use Rattle.ob0_scope.proofs.name_conflicts.namesake_ordinal.Goals as goal

pub returns : goal.returns
returns c =
    let r = c.args.names.now in
    let ordinals = c.ordinals.ensures in
    let block = c.block.ensures ∙ (λ i. (c.module.ensures.value i).block) in
    let searched = (λ i. namesake_in_block (record { source = c.tokens.ensures i; ordinals = ordinals i; declaration = c.args.declaration; new = c.args.new.now }) (c.new.ensures.items i) (block_of (block i)))
    ∙ namesake_found r c.args.declaration c.args.new.now c.module.ensures.resolved in
    MatchResult-weaker c.find_namesake_in_block.result c.find_namesake_in_block.ensures (λ other e. e ∙ searched) (λ y h. h)
