use Rattle.std.proofs.Common.{◌≡◌, drop}
use Rattle.ob0_tree.specs.View.{body_of, items_of, procedure_of}
use Rattle.ob0_tree.specs.declared.tree.Block.{out-Block}
use Rattle.ob0_types.specs.OneBody.{body_with_token_in_procedures}
use Rattle.ob0_types.proofs.one_body.+blocks.Given as goal

abbrev pub invariant-body_with_token_in_block-loop-p : goal.invariant-body_with_token_in_block-loop-p
invariant-body_with_token_in_block-loop-p l =
    body_with_token_in_procedures l.token (items_of procedure_of (drop l.p-index l.p-items)) (body_of (out-Block l.b).body)
    ≡ body_with_token_in_procedures l.token (items_of procedure_of l.p-items) (body_of (out-Block l.b).body)
