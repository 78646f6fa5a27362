use Rattle.ob0_tree.specs.View.{procedure_of}
use Rattle.ob0_layout.proofs.Walks.{Walking}
use Rattle.ob0_layout.proofs.token_line_roles.+blocks.Given as goal

abbrev pub invariant-add_block_roles-loop-p : goal.invariant-add_block_roles-loop-p
invariant-add_block_roles-loop-p l = Walking procedure_of l.level l.initial.out.items l.p-items l.p-index l.out.items
