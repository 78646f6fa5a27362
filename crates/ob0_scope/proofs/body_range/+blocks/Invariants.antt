use Rattle.std.proofs.Common.{◌≡◌}
use Rattle.ob0_tree.specs.View.{body_of, items_of, procedure_of}
use Rattle.ob0_tree.specs.declared.tree.Block.{out-Block}
use Rattle.ob0_scope.proofs.Bodies.{from_procedures, place_left}
use Rattle.ob0_scope.proofs.body_range.+blocks.Given as goal

abbrev pub invariant-find_body_in_block-loop-p : goal.invariant-find_body_in_block-loop-p
invariant-find_body_in_block-loop-p l =
    place_left l.low l.own (body_of (out-Block l.inner).body) l.p-index l.p-items l.names.items
    ≡ from_procedures l.low l.own (items_of procedure_of l.p-items) (body_of (out-Block l.inner).body) l.initial.names.items
