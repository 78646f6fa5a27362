use Rattle.std.proofs.Common.{◌≡◌, drop}
use Rattle.ob0_tree.specs.View.{body_of, items_of, procedure_of}
use Rattle.ob0_tree.specs.declared.tree.Block.{out-Block}
use Rattle.ob0_scope_table.proofs.BodyPlaces.{place_among}
use Rattle.ob0_scope_table.proofs.one_body.+places.Given as goal

abbrev pub invariant-body_bounds_in_block-loop-p : goal.invariant-body_bounds_in_block-loop-p
invariant-body_bounds_in_block-loop-p l =
    place_among l.low l.high l.closing (items_of procedure_of (drop l.p-index l.p-items)) (body_of (out-Block l.b).body)
    ≡ place_among l.low l.high l.closing (items_of procedure_of l.p-items) (body_of (out-Block l.b).body)
