use Rattle.std.proofs.Common.{◌∙◌, sym, arith}
use Rattle.ob0_tree.specs.View.{body_of}
use Rattle.ob0_scope_table.proofs.BodyPlaces.{placed_after, placed_from, placed_none}
use Rattle.ob0_scope_table.proofs.one_body.body_bounds_of_statements.Goals as goal
